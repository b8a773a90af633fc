-- The rules of processes.
use Rattle.std.proofs.Common.{ℕ, zero, suc, List, [], codes}
use Rattle.rtlil_lexer.specs.declared.fault.TextFaultKind.TheVariants as fault
use Rattle.rtlil_tree.specs.declared.place.Place.{Place}
use Rattle.rtlil_tree.specs.declared.sig.Sig.{Sig}
use Rattle.rtlil_tree.specs.declared.module.Assignment.{Assignment}
use Rattle.rtlil_tree.specs.declared.process.Action.{Action}
use Rattle.rtlil_tree.specs.declared.process.Switch.{Switch}
use Rattle.rtlil_tree.specs.declared.process.Case.{Case}
use Rattle.rtlil_tree.specs.declared.process.Trigger.{Trigger}
use Rattle.rtlil_tree.specs.declared.process.Sync.{Sync}
use Rattle.rtlil_tree.specs.Input.{Rule, next, sees_word}
use Rattle.rtlil_tree.specs.Processes.{body_part, body, further, sigs_from, compare, case, switch_part, cases, switch_with, switch_within, deepest, trigger, sync_line, updates, sync, sync_part, syncs, process}
use Rattle.rtlil_names.proofs.Named.{Reads, Keeps, next_named, then_keeps, if_keeps, on_keeps, word_keeps, pure_keeps, refuse_keeps, fail_keeps, more_keeps, stop_keeps, many_keeps, up_to_end_keeps}
use Rattle.rtlil_names.proofs.Tokens.{identifier_keeps, expect_keeps, expect_word_keeps}
use Rattle.rtlil_names.proofs.Sigs.{sig_keeps}
use Rattle.rtlil_names.proofs.Statements.{line_keeps, attribute_keeps, assignment_keeps}

-- ---- bodies and switches, with the rule of a switch from its word on

body_part_keeps : (switch : Rule Switch) → Keeps switch → (found : List Action) → Keeps (body_part switch found)
unfolding body_part
body_part_keeps switch keeps found =
    on_keeps _ _ _ (more_keeps found) (
    word_keeps _ _ _ (then_keeps _ _ attribute_keeps (λ _. more_keeps found)) (
    word_keeps _ _ _ (then_keeps _ _ assignment_keeps (λ a. more_keeps _)) (
    if_keeps (sees_word (codes "switch")) _ _ (then_keeps _ _ keeps (λ s. more_keeps _)) (stop_keeps found))))

body_keeps : (switch : Rule Switch) → Keeps switch → Keeps (body switch)
unfolding body
body_keeps switch keeps = many_keeps (body_part switch) (body_part_keeps switch keeps) []

further_keeps : (found : List Sig) → Keeps (further found)
unfolding further
further_keeps found = on_keeps _ _ _ (then_keeps _ _ sig_keeps (λ s. more_keeps _)) (stop_keeps found)

sigs_from_keeps : (found : List Sig) → Keeps (sigs_from found)
unfolding sigs_from
sigs_from_keeps found = many_keeps further further_keeps found

compare_keeps : Keeps compare
unfolding compare
compare_keeps =
    on_keeps _ _ _ (pure_keeps _) (
    then_keeps _ _ sig_keeps (λ first.
    then_keeps _ _ (sigs_from_keeps _) (λ all.
    line_keeps _ _)))

case_keeps : (switch : Rule Switch) → Keeps switch → Keeps (case switch)
unfolding case
case_keeps switch keeps =
    then_keeps _ _ compare_keeps (λ fits.
    then_keeps _ _ (body_keeps switch keeps) (λ actions.
    pure_keeps _))

switch_part_keeps : (switch : Rule Switch) → Keeps switch → (found : List Case) → Keeps (switch_part switch found)
unfolding switch_part
switch_part_keeps switch keeps found =
    on_keeps _ _ _ (more_keeps found) (
    word_keeps _ _ _ (then_keeps _ _ attribute_keeps (λ _. more_keeps found)) (
    word_keeps _ _ _ (then_keeps _ _ (case_keeps switch keeps) (λ c. more_keeps _)) (
    word_keeps _ _ _ (then_keeps _ _ (expect_keeps _) (λ _. stop_keeps found)) (
    refuse_keeps _))))

cases_keep : (switch : Rule Switch) → Keeps switch → Keeps (cases switch)
unfolding cases
cases_keep switch keeps = up_to_end_keeps (switch_part switch) (switch_part_keeps switch keeps) []

switch_with_keeps : (inner : Rule Switch) → Keeps inner → Keeps (switch_with inner)
unfolding switch_with
switch_with_keeps inner keeps =
    then_keeps _ _ sig_keeps (λ chosen.
    then_keeps _ _ (expect_keeps _) (λ _.
    then_keeps _ _ (cases_keep inner keeps) (λ found.
    pure_keeps _)))

switch_within_keeps : (depth : ℕ) → Keeps (switch_within depth)
unfolding switch_within Reads
switch_within_keeps zero = fail_keeps Switch fault.Nesting
switch_within_keeps (suc depth) = λ i named. switch_with_keeps (switch_within depth) (switch_within_keeps depth) (next i) (next_named i named)

-- ---- syncs

trigger_keeps : Keeps trigger
unfolding trigger
trigger_keeps =
    word_keeps _ _ _ (pure_keeps _) (
    word_keeps _ _ _ (pure_keeps _) (
    word_keeps _ _ _ (then_keeps _ _ sig_keeps (λ s. pure_keeps _)) (
    word_keeps _ _ _ (then_keeps _ _ sig_keeps (λ s. pure_keeps _)) (
    word_keeps _ _ _ (then_keeps _ _ sig_keeps (λ s. pure_keeps _)) (
    word_keeps _ _ _ (then_keeps _ _ sig_keeps (λ s. pure_keeps _)) (
    word_keeps _ _ _ (then_keeps _ _ sig_keeps (λ s. pure_keeps _)) (
    if_keeps (sees_word (codes "global")) _ _ (fail_keeps Trigger fault.Process) (refuse_keeps Trigger))))))))

sync_line_keeps : (found : List Assignment) → Keeps (sync_line found)
unfolding sync_line
sync_line_keeps found =
    on_keeps _ _ _ (more_keeps found) (
    word_keeps _ _ _ (then_keeps _ _ assignment_keeps (λ a. more_keeps _)) (
    if_keeps (sees_word (codes "memwr")) _ _ (fail_keeps _ fault.Process) (stop_keeps found)))

updates_keep : Keeps updates
unfolding updates
updates_keep = many_keeps sync_line sync_line_keeps []

sync_keeps : Keeps sync
unfolding sync
sync_keeps =
    then_keeps _ _ trigger_keeps (λ at.
    then_keeps _ _ (expect_keeps _) (λ _.
    then_keeps _ _ updates_keep (λ lines.
    pure_keeps _)))

sync_part_keeps : (found : List Sync) → Keeps (sync_part found)
unfolding sync_part
sync_part_keeps found = word_keeps _ _ _ (then_keeps _ _ sync_keeps (λ s. more_keeps _)) (stop_keeps found)

syncs_keep : Keeps syncs
unfolding syncs
syncs_keep = many_keeps sync_part sync_part_keeps []

pub process_keeps : (place : Place) → Keeps (process place)
unfolding process
process_keeps place =
    then_keeps _ _ identifier_keeps (λ name.
    then_keeps _ _ (expect_keeps _) (λ _.
    then_keeps _ _ (body_keeps (switch_within deepest) (switch_within_keeps deepest)) (λ actions.
    then_keeps _ _ syncs_keep (λ found.
    then_keeps _ _ (expect_word_keeps (codes "end")) (λ _.
    line_keeps _ _)))))
