-- What the rules of processes leave.
use Rattle.std.proofs.Common.{ℕ, zero, suc, List, [], codes, refl}
use Rattle.rtlil_lexer.specs.declared.fault.TextFaultKind.TheVariants as fault
use Rattle.rtlil_tree.specs.declared.cursor.Sign.TheVariants as sign
use Rattle.rtlil_tree.specs.declared.place.Place.{Place}
use Rattle.rtlil_tree.specs.declared.sig.Sig.{Sig}
use Rattle.rtlil_tree.specs.declared.module.Assignment.{Assignment}
use Rattle.rtlil_tree.specs.declared.process.Action.{Action}
use Rattle.rtlil_tree.specs.declared.process.Switch.{Switch}
use Rattle.rtlil_tree.specs.declared.process.Case.{Case}
use Rattle.rtlil_tree.specs.declared.process.Sync.{Sync}
use Rattle.rtlil_tree.specs.Input.{Rule, pure, refuse, sees, sees_word}
use Rattle.rtlil_tree.specs.Processes.{body_part, body, further, sigs_from, compare, case, switch_part, cases, switch_with, switch_within, deepest, trigger, sync_line, updates, sync, sync_part, syncs, process}
use Rattle.rtlil_tree.proofs.Leaves.{Leaves, Takes, Shrinks, Step, none, one, one_few, stepped, pure_shrinks, more_shrinks, stop_step, stop_shrinks, then_step, then_shrinks, on_step, on_shrinks, word_step, word_shrinks, if_leaves, next_left, takes_shrinks, refuse_leaves, fail_leaves}
use Rattle.rtlil_tree.proofs.Repeated.{Ends, many_shrinks, up_to_end_shrinks}
use Rattle.rtlil_tree.proofs.Tokens.{identifier_takes, expect_takes, expect_word_takes}
use Rattle.rtlil_tree.proofs.Sigs.{sig_takes}
use Rattle.rtlil_tree.proofs.Statements.{line_shrinks, attribute_shrinks, assignment_shrinks}

-- ---- bodies and switches, with the rule of a switch from its word on

pub body_part_steps : (switch : Rule Switch) → Takes switch → (found : List Action) → Step (body_part switch found)
unfolding body_part
body_part_steps switch takes found =
    on_step _ _ _ (more_shrinks found) (
    word_step _ _ _ (then_shrinks _ _ attribute_shrinks (λ _. more_shrinks found)) (
    word_step _ _ _ (then_shrinks _ _ assignment_shrinks (λ a. more_shrinks _)) (
    if_leaves stepped (sees_word (codes "switch")) _ _ (then_step _ _ takes (λ s. more_shrinks _)) (stop_step found))))

pub body_end : (switch : Rule Switch) → Ends (body_part switch) pure
unfolding body_part sees sees_word
body_end switch state end = refl

body_shrinks : (switch : Rule Switch) → Takes switch → Shrinks (body switch)
unfolding body
body_shrinks switch takes = many_shrinks (body_part switch) (body_part_steps switch takes) []

pub further_steps : (found : List Sig) → Step (further found)
unfolding further
further_steps found = on_step _ _ _ (then_shrinks _ _ (takes_shrinks _ sig_takes) (λ s. more_shrinks _)) (stop_step found)

pub further_end : Ends further pure
unfolding further sees
further_end state end = refl

sigs_from_shrinks : (found : List Sig) → Shrinks (sigs_from found)
unfolding sigs_from
sigs_from_shrinks found = many_shrinks further further_steps found

compare_shrinks : Shrinks compare
unfolding compare
compare_shrinks =
    on_shrinks _ _ _ (pure_shrinks _) (
    then_shrinks _ _ (takes_shrinks _ sig_takes) (λ first.
    then_shrinks _ _ (sigs_from_shrinks _) (λ all.
    line_shrinks _)))

case_shrinks : (switch : Rule Switch) → Takes switch → Shrinks (case switch)
unfolding case
case_shrinks switch takes =
    then_shrinks _ _ compare_shrinks (λ fits.
    then_shrinks _ _ (body_shrinks switch takes) (λ actions.
    pure_shrinks _))

pub switch_part_steps : (switch : Rule Switch) → Takes switch → (found : List Case) → Step (switch_part switch found)
unfolding switch_part
switch_part_steps switch takes found =
    on_step _ _ _ (more_shrinks found) (
    word_step _ _ _ (then_shrinks _ _ attribute_shrinks (λ _. more_shrinks found)) (
    word_step _ _ _ (then_shrinks _ _ (case_shrinks switch takes) (λ c. more_shrinks _)) (
    word_step _ _ _ (then_shrinks _ _ (takes_shrinks _ (expect_takes sign.EndOfLine)) (λ _. stop_shrinks found)) (
    refuse_leaves stepped))))

pub cases_end : (switch : Rule Switch) → Ends (switch_part switch) (λ _. refuse)
unfolding switch_part sees sees_word
cases_end switch state end = refl

cases_shrinks : (switch : Rule Switch) → Takes switch → Shrinks (cases switch)
unfolding cases
cases_shrinks switch takes = up_to_end_shrinks (switch_part switch) (switch_part_steps switch takes) []

switch_with_shrinks : (inner : Rule Switch) → Takes inner → Shrinks (switch_with inner)
unfolding switch_with
switch_with_shrinks inner takes =
    then_shrinks _ _ (takes_shrinks _ sig_takes) (λ chosen.
    then_shrinks _ _ (takes_shrinks _ (expect_takes sign.EndOfLine)) (λ _.
    then_shrinks _ _ (cases_shrinks inner takes) (λ found.
    pure_shrinks _)))

pub switch_within_takes : (depth : ℕ) → Takes (switch_within depth)
unfolding switch_within Leaves
switch_within_takes zero = fail_leaves {A = Switch} one fault.Nesting
switch_within_takes (suc depth) = λ i. next_left one i (switch_with (switch_within depth)) one_few (switch_with_shrinks (switch_within depth) (switch_within_takes depth))

-- ---- syncs

trigger_shrinks : Shrinks trigger
unfolding trigger
trigger_shrinks =
    word_shrinks _ _ _ (pure_shrinks _) (
    word_shrinks _ _ _ (pure_shrinks _) (
    word_shrinks _ _ _ (then_shrinks _ _ (takes_shrinks _ sig_takes) (λ s. pure_shrinks _)) (
    word_shrinks _ _ _ (then_shrinks _ _ (takes_shrinks _ sig_takes) (λ s. pure_shrinks _)) (
    word_shrinks _ _ _ (then_shrinks _ _ (takes_shrinks _ sig_takes) (λ s. pure_shrinks _)) (
    word_shrinks _ _ _ (then_shrinks _ _ (takes_shrinks _ sig_takes) (λ s. pure_shrinks _)) (
    word_shrinks _ _ _ (then_shrinks _ _ (takes_shrinks _ sig_takes) (λ s. pure_shrinks _)) (
    if_leaves none (sees_word (codes "global")) _ _ (fail_leaves none fault.Process) (refuse_leaves none))))))))

pub sync_line_steps : (found : List Assignment) → Step (sync_line found)
unfolding sync_line
sync_line_steps found =
    on_step _ _ _ (more_shrinks found) (
    word_step _ _ _ (then_shrinks _ _ assignment_shrinks (λ a. more_shrinks _)) (
    if_leaves stepped (sees_word (codes "memwr")) _ _ (fail_leaves stepped fault.Process) (stop_step found)))

pub updates_end : Ends sync_line pure
unfolding sync_line sees sees_word
updates_end state end = refl

updates_shrink : Shrinks updates
unfolding updates
updates_shrink = many_shrinks sync_line sync_line_steps []

sync_shrinks : Shrinks sync
unfolding sync
sync_shrinks =
    then_shrinks _ _ trigger_shrinks (λ at.
    then_shrinks _ _ (takes_shrinks _ (expect_takes sign.EndOfLine)) (λ _.
    then_shrinks _ _ updates_shrink (λ lines.
    pure_shrinks _)))

pub sync_part_steps : (found : List Sync) → Step (sync_part found)
unfolding sync_part
sync_part_steps found = word_step _ _ _ (then_shrinks _ _ sync_shrinks (λ s. more_shrinks _)) (stop_step found)

pub syncs_end : Ends sync_part pure
unfolding sync_part sees_word
syncs_end state end = refl

syncs_shrink : Shrinks syncs
unfolding syncs
syncs_shrink = many_shrinks sync_part sync_part_steps []

pub process_shrinks : (place : Place) → Shrinks (process place)
unfolding process
process_shrinks place =
    then_shrinks _ _ (takes_shrinks _ identifier_takes) (λ name.
    then_shrinks _ _ (takes_shrinks _ (expect_takes sign.EndOfLine)) (λ _.
    then_shrinks _ _ (body_shrinks (switch_within deepest) (switch_within_takes deepest)) (λ actions.
    then_shrinks _ _ syncs_shrink (λ found.
    then_shrinks _ _ (takes_shrinks _ (expect_word_takes (codes "end"))) (λ _.
    line_shrinks _)))))
