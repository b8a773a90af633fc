-- What the rules of modules and files leave.
use Rattle.std.proofs.Common.{List, length, ◌==◌, codes, refl}
use Rattle.rtlil_tree.specs.declared.cursor.Sign.TheVariants as sign
use Rattle.rtlil_tree.specs.declared.module.Attribute.{Attribute}
use Rattle.rtlil_tree.specs.declared.module.Statement.TheVariants as statement
use Rattle.rtlil_tree.specs.declared.draft.Statements.{Statements}
use Rattle.rtlil_tree.specs.declared.draft.Modules.{Modules}
use Rattle.rtlil_tree.specs.Input.{Rule, ◌<$>◌, pure, refuse, sees, sees_word}
use Rattle.rtlil_tree.specs.Processes.{process}
use Rattle.rtlil_tree.specs.Modules.{statement_with, statement_line, module_line, module_lines, module_with, module_part, file_line}
use Rattle.rtlil_tree.proofs.Leaves.{Takes, Shrinks, Step, one, stepped, pure_shrinks, more_shrinks, stop_step, stop_shrinks, then_step, then_shrinks, on_step, word_step, word_takes, if_leaves, place_leaves, takes_shrinks, refuse_leaves}
use Rattle.rtlil_tree.proofs.Repeated.{Ends, up_to_end_shrinks}
use Rattle.rtlil_tree.proofs.Tokens.{identifier_takes, integer_takes, expect_takes}
use Rattle.rtlil_tree.proofs.Statements.{attribute_shrinks, assignment_shrinks, parameter_shrinks, wire_shrinks, memory_shrinks, cell_shrinks}
use Rattle.rtlil_tree.proofs.Processes.{process_shrinks}

mapped : {A B : Type 0} (f : A → B) (r : Rule A) → Shrinks r → Shrinks (f <$> r)
mapped f r shrinks = then_shrinks _ _ shrinks (λ a. pure_shrinks (f a))

statement_takes : (waiting : List Attribute) → Takes (statement_with waiting)
unfolding statement_with
statement_takes waiting =
    word_takes _ _ _ (mapped statement.Parameter _ parameter_shrinks) (
    word_takes _ _ _ (mapped statement.Wire _ (wire_shrinks waiting)) (
    word_takes _ _ _ (mapped statement.Memory _ (memory_shrinks waiting)) (
    word_takes _ _ _ (mapped statement.Cell _ (cell_shrinks waiting)) (
    word_takes _ _ _ (mapped statement.Connect _ assignment_shrinks) (
    place_leaves one _ (λ at. word_takes (codes "process") (statement.Process <$> process at) refuse (mapped statement.Process _ (process_shrinks at)) (refuse_leaves one)))))))

statement_line_steps : (draft : Statements) → Step (statement_line draft)
unfolding statement_line
statement_line_steps draft = then_step _ _ (statement_takes draft.waiting) (λ s. more_shrinks _)

pub module_line_steps : (draft : Statements) → Step (module_line draft)
unfolding module_line
module_line_steps draft =
    on_step _ _ _ (more_shrinks draft) (
    word_step _ _ _ (then_shrinks _ _ attribute_shrinks (λ a. more_shrinks _)) (
    word_step _ _ _ (then_shrinks _ _ (takes_shrinks _ (expect_takes sign.EndOfLine)) (λ _. stop_shrinks draft)) (
    statement_line_steps draft)))

pub module_lines_end : Ends module_line (λ _. refuse)
unfolding module_line statement_line statement_with sees sees_word
module_lines_end state end = refl

module_lines_shrink : Shrinks module_lines
unfolding module_lines
module_lines_shrink = up_to_end_shrinks module_line module_line_steps _

module_with_shrinks : (attributes : List Attribute) → Shrinks (module_with attributes)
unfolding module_with
module_with_shrinks attributes =
    then_shrinks _ _ (takes_shrinks _ identifier_takes) (λ name.
    then_shrinks _ _ (takes_shrinks _ (expect_takes sign.EndOfLine)) (λ _.
    then_shrinks _ _ module_lines_shrink (λ lines.
    pure_shrinks _)))

module_part_shrinks : (draft : Modules) → Shrinks (module_part draft)
unfolding module_part
module_part_shrinks draft = then_shrinks _ _ (module_with_shrinks draft.waiting) (λ m. more_shrinks _)

pub file_line_steps : (draft : Modules) → Step (file_line draft)
unfolding file_line
file_line_steps draft = if_leaves stepped (λ i. length i.rest == 0) _ _ (stop_step draft) (
    on_step _ _ _ (more_shrinks draft) (
    word_step _ _ _ (then_shrinks _ _ (takes_shrinks _ integer_takes) (λ n. then_shrinks _ _ (takes_shrinks _ (expect_takes sign.EndOfLine)) (λ _. more_shrinks _))) (
    word_step _ _ _ (then_shrinks _ _ attribute_shrinks (λ a. more_shrinks _)) (
    word_step _ _ _ (module_part_shrinks draft) (
    refuse_leaves stepped)))))

pub file_lines_end : Ends file_line pure
unfolding file_line
file_lines_end state end = refl
