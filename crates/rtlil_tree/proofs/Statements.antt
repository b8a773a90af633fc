-- What the rules of the lines of a module leave.
use Rattle.std.proofs.Common.{ℕ, ℤ, List, Some, None, refl}
use Rattle.rtlil_tree.specs.declared.cursor.Sign.TheVariants as sign
use Rattle.rtlil_tree.specs.declared.module.Attribute.{Attribute}
use Rattle.rtlil_tree.specs.declared.module.WireOptions.{WireOptions}
use Rattle.rtlil_tree.specs.declared.module.MemoryOptions.{MemoryOptions}
use Rattle.rtlil_tree.specs.declared.module.Cell.{Cell}
use Rattle.rtlil_tree.specs.Input.{◌>>=◌, pure, refuse, sees, sees_word, expect, more, natural, integer}
use Rattle.rtlil_tree.specs.Statements.{attribute, assignment, parameter_kind, default, parameter, plain_wire, wire_option, wire_options, wire, plain_memory, memory_option, memory_options, memory, setting, connection, cell_line, cell_lines, opened, cell}
use Rattle.rtlil_tree.proofs.Leaves.{Shrinks, Step, none, stepped, pure_shrinks, more_shrinks, stop_step, stop_shrinks, then_shrinks, on_step, word_step, word_shrinks, if_leaves, takes_shrinks, refuse_leaves}
use Rattle.rtlil_tree.proofs.Repeated.{Ends, many_shrinks, up_to_end_shrinks}
use Rattle.rtlil_tree.proofs.Tokens.{natural_takes, integer_takes, identifier_takes, expect_takes}
use Rattle.rtlil_tree.proofs.Sigs.{constant_takes, sig_takes}

-- ---- the end of a line, behind all that is read

pub line_shrinks : {A : Type 0} (a : A) → Shrinks (expect sign.EndOfLine >>= λ _. pure a)
line_shrinks a = then_shrinks _ _ (takes_shrinks _ (expect_takes sign.EndOfLine)) (λ _. pure_shrinks a)

pub attribute_shrinks : Shrinks attribute
unfolding attribute
attribute_shrinks =
    then_shrinks _ _ (takes_shrinks _ identifier_takes) (λ name.
    then_shrinks _ _ (takes_shrinks _ constant_takes) (λ value.
    line_shrinks _))

pub assignment_shrinks : Shrinks assignment
unfolding assignment
assignment_shrinks =
    then_shrinks _ _ (takes_shrinks _ sig_takes) (λ left.
    then_shrinks _ _ (takes_shrinks _ sig_takes) (λ right.
    line_shrinks _))

-- ---- parameters

parameter_kind_shrinks : Shrinks parameter_kind
unfolding parameter_kind
parameter_kind_shrinks = word_shrinks _ _ _ (pure_shrinks _) (word_shrinks _ _ _ (pure_shrinks _) (pure_shrinks _))

default_shrinks : Shrinks default
unfolding default
default_shrinks = if_leaves none (sees sign.EndOfLine) _ _ (pure_shrinks None) (then_shrinks _ _ (takes_shrinks _ constant_takes) (λ c. pure_shrinks (Some c)))

pub parameter_shrinks : Shrinks parameter
unfolding parameter
parameter_shrinks =
    then_shrinks _ _ parameter_kind_shrinks (λ kind.
    then_shrinks _ _ (takes_shrinks _ identifier_takes) (λ name.
    then_shrinks _ _ default_shrinks (λ given.
    line_shrinks _)))

-- ---- wires

natural_then : {S : Type 0} (f : ℕ → S) → Shrinks (natural >>= λ n. more (f n))
natural_then f = then_shrinks _ _ (takes_shrinks _ natural_takes) (λ n. more_shrinks (f n))

integer_then : {S : Type 0} (f : ℤ → S) → Shrinks (integer >>= λ n. more (f n))
integer_then f = then_shrinks _ _ (takes_shrinks _ integer_takes) (λ n. more_shrinks (f n))

pub wire_option_steps : (o : WireOptions) → Step (wire_option o)
unfolding wire_option
wire_option_steps o =
    word_step _ _ _ (natural_then _) (
    word_step _ _ _ (integer_then _) (
    word_step _ _ _ (integer_then _) (
    word_step _ _ _ (integer_then _) (
    word_step _ _ _ (integer_then _) (
    word_step _ _ _ (more_shrinks _) (
    word_step _ _ _ (more_shrinks _) (
    stop_step o)))))))

pub wire_options_end : Ends wire_option pure
unfolding wire_option sees_word
wire_options_end state end = refl

wire_options_shrink : Shrinks wire_options
unfolding wire_options
wire_options_shrink = many_shrinks wire_option wire_option_steps plain_wire

pub wire_shrinks : (attributes : List Attribute) → Shrinks (wire attributes)
unfolding wire
wire_shrinks attributes =
    then_shrinks _ _ wire_options_shrink (λ options.
    then_shrinks _ _ (takes_shrinks _ identifier_takes) (λ name.
    line_shrinks _))

-- ---- memories

pub memory_option_steps : (o : MemoryOptions) → Step (memory_option o)
unfolding memory_option
memory_option_steps o =
    word_step _ _ _ (natural_then _) (
    word_step _ _ _ (integer_then _) (
    word_step _ _ _ (integer_then _) (
    stop_step o)))

pub memory_options_end : Ends memory_option pure
unfolding memory_option sees_word
memory_options_end state end = refl

memory_options_shrink : Shrinks memory_options
unfolding memory_options
memory_options_shrink = many_shrinks memory_option memory_option_steps plain_memory

pub memory_shrinks : (attributes : List Attribute) → Shrinks (memory attributes)
unfolding memory
memory_shrinks attributes =
    then_shrinks _ _ memory_options_shrink (λ options.
    then_shrinks _ _ (takes_shrinks _ identifier_takes) (λ name.
    line_shrinks _))

-- ---- cells

setting_shrinks : Shrinks setting
unfolding setting
setting_shrinks =
    then_shrinks _ _ parameter_kind_shrinks (λ kind.
    then_shrinks _ _ (takes_shrinks _ identifier_takes) (λ name.
    then_shrinks _ _ (takes_shrinks _ constant_takes) (λ value.
    line_shrinks _)))

connection_shrinks : Shrinks connection
unfolding connection
connection_shrinks =
    then_shrinks _ _ (takes_shrinks _ identifier_takes) (λ port.
    then_shrinks _ _ (takes_shrinks _ sig_takes) (λ joined.
    line_shrinks _))

pub cell_line_steps : (c : Cell) → Step (cell_line c)
unfolding cell_line
cell_line_steps c =
    on_step _ _ _ (more_shrinks c) (
    word_step _ _ _ (then_shrinks _ _ attribute_shrinks (λ _. more_shrinks c)) (
    word_step _ _ _ (then_shrinks _ _ setting_shrinks (λ s. more_shrinks _)) (
    word_step _ _ _ (then_shrinks _ _ connection_shrinks (λ s. more_shrinks _)) (
    word_step _ _ _ (then_shrinks _ _ (takes_shrinks _ (expect_takes sign.EndOfLine)) (λ _. stop_shrinks c)) (
    refuse_leaves stepped)))))

pub cell_lines_end : Ends cell_line (λ _. refuse)
unfolding cell_line sees sees_word
cell_lines_end state end = refl

cell_lines_shrink : (c : Cell) → Shrinks (cell_lines c)
unfolding cell_lines
cell_lines_shrink c = up_to_end_shrinks cell_line cell_line_steps c

pub cell_shrinks : (attributes : List Attribute) → Shrinks (cell attributes)
unfolding cell
cell_shrinks attributes =
    then_shrinks _ _ (takes_shrinks _ identifier_takes) (λ kind.
    then_shrinks _ _ (takes_shrinks _ identifier_takes) (λ name.
    then_shrinks _ _ (takes_shrinks _ (expect_takes sign.EndOfLine)) (λ _.
    cell_lines_shrink (opened kind name attributes))))
