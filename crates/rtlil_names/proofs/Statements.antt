-- The rules of the lines of a module.
use Rattle.std.proofs.Common.{ℕ, ℤ, List, Some, None}
use Rattle.rtlil_tree.specs.declared.module.Attribute.{Attribute}
use Rattle.rtlil_tree.specs.declared.module.WireOptions.{WireOptions}
use Rattle.rtlil_tree.specs.declared.module.MemoryOptions.{MemoryOptions}
use Rattle.rtlil_tree.specs.declared.module.Wire.{Wire}
use Rattle.rtlil_tree.specs.declared.module.Cell.{Cell}
use Rattle.rtlil_tree.specs.Input.{◌>>=◌, pure, expect, more, natural, integer}
use Rattle.rtlil_tree.specs.Statements.{attribute, assignment, parameter_kind, default, parameter, plain_wire, wire_option, wire_options, wire, plain_memory, memory_option, memory_options, memory, setting, connection, cell_line, cell_lines, opened, cell}
use Rattle.rtlil_names.proofs.Named.{IsNamed, Reads, Keeps, Stepped, then_reads, then_after, on_reads, word_reads, pure_reads, refuse_reads, more_reads, stop_reads, up_to_end_reads, then_keeps, if_keeps, word_keeps, pure_keeps, more_keeps, stop_keeps, many_keeps}
use Rattle.rtlil_names.proofs.Tokens.{natural_keeps, integer_keeps, identifier_reads, identifier_keeps, expect_keeps, constant_keeps}
use Rattle.rtlil_names.proofs.Sigs.{sig_keeps}

-- ---- the end of a line, behind all that is read

pub line_keeps : {A : Type 0} (s : _) (a : A) → Keeps (expect s >>= λ _. pure a)
line_keeps s a = then_keeps _ _ (expect_keeps _) (λ _. pure_keeps a)

pub line_reads : {A : Type 0} (fits : A → Type 0) (s : _) (a : A) → fits a → Reads fits (expect s >>= λ _. pure a)
line_reads fits s a is = then_after fits _ _ (expect_keeps _) (λ _. pure_reads fits a is)

pub attribute_keeps : Keeps attribute
unfolding attribute
attribute_keeps =
    then_keeps _ _ identifier_keeps (λ name.
    then_keeps _ _ constant_keeps (λ value.
    line_keeps _ _))

pub assignment_keeps : Keeps assignment
unfolding assignment
assignment_keeps =
    then_keeps _ _ sig_keeps (λ left.
    then_keeps _ _ sig_keeps (λ right.
    line_keeps _ _))

-- ---- parameters

parameter_kind_keeps : Keeps parameter_kind
unfolding parameter_kind
parameter_kind_keeps = word_keeps _ _ _ (pure_keeps _) (word_keeps _ _ _ (pure_keeps _) (pure_keeps _))

default_keeps : Keeps default
unfolding default
default_keeps = if_keeps _ _ _ (pure_keeps None) (then_keeps _ _ constant_keeps (λ c. pure_keeps (Some c)))

pub parameter_keeps : Keeps parameter
unfolding parameter
parameter_keeps =
    then_keeps _ _ parameter_kind_keeps (λ kind.
    then_keeps _ _ identifier_keeps (λ name.
    then_keeps _ _ default_keeps (λ given.
    line_keeps _ _)))

-- ---- wires

natural_then : {S : Type 0} (f : ℕ → S) → Keeps (natural >>= λ n. more (f n))
natural_then f = then_keeps _ _ natural_keeps (λ n. more_keeps (f n))

integer_then : {S : Type 0} (f : ℤ → S) → Keeps (integer >>= λ n. more (f n))
integer_then f = then_keeps _ _ integer_keeps (λ n. more_keeps (f n))

wire_option_keeps : (o : WireOptions) → Keeps (wire_option o)
unfolding wire_option
wire_option_keeps o =
    word_keeps _ _ _ (natural_then _) (
    word_keeps _ _ _ (integer_then _) (
    word_keeps _ _ _ (integer_then _) (
    word_keeps _ _ _ (integer_then _) (
    word_keeps _ _ _ (integer_then _) (
    word_keeps _ _ _ (more_keeps _) (
    word_keeps _ _ _ (more_keeps _) (
    stop_keeps o)))))))

wire_options_keep : Keeps wire_options
unfolding wire_options
wire_options_keep = many_keeps wire_option wire_option_keeps plain_wire

abbrev pub IsNamedWire : Wire → Type 0
IsNamedWire w = IsNamed w.name

pub wire_reads : (attributes : List Attribute) → Reads IsNamedWire (wire attributes)
unfolding wire
wire_reads attributes =
    then_after IsNamedWire _ _ wire_options_keep (λ options.
    then_reads IsNamed IsNamedWire _ _ identifier_reads (λ name is.
    line_reads IsNamedWire _ _ is))

-- ---- memories

memory_option_keeps : (o : MemoryOptions) → Keeps (memory_option o)
unfolding memory_option
memory_option_keeps o =
    word_keeps _ _ _ (natural_then _) (
    word_keeps _ _ _ (integer_then _) (
    word_keeps _ _ _ (integer_then _) (
    stop_keeps o)))

memory_options_keep : Keeps memory_options
unfolding memory_options
memory_options_keep = many_keeps memory_option memory_option_keeps plain_memory

pub memory_keeps : (attributes : List Attribute) → Keeps (memory attributes)
unfolding memory
memory_keeps attributes =
    then_keeps _ _ memory_options_keep (λ options.
    then_keeps _ _ identifier_keeps (λ name.
    line_keeps _ _))

-- ---- cells

setting_keeps : Keeps setting
unfolding setting
setting_keeps =
    then_keeps _ _ parameter_kind_keeps (λ kind.
    then_keeps _ _ identifier_keeps (λ name.
    then_keeps _ _ constant_keeps (λ value.
    line_keeps _ _)))

connection_keeps : Keeps connection
unfolding connection
connection_keeps =
    then_keeps _ _ identifier_keeps (λ port.
    then_keeps _ _ sig_keeps (λ joined.
    line_keeps _ _))

abbrev pub IsNamedCell : Cell → Type 0
IsNamedCell c = IsNamed c.name

cell_line_reads : (c : Cell) → IsNamedCell c → Reads (Stepped IsNamedCell) (cell_line c)
unfolding cell_line
cell_line_reads c is =
    on_reads (Stepped IsNamedCell) _ _ _ (more_reads IsNamedCell c is) (
    word_reads (Stepped IsNamedCell) _ _ _ (then_after (Stepped IsNamedCell) _ _ attribute_keeps (λ _. more_reads IsNamedCell c is)) (
    word_reads (Stepped IsNamedCell) _ _ _ (then_after (Stepped IsNamedCell) _ _ setting_keeps (λ s. more_reads IsNamedCell _ is)) (
    word_reads (Stepped IsNamedCell) _ _ _ (then_after (Stepped IsNamedCell) _ _ connection_keeps (λ s. more_reads IsNamedCell _ is)) (
    word_reads (Stepped IsNamedCell) _ _ _ (then_after (Stepped IsNamedCell) _ _ (expect_keeps _) (λ _. stop_reads IsNamedCell c is)) (
    refuse_reads (Stepped IsNamedCell))))))

cell_lines_read : (c : Cell) → IsNamedCell c → Reads IsNamedCell (cell_lines c)
unfolding cell_lines
cell_lines_read c is = up_to_end_reads IsNamedCell cell_line cell_line_reads c is

pub cell_reads : (attributes : List Attribute) → Reads IsNamedCell (cell attributes)
unfolding cell
cell_reads attributes =
    then_after IsNamedCell _ _ identifier_keeps (λ kind.
    then_reads IsNamed IsNamedCell _ _ identifier_reads (λ name is.
    then_after IsNamedCell _ _ (expect_keeps _) (λ _.
    cell_lines_read (opened kind name attributes) is)))
