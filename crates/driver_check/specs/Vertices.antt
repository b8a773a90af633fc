-- The graph of a circuit: what each bit and each node needs.
use Rattle.std.specs.List.{flat_map}
use Rattle.std.specs.Prelude.{◌≡◌, ℕ, ◌-◌, List, length, Some, slice_get, ◌+◌, [], ◌∷◌, Option, None, if◌then◌else◌, ◌++◌, map}
use Rattle.circuit.specs.Valuation.{drive_of}
use Rattle.circuit.specs.declared.cell.Cell.{Cell}
use Rattle.circuit.specs.declared.memory.Mem.{Mem}
use Rattle.circuit.specs.declared.memory.ReadPort.{ReadPort}
use Rattle.circuit.specs.declared.netlist.By.TheVariants as by
use Rattle.circuit.specs.declared.netlist.By.{By}
use Rattle.circuit.specs.declared.netlist.Circuit.{Circuit}
use Rattle.circuit.specs.declared.netlist.Drive.{Drive}
use Rattle.circuit.specs.declared.netlist.Net.{Net}
use Rattle.circuit.specs.declared.netlist.Piece.TheVariants as piece
use Rattle.circuit.specs.declared.netlist.Piece.{Piece}
use Rattle.driver_check.specs.declared.graph.Span.{Span}
use Rattle.driver_check.specs.declared.parts.Node.TheVariants as node
use Rattle.driver_check.specs.declared.parts.Node.{Node}
use Rattle.driver_check.specs.Depends.{Bit}
use Rattle.driver_check.specs.Nodes.{part_place}
use Rattle.driver_check.specs.Numbers.{IsBit, bit_number, before, bit_count, width_of}

abbrev pub span_of : ℕ → ℕ → Span
span_of first width = record { first = first; width = width }

abbrev pub piece_spans : List Net → Piece → List Span
piece_spans nets (piece.Const v) = []
piece_spans nets (piece.Part n at width) = span_of (before width_of nets n + at) width ∷ []

-- the bits that a signal reads
abbrev pub sig_spans : List Net → List Piece → List Span
sig_spans nets ps = flat_map (piece_spans nets) ps

abbrev pub cell_spans : List Net → Option Cell → List Span
cell_spans nets None = []
cell_spans nets (Some x) = sig_spans nets x.a ++ (sig_spans nets x.b ++ sig_spans nets x.s)

abbrev pub port_spans : List Net → Option ReadPort → List Span
port_spans nets None = []
port_spans nets (Some p) = if p.clocked then [] else sig_spans nets p.addr

abbrev pub mem_spans : List Net → Option Mem → ℕ → List Span
mem_spans nets None n = []
mem_spans nets (Some m) n = port_spans nets (slice_get m.reads n)

abbrev pub node_spans : Circuit → Node → List Span
node_spans c (node.Cell n) = cell_spans c.nets (slice_get c.cells n)
node_spans c (node.Read m n) = mem_spans c.nets (slice_get c.mems m) n

abbrev pub nothing : Span
nothing = span_of 0 0

-- what the i-th bit of a driver needs
abbrev pub by_span : Circuit → By → ℕ → Span
by_span c (by.Const v) i = nothing
by_span c (by.Input n at) i = nothing
by_span c (by.Wire n at) i = span_of (before width_of c.nets n + at + i) 1
by_span c (by.Cell n at) i = span_of (bit_count c.nets + part_place c (node.Cell n)) 1
by_span c (by.Reg n at) i = nothing
by_span c (by.Read m n at) i = span_of (bit_count c.nets + part_place c (node.Read m n)) 1

abbrev pub drive_span : Circuit → Option Drive → ℕ → Span
drive_span c None bit = nothing
drive_span c (Some d) bit = by_span c d.by (bit - d.at)

abbrev pub bit_span : Circuit → Bit → Span
bit_span c x = drive_span c (drive_of c x.0 x.1) x.1

-- the graph of a circuit, whose nodes stand in a list
pub record IsGraphOf (c : Circuit) (nodes : List Node) (bits : List Span) (rows : List (List Span)) : Type 0 where
  pub bits_long : length bits ≡ bit_count c.nets
  pub bit : (x : Bit) → IsBit c.nets x → slice_get bits (bit_number c.nets x) ≡ Some (bit_span c x)
  pub row : rows ≡ map (node_spans c) nodes
