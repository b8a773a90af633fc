-- How much a design gives.
use Rattle.std.specs.Prelude.{ℕ, ◌+◌, ◌≤◌, length, sum_by}
use Rattle.design_parts.specs.Parts.{Made, part_count}
use Rattle.design_wires.specs.Wires.{most_net_bits, most_nets}
use Rattle.design_cells.specs.Rules.{most_parts}
use Rattle.design_memory.specs.Rules.{most_rows}

abbrev pub net_bits : Made → ℕ
net_bits m = sum_by (λ n. n.width) m.nets

abbrev pub row_count : Made → ℕ
row_count m = sum_by (λ x. x.size) m.mems

-- the limits, and what is counted with the instances and with the nets
pub record AreCounted (m : Made) : Type 0 where
  pub nets : length m.nets ≤ most_nets
  pub bits : net_bits m ≤ most_net_bits
  pub parts : part_count m ≤ most_parts
  pub rows : row_count m ≤ most_rows
  pub scopes : length m.scopes ≤ m.instances + 1
  pub inputs : length m.inputs ≤ length m.nets
