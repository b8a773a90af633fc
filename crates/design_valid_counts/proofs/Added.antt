-- What is added to what was counted.
use Rattle.std.proofs.Common.{◌≡◌, ◌+◌, ◌≤◌, List, [], length, ap, arith, length-append, sum_by}
use Rattle.std.proofs.lemmas.List.Sums.{sum_by-append}
use Rattle.circuit.specs.declared.memory.Mem.{Mem}
use Rattle.circuit.specs.declared.netlist.Net.{Net}
use Rattle.design_parts.specs.Parts.{Made, both_made, part_count}
use Rattle.design_wires.specs.Wires.{most_net_bits, most_nets}
use Rattle.design_cells.specs.Rules.{most_parts}
use Rattle.design_memory.specs.Rules.{most_rows}
use Rattle.design_valid_counts.specs.Counted.{AreCounted, net_bits, row_count}

pub record Adds (m f : Made) : Type 0 where
  pub nets : length m.nets + length f.nets ≤ most_nets
  pub bits : net_bits m + net_bits f ≤ most_net_bits
  pub parts : part_count m + part_count f ≤ most_parts
  pub rows : row_count m + row_count f ≤ most_rows
  pub scopes : length m.scopes + length f.scopes ≤ m.instances + f.instances + 1
  pub inputs : length m.inputs + length f.inputs ≤ length m.nets + length f.nets

parts_both : (m f : Made) → part_count (both_made m f) ≡ part_count m + part_count f
parts_both m f = omega (arith, length-append m.cells f.cells, length-append m.regs f.regs, length-append m.mems f.mems, length-append m.diags f.diags)

pub counted_both : (m f : Made) → Adds m f → AreCounted (both_made m f)
counted_both m f a =
    let nets = length-append m.nets f.nets in
    record {
      nets = omega (arith, nets, a.nets);
      bits = omega (arith, sum_by-append (λ (n : Net). n.width) m.nets f.nets, a.bits);
      parts = omega (arith, parts_both m f, a.parts);
      rows = omega (arith, sum_by-append (λ (x : Mem). x.size) m.mems f.mems, a.rows);
      scopes = omega (arith, length-append m.scopes f.scopes, a.scopes);
      inputs = omega (arith, length-append m.inputs f.inputs, nets, a.inputs);
    }

-- what has no nets, no scopes and no inputs
pub part_counted : (m f : Made) → AreCounted m → f.nets ≡ [] → f.scopes ≡ [] → f.inputs ≡ [] → part_count m + part_count f ≤ most_parts → row_count m + row_count f ≤ most_rows → AreCounted (both_made m f)
part_counted m f c nets scopes inputs parts rows =
    let no_nets : length f.nets ≡ 0 = ap length nets in
    let no_bits : net_bits f ≡ 0 = ap (λ (xs : List Net). sum_by (λ (n : Net). n.width) xs) nets in
    let no_scopes : length f.scopes ≡ 0 = ap length scopes in
    let no_inputs : length f.inputs ≡ 0 = ap length inputs in
    counted_both m f (record {
      nets = omega (arith, no_nets, c.nets);
      bits = omega (arith, no_bits, c.bits);
      parts = parts;
      rows = rows;
      scopes = omega (arith, no_scopes, c.scopes);
      inputs = omega (arith, no_nets, no_inputs, c.inputs);
    })

-- what has no parts and no rows either
pub drives_counted : (m f : Made) → AreCounted m → f.nets ≡ [] → f.scopes ≡ [] → f.inputs ≡ [] → part_count f ≡ 0 → row_count f ≡ 0 → AreCounted (both_made m f)
drives_counted m f c nets scopes inputs parts rows = part_counted m f c nets scopes inputs (omega (arith, parts, c.parts)) (omega (arith, rows, c.rows))
