-- What a whole design gives is ready.
use Rattle.std.proofs.Common.{◌≡◌, ◌^◌, ◌<◌, List, Ok, true, arith}
use Rattle.std.specs.List.{list_all}
use Rattle.circuit.specs.Built.{AreCountable, AreNamesApart}
use Rattle.circuit.specs.Valid.{names_differ, node_count}
use Rattle.rtlil_tree.specs.declared.module.Module.{Module}
use Rattle.design_parts.specs.Parts.{Made, circuit_of, none_made, run}
use Rattle.design_top.specs.Inputs.{inputs}
use Rattle.design_walk.specs.Walks.{top_walk}
use Rattle.design_finish.specs.Finished.{AreReady}
use Rattle.design_valid.specs.Wired.{IsWired}
use Rattle.design_valid_walk.proofs.Whole.{design_wired}
use Rattle.design_valid_counts.specs.Counted.{AreCounted}
use Rattle.design_valid_counts.proofs.Design.{design_counted}
use Rattle.design_valid_items.specs.Shown.{IsShown}
use Rattle.rtlil_names.specs.Names.{is_text_module}
use Rattle.design_valid_items.proofs.Design.{design_shown, design_top}
use Rattle.design_valid_inputs.proofs.Design.{design_inputs}
use Rattle.design_ready.proofs.Words.{cells_few, diags_whole, nets_few, registers_few}

countable : (m : Made) → IsWired m → AreCounted m → IsShown m → node_count (circuit_of m) < 2 ^ 32 → AreCountable (circuit_of m)
countable m w c s nodes = record {
  nets = omega (arith, c.nets);
  cells = omega (arith, c.parts);
  regs = omega (arith, c.parts);
  mems = omega (arith, c.parts);
  inputs = omega (arith, c.inputs, c.nets);
  scopes = omega (arith, c.scopes, c.parts);
  slots = omega (arith, s.slots, c.nets, c.rows, c.parts);
  nodes = nodes;
  bits = omega (arith, c.bits);
  net_words = omega (arith, nets_few m.nets, c.nets, c.bits);
  output_words = omega (arith, cells_few m.nets m.cells w.cells, c.parts);
  register_words = omega (arith, registers_few m.nets m.regs w.regs, c.parts);
}

pub design_ready : (ms : List Module) (top : Module) (made : Made) → list_all is_text_module ms ≡ true → is_text_module top ≡ true → run (top_walk (λ scope. inputs scope top.statements) ms top) none_made ≡ Ok made
    → node_count (circuit_of made) < 2 ^ 32 → AreNamesApart made.items → names_differ made.scopes ≡ true → AreReady (circuit_of made)
design_ready ms top made texts text ran nodes apart names =
    let w = design_wired ms top made ran in
    let c = design_counted ms top made ran in
    let s = design_shown ms top made texts text ran in
    record {
      counts = countable made w c s nodes;
      nets = w.nets;
      drives = w.drives;
      cells = w.cells;
      regs = w.regs;
      mems = w.mems;
      inputs = design_inputs ms top made ran;
      items = s.items;
      apart = apart;
      scopes = s.scopes;
      names = names;
      top = design_top ms top made texts text ran;
      diags = diags_whole made.nets made.diags w.diags s.diags;
    }
