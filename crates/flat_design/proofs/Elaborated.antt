-- The steps of the elaboration, put together.
use Rattle.std.proofs.Common.{◌≡◌, ◌+◌, ◌≤◌, ◌^◌, List, length, refl, sym, ◌∙◌, ap, arith, true, false, leb, ◌&&◌, Some, None, option_map}
use Rattle.std.proofs.lemmas.Bool.{cond-true, cond-false, and_parts, leb-true}
use Rattle.circuit.specs.declared.netlist.Circuit.{Circuit}
use Rattle.circuit.specs.declared.item.Item.{Item}
use Rattle.flat_text.specs.declared.module.Module.{Module}
use Rattle.flat_text.specs.declared.module.Wire.{Wire}
use Rattle.flat_text.specs.declared.module.Cell.{Cell}
use Rattle.flat_design.specs.Wires.{with_wires}
use Rattle.flat_design.specs.Cells.{with_cells}
use Rattle.flat_design.specs.Labels.{items_of}
use Rattle.flat_design.specs.Circuit.{has_known_form, frame_of, with_items, circuit_of}

module _ (m : Module) where
  pub no_form : has_known_form m ≡ false → circuit_of m ≡ None
  unfolding circuit_of
  no_form off = cond-false (has_known_form m) _ None off

  few : has_known_form m ≡ true → (length m.wires ≤ 1000) × (length m.cells ≤ 1000)
  unfolding has_known_form
  few on =
      let p = and_parts (leb (length m.wires) 1000) (leb (length m.cells) 1000) (and_parts (leb (length m.wires) 1000 && leb (length m.cells) 1000) _ on).0 in
      (leb-true (length m.wires) 1000 p.0, leb-true (length m.cells) 1000 p.1)

  frame_nets : length (frame_of m).nets ≡ 0
  unfolding frame_of
  frame_nets = refl

  frame_inputs : length (frame_of m).inputs ≡ 0
  unfolding frame_of
  frame_inputs = refl

  frame_cells : length (frame_of m).cells ≡ 0
  unfolding frame_of
  frame_cells = refl

  frame_regs : length (frame_of m).regs ≡ 0
  unfolding frame_of
  frame_regs = refl

  module _ (on : has_known_form m ≡ true) (ws : List Wire) (xs : List Cell) (wires : ws ≡ m.wires) (cells : xs ≡ m.cells) (c : Circuit) (framed : c ≡ frame_of m) where
    few_wires : length ws ≤ 1000
    few_wires = omega (arith, ap length wires, (few on).0)

    few_cells : length xs ≤ 1000
    few_cells = omega (arith, ap length cells, (few on).1)

    pub room_wires : length ws ≤ 2 ^ 32
    room_wires = let f : length ws ≤ 1000 = few_wires in omega arith

    pub room_nets : length c.nets + length ws ≤ 2 ^ 32
    room_nets = let f : length ws ≤ 1000 = few_wires in omega (arith, ap (λ (x : Circuit). length x.nets) framed, frame_nets)

    pub room_inputs : length c.inputs + length ws ≤ 2 ^ 32
    room_inputs = let f : length ws ≤ 1000 = few_wires in omega (arith, ap (λ (x : Circuit). length x.inputs) framed, frame_inputs)

    module _ (d : Circuit) (same_cells : d.cells ≡ c.cells) (same_regs : d.regs ≡ c.regs) where
      pub room_cells : length d.cells + length xs ≤ 2 ^ 32
      room_cells = let f : length xs ≤ 1000 = few_cells in omega (arith, ap length same_cells, ap (λ (x : Circuit). length x.cells) framed, frame_cells)

      pub room_regs : length d.regs + length xs ≤ 2 ^ 32
      room_regs = let f : length xs ≤ 1000 = few_cells in omega (arith, ap length same_regs, ap (λ (x : Circuit). length x.regs) framed, frame_regs)

    module _ (d : Circuit) (wired : d ≡ with_wires c ws) where
      wired_frame : with_wires (frame_of m) m.wires ≡ d
      wired_frame = sym (wired ∙ ap (λ (x : Circuit). with_wires x ws) framed ∙ ap (with_wires (frame_of m)) wires)

      celled_frame : with_cells m.wires d m.cells ≡ with_cells ws d xs
      celled_frame = sym (ap (λ (w : List Wire). with_cells w d xs) wires ∙ ap (λ (x : List Cell). with_cells m.wires d x) cells)

      built : circuit_of m ≡ option_map (with_items m.wires) (with_cells ws d xs)
      unfolding circuit_of
      built =
          cond-true (has_known_form m) _ None on
          ∙ ap (λ (x : Circuit). option_map (with_items m.wires) (with_cells m.wires x m.cells)) wired_frame
          ∙ ap (option_map (with_items m.wires)) celled_frame

      pub no_cells : with_cells ws d xs ≡ None → circuit_of m ≡ None
      no_cells none = built ∙ ap (option_map (with_items m.wires)) none

      pub whole : (e : Circuit) (items : List Item) → with_cells ws d xs ≡ Some e → items ≡ items_of ws → circuit_of m ≡ Some (record e { items = items })
      whole e items celled labelled =
          built ∙ ap (option_map (with_items m.wires)) celled ∙ ap (λ (is : List Item). Some (record e { items = is })) (sym (labelled ∙ ap items_of wires))
