-- Wires and cells that are added one after another.
use Rattle.std.proofs.Common.{◌≡◌, ℕ, ◌+◌, ◌<◌, ◌≤◌, List, length, drop, get_or, sym, ◌∙◌, ap, Some, None}
use Rattle.std.specs.Prelude.{option_and_then}
use Rattle.std.proofs.lemmas.List.{at_drop_more, at_drop_all}
use Rattle.circuit.specs.declared.netlist.Circuit.{Circuit}
use Rattle.flat_text.specs.declared.module.Wire.{Wire}
use Rattle.flat_text.specs.declared.module.Cell.{Cell}
use Rattle.flat_design.specs.Wires.{with_wire, with_wires}
use Rattle.flat_design.specs.Cells.{with_cell, with_cells}

pub wires_more : (c d : Circuit) (wires : List Wire) (i : ℕ) (w : Wire) → i < length wires → w ≡ get_or wires i w → d ≡ with_wire c w → with_wires d (drop (i + 1) wires) ≡ with_wires c (drop i wires)
unfolding with_wires
wires_more c d wires i w lt e s =
    ap (λ (x : Circuit). with_wires x (drop (i + 1) wires)) s
    ∙ ap (λ (v : Wire). with_wires (with_wire c v) (drop (i + 1) wires)) e
    ∙ sym (at_drop_more (with_wires c) wires i w lt)

pub wires_all : (c : Circuit) (wires : List Wire) (i : ℕ) → length wires ≤ i → with_wires c (drop i wires) ≡ c
unfolding with_wires
wires_all c wires i le = at_drop_all (with_wires c) wires i le

module _ (wires : List Wire) (c : Circuit) (xs : List Cell) (i : ℕ) (x : Cell) (lt : i < length xs) (e : x ≡ get_or xs i x) where
  cells_first : with_cells wires c (drop i xs) ≡ option_and_then (λ d. with_cells wires d (drop (i + 1) xs)) (with_cell wires c x)
  unfolding with_cells
  cells_first =
      at_drop_more (with_cells wires c) xs i x lt
      ∙ ap (λ (y : Cell). option_and_then (λ d. with_cells wires d (drop (i + 1) xs)) (with_cell wires c y)) (sym e)

  pub cells_more : (d : Circuit) → with_cell wires c x ≡ Some d → with_cells wires d (drop (i + 1) xs) ≡ with_cells wires c (drop i xs)
  cells_more d s = sym (cells_first ∙ ap (option_and_then (λ d. with_cells wires d (drop (i + 1) xs))) s)

  pub cells_none : with_cell wires c x ≡ None → with_cells wires c (drop i xs) ≡ None
  cells_none s = cells_first ∙ ap (option_and_then (λ d. with_cells wires d (drop (i + 1) xs))) s

pub cells_all : (wires : List Wire) (c : Circuit) (xs : List Cell) (i : ℕ) → length xs ≤ i → with_cells wires c (drop i xs) ≡ Some c
unfolding with_cells
cells_all wires c xs i le = at_drop_all (with_cells wires c) xs i le
