-- The stimulus over the inputs that words name, step by step.
use Rattle.std.proofs.Common.{◌≡◌, ℕ, ◌<◌, List, [], length, get_or, map, sym, ◌∙◌, ap, arith, eqb, Some, None}
use Rattle.std.specs.Prelude.{option_and_then}
use Rattle.std.specs.Option.{option_map}
use Rattle.std.proofs.lemmas.Bool.{cond-true, cond-false, eq-eqb, ne_eqb}
use Rattle.std.proofs.lemmas.List.{length-map}
use Rattle.circuit.specs.declared.netlist.Circuit.{Circuit}
use Rattle.stimulus_blocks.specs.Courses.{Course}
use Rattle.stimulus.specs.Inputs.{columns_of, course_named, course_over, inputs_named, nets_named, width_of}
use Rattle.stimulus.proofs.Columns.{columns_good}

pub named_none : (c : Circuit) (ws : List (List ℕ)) → nets_named c ws ≡ None → inputs_named c ws ≡ None
unfolding inputs_named
named_none c ws e = ap (option_and_then (course_named c)) e

module _ (c : Circuit) (ws : List (List ℕ)) (nets : List ℕ) (named : nets_named c ws ≡ Some nets) where
  start : inputs_named c ws ≡ course_named c nets
  unfolding inputs_named
  start = ap (option_and_then (course_named c)) named

  pub named_uneven : (length nets ≡ length c.inputs → ⊥) → inputs_named c ws ≡ None
  named_uneven ne = start ∙ cond-false (eqb (length nets) (length c.inputs)) (option_map (course_over c nets) (columns_of nets c.inputs)) None (ne_eqb (length nets) (length c.inputs) ne)

  even : length nets ≡ length c.inputs → inputs_named c ws ≡ option_map (course_over c nets) (columns_of nets c.inputs)
  even e = start ∙ cond-true (eqb (length nets) (length c.inputs)) (option_map (course_over c nets) (columns_of nets c.inputs)) None (eq-eqb (length nets) (length c.inputs) e)

  pub named_lost : length nets ≡ length c.inputs → (given inputs : List ℕ) → given ≡ nets → inputs ≡ c.inputs → columns_of given inputs ≡ None → inputs_named c ws ≡ None
  named_lost e given inputs given_is inputs_are lost =
      even e ∙ ap (option_map (course_over c nets)) (sym (ap (λ (l : List ℕ). columns_of l inputs) given_is ∙ ap (columns_of nets) inputs_are) ∙ lost)

  pub named_some : length nets ≡ length c.inputs → (given inputs columns : List ℕ) → given ≡ nets → inputs ≡ c.inputs → columns_of given inputs ≡ Some columns → inputs_named c ws ≡ Some (course_over c nets columns)
  named_some e given inputs columns given_is inputs_are found =
      even e ∙ ap (option_map (course_over c nets)) (sym (ap (λ (l : List ℕ). columns_of l inputs) given_is ∙ ap (columns_of nets) inputs_are) ∙ found)

pub over : (c : Circuit) (nets given widths columns wide cols : List ℕ) (s : Course) → s ≡ record { widths = wide; columns = cols; blocks = [] } → wide ≡ widths → cols ≡ columns → widths ≡ map (width_of c) given → given ≡ nets → s ≡ course_over c nets columns
over c nets given widths columns wide cols s is wide_is cols_are widths_are given_is =
    is ∙ ap (λ (w : List ℕ). record { widths = w; columns = cols; blocks = [] }) (wide_is ∙ widths_are ∙ ap (map (width_of c)) given_is)
    ∙ ap (λ (l : List ℕ). record { widths = map (width_of c) nets; columns = l; blocks = [] }) cols_are

pub columns_inside : (c : Circuit) (given inputs columns wide cols widths given' nets : List ℕ) → columns_of given inputs ≡ Some columns → cols ≡ columns → wide ≡ widths → widths ≡ map (width_of c) given' → given' ≡ nets → given ≡ nets → (n : ℕ) → n < length cols → get_or cols n 0 < length wide
columns_inside c given inputs columns wide cols widths given' nets found cols_are wide_is widths_are given'_is given_is n lt =
    let good = columns_good given inputs columns found in
    let a : length cols ≡ length columns = ap (λ (l : List ℕ). length l) cols_are in
    let b : get_or cols n 0 ≡ get_or columns n 0 = ap (λ (l : List ℕ). get_or l n 0) cols_are in
    let d : length wide ≡ length nets = ap (λ (l : List ℕ). length l) (wide_is ∙ widths_are ∙ ap (map (width_of c)) given'_is) ∙ length-map nets (width_of c) in
    let f : length given ≡ length nets = ap (λ (l : List ℕ). length l) given_is in
    let g : get_or columns n 0 < length given = good.there n (omega arith) in
    omega arith
