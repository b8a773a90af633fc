-- Signals over nets.
use Rattle.std.proofs.Common.{◌≡◌, ◌≢◌, ℕ, ◌+◌, ◌-◌, ◌≤◌, min, eqb, nat_eq, cond, List, [], ◌∷◌, map, option_and_then, Option, Some, None, true, false, refl, sym, ◌∙◌, ap, subst, arith, inl, inr}
use Rattle.std.specs.Prelude.{slice_get}
use Rattle.std.specs.List.{list_all}
use Rattle.std.proofs.lemmas.Bool.{cond-true, cond-false, and_parts, and_from, leb-true, le-leb}
use Rattle.std.proofs.lemmas.Bool.Decides.{eqb_tells}
use Rattle.std.proofs.lemmas.List.Sums.{sum_by-cons}
use Rattle.circuit.specs.Signal.{piece_part, piece_width, sig_part, sig_width}
use Rattle.circuit.specs.Valid.{net_holds, piece_fits, reaches}
use Rattle.circuit.specs.declared.netlist.Net.{Net}
use Rattle.circuit.specs.declared.netlist.Piece.{Piece}
use Rattle.circuit.specs.declared.netlist.Piece.TheVariants as piece
use Rattle.rtlil_tree.specs.declared.sig.Slice.{Slice}
use Rattle.rtlil_tree.specs.declared.sig.Sig.{Sig, Sig-F, roll-Sig}
use Rattle.rtlil_tree.specs.declared.sig.SigPart.{SigPart, SigPart-F, map-SigPart, roll-SigPart}
use Rattle.rtlil_tree.specs.declared.sig.SigPart.TheFolds.{fold-SigPart, fold-roll-Sig, fold-roll-SigPart, ind-Sig}
use Rattle.rtlil_signals.specs.declared.scope.NamedNet.{NamedNet}
use Rattle.rtlil_signals.specs.declared.slice.Range.{Range}
use Rattle.rtlil_signals.specs.Slices.{chosen}
use Rattle.rtlil_signals.specs.Values.{const_value}
use Rattle.rtlil_signals.specs.Signals.{Scope, concatenated, cut, in_front, net_named, net_pieces, part_pieces, sig_of_part, sig_pieces, sliced, whole}
use Rattle.design_valid.specs.Wired.{IsThere, StandsOver}
use Rattle.design_valid.proofs.Lists.{all_both}

-- ---- bits of a signal

abbrev taken : ℕ → ℕ → Piece → ℕ
taken at width p = min (piece_width p - at) width

abbrev left : ℕ → ℕ → Piece → List Piece → List Piece
left at width p ps = sig_part (at - piece_width p) (width - taken at width p) ps

part_step : (at width : ℕ) (p : Piece) (ps : List Piece) → sig_part at width (p ∷ ps) ≡ cond (eqb (taken at width p) 0) (left at width p ps) (piece_part at (taken at width p) p ∷ left at width p ps)
unfolding sig_part
part_step at width p ps = refl

width_of_piece : (at width : ℕ) (p : Piece) → piece_width (piece_part at width p) ≡ width
width_of_piece at width (piece.Const v) = refl
width_of_piece at width (piece.Part net from all) = refl

-- a part has no more bits than it is to have
pub part_width : (at width : ℕ) (ps : List Piece) → sig_width (sig_part at width ps) ≤ width
unfolding sig_part
part_width at width [] = omega arith
part_width at width (p ∷ ps) =
    let rest : sig_width (left at width p ps) ≤ width - taken at width p = part_width (at - piece_width p) (width - taken at width p) ps in
    elim (eqb_tells (taken at width p) 0) [
      | inl t ↦
          (let e : sig_width (sig_part at width (p ∷ ps)) ≡ sig_width (left at width p ps) = ap sig_width (part_step at width p ps ∙ cond-true (eqb (taken at width p) 0) _ _ t.0) in
          omega (arith, e, rest))
      | inr f ↦
          (let e : sig_width (sig_part at width (p ∷ ps)) ≡ sig_width (piece_part at (taken at width p) p ∷ left at width p ps) = ap sig_width (part_step at width p ps ∙ cond-false (eqb (taken at width p) 0) _ _ f.0) in
          omega (arith, e, rest, width_of_piece at (taken at width p) p, sum_by-cons piece_width (piece_part at (taken at width p) p) (left at width p ps)))
    ]

-- and as many as it is to have, where they are there
pub part_is : (at width : ℕ) (ps : List Piece) → at + width ≤ sig_width ps → sig_width (sig_part at width ps) ≡ width
unfolding sig_part
part_is at width [] le = omega (arith, le)
part_is at width (p ∷ ps) le =
    let cons : sig_width (p ∷ ps) ≡ piece_width p + sig_width ps = sum_by-cons piece_width p ps in
    let rest : sig_width (left at width p ps) ≡ width - taken at width p = part_is (at - piece_width p) (width - taken at width p) ps (omega (arith, cons, le)) in
    elim (eqb_tells (taken at width p) 0) [
      | inl t ↦
          (let e : sig_width (sig_part at width (p ∷ ps)) ≡ sig_width (left at width p ps) = ap sig_width (part_step at width p ps ∙ cond-true (eqb (taken at width p) 0) _ _ t.0) in
          let z : taken at width p ≡ 0 = t.1 in
          omega (arith, e, rest, z))
      | inr f ↦
          (let e : sig_width (sig_part at width (p ∷ ps)) ≡ sig_width (piece_part at (taken at width p) p ∷ left at width p ps) = ap sig_width (part_step at width p ps ∙ cond-false (eqb (taken at width p) 0) _ _ f.0) in
          omega (arith, e, rest, width_of_piece at (taken at width p) p, sum_by-cons piece_width (piece_part at (taken at width p) p) (left at width p ps)))
    ]

reaches_less : (end more : ℕ) (net : Option Net) → end ≤ more → reaches more net ≡ true → reaches end net ≡ true
reaches_less end more None le h = h
reaches_less end more (Some x) le h = let m : more ≤ x.width = leb-true more x.width h in le-leb end x.width (omega arith)

pub holds_less : (nets : List Net) (net end more : ℕ) → end ≤ more → net_holds nets net more ≡ true → net_holds nets net end ≡ true
holds_less nets net end more le h = reaches_less end more (slice_get nets net) le h

module _ (nets : List Net) where
  piece_part_fits : (at t : ℕ) (p : Piece) → at + t ≤ piece_width p → piece_fits nets p ≡ true → piece_fits nets (piece_part at t p) ≡ true
  piece_part_fits at t (piece.Const v) le h = refl
  piece_part_fits at t (piece.Part net from all) le h = reaches_less (from + at + t) (from + all) (slice_get nets net) (omega (arith, le)) h

  pub part_pieces_fit : (at width : ℕ) (ps : List Piece) → list_all (piece_fits nets) ps ≡ true → list_all (piece_fits nets) (sig_part at width ps) ≡ true
  unfolding sig_part
  part_pieces_fit at width [] h = refl
  part_pieces_fit at width (p ∷ ps) h =
      let both = and_parts (piece_fits nets p) (list_all (piece_fits nets) ps) h in
      let rest : list_all (piece_fits nets) (left at width p ps) ≡ true = part_pieces_fit (at - piece_width p) (width - taken at width p) ps both.1 in
      elim (eqb_tells (taken at width p) 0) [
        | inl t ↦ ap (list_all (piece_fits nets)) (part_step at width p ps ∙ cond-true (eqb (taken at width p) 0) _ _ t.0) ∙ rest
        | inr f ↦
            (let ne : taken at width p ≢ 0 = f.1 in
            ap (list_all (piece_fits nets)) (part_step at width p ps ∙ cond-false (eqb (taken at width p) 0) _ _ f.0)
            ∙ and_from (piece_fits nets (piece_part at (taken at width p) p)) (list_all (piece_fits nets) (left at width p ps)) (piece_part_fits at (taken at width p) p (omega arith) both.0) rest)
      ]

  -- ---- whole nets and constants

  pub whole_fits : (p : Piece) → piece_fits nets p ≡ true → list_all (piece_fits nets) (whole p) ≡ true
  whole_fits p h = elim (nat_eq (piece_width p) 0) as (λ b. list_all (piece_fits nets) (cond b [] (piece_part 0 (piece_width p) p ∷ [])) ≡ true) [
    | true ↦ refl
    | false ↦ and_from (piece_fits nets (piece_part 0 (piece_width p) p)) true (piece_part_fits 0 (piece_width p) p (omega arith) h) refl
  ]

  pub net_there : (n : NamedNet) → IsThere nets n → net_holds nets n.net n.width ≡ true
  net_there n t = ap (reaches n.width) t.found ∙ le-leb n.width t.net.width (omega (arith, t.width))

  pub net_fits : (o : Option NamedNet) → ((n : NamedNet) → o ≡ Some n → IsThere nets n) → list_all (piece_fits nets) (net_pieces o) ≡ true
  net_fits None h = refl
  net_fits (Some n) h = let z : 0 + n.width ≡ n.width = omega arith in whole_fits (piece.Part n.net 0 n.width) (ap (λ k. reaches k (slice_get nets n.net)) z ∙ net_there n (h n refl))

  -- ---- signals, if there are some

  abbrev pub IsFitting : Option (List Piece) → Type 0
  IsFitting None = Unit {0}
  IsFitting (Some ps) = list_all (piece_fits nets) ps ≡ true

  front_fits : (least most : Option (List Piece)) → IsFitting least → IsFitting most → IsFitting (in_front least most)
  front_fits None most f g = tt
  front_fits (Some ps) None f g = tt
  front_fits (Some ps) (Some qs) f g = all_both (piece_fits nets) ps qs f g

  cut_fits : (ps : List Piece) (r : Option Range) → list_all (piece_fits nets) ps ≡ true → IsFitting (cut ps r)
  cut_fits ps None h = tt
  cut_fits ps (Some r) h = part_pieces_fit r.at r.width ps h

  pub sliced_fits : (ss : List Slice) (o : Option (List Piece)) → IsFitting o → IsFitting (option_and_then (sliced ss) o)
  sliced_fits ss None h = tt
  sliced_fits [] (Some ps) h = h
  sliced_fits (s ∷ ss) (Some ps) h = cut_fits ps (chosen (record { at = 0; width = sig_width ps }) (s ∷ ss)) h

  -- ---- signals of a tree

  module _ (scope : Scope) (stands : StandsOver scope nets) where
    abbrev DrawnFits : SigPart → Type 0
    DrawnFits p = IsFitting (fold-SigPart (Option (List Piece)) (Option (List Piece)) (part_pieces scope) sig_of_part p)

    abbrev SigFits : Sig → Type 0
    SigFits s = IsFitting (sig_pieces scope s)

    abbrev AllFit : List Sig → Type 0
    AllFit [] = Unit {0}
    AllFit (s ∷ ss) = SigFits s × AllFit ss

    abbrev PartsFit : SigPart-F SigPart Sig → Type 0
    PartsFit (SigPart-F.Const c) = Unit {0}
    PartsFit (SigPart-F.Wire name) = Unit {0}
    PartsFit (SigPart-F.Concatenation parts) = AllFit parts

    all_fit : (es : List ((s : Sig) × SigFits s)) → AllFit (map (λ e. e.0) es)
    all_fit [] = tt
    all_fit (e ∷ es) = (e.1, all_fit es)

    concatenated_fits : (ss : List Sig) → AllFit ss → IsFitting (concatenated (map (sig_pieces scope) ss))
    concatenated_fits [] h = refl
    concatenated_fits (s ∷ ss) h = front_fits (concatenated (map (sig_pieces scope) ss)) (sig_pieces scope s) (concatenated_fits ss h.1) h.0

    parts_fit : (y : SigPart-F ((p : SigPart) × DrawnFits p) ((s : Sig) × SigFits s)) → PartsFit (map-SigPart _ _ _ _ (λ e. e.0) (λ e. e.0) y)
    parts_fit (SigPart-F.Const c) = tt
    parts_fit (SigPart-F.Wire name) = tt
    parts_fit (SigPart-F.Concatenation parts) = all_fit parts

    drawn_fits : (x : SigPart-F SigPart Sig) → PartsFit x → DrawnFits (roll-SigPart x)
    unfolding sig_pieces
    drawn_fits (SigPart-F.Const c) h = subst IsFitting (sym (fold-roll-SigPart (Option (List Piece)) (Option (List Piece)) (part_pieces scope) sig_of_part (SigPart-F.Const c))) (whole_fits (piece.Const (const_value c)) refl)
    drawn_fits (SigPart-F.Wire name) h = subst IsFitting (sym (fold-roll-SigPart (Option (List Piece)) (Option (List Piece)) (part_pieces scope) sig_of_part (SigPart-F.Wire name))) (net_fits (net_named scope name) (λ n e. stands name n e))
    drawn_fits (SigPart-F.Concatenation parts) h = subst IsFitting (sym (fold-roll-SigPart (Option (List Piece)) (Option (List Piece)) (part_pieces scope) sig_of_part (SigPart-F.Concatenation parts))) (concatenated_fits parts h)

    rolled_fits : (x : Sig-F SigPart Sig) → DrawnFits x.part → SigFits (roll-Sig x)
    unfolding sig_pieces
    rolled_fits x h = subst IsFitting (sym (fold-roll-Sig (Option (List Piece)) (Option (List Piece)) (part_pieces scope) sig_of_part x)) (sliced_fits x.slices _ h)

    -- the pieces of a signal lie in nets that are there
    pub sig_fits_over : (s : Sig) → IsFitting (sig_pieces scope s)
    sig_fits_over s = ind-Sig DrawnFits SigFits (λ x y is. drawn_fits x (subst PartsFit is (parts_fit y))) (λ x y is. rolled_fits x (subst (λ (z : Sig-F SigPart Sig). DrawnFits z.part) is y.part.1)) s
