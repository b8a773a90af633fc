-- Drives of signals that fit.
use Rattle.std.proofs.Common.{◌≡◌, ℕ, ◌+◌, ◌≤◌, List, [], ◌∷◌, true, refl, sym, ◌∙◌, ap, arith, ◌&&◌}
use Rattle.std.specs.List.{list_all}
use Rattle.std.proofs.lemmas.Bool.{and_parts, and_from, eq-eqb}
use Rattle.std.proofs.lemmas.List.Sums.{sum_by-cons}
use Rattle.circuit.specs.Signal.{piece_width, sig_part, sig_width}
use Rattle.circuit.specs.Valid.{Drivers, drive_fits, driver_fits, net_holds, piece_fits}
use Rattle.circuit.specs.declared.netlist.By.{By}
use Rattle.circuit.specs.declared.netlist.Piece.{Piece}
use Rattle.circuit.specs.declared.netlist.Piece.TheVariants as piece
use Rattle.rtlil_signals.specs.Drives.{by_of, connected_from, driven, driven_from, onto}
use Rattle.design_valid.proofs.Lists.{all_both}
use Rattle.design_valid.proofs.Sigs.{holds_less, part_pieces_fit, part_width}

module _ (from : Drivers) where
  by_fits : (p : Piece) → piece_fits from.nets p ≡ true → driver_fits from (piece_width p) (by_of p) ≡ true
  by_fits (piece.Const v) h = eq-eqb v.width v.width refl
  by_fits (piece.Part net at width) h = h

  -- pieces that drive a net
  onto_fits : (net at : ℕ) (ps : List Piece) → net_holds from.nets net (at + sig_width ps) ≡ true → list_all (piece_fits from.nets) ps ≡ true → list_all (drive_fits from) (onto net at ps) ≡ true
  unfolding onto
  onto_fits net at [] h f = refl
  onto_fits net at (p ∷ ps) h f =
      let both = and_parts (piece_fits from.nets p) (list_all (piece_fits from.nets) ps) f in
      let cons : sig_width (p ∷ ps) ≡ piece_width p + sig_width ps = sum_by-cons piece_width p ps in
      let end : at + sig_width (p ∷ ps) ≡ at + piece_width p + sig_width ps = omega (arith, cons) in
      and_from (net_holds from.nets net (at + piece_width p) && driver_fits from (piece_width p) (by_of p)) (list_all (drive_fits from) (onto net (at + piece_width p) ps))
      (and_from (net_holds from.nets net (at + piece_width p)) (driver_fits from (piece_width p) (by_of p)) (holds_less from.nets net (at + piece_width p) (at + sig_width (p ∷ ps)) (omega (arith, cons)) h) (by_fits p both.0))
      (onto_fits net (at + piece_width p) ps (ap (net_holds from.nets net) (sym end) ∙ h) both.1)

  driven_piece_fits : (p : Piece) (ps : List Piece) → sig_width ps ≤ piece_width p → piece_fits from.nets p ≡ true → list_all (piece_fits from.nets) ps ≡ true → list_all (drive_fits from) (driven p ps) ≡ true
  driven_piece_fits (piece.Const v) ps le h f = refl
  driven_piece_fits (piece.Part net at width) ps le h f = onto_fits net at ps (holds_less from.nets net (at + sig_width ps) (at + width) (omega (arith, le)) h) f

  -- a signal that another one drives
  pub connected_fits : (done : ℕ) (ps right : List Piece) → list_all (piece_fits from.nets) ps ≡ true → list_all (piece_fits from.nets) right ≡ true → list_all (drive_fits from) (connected_from done ps right) ≡ true
  unfolding connected_from
  connected_fits done [] right f g = refl
  connected_fits done (p ∷ ps) right f g =
      let both = and_parts (piece_fits from.nets p) (list_all (piece_fits from.nets) ps) f in
      let part : List Piece = sig_part done (piece_width p) right in
      all_both (drive_fits from) (driven p part) (connected_from (done + piece_width p) ps right)
      (driven_piece_fits p part (part_width done (piece_width p) right) both.0 (part_pieces_fit from.nets done (piece_width p) right g))
      (connected_fits (done + piece_width p) ps right both.1 g)

  -- a signal that a source of as many bits drives
  pub driven_fits : (source : ℕ → By) (done : ℕ) (ps : List Piece) → list_all (piece_fits from.nets) ps ≡ true → ((at width : ℕ) → at + width ≤ done + sig_width ps → driver_fits from width (source at) ≡ true)
      → list_all (drive_fits from) (driven_from source done ps) ≡ true
  unfolding driven_from
  driven_fits source done [] f h = refl
  driven_fits source done (piece.Const v ∷ ps) f h =
      let cons : sig_width (piece.Const v ∷ ps) ≡ v.width + sig_width ps = sum_by-cons piece_width (piece.Const v) ps in
      driven_fits source (done + v.width) ps (and_parts (piece_fits from.nets (piece.Const v)) (list_all (piece_fits from.nets) ps) f).1 (λ at w le. h at w (omega (arith, cons, le)))
  driven_fits source done (piece.Part net at width ∷ ps) f h =
      let both = and_parts (piece_fits from.nets (piece.Part net at width)) (list_all (piece_fits from.nets) ps) f in
      let cons : sig_width (piece.Part net at width ∷ ps) ≡ width + sig_width ps = sum_by-cons piece_width (piece.Part net at width) ps in
      and_from (net_holds from.nets net (at + width) && driver_fits from width (source done)) (list_all (drive_fits from) (driven_from source (done + width) ps))
      (and_from (net_holds from.nets net (at + width)) (driver_fits from width (source done)) both.0 (h done width (omega (arith, cons))))
      (driven_fits source (done + width) ps both.1 (λ a w le. h a w (omega (arith, cons, le))))
