use Rattle.std.proofs.Common.{◌≡◌, ℕ, ◌+◌, ◌*◌, ◌^◌, ◌≤◌, List, ◌++◌, ◌∷◌, [], length, sym, ◌∙◌, ap, subst, arith, Some}
use Rattle.std.specs.Prelude.{slice_get}
use Rattle.circuit.specs.Valid.{piece_fits}
use Rattle.circuit.specs.declared.netlist.Net.{Net}
use Rattle.circuit.specs.declared.netlist.Piece.{Piece}
use Rattle.driver_check.specs.Numbers.{before, bit_count, width_of}
use Rattle.driver_check.specs.Vertices.{piece_spans, span_of}
use Rattle.driver_check.proofs.Fitting.{bits_bound, holds_net}
use Rattle.driver_check.proofs.rows.push_piece.Goals as goal

pub number-requires-clause-inside : goal.number-requires-clause-inside
number-requires-clause-inside c =
    let x = holds_net c.args.circuit.now c.in-Part.net (c.in-Part.at + c.in-Part.width) (sym (ap (piece_fits c.args.circuit.now.nets) c.in-Part.is) ∙ c.requires.fits) in
    subst (λ (nets : List Net). (n : Net) × (slice_get nets c.in-Part.net ≡ Some n) × (c.in-Part.at ≤ n.width)) (sym c.as_slice.ensures) (x.0, x.1, omega (arith, x.2))

pub number-requires-clause-few : goal.number-requires-clause-few
number-requires-clause-few c =
    let h : bit_count c.args.circuit.now.nets ≤ 65536 * 2 ^ 32 = bits_bound c.args.circuit.now c.requires.valid (length c.args.circuit.now.nets) in
    let e = ap (λ (nets : List Net). bit_count nets) c.as_slice.ensures in
    omega (arith, h, e)

pub returns-in_ok-push : goal.returns-in_ok-push
returns-in_ok-push c =
    let e : c.number.result ≡ before width_of c.args.circuit.now.nets c.in-Part.net + c.in-Part.at =
    c.number.ensures.value ∙ ap (λ (nets : List Net). before width_of nets c.in-Part.net + c.in-Part.at) c.as_slice.ensures in
    c.in_ok-push.ensures.ok
    ∙ ap (λ (n : ℕ). c.args.spans.now ++ span_of n c.in-Part.width ∷ []) e
    ∙ sym (ap (λ (p : Piece). c.args.spans.now ++ piece_spans c.args.circuit.now.nets p) c.in-Part.is)
