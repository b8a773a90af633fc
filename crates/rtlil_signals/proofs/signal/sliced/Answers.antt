use Rattle.std.proofs.Common.{◌≡◌, ◌∙◌, Some, [], arith, false, true, List, Option, ap, sym}
use Rattle.std.proofs.lemmas.Grind.{common_steps}
use Rattle.circuit.specs.Signal.{sig_part, sig_width}
use Rattle.circuit.specs.declared.netlist.Piece.{Piece}
use Rattle.rtlil_signals.specs.Signals.{cut}
use Rattle.rtlil_signals.specs.Slices.{chosen}
use Rattle.rtlil_signals.specs.Spans.{pieces_of}
use Rattle.rtlil_signals.proofs.Cuts.{sliced_by}
use Rattle.rtlil_signals.proofs.signal.sliced.Goals as goal

pub returns-in_default : goal.returns-in_default
returns-in_default c =
    let some : c.args.slices.now ≡ [] → ⊥ = grind (arith, common_steps) in
    let width : c.width_of.result ≡ sig_width (pieces_of c.args.spans) = c.width_of.ensures ∙ ap (λ s. sig_width (pieces_of s)) c.as_slice.ensures in
    let e = sliced_by c.args.slices.now (pieces_of c.args.spans) c.chosen.result some (ap (λ w. chosen (record { at = 0; width = w }) c.args.slices.now) (sym width) ∙ sym c.chosen.ensures) in
    sym (e ∙ ap (cut (pieces_of c.args.spans)) c.in_default.is)

pub returns : goal.returns
returns c =
    let some : c.args.slices.now ≡ [] → ⊥ = grind (arith, common_steps) in
    let width : c.width_of.result ≡ sig_width (pieces_of c.args.spans) = c.width_of.ensures ∙ ap (λ s. sig_width (pieces_of s)) c.as_slice.ensures in
    let e = sliced_by c.args.slices.now (pieces_of c.args.spans) c.chosen.result some (ap (λ w. chosen (record { at = 0; width = w }) c.args.slices.now) (sym width) ∙ sym c.chosen.ensures) in
    let made : pieces_of c.in_ok-part_of.field-0 ≡ sig_part c.in-Some.range.at c.in-Some.range.width (pieces_of c.args.spans) = c.in_ok-part_of.ensures ∙ ap (λ s. sig_part c.in-Some.range.at c.in-Some.range.width (pieces_of s)) c.as_slice-2.ensures in
    ap Some made ∙ sym (e ∙ ap (cut (pieces_of c.args.spans)) c.in-Some.is)
