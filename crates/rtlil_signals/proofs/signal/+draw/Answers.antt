use Rattle.std.proofs.Common.{◌≡◌, ◌∙◌, ◌-◌, IfOk, None, List, Option, Some, ap, arith, length, option_and_then, option_map, subst, sym}
use Rattle.circuit.specs.declared.netlist.Piece.{Piece}
use Rattle.rtlil_tree.specs.declared.sig.Sig.{out-Sig}
use Rattle.rtlil_signals.specs.Signals.{concatenated, sig_pieces, sliced}
use Rattle.rtlil_signals.specs.Spans.{pieces_of}
use Rattle.rtlil_signals.proofs.Folds.{drawn_part, none_at, pieces_of_parts, pieces_out}
use Rattle.rtlil_signals.proofs.signal.+draw.Goals as goal

pub concatenated-returns-in_default : goal.concatenated-returns-in_default
concatenated-returns-in_default t c =
    let none : ◌≡◌ {A = Option (List Piece)} (sig_pieces c.args.scope.now c.index-parts-parts.result) None = sym c.in_ok-spans.ensures ∙ ap (option_map pieces_of) c.in_default.is in
    sym (none_at (sig_pieces c.args.scope.now) c.args.parts.now (length c.args.parts.now - 1 - c.loop-done.done) c.index-parts-parts.result (omega arith) c.index-parts-parts.is none)

pub part_spans-returns-in-Concatenation : goal.part_spans-returns-in-Concatenation
part_spans-returns-in-Concatenation t c =
    let e = pieces_of_parts c.args.scope.now c.args.part.now c.in-Concatenation.parts c.in-Concatenation.is in
    subst (λ (o : Option (List Piece)). IfOk c.concatenated.result (λ found. option_map pieces_of found ≡ o)) (sym e) (rw c.as_slice.ensures at c.concatenated.ensures)

pub spans_of-returns-in-Some : goal.spans_of-returns-in-Some
spans_of-returns-in-Some t c =
    let part : ◌≡◌ {A = Option (List Piece)} (drawn_part c.args.scope.now (out-Sig c.args.sig.now).part) (Some (pieces_of c.in-Some.spans)) = sym c.in_ok-spans.ensures ∙ ap (option_map pieces_of) c.in-Some.is in
    let e = pieces_out c.args.scope.now c.args.sig.now ∙ ap (option_and_then (sliced (out-Sig c.args.sig.now).slices)) part in
    subst (λ (o : Option (List Piece)). IfOk c.sliced.result (λ found. option_map pieces_of found ≡ o)) (sym e) (rw c.as_slice.ensures at c.sliced.ensures)

pub spans_of-returns-in-None : goal.spans_of-returns-in-None
spans_of-returns-in-None t c =
    let part : ◌≡◌ {A = Option (List Piece)} (drawn_part c.args.scope.now (out-Sig c.args.sig.now).part) None = sym c.in_ok-spans.ensures ∙ ap (option_map pieces_of) c.in-None.is in
    sym (pieces_out c.args.scope.now c.args.sig.now ∙ ap (option_and_then (sliced (out-Sig c.args.sig.now).slices)) part)
