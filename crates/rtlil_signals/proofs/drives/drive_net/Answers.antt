use Rattle.std.proofs.Common.{◌≡◌, ◌++◌, ap, sym, ◌∙◌, arith, append-nil}
use Rattle.std.proofs.lemmas.List.{at_drop_all}
use Rattle.rtlil_signals.specs.Drives.{by_of, onto}
use Rattle.rtlil_signals.specs.Spans.{pieces_of}
use Rattle.rtlil_signals.proofs.Driving.{onto_more, onto_none, width_left}
use Rattle.rtlil_signals.proofs.drives.drive_net.Goals as goal

pub loop-part-preserved : goal.loop-part-preserved
loop-part-preserved c =
    let l = c.loop-part in
    record {
      same = sym (onto_more c.args.net l.next c.width-width.result c.by_of-by.result c.args.parts.now l.part-index c.part-item.result l.drives c.push.new.self c.loop-part-test.true c.part-item.is c.width-width.ensures.value (c.by_of-by.ensures ∙ ap by_of c.in_ok-piece_of.ensures) c.in_ok-push.ensures.ok) ∙ l.invariant.same;
      bits = omega (arith, l.invariant.bits, c.width-width.ensures.value, width_left c.args.parts.now l.part-index c.part-item.result c.loop-part-test.true c.part-item.is);
    }

pub returns : goal.returns
returns c =
    let l = c.loop-part in
    sym (append-nil l.drives) ∙ ap (λ ds. l.drives ++ ds) (sym (at_drop_all (λ ss. onto c.args.net l.next (pieces_of ss)) c.args.parts.now l.part-index c.loop-part-test.false ∙ onto_none c.args.net l.next)) ∙ l.invariant.same
