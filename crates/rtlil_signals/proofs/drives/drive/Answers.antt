use Rattle.std.proofs.Common.{◌≡◌, ◌++◌, ap, sym, ◌∙◌, arith, append-nil}
use Rattle.std.proofs.lemmas.List.{at_drop_all}
use Rattle.rtlil_signals.specs.Drives.{by_at, driven_from}
use Rattle.rtlil_signals.specs.Spans.{pieces_of}
use Rattle.rtlil_signals.proofs.Driving.{driven_more, driven_none, width_left}
use Rattle.rtlil_signals.proofs.drives.drive.Goals as goal

pub loop-part-preserved : goal.loop-part-preserved
loop-part-preserved c =
    let l = c.loop-part in
    record {
      same = sym (driven_more (by_at c.args.source) l.at c.width.result c.args.left.now l.part-index c.part-item.result l.drives c.drive_bits.new.drives c.loop-part-test.true c.part-item.is c.width.ensures.value c.in_ok-drive_bits.ensures) ∙ l.invariant.same;
      bits = omega (arith, l.invariant.bits, c.width.ensures.value, width_left c.args.left.now l.part-index c.part-item.result c.loop-part-test.true c.part-item.is);
    }

pub returns : goal.returns
returns c =
    let l = c.loop-part in
    sym (append-nil l.drives) ∙ ap (λ ds. l.drives ++ ds) (sym (at_drop_all (λ ss. driven_from (by_at c.args.source) l.at (pieces_of ss)) c.args.left.now l.part-index c.loop-part-test.false ∙ driven_none (by_at c.args.source) l.at)) ∙ l.invariant.same
