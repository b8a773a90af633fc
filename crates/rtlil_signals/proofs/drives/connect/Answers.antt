use Rattle.std.proofs.Common.{◌≡◌, ◌≤◌, ◌++◌, ap, sym, subst, ◌∙◌, arith, append-nil, drop, take, length, ◌+◌, ◌-◌, ℕ}
use Rattle.std.proofs.lemmas.List.{take_rest}
use Rattle.std.proofs.lemmas.List.{at_drop_all}
use Rattle.circuit.specs.Signal.{sig_part, sig_width}
use Rattle.rtlil_signals.specs.Drives.{bit_of, connected_from}
use Rattle.rtlil_signals.specs.Spans.{pieces_of}
use Rattle.rtlil_signals.proofs.Driving.{connected_more, connected_none, part_width, skip_parts}
use Rattle.rtlil_signals.proofs.drives.connect.Goals as goal

pub drive_part-requires : goal.drive_part-requires
drive_part-requires c =
    let at = c.settled-position.result in
    let rest = take (length c.args.right.now - at.part) (drop at.part c.args.right.now) in
    let cut : pieces_of c.as_slice.result.now ≡ sig_part at.skipped c.width-width.result (pieces_of rest) = ap pieces_of c.as_slice.ensures ∙ c.in_ok-by.ensures in
    omega (arith, c.width-width.ensures.value, ap sig_width cut, part_width at.skipped c.width-width.result (pieces_of rest))

pub loop-part-preserved : goal.loop-part-preserved
loop-part-preserved c =
    let l = c.loop-part in
    let at = c.settled-position.result in
    let cut : pieces_of c.as_slice.result.now ≡ sig_part (bit_of c.args.right.now at) c.width-width.result (pieces_of c.args.right.now) =
    ap pieces_of c.as_slice.ensures ∙ c.in_ok-by.ensures
    ∙ ap (λ ss. sig_part at.skipped c.width-width.result (pieces_of ss)) (take_rest c.args.right.now at.part)
    ∙ sym (skip_parts at.part at.skipped c.width-width.result c.args.right.now) in
    let more = connected_more (bit_of c.args.right.now at) c.width-width.result c.args.left.now c.args.right.now (pieces_of c.as_slice.result.now) l.part-index c.part-item.result l.drives c.drive_part.new.drives c.loop-part-test.true c.part-item.is c.width-width.ensures.value cut c.in_ok-drive_part.ensures in
    let rest = λ (k : ℕ). connected_from k (pieces_of (drop (l.part-index + 1) c.args.left.now)) (pieces_of c.args.right.now) in
    let onwards : sig_width (pieces_of (take at.part c.args.right.now)) + (at.skipped + c.width-width.result) ≡ bit_of c.args.right.now at + c.width-width.result = omega arith in
    record {
      same = ap (λ k. c.drive_part.new.drives ++ rest k) onwards ∙ sym more ∙ ap (λ k. l.drives ++ connected_from k (pieces_of (drop l.part-index c.args.left.now)) (pieces_of c.args.right.now)) c.settled-position.ensures.same ∙ l.invariant.same;
      within = c.settled-position.ensures.within l.invariant.within;
      small = omega (arith, l.invariant.small, c.settled-position.ensures.near);
    }

pub returns : goal.returns
returns c =
    let l = c.loop-part in
    sym (append-nil l.drives) ∙ ap (λ ds. l.drives ++ ds) (sym (at_drop_all (λ ss. connected_from (bit_of c.args.right.now l.position) (pieces_of ss) (pieces_of c.args.right.now)) c.args.left.now l.part-index c.loop-part-test.false ∙ connected_none (bit_of c.args.right.now l.position) (pieces_of c.args.right.now))) ∙ l.invariant.same
