use Rattle.std.proofs.Common.{◌≡◌, ◌++◌, ◌-◌, ◌+◌, drop, min, [], ap, sym, ◌∙◌, append-nil}
use Rattle.std.proofs.lemmas.List.{at_drop_all}
use Rattle.rtlil_signals.specs.Spans.{piece_of, pieces_of, some_part}
use Rattle.circuit.specs.Signal.{piece_width, sig_part}
use Rattle.rtlil_signals.proofs.Cuts.{part_more, part_end}
use Rattle.rtlil_signals.proofs.span.part_of.Goals as goal

pub loop-span-preserved : goal.loop-span-preserved
loop-span-preserved c =
    let p = piece_of c.span-item.result in
    let size : c.min-taken.result ≡ min (piece_width p - c.loop-span.skipped) c.loop-span.left = c.min-taken.ensures ∙ ap (λ k. min k c.loop-span.left) (c.saturating_sub.ensures ∙ ap (λ k. k - c.loop-span.skipped) c.width-all.ensures.value) in
    let pushed : pieces_of c.push_part.new.found ≡ pieces_of c.loop-span.found ++ some_part c.loop-span.skipped (min (piece_width p - c.loop-span.skipped) c.loop-span.left) p = c.in_ok-push_part.ensures ∙ ap (λ k. pieces_of c.loop-span.found ++ some_part c.loop-span.skipped k p) size in
    let more = part_more c.loop-span.skipped c.loop-span.left c.args.spans.now c.loop-span.span-index c.span-item.result (pieces_of c.loop-span.found) (pieces_of c.push_part.new.found) c.loop-span-test.true c.span-item.is pushed in
    let rest = pieces_of (drop (c.loop-span.span-index + 1) c.args.spans.now) in
    let skipped : c.saturating_sub-skipped.result ≡ c.loop-span.skipped - piece_width p = c.saturating_sub-skipped.ensures ∙ ap (λ k. c.loop-span.skipped - k) c.width-all.ensures.value in
    c.loop-span.invariant ∙ more ∙ ap (λ k. pieces_of c.push_part.new.found ++ sig_part (c.loop-span.skipped - piece_width p) (c.loop-span.left - k) rest) (sym size) ∙ ap (λ k. pieces_of c.push_part.new.found ++ sig_part k (c.loop-span.left - c.min-taken.result) rest) (sym skipped)

pub returns : goal.returns
returns c = sym (c.loop-span.invariant ∙ ap (λ r. pieces_of c.loop-span.found ++ r) (at_drop_all (λ s. sig_part c.loop-span.skipped c.loop-span.left (pieces_of s)) c.args.spans.now c.loop-span.span-index c.loop-span-test.false ∙ part_end c.loop-span.skipped c.loop-span.left) ∙ append-nil (pieces_of c.loop-span.found))
