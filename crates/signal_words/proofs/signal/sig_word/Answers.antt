use Rattle.std.proofs.Common.{◌≡◌, ◌+◌, ◌*◌, ◌%◌, ◌^◌, ◌<◌, ◌≤◌, length, take, refl, sym, ◌∙◌, ap, subst, arith, lit<}
use Rattle.circuit.specs.Signal.{sig_number, sig_width, piece_number, piece_width}
use Rattle.signal_words.specs.Values.{digits_in}
use Rattle.signal_words.proofs.Numbers.{put_above}
use Rattle.signal_words.proofs.Signals.{sig_more, width_more, width_inside, inside_at}
use Rattle.signal_words.proofs.signal.sig_word.Goals as goal
use Rattle.signal_words.proofs.signal.sig_word.Goals.{then-part-gt0, else-part-gt0}

pub loop-piece-init : goal.loop-piece-init
unfolding sig_number
loop-piece-init c = record { offset = refl; word = refl; below = lit< tt }

pub piece_sig_word-part-requires-clause-inside : goal.piece_sig_word-part-requires-clause-inside
piece_sig_word-part-requires-clause-inside c =
    inside_at c.args.nets.now c.args.sig.now c.loop-piece.piece-index c.piece-item.result c.requires.inside c.loop-piece-test.true c.piece-item.is

pub piece_sig_word-part-requires-clause-small : goal.piece_sig_word-part-requires-clause-small
piece_sig_word-part-requires-clause-small c =
    omega (arith, width_inside c.args.sig.now c.loop-piece.piece-index c.piece-item.result c.loop-piece-test.true c.piece-item.is, c.requires.small)

pub overflow_add-word : goal.overflow_add-word
overflow_add-word c =
    let s = put_above c.loop-piece.offset (piece_width c.piece-item.result) c.piece_sig_word-part.result.number c.loop-piece.word c.loop-piece.invariant.below c.piece_sig_word-part.ensures.below
    (omega (arith, width_inside c.args.sig.now c.loop-piece.piece-index c.piece-item.result c.loop-piece-test.true c.piece-item.is, c.loop-piece.invariant.offset, c.requires.small)) in
    let f : c.loop-piece.word + c.piece_sig_word-part.result.number * 2 ^ c.loop-piece.offset % 2 ^ 64 < 2 ^ 64 = s.fits in
    omega (arith, f)

pub loop-piece-preserved : goal.loop-piece-preserved
loop-piece-preserved c =
    let lt : c.loop-piece.piece-index < length c.args.sig.now = c.loop-piece-test.true in
    let wide : c.loop-piece.offset + c.piece_sig_word-part.result.width ≡ sig_width (take (c.loop-piece.piece-index + 1) c.args.sig.now) =
    omega (arith, width_more c.args.sig.now c.loop-piece.piece-index c.piece-item.result lt c.piece-item.is, c.loop-piece.invariant.offset, c.piece_sig_word-part.ensures.width) in
    let inside : c.loop-piece.offset + piece_width c.piece-item.result ≤ 64 =
    omega (arith, width_inside c.args.sig.now c.loop-piece.piece-index c.piece-item.result lt c.piece-item.is, c.loop-piece.invariant.offset, c.requires.small) in
    let number : c.piece_sig_word-part.result.number * 2 ^ c.loop-piece.offset + c.loop-piece.word ≡ sig_number (digits_in c.args.nets.now) (take (c.loop-piece.piece-index + 1) c.args.sig.now) =
    ap (λ x. x * 2 ^ c.loop-piece.offset + c.loop-piece.word) c.piece_sig_word-part.ensures.number
    ∙ ap (λ x. piece_number (digits_in c.args.nets.now) c.piece-item.result * 2 ^ c.loop-piece.offset + x) c.loop-piece.invariant.word
    ∙ ap (λ x. piece_number (digits_in c.args.nets.now) c.piece-item.result * 2 ^ x + sig_number (digits_in c.args.nets.now) (take c.loop-piece.piece-index c.args.sig.now)) c.loop-piece.invariant.offset
    ∙ sym (sig_more (digits_in c.args.nets.now) c.args.sig.now c.loop-piece.piece-index c.piece-item.result lt c.piece-item.is) in
    let s = put_above c.loop-piece.offset (piece_width c.piece-item.result) c.piece_sig_word-part.result.number c.loop-piece.word c.loop-piece.invariant.below c.piece_sig_word-part.ensures.below inside in
    let below : c.piece_sig_word-part.result.number * 2 ^ c.loop-piece.offset + c.loop-piece.word < 2 ^ (c.loop-piece.offset + c.piece_sig_word-part.result.width) =
    subst (λ w. c.piece_sig_word-part.result.number * 2 ^ c.loop-piece.offset + c.loop-piece.word < 2 ^ (c.loop-piece.offset + w)) (sym c.piece_sig_word-part.ensures.width) s.below in
    elim c.if-part-gt0.branch [
      | then-part-gt0 w ↦
          (let is : c.if-part-gt0.word ≡ c.piece_sig_word-part.result.number * 2 ^ c.loop-piece.offset + c.loop-piece.word = w.word-is ∙ s.sum in
          record { offset = wide; word = is ∙ number; below = rw is below })
      | else-part-gt0 w ↦
          (let none : piece_width c.piece-item.result ≡ 0 = omega (arith, w.if-part-gt0.false, c.piece_sig_word-part.ensures.width) in
          let zero : c.piece_sig_word-part.result.number < 1 = subst (λ k. c.piece_sig_word-part.result.number < 2 ^ k) none c.piece_sig_word-part.ensures.below in
          let z : c.piece_sig_word-part.result.number ≡ 0 = omega (arith, zero) in
          let p : 0 * 2 ^ c.loop-piece.offset + c.loop-piece.word ≡ c.loop-piece.word = omega arith in
          let is : c.if-part-gt0.word ≡ c.piece_sig_word-part.result.number * 2 ^ c.loop-piece.offset + c.loop-piece.word = w.word-is ∙ sym (ap (λ x. x * 2 ^ c.loop-piece.offset + c.loop-piece.word) z ∙ p) in
          record { offset = wide; word = is ∙ number; below = rw is below })
    ]
