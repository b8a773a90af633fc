use Rattle.std.proofs.Common.{◌≡◌, ◌/◌, ◌%◌, ◌^◌, ◌<◌, ◌∙◌, ap, subst, sym, arith}
use Rattle.std.proofs.Math.Nat.{mod-eq_of_lt}
use Rattle.std.proofs.lemmas.Nat.{shr-shr, mod_below, pow_pos}
use Rattle.circuit.specs.Signal.{sig_number}
use Rattle.sim_base.specs.BitValue.{BitValue}
use Rattle.sim_base.specs.Values.{width_at}
use Rattle.sim_base.proofs.Filling.{filling_all, filling_below, filling_more, filling_none, filling_there, word_part}
use Rattle.signal_words.specs.Values.{digits_in}
use Rattle.signal_words.proofs.Signals.{are_bits}
use Rattle.state_cells.proofs.register.put_words.Goals as goal

pub loop-at-init : goal.loop-at-init
loop-at-init c = record {
  left = ap (λ (v : BitValue). v.number) c.new-reader.ensures ∙ omega arith;
  filling = filling_none c.args.into.now c.args.out (sig_number (digits_in c.args.nets.now) c.args.sig.now) c.sig_width-width.result;
}

width_is : (c : goal.After-put_word_at-arg-1) → c.sig_width-width.result ≡ width_at c.args.into.now c.args.out
width_is c = c.sig_width-width.ensures.value ∙ sym c.requires.width

below : (c : goal.After-put_word_at-arg-1) → c.take-word.result < 2 ^ c.min-n.result
below c = subst (λ x. x < 2 ^ c.min-n.result) (sym c.take-word.ensures.word) (mod_below c.loop-at.reader.number (2 ^ c.min-n.result) (pow_pos c.min-n.result))

pub put_word_at-changed-requires-clause-there : goal.put_word_at-changed-requires-clause-there
put_word_at-changed-requires-clause-there c = filling_there _ _ _ _ _ _ _ c.loop-at.invariant.filling c.requires.there

pub put_word_at-changed-requires-clause-inside : goal.put_word_at-changed-requires-clause-inside
put_word_at-changed-requires-clause-inside c =
    (filling_below _ _ _ _ _ _ c.min-n.result c.take-word.result _ c.loop-at.invariant.filling c.loop-at-test.true c.min-n.ensures (width_is c) (below c)).0

pub put_word_at-changed-requires-clause-below : goal.put_word_at-changed-requires-clause-below
put_word_at-changed-requires-clause-below c =
    (filling_below _ _ _ _ _ _ c.min-n.result c.take-word.result _ c.loop-at.invariant.filling c.loop-at-test.true c.min-n.ensures (width_is c) (below c)).1

pub loop-at-preserved : goal.loop-at-preserved
loop-at-preserved c =
    let x = sig_number (digits_in c.args.nets.now) c.args.sig.now in
    let fits : x < 2 ^ c.sig_width-width.result = subst (λ w. x < 2 ^ w) (sym c.sig_width-width.ensures.value) (c.sig_width-width.ensures.below (digits_in c.args.nets.now) (are_bits c.args.nets.now)) in
    record {
      left = ap (λ (v : BitValue). v.number) c.take-word.ensures.rest ∙ ap (λ m. m / 2 ^ c.min-n.result) c.loop-at.invariant.left ∙ shr-shr _ c.loop-at.at c.min-n.result;
      filling = filling_more _ _ _ _ _ _ _ c.min-n.result c.take-word.result _ _ c.loop-at.invariant.filling c.loop-at-test.true c.min-n.ensures
          (record { value = c.put_word_at-changed.ensures.value; bits = c.put_word_at-changed.ensures.bits; changed = c.put_word_at-changed.ensures.changed })
          (c.take-word.ensures.word ∙ ap (λ m. m % 2 ^ c.min-n.result) c.loop-at.invariant.left ∙ word_part x c.sig_width-width.result c.loop-at.at c.min-n.result c.loop-at-test.true c.min-n.ensures
          ∙ ap (λ m. m / 2 ^ c.loop-at.at % 2 ^ 64) (mod-eq_of_lt fits));
    }

pub returns : goal.returns
returns c =
    let x = sig_number (digits_in c.args.nets.now) c.args.sig.now in
    let fits : x < 2 ^ c.sig_width-width.result = subst (λ w. x < 2 ^ w) (sym c.sig_width-width.ensures.value) (c.sig_width-width.ensures.below (digits_in c.args.nets.now) (are_bits c.args.nets.now)) in
    filling_all _ _ _ _ _ _ _ c.loop-at.invariant.filling c.loop-at-test.false (c.sig_width-width.ensures.value ∙ sym c.requires.width) c.width.ensures.below fits
