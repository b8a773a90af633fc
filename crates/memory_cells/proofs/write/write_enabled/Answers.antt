use Rattle.std.proofs.Common.{◌≤◌, ◌+◌, ◌/◌, ◌^◌, ◌∙◌, ap, arith}
use Rattle.std.proofs.lemmas.Nat.{shr-shr}
use Rattle.circuit.specs.Signal.{gathered, sig_number}
use Rattle.sim_base.specs.BitValue.{BitValue, bit_value}
use Rattle.signal_words.specs.Values.{digits_in}
use Rattle.memory_cells.proofs.Placed.{placed_further, placed_whole}
use Rattle.memory_cells.specs.Ports.{masked_digit}
use Rattle.memory_cells.proofs.MaskedDigits.{PartOf, part_digit, masked_below}
use Rattle.memory_cells.proofs.write.write_enabled.Goals as goal

pub loop-at-preserved : goal.loop-at-preserved
loop-at-preserved c =
    let en = sig_number (digits_in c.args.now.now) c.args.port.now.en in
    let word = sig_number (digits_in c.args.now.now) c.args.port.now.word in
    let inside : c.loop-at.at + c.min-n.result ≤ c.width-width.result = omega (arith, c.min-n.ensures, c.loop-at-test.true) in
    let part : PartOf en word c.args.row.now.number c.loop-at.row.number c.loop-at.at c.min-n.result c.masked.result = record {
      en_left = c.loop-at.en.number;
      word_left = c.loop-at.word.number;
      en_taken = c.take-mask.result;
      word_taken = c.take.result;
      own = c.field-own.result;
      small = omega (arith, c.min-n.ensures);
      en_is = c.loop-at.invariant.en;
      word_is = c.loop-at.invariant.word;
      en_word = c.take-mask.ensures.word;
      word_word = c.take.ensures.word;
      own_is = c.field-own.ensures;
      digits = c.masked.ensures;
      high = c.loop-at.invariant.placed.high;
    } in
    record {
      inside = inside;
      width = c.put_field.ensures.width ∙ c.loop-at.invariant.width;
      below = c.put_field.ensures.below;
      en = ap (λ (v : BitValue). v.number) c.take-mask.ensures.rest ∙ ap (λ m. m / 2 ^ c.min-n.result) c.loop-at.invariant.en ∙ shr-shr _ c.loop-at.at c.min-n.result;
      word = ap (λ (v : BitValue). v.number) c.take.ensures.rest ∙ ap (λ m. m / 2 ^ c.min-n.result) c.loop-at.invariant.word ∙ shr-shr _ c.loop-at.at c.min-n.result;
      placed = placed_further _ _ c.loop-at.at c.min-n.result c.masked.result _ _ c.loop-at.invariant.placed c.put_field.ensures.bits
          (λ j lt. part_digit en word c.args.row.now.number c.loop-at.row.number c.loop-at.at c.min-n.result c.masked.result c.width-width.result j part inside lt);
    }

pub returns : goal.returns
returns c =
    let en = sig_number (digits_in c.args.now.now) c.args.port.now.en in
    let word = sig_number (digits_in c.args.now.now) c.args.port.now.word in
    let target = gathered (masked_digit en word c.args.row.now.number) in
    placed_whole c.loop-at.row (target c.width-width.result) c.args.row.now.number c.width-width.result c.loop-at.at
    c.loop-at.invariant.width c.loop-at.invariant.below (masked_below en word c.args.row.now.number c.width-width.result) c.loop-at-test.false c.loop-at.invariant.placed
    ∙ ap (λ w. bit_value w (target w)) c.width-width.ensures.value
