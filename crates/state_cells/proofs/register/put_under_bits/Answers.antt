use Rattle.std.proofs.Common.{rules, ◌≡◌, ◌≤◌, ◌+◌, ◌/◌, ◌%◌, ◌^◌, ◌∙◌, cond, ap, sym, arith}
use Rattle.std.proofs.Math.Nat.{mod-eq_of_lt}
use Rattle.std.proofs.lemmas.Nat.{shr-shr}
use Rattle.circuit.specs.Next.{register_inputs, bit_by_bit}
use Rattle.circuit.specs.Signal.{sig_number}
use Rattle.sim_base.specs.BitValue.{BitValue}
use Rattle.sim_base.specs.Values.{number_at}
use Rattle.sim_base.proofs.Words.{copied_above}
use Rattle.sim_base.proofs.Written.{all_copied, copied_nothing, copied_there, copied_width, more_bits}
use Rattle.signal_words.specs.Values.{digits_in}
use Rattle.state_cells.proofs.Overlaid.{PartOf, part_digit, whole_below}
use Rattle.state_cells.proofs.register.put_under_bits.Goals as goal

pub loop-at-init : goal.loop-at-init
loop-at-init c = record {
  inside = omega arith;
  input = search rules;
  set = search rules;
  clr = search rules;
  copied = copied_nothing c.args.into.now c.args.out 0 _ 0;
}

pub view-requires : goal.view-requires
view-requires c = copied_there _ _ _ _ _ _ _ _ c.loop-at.invariant.copied c.requires.there

pub field-own-requires-clause-inside : goal.field-own-requires-clause-inside
field-own-requires-clause-inside c =
    let w = copied_width _ _ _ _ _ _ _ _ c.loop-at.invariant.copied in
    let v = ap (λ (v : BitValue). v.width) c.view.ensures in
    omega (arith, w, v, c.width-width.ensures.value, c.min-n.ensures, c.loop-at-test.true)

pub put_field-changed-requires-clause-there : goal.put_field-changed-requires-clause-there
put_field-changed-requires-clause-there c = copied_there _ _ _ _ _ _ _ _ c.loop-at.invariant.copied c.requires.there

pub put_field-changed-requires-clause-inside : goal.put_field-changed-requires-clause-inside
put_field-changed-requires-clause-inside c =
    let w = copied_width _ _ _ _ _ _ _ _ c.loop-at.invariant.copied in
    omega (arith, w, c.width-width.ensures.value, c.min-n.ensures, c.loop-at-test.true)

pub loop-at-preserved : goal.loop-at-preserved
loop-at-preserved c =
    let clr = sig_number (digits_in c.args.nets.now) c.args.reg.now.clr in
    let set = sig_number (digits_in c.args.nets.now) c.args.reg.now.set in
    let input = sig_number (digits_in c.args.nets.now) c.args.reg.now.d in
    let inside : c.loop-at.at + c.min-n.result ≤ c.width-width.result = omega (arith, c.min-n.ensures, c.loop-at-test.true) in
    let part : PartOf c.args.reg.now.pol.clr c.args.reg.now.pol.set c.args.from_input clr set input (number_at c.args.into.now c.args.out) (number_at c.loop-at.into c.args.out) c.loop-at.at c.min-n.result c.overlaid.result = record {
      clr_left = c.loop-at.clr.number;
      set_left = c.loop-at.set.number;
      input_left = c.loop-at.input.number;
      clr_word = c.take-in-loop-at-2.result;
      set_word = c.take-in-loop-at.result;
      input_word = c.take.result;
      clr_digits = c.active_digits-clr_digits.result;
      set_digits = c.active_digits-set_digits.result;
      own = c.field-own.result;
      rest = c.input_or_own-rest.result;
      small = omega (arith, c.min-n.ensures);
      clr_is = c.loop-at.invariant.clr;
      set_is = c.loop-at.invariant.set;
      input_is = c.loop-at.invariant.input;
      clr_taken = c.take-in-loop-at-2.ensures.word;
      set_taken = c.take-in-loop-at.ensures.word;
      input_taken = c.take.ensures.word;
      clr_active = c.active_digits-clr_digits.ensures;
      set_active = c.active_digits-set_digits.ensures;
      own_is = c.field-own.ensures ∙ ap (λ (v : BitValue). v.number / 2 ^ c.loop-at.at % 2 ^ c.min-n.result) c.view.ensures;
      rest_is = c.input_or_own-rest.ensures;
      made = c.overlaid.ensures;
      high = λ i le. c.loop-at.invariant.copied.bits i ∙ copied_above 0 _ 0 c.loop-at.at (number_at c.args.into.now c.args.out) i (omega (arith, le));
    } in
    record {
      inside = inside;
      input = ap (λ (v : BitValue). v.number) c.take.ensures.rest ∙ ap (λ m. m / 2 ^ c.min-n.result) c.loop-at.invariant.input ∙ shr-shr _ c.loop-at.at c.min-n.result;
      set = ap (λ (v : BitValue). v.number) c.take-in-loop-at.ensures.rest ∙ ap (λ m. m / 2 ^ c.min-n.result) c.loop-at.invariant.set ∙ shr-shr _ c.loop-at.at c.min-n.result;
      clr = ap (λ (v : BitValue). v.number) c.take-in-loop-at-2.ensures.rest ∙ ap (λ m. m / 2 ^ c.min-n.result) c.loop-at.invariant.clr ∙ shr-shr _ c.loop-at.at c.min-n.result;
      copied = more_bits _ _ _ _ _ _ _ c.overlaid.result _ _ c.loop-at.invariant.copied
          (record { value = c.put_field-changed.ensures.value; bits = c.put_field-changed.ensures.bits; changed = c.put_field-changed.ensures.changed })
          (λ j lt. part_digit c.args.reg.now.pol.clr c.args.reg.now.pol.set c.args.from_input clr set input (number_at c.args.into.now c.args.out) (number_at c.loop-at.into c.args.out) c.loop-at.at c.min-n.result c.overlaid.result c.args.reg.now.width j part (omega (arith, inside, c.requires.width, c.width-width.ensures.value)) lt);
    }

pub returns : goal.returns
returns c before =
    let clr = sig_number (digits_in c.args.nets.now) c.args.reg.now.clr in
    let set = sig_number (digits_in c.args.nets.now) c.args.reg.now.set in
    let input = sig_number (digits_in c.args.nets.now) c.args.reg.now.d in
    let width : c.width-width.result ≡ c.args.reg.now.width = c.width-width.ensures.value ∙ c.requires.width in
    let end : c.loop-at.at ≡ c.args.reg.now.width = omega (arith, c.loop-at-test.false, width, c.loop-at.invariant.inside) in
    let target = bit_by_bit c.args.reg.now.width (register_inputs (digits_in c.args.nets.now) (digits_in c.args.nets.now) c.args.reg.now) (cond c.args.from_input input (number_at c.args.into.now c.args.out)) in
    all_copied c.args.into.now c.loop-at.into c.args.out target c.loop-at.at target c.loop-at.changed c.loop-at.invariant.copied (end ∙ sym c.requires.width) c.width-width.ensures.below
    (sym (ap (λ k. target % 2 ^ k) end ∙ mod-eq_of_lt (whole_below c.args.reg.now.pol.clr c.args.reg.now.pol.set clr set (cond c.args.from_input input (number_at c.args.into.now c.args.out)) c.args.reg.now.width)))
