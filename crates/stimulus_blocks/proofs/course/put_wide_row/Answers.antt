use Rattle.std.proofs.Common.{◌≡◌, ◌<◌, ◌^◌, ℕ, List, length, get_or, map, set, sym, ap, subst, ◌∙◌, arith}
use Rattle.std.proofs.lemmas.List.{length-map}
use Rattle.sim_base.specs.BitValue.{BitValue, bit_value}
use Rattle.sim_base.specs.Values.{widths}
use Rattle.stimulus_text.specs.Numbers.{number_of}
use Rattle.stimulus_blocks.proofs.Put.{widths_set, width_here, value_here, numbers_more, numbers_all}
use Rattle.stimulus_blocks.proofs.course.put_wide_row.Goals as goal

pub put_value-requires : goal.put_value-requires
put_value-requires c =
    let inside : c.loop-i.i < length c.loop-i.into = omega (arith, c.loop-i.auto.into, c.requires.room, c.loop-i-test.true) in
    let v = value_here c.args.values.now c.args.columns.now c.loop-i.i c.index-values-columns.result c.loop-i-test.true (c.requires.there c.loop-i.i c.loop-i-test.true) c.index-values-columns.is in
    let w = width_here c.loop-i.into c.loop-i.i c.index-into-i.result inside c.index-into-i.is in
    let w' : get_or (widths c.args.into.now) c.loop-i.i 0 ≡ c.index-into-i.result.width = ap (λ (ws : List ℕ). get_or ws c.loop-i.i 0) (sym c.loop-i.invariant.widths) ∙ w in
    let x : get_or c.loop-i.into c.loop-i.i c.index-into-i.result ≡ c.index-into-i.result = sym c.index-into-i.is in
    subst (λ (y : BitValue). number_of c.index-values-columns.result < 2 ^ y.width) c.index-into-i.is
    (subst (λ n. number_of c.index-values-columns.result < 2 ^ n) w' (subst (λ n. n < 2 ^ get_or (widths c.args.into.now) c.loop-i.i 0) v (c.requires.fit c.loop-i.i)))

pub loop-i-preserved : goal.loop-i-preserved
loop-i-preserved c =
    let inside : c.loop-i.i < length c.loop-i.into = omega (arith, c.loop-i.auto.into, c.requires.room, c.loop-i-test.true) in
    let v = value_here c.args.values.now c.args.columns.now c.loop-i.i c.index-values-columns.result c.loop-i-test.true (c.requires.there c.loop-i.i c.loop-i-test.true) c.index-values-columns.is in
    let put : c.put_value.new.into ≡ bit_value c.index-into-i.result.width (number_of c.index-values-columns.result) = c.put_value.ensures ∙ ap (λ (y : BitValue). bit_value y.width (number_of c.index-values-columns.result)) (sym c.index-into-i.is) in
    record {
      widths = ap (λ (x : BitValue). widths (set c.loop-i.into c.loop-i.i x)) put ∙ widths_set c.loop-i.into c.loop-i.i (number_of c.index-values-columns.result) c.index-into-i.result c.index-into-i.is ∙ c.loop-i.invariant.widths;
      numbers = numbers_more c.loop-i.into c.loop-i.i c.put_value.new.into (map (λ column. get_or (map number_of c.args.values.now) column 0) c.args.columns.now) inside c.loop-i.invariant.numbers (v ∙ sym (ap (λ x. x.number) put));
    }

pub returns-clause-numbers : goal.returns-clause-numbers
returns-clause-numbers c =
    numbers_all c.loop-i.into c.loop-i.i (map (λ column. get_or (map number_of c.args.values.now) column 0) c.args.columns.now)
    (omega (arith, c.loop-i.auto.into, c.requires.room, length-map c.args.columns.now (λ column. get_or (map number_of c.args.values.now) column 0)))
    (omega (arith, c.loop-i-test.false, length-map c.args.columns.now (λ column. get_or (map number_of c.args.values.now) column 0)))
    c.loop-i.invariant.numbers
