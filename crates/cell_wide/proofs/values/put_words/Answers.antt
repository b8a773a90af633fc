use Rattle.std.proofs.Common.{◌≡◌, ◌+◌, ◌-◌, ◌*◌, ◌/◌, ◌%◌, ◌^◌, ◌<◌, ◌≤◌, ◌||◌, false, ℕ, ap, sym, ◌∙◌, subst, arith, lit<}
use Rattle.std.proofs.Math.Nat.{pow-le-pow_right}
use Rattle.sim_base.specs.Values.{width_at, with_number}
use Rattle.sim_base.proofs.Written.{IsCopied}
use Rattle.sim_base.proofs.Filling.{IsFilling, filling_all, filling_more, filling_none, filling_there, filling_width}
use Rattle.cell_wide.specs.Words.{digitwise}
use Rattle.cell_wide.proofs.Wordwise.{word_at_place, digitwise_below, whole_word, last_word, rest_below}
use Rattle.cell_wide.proofs.values.put_words.Goals as goal

pub loop-place-init : goal.loop-place-init
loop-place-init c = (omega arith, (false, filling_none c.args.into.now c.args.out (digitwise c.args.op c.width-width.result c.args.one.now.number c.args.other.now.number) c.width-width.result))

pub put_word_at-requires-clause-there : goal.put_word_at-requires-clause-there
put_word_at-requires-clause-there c = filling_there _ _ _ _ _ _ _ c.loop-place.invariant.1.1 c.requires.there

pub put_word_at-requires-clause-inside : goal.put_word_at-requires-clause-inside
put_word_at-requires-clause-inside c =
    let same = filling_width _ _ _ _ _ _ _ c.loop-place.invariant.1.1 in
    omega (arith, c.loop-place-test.true, c.width-width.ensures.value, same)

pub put_word_at-requires-clause-below : goal.put_word_at-requires-clause-below
put_word_at-requires-clause-below c =
    let same = filling_width _ _ _ _ _ _ _ c.loop-place.invariant.1.1 in
    let k : ℕ = width_at c.loop-place.into c.args.out - 64 * c.loop-place.place in
    let le : 64 ≤ k = omega (arith, c.loop-place-test.true, c.width-width.ensures.value, same) in
    let p : 2 ^ 64 ≤ 2 ^ k = pow-le-pow_right {n = 2} (lit< tt) {i = 64} {j = k} le in
    omega (arith, c.digitwise-word.ensures.below, p)

pub loop-place-preserved : goal.loop-place-preserved
loop-place-preserved c =
    let a : ℕ = c.args.one.now.number in
    let b : ℕ = c.args.other.now.number in
    let w : ℕ = c.width-width.result in
    let la : a < 2 ^ w = subst (λ k. a < 2 ^ k) (c.requires.one ∙ sym c.width-width.ensures.value) c.width.ensures.below in
    let lb : b < 2 ^ w = subst (λ k. b < 2 ^ k) (c.requires.other ∙ sym c.width-width.ensures.value) c.width-2.ensures.below in
    let le : 64 * c.loop-place.place + 64 ≤ w = omega (arith, c.loop-place-test.true) in
    let here : 64 * c.loop-place.place / 64 ≡ c.loop-place.place = omega arith in
    let next : 64 * c.loop-place.place + 64 ≡ 64 * (c.loop-place.place + 1) = omega arith in (
      omega (arith, c.loop-place-test.true),
      (
        c.loop-place.invariant.1.0 || c.put_word_at.result,
        subst (λ k. IsFilling c.args.into.now c.put_word_at.new.self c.args.out (digitwise c.args.op w a b) w k (c.loop-place.invariant.1.0 || c.put_word_at.result)) next
            (filling_more _ _ _ _ _ _ (64 * c.loop-place.place) 64 c.digitwise-word.result _ c.put_word_at.result c.loop-place.invariant.1.1 (omega (arith, le)) (omega (arith, le))
            (subst (λ k. IsCopied c.loop-place.into c.put_word_at.new.self c.args.out (64 * k) c.digitwise-word.result 0 64 c.put_word_at.result) (sym here)
            (record { value = c.put_word_at.ensures.value; bits = c.put_word_at.ensures.bits; changed = c.put_word_at.ensures.changed }))
            (c.digitwise-word.ensures.value ∙ whole_word c.args.op w (64 * c.loop-place.place) a b _ _ le la lb
            (word_at_place c.words-left.result.now a c.loop-place.place c.words-left.ensures.fit c.words-left.ensures.number)
            (word_at_place c.words-right.result.now b c.loop-place.place c.words-right.ensures.fit c.words-right.ensures.number))),
      ),
    )

pub digitwise-word-requires-then-rest-gt0-clause-one : goal.digitwise-word-requires-then-rest-gt0-clause-one
digitwise-word-requires-then-rest-gt0-clause-one c =
    let x : ℕ = c.args.one.now.number in
    let w : ℕ = width_at c.args.into.now c.args.out in
    let whole : ℕ = c.width-width.result / 64 in
    let lt : x < 2 ^ w = subst (λ k. x < 2 ^ k) c.requires.one c.width.ensures.below in
    subst (λ y. y < 2 ^ (c.width-width.result % 64)) (sym (word_at_place c.words-left.result.now x whole c.words-left.ensures.fit c.words-left.ensures.number))
    (rest_below x w (64 * whole) (c.width-width.result % 64) lt (omega (arith, c.width-width.ensures.value)))

pub digitwise-word-requires-then-rest-gt0-clause-other : goal.digitwise-word-requires-then-rest-gt0-clause-other
digitwise-word-requires-then-rest-gt0-clause-other c =
    let x : ℕ = c.args.other.now.number in
    let w : ℕ = width_at c.args.into.now c.args.out in
    let whole : ℕ = c.width-width.result / 64 in
    let lt : x < 2 ^ w = subst (λ k. x < 2 ^ k) c.requires.other c.width-2.ensures.below in
    subst (λ y. y < 2 ^ (c.width-width.result % 64)) (sym (word_at_place c.words-right.result.now x whole c.words-right.ensures.fit c.words-right.ensures.number))
    (rest_below x w (64 * whole) (c.width-width.result % 64) lt (omega (arith, c.width-width.ensures.value)))

pub put_word_at-requires-then-rest-gt0-clause-there : goal.put_word_at-requires-then-rest-gt0-clause-there
put_word_at-requires-then-rest-gt0-clause-there c = filling_there _ _ _ _ _ _ _ c.loop-place.invariant.1.1 c.requires.there

pub put_word_at-requires-then-rest-gt0-clause-inside : goal.put_word_at-requires-then-rest-gt0-clause-inside
put_word_at-requires-then-rest-gt0-clause-inside c =
    let same = filling_width _ _ _ _ _ _ _ c.loop-place.invariant.1.1 in
    omega (arith, c.width-width.ensures.value, same, c.if-rest-gt0.true)

pub put_word_at-requires-then-rest-gt0-clause-below : goal.put_word_at-requires-then-rest-gt0-clause-below
put_word_at-requires-then-rest-gt0-clause-below c =
    let same = filling_width _ _ _ _ _ _ _ c.loop-place.invariant.1.1 in
    let k : ℕ = width_at c.loop-place.into c.args.out - 64 * (c.width-width.result / 64) in
    let e : c.width-width.result % 64 ≡ k = omega (arith, c.width-width.ensures.value, same) in
    subst (λ n. c.digitwise-word-then-rest-gt0.result < 2 ^ n) e c.digitwise-word-then-rest-gt0.ensures.below

pub returns-then-rest-gt0 : goal.returns-then-rest-gt0
returns-then-rest-gt0 c =
    let a : ℕ = c.args.one.now.number in
    let b : ℕ = c.args.other.now.number in
    let w : ℕ = c.width-width.result in
    let whole : ℕ = w / 64 in
    let la : a < 2 ^ w = subst (λ k. a < 2 ^ k) (c.requires.one ∙ sym c.width-width.ensures.value) c.width.ensures.below in
    let lb : b < 2 ^ w = subst (λ k. b < 2 ^ k) (c.requires.other ∙ sym c.width-width.ensures.value) c.width-2.ensures.below in
    let at : 64 * c.loop-place.place ≡ 64 * whole = omega (arith, c.loop-place-test.false, c.loop-place.invariant.0) in
    let number : ℕ = digitwise c.args.op w a b in
    let told = c.loop-place.invariant.1.0 in
    let i : IsFilling c.args.into.now c.loop-place.into c.args.out number w (64 * whole) told = subst (λ k. IsFilling c.args.into.now c.loop-place.into c.args.out number w k told) at c.loop-place.invariant.1.1 in
    let is : 64 * whole + w % 64 ≡ w = omega arith in
    let here : 64 * whole / 64 ≡ whole = omega arith in
    let more : IsFilling c.args.into.now c.put_word_at-then-rest-gt0.new.self c.args.out number w (64 * whole + w % 64) (told || c.put_word_at-then-rest-gt0.result)
    = filling_more _ _ _ _ _ _ (64 * whole) (w % 64) c.digitwise-word-then-rest-gt0.result told c.put_word_at-then-rest-gt0.result i (omega (arith, is, c.if-rest-gt0.true)) (omega (arith, is))
    (subst (λ k. IsCopied c.loop-place.into c.put_word_at-then-rest-gt0.new.self c.args.out (64 * k) c.digitwise-word-then-rest-gt0.result 0 64 c.put_word_at-then-rest-gt0.result) (sym here)
    (record { value = c.put_word_at-then-rest-gt0.ensures.value; bits = c.put_word_at-then-rest-gt0.ensures.bits; changed = c.put_word_at-then-rest-gt0.ensures.changed }))
    (c.digitwise-word-then-rest-gt0.ensures.value ∙ last_word c.args.op w (64 * whole) (w % 64) a b _ _ is (omega arith) la lb
    (word_at_place c.words-left.result.now a whole c.words-left.ensures.fit c.words-left.ensures.number)
    (word_at_place c.words-right.result.now b whole c.words-right.ensures.fit c.words-right.ensures.number)) in
    (filling_all _ _ _ _ _ _ _ more (omega (arith, is)) c.width-width.ensures.value c.width-width.ensures.below (digitwise_below c.args.op w a b la lb)).value
    ∙ ap (λ k. with_number c.args.into.now c.args.out (digitwise c.args.op k a b)) c.width-width.ensures.value

pub returns-else-rest-gt0 : goal.returns-else-rest-gt0
returns-else-rest-gt0 c =
    let a : ℕ = c.args.one.now.number in
    let b : ℕ = c.args.other.now.number in
    let w : ℕ = c.width-width.result in
    let la : a < 2 ^ w = subst (λ k. a < 2 ^ k) (c.requires.one ∙ sym c.width-width.ensures.value) c.width.ensures.below in
    let lb : b < 2 ^ w = subst (λ k. b < 2 ^ k) (c.requires.other ∙ sym c.width-width.ensures.value) c.width-2.ensures.below in
    (filling_all _ _ _ _ _ _ _ c.loop-place.invariant.1.1 (omega (arith, c.loop-place-test.false, c.loop-place.invariant.0, c.if-rest-gt0.false)) c.width-width.ensures.value c.width-width.ensures.below (digitwise_below c.args.op w a b la lb)).value
    ∙ ap (λ k. with_number c.args.into.now c.args.out (digitwise c.args.op k a b)) c.width-width.ensures.value
