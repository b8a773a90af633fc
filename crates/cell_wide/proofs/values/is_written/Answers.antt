use Rattle.std.proofs.Common.{◌≡◌, ◌+◌, ◌*◌, ◌/◌, ◌%◌, ◌^◌, ◌<◌, ◌≤◌, ℕ, sym, ◌∙◌, subst, arith}
use Rattle.cell_wide.specs.Words.{digitwise}
use Rattle.cell_wide.proofs.Wordwise.{IsDiffering, word_at_place, one_compared, all_compared, digitwise_below, whole_word, last_word, rest_below}
use Rattle.cell_wide.proofs.values.is_written.Goals as goal
use Rattle.cell_wide.proofs.values.is_written.Goals.{then-rest-gt0, else-rest-gt0}

pub loop-place-preserved : goal.loop-place-preserved
loop-place-preserved c =
    let a : ℕ = c.args.one.now.number in
    let b : ℕ = c.args.other.now.number in
    let w : ℕ = c.args.value.now.width in
    let whole : ℕ = c.width-width.result / 64 in
    let la : a < 2 ^ w = subst (λ k. a < 2 ^ k) c.requires.one c.width.ensures.below in
    let lb : b < 2 ^ w = subst (λ k. b < 2 ^ k) c.requires.other c.width-2.ensures.below in
    let le : 64 * c.loop-place.place + 64 ≤ w = omega (arith, c.loop-place-test.true, c.width-width.ensures.value) in (
      omega (arith, c.loop-place-test.true),
      one_compared (digitwise c.args.op w a b) c.args.value.now.number c.loop-place.place c.loop-place.changed _ c.digitwise.result c.loop-place.invariant.1
          (word_at_place c.words-old.result.now c.args.value.now.number c.loop-place.place c.words-old.ensures.fit c.words-old.ensures.number)
          (c.digitwise.ensures.value ∙ whole_word c.args.op w (64 * c.loop-place.place) a b _ _ le la lb
          (word_at_place c.words-left.result.now a c.loop-place.place c.words-left.ensures.fit c.words-left.ensures.number)
          (word_at_place c.words-right.result.now b c.loop-place.place c.words-right.ensures.fit c.words-right.ensures.number)),
    )

pub digitwise-requires-then-rest-gt0-clause-one : goal.digitwise-requires-then-rest-gt0-clause-one
digitwise-requires-then-rest-gt0-clause-one c =
    let x : ℕ = c.args.one.now.number in
    let w : ℕ = c.args.value.now.width in
    let whole : ℕ = c.width-width.result / 64 in
    let lt : x < 2 ^ w = subst (λ k. x < 2 ^ k) c.requires.one c.width.ensures.below in
    subst (λ y. y < 2 ^ (c.width-width.result % 64)) (sym (word_at_place c.words-left.result.now x whole c.words-left.ensures.fit c.words-left.ensures.number))
    (rest_below x w (64 * whole) (c.width-width.result % 64) lt (omega (arith, c.width-width.ensures.value)))

pub digitwise-requires-then-rest-gt0-clause-other : goal.digitwise-requires-then-rest-gt0-clause-other
digitwise-requires-then-rest-gt0-clause-other c =
    let x : ℕ = c.args.other.now.number in
    let w : ℕ = c.args.value.now.width in
    let whole : ℕ = c.width-width.result / 64 in
    let lt : x < 2 ^ w = subst (λ k. x < 2 ^ k) c.requires.other c.width-2.ensures.below in
    subst (λ y. y < 2 ^ (c.width-width.result % 64)) (sym (word_at_place c.words-right.result.now x whole c.words-right.ensures.fit c.words-right.ensures.number))
    (rest_below x w (64 * whole) (c.width-width.result % 64) lt (omega (arith, c.width-width.ensures.value)))

pub returns : goal.returns
returns c =
    let a : ℕ = c.args.one.now.number in
    let b : ℕ = c.args.other.now.number in
    let w : ℕ = c.args.value.now.width in
    let whole : ℕ = c.width-width.result / 64 in
    let la : a < 2 ^ w = subst (λ k. a < 2 ^ k) c.requires.one c.width.ensures.below in
    let lb : b < 2 ^ w = subst (λ k. b < 2 ^ k) c.requires.other c.width-2.ensures.below in
    let at : c.loop-place.place ≡ whole = omega (arith, c.loop-place-test.false, c.loop-place.invariant.0) in
    let number : ℕ = digitwise c.args.op w a b in
    let old : ℕ = c.args.value.now.number in
    let fits : number < 2 ^ w = digitwise_below c.args.op w a b la lb in
    let i : IsDiffering number old whole c.loop-place.changed = subst (λ k. IsDiffering number old k c.loop-place.changed) at c.loop-place.invariant.1 in
    let is : 64 * whole + c.width-width.result % 64 ≡ w = omega (arith, c.width-width.ensures.value) in
    elim c.if-rest-gt0.branch [
      | then-rest-gt0 v ↦
          rw v.changed-is (all_compared number old w (whole + 1) _
          (one_compared number old whole c.loop-place.changed _ v.digitwise-then-rest-gt0.result i
          (word_at_place c.words-old.result.now old whole c.words-old.ensures.fit c.words-old.ensures.number)
          (v.digitwise-then-rest-gt0.ensures.value ∙ last_word c.args.op w (64 * whole) (c.width-width.result % 64) a b _ _ is (omega arith) la lb
          (word_at_place c.words-left.result.now a whole c.words-left.ensures.fit c.words-left.ensures.number)
          (word_at_place c.words-right.result.now b whole c.words-right.ensures.fit c.words-right.ensures.number)))
          c.width-width.ensures.below fits (omega (arith, is)))
      | else-rest-gt0 v ↦ rw v.changed-is (all_compared number old w whole c.loop-place.changed i c.width-width.ensures.below fits (omega (arith, is, v.if-rest-gt0.false)))
    ]
