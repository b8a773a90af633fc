use Rattle.std.proofs.Common.{◌≡◌, ◌+◌, ◌-◌, ◌*◌, ◌%◌, ◌^◌, ◌<◌, ◌≤◌, ◌∙◌, ap, sym, ℕ, arith}
use Rattle.signal_words.proofs.Numbers.{IsAbove, put_above}
use Rattle.cell_words.proofs.Taken.{ones_below}
use Rattle.cell_words.proofs.source.with_ones.Goals as goal

above : (own ones word : ℕ) → word < 2 ^ own → own + ones ≤ 64 → IsAbove own ones (2 ^ ones - 1) word
above own ones word lt le = put_above own ones (2 ^ ones - 1) word lt (ones_below ones) le

pub returns-then-ones-eq0 : goal.returns-then-ones-eq0
returns-then-ones-eq0 c = sym (ap (λ k. (2 ^ k - 1) * 2 ^ c.args.own + c.args.word) c.if-ones-eq0.true ∙ omega arith)

pub overflow_add-result : goal.overflow_add-result
overflow_add-result c =
    let s = above c.args.own c.args.ones c.args.word c.requires.below c.requires.inside in
    let e : c.args.word + c.ones_word.result * 2 ^ c.args.own % 2 ^ 64 ≡ c.args.word + (2 ^ c.args.ones - 1) * 2 ^ c.args.own % 2 ^ 64 =
    ap (λ x. c.args.word + x * 2 ^ c.args.own % 2 ^ 64) c.ones_word.ensures in
    omega (arith, s.fits, e)

pub returns : goal.returns
returns c =
    let s = above c.args.own c.args.ones c.args.word c.requires.below c.requires.inside in
    ap (λ x. c.args.word + x * 2 ^ c.args.own % 2 ^ 64) c.ones_word.ensures ∙ s.sum
