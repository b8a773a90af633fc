use Rattle.std.proofs.Common.{◌+◌, ◌-◌, ◌*◌, ◌%◌, ◌<◌, ◌^◌, sym, ◌∙◌, ap, subst, arith}
use Rattle.cell_wide.specs.Words.{low_of_chain}
use Rattle.cell_wide.proofs.Digits.{low_passes, across_passes, across_word}
use Rattle.signal_words.proofs.Numbers.{IsAbove, put_above}
use Rattle.cell_wide.proofs.words.ChainWords.next.Goals as goal
use Rattle.cell_wide.proofs.words.ChainWords.next.Given.{Over}

pub returns-then-n-self-clause-rest : goal.returns-then-n-self-clause-rest
returns-then-n-self-clause-rest g c =
    low_passes (g.A.Words.low c.args.self.now.low) (g.A.Words.low c.next.new.self) (g.B.Words.low c.args.self.now.high) c.args.self.now.left c.args.n c.next.result c.next.ensures.rest c.if-n-self.true

-- the higher part above the lower one
above : (g : Over) (c : goal.After-row_known-1 g) → IsAbove c.args.self.now.left (c.args.n - c.args.self.now.left) c.next-3.result c.next-2.result
above g c =
    put_above c.args.self.now.left (c.args.n - c.args.self.now.left) c.next-3.result c.next-2.result
    (subst (λ x. x < 2 ^ c.args.self.now.left) (sym c.next-2.ensures.word) (g.met.A.Words.below c.args.self.now.low c.args.self.now.left))
    (subst (λ x. x < 2 ^ (c.args.n - c.args.self.now.left)) (sym c.next-3.ensures.word) (g.met.B.Words.below c.args.self.now.high (c.args.n - c.args.self.now.left)))
    (omega (arith, c.if-n-self.false, c.requires))

pub overflow_add-result : goal.overflow_add-result
overflow_add-result g c =
    let f : c.next-2.result + c.next-3.result * 2 ^ c.args.self.now.left % 2 ^ 64 < 2 ^ 64 = (above g c).fits in omega (arith, f)

pub returns-clause-word : goal.returns-clause-word
returns-clause-word g c =
    (above g c).sum
    ∙ across_word (g.A.Words.low c.args.self.now.low) (g.A.Words.low c.next-2.new.self) (g.B.Words.low c.args.self.now.high) (g.B.Words.low c.next-3.new.self) c.args.self.now.left c.args.n c.next-2.result c.next-3.result
    c.next-2.ensures.word c.next-3.ensures.rest (g.met.A.Words.below c.next-2.new.self 0) (omega (arith, c.if-n-self.false)) c.next-3.ensures.word

pub returns-clause-rest : goal.returns-clause-rest
returns-clause-rest g c w =
    across_passes (g.A.Words.low c.args.self.now.low) (g.A.Words.low c.next-2.new.self) (g.B.Words.low c.args.self.now.high) (g.B.Words.low c.next-3.new.self) c.args.self.now.left c.args.n c.next-2.result c.next-3.result
    c.next-2.ensures.word c.next-3.ensures.rest (g.met.A.Words.below c.next-2.new.self 0) (omega (arith, c.if-n-self.false)) w
    ∙ ap (λ x. low_of_chain (g.A.Words.low c.next-2.new.self) 0 (g.B.Words.low c.next-3.new.self) w * 2 ^ c.args.n + x) (sym (above g c).sum)
