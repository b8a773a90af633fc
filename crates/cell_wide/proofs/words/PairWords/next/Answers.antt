use Rattle.std.proofs.Common.{◌<◌, ◌^◌, sym, subst}
use Rattle.cell_wide.specs.declared.words.Bitwise.TheVariants as by
use Rattle.cell_wide.proofs.Digits.{combined_passes}
use Rattle.cell_wide.proofs.words.PairWords.next.Goals as goal

pub returns-in-And-clause-rest : goal.returns-in-And-clause-rest
returns-in-And-clause-rest g c =
    rw c.in-And.is (combined_passes by.And (g.A.Words.low c.args.self.now.one) (g.B.Words.low c.args.self.now.other) (g.A.Words.low c.next-one.new.self) (g.B.Words.low c.next-other.new.self) c.args.n c.next-one.result c.next-other.result c.next-one.ensures.rest c.next-other.ensures.rest
    (subst (λ x. x < 2 ^ c.args.n) (sym c.next-one.ensures.word) (g.met.A.Words.below c.args.self.now.one c.args.n)) (subst (λ x. x < 2 ^ c.args.n) (sym c.next-other.ensures.word) (g.met.B.Words.below c.args.self.now.other c.args.n)))

pub returns-in-Or-clause-rest : goal.returns-in-Or-clause-rest
returns-in-Or-clause-rest g c =
    rw c.in-Or.is (combined_passes by.Or (g.A.Words.low c.args.self.now.one) (g.B.Words.low c.args.self.now.other) (g.A.Words.low c.next-one.new.self) (g.B.Words.low c.next-other.new.self) c.args.n c.next-one.result c.next-other.result c.next-one.ensures.rest c.next-other.ensures.rest
    (subst (λ x. x < 2 ^ c.args.n) (sym c.next-one.ensures.word) (g.met.A.Words.below c.args.self.now.one c.args.n)) (subst (λ x. x < 2 ^ c.args.n) (sym c.next-other.ensures.word) (g.met.B.Words.below c.args.self.now.other c.args.n)))

pub returns-in-Xor-clause-rest : goal.returns-in-Xor-clause-rest
returns-in-Xor-clause-rest g c =
    rw c.in-Xor.is (combined_passes by.Xor (g.A.Words.low c.args.self.now.one) (g.B.Words.low c.args.self.now.other) (g.A.Words.low c.next-one.new.self) (g.B.Words.low c.next-other.new.self) c.args.n c.next-one.result c.next-other.result c.next-one.ensures.rest c.next-other.ensures.rest
    (subst (λ x. x < 2 ^ c.args.n) (sym c.next-one.ensures.word) (g.met.A.Words.below c.args.self.now.one c.args.n)) (subst (λ x. x < 2 ^ c.args.n) (sym c.next-other.ensures.word) (g.met.B.Words.below c.args.self.now.other c.args.n)))
