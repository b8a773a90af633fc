use Rattle.std.proofs.Common.{◌-◌, ◌*◌, ◌/◌, ◌%◌, ◌^◌, ◌∙◌, ap, sym, arith}
use Rattle.std.proofs.Math.Nat.{zero-mul}
use Rattle.cell_words.proofs.Taken.{zeros_taken, word_whole}
use Rattle.cell_words.proofs.source.MovedDigits.take.Goals as goal

pub returns-then-word-eq0-clause-word : goal.returns-then-word-eq0-clause-word
returns-then-word-eq0-clause-word c =
    let t = zeros_taken c.args.n c.self.inside.zeros c.self.inside.digits c.min-below.result c.min-below.ensures in
    sym (ap (λ x. x % 2 ^ c.args.n) (sym c.self.view_is) ∙ t.0
    ∙ ap (λ x. x * 2 ^ c.min-below.result) (sym c.take-word.ensures.word ∙ c.if-word-eq0.true) ∙ zero-mul (2 ^ c.min-below.result))

pub returns-then-word-eq0-clause-rest : goal.returns-then-word-eq0-clause-rest
returns-then-word-eq0-clause-rest c =
    let t = zeros_taken c.args.n c.self.inside.zeros c.self.inside.digits c.min-below.result c.min-below.ensures in
    ap (λ x. x * 2 ^ (c.self.inside.zeros - c.min-below.result)) c.take-word.ensures.rest ∙ sym t.1 ∙ ap (λ x. x / 2 ^ c.args.n) c.self.view_is

pub returns-clause-word : goal.returns-clause-word
returns-clause-word c =
    let t = zeros_taken c.args.n c.self.inside.zeros c.self.inside.digits c.min-below.result c.min-below.ensures in
    word_whole c.args.n c.min-below.result c.take-word.result c.self.inside.digits c.requires (omega arith) c.take-word.ensures.word
    ∙ sym t.0 ∙ ap (λ x. x % 2 ^ c.args.n) c.self.view_is

pub returns-clause-rest : goal.returns-clause-rest
returns-clause-rest c =
    let t = zeros_taken c.args.n c.self.inside.zeros c.self.inside.digits c.min-below.result c.min-below.ensures in
    ap (λ x. x * 2 ^ (c.self.inside.zeros - c.min-below.result)) c.take-word.ensures.rest ∙ sym t.1 ∙ ap (λ x. x / 2 ^ c.args.n) c.self.view_is
