use Rattle.std.proofs.Common.{◌+◌, ◌-◌, ◌/◌, ◌%◌, ◌^◌, ◌∙◌, ap, arith}
use Rattle.sim_base.specs.BitValue.{BitValue}
use Rattle.signal_words.proofs.Numbers.{run_word, run_rest}
use Rattle.signal_words.proofs.Signals.{same_value}
use Rattle.signal_words.proofs.run.PieceReader.take.Goals as goal

pub returns-clause-word : goal.returns-clause-word
returns-clause-word c =
    c.field-word.ensures ∙ run_word c.self.inside.value.number c.self.inside.at c.self.inside.left c.args.n (omega (arith, c.if-n-self.false))
    ∙ ap (λ (v : BitValue). v.number % 2 ^ c.args.n) c.self.view_is

pub returns-clause-rest : goal.returns-clause-rest
returns-clause-rest c =
    let x = c.self.inside.value.number in
    let at = c.self.inside.at in
    let left = c.self.inside.left in
    same_value (left - c.args.n) (c.args.self.now.width - c.args.n) (x / 2 ^ (at + c.args.n) % 2 ^ (left - c.args.n)) (c.args.self.now.number / 2 ^ c.args.n) (ap (λ (v : BitValue). v.width - c.args.n) c.self.view_is)
    (run_rest x at left c.args.n (omega (arith, c.if-n-self.false)) ∙ ap (λ (v : BitValue). v.number / 2 ^ c.args.n) c.self.view_is)
