use Rattle.std.proofs.Common.{◌≡◌, ◌-◌, ◌/◌, ◌%◌, ◌^◌, ◌<◌, sym, ◌∙◌, ap, subst, arith}
use Rattle.std.proofs.Math.Nat.{mod-eq_of_lt, div-eq_of_lt}
use Rattle.sim_base.specs.BitValue.{BitValue}
use Rattle.signal_words.proofs.Numbers.{run_below}
use Rattle.signal_words.proofs.Signals.{same_value}
use Rattle.signal_words.proofs.run.PieceReader.take_last.Goals as goal

pub returns-clause-word : goal.returns-clause-word
returns-clause-word c =
    let few : c.self.inside.left < c.args.n = subst (λ (v : BitValue). v.width < c.args.n) (sym c.self.view_is) c.requires.few in
    let below : c.args.self.now.number < 2 ^ c.args.n = subst (λ (v : BitValue). v.number < 2 ^ c.args.n) c.self.view_is (run_below c.self.inside.value.number c.self.inside.at c.self.inside.left c.args.n few) in
    c.field-word.ensures ∙ ap (λ (v : BitValue). v.number) c.self.view_is ∙ sym (mod-eq_of_lt below)

pub returns-clause-rest : goal.returns-clause-rest
returns-clause-rest c =
    let few : c.self.inside.left < c.args.n = subst (λ (v : BitValue). v.width < c.args.n) (sym c.self.view_is) c.requires.few in
    let below : c.args.self.now.number < 2 ^ c.args.n = subst (λ (v : BitValue). v.number < 2 ^ c.args.n) c.self.view_is (run_below c.self.inside.value.number c.self.inside.at c.self.inside.left c.args.n few) in
    let none : c.self.inside.value.number / 2 ^ c.self.inside.at % 2 ^ 0 ≡ 0 = omega arith in
    same_value 0 (c.args.self.now.width - c.args.n) (c.self.inside.value.number / 2 ^ c.self.inside.at % 2 ^ 0) (c.args.self.now.number / 2 ^ c.args.n) (omega (arith, c.requires.few))
    (none ∙ sym (div-eq_of_lt below))
