use Rattle.std.proofs.Common.{◌^◌, ◌<◌, ◌∙◌, sym, subst}
use Rattle.std.proofs.Math.Nat.{mod-eq_of_lt}
use Rattle.sim_base.proofs.Written.{all_copied}
use Rattle.sim_base.proofs.values.Values.put.Goals as goal

pub returns : goal.returns
returns c =
    let w = c.width-width.ensures.value in
    all_copied c.args.self.now c.copy.new.self c.args.n c.args.from.now.number c.width-width.result c.args.from.now.number c.copy.result
    (record { value = c.copy.ensures.value; bits = c.copy.ensures.bits; changed = c.copy.ensures.changed })
    (w ∙ c.requires.width) c.width.ensures.below
    (sym (mod-eq_of_lt (subst (λ k. c.args.from.now.number < 2 ^ k) (sym w) c.width-width.ensures.below)))
