use Rattle.std.proofs.Common.{◌≡◌, false, sym, arith}
use Rattle.std.proofs.lemmas.Grind.{common_steps}
use Rattle.design_memory.specs.Settings.{is_set}
use Rattle.design_memory.proofs.Lists.{all_fails}
use Rattle.design_memory.proofs.allowed.are_set.Goals as goal

pub returns-then-not-is_set : goal.returns-then-not-is_set
returns-then-not-is_set c =
    let none : is_set c.args.value.now c.loop-at.at ≡ false = grind (arith, common_steps) in
    sym (all_fails (is_set c.args.value.now) c.args.count c.loop-at.at (omega arith) none)
