use Rattle.std.proofs.Common.{◌≡◌, ◌+◌, ◌-◌, ◌∙◌, ◌++◌, suc, sym, ap, arith, drop}
use Rattle.sim_base.specs.Digits.{lowest_digits}
use Rattle.sim_base.proofs.Numerals.{lowest_step, lowest_whole}
use Rattle.sim_base.proofs.digits.write_lowest_digits.Goals as goal

pub loop-at-preserved : goal.loop-at-preserved
loop-at-preserved c =
    let k = c.loop-at.at - 1 in
    let a : suc k ≡ c.loop-at.at = omega arith in
    let b : k + 1 ≡ c.loop-at.at = omega arith in
    record {
      digits = lowest_step c.args.base k c.loop-at.rest c.digit_character.result c.loop-at.into (omega arith) c.digit_character.ensures
          ∙ ap (λ n. lowest_digits c.args.base n c.loop-at.rest ++ drop (k + 1) c.loop-at.into) a
          ∙ ap (λ n. lowest_digits c.args.base c.loop-at.at c.loop-at.rest ++ drop n c.loop-at.into) b
          ∙ c.loop-at.invariant.digits;
    }

pub returns : goal.returns
returns c = sym (lowest_whole c.args.base c.loop-at.at c.loop-at.rest c.loop-at.into (omega arith)) ∙ c.loop-at.invariant.digits
