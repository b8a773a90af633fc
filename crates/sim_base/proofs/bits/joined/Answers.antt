use Rattle.std.proofs.Common.{arith, ◌≢◌}
use Rattle.sim_base.proofs.Field.{joined_digit}
use Rattle.sim_base.proofs.bits.joined.Goals as goal

pub returns-else-off-eq0 : goal.returns-else-off-eq0
returns-else-off-eq0 c j h =
    let ne : c.args.off ≢ 0 = c.if-off-eq0.false in
    joined_digit c.args.low c.args.high c.args.off j c.ranges.low.fits (omega arith) c.requires h
