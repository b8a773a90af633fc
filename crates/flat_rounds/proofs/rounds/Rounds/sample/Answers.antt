use Rattle.std.proofs.Common.{◌≡◌, ◌+◌, ◌-◌, ◌∙◌, ap, sym, suc, refl, arith}
use Rattle.circuit.specs.Rounds.{settled_within}
use Rattle.flat_rounds.proofs.Settling.{settles, goes_on, settled_never}
use Rattle.flat_rounds.proofs.rounds.Rounds.sample.Goals as goal

pub loop-round-init : goal.loop-round-init
loop-round-init c = record { fits = c.requires.fits; rest = refl }

pub loop-round-preserved : goal.loop-round-preserved
loop-round-preserved c =
    let left : 256 - c.loop-round._round ≡ suc (256 - (c.loop-round._round + 1)) = omega arith in
    record {
      fits = c.round.ensures.fits;
      rest =
          sym (goes_on c.args.circuit.now c.loop-round.self c.round.new.self c.args.inputs.now c.loop-round.invariant.fits.mems c.round.ensures.fits.mems c.round.ensures.nets c.round.ensures.state (256 - (c.loop-round._round + 1)) (sym c.round.ensures.still ∙ c.if-round.false))
          ∙ sym (ap (λ n. settled_within n c.args.circuit.now c.loop-round.self.state c.loop-round.self.nets c.args.inputs.now) left)
          ∙ c.loop-round.invariant.rest;
    }

pub returns-then-round-clause-settled : goal.returns-then-round-clause-settled
returns-then-round-clause-settled c done =
    let left : 256 - c.loop-round._round ≡ suc (256 - (c.loop-round._round + 1)) = omega arith in
    sym c.loop-round.invariant.rest
    ∙ ap (λ n. settled_within n c.args.circuit.now c.loop-round.self.state c.loop-round.self.nets c.args.inputs.now) left
    ∙ settles c.args.circuit.now c.loop-round.self c.round.new.self c.args.inputs.now c.loop-round.invariant.fits.mems c.round.ensures.fits.mems c.round.ensures.nets c.round.ensures.state (256 - (c.loop-round._round + 1)) (sym c.round.ensures.still ∙ c.if-round.true)

pub returns-clause-unsettled : goal.returns-clause-unsettled
returns-clause-unsettled c done =
    let left : 256 - c.loop-round._round ≡ 0 = omega arith in
    sym c.loop-round.invariant.rest
    ∙ ap (λ n. settled_within n c.args.circuit.now c.loop-round.self.state c.loop-round.self.nets c.args.inputs.now) left
    ∙ settled_never c.args.circuit.now c.loop-round.self.state c.loop-round.self.nets c.args.inputs.now
