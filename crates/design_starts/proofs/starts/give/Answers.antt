use Rattle.std.proofs.Common.{arith, subst}
use Rattle.driver_check.specs.Depends.{Bit}
use Rattle.design_starts.specs.Chains.{IsOrigin}
use Rattle.design_starts.specs.declared.taken.Taken.{Taken}
use Rattle.design_starts.proofs.Given.{given_bit, given_outside}
use Rattle.design_starts.proofs.starts.give.Goals as goal

pub returns-then-register-len : goal.returns-then-register-len
returns-then-register-len c = λ ms h.
    let mark = c.args.mark.now in
    let at : Bit = (mark.net, mark.bit) in
    let origin = subst (λ (t : Taken). IsOrigin c.args.circuit.now at t) c.in-Register.is c.requires.end in
    given_bit c.args.circuit.now mark ms c.args.values.now h c.in-Register.register c.in-Register.bit origin c.at.result.now c.set_bit.new.value
    c.at.ensures.value c.set_bit.ensures.width c.set_bit.ensures.below c.set_bit.ensures.bits

pub returns-else-register-len : goal.returns-else-register-len
returns-else-register-len c = λ ms h.
    let mark = c.args.mark.now in
    let at : Bit = (mark.net, mark.bit) in
    let origin = subst (λ (t : Taken). IsOrigin c.args.circuit.now at t) c.in-Register.is c.requires.end in
    given_outside c.args.circuit.now mark ms c.args.values.now h c.in-Register.register c.in-Register.bit origin (omega (arith, c.if-register-len.false, c.len.ensures))
