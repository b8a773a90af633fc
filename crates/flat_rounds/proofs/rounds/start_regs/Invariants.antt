use Rattle.std.proofs.Common.{◌≡◌, ℕ, ◌<◌, ◌^◌, map, take, Some}
use Rattle.std.specs.Prelude.{slice_get}
use Rattle.circuit.specs.declared.register.Reg.{Reg}
use Rattle.flat_rounds.proofs.rounds.start_regs.Given as goal

abbrev pub invariant-loop-reg : goal.invariant-loop-reg
invariant-loop-reg l = record {
  numbers : l.regs.items ≡ map (λ (r : Reg). r.init.number) (take l.reg-index l.circuit.regs);
  below : (k : ℕ) (r : Reg) → k < l.reg-index → slice_get l.circuit.regs k ≡ Some r → r.init.number < 2 ^ r.width;
}
