use Rattle.std.proofs.Common.{◌≢◌, ◌^◌, ◌*◌, ℕ, ◌≤◌, arith, None, sym, if◌then◌else◌, ap, Some}
use Rattle.std.proofs.Math.Pow.{pow_mono}
use Rattle.std.proofs.Math.Nat.{le-mul_of_pos_right}
use Rattle.std.proofs.lemmas.Bool.{le-ltb}
use Rattle.cell_library.proofs.values.scaled.Goals as goal

large : (v k : ℕ) → v ≢ 0 → 64 ≤ k → 2 ^ 64 ≤ v * 2 ^ k
large v k nonzero e =
    let wide : 2 ^ 64 ≤ 2 ^ k = pow_mono e in
    let more : 2 ^ k ≤ 2 ^ k * v = le-mul_of_pos_right (2 ^ k) (omega arith) in
    grind arith

pub returns-then-power-ge64 : goal.returns-then-power-ge64
returns-then-power-ge64 c =
    let far : 2 ^ 64 ≤ c.args.value * 2 ^ c.args.power = large c.args.value c.args.power (omega arith) c.if-power-ge64.true in
    sym (ap (λ b. if b then Some (c.args.value * 2 ^ c.args.power) else None) (le-ltb (c.args.value * 2 ^ c.args.power) (2 ^ 64) far))
