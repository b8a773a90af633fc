-- A number that is too small to be a multiple.
use Rattle.std.proofs.Common.{◌≡◌, ℕ, zero, suc, ◌*◌, ◌^◌, ◌<◌, ◌≤◌, ◌==◌, arith, false}
use Rattle.std.proofs.Math.Pow.{pow_mono}
use Rattle.std.proofs.lemmas.Bool.{ne_eqb}

pub too_small : (wide width selector : ℕ) → wide ≤ 65536 → 16 < selector → 0 < width → wide == width * 2 ^ selector ≡ false
too_small wide zero selector small large some = elim some [ ]
too_small wide (suc width) selector small large some =
    ne_eqb wide (suc width * 2 ^ selector) (λ e. omega (arith, e, small, pow_mono {i = 17} {j = selector} large))
