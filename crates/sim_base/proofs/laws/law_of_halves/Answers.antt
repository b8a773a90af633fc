use Rattle.std.proofs.Common.{◌*◌, ◌^◌, ◌<◌, ◌≤◌, ◌∙◌, arith}
use Rattle.std.proofs.Math.Nat.{mod-eq_of_lt, pow-le-pow_right}
use Rattle.std.proofs.lemmas.Grind.{div_ceil_times}
use Rattle.sim_base.specs.Shape.{words_of_width}
use Rattle.sim_base.proofs.Parts.{length-parts, parts_make}
use Rattle.sim_base.proofs.laws.law_of_halves.Goals as goal

pub returns-clause-count : goal.returns-clause-count
returns-clause-count c = λ v. length-parts 32 (words_of_width v.width) v.number

pub returns-clause-number : goal.returns-clause-number
returns-clause-number c = λ v lt.
    let room : v.width ≤ words_of_width v.width * 32 = (div_ceil_times v.width 32 (omega arith)).0 in
    let most : 2 ^ v.width ≤ 2 ^ (words_of_width v.width * 32) = pow-le-pow_right (let two : 0 < 2 = omega arith in two) room in
    let below : v.number < 2 ^ (words_of_width v.width * 32) = omega (arith, lt, most) in
    parts_make 32 (words_of_width v.width) v.number ∙ mod-eq_of_lt below
