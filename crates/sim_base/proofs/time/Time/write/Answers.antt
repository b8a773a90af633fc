use Rattle.std.proofs.Common.{◌≡◌, ◌+◌, ◌-◌, ◌/◌, ◌%◌, ◌^◌, ◌≤◌, ◌∙◌, ap, subst, arith, rules, length, ◌++◌, ◌∷◌, decimal}
use Rattle.sim_base.specs.Digits.{lowest_digits}
use Rattle.sim_base.specs.TimeText.{time_text, read_time, largest_time}
use Rattle.sim_base.proofs.Numerals.{length-lowest_digits}
use Rattle.sim_base.proofs.TimeTexts.{read_time_text, length-middle, put_together, seconds_short}
use Rattle.sim_base.proofs.time.Time.write.Goals as goal

pub slice_bounds-write_lowest_digits-end : goal.slice_bounds-write_lowest_digits-end
slice_bounds-write_lowest_digits-end c =
    let text : c.as_bytes-text.result.now ≡ decimal (c.self.inside.femtoseconds / 10 ^ 15) = c.as_bytes-text.ensures.value ∙ c.format.ensures.text in
    let short : length c.as_bytes-text.result.now ≤ 10 = omega (arith, ap length text, seconds_short c.self.inside.femtoseconds c.self.invariant) in
    search rules

pub returns-clause-text : goal.returns-clause-text
unfolding time_text
returns-clause-text c =
    let t = c.self.inside.femtoseconds in
    let text = c.as_bytes-text.result.now in
    let front = c.copy_from_slice.new.self in
    let into = c.args.into.now in
    let k = length text + 1 + 15 - (length text + 1) in
    let is : text ≡ decimal (t / 10 ^ 15) = c.as_bytes-text.ensures.value ∙ c.format.ensures.text in
    let short : length text ≤ 10 = omega (arith, ap length is, seconds_short t c.self.invariant) in
    let l = length-middle text front into c.copy_from_slice.ensures.after c.told-into short k (omega arith) in
    let digits : c.write_lowest_digits.new.into ≡ lowest_digits 10 15 (t % 10 ^ 15) = c.write_lowest_digits.ensures ∙ ap (λ n. lowest_digits 10 n (t % 10 ^ 15)) l in
    put_together text front into c.copy_from_slice.ensures.after c.told-into short c.write_lowest_digits.new.into k (ap length digits ∙ length-lowest_digits 10 15 (t % 10 ^ 15))
    ∙ ap (λ xs. xs ++ 46 ∷ c.write_lowest_digits.new.into) is
    ∙ ap (λ xs. decimal (t / 10 ^ 15) ++ 46 ∷ xs) digits
    ∙ ap time_text c.self.view_is

pub returns-clause-read : goal.returns-clause-read
returns-clause-read c =
    let most : c.args.self.now ≤ largest_time = subst (λ n. n ≤ largest_time) c.self.view_is c.self.invariant in
    ap read_time (returns-clause-text c) ∙ read_time_text c.args.self.now most
