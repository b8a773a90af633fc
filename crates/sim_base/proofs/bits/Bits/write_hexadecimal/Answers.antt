use Rattle.std.proofs.Common.{◌≡◌, ◌+◌, ◌-◌, ◌/◌, ◌%◌, ◌^◌, ◌∙◌, ◌++◌, suc, length, drop, set, sym, ap, arith}
use Rattle.std.proofs.lemmas.List.{drop_all, append-nil}
use Rattle.std.proofs.Math.Nat.{pow-suc, div-div-eq-div-mul}
use Rattle.sim_base.specs.Digits.{lowest_digits, digit_character}
use Rattle.sim_base.proofs.Numerals.{lowest_step, lowest_whole}
use Rattle.sim_base.proofs.bits.Bits.write_hexadecimal.Goals as goal

pub loop-at-init : goal.loop-at-init
loop-at-init c =
    let into = c.args.into.now in
    let n = c.args.self.now.number in
    let whole : length into - length into ≡ 0 = omega arith in
    let one : n / 1 ≡ n = omega arith in
    record {
      digits = ap (λ xs. lowest_digits 16 (length into) (n / 16 ^ (length into - length into)) ++ xs) (drop_all (length into) into (omega arith))
          ∙ append-nil (lowest_digits 16 (length into) (n / 16 ^ (length into - length into)))
          ∙ ap (lowest_digits 16 (length into)) (ap (λ k. n / 16 ^ k) whole ∙ one);
    }

pub loop-at-preserved : goal.loop-at-preserved
loop-at-preserved c =
    let n = c.args.self.now.number in
    let l = length c.args.into.now in
    let at = c.loop-at.at in
    let k = at - 1 in
    let into = c.loop-at.into in
    let place : l - 1 - k ≡ l - at = omega arith in
    let next : l - k ≡ suc (l - at) = omega arith in
    let shifted : n / 16 ^ (l - k) ≡ n / 16 ^ (l - at) / 16 = ap (λ k. n / 16 ^ k) next ∙ ap (λ k. n / k) (pow-suc 16 (l - at)) ∙ sym (div-div-eq-div-mul n (16 ^ (l - at)) 16) in
    let a : suc k ≡ at = omega arith in
    let b : k + 1 ≡ at = omega arith in
    record {
      digits = ap (λ m. lowest_digits 16 k m ++ drop k (set into k c.digit_character.result)) shifted
          ∙ lowest_step 16 k (n / 16 ^ (l - at)) c.digit_character.result into (omega arith) (c.digit_character.ensures ∙ ap digit_character c.hexadecimal_digit.ensures ∙ ap (λ p. digit_character (n / 16 ^ p % 16)) place)
          ∙ ap (λ m. lowest_digits 16 m (n / 16 ^ (l - at)) ++ drop (k + 1) into) a
          ∙ ap (λ m. lowest_digits 16 at (n / 16 ^ (l - at)) ++ drop m into) b
          ∙ c.loop-at.invariant.digits;
    }

pub returns : goal.returns
returns c = sym (lowest_whole 16 c.loop-at.at (c.args.self.now.number / 16 ^ (length c.args.into.now - c.loop-at.at)) c.loop-at.into (omega arith)) ∙ c.loop-at.invariant.digits
