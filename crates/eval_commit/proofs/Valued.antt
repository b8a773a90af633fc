-- Nets with the digits of a valuation have its numbers.
use Rattle.std.proofs.Common.{◌≡◌, ℕ, zero, suc, ◌+◌, ◌<◌, ◌≤◌, List, [], ◌∷◌, map, length, get_or, refl, sym, ◌∙◌, ap, subst, arith, inl, inr, Some}
use Rattle.std.specs.Prelude.{slice_get, slice_index}
use Rattle.std.specs.Int.{bit_at}
use Rattle.std.proofs.lemmas.Bool.{cases_lt}
use Rattle.std.proofs.lemmas.Grind.{same_number_lists}
use Rattle.std.proofs.lemmas.List.{length-map}
use Rattle.std.proofs.lemmas.Nat.Bits.{bit_at-lt, bit_at_above, same_from_bits}
use Rattle.sim_base.specs.BitValue.{BitValue}
use Rattle.circuit.specs.Signal.{Digits, gathered}
use Rattle.circuit.specs.State.{State}
use Rattle.circuit.specs.Valuation.{IsValuation, digit_at, numbers_from, valuation}
use Rattle.circuit.specs.declared.netlist.Circuit.{Circuit}
use Rattle.circuit.specs.declared.netlist.Drive.{Drive}
use Rattle.circuit.specs.declared.netlist.Net.{Net}
use Rattle.circuit.proofs.Gathered.{gathered_below, gathered_bit}
use Rattle.eval_plan.specs.Roots.{AreRoots}
use Rattle.driver_check.proofs.Fitting.{fits_inside}
use Rattle.driver_check.proofs.Owned.{covers_parts}
use Rattle.driver_check.proofs.Places.{found, same}
use Rattle.sim_base.specs.Values.{numbers, widths}
use Rattle.signal_words.specs.Values.{digits_in}
use Rattle.eval_commit.proofs.Meaning.{undriven_right}

gathered_same : (n w : ℕ) (d : ℕ → ℕ) → ((i : ℕ) → bit_at n i ≡ d i) → ((i : ℕ) → w ≤ i → d i ≡ 0) → n ≡ gathered d w
gathered_same n w d bits above =
    same_from_bits n (gathered d w) (λ i. elim (cases_lt i w) [
      | inl lt ↦ bits i ∙ sym (gathered_bit w d small i lt)
      | inr ge ↦ bits i ∙ above i ge ∙ sym (bit_at_above (gathered d w) w i (gathered_below w d small) ge)
    ])
  where
    small : (j : ℕ) → d j < 2
    small j = subst (λ (k : ℕ). k < 2) (bits j) (bit_at-lt n j)

numbers_length : (digits : Digits) (n : ℕ) (xs : List Net) → length (numbers_from digits n xs) ≡ length xs
unfolding numbers_from
numbers_length digits n [] = refl
numbers_length digits n (x ∷ xs) = ap suc (numbers_length digits (suc n) xs)

numbers_at : (digits : Digits) (n : ℕ) (xs : List Net) (k : ℕ) (x : Net) → slice_get xs k ≡ Some x → slice_index (numbers_from digits n xs) k ≡ gathered (digits (k + n)) x.width
unfolding numbers_from
numbers_at digits n [] k x e = cc e
numbers_at digits n (y ∷ xs) zero x e =
    let same : y ≡ x = cc e in
    let z : n ≡ 0 + n = omega arith in
    ap (λ (v : Net). gathered (digits n) v.width) same ∙ ap (λ m. gathered (digits m) x.width) z
numbers_at digits n (y ∷ xs) (suc k) x e =
    let z : k + suc n ≡ suc k + n = omega arith in
    numbers_at digits (suc n) xs k x e ∙ ap (λ m. gathered (digits m) x.width) z

-- a bit behind the end of its net is 0
past_end : (c : Circuit) (state : State) (inputs : List ℕ) (digits : Digits) (roots : List Drive) → AreRoots c roots → IsValuation c state inputs digits
    → (k : ℕ) (x : Net) → slice_get c.nets k ≡ Some x → (i : ℕ) → x.width ≤ i → digits k i ≡ 0
past_end c state inputs digits roots are valued k x at i le =
    undriven_right c state inputs digits roots are valued (k, i) (λ j r cov.
    let n = fits_inside c r (are.right j r cov.0).inside in
    let p = covers_parts r k i cov.1 in
    let e : n.0 ≡ x = same c.nets k n.0 x (subst (λ (m : ℕ). slice_get c.nets m ≡ Some n.0) p.0 n.1) at in
    let w : n.0.width ≡ x.width = ap (λ (y : Net). y.width) e in
    omega (arith, le, n.2, p.2, w))

pub valued : (c : Circuit) (state : State) (inputs : List ℕ) (roots : List Drive) (nets : List BitValue) → AreRoots c roots → IsValuation c state inputs (digit_at c state inputs) → widths nets ≡ map (λ x. x.width) c.nets
    → ((net bit : ℕ) → digits_in nets net bit ≡ digit_at c state inputs net bit) → numbers nets ≡ valuation c state inputs
valued c state inputs roots nets are is e digits = same_number_lists (numbers nets) (valuation c state inputs) (long ∙ sym many) each
  where
    long : length (numbers nets) ≡ length c.nets
    long = length-map nets (λ (v : BitValue). v.number) ∙ sym (length-map nets (λ (v : BitValue). v.width)) ∙ ap length e ∙ length-map c.nets (λ (x : Net). x.width)

    many : length (valuation c state inputs) ≡ length c.nets
    many = numbers_length (digit_at c state inputs) 0 c.nets

    each : (k : ℕ) → k < length (numbers nets) → get_or (numbers nets) k 0 ≡ get_or (valuation c state inputs) k 0
    each k lt =
        let x = found c.nets k (omega (arith, lt, long)) in
        let z : k + 0 ≡ k = omega arith in
        gathered_same (slice_index (numbers nets) k) x.0.width (digit_at c state inputs k) (digits k) (past_end c state inputs (digit_at c state inputs) roots are is k x.0 x.1)
        ∙ sym (numbers_at (digit_at c state inputs) 0 c.nets k x.0 x.1 ∙ ap (λ m. gathered (digit_at c state inputs m) x.0.width) z)
