-- Digits that are given to registers.
use Rattle.std.proofs.Common.{◌≡◌, ◌≢◌, ℕ, zero, suc, ◌+◌, ◌^◌, ◌<◌, ◌≤◌, List, [], ◌∷◌, length, map, set, refl, sym, ◌∙◌, ap, subst, arith, inl, inr, Bool, true, false, cond, ◌&&◌, ◌==◌, Option, Some, None, length-set}
use Rattle.std.specs.Prelude.{find, slice_get}
use Rattle.std.specs.Int.{bit_at}
use Rattle.std.proofs.lemmas.Bool.{and_from, cases_Bool, cond-false, cond-true, eqb-true, eq-eqb}
use Rattle.std.proofs.lemmas.List.{length-map}
use Rattle.std.proofs.lemmas.Nat.{pow_pos}
use Rattle.std.proofs.lemmas.Nat.Bits.{bit_at-zero, same_from_bits_below}
use Rattle.sim_base.specs.BitValue.{BitValue, bit_value, digit_of, zeros}
use Rattle.circuit.specs.Signal.{gathered}
use Rattle.circuit.specs.Valuation.{bits_of}
use Rattle.circuit.specs.declared.netlist.Circuit.{Circuit}
use Rattle.circuit.specs.declared.register.Reg.{Reg}
use Rattle.circuit.proofs.Gathered.{gathered_below, gathered_bit}
use Rattle.driver_check.proofs.Places.{was_set, within}
use Rattle.design_starts.specs.Chains.{IsOrigin}
use Rattle.design_starts.specs.Starts.{HaveDigits, comes_from, digit_or_zero, first_digit, is_bit, start_value, started_from, with_values}
use Rattle.design_starts.specs.declared.marks.Mark.{Mark}
use Rattle.design_starts.specs.declared.taken.Taken.{Taken}
use Rattle.design_starts.specs.declared.taken.Taken.TheVariants as taken
use Rattle.design_starts.proofs.Origins.{origin_found}

unmapped : {X Y : Type 0} (f : X → Y) (xs : List X) (i : ℕ) (y : Y) → slice_get (map f xs) i ≡ Some y → (x : X) × (slice_get xs i ≡ Some x) × (f x ≡ y)
unmapped f [] i y e = cc e
unmapped f (x ∷ xs) zero y e = (x, refl, let h : Some (f x) ≡ Some y = e in cc h)
unmapped f (x ∷ xs) (suc i) y e = unmapped f xs i y e

other_number : (m n : ℕ) → m ≢ n → m == n ≡ false
other_number m n ne = elim (cases_Bool (m == n)) [
  | inl on ↦ absurd (ne (eqb-true m n on))
  | inr off ↦ off
]

-- ---- no digits

pub zero_digits : (c : Circuit) (values : List BitValue) → values ≡ map (λ r. zeros r.width) c.regs → HaveDigits c [] values
zero_digits c values is = record {
  long = ap (λ (vs : List BitValue). length vs) is ∙ length-map c.regs (λ r. zeros r.width);
  width = λ n r v at e.
      let u = zero_at n v e in
      let some : Some u.0 ≡ Some r = sym u.1 ∙ at in
      let z : u.0 ≡ r = cc some in
      ap (λ (w : BitValue). w.width) (sym u.2) ∙ ap (λ (q : Reg). q.width) z;
  below = λ n v e.
      let u = zero_at n v e in
      subst (λ (w : BitValue). w.number < 2 ^ w.width) u.2 (pow_pos u.0.width);
  digit = λ n v i e lt.
      let u = zero_at n v e in
      ap (λ (w : BitValue). bit_at w.number i) (sym u.2) ∙ bit_at-zero i;
}
  where
    zero_at : (n : ℕ) (v : BitValue) → slice_get values n ≡ Some v → (r : Reg) × (slice_get c.regs n ≡ Some r) × (zeros r.width ≡ v)
    zero_at n v e = unmapped (λ (r : Reg). zeros r.width) c.regs n v (sym (ap (λ (vs : List BitValue). slice_get vs n) is) ∙ e)

-- ---- one mark in front

module _ (c : Circuit) (m : Mark) (ms : List Mark) (values : List BitValue) (h : HaveDigits c ms values) where
  others_first : (n i : ℕ) → comes_from c n i m ≡ false → first_digit c (m ∷ ms) n i ≡ first_digit c ms n i
  others_first n i off = ap digit_or_zero (cond-false (comes_from c n i m) (Some m) (find (comes_from c n i) ms) off)

  this_first : (n i : ℕ) → comes_from c n i m ≡ true → first_digit c (m ∷ ms) n i ≡ digit_of m.digit
  this_first n i on = ap digit_or_zero (cond-true (comes_from c n i m) (Some m) (find (comes_from c n i) ms) on)

  stays : ((n i : ℕ) → n < length values → comes_from c n i m ≡ false) → HaveDigits c (m ∷ ms) values
  stays none = record {
    long = h.long;
    width = h.width;
    below = h.below;
    digit = λ n v i at lt. h.digit n v i at lt ∙ sym (others_first n i (none n i (within values n v at)));
  }

  pub given_nothing : (end : Taken) → IsOrigin c (m.net, m.bit) end → ((register bit : ℕ) → end ≡ taken.Register register bit → ⊥) → HaveDigits c (m ∷ ms) values
  given_nothing taken.Nothing o never = stays (λ n i lt. ap (is_bit n i) (o (bits_of c)))
  given_nothing (taken.Bit net bit) o never = absurd o
  given_nothing (taken.Register register bit) o never = absurd (never register bit refl)

  module _ (register bit : ℕ) (o : IsOrigin c (m.net, m.bit) (taken.Register register bit)) where
    comes_is : (n i : ℕ) → comes_from c n i m ≡ (register == n && bit == i)
    comes_is n i = ap (is_bit n i) (origin_found c o.0 m.net m.bit (register, bit) o.1)

    not_there : (n i : ℕ) → register ≢ n → comes_from c n i m ≡ false
    not_there n i ne = comes_is n i ∙ ap (λ (b : Bool). b && bit == i) (other_number register n ne)

    pub given_outside : length values ≤ register → HaveDigits c (m ∷ ms) values
    given_outside out = stays (λ n i lt. not_there n i (λ e. omega (arith, e, lt, out)))

    pub given_bit : (v w : BitValue) → slice_get values register ≡ Some v → w.width ≡ v.width → w.number < 2 ^ w.width
        → ((i : ℕ) → i < v.width → bit_at w.number i ≡ cond (i == bit) (digit_of m.digit) (bit_at v.number i))
        → HaveDigits c (m ∷ ms) (set values register w)
    given_bit v w at wide small bits = record {
      long = length-set values register w ∙ h.long;
      width = λ n r u there e. elim (was_set values register n w u e) [
        | inl s ↦
            ap (λ (x : BitValue). x.width) s.1 ∙ wide ∙ h.width register r v (subst (λ (k : ℕ). slice_get c.regs k ≡ Some r) s.0 there) at
        | inr s ↦ h.width n r u there s.1
      ];
      below = λ n u e. elim (was_set values register n w u e) [
        | inl s ↦ subst (λ (x : BitValue). x.number < 2 ^ x.width) (sym s.1) small
        | inr s ↦ h.below n u s.1
      ];
      digit = λ n u i e lt. elim (was_set values register n w u e) [
        | inl s ↦
            (let less : i < v.width = (let uw : u.width ≡ w.width = ap (λ (x : BitValue). x.width) s.1 in omega (arith, lt, uw, wide)) in
            ap (λ (x : BitValue). bit_at x.number i) s.1 ∙ bits i less ∙ written i less ∙ ap (λ (k : ℕ). first_digit c (m ∷ ms) k i) (sym s.0))
        | inr s ↦ h.digit n u i s.1 lt ∙ sym (others_first n i (not_there n i (λ z. s.0 (sym z))))
      ];
    }
      where
        written : (i : ℕ) → i < v.width → cond (i == bit) (digit_of m.digit) (bit_at v.number i) ≡ first_digit c (m ∷ ms) register i
        written i less = elim (cases_Bool (i == bit)) [
          | inl on ↦
              (let z : i ≡ bit = eqb-true i bit on in
              cond-true (i == bit) (digit_of m.digit) (bit_at v.number i) on
              ∙ sym (this_first register i (comes_is register i ∙ and_from (register == register) (bit == i) (eq-eqb register register refl) (eq-eqb bit i (sym z)))))
          | inr off ↦
              (let apart : bit == i ≡ false = other_number bit i (λ z. let clash : true ≡ false = sym (eq-eqb i bit (sym z)) ∙ off in cc clash) in
              cond-false (i == bit) (digit_of m.digit) (bit_at v.number i) off
              ∙ h.digit register v i at less
              ∙ sym (others_first register i (comes_is register i ∙ and_off (register == register) (bit == i) apart)))
        ]
          where
            and_off : (a b : Bool) → b ≡ false → (a && b) ≡ false
            and_off true b e = e
            and_off false b e = refl

-- ---- registers with their values

digit_small : (b : Bool) → digit_of b < 2
digit_small true = omega arith
digit_small false = omega arith

mark_small : (o : Option Mark) → digit_or_zero o < 2
mark_small None = omega arith
mark_small (Some m) = digit_small m.digit

value_is : (c : Circuit) (ms : List Mark) (values : List BitValue) → HaveDigits c ms values → (n : ℕ) (r : Reg) (v : BitValue) → slice_get c.regs n ≡ Some r → slice_get values n ≡ Some v → v ≡ start_value (first_digit c ms n) r.width
value_is c ms values h n r v there at =
    let wide = h.width n r v there at in
    let digit = first_digit c ms n in
    let small : (j : ℕ) → digit j < 2 = (λ j. mark_small (find (comes_from c n j) ms)) in
    let number : v.number ≡ gathered digit v.width =
    same_from_bits_below v.width v.number (gathered digit v.width) (h.below n v at) (gathered_below v.width digit small)
    (λ j lt. h.digit n v j at lt ∙ sym (gathered_bit v.width digit small j lt)) in
    ap (λ (k : ℕ). bit_value v.width k) number ∙ ap (λ (w : ℕ). bit_value w (gathered digit w)) wide

pub all_started : (digits : ℕ → ℕ → ℕ) (n : ℕ) (rs : List Reg) (vs : List BitValue) → length vs ≡ length rs
    → ((k : ℕ) (r : Reg) (v : BitValue) → slice_get rs k ≡ Some r → slice_get vs k ≡ Some v → v ≡ start_value (digits (k + n)) r.width)
    → with_values rs vs ≡ started_from digits n rs
unfolding with_values started_from
all_started digits n [] vs long is = refl
all_started digits n (r ∷ rs) [] long is = cc long
all_started digits n (r ∷ rs) (v ∷ vs) long is =
    let zero_n : 0 + n ≡ n = omega arith in
    let here : v ≡ start_value (digits n) r.width = is 0 r v refl refl ∙ ap (λ (k : ℕ). start_value (digits k) r.width) zero_n in
    let less : length vs ≡ length rs = omega (arith, long) in
    let rest : with_values rs vs ≡ started_from digits (suc n) rs =
    all_started digits (suc n) rs vs less (λ k q u a b. is (suc k) q u a b ∙ ap (λ (j : ℕ). start_value (digits j) q.width) (let z : suc k + n ≡ k + suc n = omega arith in z)) in
    ap (λ (u : BitValue). (let q : Reg = record r { init = u } in q) ∷ with_values rs vs) here ∙ ap (λ (qs : List Reg). (let q : Reg = record r { init = start_value (digits n) r.width } in q) ∷ qs) rest

pub registers_started : (c : Circuit) (ms : List Mark) (values : List BitValue) → HaveDigits c ms values → with_values c.regs values ≡ started_from (first_digit c ms) 0 c.regs
registers_started c ms values h =
    all_started (first_digit c ms) 0 c.regs values h.long
    (λ k r v there at. value_is c ms values h k r v there at ∙ ap (λ (j : ℕ). start_value (first_digit c ms j) r.width) (let z : k ≡ k + 0 = omega arith in z))

-- ---- registers one by one

pub no_registers : (values : List BitValue) → with_values [] values ≡ []
unfolding with_values
no_registers values = refl

pub one_register : (r : Reg) (rs : List Reg) (v : BitValue) (vs : List BitValue) → with_values (r ∷ rs) (v ∷ vs) ≡ (record r { init = v }) ∷ with_values rs vs
unfolding with_values
one_register r rs v vs = refl

pub no_length : {X : Type 0} (xs : List X) → length xs ≡ 0 → xs ≡ []
no_length [] e = refl
no_length (x ∷ xs) e = absurd (omega (arith, e))
