-- Bits that drives cover, one after another.
use Rattle.std.proofs.Common.{◌≡◌, ◌≢◌, ℕ, ◌+◌, ◌-◌, ◌<◌, List, length, set, refl, sym, ◌∙◌, ap, subst, arith, inl, inr, Bool, true, false, cond, ◌&&◌, Option, Some, nat_eq, nat_le, nat_lt}
use Rattle.std.specs.Prelude.{slice_get}
use Rattle.std.proofs.lemmas.Bool.{cases_eq, cases_Bool, and_from, cond-true, eqb-true, eq-eqb, le-leb, ltb-true, lt-ltb}
use Rattle.circuit.specs.declared.netlist.Drive.{Drive}
use Rattle.circuit.specs.declared.netlist.Net.{Net}
use Rattle.driver_check.specs.Depends.{Bit}
use Rattle.driver_check.specs.Numbers.{IsBit, bit_number}
use Rattle.driver_check.proofs.Numbered.{number_once}
use Rattle.driver_check.proofs.Places.{set_other, set_same}
use Rattle.design_starts.specs.Chains.{taken_at, taken_by}
use Rattle.design_starts.specs.declared.taken.Taken.{Taken}

-- one of the first i bits of a drive
abbrev pub covers_first : Drive → ℕ → Bit → Bool
covers_first d i x = nat_eq d.net x.0 && (nat_le d.at x.1 && nat_lt x.1 (d.at + i))

before_same : (b e : ℕ) → b ≢ e → nat_lt b (e + 1) ≡ nat_lt b e
before_same b e ne = elim (cases_Bool (nat_lt b (e + 1))) [
  | inl on ↦ on ∙ sym (lt-ltb b e (let lt = ltb-true b (e + 1) on in omega (arith, lt, ne)))
  | inr off ↦ elim (cases_Bool (nat_lt b e)) [
    | inl on ↦ (let z : true ≡ false = sym (lt-ltb b (e + 1) (let lt = ltb-true b e on in omega (arith, lt))) ∙ off in cc z)
    | inr o ↦ off ∙ sym o
  ]
]

covers_same : (d : Drive) (i : ℕ) (x : Bit) → (d.net ≡ x.0 → x.1 ≡ d.at + i → ⊥) → covers_first d (i + 1) x ≡ covers_first d i x
covers_same d i x never = elim (cases_Bool (nat_eq d.net x.0)) [
  | inl on ↦
      (let e : nat_lt x.1 (d.at + i + 1) ≡ nat_lt x.1 (d.at + i) = before_same x.1 (d.at + i) (never (eqb-true d.net x.0 on)) in
      let z : d.at + (i + 1) ≡ d.at + i + 1 = omega arith in
      ap (λ (n : ℕ). nat_eq d.net x.0 && (nat_le d.at x.1 && nat_lt x.1 n)) z ∙ ap (λ (b : Bool). nat_eq d.net x.0 && (nat_le d.at x.1 && b)) e)
  | inr off ↦
      ap (λ (b : Bool). b && (nat_le d.at x.1 && nat_lt x.1 (d.at + (i + 1)))) off ∙ sym (ap (λ (b : Bool). b && (nat_le d.at x.1 && nat_lt x.1 (d.at + i))) off)
]

module _ (nets : List Net) (d : Drive) (i : ℕ) (table was : List Taken) (inv : (x : Bit) → IsBit nets x → slice_get table (bit_number nets x) ≡ cond (covers_first d i x) (Some (taken_by d.by (x.1 - d.at))) (slice_get was (bit_number nets x))) where
  abbrev after : Bit → Option Taken
  after x = cond (covers_first d (i + 1) x) (Some (taken_by d.by (x.1 - d.at))) (slice_get was (bit_number nets x))

  other : (x : Bit) → IsBit nets x → (d.net ≡ x.0 → x.1 ≡ d.at + i → ⊥) → slice_get table (bit_number nets x) ≡ after x
  other x b never = inv x b ∙ sym (ap (λ (t : Bool). cond t (Some (taken_by d.by (x.1 - d.at))) (slice_get was (bit_number nets x))) (covers_same d i x never))

  pub take_off : (IsBit nets (d.net, d.at + i) → ⊥) → (x : Bit) → IsBit nets x → slice_get table (bit_number nets x) ≡ after x
  take_off out x b = other x b (λ n e. out (subst (λ (m : ℕ). IsBit nets (m, d.at + i)) (sym n) (subst (λ (k : ℕ). IsBit nets (x.0, k)) e b)))

  pub take_on : (place : ℕ) → IsBit nets (d.net, d.at + i) → place ≡ bit_number nets (d.net, d.at + i) → place < length table
      → (x : Bit) → IsBit nets x → slice_get (set table place (taken_by d.by i)) (bit_number nets x) ≡ after x
  take_on place there is inside x b = elim (cases_eq (bit_number nets x) place) [
    | inl e ↦
        (let s = number_once nets x (d.net, d.at + i) b there (e ∙ is) in
        let bit : x.1 ≡ d.at + i = s.1 in
        let on : covers_first d (i + 1) x ≡ true =
        and_from (nat_eq d.net x.0) (nat_le d.at x.1 && nat_lt x.1 (d.at + (i + 1))) (eq-eqb d.net x.0 (sym s.0))
        (and_from (nat_le d.at x.1) (nat_lt x.1 (d.at + (i + 1))) (le-leb d.at x.1 (omega (arith, bit))) (lt-ltb x.1 (d.at + (i + 1)) (omega (arith, bit)))) in
        let at : x.1 - d.at ≡ i = omega (arith, bit) in
        ap (λ (n : ℕ). slice_get (set table place (taken_by d.by i)) n) e ∙ set_same table place (taken_by d.by i) inside
        ∙ ap (λ (n : ℕ). Some (taken_by d.by n)) (sym at)
        ∙ sym (cond-true (covers_first d (i + 1) x) (Some (taken_by d.by (x.1 - d.at))) (slice_get was (bit_number nets x)) on))
    | inr ne ↦
        set_other table place (bit_number nets x) (taken_by d.by i) ne
        ∙ other x b (λ n e. ne (ap (λ (m : ℕ). bit_number nets (m, x.1)) (sym n) ∙ ap (λ (k : ℕ). bit_number nets (d.net, k)) e ∙ sym is))
  ]

-- the drive that is looked at, or else what the drives behind it give
pub pick : (t : Bool) (bit : ℕ) (d : Drive) (o : Option Drive) (e : Option Taken) → e ≡ Some (taken_at bit o) → cond t (Some (taken_by d.by (bit - d.at))) e ≡ Some (taken_at bit (cond t (Some d) o))
pick true bit d o e is = refl
pick false bit d o e is = is
