-- The values of registers after the first of them.
use Rattle.std.proofs.Common.{◌≡◌, ℕ, zero, suc, ◌+◌, ◌≤◌, List, [], ◌∷◌, length, set, refl, sym, ◌∙◌, ap, arith, Bool, false, true, not, map, ◌||◌, nat_eq, Some}
use Rattle.std.specs.Prelude.{slice_get}
use Rattle.std.specs.Cmp.Lexicographic.{pointwise}
use Rattle.std.proofs.lemmas.Bool.Decides.{nat_tests}
use Rattle.std.proofs.lemmas.List.{length-map, map-set}
use Rattle.sim_base.specs.BitValue.{BitValue, bit_value}
use Rattle.sim_base.specs.Values.{numbers, widths}
use Rattle.circuit.specs.Signal.{Digits}
use Rattle.circuit.specs.Next.{next_number, next_numbers}
use Rattle.circuit.specs.declared.register.Reg.{Reg}
use Rattle.memory_cells.proofs.Fitting.{same_there}
use Rattle.eval_commit.proofs.PortsOver.{long_as, over, over_all, over_old, over_put, told_more, unchanged}
use Rattle.eval_commit.proofs.Written.{put_widths}

next_length : (before now : Digits) (rs : List Reg) (owns : List ℕ) → length rs ≡ length owns → length (next_numbers before now rs owns) ≡ length owns
unfolding next_numbers
next_length before now [] owns e = e
next_length before now (r ∷ rs) [] e = absurd (omega (arith, e))
next_length before now (r ∷ rs) (own ∷ owns) e = ap suc (next_length before now rs owns (omega (arith, e)))

next_at : (before now : Digits) (rs : List Reg) (owns : List ℕ) (i : ℕ) (r : Reg) (own : ℕ) → slice_get rs i ≡ Some r → slice_get owns i ≡ Some own → slice_get (next_numbers before now rs owns) i ≡ Some (next_number before now r own)
unfolding next_numbers
next_at before now [] owns i r own a b = cc a
next_at before now (x ∷ rs) [] i r own a b = cc b
next_at before now (x ∷ rs) (y ∷ owns) zero r own a b =
    let e : x ≡ r = cc a in
    let f : y ≡ own = cc b in
    ap (λ (z : Reg). Some (next_number before now z y)) e ∙ ap (λ (n : ℕ). Some (next_number before now r n)) f
next_at before now (x ∷ rs) (y ∷ owns) (suc i) r own a b = next_at before now rs owns i r own a b

number_at : (values : List BitValue) (i : ℕ) (v : BitValue) → slice_get values i ≡ Some v → slice_get (numbers values) i ≡ Some v.number
number_at [] i v at = cc at
number_at (x ∷ xs) zero v at = let e : x ≡ v = cc at in ap (λ (u : BitValue). Some u.number) e
number_at (x ∷ xs) (suc i) v at = number_at xs i v at

same_number : (n : ℕ) → nat_eq n n ≡ true
same_number n = grind (arith, nat_tests)

-- each value has the width of its register
abbrev AreWide : List Reg → List BitValue → Type 0
AreWide rs values = widths values ≡ map (λ (r : Reg). r.width) rs

pub regs_long : (rs : List Reg) (olds regs : List BitValue) → AreWide rs olds → widths regs ≡ widths olds → length regs ≡ length rs
regs_long rs olds regs all wide = long_as (λ (v : BitValue). v.width) (λ (r : Reg). r.width) regs rs (wide ∙ all)

pub reg_wide : (rs : List Reg) (olds regs : List BitValue) (i : ℕ) (r : Reg) (o : BitValue) → AreWide rs olds → widths regs ≡ widths olds → slice_get rs i ≡ Some r → slice_get regs i ≡ Some o → o.width ≡ r.width
reg_wide rs olds regs i r o all wide at has = same_there (λ (v : BitValue). v.width) (λ (x : Reg). x.width) regs rs i o r (wide ∙ all) has at

-- the values once the first i registers have their next ones
pub record RegsMore (before now : Digits) (rs : List Reg) (olds regs : List BitValue) (i : ℕ) (changed : Bool) : Type 0 where
  pub wide : widths regs ≡ widths olds
  pub after : numbers regs ≡ over (next_numbers before now rs (numbers olds)) (numbers olds) i
  pub told : changed ≡ not (pointwise nat_eq (over (next_numbers before now rs (numbers olds)) (numbers olds) i) (numbers olds))

pub regs_none : (before now : Digits) (rs : List Reg) (olds : List BitValue) → RegsMore before now rs olds olds 0 false
regs_none before now rs olds = record { wide = refl; after = refl; told = ap not (sym (unchanged nat_eq same_number (numbers olds))) }

pub regs_more : (before now : Digits) (rs : List Reg) (olds regs : List BitValue) (i : ℕ) (r : Reg) (o new : BitValue) (changed part : Bool)
    → AreWide rs olds → slice_get rs i ≡ Some r → slice_get regs i ≡ Some o
    → RegsMore before now rs olds regs i changed
    → new ≡ bit_value r.width (next_number before now r o.number)
    → part ≡ not (nat_eq new.number o.number)
    → RegsMore before now rs olds (set regs i new) (i + 1) (changed || part)
regs_more before now rs olds regs i r o new changed part all at has done made told_part =
    let owns = numbers olds in
    let news = next_numbers before now rs owns in
    let v = next_number before now r o.number in
    let present : slice_get (numbers regs) i ≡ Some o.number = number_at regs i o has in
    let own : slice_get owns i ≡ Some o.number = over_old news owns (numbers regs) i o.number done.after present in
    let next : slice_get news i ≡ Some v = next_at before now rs owns i r o.number at own in
    let number : new.number ≡ v = ap (λ (x : BitValue). x.number) made in
    let width : new.width ≡ o.width = ap (λ (x : BitValue). x.width) made ∙ sym (reg_wide rs olds regs i r o all done.wide at has) in
    record {
      wide = put_widths regs i o new has width ∙ done.wide;
      after = map-set (λ (x : BitValue). x.number) regs i new ∙ over_put news owns (numbers regs) i v o.number new.number done.after next present number;
      told = told_more nat_eq same_number news owns i v o.number changed part next own done.told (told_part ∙ ap (λ n. not (nat_eq n o.number)) number);
    }

module _ (before now : Digits) (rs : List Reg) (olds regs : List BitValue) (i : ℕ) (changed : Bool) (done : RegsMore before now rs olds regs i changed) where
  pub regs_whole : AreWide rs olds → length rs ≤ i → numbers regs ≡ next_numbers before now rs (numbers olds)
  regs_whole all le =
      let long : length (numbers olds) ≡ length rs = length-map olds (λ (v : BitValue). v.number) ∙ regs_long rs olds olds all refl in
      let many : length (next_numbers before now rs (numbers olds)) ≡ length (numbers olds) = next_length before now rs (numbers olds) (sym long) in
      done.after ∙ over_all (next_numbers before now rs (numbers olds)) (numbers olds) i many (omega (arith, many, long, le))

  pub regs_told : changed ≡ not (pointwise nat_eq (numbers regs) (numbers olds))
  regs_told = done.told ∙ ap (λ ns. not (pointwise nat_eq ns (numbers olds))) (sym done.after)
