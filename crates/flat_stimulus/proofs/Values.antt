-- Values in hexadecimal digits.
use Rattle.std.specs.Borrow.{Bor}
use Rattle.std.proofs.lemmas.List.{drop_more, drop_all, append-nil}
use Rattle.flat_stimulus.proofs.Options.{front_onto}
use Rattle.std.proofs.Common.{◌≡◌, ◌≢◌, ◌+◌, ◌≤◌, ◌++◌, get_or, map, drop, ℕ, suc, ◌/◌, ◌%◌, ◌^◌, ◌<◌, List, [], ◌∷◌, length, true, refl, sym, ◌∙◌, ap, arith, inl, inr, Option, Some, None, cond}
use Rattle.std.specs.Option.{option_map}
use Rattle.flat_stimulus.specs.Text.{row_in, rows_in, values_of}
use Rattle.flat_stimulus.specs.declared.column.Column.{Column}
use Rattle.flat_stimulus.specs.declared.row.BlockRow.{BlockRow}
use Rattle.std.specs.Prelude.{is_some, option_and_then, unwrap_or, nat_lt}
use Rattle.std.proofs.Math.Nat.{mod-eq_of_lt}
use Rattle.std.proofs.lemmas.Bool.{cases_Bool, cond-true, cond-false, false≢true, ltb-true}
use Rattle.sim_base.specs.BitValue.{BitValue, bit_value, hexadecimal_value}
use Rattle.sim_base.specs.Digits.{hexadecimal_number}

pub some_is : {X : Type 0} (o : Option X) (v d : X) → is_some o ≡ true → v ≡ unwrap_or o d → o ≡ Some v
some_is None v d h e = absurd (false≢true h)
some_is (Some x) v d h e = ap (λ y. Some y) (sym e)

abbrev fitting : ℕ → ℕ → Option BitValue
fitting w n = cond (nat_lt n (2 ^ w)) (Some (bit_value w n)) None

fitting_is : (w n : ℕ) (v : BitValue) → fitting w n ≡ Some v → (v ≡ bit_value w v.number) × (v.number < 2 ^ w)
fitting_is w n v e = elim (cases_Bool (nat_lt n (2 ^ w))) [
  | inl lt ↦
      (let f : Some (bit_value w n) ≡ Some v = sym (cond-true (nat_lt n (2 ^ w)) (Some (bit_value w n)) None lt) ∙ e in
      let g : bit_value w n ≡ v = cc f in
      let m : n ≡ v.number = ap (λ x. x.number) g in
      (sym g ∙ ap (bit_value w) m, (let l : n < 2 ^ w = ltb-true n (2 ^ w) lt in omega arith)))
  | inr off ↦ (let f : None ≡ Some v = sym (cond-false (nat_lt n (2 ^ w)) (Some (bit_value w n)) None off) ∙ e in cc f)
]

from_number : (w : ℕ) (o : Option ℕ) (v : BitValue) → option_and_then (fitting w) o ≡ Some v → (v ≡ bit_value w v.number) × (v.number < 2 ^ w)
from_number w None v e = cc e
from_number w (Some n) v e = fitting_is w n v e

-- a value that a text stands for has the width, and a number below 2 to it
pub value_is : (w : ℕ) (text : List ℕ) (v : BitValue) → hexadecimal_value w text ≡ Some v → (v ≡ bit_value w v.number) × (v.number < 2 ^ w)
value_is w text v e = from_number w (hexadecimal_number text) v e

pub value_read : (w : ℕ) (text : List ℕ) (v d : BitValue) (width n : ℕ) → is_some (hexadecimal_value w text) ≡ true → v ≡ unwrap_or (hexadecimal_value w text) d → width ≡ v.width → n ≡ v.number / 2 ^ 0 % 2 ^ width → hexadecimal_value w text ≡ Some (bit_value w n)
value_read w text v d width n h e we ne =
    let s : hexadecimal_value w text ≡ Some v = some_is (hexadecimal_value w text) v d h e in
    let i = value_is w text v s in
    let vw : v.width ≡ w = ap (λ x. x.width) i.0 in
    let z : v.number / 2 ^ 0 ≡ v.number = omega arith in
    let m : n ≡ v.number = ne ∙ ap (λ k. k % 2 ^ width) z ∙ ap (λ k. v.number % 2 ^ k) (we ∙ vw) ∙ mod-eq_of_lt i.1 in
    s ∙ ap (λ (x : BitValue). Some x) (i.0 ∙ ap (bit_value w) (sym m))

-- ---- the values of a row

lost : {X : Type 0} (f : X → ℕ) (more : Option (List ℕ)) (o : Option X) → more ≡ None → option_and_then (λ x. option_map (λ xs. f x ∷ xs) more) o ≡ None
lost f more None e = refl
lost f more (Some x) e = ap (option_map (λ xs. f x ∷ xs)) e

pub values_unequal : (cs : List Column) (vs : List (List ℕ)) → length cs ≢ length vs → values_of cs vs ≡ None
unfolding values_of
values_unequal [] [] ne = absurd (ne refl)
values_unequal [] (v ∷ vs) ne = refl
values_unequal (c ∷ cs) [] ne = refl
values_unequal (c ∷ cs) (v ∷ vs) ne =
    lost {X = BitValue} (λ x. x.number) (values_of cs vs) (hexadecimal_value c.width v) (values_unequal cs vs (λ e. ne (ap suc e)))

pub values_none : values_of [] [] ≡ Some []
unfolding values_of
values_none = refl

pub values_cons : (c : Column) (cs : List Column) (v : List ℕ) (vs : List (List ℕ)) (n : ℕ) → hexadecimal_value c.width v ≡ Some (bit_value c.width n) → values_of (c ∷ cs) (v ∷ vs) ≡ option_map (λ ns. n ∷ ns) (values_of cs vs)
unfolding values_of
values_cons c cs v vs n e = ap (option_and_then (λ x. option_map (λ xs. x.number ∷ xs) (values_of cs vs))) e

pub values_fail : (c : Column) (cs : List Column) (v : List ℕ) (vs : List (List ℕ)) → hexadecimal_value c.width v ≡ None → values_of (c ∷ cs) (v ∷ vs) ≡ None
unfolding values_of
values_fail c cs v vs e = ap (option_and_then (λ x. option_map (λ xs. x.number ∷ xs) (values_of cs vs))) e

module _ (cs : List Column) (ws : List (Bor (List ℕ))) (done : List ℕ) (i : ℕ) (c : Column) (w : Bor (List ℕ)) (invariant : values_of cs (map (λ x. x.now) ws) ≡ option_map (λ more. done ++ more) (values_of (drop i cs) (map (λ x. x.now) (drop i ws)))) (cs_left : i < length cs) (ws_left : i < length ws) where
  unrolled : values_of cs (map (λ x. x.now) ws) ≡ option_map (λ more. done ++ more) (values_of (get_or cs i c ∷ drop (i + 1) cs) ((get_or ws i w).now ∷ map (λ x. x.now) (drop (i + 1) ws)))
  unrolled =
      invariant
      ∙ ap (λ xs. option_map (λ more. done ++ more) (values_of xs (map (λ x. x.now) (drop i ws)))) (drop_more cs i c cs_left)
      ∙ ap (λ xs. option_map (λ more. done ++ more) (values_of (get_or cs i c ∷ drop (i + 1) cs) (map (λ x. x.now) xs))) (drop_more ws i w ws_left)

  pub values_step : (n : ℕ) → hexadecimal_value (get_or cs i c).width (get_or ws i w).now ≡ Some (bit_value (get_or cs i c).width n) → values_of cs (map (λ x. x.now) ws) ≡ option_map (λ more. (done ++ n ∷ []) ++ more) (values_of (drop (i + 1) cs) (map (λ x. x.now) (drop (i + 1) ws)))
  values_step n e =
      unrolled ∙ ap (option_map (λ more. done ++ more)) (values_cons (get_or cs i c) (drop (i + 1) cs) (get_or ws i w).now (map (λ x. x.now) (drop (i + 1) ws)) n e)
      ∙ front_onto done n (values_of (drop (i + 1) cs) (map (λ x. x.now) (drop (i + 1) ws)))

  pub values_stop : hexadecimal_value (get_or cs i c).width (get_or ws i w).now ≡ None → values_of cs (map (λ x. x.now) ws) ≡ None
  values_stop e = unrolled ∙ ap (option_map (λ more. done ++ more)) (values_fail (get_or cs i c) (drop (i + 1) cs) (get_or ws i w).now (map (λ x. x.now) (drop (i + 1) ws)) e)

pub values_end : (cs : List Column) (ws : List (Bor (List ℕ))) (done : List ℕ) (i : ℕ) → values_of cs (map (λ x. x.now) ws) ≡ option_map (λ more. done ++ more) (values_of (drop i cs) (map (λ x. x.now) (drop i ws))) → length cs ≤ i → length ws ≤ i → values_of cs (map (λ x. x.now) ws) ≡ Some done
values_end cs ws done i invariant a b =
    invariant
    ∙ ap (λ xs. option_map (λ more. done ++ more) (values_of xs (map (λ x. x.now) (drop i ws)))) (drop_all i cs a)
    ∙ ap (λ xs. option_map (λ more. done ++ more) (values_of [] (map (λ x. x.now) xs))) (drop_all i ws b)
    ∙ ap (option_map (λ more. done ++ more)) values_none
    ∙ ap (λ xs. Some xs) (append-nil done)

-- ---- the rows of lines

pub rows_none : (cs : List Column) (period least : ℕ) → rows_in cs period least [] ≡ Some []
unfolding rows_in
rows_none cs period least = refl

rows_cons : (cs : List Column) (period least : ℕ) (line : List ℕ) (lines : List (List ℕ)) (row : BlockRow) → row_in cs period least line ≡ Some row → rows_in cs period least (line ∷ lines) ≡ option_map (λ rows. row ∷ rows) (rows_in cs period (row.offset + 1) lines)
unfolding rows_in
rows_cons cs period least line lines row e = ap (option_and_then (λ row. option_map (λ rows. row ∷ rows) (rows_in cs period (row.offset + 1) lines))) e

rows_fail : (cs : List Column) (period least : ℕ) (line : List ℕ) (lines : List (List ℕ)) → row_in cs period least line ≡ None → rows_in cs period least (line ∷ lines) ≡ None
unfolding rows_in
rows_fail cs period least line lines e = ap (option_and_then (λ row. option_map (λ rows. row ∷ rows) (rows_in cs period (row.offset + 1) lines))) e

module _ (cs : List Column) (period least : ℕ) (ls : List (Bor (List ℕ))) (done : List BlockRow) (i : ℕ) (l : Bor (List ℕ)) (invariant : rows_in cs period 0 (map (λ x. x.now) ls) ≡ option_map (λ more. done ++ more) (rows_in cs period least (map (λ x. x.now) (drop i ls)))) where
  unrolled_rows : i < length ls → rows_in cs period 0 (map (λ x. x.now) ls) ≡ option_map (λ more. done ++ more) (rows_in cs period least ((get_or ls i l).now ∷ map (λ x. x.now) (drop (i + 1) ls)))
  unrolled_rows left = invariant ∙ ap (λ xs. option_map (λ more. done ++ more) (rows_in cs period least (map (λ x. x.now) xs))) (drop_more ls i l left)

  pub rows_step : i < length ls → (row : BlockRow) → row_in cs period least (get_or ls i l).now ≡ Some row → rows_in cs period 0 (map (λ x. x.now) ls) ≡ option_map (λ more. (done ++ row ∷ []) ++ more) (rows_in cs period (row.offset + 1) (map (λ x. x.now) (drop (i + 1) ls)))
  rows_step left row e =
      unrolled_rows left ∙ ap (option_map (λ more. done ++ more)) (rows_cons cs period least (get_or ls i l).now (map (λ x. x.now) (drop (i + 1) ls)) row e)
      ∙ front_onto done row (rows_in cs period (row.offset + 1) (map (λ x. x.now) (drop (i + 1) ls)))

  pub rows_stop : i < length ls → row_in cs period least (get_or ls i l).now ≡ None → rows_in cs period 0 (map (λ x. x.now) ls) ≡ None
  rows_stop left e = unrolled_rows left ∙ ap (option_map (λ more. done ++ more)) (rows_fail cs period least (get_or ls i l).now (map (λ x. x.now) (drop (i + 1) ls)) e)

  pub rows_end : length ls ≤ i → rows_in cs period 0 (map (λ x. x.now) ls) ≡ Some done
  rows_end over =
      invariant ∙ ap (λ xs. option_map (λ more. done ++ more) (rows_in cs period least (map (λ x. x.now) xs))) (drop_all i ls over)
      ∙ ap (option_map (λ more. done ++ more)) (rows_none cs period least)
      ∙ ap (λ xs. Some xs) (append-nil done)
