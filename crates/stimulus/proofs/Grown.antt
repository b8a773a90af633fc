-- One more row behind the others.
use Rattle.std.proofs.Common.{◌≡◌, ℕ, zero, suc, ◌+◌, ◌-◌, ◌^◌, ◌<◌, ◌≤◌, List, [], ◌∷◌, ◌++◌, length, get_or, refl, sym, ◌∙◌, ap, subst, arith, cond, eqb, ltb, inl, inr, ◌⊎◌, Option, Some, None}
use Rattle.std.specs.Prelude.{option_and_then, slice_get}
use Rattle.std.specs.Option.{option_map}
use Rattle.std.proofs.lemmas.Bool.{cases_Bool, cases_eq, cond-true, cond-false, ltb-true, ne_eqb}
use Rattle.std.proofs.lemmas.Option.{slice_get-get_or}
use Rattle.sim_base.specs.Digits.{hexadecimal_number}
use Rattle.stimulus_text.specs.Numbers.{number_within}
use Rattle.stimulus_blocks.specs.Rows.{BlockRow, no_row}
use Rattle.stimulus_blocks.specs.Blocks.{AreRows, IsRow}
use Rattle.stimulus.specs.Steps.{least_behind, values_of}

and_then_some : {X Y : Type 0} (f : X → Option Y) (o : Option X) (y : Y) → option_and_then f o ≡ Some y → (x : X) × (o ≡ Some x) × (f x ≡ Some y)
and_then_some f None y e = cc e
and_then_some f (Some x) y e = (x, refl, e)

map_some : {X Y : Type 0} (f : X → Y) (o : Option X) (y : Y) → option_map f o ≡ Some y → (x : X) × (o ≡ Some x) × (f x ≡ y)
map_some f None y e = cc e
map_some f (Some x) y e = (x, refl, (let s : f x ≡ y = cc e in s))

-- ---- values

fitting : (w n m : ℕ) → cond (ltb n (2 ^ w)) (Some n) None ≡ Some m → m < 2 ^ w
fitting w n m e = elim (cases_Bool (ltb n (2 ^ w))) [
  | inl t ↦ (let f : Some n ≡ Some m = sym (cond-true (ltb n (2 ^ w)) (Some n) None t) ∙ e in let g : n ≡ m = cc f in let l : n < 2 ^ w = ltb-true n (2 ^ w) t in omega arith)
  | inr f ↦ (let g : None ≡ Some m = sym (cond-false (ltb n (2 ^ w)) (Some n) None f) ∙ e in cc g)
]

within_below : (w : ℕ) (word : List ℕ) (n : ℕ) → number_within w word ≡ Some n → n < 2 ^ w
within_below w word n e = let a = and_then_some (λ n. cond (ltb n (2 ^ w)) (Some n) None) (hexadecimal_number word) n e in fitting w a.0 n a.2

below_front : (w n : ℕ) (ws ns : List ℕ) → n < 2 ^ w → ((k : ℕ) → get_or ns k 0 < 2 ^ get_or ws k 0) → (k : ℕ) → get_or (n ∷ ns) k 0 < 2 ^ get_or (w ∷ ws) k 0
below_front w n ws ns lt rest zero = lt
below_front w n ws ns lt rest (suc k) = rest k

pub values_good : (ws : List ℕ) (vs : List (List ℕ)) (ns : List ℕ) (offset : ℕ) → values_of ws vs ≡ Some ns → IsRow ws (record { offset = offset; values = ns })
unfolding values_of
values_good [] [] ns offset e = let z : [] ≡ ns = cc e in record { long = ap length (sym z); below = λ n. subst (λ (l : List ℕ). get_or l n 0 < 2 ^ 0) z (omega arith) }
values_good [] (v ∷ vs) ns offset e = cc e
values_good (w ∷ ws) [] ns offset e = cc e
values_good (w ∷ ws) (v ∷ vs) ns offset e =
    let a = and_then_some (λ n. option_map (λ ns. n ∷ ns) (values_of ws vs)) (number_within w v) ns e in
    let b = map_some (λ ns. a.0 ∷ ns) (values_of ws vs) ns a.2 in
    let ih = values_good ws vs b.0 offset b.1 in
    subst (λ (l : List ℕ). IsRow (w ∷ ws) (record { offset = offset; values = l })) b.2
    (record { long = ap suc ih.long; below = below_front w a.0 ws b.0 (within_below w v a.0 a.1) ih.below })

-- ---- rows

appended : {X : Type 0} (xs : List X) (x : X) (n : ℕ) (y : X) → slice_get (xs ++ x ∷ []) n ≡ Some y → ((n < length xs) × (slice_get xs n ≡ Some y)) ⊎ ((n ≡ length xs) × (x ≡ y))
appended [] x zero y e = inr (refl, (let s : x ≡ y = cc e in s))
appended [] x (suc n) y e = cc e
appended (z ∷ xs) x zero y e = inl (omega arith, e)
appended (z ∷ xs) x (suc n) y e = elim (appended xs x n y e) [
  | inl there ↦ inl (let l = there.0 in omega arith, there.1)
  | inr last ↦ inr (ap suc last.0, last.1)
]

-- an offset that is not below the least one behind some rows is above theirs
above : (widths : List ℕ) (period offset : ℕ) (rows : List BlockRow) (i : ℕ) (x : BlockRow) → AreRows widths period rows → least_behind rows ≤ offset → i < length rows → slice_get rows i ≡ Some x → x.offset < offset
above widths period offset rows i x good least inside at =
    let last : ℕ = length rows - 1 in
    let n : least_behind rows ≡ (get_or rows (length rows - 1) no_row).offset + 1 = cond-false (eqb (length rows) 0) 0 ((get_or rows (length rows - 1) no_row).offset + 1) (ne_eqb (length rows) 0 (λ e. absurd (omega arith))) in
    let read : slice_get rows (length rows - 1) ≡ Some (get_or rows (length rows - 1) no_row) = slice_get-get_or rows (length rows - 1) no_row (omega arith) in
    elim (cases_eq i (length rows - 1)) [
      | inl same ↦
          (let f : Some x ≡ Some (get_or rows (length rows - 1) no_row) = sym at ∙ ap (slice_get rows) same ∙ read in
          let e : x ≡ get_or rows (length rows - 1) no_row = cc f in omega (arith, ap (λ r. r.offset) e))
      | inr other ↦ (let l = good.rise i (length rows - 1) x (get_or rows (length rows - 1) no_row) (omega arith) at read in omega arith)
    ]

pub rows_grown : (widths : List ℕ) (period : ℕ) (rows : List BlockRow) (row : BlockRow) → AreRows widths period rows → least_behind rows ≤ row.offset → row.offset < period → IsRow widths row → AreRows widths period (rows ++ row ∷ [])
rows_grown widths period rows row good least early new = record {
  rise = λ i j x y lt at_i at_j. elim (appended rows row j y at_j) [
    | inl there ↦ elim (appended rows row i x at_i) [
      | inl both ↦ good.rise i j x y lt both.1 there.1
      | inr past ↦ absurd (let a = there.0 in let b = past.0 in omega arith)
    ]
    | inr last ↦ elim (appended rows row i x at_i) [
      | inl before ↦ (let l = above widths period row.offset rows i x good least before.0 before.1 in omega (arith, ap (λ r. r.offset) last.1))
      | inr past ↦ absurd (let a = last.0 in let b = past.0 in omega arith)
    ]
  ];
  before = λ i x at. elim (appended rows row i x at) [
    | inl there ↦ good.before i x there.1
    | inr last ↦ omega (arith, early, ap (λ r. r.offset) last.1)
  ];
  each = λ i x at. elim (appended rows row i x at) [
    | inl there ↦ good.each i x there.1
    | inr last ↦ subst (λ (r : BlockRow). IsRow widths r) last.1 new
  ];
}
