-- Names and numbers that differ, and items in the order of their names.
use Rattle.std.proofs.Common.{◌≡◌, ℕ, zero, suc, ◌+◌, ◌<◌, ◌≤◌, cond, List, [], ◌∷◌, length, get_or, refl, sym, ◌∙◌, ap, subst, arith, inl, inr, Bool, true, false, not, ◌&&◌, ◌||◌, ◌==◌, bytes_eq, Some, sum_by, Ordering, Less, Equal, Greater}
use Rattle.std.specs.Prelude.{slice_get}
use Rattle.std.specs.List.{list_all, list_any, count_by}
use Rattle.std.specs.List.Sorted.{IsPermutation, IsSortedBy}
use Rattle.std.specs.Cmp.Lexicographic.{slice_cmp}
use Rattle.std.specs.FinMap.{nat_cmp-IsAntisymmetric, slice_cmp-IsAntisymmetric}
use Rattle.std.specs.Ordering.{nat_cmp, is_lt, ordering_reverse}
use Rattle.std.proofs.lemmas.Bool.{and_from, and_parts, cases_Bool, cond-true, cond-false, eqb-true, eq-eqb}
use Rattle.std.proofs.lemmas.Cmp.{nat_list_cmp_total}
use Rattle.std.proofs.lemmas.Slice.Eq.{bytes_eq-Decides}
use Rattle.std.proofs.lemmas.List.Sums.{sum_by-cons}
use Rattle.std.proofs.lemmas.List.Sorted.{sum_by-IsPermutation}
use Rattle.circuit.specs.Valid.{is_before, is_node_of, is_shown_once, names_differ, names_rise, numbers_differ, stands_before}
use Rattle.circuit.specs.Built.{AreNamesApart, AreNumbersApart, AreScopesApart}
use Rattle.circuit.specs.declared.item.Item.{Item}
use Rattle.circuit.specs.declared.item.Scope.{Scope}

-- ---- tests of any element

none_passes : {X : Type 0} (p : X → Bool) (xs : List X) → ((i : ℕ) (x : X) → slice_get xs i ≡ Some x → p x ≡ false) → not (list_any p xs) ≡ true
none_passes p [] h = refl
none_passes p (x ∷ xs) h = let a = h 0 x refl in let b = none_passes p xs (λ i y e. h (suc i) y e) in cc (a, b)

neither : (a b : Bool) → not (a || b) ≡ true → (a ≡ false) × (not b ≡ true)
neither true b h = absurd (let z : false ≡ true = h in cc z)
neither false b h = (refl, h)

fails_at : {X : Type 0} (p : X → Bool) (xs : List X) → not (list_any p xs) ≡ true → (i : ℕ) (x : X) → slice_get xs i ≡ Some x → p x ≡ false
fails_at p [] h i x e = cc e
fails_at p (y ∷ ys) h zero x e = let same : y ≡ x = let g : Some y ≡ Some x = e in cc g in ap p (sym same) ∙ (neither (p y) (list_any p ys) h).0
fails_at p (y ∷ ys) h (suc i) x e = fails_at p ys (neither (p y) (list_any p ys) h).1 i x e

-- ---- elements whose keys differ, in general

module _ {X K : Type 0} (key : X → K) (same : K → K → Bool) (decides : (x y : K) → (same x y ≡ true → x ≡ y) × (x ≡ y → same x y ≡ true)) where
  abbrev AreApart : List X → Type 0
  AreApart xs = (i j : ℕ) (x y : X) → slice_get xs i ≡ Some x → slice_get xs j ≡ Some y → key x ≡ key y → i ≡ j

  abbrev is_other : X → List X → Bool
  is_other x xs = not (list_any (λ y. same (key x) (key y)) xs)

  differ : (k m : K) → (k ≡ m → ⊥) → same k m ≡ false
  differ k m other = elim (cases_Bool (same k m)) [ inl on ↦ absurd (other ((decides k m).0 on)) | inr off ↦ off ]

  tail_apart : (x : X) (xs : List X) → AreApart (x ∷ xs) → AreApart xs
  tail_apart x xs apart i j y z a b e = let same_place : suc i ≡ suc j = apart (suc i) (suc j) y z a b e in omega (arith, same_place)

  first_other : (x : X) (xs : List X) → AreApart (x ∷ xs) → is_other x xs ≡ true
  first_other x xs apart =
      none_passes (λ y. same (key x) (key y)) xs (λ i y e. differ (key x) (key y) (λ equal. let z : 0 ≡ suc i = apart 0 (suc i) x y refl e equal in absurd (omega (arith, z))))

  pub tests_apart : (test : List X → Bool) → test [] ≡ true → ((x : X) (xs : List X) → test (x ∷ xs) ≡ (is_other x xs && test xs)) → (xs : List X) → AreApart xs → test xs ≡ true
  tests_apart test none step [] apart = none
  tests_apart test none step (x ∷ xs) apart = step x xs ∙ and_from (is_other x xs) (test xs) (first_other x xs apart) (tests_apart test none step xs (tail_apart x xs apart))

  not_same : (k m : K) → same k m ≡ false → k ≡ m → ⊥
  not_same k m off e = let z : true ≡ false = sym ((decides k m).1 e) ∙ off in cc z

  pub apart_tested : (test : List X → Bool) → ((x : X) (xs : List X) → test (x ∷ xs) ≡ (is_other x xs && test xs)) → (xs : List X) → test xs ≡ true → AreApart xs
  apart_tested test step [] h i j x y a b e = cc a
  apart_tested test step (w ∷ ws) h zero zero x y a b e = refl
  apart_tested test step (w ∷ ws) h zero (suc j) x y a b e =
      let t = and_parts (is_other w ws) (test ws) (sym (step w ws) ∙ h) in
      let here : w ≡ x = let g : Some w ≡ Some x = a in cc g in
      absurd (not_same (key w) (key y) (fails_at (λ z. same (key w) (key z)) ws t.0 j y b) (ap key here ∙ e))
  apart_tested test step (w ∷ ws) h (suc i) zero x y a b e =
      let t = and_parts (is_other w ws) (test ws) (sym (step w ws) ∙ h) in
      let here : w ≡ y = let g : Some w ≡ Some y = b in cc g in
      absurd (not_same (key w) (key x) (fails_at (λ z. same (key w) (key z)) ws t.0 i x a) (ap key here ∙ sym e))
  apart_tested test step (w ∷ ws) h (suc i) (suc j) x y a b e =
      let t = and_parts (is_other w ws) (test ws) (sym (step w ws) ∙ h) in
      ap suc (apart_tested test step ws t.1 i j x y a b e)

  -- ---- in another order

  abbrev count : K → List X → ℕ
  count k xs = count_by (λ y. same k (key y)) xs

  count_more : (k : K) (x : X) (xs : List X) → count k (x ∷ xs) ≡ cond (same k (key x)) 1 0 + count k xs
  count_more k x xs = sum_by-cons (λ y. cond (same k (key y)) 1 0) x xs

  count_one : (k : K) (x : X) (xs : List X) → same k (key x) ≡ true → count k (x ∷ xs) ≡ 1 + count k xs
  count_one k x xs on = let t = cond-true {A = ℕ} (same k (key x)) 1 0 on in let c = count_more k x xs in omega (arith, t, c)

  count_none : (k : K) (x : X) (xs : List X) → same k (key x) ≡ false → count k (x ∷ xs) ≡ count k xs
  count_none k x xs off = let f = cond-false {A = ℕ} (same k (key x)) 1 0 off in let c = count_more k x xs in omega (arith, f, c)

  counted : (k : K) (xs : List X) (i : ℕ) (x : X) → slice_get xs i ≡ Some x → same k (key x) ≡ true → 1 ≤ count k xs
  counted k [] i x e on = cc e
  counted k (y ∷ ys) zero x e on =
      let here : y ≡ x = let g : Some y ≡ Some x = e in cc g in
      let c = count_one k y ys (ap (λ (z : X). same k (key z)) here ∙ on) in
      omega (arith, c)
  counted k (y ∷ ys) (suc i) x e on =
      let rest = counted k ys i x e on in
      let c = count_more k y ys in
      omega (arith, c, rest)

  uncounted : (k : K) (xs : List X) → ((i : ℕ) (x : X) → slice_get xs i ≡ Some x → same k (key x) ≡ false) → count k xs ≡ 0
  uncounted k [] h = refl
  uncounted k (x ∷ xs) h = count_none k x xs (h 0 x refl) ∙ uncounted k xs (λ i y e. h (suc i) y e)

  few_apart : (xs : List X) → AreApart xs → (k : K) → count k xs ≤ 1
  few_apart [] apart k = omega arith
  few_apart (x ∷ xs) apart k = elim (cases_Bool (same k (key x))) [
    | inl on ↦
        (let one = count_one k x xs on in
        let zero_behind = uncounted k xs (λ i y e. differ k (key y) (λ equal.
        let z : 0 ≡ suc i = apart 0 (suc i) x y refl e (sym ((decides k (key x)).0 on) ∙ equal) in absurd (omega (arith, z)))) in
        omega (arith, one, zero_behind))
    | inr off ↦ (let rest = few_apart xs (tail_apart x xs apart) k in let c = count_none k x xs off in omega (arith, c, rest))
  ]

  apart_few : (xs : List X) → ((k : K) → count k xs ≤ 1) → AreApart xs
  apart_few [] few i j x y a b e = cc a
  apart_few (w ∷ ws) few zero zero x y a b e = refl
  apart_few (w ∷ ws) few zero (suc j) x y a b e =
      let here : w ≡ x = let g : Some w ≡ Some x = a in cc g in
      let one = count_one (key w) w ws ((decides (key w) (key w)).1 refl) in
      let more = counted (key w) ws j y b ((decides (key w) (key y)).1 (ap key here ∙ e)) in
      let most = few (key w) in
      absurd (omega (arith, one, more, most))
  apart_few (w ∷ ws) few (suc i) zero x y a b e =
      let here : w ≡ y = let g : Some w ≡ Some y = b in cc g in
      let one = count_one (key w) w ws ((decides (key w) (key w)).1 refl) in
      let more = counted (key w) ws i x a ((decides (key w) (key x)).1 (ap key here ∙ sym e)) in
      let most = few (key w) in
      absurd (omega (arith, one, more, most))
  apart_few (w ∷ ws) few (suc i) (suc j) x y a b e =
      ap suc (apart_few ws (λ k. let c = count_more k w ws in let most = few k in omega (arith, c, most)) i j x y a b e)

  pub apart_moved : (xs ys : List X) → IsPermutation xs ys → AreApart xs → AreApart ys
  apart_moved xs ys moved apart =
      apart_few ys (λ k. let few = few_apart xs apart k in let same_count = sum_by-IsPermutation (λ y. cond (same k (key y)) 1 0) xs ys moved in omega (arith, few, same_count))

-- ---- names and numbers

same_text : (x y : List ℕ) → (bytes_eq x y ≡ true → x ≡ y) × (x ≡ y → bytes_eq x y ≡ true)
same_text x y = bytes_eq-Decides x y

same_number : (x y : ℕ) → (y == x ≡ true → x ≡ y) × (x ≡ y → y == x ≡ true)
same_number x y = (λ h. sym (eqb-true y x h), λ e. eq-eqb y x (sym e))

scopes_step : (s : Scope) (ss : List Scope) → names_differ (s ∷ ss) ≡ (not (list_any (λ other. bytes_eq s.name other.name) ss) && names_differ ss)
unfolding names_differ
scopes_step s ss = refl

scopes_none : names_differ [] ≡ true
unfolding names_differ
scopes_none = refl

pub scopes_from : (ss : List Scope) → AreScopesApart ss → names_differ ss ≡ true
scopes_from ss apart = tests_apart (λ (s : Scope). s.name) bytes_eq same_text names_differ scopes_none scopes_step ss apart

pub scopes_to : (ss : List Scope) → names_differ ss ≡ true → AreScopesApart ss
scopes_to ss h = apart_tested (λ (s : Scope). s.name) bytes_eq same_text names_differ scopes_step ss h

numbers_step : (n : ℕ) (ns : List ℕ) → numbers_differ (n ∷ ns) ≡ (not (list_any (λ other. other == n) ns) && numbers_differ ns)
unfolding numbers_differ
numbers_step n ns = refl

numbers_none : numbers_differ [] ≡ true
unfolding numbers_differ
numbers_none = refl

AreSameApart : (ns : List ℕ) → AreNumbersApart ns → (i j x y : ℕ) → slice_get ns i ≡ Some x → slice_get ns j ≡ Some y → x ≡ y → i ≡ j
AreSameApart ns apart i j x y a b e = apart i j x a (subst (λ (z : ℕ). slice_get ns j ≡ Some z) (sym e) b)

pub numbers_from : (ns : List ℕ) → AreNumbersApart ns → numbers_differ ns ≡ true
numbers_from ns apart = tests_apart (λ (n : ℕ). n) (λ m n. n == m) same_number numbers_differ numbers_none numbers_step ns (AreSameApart ns apart)

pub numbers_to : (ns : List ℕ) → numbers_differ ns ≡ true → AreNumbersApart ns
numbers_to ns h i j n a b = apart_tested (λ (m : ℕ). m) (λ m k. k == m) same_number numbers_differ numbers_step ns h i j n n a b refl

-- ---- items in the order of their names

abbrev order : Item → Item → Ordering
order x y = slice_cmp nat_cmp x.name y.name

before_or_same : (x y : Item) → is_before y.name x.name ≡ false → (x.name ≡ y.name → ⊥) → is_before x.name y.name ≡ true
before_or_same x y off other = by (order x y) refl
  where
    by : (o : Ordering) → order x y ≡ o → is_before x.name y.name ≡ true
    by Less e = ap is_lt e
    by Equal e = absurd (other (slice_cmp-IsAntisymmetric nat_cmp-IsAntisymmetric x.name y.name e))
    by Greater e =
        let back : order y x ≡ Less = nat_list_cmp_total.antisymm y.name x.name ∙ ap ordering_reverse e in
        let z : true ≡ false = sym (ap is_lt back) ∙ off in cc z

rises : (xs : List Item) → ((k : ℕ) (x y : Item) → slice_get xs k ≡ Some x → slice_get xs (suc k) ≡ Some y → is_before x.name y.name ≡ true) → names_rise xs ≡ true
unfolding names_rise
rises [] h = refl
rises (x ∷ []) h = refl
rises (x ∷ y ∷ ys) h = and_from (is_before x.name y.name) (names_rise (y ∷ ys)) (h 0 x y refl refl) (rises (y ∷ ys) (λ k. h (suc k)))

got : {X : Type 0} (xs : List X) (k : ℕ) (x d : X) → slice_get xs k ≡ Some x → (k < length xs) × (get_or xs k d ≡ x)
got [] k x d e = cc e
got (y ∷ ys) zero x d e = (omega arith, let g : Some y ≡ Some x = e in cc g)
got (y ∷ ys) (suc k) x d e = let t = got ys k x d e in (omega (arith, t.0), t.1)

sorted_rises : (xs : List Item) → AreNamesApart xs → IsSortedBy (λ x y. is_before x.name y.name) xs → names_rise xs ≡ true
sorted_rises xs apart sorted =
    rises xs (λ k x y a b.
    let s = got xs k x x a in
    let t = got xs (suc k) y x b in
    let next : suc k ≡ k + 1 = omega arith in
    let back : is_before y.name x.name ≡ false = subst (λ (z : Item). is_before y.name z.name ≡ false) s.1 (subst (λ (z : Item). is_before z.name (get_or xs k x).name ≡ false) t.1 (ap (λ (n : ℕ). is_before (get_or xs n x).name (get_or xs k x).name) next ∙ sorted k x (omega arith) (omega (arith, t.0)))) in
    before_or_same x y back (λ equal. let z : k ≡ suc k = apart k (suc k) x y a b equal in absurd (omega (arith, z))))

pub names_sorted : (made xs : List Item) → AreNamesApart made → IsPermutation made xs → IsSortedBy (λ x y. is_before x.name y.name) xs → names_rise xs ≡ true
names_sorted made xs apart moved sorted = sorted_rises xs (apart_moved (λ (i : Item). i.name) bytes_eq same_text made xs moved apart) sorted

-- the first is before all others
first_before : (x : Item) (xs : List Item) → names_rise (x ∷ xs) ≡ true → (i : ℕ) (y : Item) → slice_get xs i ≡ Some y → is_before x.name y.name ≡ true
unfolding names_rise
first_before x [] h i y e = cc e
first_before x (z ∷ zs) h zero y e =
    let here : z ≡ y = let g : Some z ≡ Some y = e in cc g in
    ap (λ (w : Item). is_before x.name w.name) (sym here) ∙ (and_parts (is_before x.name z.name) (names_rise (z ∷ zs)) h).0
first_before x (z ∷ zs) h (suc i) y e =
    let t = and_parts (is_before x.name z.name) (names_rise (z ∷ zs)) h in
    let rest : is_before z.name y.name ≡ true = first_before z zs t.1 i y e in
    chain t.0 rest
  where
    is_less : (o : Ordering) → is_lt o ≡ true → o ≡ Less
    is_less Less k = refl
    is_less Equal k = absurd (let g : false ≡ true = k in cc g)
    is_less Greater k = absurd (let g : false ≡ true = k in cc g)

    chain : is_before x.name z.name ≡ true → is_before z.name y.name ≡ true → is_before x.name y.name ≡ true
    chain a b = ap is_lt (nat_list_cmp_total.trans x.name z.name y.name (is_less (order x z) a) (is_less (order z y) b))

pub names_before : (xs : List Item) → names_rise xs ≡ true → (i j : ℕ) (x y : Item) → i < j → slice_get xs i ≡ Some x → slice_get xs j ≡ Some y → is_before x.name y.name ≡ true
unfolding names_rise
names_before [] h i j x y lt a b = cc a
names_before (w ∷ ws) h i zero x y lt a b = absurd (omega (arith, lt))
names_before (w ∷ ws) h zero (suc j) x y lt a b =
    let here : w ≡ x = let g : Some w ≡ Some x = a in cc g in
    ap (λ (z : Item). is_before z.name y.name) (sym here) ∙ first_before w ws h j y b
names_before (w ∷ ws) h (suc i) (suc j) x y lt a b = names_before ws (and_parts (stands_before w ws) (names_rise ws) h).1 i j x y (omega (arith, lt)) a b

-- ---- what is shown once

pub shown_moved : (net : ℕ) (made xs : List Item) → IsPermutation made xs → is_shown_once xs net ≡ is_shown_once made net
shown_moved net made xs moved = ap (λ (n : ℕ). n == 1) (sum_by-IsPermutation (λ (i : Item). cond (is_node_of net i.kind) 1 0) made xs moved)

pub all_moved : {X : Type 0} (p : X → Bool) (xs ys : List X) → IsPermutation xs ys → list_all p xs ≡ true → list_all p ys ≡ true
all_moved {X} p xs ys moved h = none_fails ys (sum_by-IsPermutation fails xs ys moved ∙ fails_none xs h)
  where
    fails : X → ℕ
    fails x = cond (p x) 0 1

    fails_none : (zs : List X) → list_all p zs ≡ true → sum_by fails zs ≡ 0
    fails_none [] k = refl
    fails_none (z ∷ zs) k =
        let t = and_parts (p z) (list_all p zs) k in
        let s = sum_by-cons fails z zs in
        let here = cond-true {A = ℕ} (p z) 0 1 t.0 in
        let rest = fails_none zs t.1 in
        omega (arith, s, here, rest)

    none_fails : (zs : List X) → sum_by fails zs ≡ 0 → list_all p zs ≡ true
    none_fails [] k = refl
    none_fails (z ∷ zs) k =
        let s = sum_by-cons fails z zs in
        let here : p z ≡ true = elim (cases_Bool (p z)) [ inl on ↦ on | inr off ↦ (let one = cond-false {A = ℕ} (p z) 0 1 off in absurd (omega (arith, s, one, k))) ] in
        and_from (p z) (list_all p zs) here (none_fails zs (omega (arith, s, k)))
