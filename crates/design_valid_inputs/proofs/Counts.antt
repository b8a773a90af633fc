-- How many items show a net, and inputs that stay as they are.
use Rattle.std.proofs.Common.{◌≡◌, ℕ, ◌+◌, ◌<◌, ◌==◌, ◌&&◌, ◌||◌, not, cond, List, [], ◌∷◌, ◌++◌, length, length-append, append-nil, Bool, true, false, refl, ap, ◌∙◌, arith, inl, inr}
use Rattle.std.specs.Prelude.{nat_lt}
use Rattle.std.specs.List.{count_by, list_all, list_any}
use Rattle.std.proofs.lemmas.Bool.{and_from, and_parts, lt-ltb, ltb-true}
use Rattle.std.proofs.lemmas.Bool.Decides.{eqb_tells}
use Rattle.std.proofs.lemmas.List.Sums.{sum_by-append}
use Rattle.circuit.specs.Valid.{inputs_fit, is_node_of, is_shown_once, numbers_differ}
use Rattle.circuit.specs.declared.item.Item.{Item}
use Rattle.circuit.proofs.Grown.{all_mono}
use Rattle.design_parts.specs.Parts.{Made, both_made}

-- how many items show a net
abbrev pub shows : ℕ → List Item → ℕ
shows net is = count_by (λ i. is_node_of net i.kind) is

pub shows_both : (net : ℕ) (is js : List Item) → shows net (is ++ js) ≡ shows net is + shows net js
shows_both net is js = sum_by-append (λ (i : Item). cond (is_node_of net i.kind) 1 0) is js

-- no item of a part shows a net that was there
abbrev pub ShowsNew : Made → Made → Type 0
ShowsNew m f = (net : ℕ) → net < length m.nets → shows net f.items ≡ 0

abbrev pub InputsFit : Made → Type 0
InputsFit m = inputs_fit m.nets m.items m.inputs ≡ true

module _ (m f : Made) (new : ShowsNew m f) where
  abbrev all : Made
  all = both_made m f

  one_stays : (net : ℕ) → (nat_lt net (length m.nets) && is_shown_once m.items net) ≡ true → (nat_lt net (length all.nets) && is_shown_once all.items net) ≡ true
  one_stays net h =
      let both = and_parts (nat_lt net (length m.nets)) (is_shown_once m.items net) h in
      let lt : net < length m.nets = ltb-true net (length m.nets) both.0 in
      let no = new net lt in
      let same : shows net all.items ≡ shows net m.items = omega (arith, no, shows_both net m.items f.items) in
      and_from (nat_lt net (length all.nets)) (is_shown_once all.items net) (lt-ltb net (length all.nets) (omega (arith, lt, length-append m.nets f.nets))) (ap (λ k. k == 1) same ∙ both.1)

  pub each_stays : (xs : List ℕ) → list_all (λ net. nat_lt net (length m.nets) && is_shown_once m.items net) xs ≡ true → list_all (λ net. nat_lt net (length all.nets) && is_shown_once all.items net) xs ≡ true
  each_stays xs h = all_mono (λ net. nat_lt net (length m.nets) && is_shown_once m.items net) (λ net. nat_lt net (length all.nets) && is_shown_once all.items net) xs one_stays h

  pub inputs_stay : f.inputs ≡ [] → InputsFit m → InputsFit all
  inputs_stay none h =
      let was : Bool = list_all (λ net. nat_lt net (length m.nets) && is_shown_once m.items net) m.inputs in
      let both = and_parts was (numbers_differ m.inputs) h in
      let is : m.inputs ++ f.inputs ≡ m.inputs = ap (λ (xs : List ℕ). m.inputs ++ xs) none ∙ append-nil m.inputs in
      ap (λ (xs : List ℕ). inputs_fit all.nets all.items xs) is
      ∙ and_from (list_all (λ net. nat_lt net (length all.nets) && is_shown_once all.items net) m.inputs) (numbers_differ m.inputs)
      (each_stays m.inputs both.0) both.1

-- ---- one number more

any_more : (test : ℕ → Bool) (xs : List ℕ) (k : ℕ) → list_any test xs ≡ false → test k ≡ false → list_any test (xs ++ k ∷ []) ≡ false
any_more test [] k h e = ap (λ b. b || false) e
any_more test (x ∷ xs) k h e = by (test x) h (any_more test xs k)
  where
    by : (b : Bool) → (b || list_any test xs) ≡ false → (list_any test xs ≡ false → test k ≡ false → list_any test (xs ++ k ∷ []) ≡ false) → (b || list_any test (xs ++ k ∷ [])) ≡ false
    by true g rest = cc g
    by false g rest = rest g e

off : (b : Bool) → not b ≡ true → b ≡ false
off true h = cc h
off false h = refl

-- a number above all others
pub differ_more : (xs : List ℕ) (k : ℕ) → list_all (λ x. nat_lt x k) xs ≡ true → numbers_differ xs ≡ true → numbers_differ (xs ++ k ∷ []) ≡ true
unfolding numbers_differ
differ_more [] k h d = refl
differ_more (x ∷ xs) k h d =
    let below = and_parts (nat_lt x k) (list_all (λ y. nat_lt y k) xs) h in
    let differ = and_parts (not (list_any (λ o. o == x) xs)) (numbers_differ xs) d in
    let lt : x < k = ltb-true x k below.0 in
    let other : (k == x) ≡ false = elim (eqb_tells k x) [ inl t ↦ absurd (let same : k ≡ x = t.1 in omega (arith, lt, same)) | inr f ↦ f.0 ] in
    and_from (not (list_any (λ o. o == x) (xs ++ k ∷ []))) (numbers_differ (xs ++ k ∷ []))
    (ap not (any_more (λ o. o == x) xs k (off (list_any (λ o. o == x) xs) differ.0) other)) (differ_more xs k below.1 differ.1)
