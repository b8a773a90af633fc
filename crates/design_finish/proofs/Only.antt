-- Items that are arranged have one order alone.
use Rattle.std.proofs.Common.{◌≡◌, ℕ, zero, suc, ◌<◌, List, [], ◌∷◌, length, get_or, true, false, Ordering, Less, Equal, Greater, Option, Some, None, refl, sym, ap, subst, ◌∙◌, arith, inl, inr}
use Rattle.std.specs.Prelude.{slice_get}
use Rattle.std.specs.List.Sorted.{IsPermutation, IsSortedBy}
use Rattle.std.specs.Cmp.Lexicographic.{slice_cmp}
use Rattle.std.specs.Ordering.{is_lt, nat_cmp, ordering_reverse}
use Rattle.std.proofs.lemmas.Bool.{and_parts, cases_lt}
use Rattle.std.proofs.lemmas.Cmp.{nat_list_cmp_total}
use Rattle.std.proofs.lemmas.List.Sorted.{Contains-permutation, IsPermutation-sym, IsPermutation-trans}
use Rattle.std.proofs.lemmas.Option.{slice_get-get_or}
use Rattle.circuit.specs.Built.{AreNamesApart}
use Rattle.circuit.specs.Valid.{is_before, names_rise, stands_before}
use Rattle.circuit.specs.declared.item.Item.{Item}
use Rattle.circuit.specs.declared.netlist.Circuit.{Circuit}
use Rattle.rtlil_tree.specs.declared.sig.Const.{Const}
use Rattle.design_items.proofs.Placed.{placed_rise}
use Rattle.design_items.specs.Arranged.{placed_from}
use Rattle.design_starts.specs.Starts.{started}
use Rattle.design_finish.specs.Finished.{IsFinished}

-- ---- elements

abbrev IsIn : Item → List Item → Type 0
IsIn x xs = (i : ℕ) × (slice_get xs i ≡ Some x)

stands : (xs : List Item) (i : ℕ) (x : Item) → slice_get xs i ≡ Some x → (i < length xs) × (get_or xs i x ≡ x)
stands [] i x e = absurd (let z : None ≡ Some x = e in cc z)
stands (y ∷ ys) zero x e = (omega arith, let z : Some y ≡ Some x = e in cc z)
stands (y ∷ ys) (suc i) x e = let t = stands ys i x e in (omega (arith, t.0), t.1)

in_moved : (xs ys : List Item) → IsPermutation xs ys → (x : Item) → IsIn x xs → IsIn x ys
in_moved xs ys moved x at =
    let t = stands xs at.0 x at.1 in
    let c = Contains-permutation xs ys x moved (at.0, t.0, t.1) in
    (c.0, slice_get-get_or ys c.0 x c.1 ∙ ap Some c.2)

-- ---- names that rise

not_twice : (x y : Item) → is_before x.name y.name ≡ true → is_before y.name x.name ≡ true → ⊥
not_twice x y a b = by (slice_cmp nat_cmp x.name y.name) refl
  where
    by : (o : Ordering) → slice_cmp nat_cmp x.name y.name ≡ o → ⊥
    by Less e = let z : true ≡ false = sym b ∙ ap is_lt (nat_list_cmp_total.antisymm y.name x.name ∙ ap ordering_reverse e) in cc z
    by Equal e = let z : true ≡ false = sym a ∙ ap is_lt e in cc z
    by Greater e = let z : true ≡ false = sym a ∙ ap is_lt e in cc z

rise_behind : (x : Item) (xs : List Item) → names_rise (x ∷ xs) ≡ true → names_rise xs ≡ true
unfolding names_rise
rise_behind x xs h = (and_parts (stands_before x xs) (names_rise xs) h).1

module _ (before : (items : List Item) → names_rise items ≡ true → (i j : ℕ) (x y : Item) → i < j → slice_get items i ≡ Some x → slice_get items j ≡ Some y → is_before x.name y.name ≡ true) where
  heads : (x y : Item) (xs ys : List Item) → names_rise (x ∷ xs) ≡ true → names_rise (y ∷ ys) ≡ true → (i j : ℕ) → slice_get (y ∷ ys) i ≡ Some x → slice_get (x ∷ xs) j ≡ Some y → x ≡ y
  heads x y xs ys f g zero j a b = sym (let z : Some y ≡ Some x = a in cc z)
  heads x y xs ys f g (suc i) zero a b = let z : Some x ≡ Some y = b in cc z
  heads x y xs ys f g (suc i) (suc j) a b = absurd (not_twice x y (before (x ∷ xs) f 0 (suc j) x y (omega arith) refl b) (before (y ∷ ys) g 0 (suc i) y x (omega arith) refl a))

  -- what stands behind a first item stands behind it too in another list that begins with it
  tails : (x y z : Item) (xs ys : List Item) → x ≡ y → names_rise (x ∷ xs) ≡ true → IsIn z xs → (i : ℕ) → slice_get (y ∷ ys) i ≡ Some z → IsIn z ys
  tails x y z xs ys same f at zero e =
      let first : x ≡ z = same ∙ (let q : Some y ≡ Some z = e in cc q) in
      let less : is_before z.name z.name ≡ true = subst (λ (w : Item). is_before w.name z.name ≡ true) first (before (x ∷ xs) f 0 (suc at.0) x z (omega arith) refl at.1) in
      absurd (not_twice z z less less)
  tails x y z xs ys same f at (suc i) e = (i, e)

  same_lists : (xs ys : List Item) → names_rise xs ≡ true → names_rise ys ≡ true → ((z : Item) → IsIn z xs → IsIn z ys) → ((z : Item) → IsIn z ys → IsIn z xs) → xs ≡ ys
  same_lists [] [] f g a b = refl
  same_lists [] (y ∷ ys) f g a b = absurd (let t = b y (0, refl) in let z : None ≡ Some y = t.1 in cc z)
  same_lists (x ∷ xs) [] f g a b = absurd (let t = a x (0, refl) in let z : None ≡ Some x = t.1 in cc z)
  same_lists (x ∷ xs) (y ∷ ys) f g a b =
      let to = a x (0, refl) in
      let back = b y (0, refl) in
      let same : x ≡ y = heads x y xs ys f g to.0 back.0 to.1 back.1 in
      let rest : xs ≡ ys = same_lists xs ys (rise_behind x xs f) (rise_behind y ys g)
      (λ z at. let t = a z (suc at.0, at.1) in tails x y z xs ys same f at t.0 t.1)
      (λ z at. let t = b z (suc at.0, at.1) in tails y x z ys xs (sym same) g at t.0 t.1) in
      ap (λ (z : Item). z ∷ xs) same ∙ ap (λ (zs : List Item). y ∷ zs) rest

  -- ---- circuits

  pub only_one : (made one other : Circuit) (inits : List (Option Const)) (a : IsFinished made inits one) (b : IsFinished made inits other)
      → names_rise a.arranged.sorted ≡ true → names_rise b.arranged.sorted ≡ true → one ≡ other
  only_one made one other inits a b f g =
      let there = IsPermutation-trans a.arranged.sorted made.items b.arranged.sorted (IsPermutation-sym made.items a.arranged.sorted a.arranged.same) b.arranged.same in
      let back = IsPermutation-sym a.arranged.sorted b.arranged.sorted there in
      let sorted : a.arranged.sorted ≡ b.arranged.sorted = same_lists a.arranged.sorted b.arranged.sorted f g (in_moved a.arranged.sorted b.arranged.sorted there) (in_moved b.arranged.sorted a.arranged.sorted back) in
      let items : a.items ≡ b.items = a.arranged.placed ∙ ap (placed_from made.mems 0) sorted ∙ sym b.arranged.placed in
      a.whole ∙ ap (λ (is : List Item). started (record made { items = is }) inits) items ∙ sym b.whole

  not_same : (items : List Item) → names_rise items ≡ true → (i j : ℕ) (x y : Item) → i < j → slice_get items i ≡ Some x → slice_get items j ≡ Some y → x.name ≡ y.name → ⊥
  not_same items up i j x y lt at_x at_y same = not_twice y y (subst (λ (n : List ℕ). is_before n y.name ≡ true) same (before items up i j x y lt at_x at_y)) (subst (λ (n : List ℕ). is_before n y.name ≡ true) same (before items up i j x y lt at_x at_y))

  names_apart : (items : List Item) → names_rise items ≡ true → AreNamesApart items
  names_apart items up i j x y at_x at_y same =
      elim (cases_lt i j) [
        | inl less ↦ absurd (not_same items up i j x y less at_x at_y same)
        | inr le ↦ elim (cases_lt j i) [
          | inl more ↦ absurd (not_same items up j i y x more at_y at_x (sym same))
          | inr ge ↦ omega (arith, le, ge)
        ]
      ]

  -- lists that become a valid circuit become no other
  pub valid_one : ((made items : List Item) → AreNamesApart made → IsPermutation made items → IsSortedBy (λ x y. is_before x.name y.name) items → names_rise items ≡ true)
      → (made one other : Circuit) (inits : List (Option Const)) → names_rise one.items ≡ true → IsFinished made inits one → IsFinished made inits other → one ≡ other
  valid_one rise made one other inits up a b =
      let items : one.items ≡ a.items = ap (λ (c : Circuit). c.items) a.whole in
      let sorted : names_rise a.arranged.sorted ≡ true = sym (placed_rise made.mems 0 a.arranged.sorted) ∙ ap names_rise (sym a.arranged.placed) ∙ ap names_rise (sym items) ∙ up in
      let there = IsPermutation-trans a.arranged.sorted made.items b.arranged.sorted (IsPermutation-sym made.items a.arranged.sorted a.arranged.same) b.arranged.same in
      only_one made one other inits a b sorted (rise a.arranged.sorted b.arranged.sorted (names_apart a.arranged.sorted sorted) there b.arranged.rise)
