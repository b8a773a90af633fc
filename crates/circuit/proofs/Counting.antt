-- A chain of growing sets of a list's items is at its end after as many steps as the list has items.
use Rattle.std.proofs.Common.{◌≡◌, ℕ, zero, suc, ◌+◌, ◌-◌, ◌≤◌, ◌⊎◌, List, [], ◌∷◌, length, refl, ◌∙◌, ap, subst, arith, inl, inr, Bool, true, false}
use Rattle.std.proofs.lemmas.Bool.{cases_lt, false≢true}

-- one of a list's items
unfoldable pub IsItem : {X : Type 0} → X → List X → Type 0
IsItem x [] = ⊥
IsItem x (y ∷ ys) = (y ≡ x) ⊎ IsItem x ys

abbrev one : Bool → ℕ
one true = 1
one false = 0

pub count : {X : Type 0} → (X → Bool) → List X → ℕ
count f [] = 0
count f (x ∷ xs) = one (f x) + count f xs

abbrev pub Within : {X : Type 0} → (X → Bool) → (X → Bool) → Type 0
Within {X} f g = (x : X) → f x ≡ true → g x ≡ true

head_le : (a b : Bool) → (a ≡ true → b ≡ true) → one a ≤ one b
head_le true true h = omega arith
head_le true false h = absurd (false≢true (h refl))
head_le false b h = omega arith

pub count_le : {X : Type 0} (f g : X → Bool) (xs : List X) → Within f g → count f xs ≤ count g xs
unfolding count
count_le f g [] h = omega arith
count_le f g (x ∷ xs) h = omega (arith, head_le (f x) (g x) (h x), count_le f g xs h)

head_back : (a b : Bool) (m n : ℕ) → m ≤ n → one b + n ≤ one a + m → b ≡ true → a ≡ true
head_back true b m n le h e = refl
head_back false true m n le h e = absurd (omega (arith, h, le))
head_back false false m n le h e = e

tail_back : (a b : Bool) (m n : ℕ) → (a ≡ true → b ≡ true) → one b + n ≤ one a + m → n ≤ m
tail_back a b m n up h = omega (arith, h, head_le a b up)

-- where the larger set has no more items, it is no larger
pub count_back : {X : Type 0} (f g : X → Bool) (xs : List X) → Within f g → count g xs ≤ count f xs → (x : X) → IsItem x xs → g x ≡ true → f x ≡ true
unfolding count IsItem
count_back f g [] up h x i e = absurd i
count_back {X} f g (y ∷ ys) up h x (inl same) e =
    subst (λ (z : X). f z ≡ true) same (head_back (f y) (g y) (count f ys) (count g ys) (count_le f g ys up) h (ap g same ∙ e))
count_back f g (y ∷ ys) up h x (inr i) e =
    count_back f g ys up (tail_back (f y) (g y) (count f ys) (count g ys) (up y) h) x i e

count_bound : {X : Type 0} (f : X → Bool) (xs : List X) → count f xs ≤ length xs
unfolding count
count_bound f [] = omega arith
count_bound f (x ∷ xs) = let a : one (f x) ≤ 1 = head_le (f x) true (λ e. refl) in omega (arith, a, count_bound f xs)

head_full : (a : Bool) (m n : ℕ) → m ≤ n → suc n ≤ one a + m → a ≡ true
head_full true m n le h = refl
head_full false m n le h = absurd (omega (arith, h, le))

pub count_full : {X : Type 0} (f : X → Bool) (xs : List X) → length xs ≤ count f xs → (x : X) → IsItem x xs → f x ≡ true
unfolding count IsItem
count_full f [] h x i = absurd i
count_full {X} f (y ∷ ys) h x (inl same) =
    subst (λ (z : X). f z ≡ true) same (head_full (f y) (count f ys) (length ys) (count_bound f ys) h)
count_full f (y ∷ ys) h x (inr i) =
    count_full f ys (let a : one (f y) ≤ 1 = head_le (f y) true (λ e. refl) in omega (arith, a, h)) x i

module _ {X : Type 0} (xs : List X) (q : ℕ → X → Bool) (mono : (s : ℕ) → Within (q s) (q (suc s))) (keeps : (s : ℕ) → Within (q (suc s)) (q s) → Within (q (suc (suc s))) (q (suc s))) (others : (s : ℕ) (x : X) → IsItem x xs ⊎ (q s x ≡ true)) where
  up : (s k : ℕ) → Within (q s) (q (k + s))
  up s zero x e = subst (λ (n : ℕ). q n x ≡ true) (let z : s ≡ 0 + s = omega arith in z) e
  up s (suc k) x e = subst (λ (n : ℕ). q n x ≡ true) (let z : suc (k + s) ≡ suc k + s = omega arith in z) (mono (k + s) x (up s k x e))

  stays : (t k : ℕ) → Within (q (suc t)) (q t) → Within (q (suc (k + t))) (q (k + t))
  stays t zero h = subst (λ (n : ℕ). Within (q (suc n)) (q n)) (let z : t ≡ 0 + t = omega arith in z) h
  stays t (suc k) h = subst (λ (n : ℕ). Within (q (suc n)) (q n)) (let z : suc (k + t) ≡ suc k + t = omega arith in z) (keeps (k + t) (stays t k h))

  down : (t k : ℕ) → Within (q (suc t)) (q t) → Within (q (k + t)) (q t)
  down t zero h x e = subst (λ (n : ℕ). q n x ≡ true) (let z : 0 + t ≡ t = omega arith in z) e
  down t (suc k) h x e = down t k h x (stays t k h x (subst (λ (n : ℕ). q n x ≡ true) (let z : suc k + t ≡ suc (k + t) = omega arith in z) e))

  abbrev Ends : ℕ → Type 0
  Ends s = ((t : ℕ) × (t ≤ s) × Within (q (suc t)) (q t)) ⊎ (s ≤ count (q s) xs)

  one_end : (s : ℕ) → Ends s → Ends (suc s)
  one_end s (inl h) = inl (h.0, omega (arith, h.1), h.2)
  one_end s (inr full) = elim (cases_lt (count (q s) xs) (count (q (suc s)) xs)) [
    | inl more ↦ inr (omega arith)
    | inr less ↦ inl (s, omega arith, λ x e. elim (others s x) [ inl i ↦ count_back (q s) (q (suc s)) xs (mono s) less x i e | inr on ↦ on ])
  ]

  ends : (s : ℕ) → Ends s
  ends zero = inr (omega arith)
  ends (suc s) = one_end s (ends s)

  settled_end : Ends (length xs) → (r : ℕ) → Within (q r) (q (length xs))
  settled_end (inl h) r x e =
      let a : q h.0 x ≡ true = down h.0 r h.2 x (subst (λ (n : ℕ). q n x ≡ true) (let z : h.0 + r ≡ r + h.0 = omega arith in z) (up r h.0 x e)) in
      subst (λ (n : ℕ). q n x ≡ true) (let z : (length xs - h.0) + h.0 ≡ length xs = omega (arith, h.1) in z) (up h.0 (length xs - h.0) x a)
  settled_end (inr full) r x e = elim (others (length xs) x) [ inl i ↦ count_full (q (length xs)) xs full x i | inr on ↦ on ]

  pub chain_end : (r : ℕ) → Within (q r) (q (length xs))
  chain_end r = settled_end (ends (length xs)) r
