-- Rows over one list of their values.
use Rattle.std.proofs.Common.{◌≡◌, ℕ, zero, suc, ◌+◌, ◌*◌, ◌<◌, ◌≤◌, List, [], ◌∷◌, ◌++◌, length, get_or, take, drop, refl, sym, ◌∙◌, ap, arith, length-drop, length-take}
use Rattle.std.specs.Prelude.{slice_get}
use Rattle.std.proofs.Math.Nat.{mul-le-mul_right}
use Rattle.std.proofs.lemmas.List.{take_all, take-append-le, drop-append-le, drop-drop}
use Rattle.stimulus_blocks.specs.Rows.{AreOfLength, BlockRow, rows_from}

pub rows_none : (n : ℕ) (vs : List ℕ) → rows_from n [] vs ≡ []
unfolding rows_from
rows_none n vs = refl

rows_cons : (n o : ℕ) (os vs : List ℕ) → rows_from n (o ∷ os) vs ≡ record { offset = o; values = take n vs } ∷ rows_from n os (drop n vs)
unfolding rows_from
rows_cons n o os vs = refl

pub rows_length : (n : ℕ) (os vs : List ℕ) → length (rows_from n os vs) ≡ length os
rows_length n [] vs = ap length (rows_none n vs)
rows_length n (o ∷ os) vs = ap length (rows_cons n o os vs) ∙ ap suc (rows_length n os (drop n vs))

pub rows_at : (n : ℕ) (os vs : List ℕ) (i : ℕ) (d : BlockRow) → i < length os → get_or (rows_from n os vs) i d ≡ record { offset = get_or os i 0; values = take n (drop (i * n) vs) }
rows_at n [] vs i d lt = absurd (omega arith)
rows_at n (o ∷ os) vs zero d lt =
    ap (λ (rs : List BlockRow). get_or rs 0 d) (rows_cons n o os vs)
    ∙ ap (λ k. record { offset = o; values = take n (drop k vs) }) (let z : 0 ≡ 0 * n = omega arith in z)
rows_at n (o ∷ os) vs (suc i) d lt =
    ap (λ (rs : List BlockRow). get_or rs (suc i) d) (rows_cons n o os vs) ∙ rows_at n os (drop n vs) i d (omega arith)
    ∙ ap (λ vs. record { offset = get_or os i 0; values = take n vs }) (further n i vs)
  where
    further : (n i : ℕ) (vs : List ℕ) → drop (i * n) (drop n vs) ≡ drop (suc i * n) vs
    further n i vs = drop-drop (i * n) n vs ∙ ap (λ k. drop k vs) (let e : n + i * n ≡ suc i * n = grind arith in e)

length_zero : (vs : List ℕ) → length vs ≡ 0 → vs ≡ []
length_zero [] e = refl
length_zero (v ∷ vs) e = absurd (omega arith)

pub rows_push : (n o : ℕ) (os vs xs : List ℕ) → length vs ≡ length os * n → length xs ≡ n → rows_from n (os ++ o ∷ []) (vs ++ xs) ≡ rows_from n os vs ++ (record { offset = o; values = xs }) ∷ []
rows_push n o [] vs xs e f =
    let none : vs ≡ [] = length_zero vs (omega arith) in
    rows_cons n o [] (vs ++ xs)
    ∙ ap (λ rs. record { offset = o; values = take n (vs ++ xs) } ∷ rs) (rows_none n (drop n (vs ++ xs)))
    ∙ ap (λ ys. record { offset = o; values = take n (ys ++ xs) } ∷ []) none
    ∙ ap (λ ys. record { offset = o; values = ys } ∷ []) (take_all n xs (omega arith))
    ∙ sym (ap (λ (rs : List BlockRow). rs ++ (record { offset = o; values = xs }) ∷ []) (rows_none n vs))
rows_push n o (p ∷ os) vs xs e f =
    let whole : length vs ≡ length os * n + n = e ∙ (let s : suc (length os) * n ≡ length os * n + n = grind arith in s) in
    let enough : n ≤ length vs = omega arith in
    rows_cons n p (os ++ o ∷ []) (vs ++ xs)
    ∙ ap (λ ys. record { offset = p; values = ys } ∷ rows_from n (os ++ o ∷ []) (drop n (vs ++ xs))) (rw take-append-le)
    ∙ ap (λ ys. record { offset = p; values = take n vs } ∷ rows_from n (os ++ o ∷ []) ys) (rw drop-append-le)
    ∙ ap (λ rs. record { offset = p; values = take n vs } ∷ rs) (rows_push n o os (drop n vs) xs (omega (arith, length-drop n vs)) f)
    ∙ sym (ap (λ (rs : List BlockRow). rs ++ (record { offset = o; values = xs }) ∷ []) (rows_cons n p os vs))

-- the number of columns is that of each row's values
pub rows_like : (m n : ℕ) (os vs : List ℕ) → length vs ≡ length os * n → AreOfLength m (rows_from n os vs) → (rows_from n os vs ≡ rows_from m os vs) × (length vs ≡ length os * m)
rows_like m n [] vs e same = (rows_none n vs ∙ sym (rows_none m vs), omega arith)
rows_like m n (o ∷ os) vs e same =
    let whole : length vs ≡ length os * n + n = e ∙ (let s : suc (length os) * n ≡ length os * n + n = grind arith in s) in
    let first : length (take n vs) ≡ m = same 0 (record { offset = o; values = take n vs }) (ap (λ (rs : List BlockRow). slice_get rs 0) (rows_cons n o os vs)) in
    let is : n ≡ m = omega (arith, length-take n vs) in
    (ap (λ k. rows_from k (o ∷ os) vs) is, e ∙ ap (λ k. length (o ∷ os) * k) is)

pub row_inside : (i m n : ℕ) → i < m → i * n + n ≤ m * n
row_inside i m n lt = let e : (i + 1) * n ≤ m * n = mul-le-mul_right n (omega arith) in omega arith
