-- A value that is held among others.
use Rattle.std.proofs.Common.{◌≡◌, ◌≢◌, ℕ, zero, suc, ◌+◌, ◌-◌, ◌/◌, ◌^◌, ◌<◌, ◌≤◌, List, [], ◌∷◌, ◌++◌, replicate, length, map, take, drop, get_or, set, refl, sym, ◌∙◌, ap, subst, arith, inl, inr, get_or-set_other, get_or-set_same}
use Rattle.std.proofs.lemmas.Bool.{cases_lt, cases_eq}
use Rattle.std.proofs.lemmas.List.{get_or-take, get_or-drop, length-take-le, length-drop, length-map, length-set, map-set, get_or_past, get_or_append_left, length-replicate, set-get_or}
use Rattle.std.proofs.lemmas.Nat.{pow_pos}
use Rattle.std.proofs.Math.Seq.{get_or-append_seam}
use Rattle.sim_base.specs.BitValue.{BitValue, bit_value, zeros, number_of_words, AreWords}
use Rattle.sim_base.proofs.Words.{fit_set, fit_zeros}
use Rattle.sim_base.proofs.Field.{one_word, no_word, number_of_first}
use Rattle.sim_base.specs.Values.{numbers, widths, width_at, number_at, words_of, first_word, room_of, values_of, IsLaidOut}
use Rattle.sim_base.proofs.Blocks.{block, fewer, length_of_values, widths_of_values, room_for, number_is, values_set, values_of_zeros}

-- the numbers after one value is replaced
pub numbers_set : (values : List BitValue) (n j w m : ℕ) → n < length values → j ≡ n → number_at (set values n (bit_value w m)) j ≡ m
numbers_set values n j w m lt e =
    ap (λ (l : List ℕ). get_or l j 0) (map-set (λ (v : BitValue). v.number) values n (bit_value w m))
    ∙ ap (λ i. get_or (set (numbers values) n m) i 0) e
    ∙ get_or-set_same (numbers values) n m 0 (omega (arith, lt, length-map values (λ (v : BitValue). v.number)))

pub numbers_other : (values : List BitValue) (n j w m : ℕ) → j ≢ n → number_at (set values n (bit_value w m)) j ≡ number_at values j
numbers_other values n j w m ne =
    ap (λ (l : List ℕ). get_or l j 0) (map-set (λ (v : BitValue). v.number) values n (bit_value w m))
    ∙ get_or-set_other (numbers values) n j m 0 ne

module _ (words ws places : List ℕ) (values : List BitValue) (n : ℕ) (laid : IsLaidOut words ws places) (view : values_of ws words ≡ values) (lt : n < length values) where
  pub inside : n < length ws
  inside = let e : length (values_of ws words) ≡ length values = ap (λ (l : List BitValue). length l) view in omega (arith, length_of_values ws words, lt)

  pub inside_places : n < length places
  inside_places = omega (arith, inside, laid.shape)

  pub widths_is : widths values ≡ ws
  widths_is = ap widths (sym view) ∙ widths_of_values ws words

  -- a place as it is read
  pub place_is : (p : ℕ) → p ≡ first_word (widths values) n → p ≡ first_word ws n
  place_is p e = e ∙ ap (λ (l : List ℕ). first_word l n) widths_is

  pub width_is : width_at values n ≡ get_or ws n 0
  width_is = ap (λ (l : List BitValue). width_at l n) (sym view) ∙ ap (λ (l : List ℕ). get_or l n 0) (widths_of_values ws words)

  pub below : number_at values n < 2 ^ width_at values n
  below = subst (λ (l : List BitValue). number_at l n < 2 ^ width_at values n) view (subst (λ w. number_at (values_of ws words) n < 2 ^ w) (sym width_is) (laid.below n))

  pub word_inside : (i k : ℕ) → i ≡ first_word ws n + k → k < words_of (get_or ws n 0) → i < length words
  word_inside i k e in' = let r = room_for ws n inside in let m = laid.room in omega (arith, r, m, e, in')

  pub number_of_block : number_at values n ≡ number_of_words (block ws words n)
  number_of_block = ap (λ (l : List BitValue). number_at l n) (sym view) ∙ number_is ws words n inside

  pub length_of_block : length (block ws words n) ≡ words_of (get_or ws n 0)
  length_of_block =
      let r = room_for ws n inside in
      let m = laid.room in
      let d : length (drop (first_word ws n) words) ≡ length words - first_word ws n = length-drop (first_word ws n) words in
      length-take-le (words_of (get_or ws n 0)) (drop (first_word ws n) words) (omega (arith, r, m, d))

  pub fit_block : AreWords (block ws words n)
  fit_block k = elim (cases_lt k (words_of (get_or ws n 0))) [
    | inl a ↦
        (let e : get_or (block ws words n) k 0 ≡ get_or words (first_word ws n + k) 0 = get_or-take (words_of (get_or ws n 0)) (drop (first_word ws n) words) k 0 a ∙ get_or-drop (first_word ws n) words k 0 in
        rw e (laid.fit (first_word ws n + k)))
    | inr b ↦
        (let l = length_of_block in
        let e : get_or (block ws words n) k 0 ≡ 0 = get_or_past (block ws words n) k 0 (omega (arith, l, b)) in
        omega (arith, e))
  ]

  pub word_of_block : (i k : ℕ) → i ≡ first_word ws n + k → k < words_of (get_or ws n 0) → get_or (block ws words n) k 0 ≡ get_or words i 0
  word_of_block i k e in' =
      get_or-take (words_of (get_or ws n 0)) (drop (first_word ws n) words) k 0 in' ∙ get_or-drop (first_word ws n) words k 0 ∙ ap (λ j. get_or words j 0) (sym e)

  -- a value of one word
  one : width_at values n ≤ 64 → words_of (get_or ws n 0) ≡ 1
  one small = omega (arith, width_is, small)

  pub one_read : (i : ℕ) → i ≡ first_word ws n → width_at values n ≤ 64 → number_at values n ≡ get_or words i 0
  one_read i e small =
      let l = length_of_block in
      let o = one small in
      number_of_block ∙ number_of_first (block ws words n) (get_or words i 0) (omega (arith, l, o)) (omega (arith, l, o)) (sym (word_of_block i 0 (omega (arith, e)) (omega (arith, o))))

  -- a write to a word of the value
  pub set_view : (i k v : ℕ) → i ≡ first_word ws n + k → k < words_of (get_or ws n 0) → values_of ws (set words i v) ≡ set values n (bit_value (width_at values n) (number_of_words (set (block ws words n) k v)))
  set_view i k v e in' =
      ap (λ j. values_of ws (set words j v)) e ∙ values_set ws words n k v inside in'
      ∙ ap (λ (l : List BitValue). set l n (bit_value (get_or ws n 0) (number_of_words (set (block ws words n) k v)))) view
      ∙ ap (λ w. set values n (bit_value w (number_of_words (set (block ws words n) k v)))) (sym width_is)

  pub set_laid : (i k v : ℕ) → i ≡ first_word ws n + k → k < words_of (get_or ws n 0) → v < 2 ^ 64 → number_of_words (set (block ws words n) k v) < 2 ^ width_at values n → IsLaidOut (set words i v) ws places
  set_laid i k v e in' fits low = record {
    few = laid.few;
    shape = laid.shape;
    placed = laid.placed;
    room = length-set words i v ∙ laid.room;
    below = λ j. subst (λ (l : List BitValue). number_at l j < 2 ^ get_or ws j 0) (sym (set_view i k v e in')) (elim (cases_eq j n) [
      | inl s ↦
          (let m = numbers_set values n j (width_at values n) (number_of_words (set (block ws words n) k v)) lt s in
          let here : number_of_words (set (block ws words n) k v) < 2 ^ get_or ws j 0 = subst (λ i. number_of_words (set (block ws words n) k v) < 2 ^ get_or ws i 0) (sym s) (subst (λ w. number_of_words (set (block ws words n) k v) < 2 ^ w) width_is low) in
          subst (λ x. x < 2 ^ get_or ws j 0) (sym m) here)
      | inr ne ↦
          (let there : number_at values j < 2 ^ get_or ws j 0 = subst (λ (l : List BitValue). number_at l j < 2 ^ get_or ws j 0) view (laid.below j) in
          subst (λ x. x < 2 ^ get_or ws j 0) (sym (numbers_other values n j (width_at values n) (number_of_words (set (block ws words n) k v)) ne)) there)
    ]);
    fit = fit_set words i v laid.fit fits;
  }

  one_number : (v : ℕ) → width_at values n ≤ 64 → number_of_words (set (block ws words n) 0 v) ≡ v
  one_number v small = let l = length_of_block in let o = one small in one_word (block ws words n) v (omega (arith, l, o))

  pub one_view : (i v : ℕ) → i ≡ first_word ws n → width_at values n ≤ 64 → values_of ws (set words i v) ≡ set values n (bit_value (width_at values n) v)
  one_view i v e small =
      let o = one small in
      set_view i 0 v (omega (arith, e)) (omega (arith, o)) ∙ ap (λ m. set values n (bit_value (width_at values n) m)) (one_number v small)

  pub one_laid : (i v : ℕ) → i ≡ first_word ws n → width_at values n ≤ 64 → v < 2 ^ 64 → v < 2 ^ width_at values n → IsLaidOut (set words i v) ws places
  one_laid i v e small fits low =
      let o = one small in
      set_laid i 0 v (omega (arith, e)) (omega (arith, o)) fits (subst (λ x. x < 2 ^ width_at values n) (sym (one_number v small)) low)

zero_at : (ws : List ℕ) (n : ℕ) → number_at (map zeros ws) n ≡ 0
zero_at [] n = refl
zero_at (w ∷ ws) zero = refl
zero_at (w ∷ ws) (suc n) = zero_at ws n

-- zeros are laid out
pub laid_zeros : (ws places : List ℕ) (r : ℕ) → r < 2 ^ 32 → r ≡ room_of ws → length places ≡ length ws → ((n : ℕ) → n < length ws → get_or places n 0 ≡ first_word ws n) → IsLaidOut (replicate r 0) ws places
laid_zeros ws places r few e shape placed = record {
  few = omega (arith, few, e, fewer ws);
  shape = shape;
  placed = placed;
  room = length-replicate {A = ℕ} r 0 ∙ e;
  below = λ n. subst (λ (l : List BitValue). number_at l n < 2 ^ get_or ws n 0) (sym (values_of_zeros ws r (omega (arith, e)))) (subst (λ x. x < 2 ^ get_or ws n 0) (sym (zero_at ws n)) (pow_pos (get_or ws n 0)));
  fit = fit_zeros r;
}

-- lists of values of the same widths are laid out for the same
pub same_widths : (ws xs vs ys : List ℕ) (a b : List BitValue) → values_of ws xs ≡ a → values_of vs ys ≡ b → widths b ≡ widths a → ws ≡ vs
same_widths ws xs vs ys a b e f same = sym (widths_of_values ws xs) ∙ ap widths e ∙ sym same ∙ sym (ap widths f) ∙ widths_of_values vs ys

-- words that are laid out are so with other places of the same widths
pub laid_as : (words ws places vs others : List ℕ) → IsLaidOut words ws places → ws ≡ vs → length others ≡ length vs → ((n : ℕ) → n < length vs → get_or others n 0 ≡ first_word vs n) → IsLaidOut words vs others
laid_as words ws places vs others laid e shape placed = record {
  few = subst (λ (l : List ℕ). length l < 2 ^ 32) e laid.few;
  shape = shape;
  placed = placed;
  room = laid.room ∙ ap room_of e;
  below = λ n. subst (λ (l : List ℕ). number_at (values_of l words) n < 2 ^ get_or l n 0) e (laid.below n);
  fit = laid.fit;
}

-- one more place
pub placed_more : (ws places : List ℕ) (i p : ℕ) → length places ≡ i → p ≡ first_word ws i → ((n : ℕ) → n < i → get_or places n 0 ≡ first_word ws n) → (n : ℕ) → n < i + 1 → get_or (places ++ p ∷ []) n 0 ≡ first_word ws n
placed_more ws places i p shape e before n lt = elim (cases_lt n i) [
  | inl a ↦ get_or_append_left places (p ∷ []) 0 n (omega (arith, a, shape)) ∙ before n a
  | inr b ↦
      (let s : n ≡ length places = omega (arith, b, lt, shape) in
      let t : i ≡ n = omega (arith, b, lt) in
      ap (λ k. get_or (places ++ p ∷ []) k 0) s ∙ get_or-append_seam places p [] 0 ∙ e ∙ ap (first_word ws) t)
]

-- other words of one value leave the widths
pub widths_kept : (values : List BitValue) (n m : ℕ) → widths (set values n (bit_value (width_at values n) m)) ≡ widths values
widths_kept values n m = map-set (λ (v : BitValue). v.width) values n (bit_value (width_at values n) m) ∙ set-get_or (widths values) n 0

-- the words of a value, as a part of all
module _ (words ws places : List ℕ) (values : List BitValue) (n p w : ℕ) (laid : IsLaidOut words ws places) (view : values_of ws words ≡ values) (lt : n < length values) (e : p ≡ first_word (widths values) n) (f : w ≡ width_at values n) where
  width_read : w ≡ get_or ws n 0
  width_read = f ∙ width_is words ws places values n laid view lt

  pub part_width : width_at values n ≡ w
  part_width = sym f

  part_place : p ≡ first_word ws n
  part_place = place_is words ws places values n laid view lt p e

  pub part_inside : p + (w + 63) / 64 ≤ length words
  part_inside = let r = room_for ws n (inside words ws places values n laid view lt) in let m = laid.room in omega (arith, r, m, part_place, width_read)

  pub part_length : length (take ((w + 63) / 64) (drop p words)) ≡ (w + 63) / 64
  part_length = let d : length (drop p words) ≡ length words - p = length-drop p words in length-take-le ((w + 63) / 64) (drop p words) (omega (arith, part_inside, d))

  pub part_number : number_of_words (take ((w + 63) / 64) (drop p words)) ≡ number_at values n
  part_number = elim (cases_lt 0 w) [
    | inl a ↦
        (let s : (w + 63) / 64 ≡ words_of (get_or ws n 0) = omega (arith, a, width_read) in
        ap (λ k. number_of_words (take k (drop p words))) s ∙ ap (λ k. number_of_words (take (words_of (get_or ws n 0)) (drop k words))) part_place ∙ sym (number_of_block words ws places values n laid view lt))
    | inr b ↦
        (let z : width_at values n ≡ 0 = omega (arith, b, part_width) in
        let low : number_at values n < 2 ^ 0 = subst (λ k. number_at values n < 2 ^ k) z (below words ws places values n laid view lt) in
        let s : (w + 63) / 64 ≡ 0 = omega (arith, b) in
        no_word (take ((w + 63) / 64) (drop p words)) (part_length ∙ s) ∙ omega (arith, low))
  ]

  pub part_fit : AreWords (take ((w + 63) / 64) (drop p words))
  part_fit k = elim (cases_lt k ((w + 63) / 64)) [
    | inl a ↦
        (let g : get_or (take ((w + 63) / 64) (drop p words)) k 0 ≡ get_or words (p + k) 0 = get_or-take ((w + 63) / 64) (drop p words) k 0 a ∙ get_or-drop p words k 0 in
        rw g (laid.fit (p + k)))
    | inr b ↦
        (let g : get_or (take ((w + 63) / 64) (drop p words)) k 0 ≡ 0 = get_or_past (take ((w + 63) / 64) (drop p words)) k 0 (omega (arith, part_length, b)) in
        omega (arith, g))
  ]
