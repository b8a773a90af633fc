-- The words of a chunk tell its samples: where two chunks have the same words, their samples have the same times and words.
use Rattle.std.proofs.Common.{◌≡◌, ℕ, zero, suc, ◌+◌, ◌-◌, ◌/◌, ◌%◌, ◌^◌, ◌<◌, ◌≤◌, min, List, [], ◌∷◌, ◌++◌, length, map, take, drop, get_or, Bool, true, false, cond, refl, sym, ap, ◌∙◌, subst, inl, inr, arith}
use Rattle.std.specs.List.{filter, flat_map, range_with_len, All}
use Rattle.std.specs.Str.{bytes_eq}
use Rattle.std.proofs.Math.Seq.{take-add}
use Rattle.std.proofs.lemmas.List.{append_assoc, length-take, length-drop, take_all, take_at, drop_at}
use Rattle.std.proofs.lemmas.Bool.{cases_lt, not-false}
use Rattle.std.proofs.lemmas.Slice.Eq.{bytes_eq-Decides}
use Rattle.sim_base.specs.Shape.{words_of_width, words_of_widths}
use Rattle.sim_base.specs.TimeText.{largest_time}
use Rattle.spool_format.specs.declared.sample.Sample.{Sample}
use Rattle.spool_format.specs.Records.{IsSampleOf, change_record, change_records, changed_slots, chunk_words, differs, place_of, slot_words, slots_with_words, time_words, times, whole_record}
use Rattle.spool_format.proofs.Slots.{place_next}
use Rattle.spool_format.proofs.Read.{time_again}

-- ---- words of which each slot is the same are the same

fronts : (ws xs ys : List ℕ) → ((n : ℕ) → n < length ws → slot_words ws xs n ≡ slot_words ws ys n) → (n : ℕ) → n ≤ length ws
    → take (place_of ws n) xs ≡ take (place_of ws n) ys
fronts ws xs ys h zero within = refl
fronts ws xs ys h (suc n) within =
    let k = words_of_width (get_or ws n 0) in
    let one : suc n ≡ n + 1 = omega arith in
    let next : place_of ws (suc n) ≡ place_of ws n + words_of_width (get_or ws n 0) = ap (place_of ws) one ∙ place_next ws n (omega arith) in
    let before = fronts ws xs ys h n (omega arith) in
    let here : take k (drop (place_of ws n) xs) ≡ take k (drop (place_of ws n) ys) = h n (omega arith) in
    ap (λ m. take m xs) next ∙ take-add (place_of ws n) k xs ∙ ap (λ zs. zs ++ take k (drop (place_of ws n) xs)) before
    ∙ ap (λ zs. take (place_of ws n) ys ++ zs) here ∙ sym (take-add (place_of ws n) k ys) ∙ ap (λ m. take m ys) (sym next)

pub same_slots : (ws xs ys : List ℕ) → length xs ≡ words_of_widths ws → length ys ≡ words_of_widths ws
    → ((n : ℕ) → n < length ws → slot_words ws xs n ≡ slot_words ws ys n) → xs ≡ ys
same_slots ws xs ys long_xs long_ys h =
    let all : place_of ws (length ws) ≡ words_of_widths ws = ap words_of_widths (take_all (length ws) ws (omega arith)) in
    let front = fronts ws xs ys h (length ws) (omega arith) in
    sym (take_all (place_of ws (length ws)) xs (omega arith)) ∙ front ∙ take_all (place_of ws (length ws)) ys (omega arith)

slot_length : (ws xs ys : List ℕ) → length xs ≡ length ys → (n : ℕ) → length (slot_words ws xs n) ≡ length (slot_words ws ys n)
slot_length ws xs ys h n =
    let k = words_of_width (get_or ws n 0) in
    length-take k (drop (place_of ws n) xs) ∙ ap (min k) (length-drop (place_of ws n) xs ∙ ap (λ m. m - place_of ws n) h ∙ sym (length-drop (place_of ws n) ys))
    ∙ sym (length-take k (drop (place_of ws n) ys))

-- ---- lists that are written one behind the other

split_same : (a b x y : List ℕ) → length a ≡ length b → a ++ x ≡ b ++ y → (a ≡ b) × (x ≡ y)
split_same a b x y long h = (
  sym (take_at a x (length a) refl) ∙ ap (take (length a)) h ∙ take_at b y (length a) (sym long),
  sym (drop_at a x (length a) refl) ∙ ap (drop (length a)) h ∙ drop_at b y (length a) (sym long),
)

abbrev pub Each : (ℕ → Type 0) → List ℕ → Type 0
Each P [] = Unit {0}
Each P (x ∷ xs) = P x × Each P xs

pub head_same : {x y : ℕ} {xs ys : List ℕ} → x ∷ xs ≡ y ∷ ys → x ≡ y
head_same h = cc

pub tail_same : {x y : ℕ} {xs ys : List ℕ} → x ∷ xs ≡ y ∷ ys → xs ≡ ys
tail_same h = cc

listed : (f g : ℕ → List ℕ) → ((n : ℕ) → length (f n) ≡ length (g n)) → (ls ms r q : List ℕ) → length ls ≡ length ms
    → flat_map (λ n. n ∷ f n) ls ++ r ≡ flat_map (λ n. n ∷ g n) ms ++ q → (ls ≡ ms) × (r ≡ q) × Each (λ n. f n ≡ g n) ls
listed f g long [] [] r q h same = (refl, same, tt)
listed f g long [] (m ∷ ms) r q h same = absurd (omega arith)
listed f g long (l ∷ ls) [] r q h same = absurd (omega arith)
listed f g long (l ∷ ls) (m ∷ ms) r q h same =
    let shape : l ∷ (f l ++ (flat_map (λ n. n ∷ f n) ls ++ r)) ≡ m ∷ (g m ++ (flat_map (λ n. n ∷ g n) ms ++ q)) =
    ap (λ xs. l ∷ xs) (sym (append_assoc (f l) (flat_map (λ n. n ∷ f n) ls) r)) ∙ same ∙ ap (λ xs. m ∷ xs) (append_assoc (g m) (flat_map (λ n. n ∷ g n) ms) q) in
    let number : l ≡ m = head_same shape in
    let lengths : length (f l) ≡ length (g m) = long l ∙ ap (λ n. length (g n)) number in
    let parts = split_same (f l) (g m) (flat_map (λ n. n ∷ f n) ls ++ r) (flat_map (λ n. n ∷ g n) ms ++ q) lengths (tail_same shape) in
    let rest = listed f g long ls ms r q (omega arith) parts.1 in (
      ap (λ n. n ∷ ls) number ∙ ap (λ xs. m ∷ xs) rest.0,
      rest.1,
      (parts.0 ∙ ap g (sym number), rest.2),
    )

-- ---- which slots are listed

pub by_cases : {A : Type 0} (b : Bool) → (b ≡ true → A) → (b ≡ false → A) → A
by_cases true t f = t refl
by_cases false t f = f refl

pick_above : (b : Bool) (a x : ℕ) (rest xs : List ℕ) → (rest ≡ x ∷ xs → a + 1 ≤ x) → cond b (a ∷ rest) rest ≡ x ∷ xs → a ≤ x
pick_above true a x rest xs more h = let at : a ≡ x = head_same h in omega arith
pick_above false a x rest xs more h = let up = more h in omega arith

above : (d : ℕ → Bool) (a n x : ℕ) (xs : List ℕ) → filter d (range_with_len a n) ≡ x ∷ xs → a ≤ x
above d a zero x xs h = cc
above d a (suc n) x xs h = pick_above (d a) a x (filter d (range_with_len (a + 1) n)) xs (above d (a + 1) n x xs) h

picks_same : (b c : Bool) (a : ℕ) (l m : List ℕ) → ((x : ℕ) (xs : List ℕ) → l ≡ x ∷ xs → a + 1 ≤ x) → ((x : ℕ) (xs : List ℕ) → m ≡ x ∷ xs → a + 1 ≤ x)
    → cond b (a ∷ l) l ≡ cond c (a ∷ m) m → (b ≡ c) × (l ≡ m)
picks_same true true a l m p q h = (refl, tail_same h)
picks_same true false a l m p q h = let up : a + 1 ≤ a = q a l (sym h) in absurd (omega arith)
picks_same false true a l m p q h = let up : a + 1 ≤ a = p a m h in absurd (omega arith)
picks_same false false a l m p q h = (refl, h)

-- tests that pick the same of a range agree on it
tests_same : (d e : ℕ → Bool) (a n : ℕ) → filter d (range_with_len a n) ≡ filter e (range_with_len a n) → (k : ℕ) → a ≤ k → k < a + n → d k ≡ e k
tests_same d e a zero h k low high = absurd (omega arith)
tests_same d e a (suc n) h k low high =
    let parts = picks_same (d a) (e a) a (filter d (range_with_len (a + 1) n)) (filter e (range_with_len (a + 1) n)) (above d (a + 1) n) (above e (a + 1) n) h in
    elim (cases_lt a k) [
      | inl l ↦ tests_same d e (a + 1) n parts.1 k (omega arith) (omega arith)
      | inr l ↦ let at : k ≡ a = omega arith in ap d at ∙ parts.0 ∙ ap e (sym at)
    ]

pick_rest : (P : ℕ → Type 0) (b : Bool) (a : ℕ) (l : List ℕ) → Each P (cond b (a ∷ l) l) → Each P l
pick_rest P true a l h = h.1
pick_rest P false a l h = h

pick_first : (P : ℕ → Type 0) (b : Bool) (a : ℕ) (l : List ℕ) → b ≡ true → Each P (cond b (a ∷ l) l) → P a
pick_first P true a l is h = h.0
pick_first P false a l is h = cc

picked : (P : ℕ → Type 0) (d : ℕ → Bool) (a n : ℕ) → Each P (filter d (range_with_len a n)) → (k : ℕ) → a ≤ k → k < a + n → d k ≡ true → P k
picked P d a zero h k low high is = absurd (omega arith)
picked P d a (suc n) h k low high is = elim (cases_lt a k) [
  | inl l ↦ picked P d (a + 1) n (pick_rest P (d a) a (filter d (range_with_len (a + 1) n)) h) k (omega arith) (omega arith) is
  | inr l ↦ let at : a ≡ k = omega arith in subst P at (pick_first P (d a) a (filter d (range_with_len (a + 1) n)) (ap d at ∙ is) h)
]

-- ---- records

times_told : (s t : ℕ) → s ≤ largest_time → t ≤ largest_time → (x y : List ℕ) → time_words s ++ x ≡ time_words t ++ y → (s ≡ t) × (x ≡ y)
times_told s t hs ht x y h =
    let a : s % 2 ^ 32 ≡ t % 2 ^ 32 = ap (λ l. get_or l 0 0) h in
    let b : s / 2 ^ 32 % 2 ^ 32 ≡ t / 2 ^ 32 % 2 ^ 32 = ap (λ l. get_or l 1 0) h in
    let c : s / 2 ^ 64 % 2 ^ 32 ≡ t / 2 ^ 64 % 2 ^ 32 = ap (λ l. get_or l 2 0) h in
    let one = time_again s hs in
    let other = time_again t ht in
    (omega arith, ap (drop 3) h)

whole_told : (ws : List ℕ) (s t : Sample) (r q : List ℕ) → IsSampleOf ws s → IsSampleOf ws t → whole_record s ++ r ≡ whole_record t ++ q
    → (s.time ≡ t.time) × (s.words ≡ t.words) × (r ≡ q)
whole_told ws s t r q hs ht h =
    let parts = times_told s.time t.time hs.time ht.time (s.words ++ r) (t.words ++ q) (tail_same h) in
    let rest = split_same s.words t.words r q (hs.room ∙ sym ht.room) parts.1 in
    (parts.0, rest.0, rest.1)

pub undiffer : (ws old new : List ℕ) (n : ℕ) → differs ws old new n ≡ false → slot_words ws old n ≡ slot_words ws new n
undiffer ws old new n h = (bytes_eq-Decides (slot_words ws old n) (slot_words ws new n)).0 (not-false (bytes_eq (slot_words ws old n) (slot_words ws new n)) h)

slots_told : (ws old xs ys : List ℕ) → length xs ≡ words_of_widths ws → length ys ≡ words_of_widths ws → changed_slots ws old xs ≡ changed_slots ws old ys
    → Each (λ n. slot_words ws xs n ≡ slot_words ws ys n) (changed_slots ws old xs) → xs ≡ ys
slots_told ws old xs ys long_xs long_ys same each =
    same_slots ws xs ys long_xs long_ys (λ n within. by_cases (differs ws old xs n)
    (λ is. picked (λ n. slot_words ws xs n ≡ slot_words ws ys n) (differs ws old xs) 0 (length ws) each n (omega arith) (omega arith) is)
    (λ is. let both : differs ws old xs n ≡ differs ws old ys n = tests_same (differs ws old xs) (differs ws old ys) 0 (length ws) same n (omega arith) (omega arith) in
    sym (undiffer ws old xs n is) ∙ undiffer ws old ys n (sym both ∙ is)))

change_told : (ws : List ℕ) (b c s t : Sample) (r q : List ℕ) → b.words ≡ c.words → IsSampleOf ws s → IsSampleOf ws t
    → change_record ws b s ++ r ≡ change_record ws c t ++ q → (s.time ≡ t.time) × (s.words ≡ t.words) × (r ≡ q)
unfolding change_record slots_with_words
change_told ws b c s t r q before hs ht h =
    let ls = changed_slots ws b.words s.words in
    let ms = changed_slots ws c.words t.words in
    let f : ℕ → List ℕ = slot_words ws s.words in
    let g : ℕ → List ℕ = slot_words ws t.words in
    let parts = times_told s.time t.time hs.time ht.time (length ls ∷ (flat_map (λ n. n ∷ f n) ls ++ r)) (length ms ∷ (flat_map (λ n. n ∷ g n) ms ++ q)) (tail_same h) in
    let lists = listed f g (slot_length ws s.words t.words (hs.room ∙ sym ht.room)) ls ms r q (head_same parts.1) (tail_same parts.1) in
    let same : ls ≡ changed_slots ws b.words t.words = lists.0 ∙ ap (λ old. changed_slots ws old t.words) (sym before) in
    (parts.0, slots_told ws b.words s.words t.words hs.room ht.room same lists.2, lists.1)

no_record : (ws : List ℕ) (b s : Sample) (r : List ℕ) {A : Type 0} → [] ≡ change_record ws b s ++ r → A
unfolding change_record
no_record ws b s r h = cc

changes_told : (ws : List ℕ) (b c : Sample) (xs ys : List Sample) → b.words ≡ c.words → All (IsSampleOf ws) xs → All (IsSampleOf ws) ys
    → change_records ws b xs ≡ change_records ws c ys → (times xs ≡ times ys) × (map (λ s. s.words) xs ≡ map (λ s. s.words) ys)
unfolding change_records
changes_told ws b c [] [] before hx hy h = (refl, refl)
changes_told ws b c [] (y ∷ ys) before hx hy h = no_record ws c y (change_records ws y ys) h
changes_told ws b c (x ∷ xs) [] before hx hy h = no_record ws b x (change_records ws x xs) (sym h)
changes_told ws b c (x ∷ xs) (y ∷ ys) before hx hy h =
    let one = change_told ws b c x y (change_records ws x xs) (change_records ws y ys) before (hx 0 x (omega arith)) (hy 0 y (omega arith)) h in
    let rest = changes_told ws x y xs ys one.1 (λ k d l. hx (suc k) d (omega arith)) (λ k d l. hy (suc k) d (omega arith)) one.2 in (
      ap (λ n. n ∷ times xs) one.0 ∙ ap (λ ts. y.time ∷ ts) rest.0,
      ap (λ w. w ∷ map (λ s. s.words) xs) one.1 ∙ ap (λ ts. y.words ∷ ts) rest.1,
    )

pub chunk_told : (ws : List ℕ) (xs ys : List Sample) → All (IsSampleOf ws) xs → All (IsSampleOf ws) ys
    → chunk_words ws xs ≡ chunk_words ws ys → (times xs ≡ times ys) × (map (λ s. s.words) xs ≡ map (λ s. s.words) ys)
unfolding chunk_words
chunk_told ws [] [] hx hy h = (refl, refl)
chunk_told ws [] (y ∷ ys) hx hy h = cc
chunk_told ws (x ∷ xs) [] hx hy h = cc
chunk_told ws (x ∷ xs) (y ∷ ys) hx hy h =
    let one = whole_told ws x y (change_records ws x xs) (change_records ws y ys) (hx 0 x (omega arith)) (hy 0 y (omega arith)) h in
    let rest = changes_told ws x y xs ys one.1 (λ k d l. hx (suc k) d (omega arith)) (λ k d l. hy (suc k) d (omega arith)) one.2 in (
      ap (λ n. n ∷ times xs) one.0 ∙ ap (λ ts. y.time ∷ ts) rest.0,
      ap (λ w. w ∷ map (λ s. s.words) xs) one.1 ∙ ap (λ ts. y.words ∷ ts) rest.1,
    )
