-- Where the words of slots stand, and which slots of a run of slots differ.
use Rattle.std.proofs.Common.{◌≡◌, ℕ, zero, suc, ◌+◌, ◌-◌, ◌<◌, ◌≤◌, List, [], ◌∷◌, ◌++◌, length, take, drop, get_or, true, false, not, cond, refl, sym, ap, ◌∙◌, arith}
use Rattle.std.specs.List.{filter, range_with_len}
use Rattle.std.specs.Str.{bytes_eq}
use Rattle.std.proofs.Math.Seq.{take-add}
use Rattle.std.proofs.lemmas.List.{append-nil, drop-drop, drop-take, drop_more, take-take}
use Rattle.std.proofs.lemmas.List.Concat.{flat_map-append}
use Rattle.std.proofs.lemmas.List.Elements.{filter-append}
use Rattle.std.proofs.lemmas.List.Sums.{sum_by-append, sum_by-take-le, sum_by_more, length-filter, count_by-le-length}
use Rattle.std.proofs.lemmas.List.FromFn.{length-range_with_len}
use Rattle.std.proofs.lemmas.Slice.Eq.{bytes_eq-Decides}
use Rattle.sim_base.specs.Shape.{words_of_width, words_of_widths}
use Rattle.spool_format.specs.Records.{place_of, slot_words, differs, changed_among, changed_slots, slots_with_words}

-- the words before a slot, and those of a run of slots from it on
pub place_more : (ws : List ℕ) (a e : ℕ) → a ≤ e → place_of ws a + words_of_widths (take (e - a) (drop a ws)) ≡ place_of ws e
place_more ws a e h =
    let cut : take (a + (e - a)) ws ≡ take a ws ++ take (e - a) (drop a ws) = take-add a (e - a) ws in
    let all : a + (e - a) ≡ e = omega arith in
    sym (sum_by-append words_of_width (take a ws) (take (e - a) (drop a ws))) ∙ ap words_of_widths (sym cut) ∙ ap (place_of ws) all

pub place_next : (ws : List ℕ) (n : ℕ) → n < length ws → place_of ws (n + 1) ≡ place_of ws n + words_of_width (get_or ws n 0)
place_next ws n h = sum_by_more words_of_width ws n 0 h

pub place_within : (ws : List ℕ) (n : ℕ) → place_of ws n ≤ words_of_widths ws
place_within ws n = sum_by-take-le words_of_width ws n

place_monotone : (ws : List ℕ) (a e : ℕ) → a ≤ e → place_of ws a ≤ place_of ws e
place_monotone ws a e h = let m = place_more ws a e h in omega arith

pub range_split : (a m n : ℕ) → range_with_len a (m + n) ≡ range_with_len a m ++ range_with_len (a + m) n
range_split a zero n =
    let long : zero + n ≡ n = omega arith in
    let at : a ≡ a + zero = omega arith in
    ap (range_with_len a) long ∙ ap (λ k. range_with_len k n) at
range_split a (suc m) n =
    let next : (a + 1) + m ≡ a + suc m = omega arith in
    let long : suc m + n ≡ suc (m + n) = omega arith in
    ap (range_with_len a) long ∙ ap (λ r. a ∷ r) (range_split (a + 1) m n ∙ ap (λ k. range_with_len (a + 1) m ++ range_with_len k n) next)

pub changed_split : (ws old new : List ℕ) (a m n : ℕ) → changed_among ws old new a (m + n) ≡ changed_among ws old new a m ++ changed_among ws old new (a + m) n
changed_split ws old new a m n =
    ap (filter (differs ws old new)) (range_split a m n) ∙ filter-append (differs ws old new) (range_with_len a m) (range_with_len (a + m) n)

-- among the slots up to one and that one
pub changed_more : (ws old new : List ℕ) (a n : ℕ) → a ≤ n → changed_among ws old new a (n + 1 - a) ≡ changed_among ws old new a (n - a) ++ changed_among ws old new n 1
changed_more ws old new a n h =
    let split = changed_split ws old new a (n - a) 1 in
    let long : n + 1 - a ≡ (n - a) + 1 = omega arith in
    let at : a + (n - a) ≡ n = omega arith in
    ap (changed_among ws old new a) long ∙ split ∙ ap (λ k. changed_among ws old new a (n - a) ++ changed_among ws old new k 1) at

pub changed_few : (ws old new : List ℕ) (a n : ℕ) → length (changed_among ws old new a n) ≤ n
changed_few ws old new a n =
    let counted = length-filter (differs ws old new) (range_with_len a n) in
    let most = count_by-le-length (differs ws old new) (range_with_len a n) in
    let long = length-range_with_len a n in
    omega arith

pub written_append : (ws words xs ys : List ℕ) → slots_with_words ws words (xs ++ ys) ≡ slots_with_words ws words xs ++ slots_with_words ws words ys
unfolding slots_with_words
written_append ws words xs ys = flat_map-append (λ n. n ∷ slot_words ws words n) xs ys

pub written_one : (ws words : List ℕ) (n : ℕ) → slots_with_words ws words (n ∷ []) ≡ n ∷ slot_words ws words n
unfolding slots_with_words
written_one ws words n = ap (λ r. n ∷ r) (append-nil (slot_words ws words n))

pub written_none : (ws words : List ℕ) → slots_with_words ws words [] ≡ []
unfolding slots_with_words
written_none ws words = refl

-- a part of a part
part_of_part : (xs : List ℕ) (p r q k : ℕ) → p ≤ q → q + k ≤ p + r → take k (drop q xs) ≡ take k (drop (q - p) (take r (drop p xs)))
part_of_part xs p r q k low high =
    let from : p + (q - p) ≡ q = omega arith in
    let most : (q - p) + (r - (q - p)) ≡ r = omega arith in
    let fits : k ≤ r - (q - p) = omega arith in
    let dropped : drop (q - p) (drop p xs) ≡ drop q xs = drop-drop (q - p) p xs ∙ ap (λ n. drop n xs) from in
    let cut : drop (q - p) (take r (drop p xs)) ≡ take (r - (q - p)) (drop q xs) =
    ap (λ n. drop (q - p) (take n (drop p xs))) (sym most) ∙ drop-take (q - p) (r - (q - p)) (drop p xs) ∙ ap (take (r - (q - p))) dropped in
    sym (take-take k (r - (q - p)) (drop q xs) fits) ∙ sym (ap (take k) cut)

-- slots of a run whose words are the same do not differ
slot_same : (ws old new : List ℕ) (a e n : ℕ) → a ≤ n → n < e → e ≤ length ws
    → take (place_of ws e - place_of ws a) (drop (place_of ws a) old) ≡ take (place_of ws e - place_of ws a) (drop (place_of ws a) new)
    → slot_words ws old n ≡ slot_words ws new n
slot_same ws old new a e n low high within same =
    let k = words_of_width (get_or ws n 0) in
    let p = place_of ws a in
    let q = place_of ws n in
    let r = place_of ws e - place_of ws a in
    let first : place_of ws a ≤ place_of ws n = place_monotone ws a n low in
    let next : place_of ws (n + 1) ≡ place_of ws n + words_of_width (get_or ws n 0) = place_next ws n (omega arith) in
    let last : place_of ws (n + 1) ≤ place_of ws e = place_monotone ws (n + 1) e (omega arith) in
    let fits : q + k ≤ p + r = omega arith in
    part_of_part old p r q k first fits ∙ ap (λ xs. take k (drop (q - p) xs)) same ∙ sym (part_of_part new p r q k first fits)

none_differ : (ws old new : List ℕ) (a m : ℕ) → ((n : ℕ) → a ≤ n → n < a + m → differs ws old new n ≡ false) → changed_among ws old new a m ≡ []
none_differ ws old new a zero h = refl
none_differ ws old new a (suc m) h =
    ap (λ b. cond b (a ∷ changed_among ws old new (a + 1) m) (changed_among ws old new (a + 1) m)) (h a (omega arith) (omega arith))
    ∙ none_differ ws old new (a + 1) m (λ n low high. h n (omega arith) (omega arith))

-- among slots whose words together are the same none has changed
pub none_changed : (ws old new : List ℕ) (a e p q : ℕ) → a ≤ e → e ≤ length ws → p ≡ place_of ws a → q ≡ place_of ws e
    → bytes_eq (take (q - p) (drop p old)) (take (q - p) (drop p new)) ≡ true → changed_among ws old new a (e - a) ≡ []
none_changed ws old new a e p q low within is_p is_q same =
    let parts : take (q - p) (drop p old) ≡ take (q - p) (drop p new) = (bytes_eq-Decides (take (q - p) (drop p old)) (take (q - p) (drop p new))).0 same in
    let there : take (place_of ws e - place_of ws a) (drop (place_of ws a) old) ≡ take (place_of ws e - place_of ws a) (drop (place_of ws a) new) =
    rw (← is_p, ← is_q) parts in
    none_differ ws old new a (e - a) (λ n from to.
    let one : slot_words ws old n ≡ slot_words ws new n = slot_same ws old new a e n from (omega arith) within there in
    ap not ((bytes_eq-Decides (slot_words ws old n) (slot_words ws new n)).1 one))

-- ---- runs of words that are the same

in_two : (xs : List ℕ) (p a b : ℕ) → p ≤ a → a ≤ b → take (b - p) (drop p xs) ≡ take (a - p) (drop p xs) ++ take (b - a) (drop a xs)
in_two xs p a b low high =
    let whole : (a - p) + (b - a) ≡ b - p = omega arith in
    let at : p + (a - p) ≡ a = omega arith in
    ap (λ n. take n (drop p xs)) (sym whole) ∙ take-add (a - p) (b - a) (drop p xs)
    ∙ ap (λ rest. take (a - p) (drop p xs) ++ take (b - a) rest) (drop-drop (a - p) p xs ∙ ap (λ n. drop n xs) at)

pub same_none : (old new : List ℕ) (p : ℕ) → take (p - p) (drop p old) ≡ take (p - p) (drop p new)
same_none old new p =
    let none : p - p ≡ 0 = omega arith in
    ap (λ n. take n (drop p old)) none ∙ sym (ap (λ n. take n (drop p new)) none)

-- up to a place, and on from there
pub same_on : (old new : List ℕ) (p a b : ℕ) → p ≤ a → a ≤ b → take (a - p) (drop p old) ≡ take (a - p) (drop p new)
    → take (b - a) (drop a old) ≡ take (b - a) (drop a new) → take (b - p) (drop p old) ≡ take (b - p) (drop p new)
same_on old new p a b low high one two =
    in_two old p a b low high ∙ ap (λ xs. xs ++ take (b - a) (drop a old)) one
    ∙ ap (λ xs. take (a - p) (drop p new) ++ xs) two ∙ sym (in_two new p a b low high)

-- one word more
pub same_next : (old new : List ℕ) (p a : ℕ) → p ≤ a → a < length old → a < length new → take (a - p) (drop p old) ≡ take (a - p) (drop p new)
    → get_or old a 0 ≡ get_or new a 0 → take (a + 1 - p) (drop p old) ≡ take (a + 1 - p) (drop p new)
same_next old new p a low in_old in_new before word =
    let one : a + 1 - a ≡ 1 = omega arith in
    let next : take (a + 1 - a) (drop a old) ≡ take (a + 1 - a) (drop a new) =
    ap (λ n. take n (drop a old)) one ∙ ap (take 1) (drop_more old a 0 in_old) ∙ ap (λ w. w ∷ []) word
    ∙ sym (ap (take 1) (drop_more new a 0 in_new)) ∙ sym (ap (λ n. take n (drop a new)) one) in
    same_on old new p a (a + 1) low (omega arith) before next

pub same_less : (old new : List ℕ) (p a b : ℕ) → p ≤ a → a ≤ b → take (b - p) (drop p old) ≡ take (b - p) (drop p new) → take (a - p) (drop p old) ≡ take (a - p) (drop p new)
same_less old new p a b low high same =
    sym (take-take (a - p) (b - p) (drop p old) (omega arith)) ∙ ap (take (a - p)) same ∙ take-take (a - p) (b - p) (drop p new) (omega arith)
