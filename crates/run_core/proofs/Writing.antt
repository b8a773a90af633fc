-- Words that are written over others, one after another.
use Rattle.std.proofs.Common.{◌≡◌, ℕ, zero, suc, ◌+◌, ◌*◌, ◌<◌, ◌≤◌, List, [], ◌∷◌, ◌++◌, length, take, drop, set, refl, sym, ap, ◌∙◌, arith, Some}
use Rattle.std.specs.Prelude.{replicate, slice_get}
use Rattle.std.proofs.lemmas.List.{append_assoc, append-nil, length-append, length-take-le, length-replicate, replicate_more, take_at, drop_at, drop-drop, set_split, take_more}
use Rattle.std.proofs.lemmas.List.Sums.{sum_by-cons}
use Rattle.std.proofs.lemmas.List.Folds.{sum_by-replicate}
use Rattle.std.proofs.lemmas.Nat.{mul-le}
use Rattle.std.proofs.lemmas.Option.{get_or_from_slice_get}
use Rattle.sim_base.specs.BitValue.{BitValue, bit_value}
use Rattle.sim_base.specs.Parts.{halves_of}
use Rattle.sim_base.specs.Shape.{words_of_width, words_of_widths}
use Rattle.sim_base.proofs.Parts.{length-parts}
use Rattle.spool_format.specs.Reading.{written_at}
use Rattle.spool_format.proofs.Placed.{written_length}
use Rattle.run_core.specs.Words.{words_of_slots}

pub within : {X : Type 0} (xs : List X) (i : ℕ) (x : X) → slice_get xs i ≡ Some x → i < length xs
within [] i x at = cc at
within (y ∷ xs) zero x at = omega arith
within (y ∷ xs) (suc i) x at = (let lt = within xs i x at in omega (arith, lt))

written_on : (w a b : List ℕ) (p : ℕ) → p + length a + length b ≤ length w → written_at (written_at w p a) (p + length a) b ≡ written_at w p (a ++ b)
written_on w a b p fits =
    let front = take p w in
    let rest = drop (p + length a) w in
    let first : length front ≡ p = length-take-le p w (omega arith) in
    let long : length (front ++ a) ≡ p + length a = omega (arith, first, length-append front a) in
    let whole : written_at w p a ≡ (front ++ a) ++ rest = sym (append_assoc front a rest) in
    let ahead : take (p + length a) (written_at w p a) ≡ front ++ a = ap (take (p + length a)) whole ∙ take_at (front ++ a) rest (p + length a) long in
    let behind : drop (p + length a + length b) (written_at w p a) ≡ drop (p + length a + length b) w =
    sym (drop-drop (length b) (p + length a) (written_at w p a))
    ∙ ap (λ xs. drop (length b) xs) (ap (drop (p + length a)) whole ∙ drop_at (front ++ a) rest (p + length a) long)
    ∙ drop-drop (length b) (p + length a) w in
    let end : p + length a + length b ≡ p + length (a ++ b) = omega (arith, length-append a b) in
    ap (λ xs. xs ++ (b ++ drop (p + length a + length b) (written_at w p a))) ahead
    ∙ ap (λ xs. (front ++ a) ++ (b ++ xs)) (behind ∙ ap (λ n. drop n w) end)
    ∙ append_assoc front a (b ++ drop (p + length (a ++ b)) w)
    ∙ ap (λ xs. front ++ xs) (sym (append_assoc a b (drop (p + length (a ++ b)) w)))

pub written_more : (w one two a b : List ℕ) (p q : ℕ) → one ≡ written_at w p a → two ≡ written_at one q b → q ≡ p + length a → q + length b ≤ length w → two ≡ written_at w p (a ++ b)
written_more w one two a b p q first second at fits =
    second ∙ ap (λ xs. written_at xs q b) first ∙ ap (λ n. written_at (written_at w p a) n b) at ∙ written_on w a b p (omega (arith, at, fits))

pub written_none : (w : List ℕ) (p : ℕ) → w ≡ written_at w p []
written_none w p = let e : p ≡ p + zero = omega arith in sym (whole p w) ∙ ap (λ n. take p w ++ drop n w) e
  where
    whole : (n : ℕ) (xs : List ℕ) → take n xs ++ drop n xs ≡ xs
    whole zero xs = refl
    whole (suc n) [] = refl
    whole (suc n) (x ∷ xs) = ap (λ ys. x ∷ ys) (whole n xs)

pub written_all : (w new : List ℕ) → length new ≡ length w → written_at w 0 new ≡ new
written_all w new long = ap (λ xs. new ++ xs) (none (0 + length new) w (omega (arith, long))) ∙ append-nil new
  where
    none : (n : ℕ) (xs : List ℕ) → length xs ≤ n → drop n xs ≡ []
    none zero [] le = refl
    none zero (x ∷ xs) le = absurd (let h : suc (length xs) ≤ 0 = le in omega (arith, h))
    none (suc n) [] le = refl
    none (suc n) (x ∷ xs) le = none n xs (omega (arith, le))

-- one word more
pub written_word : (w new words : List ℕ) (p i x : ℕ) → p + length new ≤ length w → slice_get new i ≡ Some x → words ≡ written_at w p (take i new)
    → set words (p + i) x ≡ written_at w p (take (i + 1) new)
written_word w new words p i x fits at is =
    let lt : i < length new = within new i x at in
    let begun = take i new in
    let count : length begun ≡ i = length-take-le i new (omega arith) in
    let long : length (written_at w p begun) ≡ length w = written_length w begun p (omega arith) in
    let next : suc (p + i) ≡ p + i + 1 = omega arith in
    let place : p + i ≡ p + length begun = omega arith in
    ap (λ xs. set xs (p + i) x) is
    ∙ set_split (written_at w p begun) (p + i) x (omega arith)
    ∙ ap (λ n. take (p + i) (written_at w p begun) ++ x ∷ drop n (written_at w p begun)) next
    ∙ ap (λ n. written_at (written_at w p begun) n (x ∷ [])) place
    ∙ written_on w begun (x ∷ []) p (omega arith)
    ∙ ap (λ xs. written_at w p xs) (sym (take_more new i x lt ∙ ap (λ y. begun ++ y ∷ []) (get_or_from_slice_get new i x x at)))

-- ---- the words of slots

pub slots_same : (widths : List ℕ) (f g : ℕ → ℕ) → ((n : ℕ) → n < length widths → f n ≡ g n) → words_of_slots widths f ≡ words_of_slots widths g
unfolding words_of_slots
slots_same [] f g same = refl
slots_same (w ∷ ws) f g same =
    ap (λ n. halves_of (bit_value w n) ++ words_of_slots ws (λ slot. f (suc slot))) (same 0 (omega arith))
    ∙ ap (λ xs. halves_of (bit_value w (g 0)) ++ xs) (slots_same ws (λ slot. f (suc slot)) (λ slot. g (suc slot)) (λ n lt. same (suc n) (omega (arith, lt))))

pub slots_joined : (xs ys : List ℕ) (f : ℕ → ℕ) → words_of_slots (xs ++ ys) f ≡ words_of_slots xs f ++ words_of_slots ys (λ n. f (length xs + n))
unfolding words_of_slots
slots_joined [] ys f = slots_same ys f (λ n. f (0 + n)) (λ n lt. let e : n ≡ 0 + n = omega arith in ap f e)
slots_joined (x ∷ xs) ys f =
    let more : (n : ℕ) → suc (length xs + n) ≡ suc (length xs) + n = λ n. omega arith in
    ap (λ ws. halves_of (bit_value x (f 0)) ++ ws) (slots_joined xs ys (λ n. f (suc n))
    ∙ ap (λ ws. words_of_slots xs (λ n. f (suc n)) ++ ws) (slots_same ys (λ n. f (suc (length xs + n))) (λ n. f (suc (length xs) + n)) (λ n lt. ap f (more n))))
    ∙ sym (append_assoc (halves_of (bit_value x (f 0))) (words_of_slots xs (λ n. f (suc n))) (words_of_slots ys (λ n. f (suc (length xs) + n))))

pub slots_room : (widths : List ℕ) (f : ℕ → ℕ) → length (words_of_slots widths f) ≡ words_of_widths widths
unfolding words_of_slots
slots_room [] f = refl
slots_room (w ∷ ws) f =
    omega (arith, length-append (halves_of (bit_value w (f 0))) (words_of_slots ws (λ slot. f (suc slot))), length-parts 32 (words_of_width w) (f 0), slots_room ws (λ slot. f (suc slot)), sum_by-cons words_of_width w ws)

pub slots_one : (width : ℕ) (f : ℕ → ℕ) → words_of_slots (width ∷ []) f ≡ halves_of (bit_value width (f 0))
unfolding words_of_slots
slots_one width f = append-nil (halves_of (bit_value width (f 0)))

pub slots_more : (i width : ℕ) (f : ℕ → ℕ) → words_of_slots (replicate (i + 1) width) f ≡ words_of_slots (replicate i width) f ++ halves_of (bit_value width (f i))
slots_more i width f =
    let at : length (replicate i width) + 0 ≡ i = omega (arith, length-replicate i width) in
    ap (λ ws. words_of_slots ws f) (sym (replicate_more i width))
    ∙ slots_joined (replicate i width) (width ∷ []) f
    ∙ ap (λ xs. words_of_slots (replicate i width) f ++ xs) (slots_one width (λ n. f (length (replicate i width) + n)) ∙ ap (λ n. halves_of (bit_value width (f n))) at)

-- ---- rows of a memory, of which so many are written

pub rows_none : (w : List ℕ) (place width : ℕ) (f : ℕ → ℕ) → w ≡ written_at w place (words_of_slots (replicate 0 width) f)
unfolding words_of_slots
rows_none w place width f = written_none w place

pub rows_fit : (w words : List ℕ) (place size row at width wide : ℕ) → place + size * words_of_width width ≤ length w → row < size → length words ≡ length w → at ≡ place + row * words_of_width width → wide ≡ width
    → at + words_of_width wide ≤ length words
rows_fit w words place size row at width wide room lt long is same =
    let most : (row + 1) * words_of_width width ≤ size * words_of_width width = mul-le (row + 1) (words_of_width width) size (words_of_width width) (omega (arith, lt)) (omega arith) in
    let one : (row + 1) * words_of_width width ≡ row * words_of_width width + words_of_width width = omega arith in
    let each : words_of_width wide ≡ words_of_width width = ap words_of_width same in
    omega (arith, most, one, each, room, long, is)

pub rows_length : (w words : List ℕ) (place size row at width : ℕ) (v : BitValue) → place + size * words_of_width width ≤ length w → row < size → length words ≡ length w → at ≡ place + row * words_of_width width → v.width ≡ width
    → length (written_at words at (halves_of v)) ≡ length w
rows_length w words place size row at width v room lt long is same =
    let fits = rows_fit w words place size row at width v.width room lt long is same in
    written_length words (halves_of v) at (omega (arith, fits, length-parts 32 (words_of_width v.width) v.number)) ∙ long

pub rows_more : (w one two : List ℕ) (place size row at width : ℕ) (v : BitValue) (f : ℕ → ℕ) → place + size * words_of_width width ≤ length w → row < size → at ≡ place + row * words_of_width width
    → v ≡ bit_value width (f row) → one ≡ written_at w place (words_of_slots (replicate row width) f) → two ≡ written_at one at (halves_of v) → two ≡ written_at w place (words_of_slots (replicate (row + 1) width) f)
rows_more w one two place size row at width v f room lt is value first second =
    let begun = words_of_slots (replicate row width) f in
    let count : length begun ≡ row * words_of_width width = slots_room (replicate row width) f ∙ sum_by-replicate words_of_width row width in
    let fits = rows_fit w w place size row at width width room lt refl is refl in
    let long : length (halves_of (bit_value width (f row))) ≡ words_of_width width = length-parts 32 (words_of_width width) (f row) in
    written_more w one two begun (halves_of (bit_value width (f row))) place at first (second ∙ ap (λ x. written_at one at (halves_of x)) value) (omega (arith, is, count)) (omega (arith, fits, long))
    ∙ ap (written_at w place) (sym (slots_more row width f))
