-- The words of slots, once those of one slot are others.
use Rattle.std.proofs.Common.{◌≡◌, ℕ, ◌+◌, ◌-◌, ◌<◌, ◌≤◌, List, ◌++◌, length, take, drop, get_or, refl, sym, ap, ◌∙◌, arith}
use Rattle.std.proofs.Math.Seq.{drop-append-add}
use Rattle.std.proofs.lemmas.List.{append_assoc, length-append, length-take-le, length-drop, take-take, take_at, drop_at, drop-drop, drop-take, take-append-le, drop-append-le}
use Rattle.sim_base.specs.Shape.{words_of_width, words_of_widths}
use Rattle.spool_format.specs.Records.{place_of, slot_words}
use Rattle.spool_format.specs.Reading.{written_at}
use Rattle.spool_format.proofs.Slots.{place_more, place_next, place_within}

pub place_upto : (ws : List ℕ) (a e : ℕ) → a ≤ e → place_of ws a ≤ place_of ws e
place_upto ws a e h = let m = place_more ws a e h in omega arith

-- a slot's words stand within those of all slots
pub slot_within : (ws : List ℕ) (n : ℕ) → n < length ws → place_of ws n + words_of_width (get_or ws n 0) ≤ words_of_widths ws
slot_within ws n h = let next = place_next ws n h in let most = place_within ws (n + 1) in omega arith

pub slot_room : (ws xs : List ℕ) (n : ℕ) → n < length ws → length xs ≡ words_of_widths ws → length (slot_words ws xs n) ≡ words_of_width (get_or ws n 0)
slot_room ws xs n h room =
    let within = slot_within ws n h in
    length-take-le (words_of_width (get_or ws n 0)) (drop (place_of ws n) xs) (omega (arith, length-drop (place_of ws n) xs))

pub written_length : (xs new : List ℕ) (place : ℕ) → place + length new ≤ length xs → length (written_at xs place new) ≡ length xs
written_length xs new place h =
    let front : length (take place xs) ≡ place = length-take-le place xs (omega arith) in
    omega (arith, length-append (take place xs) (new ++ drop (place + length new) xs), length-append new (drop (place + length new) xs), length-drop (place + length new) xs)

before_written : (xs new : List ℕ) (place p k : ℕ) → p + k ≤ place → place ≤ length xs → take k (drop p (written_at xs place new)) ≡ take k (drop p xs)
before_written xs new place p k low within =
    let front = take place xs in
    let rest = new ++ drop (place + length new) xs in
    let long : length front ≡ place = length-take-le place xs within in
    let at : p + (place - p) ≡ place = omega arith in
    let cut : drop p front ≡ take (place - p) (drop p xs) = ap (λ n. drop p (take n xs)) (sym at) ∙ drop-take p (place - p) xs in
    ap (take k) (drop-append-le p front rest (omega arith)) ∙ take-append-le k (drop p front) rest (omega (arith, length-drop p front))
    ∙ ap (take k) cut ∙ take-take k (place - p) (drop p xs) (omega arith)

after_written : (xs new : List ℕ) (place p : ℕ) → place + length new ≤ p → place ≤ length xs → drop p (written_at xs place new) ≡ drop p xs
after_written xs new place p high within =
    let front = take place xs in
    let rest = drop (place + length new) xs in
    let e = p - (place + length new) in
    let long : length (front ++ new) ≡ place + length new = omega (arith, length-append front new, length-take-le place xs within) in
    let at : p ≡ length (front ++ new) + e = omega arith in
    let back : (place + length new) + e ≡ p = omega arith in
    ap (drop p) (sym (append_assoc front new rest)) ∙ ap (λ n. drop n ((front ++ new) ++ rest)) at ∙ drop-append-add (front ++ new) rest e
    ∙ drop-drop e (place + length new) xs ∙ ap (λ n. drop n xs) back

at_written : (xs new : List ℕ) (place : ℕ) → place ≤ length xs → take (length new) (drop place (written_at xs place new)) ≡ new
at_written xs new place within =
    ap (take (length new)) (drop_at (take place xs) (new ++ drop (place + length new) xs) place (length-take-le place xs within))
    ∙ take_at new (drop (place + length new) xs) (length new) refl

-- those of that slot
pub slot_written : (ws xs new : List ℕ) (l : ℕ) → l < length ws → length xs ≡ words_of_widths ws → length new ≡ words_of_width (get_or ws l 0)
    → slot_words ws (written_at xs (place_of ws l) new) l ≡ new
slot_written ws xs new l h room long =
    let within = slot_within ws l h in
    ap (λ k. take k (drop (place_of ws l) (written_at xs (place_of ws l) new))) (sym long) ∙ at_written xs new (place_of ws l) (omega arith)

-- those of a slot before it, and of one behind it
pub slot_before : (ws xs new : List ℕ) (l n : ℕ) → l < length ws → n < l → length xs ≡ words_of_widths ws
    → slot_words ws (written_at xs (place_of ws l) new) n ≡ slot_words ws xs n
slot_before ws xs new l n h low room =
    let next = place_next ws n (omega arith) in
    let up = place_upto ws (n + 1) l (omega arith) in
    let within = place_within ws l in
    before_written xs new (place_of ws l) (place_of ws n) (words_of_width (get_or ws n 0)) (omega arith) (omega arith)

pub slot_behind : (ws xs new : List ℕ) (l n : ℕ) → l < length ws → l < n → length xs ≡ words_of_widths ws → length new ≡ words_of_width (get_or ws l 0)
    → slot_words ws (written_at xs (place_of ws l) new) n ≡ slot_words ws xs n
slot_behind ws xs new l n h low room long =
    let next = place_next ws l h in
    let up = place_upto ws (l + 1) n (omega arith) in
    let within = place_within ws l in
    ap (take (words_of_width (get_or ws n 0))) (after_written xs new (place_of ws l) (place_of ws n) (omega arith) (omega arith))
