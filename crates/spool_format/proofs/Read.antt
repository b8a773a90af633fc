-- The fields of a record that stands among other words.
use Rattle.std.proofs.Common.{◌≡◌, ℕ, ◌+◌, ◌*◌, ◌/◌, ◌%◌, ◌^◌, ◌<◌, ◌≤◌, List, ◌∷◌, ◌++◌, length, get_or, Bool, true, false, ◌&&◌, cond, ltb, eqb, Some, None, refl, ap, ◌∙◌, arith}
use Rattle.std.proofs.lemmas.List.{length-append, get_or-append-add}
use Rattle.std.proofs.lemmas.Bool.{le-leb, lt-ltb}
use Rattle.sim_base.specs.TimeText.{largest_time, time_of}
use Rattle.spool_format.specs.declared.sample.Sample.{Sample}
use Rattle.spool_format.specs.Records.{change_record, changed_slots, slots_with_words, time_words, whole_record}
use Rattle.spool_format.specs.Fields.{IsRead, begins_record, changes_at, tag_at, time_at}

pub time_again : (t : ℕ) → t ≤ largest_time → t % 2 ^ 32 + t / 2 ^ 32 % 2 ^ 32 * 2 ^ 32 + t / 2 ^ 64 % 2 ^ 32 * 2 ^ 64 ≡ t
time_again t h = omega arith

time_read : (t : ℕ) → t ≤ largest_time → time_of t ≡ Some t
time_read t h = ap (λ b. cond b (Some t) None) (le-leb t largest_time h)

at_front : (front body : List ℕ) → get_or (front ++ body) (length front) 0 ≡ get_or body 0 0
at_front front body = let at : length front ≡ length front + 0 = omega arith in ap (λ k. get_or (front ++ body) k 0) at ∙ get_or-append-add front body 0 0

begins : (front body : List ℕ) (n : ℕ) → n ≤ length body → get_or body 0 0 < 2 → begins_record (front ++ body) (length front) n ≡ true
begins front body n h small =
    let long : length front + n ≤ length (front ++ body) = omega (arith, length-append front body) in
    let first : get_or (front ++ body) (length front) 0 < 2 = omega (arith, at_front front body) in
    ap (λ b. b && ltb (get_or (front ++ body) (length front) 0) 2) (le-leb (length front + n) (length (front ++ body)) long)
    ∙ lt-ltb (get_or (front ++ body) (length front) 0) 2 first

no : (b : Bool) → (b && false) ≡ false
no true = refl
no false = refl

-- the tag and the time of a record that begins so
head : (front rest : List ℕ) (tag t : ℕ) → tag < 2 → t ≤ largest_time
    → (tag_at (front ++ tag ∷ (time_words t ++ rest)) (length front) ≡ Some tag) × (time_at (front ++ tag ∷ (time_words t ++ rest)) (length front) ≡ Some t)
head front rest tag t small h =
    let body : List ℕ = tag ∷ (time_words t ++ rest) in
    let words : List ℕ = front ++ body in
    let first : get_or words (length front) 0 ≡ tag = at_front front body in
    let a : get_or words (length front + 1) 0 ≡ t % 2 ^ 32 = get_or-append-add front body 1 0 in
    let b : get_or words (length front + 2) 0 ≡ t / 2 ^ 32 % 2 ^ 32 = get_or-append-add front body 2 0 in
    let c : get_or words (length front + 3) 0 ≡ t / 2 ^ 64 % 2 ^ 32 = get_or-append-add front body 3 0 in
    let one : begins_record words (length front) 1 ≡ true = begins front body 1 (omega arith) small in
    let four : begins_record words (length front) 4 ≡ true = begins front body 4 (omega arith) small in
    let sum : get_or words (length front + 1) 0 + get_or words (length front + 2) 0 * 2 ^ 32 + get_or words (length front + 3) 0 * 2 ^ 64 ≡ t =
    ap (λ n. n + get_or words (length front + 2) 0 * 2 ^ 32 + get_or words (length front + 3) 0 * 2 ^ 64) a
    ∙ ap (λ n. t % 2 ^ 32 + n * 2 ^ 32 + get_or words (length front + 3) 0 * 2 ^ 64) b
    ∙ ap (λ n. t % 2 ^ 32 + t / 2 ^ 32 % 2 ^ 32 * 2 ^ 32 + n * 2 ^ 64) c ∙ time_again t h in (
      ap (λ p. cond p (Some (get_or words (length front) 0)) None) one ∙ ap (λ n. Some n) first,
      ap (λ p. cond p (time_of (get_or words (length front + 1) 0 + get_or words (length front + 2) 0 * 2 ^ 32 + get_or words (length front + 3) 0 * 2 ^ 64)) None) four
          ∙ ap time_of sum ∙ time_read t h,
    )

pub whole_fields : (front rest : List ℕ) (s : Sample) → s.time ≤ largest_time → IsRead (front ++ (whole_record s ++ rest)) (length front) 0 s.time None
whole_fields front rest s h =
    let body : List ℕ = 0 ∷ (time_words s.time ++ (s.words ++ rest)) in
    let words : List ℕ = front ++ body in
    let first : get_or words (length front) 0 ≡ 0 = at_front front body in
    let both = head front (s.words ++ rest) 0 s.time (omega arith) h in
    let none : changes_at words (length front) ≡ None =
    ap (λ n. cond (begins_record words (length front) 5 && eqb n 1) (Some (get_or words (length front + 4) 0)) None) first
    ∙ ap (λ p. cond p (Some (get_or words (length front + 4) 0)) None) (no (begins_record words (length front) 5)) in
    record { tag = both.0; time = both.1; changes = none }

pub change_fields : (widths front rest : List ℕ) (before s : Sample) → s.time ≤ largest_time
    → IsRead (front ++ (change_record widths before s ++ rest)) (length front) 1 s.time (Some (length (changed_slots widths before.words s.words)))
unfolding change_record
change_fields widths front rest before s h =
    let n = length (changed_slots widths before.words s.words) in
    let slots = slots_with_words widths s.words (changed_slots widths before.words s.words) in
    let body : List ℕ = 1 ∷ (time_words s.time ++ n ∷ (slots ++ rest)) in
    let words : List ℕ = front ++ body in
    let first : get_or words (length front) 0 ≡ 1 = at_front front body in
    let both = head front (n ∷ (slots ++ rest)) 1 s.time (omega arith) h in
    let five : begins_record words (length front) 5 ≡ true = begins front body 5 (omega arith) (omega arith) in
    let count : get_or words (length front + 4) 0 ≡ n = get_or-append-add front body 4 0 in
    let some : changes_at words (length front) ≡ Some n =
    ap (λ p. cond (p && eqb (get_or words (length front) 0) 1) (Some (get_or words (length front + 4) 0)) None) five
    ∙ ap (λ k. cond (eqb k 1) (Some (get_or words (length front + 4) 0)) None) first ∙ ap (λ k. Some k) count in
    record { tag = both.0; time = both.1; changes = some }
