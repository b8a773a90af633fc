-- The text of a time, read and written.
use Rattle.std.proofs.Common.{◌≡◌, ℕ, ◌+◌, ◌-◌, ◌*◌, ◌/◌, ◌%◌, ◌^◌, ◌<◌, ◌≤◌, ◌==◌, true, false, List, [], ◌∷◌, ◌++◌, length, get_or, set, take, drop, decimal, Some, None, nat_lt, nat_le, cond, position, refl, sym, ap, ◌∙◌, arith}
use Rattle.std.specs.Option.{option_and_then}
use Rattle.std.proofs.lemmas.Bool.Decides.{nat_tests}
use Rattle.std.proofs.lemmas.Bool.{cond-true, lt-ltb, le-leb}
use Rattle.std.proofs.lemmas.List.{append_assoc, length-append, take_at, drop_at, take_more_set, length_push, length-drop, length-take, length-set, get_or_append_left, get_or_at}
use Rattle.std.proofs.lemmas.List.Sums.{position_or_len_is}
use borrow.Rule.Slice.PartMut.{put_mid, post_of, mid_of}
use Rattle.std.proofs.lemmas.Slice.{take-put_mid}
use Rattle.std.proofs.lemmas.Fmt.{length-decimal-le}
use Rattle.std.specs.Char.{is_ascii_digit}
use Rattle.std.specs.List.{position_or_len}
use Rattle.sim_base.specs.Digits.{digits_number, lowest_digits}
use Rattle.sim_base.specs.TimeText.{read_time, time_text, time_of, time_from_parts, time_from_texts, largest_time}
use Rattle.sim_base.proofs.Numerals.{length-lowest_digits, decimal_after_decimal, digits_in, digits_decimal, digits_lowest}

pub read_no_dot : (text : List ℕ) → position (λ c. c == 46) text ≡ None → read_time text ≡ None
unfolding read_time
read_no_dot text e = ap (option_and_then (λ dot. time_from_texts (take dot text) (drop (dot + 1) text))) e

pub read_seconds : (text : List ℕ) (dot : ℕ) → position (λ c. c == 46) text ≡ Some dot → digits_number 10 (take dot text) ≡ None → read_time text ≡ None
unfolding read_time
read_seconds text dot e s =
    ap (option_and_then (λ dot. time_from_texts (take dot text) (drop (dot + 1) text))) e
    ∙ ap (option_and_then (λ s. option_and_then (λ f. time_from_parts s f (length (drop (dot + 1) text))) (digits_number 15 (drop (dot + 1) text)))) s

pub read_fraction : (text : List ℕ) (dot s : ℕ) → position (λ c. c == 46) text ≡ Some dot → digits_number 10 (take dot text) ≡ Some s → digits_number 15 (drop (dot + 1) text) ≡ None → read_time text ≡ None
unfolding read_time
read_fraction text dot s e f g =
    ap (option_and_then (λ dot. time_from_texts (take dot text) (drop (dot + 1) text))) e
    ∙ ap (option_and_then (λ s. option_and_then (λ f. time_from_parts s f (length (drop (dot + 1) text))) (digits_number 15 (drop (dot + 1) text)))) f
    ∙ ap (option_and_then (λ f. time_from_parts s f (length (drop (dot + 1) text)))) g

pub read_parts : (text : List ℕ) (dot s f : ℕ) → position (λ c. c == 46) text ≡ Some dot → digits_number 10 (take dot text) ≡ Some s → digits_number 15 (drop (dot + 1) text) ≡ Some f → read_time text ≡ time_from_parts s f (length (drop (dot + 1) text))
unfolding read_time
read_parts text dot s f e g h =
    ap (option_and_then (λ dot. time_from_texts (take dot text) (drop (dot + 1) text))) e
    ∙ ap (option_and_then (λ s. option_and_then (λ f. time_from_parts s f (length (drop (dot + 1) text))) (digits_number 15 (drop (dot + 1) text)))) g
    ∙ ap (option_and_then (λ f. time_from_parts s f (length (drop (dot + 1) text)))) h

no_dot : (c : ℕ) → is_ascii_digit c ≡ true → (c == 46) ≡ false
no_dot c is = grind (arith, nat_tests)

-- the first dot behind digits
dot_at : (xs ys : List ℕ) → ((k : ℕ) → k < length xs → is_ascii_digit (get_or xs k 0) ≡ true) → position (λ c. c == 46) (xs ++ 46 ∷ ys) ≡ Some (length xs)
dot_at xs ys digits =
    let l : length (xs ++ 46 ∷ ys) ≡ length xs + length (46 ∷ ys) = length-append xs (46 ∷ ys) in
    let place : position_or_len (λ c. c == 46) (xs ++ 46 ∷ ys) ≡ length xs = position_or_len_is (λ c. c == 46) (xs ++ 46 ∷ ys) (length xs) 0 (omega arith)
    (λ k lt. ap (λ x. x == 46) (get_or_append_left xs (46 ∷ ys) 0 k lt) ∙ no_dot (get_or xs k 0) (digits k lt))
    (λ _. ap (λ x. x == 46) (get_or_at xs 46 ys 0 (length xs) refl)) in
    ap (λ p. cond (nat_lt p (length (xs ++ 46 ∷ ys))) (Some p) None) place
    ∙ cond-true (nat_lt (length xs) (length (xs ++ 46 ∷ ys))) (Some (length xs)) None (lt-ltb (length xs) (length (xs ++ 46 ∷ ys)) (omega arith))

-- what stands behind a first part and the dot
behind_dot : (xs ys : List ℕ) → drop (length xs + 1) (xs ++ 46 ∷ ys) ≡ ys
behind_dot xs ys = ap (drop (length xs + 1)) (sym (append_assoc xs (46 ∷ []) ys)) ∙ drop_at (xs ++ 46 ∷ []) ys (length xs + 1) (length_push xs 46)

read_written : (s f : ℕ) (digits : List ℕ) → s < 10 ^ 10 → length digits ≡ 15 → digits_number 15 digits ≡ Some f → read_time (decimal s ++ 46 ∷ digits) ≡ time_from_parts s f 15
read_written s f digits below l is =
    let text = decimal s ++ 46 ∷ digits in
    let behind = behind_dot (decimal s) digits in
    let fits : s < 2 ^ 64 = omega arith in
    read_parts text (length (decimal s)) s f
    (dot_at (decimal s) digits (digits_in 0 s (decimal s) (decimal_after_decimal s fits)))
    (ap (digits_number 10) (take_at (decimal s) (46 ∷ digits) (length (decimal s)) refl) ∙ digits_decimal 10 s (omega arith) below fits)
    (ap (digits_number 15) behind ∙ is)
    ∙ ap (λ n. time_from_parts s f n) (ap length behind ∙ l)

whole_time : (t : ℕ) → t ≤ largest_time → time_from_parts (t / 10 ^ 15) (t % 10 ^ 15) 15 ≡ Some t
whole_time t le =
    let e : t / 10 ^ 15 * 10 ^ 15 + t % 10 ^ 15 * 10 ^ 0 ≡ t = omega arith in
    ap time_of e ∙ cond-true (nat_le t largest_time) (Some t) None (le-leb t largest_time le)

-- what is written is read
pub read_time_text : (t : ℕ) → t ≤ largest_time → read_time (time_text t) ≡ Some t
unfolding time_text
read_time_text t le =
    let f : t % 10 ^ 15 < 10 ^ 15 = omega arith in
    read_written (t / 10 ^ 15) (t % 10 ^ 15) (lowest_digits 10 15 (t % 10 ^ 15)) (omega arith) (length-lowest_digits 10 15 (t % 10 ^ 15)) (digits_lowest 15 (t % 10 ^ 15) (omega arith) f)
    ∙ whole_time t le

pub seconds_short : (t : ℕ) → t ≤ largest_time → length (decimal (t / 10 ^ 15)) ≤ 10
seconds_short t le = length-decimal-le 10 (t / 10 ^ 15) (omega arith) (omega arith) (omega arith)

-- the buffer with the seconds and the dot in front
abbrev with_dot : List ℕ → List ℕ → List ℕ → List ℕ
with_dot text front into = set (front ++ post_of 0 (length text) into) (length text) 46

-- the text as it is put together in the buffer
module _ (text front into : List ℕ) (same : front ≡ text) (room : length into ≡ 26) (short : length text ≤ 10) where
  length-buffer : length (with_dot text front into) ≡ 26
  length-buffer =
      let rest : length (post_of 0 (length text) into) ≡ length into - length text = length-drop (length text) into in
      let all = length-append front (post_of 0 (length text) into) in
      let wide = ap length same in
      length-set (front ++ post_of 0 (length text) into) (length text) 46 ∙ omega arith

  pub length-middle : (k : ℕ) → k ≡ 15 → length (mid_of (length text + 1) k (with_dot text front into)) ≡ 15
  length-middle k is =
      let l = length-buffer in
      let behind = length-drop (length text + 1) (with_dot text front into) in
      length-take k (drop (length text + 1) (with_dot text front into)) ∙ omega arith

  pub put_together : (digits : List ℕ) (k : ℕ) → length digits ≡ 15 → take (length text + 1 + 15) (put_mid (length text + 1) k (with_dot text front into) digits) ≡ text ++ 46 ∷ digits
  put_together digits k l =
      let xs = front ++ post_of 0 (length text) into in
      let size = length-buffer in
      let rest : length (post_of 0 (length text) into) ≡ length into - length text = length-drop (length text) into in
      let all : length xs ≡ length front + length (post_of 0 (length text) into) = length-append front (post_of 0 (length text) into) in
      let wide : length front ≡ length text = ap length same in
      take-put_mid (length text + 1) k (set xs (length text) 46) digits (length text + 1 + 15) (omega arith) (omega arith)
      ∙ ap (λ ys. ys ++ digits) (take_more_set xs (length text) 46 (omega arith) ∙ ap (λ ys. ys ++ 46 ∷ []) (take_at front (post_of 0 (length text) into) (length text) wide ∙ same))
      ∙ append_assoc text (46 ∷ []) digits
