-- What a search for a zero byte says of the first packet of what is left.
use Rattle.std.proofs.Common.{◌≡◌, ℕ, suc, ◌+◌, ◌-◌, ◌<◌, ◌≤◌, List, [], ◌∷◌, ◌++◌, length, take, drop, get_or, sym, ap, ◌∙◌, arith, inl, inr, eq-eqb, Some, slice_get, length-take, length-drop}
use Rattle.std.proofs.Math.Seq.{drop-cons}
use Rattle.std.proofs.lemmas.Bool.{cases_lt}
use Rattle.std.proofs.lemmas.Bool.Decides.{nat_tests}
use Rattle.std.proofs.lemmas.List.{get_or-drop, get_or-take, drop-drop, take-append-drop, take_rest}
use Rattle.memchr.specs.Find.{Nowhere, NoneBefore, Passes, is_byte}
use Rattle.frame_zero.specs.Packets.{limit, whole, too_long, packets}
use Rattle.frame_zero.proofs.PacketLaws.{HasNoZero, none, one, packets-whole, packets-open, packets-too_long}

-- no byte of xs from s up to e is zero
abbrev pub NoneZero : List ℕ → ℕ → ℕ → Type 0
NoneZero xs s e = (k : ℕ) → s ≤ k → k < e → get_or xs k 0 ≡ 0 → ⊥

HasNoZero-from : (a : List ℕ) → ((k : ℕ) → k < length a → get_or a k 0 ≡ 0 → ⊥) → HasNoZero a
HasNoZero-from [] h = none
HasNoZero-from (b ∷ bytes) h = one (h 0 (omega arith)) (HasNoZero-from bytes (λ k low. h (suc k) (omega arith)))

length-between : (xs : List ℕ) (s e : ℕ) → s ≤ e → e ≤ length xs → length (take (e - s) (drop s xs)) ≡ e - s
length-between xs s e low high = omega (arith, length-take (e - s) (drop s xs), length-drop s xs)

module _ (xs : List ℕ) (n stop : ℕ) (high : n ≤ stop) (inside : stop ≤ length xs) where
  at_hay : (j : ℕ) → j < stop - n → get_or (take (stop - n) (drop n xs)) j 0 ≡ get_or xs (n + j) 0
  at_hay j h = get_or-take (stop - n) (drop n xs) j 0 h ∙ get_or-drop n xs j 0

  -- none before the search, and none up to its place m
  pub none_below : (s m : ℕ) → NoneZero xs s n → m ≤ stop - n → Nowhere (Passes (is_byte 0) (take (stop - n) (drop n xs))) 0 m → NoneZero xs s (n + m)
  none_below s m before fits nowhere k low below is_zero =
      elim (cases_lt k n) [ inl h ↦ before k low h is_zero | inr h ↦ nowhere (k - n) (omega arith) (omega arith) (eq-eqb _ 0 (at_hay (k - n) (omega arith) ∙ (let same : n + (k - n) ≡ k = omega arith in rw same is_zero))) ]

  pub zero_at : (m : ℕ) → m < stop - n → Passes (is_byte 0) (take (stop - n) (drop n xs)) m → get_or xs (n + m) 0 ≡ 0
  zero_at m fits passes = let there = at_hay m fits in grind (arith, nat_tests)

-- the search found nothing up to its end
pub searched : (xs ys : List ℕ) (s n stop : ℕ) → ys ≡ xs → n ≤ stop → stop ≤ length xs → NoneZero xs s n → Nowhere (Passes (is_byte 0) (take (stop - n) (drop n ys))) 0 (length (take (stop - n) (drop n ys))) → NoneZero xs s stop
searched xs ys s n stop same high inside before nowhere =
    let len : length (take (stop - n) (drop n xs)) ≡ stop - n = length-between xs n stop high inside in
    let place : n + (stop - n) ≡ stop = omega arith in
    let there : NoneZero xs s (n + (stop - n)) = none_below xs n stop high inside s (stop - n) before (omega arith) (rw (same, len) at nowhere) in
    rw place at there

-- the search found a zero byte at its place k
pub found : (xs ys : List ℕ) (s n stop k : ℕ) → ys ≡ xs → n ≤ stop → stop ≤ length xs → NoneZero xs s n → NoneBefore (Passes (is_byte 0) (take (stop - n) (drop n ys))) 0 (length (take (stop - n) (drop n ys))) k × Passes (is_byte 0) (take (stop - n) (drop n ys)) k → (n + k < stop) × NoneZero xs s (n + k) × (get_or xs (n + k) 0 ≡ 0)
found xs ys s n stop k same high inside before there =
    let len : length (take (stop - n) (drop n xs)) ≡ stop - n = length-between xs n stop high inside in
    let at_xs = rw same at there in
    let below : k < stop - n = rw len at at_xs.0.high in
    (omega arith, none_below xs n stop high inside s k before (omega arith) at_xs.0.before, zero_at xs n stop high inside k below at_xs.1)

HasNoZero-part : (xs : List ℕ) (s e : ℕ) → s ≤ e → e ≤ length xs → NoneZero xs s e → HasNoZero (take (e - s) (drop s xs))
HasNoZero-part xs s e low high h = HasNoZero-from _ (λ k below. let inside : k < e - s = omega (arith, below, length-take (e - s) (drop s xs), length-drop s xs) in λ is_zero. h (s + k) (omega arith) (omega arith) (sym (get_or-take (e - s) (drop s xs) k 0 inside ∙ get_or-drop s xs k 0) ∙ is_zero))

part_ended : (xs : List ℕ) (s e : ℕ) → s ≤ e → e < length xs → get_or xs e 0 ≡ 0 → drop s xs ≡ take (e - s) (drop s xs) ++ 0 ∷ drop (e + 1) xs
part_ended xs s e low high is_zero =
    let place : s + (e - s) ≡ e = omega arith in
    let next : e + 1 ≡ suc e = omega arith in
    let behind : drop (e - s) (drop s xs) ≡ 0 ∷ drop (e + 1) xs = drop-drop (e - s) s xs ∙ (rw (place, next) (drop-cons xs e 0 high ∙ ap (λ z. z ∷ drop (suc e) xs) is_zero)) in
    sym (take-append-drop (e - s) (drop s xs)) ∙ ap (λ z. take (e - s) (drop s xs) ++ z) behind

-- a zero byte at e, and none before it: the first packet
first_whole : (xs : List ℕ) (s e : ℕ) → s ≤ e → e < length xs → NoneZero xs s e → get_or xs e 0 ≡ 0 → e - s ≤ limit → packets (drop s xs) ≡ whole (take (e - s) (drop s xs)) ∷ packets (drop (e + 1) xs)
first_whole xs s e low high h is_zero short =
    ap packets (part_ended xs s e low high is_zero)
    ∙ packets-whole _ (drop (e + 1) xs) (HasNoZero-part xs s e low (omega arith) h) (omega (arith, length-between xs s e low (omega arith)))

-- the same of what the caller sees: `now` was left, and the packet is read from `zs`
pub taken : (now xs zs : List ℕ) (s e : ℕ) → drop s xs ≡ now → zs ≡ xs → s ≤ e → e < length xs → NoneZero xs s e → get_or xs e 0 ≡ 0 → e - s ≤ limit →
    (now ≡ take (e - s) (drop s zs) ++ 0 ∷ drop (e + 1) xs)
    × (packets now ≡ whole (take (e - s) (drop s zs)) ∷ packets (drop (e + 1) xs))
    × (Some (whole (take (e - s) (drop s zs))) ≡ slice_get (packets now) 0)
taken now xs zs s e view same low high h is_zero short =
    let first = first_whole xs s e low high h is_zero short in
    rw (same, ← view) (part_ended xs s e low high is_zero, first, sym (ap (λ z. slice_get z 0) first))

-- no zero byte in all that is left
pub first_open : (xs : List ℕ) (s : ℕ) → s ≤ length xs → NoneZero xs s (length xs) → length xs - s ≤ limit → packets (drop s xs) ≡ []
first_open xs s low h short =
    ap packets (sym (take_rest xs s))
    ∙ packets-open _ (HasNoZero-part xs s (length xs) low (omega arith) h) (omega (arith, length-between xs s (length xs) low (omega arith)))

-- no zero byte in more than a packet
pub first_too_long : (xs : List ℕ) (s e : ℕ) → s ≤ e → e ≤ length xs → NoneZero xs s e → limit < e - s → packets (drop s xs) ≡ too_long ∷ []
first_too_long xs s e low high h long =
    ap packets (sym (take-append-drop (e - s) (drop s xs)))
    ∙ packets-too_long _ (drop (e - s) (drop s xs)) (HasNoZero-part xs s e low high h) (omega (arith, length-between xs s e low high))
