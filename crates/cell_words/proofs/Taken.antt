-- Digits taken from a number's least end.
use Rattle.std.proofs.Common.{◌≡◌, ℕ, ◌+◌, ◌-◌, ◌*◌, ◌/◌, ◌%◌, ◌^◌, ◌<◌, ◌≤◌, sym, ◌∙◌, ap, arith, inl, inr, subst, min}
use Rattle.std.proofs.lemmas.Bool.{cases_lt}
use Rattle.std.proofs.lemmas.Nat.{mod_below, pow_pos, pow-add, shr_high, mod_low, div-add-mod', shl_below, shr_below}
use Rattle.std.proofs.Math.Nat.{mod-eq_of_lt, div-eq_of_lt, mul_assoc, pow-le-pow_right, mod-one, div-one, zero-mul, mul-one}
use Rattle.sim_base.specs.BitValue.{BitValue, bit_value}
use Rattle.cell_words.specs.Shifts.{extended}

-- a quotient and a remainder by 2 ^ n
splits : (n N q r : ℕ) → r < 2 ^ n → N ≡ q * 2 ^ n + r → (N % 2 ^ n ≡ r) × (N / 2 ^ n ≡ q)
splits n N q r lt e = (ap (λ t. t % 2 ^ n) e ∙ mod_low q n r lt, ap (λ t. t / 2 ^ n) e ∙ shr_high q n r lt)

ones_more : (k : ℕ) → 2 ^ k ≡ (2 ^ k - 1) + 1
ones_more k = let p : 0 < 2 ^ k = pow_pos k in omega arith

-- within a number's own digits
own_split : (n o l D : ℕ) → n ≤ l → D < 2 ^ l → (extended o (bit_value l D) % 2 ^ n ≡ D % 2 ^ n) × (extended o (bit_value l D) / 2 ^ n ≡ extended o (bit_value (l - n) (D / 2 ^ n)))
own_split n o l D le lt =
    let s : l - n + n ≡ l = omega arith in
    let p : 2 ^ l ≡ 2 ^ (l - n) * 2 ^ n = ap (λ k. 2 ^ k) (sym s) ∙ pow-add 2 (l - n) n in
    let m : (2 ^ o - 1) * 2 ^ l ≡ (2 ^ o - 1) * 2 ^ (l - n) * 2 ^ n = ap (λ t. (2 ^ o - 1) * t) p ∙ sym (mul_assoc (2 ^ o - 1) (2 ^ (l - n)) (2 ^ n)) in
    splits n ((2 ^ o - 1) * 2 ^ l + D) ((2 ^ o - 1) * 2 ^ (l - n) + D / 2 ^ n) (D % 2 ^ n) (mod_below D (2 ^ n) (pow_pos n))
    (omega (arith, m, div-add-mod' D (2 ^ n)))

-- a number below 2 to the k has no more digits
beyond : (k D : ℕ) → D < 2 ^ k → (D % 2 ^ k ≡ D) × (D / 2 ^ k ≡ 0)
beyond k D lt = (mod-eq_of_lt lt, div-eq_of_lt lt)

-- all of the own digits, and j of the digits 1
ones_split : (j o l D : ℕ) → j ≤ o → D < 2 ^ l → (extended o (bit_value l D) % 2 ^ (l + j) ≡ (2 ^ j - 1) * 2 ^ l + D) × (extended o (bit_value l D) / 2 ^ (l + j) ≡ 2 ^ (o - j) - 1)
ones_split j o l D le lt =
    let s : o - j + j ≡ o = omega arith in
    let p : 2 ^ o ≡ 2 ^ (o - j) * 2 ^ j = ap (λ k. 2 ^ k) (sym s) ∙ pow-add 2 (o - j) j in
    let q : 2 ^ (l + j) ≡ 2 ^ l * 2 ^ j = pow-add 2 l j in
    let a : 2 ^ o ≡ (2 ^ o - 1) + 1 = ones_more o in
    let b : 2 ^ j ≡ (2 ^ j - 1) + 1 = ones_more j in
    let d : 2 ^ (o - j) ≡ (2 ^ (o - j) - 1) + 1 = ones_more (o - j) in
    let k : 2 ^ (l + j) ≡ 2 ^ j * 2 ^ l = omega (arith, q) in
    let f : 2 ^ o * 2 ^ l ≡ 2 ^ (o - j) * 2 ^ (l + j) = ap (λ t. t * 2 ^ l) p ∙ mul_assoc (2 ^ (o - j)) (2 ^ j) (2 ^ l) ∙ ap (λ t. 2 ^ (o - j) * t) (sym k) in
    let x : 2 ^ o * 2 ^ l ≡ ((2 ^ o - 1) + 1) * 2 ^ l = ap (λ t. t * 2 ^ l) a in
    let y : 2 ^ j * 2 ^ l ≡ ((2 ^ j - 1) + 1) * 2 ^ l = ap (λ t. t * 2 ^ l) b in
    let z : 2 ^ (o - j) * 2 ^ (l + j) ≡ ((2 ^ (o - j) - 1) + 1) * 2 ^ (l + j) = ap (λ t. t * 2 ^ (l + j)) d in
    splits (l + j) ((2 ^ o - 1) * 2 ^ l + D) (2 ^ (o - j) - 1) ((2 ^ j - 1) * 2 ^ l + D)
    (omega (arith, k, y))
    (omega (arith, k, f, x, y, z))

-- beyond the digits 1 there are digits 0
none_split : (n o l D : ℕ) → l + o ≤ n → D < 2 ^ l → (extended o (bit_value l D) % 2 ^ n ≡ extended o (bit_value l D)) × (extended o (bit_value l D) / 2 ^ n ≡ 0)
none_split n o l D le lt =
    let q : 2 ^ (l + o) ≡ 2 ^ l * 2 ^ o = pow-add 2 l o in
    let grows : 2 ^ (l + o) ≤ 2 ^ n = pow-le-pow_right {n = 2} (omega arith) le in
    let a : 2 ^ o ≡ (2 ^ o - 1) + 1 = ones_more o in
    beyond n ((2 ^ o - 1) * 2 ^ l + D) (omega (arith, q, ap (λ t. t * 2 ^ l) a))

-- what reading gives, and what is left
Reads : ℕ → ℕ → ℕ → ℕ → ℕ → ℕ → Type 0
Reads n o l D own more =
    (extended o (bit_value l D) % 2 ^ n ≡ (2 ^ more - 1) * 2 ^ own + D % 2 ^ own)
    × (extended o (bit_value l D) / 2 ^ n ≡ extended (o - more) (bit_value (l - own) (D / 2 ^ own)))

reads_own : (n o l D : ℕ) → n ≤ l → D < 2 ^ l → Reads n o l D n 0
unfolding Reads
reads_own n o l D le lt = let r = own_split n o l D le lt in let z : o ≡ o - 0 = omega arith in (r.0 ∙ omega arith, r.1 ∙ ap (λ k. extended k (bit_value (l - n) (D / 2 ^ n))) z)

reads_ones : (n o l D : ℕ) → l ≤ n → n - l ≤ o → D < 2 ^ l → Reads n o l D l (n - l)
unfolding Reads
reads_ones n o l D le more lt =
    let s : l + (n - l) ≡ n = omega arith in
    let r = ones_split (n - l) o l D more lt in
    let b = beyond l D lt in
    let z : l - l ≡ 0 = omega arith in (
      ap (λ k. ((2 ^ o - 1) * 2 ^ l + D) % 2 ^ k) (sym s) ∙ r.0 ∙ ap (λ t. (2 ^ (n - l) - 1) * 2 ^ l + t) (sym b.0),
      ap (λ k. ((2 ^ o - 1) * 2 ^ l + D) / 2 ^ k) (sym s) ∙ r.1 ∙ sym (ap (λ k. (2 ^ (o - (n - l)) - 1) * 2 ^ k + D / 2 ^ l) z ∙ ap (λ t. (2 ^ (o - (n - l)) - 1) * 2 ^ 0 + t) b.1 ∙ omega arith),
    )

reads_all : (n o l D : ℕ) → l ≤ n → o ≤ n - l → D < 2 ^ l → Reads n o l D l o
unfolding Reads
reads_all n o l D le more lt =
    let r = none_split n o l D (omega arith) lt in
    let b = beyond l D lt in
    let z : l - l ≡ 0 = omega arith in
    let y : o - o ≡ 0 = omega arith in (
      r.0 ∙ ap (λ t. (2 ^ o - 1) * 2 ^ l + t) (sym b.0),
      r.1 ∙ sym (ap (λ k. (2 ^ k - 1) * 2 ^ (l - l) + D / 2 ^ l) y ∙ ap (λ t. (2 ^ 0 - 1) * 2 ^ (l - l) + t) b.1 ∙ omega arith),
    )

pub taken : (n o l D own more : ℕ) → D < 2 ^ l → own ≡ min n l → more ≡ min (n - own) o
    → (extended o (bit_value l D) % 2 ^ n ≡ (2 ^ more - 1) * 2 ^ own + D % 2 ^ own)
    × (extended o (bit_value l D) / 2 ^ n ≡ extended (o - more) (bit_value (l - own) (D / 2 ^ own)))
unfolding Reads
taken n o l D own more lt e f =
    let P : ℕ → ℕ → Type 0 = λ x y. Reads n o l D x y in
    elim (cases_lt n l) [
      | inl a ↦ (let x : n ≡ own = omega arith in let y : 0 ≡ more = omega arith in subst (λ (k : ℕ). Reads n o l D k more) x (subst (λ (k : ℕ). Reads n o l D n k) y (reads_own n o l D (omega arith) lt)))
      | inr b ↦
          (let x : l ≡ own = omega arith in
          elim (cases_lt (n - l) o) [
            | inl c ↦ (let y : n - l ≡ more = omega arith in subst (λ (k : ℕ). Reads n o l D k more) x (subst (λ (k : ℕ). Reads n o l D l k) y (reads_ones n o l D b (omega arith) lt)))
            | inr d ↦ (let y : o ≡ more = omega arith in subst (λ (k : ℕ). Reads n o l D k more) x (subst (λ (k : ℕ). Reads n o l D l k) y (reads_all n o l D b d lt)))
          ])
    ]

-- the same of a value S of which T is left
pub rest_inside : (l own : ℕ) (S T : BitValue) → own ≤ l → S.width ≡ l → S.number < 2 ^ l → T ≡ bit_value (S.width - own) (S.number / 2 ^ own) → (T.width ≡ l - own) × (T.number < 2 ^ (l - own))
rest_inside l own S T le w lt e =
    let s : l ≡ l - own + own = omega arith in
    let below : S.number / 2 ^ own < 2 ^ (l - own) = shr_below S.number (l - own) own (subst (λ (k : ℕ). S.number < 2 ^ k) s lt) in
    (ap (λ (v : BitValue). v.width) e ∙ ap (λ k. k - own) w, subst (λ (x : ℕ). x < 2 ^ (l - own)) (sym (ap (λ (v : BitValue). v.number) e)) below)

pub rest_taken : (n o l own more : ℕ) (S T : BitValue) → S.width ≡ l → S.number < 2 ^ l → own ≡ min n l → more ≡ min (n - own) o → T ≡ bit_value (S.width - own) (S.number / 2 ^ own)
    → extended (o - more) T ≡ extended o S / 2 ^ n
rest_taken n o l own more S T w lt e f t =
    ap (extended (o - more)) (t ∙ ap (λ k. bit_value (k - own) (S.number / 2 ^ own)) w)
    ∙ sym (taken n o l S.number own more lt e f).1
    ∙ ap (λ k. extended o (bit_value k S.number) / 2 ^ n) (sym w)

pub word_taken : (n o l own more : ℕ) (S : BitValue) (word : ℕ) → S.width ≡ l → S.number < 2 ^ l → own ≡ min n l → more ≡ min (n - own) o → word ≡ S.number % 2 ^ own
    → (2 ^ more - 1) * 2 ^ own + word ≡ extended o S % 2 ^ n
word_taken n o l own more S word w lt e f t =
    ap (λ x. (2 ^ more - 1) * 2 ^ own + x) t
    ∙ sym (taken n o l S.number own more lt e f).0
    ∙ ap (λ k. extended o (bit_value k S.number) % 2 ^ n) (sym w)

pub word_below : (n own word number : ℕ) → word ≡ number % 2 ^ own → word < 2 ^ own
word_below n own word number e = subst (λ (x : ℕ). x < 2 ^ own) (sym e) (mod_below number (2 ^ own) (pow_pos own))

pub ones_below : (k : ℕ) → 2 ^ k - 1 < 2 ^ k
ones_below k = let p : 0 < 2 ^ k = pow_pos k in omega arith

-- ---- digits 0 below a number

pub zeros_taken : (n z E below : ℕ) → below ≡ min n z → (E * 2 ^ z % 2 ^ n ≡ E % 2 ^ (n - below) * 2 ^ below) × (E * 2 ^ z / 2 ^ n ≡ E / 2 ^ (n - below) * 2 ^ (z - below))
zeros_taken n z E below e = elim (cases_lt n z) [
  | inl a ↦
      (let x : below ≡ n = omega arith in
      let s : z - below + n ≡ z = omega arith in
      let y : n - below ≡ 0 = omega arith in
      let p : 2 ^ z ≡ 2 ^ (z - below) * 2 ^ n = ap (λ k. 2 ^ k) (sym s) ∙ pow-add 2 (z - below) n in
      let r = splits n (E * 2 ^ z) (E * 2 ^ (z - below)) 0 (pow_pos n) (omega (arith, ap (λ t. E * t) p)) in (
        r.0 ∙ sym (ap (λ k. E % 2 ^ k * 2 ^ below) y ∙ ap (λ t. t * 2 ^ below) (mod-one E) ∙ zero-mul (2 ^ below)),
        r.1 ∙ sym (ap (λ k. E / 2 ^ k * 2 ^ (z - below)) y ∙ ap (λ t. t * 2 ^ (z - below)) (div-one E)),
      ))
  | inr b ↦
      (let x : below ≡ z = omega arith in
      let s : n - below + z ≡ n = omega arith in
      let y : z - below ≡ 0 = omega arith in
      let p : 2 ^ n ≡ 2 ^ (n - below) * 2 ^ z = ap (λ k. 2 ^ k) (sym s) ∙ pow-add 2 (n - below) z in
      let h : E % 2 ^ (n - below) < 2 ^ (n - below) = mod_below E (2 ^ (n - below)) (pow_pos (n - below)) in
      let below_n : E % 2 ^ (n - below) * 2 ^ z < 2 ^ (n - below + z) = shl_below (E % 2 ^ (n - below)) (n - below) z h in
      let P : ℕ → Type 0 = λ k. E % 2 ^ (n - below) * 2 ^ z < 2 ^ k in
      let m : E * 2 ^ z ≡ E / 2 ^ (n - below) * 2 ^ n + E % 2 ^ (n - below) * 2 ^ z =
      omega (arith, ap (λ t. t * 2 ^ z) (div-add-mod' E (2 ^ (n - below))), ap (λ t. E / 2 ^ (n - below) * t) p) in
      let r = splits n (E * 2 ^ z) (E / 2 ^ (n - below)) (E % 2 ^ (n - below) * 2 ^ z) (subst P s below_n) m in
      (r.0 ∙ ap (λ k. E % 2 ^ (n - below) * 2 ^ k) (sym x), r.1 ∙ sym (ap (λ k. E / 2 ^ (n - below) * 2 ^ k) y ∙ mul-one (E / 2 ^ (n - below)))))
]

-- what is taken behind digits 0 fits a word
pub word_whole : (n below word E : ℕ) → n ≤ 64 → below ≤ n → word ≡ E % 2 ^ (n - below) → word * 2 ^ below % 2 ^ 64 ≡ E % 2 ^ (n - below) * 2 ^ below
word_whole n below word E small le e =
    let s : n - below + below ≡ n = omega arith in
    let h : E % 2 ^ (n - below) * 2 ^ below < 2 ^ (n - below + below) = shl_below (E % 2 ^ (n - below)) (n - below) below (mod_below E (2 ^ (n - below)) (pow_pos (n - below))) in
    let g : E % 2 ^ (n - below) * 2 ^ below < 2 ^ n = subst (λ (k : ℕ). E % 2 ^ (n - below) * 2 ^ below < 2 ^ k) s h in
    let grows : 2 ^ n ≤ 2 ^ 64 = pow-le-pow_right {n = 2} (omega arith) small in
    let f : E % 2 ^ (n - below) * 2 ^ below < 2 ^ 64 = omega arith in
    ap (λ x. x * 2 ^ below % 2 ^ 64) e ∙ mod-eq_of_lt f
