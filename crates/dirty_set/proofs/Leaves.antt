-- The leaves of a tree, which hold the marks.
use Rattle.std.proofs.Common.{◌≡◌, ℕ, zero, suc, ◌+◌, ◌-◌, ◌*◌, ◌/◌, ◌%◌, ◌^◌, ◌<◌, ◌≤◌, List, length, get_or, drop, set, ◌==◌, sym, ◌∙◌, ap, subst, arith, inl, inr}
use Rattle.std.proofs.lemmas.Bool.{cases_lt, cases_eq, eq-eqb, ne_eqb}
use Rattle.std.proofs.lemmas.Bool.Decides.{eqb_tells}
use Rattle.std.proofs.lemmas.List.{get_or-drop, get_or_past, length-drop, drop-set-add}
use Rattle.std.proofs.lemmas.Nat.{pow_pos}
use Rattle.std.proofs.lemmas.Nat.Bits.{bit_at-zero, bit_at_above, same_from_bits, same_from_bits_below}
use Rattle.std.specs.Int.{bit_at}
use Rattle.sim_base.specs.BitValue.{number_of_words, digit_after_set, AreWords}
use Rattle.sim_base.proofs.Words.{bit_words, written_words, written_below}
use Rattle.dirty_set.specs.Tree.{IsTree, IsSummed, some_digit}
use Rattle.dirty_set.proofs.Summed.{none_is, none_from}

pub drop_leaf : (words : List ℕ) (first place word : ℕ) → first ≤ place → drop first (set words place word) ≡ set (drop first words) (place - first) word
drop_leaf words first place word le =
    let e : place ≡ first + (place - first) = omega arith in
    ap (λ i. drop first (set words i word)) e ∙ drop-set-add first words (place - first) word

-- what is known of the items of a list is known past its end too
pub fit_items : (words : List ℕ) → ((k d : ℕ) → k < length words → get_or words k d < 2 ^ 64) → AreWords words
fit_items words h k = elim (cases_lt k (length words)) [
  | inl lt ↦ h k 0 lt
  | inr ge ↦ (let e : get_or words k 0 ≡ 0 = get_or_past words k 0 ge in omega (arith, e))
]

module _ (size first depth : ℕ) (words : List ℕ) (tree : IsTree size first depth words) where
  fit_leaves : AreWords (drop first words)
  fit_leaves k = subst (λ x. x < 2 ^ 64) (sym (get_or-drop first words k 0)) (tree.fit (first + k))

  pub leaf_bit : (i : ℕ) → bit_at (number_of_words (drop first words)) i ≡ bit_at (get_or words (first + i / 64) 0) (i % 64)
  leaf_bit i = bit_words (drop first words) i fit_leaves ∙ ap (λ x. bit_at x (i % 64)) (get_or-drop first words (i / 64) 0)

  pub leaf_inside : (i : ℕ) → i < size → first + i / 64 < length words
  leaf_inside i lt = let r = tree.room in omega (arith, r, lt)

  pub root_inside : 0 < length words
  root_inside = let r = tree.room in omega (arith, r)

  -- below a root that is 0 each word is 0
  none_below : get_or words 0 0 ≡ 0 → (fuel q : ℕ) → q ≤ fuel → get_or words q 0 ≡ 0
  none_below root zero q le = let e : q ≡ 0 = omega arith in ap (λ i. get_or words i 0) e ∙ root
  none_below root (suc fuel) q le = elim (cases_eq q 0) [
    | inl e ↦ ap (λ i. get_or words i 0) e ∙ root
    | inr ne ↦ (elim (cases_lt ((q - 1) / 64) first) [
      | inl lt ↦
          (let e : 64 * ((q - 1) / 64) + 1 + (q - 1) % 64 ≡ q = omega (arith, ne) in
          none_from (get_or words q 0)
          (ap (λ i. some_digit (get_or words i 0)) (sym e) ∙ sym (tree.summed ((q - 1) / 64) ((q - 1) % 64) lt (omega arith) (omega arith))
          ∙ ap (λ x. bit_at x ((q - 1) % 64)) (none_below root fuel ((q - 1) / 64) (omega (arith, ne, le))) ∙ bit_at-zero ((q - 1) % 64)))
      | inr ge ↦ (let j = tree.joined in get_or_past words q 0 (omega (arith, j, ge, ne)))
    ])
  ]

  pub none_marked : get_or words 0 0 ≡ 0 → number_of_words (drop first words) ≡ 0
  none_marked root =
      same_from_bits (number_of_words (drop first words)) 0
      (λ i. leaf_bit i ∙ ap (λ x. bit_at x (i % 64)) (none_below root (first + i / 64) (first + i / 64) (omega arith)) ∙ bit_at-zero (i % 64) ∙ sym (bit_at-zero i))

  -- above leaves that are 0 each word is 0
  leaf_none : number_of_words (drop first words) ≡ 0 → (q : ℕ) → first ≤ q → get_or words q 0 ≡ 0
  leaf_none none q le =
      same_from_bits_below 64 (get_or words q 0) 0 (tree.fit q) (pow_pos 64)
      (λ j lt.
      let d : first + ((q - first) * 64 + j) / 64 ≡ q = omega arith in
      let m : ((q - first) * 64 + j) % 64 ≡ j = omega arith in
      sym (leaf_bit ((q - first) * 64 + j) ∙ ap (λ i. bit_at (get_or words i 0) (((q - first) * 64 + j) % 64)) d ∙ ap (bit_at (get_or words q 0)) m)
      ∙ ap (λ n. bit_at n ((q - first) * 64 + j)) none ∙ bit_at-zero ((q - first) * 64 + j) ∙ sym (bit_at-zero j))

  none_above : number_of_words (drop first words) ≡ 0 → (fuel p : ℕ) → first ≤ p + fuel → get_or words p 0 ≡ 0
  none_above none zero p le = leaf_none none p (omega arith)
  none_above none (suc fuel) p le = elim (cases_lt p first) [
    | inl lt ↦
        same_from_bits_below 64 (get_or words p 0) 0 (tree.fit p) (pow_pos 64)
        (λ j low.
        tree.summed p j lt low (omega arith)
        ∙ none_is (get_or words (64 * p + 1 + j) 0) (none_above none fuel (64 * p + 1 + j) (omega (arith, le)))
        ∙ sym (bit_at-zero j))
    | inr ge ↦ leaf_none none p ge
  ]

  pub root_none : number_of_words (drop first words) ≡ 0 → get_or words 0 0 ≡ 0
  root_none none = none_above none first 0 (omega arith)

  -- one leaf has another digit
  module _ (after : List ℕ) (i v w : ℕ) (room : length after ≡ length words) (summed : IsSummed first after) (fit : AreWords after) (leaves : drop first after ≡ set (drop first words) (i / 64) w) (lt : i < size) (fits : w < 2 ^ 64) (one : (j : ℕ) → j < 64 → bit_at w j ≡ digit_after_set (i % 64) v (get_or words (first + i / 64) 0) j) where
    pub leaf_digits : (j : ℕ) → bit_at (number_of_words (drop first after)) j ≡ digit_after_set i v (number_of_words (drop first words)) j
    leaf_digits j =
        ap (λ (l : List ℕ). bit_at (number_of_words l) j) leaves
        ∙ written_words (drop first words) i v w fit_leaves fits
        (let r = tree.room in let d = length-drop first words in omega (arith, r, d, lt))
        (λ h low. one h low ∙ ap (λ x. digit_after_set (i % 64) v x h) (sym (get_or-drop first words (i / 64) 0))) j

    pub leaf_written : IsTree size first depth after
    leaf_written = record {
      leaves = tree.leaves;
      few = tree.few;
      room = room ∙ tree.room;
      joined = let j = tree.joined in omega (arith, j, room);
      fit = fit;
      summed = summed;
      below = written_below size i v (number_of_words (drop first words)) (number_of_words (drop first after)) lt tree.below leaf_digits;
    }

  -- the lowest digit of the first leaf that is not 0
  module _ (place t : ℕ) (from : first ≤ place) (least : (q : ℕ) → first ≤ q → q < place → get_or words q 0 ≡ 0) (low : t < 64) (set' : bit_at (get_or words place 0) t ≡ 1) (clear : (j : ℕ) → j < t → bit_at (get_or words place 0) j ≡ 0) where
    pub taken_word : first + ((place - first) * 64 + t) / 64 ≡ place
    taken_word = omega (arith, from, low)

    pub taken_digit : ((place - first) * 64 + t) % 64 ≡ t
    taken_digit = omega (arith, low)

    pub taken_marked : bit_at (number_of_words (drop first words)) ((place - first) * 64 + t) ≡ 1
    taken_marked =
        leaf_bit ((place - first) * 64 + t) ∙ ap (λ i. bit_at (get_or words i 0) (((place - first) * 64 + t) % 64)) taken_word
        ∙ ap (bit_at (get_or words place 0)) taken_digit ∙ set'

    pub taken_within : (place - first) * 64 + t < size
    taken_within = elim (cases_lt ((place - first) * 64 + t) size) [
      | inl lt ↦ lt
      | inr ge ↦
          (let z : bit_at (number_of_words (drop first words)) ((place - first) * 64 + t) ≡ 0 = bit_at_above (number_of_words (drop first words)) size ((place - first) * 64 + t) tree.below ge in
          let o = taken_marked in absurd (omega (arith, z, o)))
    ]

    none_before : (j : ℕ) → j < (place - first) * 64 + t → bit_at (number_of_words (drop first words)) j ≡ 0
    none_before j lt = leaf_bit j ∙ elim (cases_lt (first + j / 64) place) [
      | inl a ↦ ap (λ x. bit_at x (j % 64)) (least (first + j / 64) (omega arith) a) ∙ bit_at-zero (j % 64)
      | inr b ↦
          (let e : first + j / 64 ≡ place = omega (arith, lt, low, b, from) in
          ap (λ i. bit_at (get_or words i 0) (j % 64)) e ∙ clear (j % 64) (omega (arith, lt, low, e, from)))
    ]

    pub taken_least : (j : ℕ) → bit_at (number_of_words (drop first words)) j ≡ 1 → (place - first) * 64 + t ≤ j
    taken_least j is = elim (cases_lt j ((place - first) * 64 + t)) [
      | inl lt ↦ (let z = none_before j lt in absurd (omega (arith, z, is)))
      | inr ge ↦ ge
    ]

pub root_is_zero : (size first depth : ℕ) (words : List ℕ) → IsTree size first depth words → (get_or words 0 0 == 0) ≡ (number_of_words (drop first words) == 0)
root_is_zero size first depth words tree = elim (eqb_tells (get_or words 0 0) 0) [
  | inl t ↦ t.0 ∙ sym (eq-eqb (number_of_words (drop first words)) 0 (none_marked size first depth words tree t.1))
  | inr f ↦ f.0 ∙ sym (ne_eqb (number_of_words (drop first words)) 0 (λ e. f.1 (root_none size first depth words tree e)))
]
