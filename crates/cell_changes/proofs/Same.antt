-- Signals with the same number have the same bits.
use Rattle.std.proofs.Common.{◌≡◌, ◌≢◌, ℕ, ◌+◌, ◌-◌, ◌*◌, ◌/◌, ◌%◌, ◌^◌, ◌<◌, ◌≤◌, List, [], ◌∷◌, sym, ◌∙◌, ap, subst, arith, inl, inr, true, false, not, ◌&&◌}
use Rattle.std.specs.Prelude.{◌==◌}
use Rattle.std.specs.Int.{bit_at}
use Rattle.std.proofs.Math.Nat.{mod-add-div'}
use Rattle.std.proofs.lemmas.Bool.{and_parts, cases_lt, eq-eqb, not-false}
use Rattle.std.proofs.lemmas.Bool.Decides.{nat_tests}
use Rattle.std.proofs.lemmas.Nat.{pow_pos, same_from_place, shr_below}
use Rattle.std.proofs.Math.Pow.{pow_mono}
use Rattle.sim_base.specs.BitValue.{bit_value}
use Rattle.circuit.specs.Output.{CellInputs, ReadsBit, formula, modulo, output}
use Rattle.circuit.specs.Signal.{AreBits, Digits, Reads, gathered, sig_number, sig_width}
use Rattle.circuit.specs.declared.cell.Cell.{Cell}
use Rattle.circuit.specs.declared.netlist.Piece.{Piece}
use Rattle.circuit.specs.declared.netlist.Piece.TheVariants as piece
use Rattle.circuit.proofs.Gathered.{gathered_below, gathered_bit}
use Rattle.circuit.proofs.Same.{sig_same}
use Rattle.signal_words.proofs.Told.{eq_from}
use Rattle.cell_changes.specs.Changes.{has_changed, is_same}

-- ---- words that are compared, from the least on

-- what is left of two numbers is the same exactly where these are, and has so many bits at most
pub record AreCompared (m n left x y : ℕ) : Type 0 where
  pub below : x < 2 ^ left
  pub other : y < 2 ^ left
  pub told : (m == n) ≡ (x == y)

module _ (m n left x y : ℕ) (are : AreCompared m n left x y) where
  low_differs : x % 2 ^ 64 ≢ y % 2 ^ 64 → x ≢ y
  low_differs ne e = ne (ap (λ k. k % 2 ^ 64) e)

  pub word_differs : x % 2 ^ 64 ≢ y % 2 ^ 64 → false ≡ (m == n)
  word_differs ne = apart (low_differs ne) ∙ sym are.told
    where
      apart : x ≢ y → false ≡ (x == y)
      apart h = grind (arith, nat_tests)

  less : (v : ℕ) → v < 2 ^ left → v / 2 ^ 64 < 2 ^ (left - 64)
  less v lt = elim (cases_lt left 64) [
    | inl small ↦
        (let z : left - 64 ≡ 0 = omega (arith, small) in
        let le : 2 ^ left ≤ 2 ^ 64 = pow_mono (let l : left ≤ 64 = omega (arith, small) in l) in
        let w : v < 2 ^ (0 + 64) = omega (arith, lt, le) in
        rw z (shr_below v 0 64 w))
    | inr large ↦
        (let e : left ≡ left - 64 + 64 = omega (arith, large) in
        shr_below v (left - 64) 64 (subst (λ (k : ℕ). v < 2 ^ k) e lt))
  ]

  high_same : x % 2 ^ 64 ≡ y % 2 ^ 64 → (x == y) ≡ (x / 2 ^ 64 == y / 2 ^ 64)
  high_same e = both (x / 2 ^ 64) (y / 2 ^ 64)
      (λ h. sym (mod-add-div' x (2 ^ 64)) ∙ ap (λ r. r + x / 2 ^ 64 * 2 ^ 64) e ∙ ap (λ q. y % 2 ^ 64 + q * 2 ^ 64) h ∙ mod-add-div' y (2 ^ 64))
      (ap (λ k. k / 2 ^ 64))
    where
      both : (a b : ℕ) → (a ≡ b → x ≡ y) → (x ≡ y → a ≡ b) → (x == y) ≡ (a == b)
      both a b to from = grind (arith, nat_tests)

  pub word_more : x % 2 ^ 64 ≡ y % 2 ^ 64 → AreCompared m n (left - 64) (x / 2 ^ 64) (y / 2 ^ 64)
  word_more e = record {
    below = less x are.below;
    other = less y are.other;
    told = are.told ∙ high_same e;
  }

  pub all_compared : left ≡ 0 → true ≡ (m == n)
  all_compared e =
      let a : x < 2 ^ 0 = subst (λ (k : ℕ). x < 2 ^ k) e are.below in
      let b : y < 2 ^ 0 = subst (λ (k : ℕ). y < 2 ^ k) e are.other in
      let same : x ≡ y = omega (arith, a, b) in
      sym (eq-eqb x y same) ∙ sym are.told

-- ---- the bits of a signal

pub bits_same : (ps : List Piece) (d e : Digits) → AreBits d → AreBits e → sig_number d ps ≡ sig_number e ps → (net bit : ℕ) → Reads ps net bit → d net bit ≡ e net bit
unfolding sig_number Reads
bits_same [] d e db eb same net bit r = absurd r
bits_same (piece.Const v ∷ ps) d e db eb same net bit r =
    let k : sig_number d ps * 2 ^ v.width + 0 ≡ sig_number e ps * 2 ^ v.width + 0 = omega (arith, same) in
    let pos : 0 < 2 ^ v.width = pow_pos v.width in
    bits_same ps d e db eb (same_from_place (sig_number d ps) 0 (sig_number e ps) 0 (2 ^ v.width) pos pos k).0 net bit r
bits_same (piece.Part n at w ∷ ps) d e db eb same net bit r =
    let old : ℕ → ℕ = λ j. d n (at + j) in
    let new : ℕ → ℕ = λ j. e n (at + j) in
    let a = gathered_below w old (λ j. db n (at + j)) in
    let b = gathered_below w new (λ j. eb n (at + j)) in
    let h = same_from_place (sig_number d ps) (gathered old w) (sig_number e ps) (gathered new w) (2 ^ w) a b same in
    elim r [
      | inl here ↦
          (let i : at + (bit - at) ≡ bit = omega (arith, here.1) in
          let lt : bit - at < w = omega (arith, here.1, here.2) in
          ap (λ k. d k bit) (sym here.0) ∙ ap (d n) (sym i)
          ∙ sym (gathered_bit w old (λ j. db n (at + j)) (bit - at) lt) ∙ ap (λ k. bit_at k (bit - at)) h.1
          ∙ gathered_bit w new (λ j. eb n (at + j)) (bit - at) lt
          ∙ ap (e n) i ∙ ap (λ k. e k bit) here.0)
      | inr there ↦ bits_same ps d e db eb h.0 net bit there
    ]

-- ---- a cell

-- the numbers of the three signals are the same
parts_same : (before now : Digits) (c : Cell) → has_changed before now c ≡ false → (sig_number before c.a ≡ sig_number now c.a) × (sig_number before c.b ≡ sig_number now c.b) × (sig_number before c.s ≡ sig_number now c.s)
parts_same before now c e =
    let h = and_parts (is_same before now c.a) (is_same before now c.b && is_same before now c.s) (not-false (is_same before now c.a && (is_same before now c.b && is_same before now c.s)) e) in
    let t = and_parts (is_same before now c.b) (is_same before now c.s) h.1 in
    (eq_from _ _ h.0, eq_from _ _ t.0, eq_from _ _ t.1)

pub bits_stay : (c : Cell) (before now : Digits) → AreBits before → AreBits now → has_changed before now c ≡ false → (net bit : ℕ) → ReadsBit c net bit → before net bit ≡ now net bit
bits_stay c before now old new e net bit r =
    let h = parts_same before now c e in
    elim r [
      | inl a ↦ bits_same c.a before now old new h.0 net bit a
      | inr other ↦ elim other [
        | inl b ↦ bits_same c.b before now old new h.1 net bit b
        | inr s ↦ bits_same c.s before now old new h.2 net bit s
      ]
    ]

pub stays : (c : Cell) (before now : Digits) → ((net bit : ℕ) → ReadsBit c net bit → before net bit ≡ now net bit) → has_changed before now c ≡ false
stays c before now h =
    let a = eq-eqb (sig_number before c.a) (sig_number now c.a) (sig_same c.a before now (λ net bit r. h net bit (inl r))) in
    let b = eq-eqb (sig_number before c.b) (sig_number now c.b) (sig_same c.b before now (λ net bit r. h net bit (inr (inl r)))) in
    let s = eq-eqb (sig_number before c.s) (sig_number now c.s) (sig_same c.s before now (λ net bit r. h net bit (inr (inr r)))) in
    ap (λ x. not (x && (is_same before now c.b && is_same before now c.s))) a ∙ ap (λ x. not (x && is_same before now c.s)) b ∙ ap not s

-- what a cell gives where its signals have these numbers
abbrev given : Cell → ℕ → ℕ → ℕ → ℕ
given c a b s =
    let inputs : CellInputs = record {
      width = c.width;
      offset = c.offset;
      a_signed = c.a_signed;
      b_signed = c.b_signed;
      a = bit_value (sig_width c.a) a;
      b = bit_value (sig_width c.b) b;
      s = bit_value (sig_width c.s) s;
    } in modulo c.width (formula c.op inputs)

pub output_stays : (c : Cell) (before now : Digits) → has_changed before now c ≡ false → output before c ≡ output now c
output_stays c before now e =
    let h = parts_same before now c e in
    ap (λ n. given c n (sig_number before c.b) (sig_number before c.s)) h.0
    ∙ ap (λ n. given c (sig_number now c.a) n (sig_number before c.s)) h.1
    ∙ ap (λ n. given c (sig_number now c.a) (sig_number now c.b) n) h.2
