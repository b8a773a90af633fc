-- Which of several bits and ports is taken.
use Rattle.std.proofs.Common.{◌≡◌, ℕ, zero, suc, ◌+◌, ◌^◌, ◌<◌, ◌≤◌, ◌⊎◌, cond, List, [], ◌∷◌, refl, sym, ◌∙◌, ap, subst, arith, inl, inr, Bool, true, false, not, ◌&&◌, ◌||◌, ◌==◌, Option, Some, None}
use Rattle.std.specs.Prelude.{slice_get}
use Rattle.std.specs.Int.{bit_at}
use Rattle.std.proofs.lemmas.Bool.{and_from, and_parts, cases_Bool, cases_lt, cond-true, cond-false, eqb-true, eq-eqb}
use Rattle.std.proofs.lemmas.Nat.{pow_pos}
use Rattle.std.proofs.lemmas.Nat.Bits.{bit_at-lt, bit_at-zero, same_from_bits_below}
use Rattle.std.proofs.lemmas.Option.{none-some}
use Rattle.sim_base.specs.BitValue.{BitValue}
use Rattle.circuit.specs.Signal.{Digits, sig_number}
use Rattle.circuit.specs.Output.{is_zero, lowest, lowest_from}
use Rattle.circuit.specs.Next.{highest_write, is_active_at, or_else, writes_at}
use Rattle.circuit.specs.Shown.{some_edge}
use Rattle.circuit.specs.Choices.{HasEdgeAt, IsHighestWrite, IsMarked}
use Rattle.circuit.specs.declared.netlist.Piece.{Piece}
use Rattle.circuit.specs.declared.memory.WritePort.{WritePort}

-- ---- the lowest bit that is 1

record IsSearched (bits i n l : ℕ) : Type 0 where
  from : i ≤ l
  below : (j : ℕ) → i ≤ j → j < l → bit_at n j ≡ 0
  end : (l ≡ i + bits) ⊎ ((l < i + bits) × (bit_at n l ≡ 1))

digit_off : (d : ℕ) → d < 2 → d == 1 ≡ false → d ≡ 0
digit_off d lt off = elim (cases_lt d 1) [
  | inl a ↦ omega (arith, a)
  | inr b ↦ (let one : d ≡ 1 = omega (arith, b, lt) in absurd (let z : true ≡ false = sym (eq-eqb d 1 one) ∙ off in cc z))
]

one_more : (bits i n l : ℕ) → IsSearched bits (suc i) n l → bit_at n i ≡ 0 → IsSearched (suc bits) i n l
one_more bits i n l s here = record {
  from = (let f = s.from in omega (arith, f));
  below = λ j a b. elim (cases_lt i j) [
    | inl c ↦ s.below j (omega (arith, c)) b
    | inr c ↦ (let same : j ≡ i = omega (arith, a, c) in ap (bit_at n) same ∙ here)
  ];
  end = elim s.end [ inl e ↦ inl (omega (arith, e)) | inr e ↦ inr (omega (arith, e.0), e.1) ];
}

searched : (bits i n : ℕ) → IsSearched bits i n (lowest_from bits i n)
unfolding lowest_from
searched zero i n = record { from = omega arith; below = λ j a b. absurd (omega (arith, a, b)); end = inl (omega arith) }
searched (suc bits) i n = elim (cases_Bool (bit_at n i == 1)) [
  | inl on ↦
      subst (λ (l : ℕ). IsSearched (suc bits) i n l) (sym (cond-true (bit_at n i == 1) i (lowest_from bits (suc i) n) on))
      (record { from = omega arith; below = λ j a b. absurd (omega (arith, a, b)); end = inr (omega arith, eqb-true (bit_at n i) 1 on) })
  | inr off ↦
      subst (λ (l : ℕ). IsSearched (suc bits) i n l) (sym (cond-false (bit_at n i == 1) i (lowest_from bits (suc i) n) off))
      (one_more bits i n (lowest_from bits (suc i) n) (searched bits (suc i) n) (digit_off (bit_at n i) (bit_at-lt n i) off))
]

no_bits : (width n : ℕ) → n < 2 ^ width → ((j : ℕ) → j < width → bit_at n j ≡ 0) → n ≡ 0
no_bits width n lt none = same_from_bits_below width n 0 lt (pow_pos width) (λ j b. none j b ∙ sym (bit_at-zero j))

pub lowest_is : (s : BitValue) → s.number < 2 ^ s.width → is_zero s ≡ false → (lowest s < s.width) × (bit_at s.number (lowest s) ≡ 1) × ((j : ℕ) → j < lowest s → bit_at s.number j ≡ 0)
lowest_is s lt some = ended (searched s.width 0 s.number)
  where
    ended : IsSearched s.width 0 s.number (lowest s) → (lowest s < s.width) × (bit_at s.number (lowest s) ≡ 1) × ((j : ℕ) → j < lowest s → bit_at s.number j ≡ 0)
    ended t = elim t.end [
      | inl e ↦
          (let none : s.number ≡ 0 = no_bits s.width s.number lt (λ j b. t.below j (omega arith) (omega (arith, e, b))) in
          absurd (let z : true ≡ false = sym (eq-eqb s.number 0 none) ∙ some in cc z))
      | inr e ↦ ((let a = e.0 in omega (arith, a)), e.1, λ j b. t.below j (omega arith) b)
    ]

-- ---- an edge

is_edge : Digits → Digits → List Piece → ℕ → Bool → Bool
is_edge before now on i r = not (is_active_at r before on i) && is_active_at r now on i

edge_parts : (a b : Bool) → (not a && b) ≡ true → (a ≡ false) × (b ≡ true)
edge_parts false b h = (refl, h)
edge_parts true b h = absurd (let z : false ≡ true = h in cc z)

edge_from : (a b : Bool) → a ≡ false → b ≡ true → (not a && b) ≡ true
edge_from false b e h = h
edge_from true b e h = absurd (let z : true ≡ false = e in cc z)

edge_found_from : (before now : Digits) (on : List Piece) (k : ℕ) (rising : List Bool) → some_edge before now on k rising ≡ true
    → (i : ℕ) × (r : Bool) × (slice_get rising i ≡ Some r) × (is_active_at r before on (k + i) ≡ false) × (is_active_at r now on (k + i) ≡ true)
unfolding some_edge
edge_found_from before now on k [] h = absurd (let z : false ≡ true = h in cc z)
edge_found_from before now on k (r ∷ rs) h = elim (cases_Bool (not (is_active_at r before on k) && is_active_at r now on k)) [
  | inl here ↦
      (let e = edge_parts (is_active_at r before on k) (is_active_at r now on k) here in
      let place : k ≡ k + 0 = omega arith in
      (0, r, refl, subst (λ (i : ℕ). is_active_at r before on i ≡ false) place e.0, subst (λ (i : ℕ). is_active_at r now on i ≡ true) place e.1))
  | inr no_edge ↦
      (let rest : some_edge before now on (suc k) rs ≡ true = sym (ap (λ (b : Bool). b || some_edge before now on (suc k) rs) no_edge) ∙ h in
      let t = edge_found_from before now on (suc k) rs rest in
      let place : suc k + t.0 ≡ k + suc t.0 = omega arith in
      (suc t.0, t.1, t.2, subst (λ (i : ℕ). is_active_at t.1 before on i ≡ false) place t.3, subst (λ (i : ℕ). is_active_at t.1 now on i ≡ true) place t.4))
]

pub edge_found : (before now : Digits) (on : List Piece) (rising : List Bool) → some_edge before now on 0 rising ≡ true → (i : ℕ) × HasEdgeAt before now on rising i
edge_found before now on rising h =
    let t = edge_found_from before now on 0 rising h in
    let place : 0 + t.0 ≡ t.0 = omega arith in
    (t.0, (t.1, t.2, subst (λ (i : ℕ). is_active_at t.1 before on i ≡ false) place t.3, subst (λ (i : ℕ). is_active_at t.1 now on i ≡ true) place t.4))

or_second : (a b : Bool) → b ≡ true → (a || b) ≡ true
or_second true b h = refl
or_second false b h = h

edge_given_from : (before now : Digits) (on : List Piece) (k : ℕ) (rising : List Bool) (i : ℕ) (r : Bool) → slice_get rising i ≡ Some r → is_active_at r before on (k + i) ≡ false → is_active_at r now on (k + i) ≡ true
    → some_edge before now on k rising ≡ true
unfolding some_edge
edge_given_from before now on k [] i r e a b = cc e
edge_given_from before now on k (x ∷ xs) zero r e a b =
    let same : x ≡ r = let g : Some x ≡ Some r = e in cc g in
    let place : k + 0 ≡ k = omega arith in
    let here : (not (is_active_at r before on k) && is_active_at r now on k) ≡ true =
    edge_from (is_active_at r before on k) (is_active_at r now on k) (subst (λ (j : ℕ). is_active_at r before on j ≡ false) place a) (subst (λ (j : ℕ). is_active_at r now on j ≡ true) place b) in
    ap (λ (t : Bool). t || some_edge before now on (suc k) xs) (ap (λ (y : Bool). not (is_active_at y before on k) && is_active_at y now on k) same ∙ here)
edge_given_from before now on k (x ∷ xs) (suc i) r e a b =
    let place : k + suc i ≡ suc k + i = omega arith in
    or_second (not (is_active_at x before on k) && is_active_at x now on k) (some_edge before now on (suc k) xs)
    (edge_given_from before now on (suc k) xs i r e (subst (λ (j : ℕ). is_active_at r before on j ≡ false) place a) (subst (λ (j : ℕ). is_active_at r now on j ≡ true) place b))

pub edge_given : (before now : Digits) (on : List Piece) (rising : List Bool) (i : ℕ) → HasEdgeAt before now on rising i → some_edge before now on 0 rising ≡ true
edge_given before now on rising i h =
    let place : i ≡ 0 + i = omega arith in
    edge_given_from before now on 0 rising i h.0 h.1 (subst (λ (j : ℕ). is_active_at h.0 before on j ≡ false) place h.2) (subst (λ (j : ℕ). is_active_at h.0 now on j ≡ true) place h.3)

-- ---- the highest port that writes

module _ (before now : Digits) (address i : ℕ) where
  abbrev written_by : WritePort → ℕ
  written_by p = bit_at (sig_number now p.word) i

  abbrev own : Bool → WritePort → Option ℕ
  own mark p = cond (mark && writes_at before now address i p) (Some (written_by p)) None

  -- what no marked port writes is not written
  abbrev NoneWrites : List Bool → List WritePort → Type 0
  NoneWrites marks ports = (k : ℕ) (q : WritePort) → slice_get ports k ≡ Some q → IsMarked marks k → writes_at before now address i q ≡ false

  or_none : (o : Option ℕ) → o ≡ None → or_else None o ≡ None
  or_none o e = e

  not_own : (mark : Bool) (p : WritePort) → (mark ≡ true → writes_at before now address i p ≡ false) → own mark p ≡ None
  not_own true p h = cond-false (writes_at before now address i p) (Some (written_by p)) None (h refl)
  not_own false p h = refl

  pub none_written : (marks : List Bool) (ports : List WritePort) → NoneWrites marks ports → highest_write before now address i marks ports ≡ None
  unfolding highest_write
  none_written marks [] h = refl
  none_written [] (p ∷ ps) h = refl
  none_written (mark ∷ marks) (p ∷ ps) h =
      ap (λ (o : Option ℕ). or_else o (own mark p)) (none_written marks ps (λ k q e m. h (suc k) q e m))
      ∙ not_own mark p (λ on. h 0 p refl (ap Some on))

  or_else_none : (o other : Option ℕ) → or_else o other ≡ None → (o ≡ None) × (other ≡ None)
  or_else_none None other e = (refl, e)
  or_else_none (Some n) other e = absurd (none-some n (sym e))

  own_none : (mark : Bool) (p : WritePort) → own mark p ≡ None → mark ≡ true → writes_at before now address i p ≡ false
  own_none mark p e on = elim (cases_Bool (writes_at before now address i p)) [
    | inl w ↦ absurd (none-some (written_by p) (sym e ∙ cond-true (mark && writes_at before now address i p) (Some (written_by p)) None (and_from mark (writes_at before now address i p) on w)))
    | inr w ↦ w
  ]

  pub writes_none : (marks : List Bool) (ports : List WritePort) → highest_write before now address i marks ports ≡ None → NoneWrites marks ports
  unfolding highest_write
  writes_none marks [] h k q e m = cc e
  writes_none [] (p ∷ ps) h k q e m = cc m
  writes_none (mark ∷ marks) (p ∷ ps) h zero q e m =
      let same : p ≡ q = let g : Some p ≡ Some q = e in cc g in
      let on : mark ≡ true = let g : Some mark ≡ Some true = m in cc g in
      ap (writes_at before now address i) (sym same) ∙ own_none mark p (or_else_none (highest_write before now address i marks ps) (own mark p) h).1 on
  writes_none (mark ∷ marks) (p ∷ ps) h (suc k) q e m = writes_none marks ps (or_else_none (highest_write before now address i marks ps) (own mark p) h).0 k q e m

  abbrev IsHighest : List Bool → List WritePort → ℕ → WritePort → Type 0
  IsHighest marks ports n p = IsHighestWrite before now address i marks ports n p

  pub highest_is : (marks : List Bool) (ports : List WritePort) (n : ℕ) (p : WritePort) → IsHighest marks ports n p → highest_write before now address i marks ports ≡ Some (written_by p)
  unfolding highest_write
  highest_is marks [] n p h = let e = h.at in cc e
  highest_is [] (q ∷ qs) n p h = let m = h.marked in cc m
  highest_is (mark ∷ marks) (q ∷ qs) zero p h =
      let same : q ≡ p = let g : Some q ≡ Some p = h.at in cc g in
      let on : mark ≡ true = let g : Some mark ≡ Some true = h.marked in cc g in
      ap (λ (o : Option ℕ). or_else o (own mark q)) (none_written marks qs (λ k x e m. h.above (suc k) x (omega arith) e m))
      ∙ ap (own mark) same
      ∙ cond-true (mark && writes_at before now address i p) (Some (written_by p)) None (and_from mark (writes_at before now address i p) on h.writes)
  highest_is (mark ∷ marks) (q ∷ qs) (suc n) p h =
      ap (λ (o : Option ℕ). or_else o (own mark q))
      (highest_is marks qs n p (record { at = h.at; marked = h.marked; writes = h.writes; above = λ k x lt e m. h.above (suc k) x (omega (arith, lt)) e m }))

  abbrev Found : List Bool → List WritePort → ℕ → Type 0
  Found marks ports d = (n : ℕ) × (p : WritePort) × IsHighest marks ports n p × (d ≡ written_by p)

  later_found : (mark : Bool) (marks : List Bool) (q : WritePort) (qs : List WritePort) (d : ℕ) → Found marks qs d → Found (mark ∷ marks) (q ∷ qs) d
  later_found mark marks q qs d f =
      let h = f.2 in
      (suc f.0, f.1, record { at = h.at; marked = h.marked; writes = h.writes; above = λ k x lt e m. higher k x lt e m }, f.3)
    where
      higher : (k : ℕ) (x : WritePort) → suc f.0 < k → slice_get (q ∷ qs) k ≡ Some x → IsMarked (mark ∷ marks) k → writes_at before now address i x ≡ false
      higher zero x lt e m = absurd (omega (arith, lt))
      higher (suc k) x lt e m = f.2.above k x (omega (arith, lt)) e m

  own_found : (mark : Bool) (marks : List Bool) (q : WritePort) (qs : List WritePort) (d : ℕ) → highest_write before now address i marks qs ≡ None → own mark q ≡ Some d → Found (mark ∷ marks) (q ∷ qs) d
  own_found mark marks q qs d none e = elim (cases_Bool (mark && writes_at before now address i q)) [
    | inl on ↦
        (let t = and_parts mark (writes_at before now address i q) on in
        let digit : Some (written_by q) ≡ Some d = sym (cond-true (mark && writes_at before now address i q) (Some (written_by q)) None on) ∙ e in
        (0, q, record { at = refl; marked = ap Some t.0; writes = t.1; above = λ k x lt f m. higher k x lt f m }, let z : d ≡ written_by q = cc digit in z))
    | inr off ↦ absurd (none-some d (sym (cond-false (mark && writes_at before now address i q) (Some (written_by q)) None off) ∙ e))
  ]
    where
      higher : (k : ℕ) (x : WritePort) → 0 < k → slice_get (q ∷ qs) k ≡ Some x → IsMarked (mark ∷ marks) k → writes_at before now address i x ≡ false
      higher zero x lt f m = absurd (omega (arith, lt))
      higher (suc k) x lt f m = writes_none marks qs none k x f m

  pub is_highest : (marks : List Bool) (ports : List WritePort) (d : ℕ) → highest_write before now address i marks ports ≡ Some d → Found marks ports d
  unfolding highest_write
  is_highest marks [] d h = absurd (none-some d h)
  is_highest [] (q ∷ qs) d h = absurd (none-some d h)
  is_highest (mark ∷ marks) (q ∷ qs) d h = by (highest_write before now address i marks qs) refl (is_highest marks qs)
    where
      by : (o : Option ℕ) → highest_write before now address i marks qs ≡ o → ((e : ℕ) → highest_write before now address i marks qs ≡ Some e → Found marks qs e) → Found (mark ∷ marks) (q ∷ qs) d
      by None e found = own_found mark marks q qs d e (sym (ap (λ (o : Option ℕ). or_else o (own mark q)) e) ∙ h)
      by (Some n) e found =
          let same : Some n ≡ Some d = sym (ap (λ (o : Option ℕ). or_else o (own mark q)) e) ∙ h in
          later_found mark marks q qs d (found d (e ∙ same))
