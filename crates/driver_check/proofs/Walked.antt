-- A step of a walk along stuck bits.
use Rattle.std.proofs.Common.{◌≡◌, ℕ, suc, ◌+◌, ◌<◌, ◌≤◌, List, [], ◌∷◌, ◌++◌, length, set, sym, ◌∙◌, ap, subst, arith, inl, inr, Some, true, length-append, length-set, get_or-set_same, get_or-set_other}
use Rattle.std.specs.Prelude.{slice_get, slice_index}
use Rattle.std.proofs.lemmas.Bool.{cases_eq}
use Rattle.circuit.specs.Valid.{is_valid}
use Rattle.circuit.specs.declared.netlist.Circuit.{Circuit}
use Rattle.driver_check.specs.Depends.{Bit}
use Rattle.driver_check.specs.Faults.{IsFirstStuck, IsNext, IsWalk}
use Rattle.driver_check.specs.Numbers.{IsBit, bit_number}
use Rattle.driver_check.specs.Search.{Has}
use Rattle.driver_check.specs.Invariants.{IsFirstMarked, IsWalking, nowhere}
use Rattle.driver_check.specs.Sorting.{IsSorting}
use Rattle.driver_check.specs.declared.search.Mark.TheVariants as mark
use Rattle.driver_check.specs.declared.sorting.Sorting.{Sorting}
use Rattle.driver_check.proofs.Places.{kept, last, pushed, within}
use Rattle.driver_check.proofs.Few.{few}
use Rattle.driver_check.proofs.Numbered.{bit_below}
use Rattle.driver_check.proofs.Nexts.{first_is}

-- the walk has come to no bit yet
pub starting : (c : Circuit) (s : Sorting) (seen : List ℕ) (v : ℕ) → length seen ≡ s.numbering.bits → v < s.numbering.bits → Has s.search.marks.items mark.Stuck v → ((u : ℕ) → u < s.numbering.bits → slice_index seen u ≡ nowhere) → IsFirstMarked s v → IsWalking c s [] seen v
starting c s seen v long lt stuck none first = record {
  long = long;
  inside = lt;
  here = stuck;
  at = λ k x e. cc e;
  back = λ u less seen_at. absurd (let h : slice_index seen u < 0 = seen_at in omega (arith, h));
  either = λ u less. inr (none u less);
  start = λ x e. cc e;
  unmoved = λ e. first;
  turn = λ k x y p q. cc p;
  last = λ k x y e p b at. cc p;
}

module _ (c : Circuit) (valid : is_valid c ≡ true) (s : Sorting) (is : IsSorting c s) (walk : List Bit) (seen : List ℕ) (v : ℕ) (was : IsWalking c s walk seen v) where
  -- the walk goes on
  pub walked : length walk ≤ slice_index seen v → length walk < nowhere → (x : Bit) → IsBit c.nets x → bit_number c.nets x ≡ v → (w : ℕ) → w < s.numbering.bits → Has s.search.marks.items mark.Stuck w
      → ((y : Bit) → IsBit c.nets y → bit_number c.nets y ≡ w → IsNext c x y)
      → IsWalking c s (walk ++ x ∷ []) (set seen v (length walk)) w
  walked new small x b at w lt stuck next = record {
    long = length-set seen v (length walk) ∙ was.long;
    inside = lt;
    here = stuck;
    at = λ k y e. elim (pushed walk x k y e) [
      | inl h ↦
          (let o = was.at k y h in
          (o.0, get_or-set_other seen v (bit_number c.nets y) (length walk) 0 (λ eq. absurd (let less = within walk k y h in let z : slice_index seen v ≡ k = sym (ap (slice_index seen) eq) ∙ o.1 in omega (arith, less, z, new))) ∙ o.1))
      | inr h ↦ (
        subst (λ (z : Bit). IsBit c.nets z) h.1 b,
        subst (λ (z : Bit). slice_index (set seen v (length walk)) (bit_number c.nets z) ≡ k) h.1
            (subst (λ (u : ℕ). slice_index (set seen v (length walk)) u ≡ k) (sym at) (set_here ∙ sym h.0)),
      )
    ];
    back = λ u less h. elim (cases_eq u v) [
      | inl e ↦
          (let place : slice_index (set seen v (length walk)) u ≡ length walk = ap (slice_index (set seen v (length walk))) e ∙ set_here in
          (x, subst (λ (k : ℕ). slice_get (walk ++ x ∷ []) k ≡ Some x) (sym place) (last walk x), at ∙ sym e))
      | inr ne ↦
          (let same_place : slice_index (set seen v (length walk)) u ≡ slice_index seen u = get_or-set_other seen v u (length walk) 0 ne in
          let o = was.back u less (before u less (omega (arith, h, same_place, longer))) in
          (o.0, subst (λ (k : ℕ). slice_get (walk ++ x ∷ []) k ≡ Some o.0) (sym same_place) (kept walk (x ∷ []) (slice_index seen u) o.0 o.1), o.2))
    ];
    either = λ u less. elim (cases_eq u v) [
      | inl e ↦ inl (let place : slice_index (set seen v (length walk)) u ≡ length walk = ap (slice_index (set seen v (length walk))) e ∙ set_here in omega (arith, place, longer))
      | inr ne ↦
          (let same_place : slice_index (set seen v (length walk)) u ≡ slice_index seen u = get_or-set_other seen v u (length walk) 0 ne in
          elim (was.either u less) [
            | inl o ↦ inl (omega (arith, o, same_place, longer))
            | inr o ↦ inr (same_place ∙ o)
          ])
    ];
    start = λ y e. elim (pushed walk x 0 y e) [
      | inl h ↦ was.start y h
      | inr h ↦ subst (λ (z : Bit). IsFirstStuck c z) h.1 (first_is c valid s is v (was.unmoved (sym h.0)) x b at was.here)
    ];
    unmoved = λ e. absurd (omega (arith, e, longer));
    turn = λ k y z p q. elim (pushed walk x (suc k) z q) [
      | inl h ↦ elim (pushed walk x k y p) [
        | inl o ↦ was.turn k y z o h
        | inr o ↦ absurd (let less = within walk (suc k) z h in omega (arith, less, o.0))
      ]
      | inr h ↦ elim (pushed walk x k y p) [
        | inl o ↦ subst (λ (u : Bit). IsNext c y u) h.1 (was.last k y x h.0 o b at)
        | inr o ↦ absurd (omega (arith, o.0, h.0))
      ]
    ];
    last = λ k y z e p d to. elim (pushed walk x k y p) [
      | inl o ↦ absurd (let less = within walk k y o in omega (arith, less, e, longer))
      | inr o ↦ subst (λ (u : Bit). IsNext c u z) o.1 (next z d to)
    ];
  }
    where
      set_here : slice_index (set seen v (length walk)) v ≡ length walk
      set_here = get_or-set_same seen v (length walk) 0 (omega (arith, was.inside, was.long))

      longer : length (walk ++ x ∷ []) ≡ length walk + 1
      longer = length-append walk (x ∷ [])

      before : (u : ℕ) → u < s.numbering.bits → slice_index seen u < length walk + 1 → slice_index seen u < length walk
      before u less h = elim (was.either u less) [
        | inl o ↦ o
        | inr o ↦ absurd (omega (arith, o, h, small))
      ]

  -- the walk has come to a bit for the second time
  pub closed_walk : slice_index seen v < length walk → IsWalk c walk (slice_index seen v)
  closed_walk lt =
      let o = was.back v was.inside lt in
      record {
        start = was.start;
        turn = was.turn;
        once = λ i j x p q. sym (was.at i x p).1 ∙ (was.at j x q).1;
        inside = lt;
        closed = λ k x y e p q.
            let b = was.at (slice_index seen v) y q in
            let z : o.0 ≡ y = (let h : Some o.0 ≡ Some y = sym o.1 ∙ q in cc h) in
            was.last k x y e p b.0 (ap (bit_number c.nets) (sym z) ∙ o.2);
      }

  -- the walk has at most as many bits as there are
  pub walk_within : length walk ≤ s.numbering.bits
  walk_within = few (bit_number c.nets) walk s.numbering.bits (λ i j x y p q e. sym (was.at i x p).1 ∙ ap (slice_index seen) e ∙ (was.at j y q).1) (λ i x p. let low = bit_below c.nets x (was.at i x p).0 in omega (arith, low, is.numbers.total))
