-- The steps of loops that write the bits of roots.
use Rattle.std.proofs.Common.{◌≡◌, ℕ, ◌+◌, ◌<◌, ◌≤◌, List, length, get_or, sym, ◌∙◌, ap, subst, arith, inl, inr, true, false, cond, Some}
use Rattle.std.specs.Prelude.{slice_get, slice_index}
use Rattle.std.proofs.lemmas.Option.{slice_get-get_or}
use Rattle.std.proofs.lemmas.Bool.{cases_eq, cases_Bool, cond-true, cond-false, false≢true}
use Rattle.std.proofs.lemmas.List.{length-map}
use Rattle.sim_base.specs.BitValue.{BitValue}
use Rattle.circuit.specs.Valuation.{covers, offset_of}
use Rattle.circuit.specs.declared.netlist.Drive.{Drive}
use Rattle.driver_check.specs.Depends.{Bit}
use Rattle.driver_check.proofs.Places.{read, same, within}
use Rattle.sim_base.specs.Values.{width_at, widths}
use Rattle.signal_words.specs.Values.{digits_in}
use Rattle.eval_plan.specs.Roots.{AreApart}
use Rattle.eval_commit.specs.Spread.{IsRootInside, IsSpread, taken_digit}
use Rattle.eval_commit.specs.Seeding.{HasKept, IsSeeded, Kept, is_kept, kept_value}

-- ---- what stays inside where widths stay

pub as_many : (vs ws : List BitValue) → widths ws ≡ widths vs → length ws ≡ length vs
as_many vs ws e = sym (length-map ws (λ (v : BitValue). v.width)) ∙ ap length e ∙ length-map vs (λ (v : BitValue). v.width)

pub still_inside : (vs ws : List BitValue) → widths ws ≡ widths vs → (r : Drive) → IsRootInside vs r → IsRootInside ws r
still_inside vs ws e r h =
    let l : length ws ≡ length vs = as_many vs ws e in
    let w : width_at ws r.net ≡ width_at vs r.net = ap (λ (ns : List ℕ). get_or ns r.net 0) e in
    (omega (arith, h.0, l), omega (arith, h.1, w))

-- ---- a value that is spread

-- the root that the list names at a place
pub listed_root : (roots : List Drive) (places : List ℕ) (w t : ℕ) (r : Drive) → ((j k : ℕ) → slice_get places j ≡ Some k → (q : Drive) × (slice_get roots k ≡ Some q) × (offset_of q.by + q.width ≤ w))
    → t < length places → r ≡ get_or roots (slice_index places t) r
    → (slice_get places t ≡ Some (slice_index places t)) × (slice_get roots (slice_index places t) ≡ Some r) × (offset_of r.by + r.width ≤ w)
listed_root roots places w t r listed lt is =
    let k : ℕ = slice_index places t in
    let at : slice_get places t ≡ Some k = slice_get-get_or places t 0 lt in
    let h = listed t k at in
    let root : slice_get roots k ≡ Some r = read roots k r (within roots k h.0 h.1) is in
    (at, root, subst (λ (q : Drive). offset_of q.by + q.width ≤ w) (same roots k h.0 r h.1 root) h.2)

pub spread_more : (roots : List Drive) (places : List ℕ) (t number k : ℕ) (r : Drive) (vs ws us : List BitValue) → AreApart roots → slice_get places t ≡ Some k → slice_get roots k ≡ Some r
    → ((x : Bit) → digits_in us x.0 x.1 ≡ cond (covers x.0 x.1 r) (taken_digit number r x) (digits_in ws x.0 x.1))
    → IsSpread roots places t number vs ws → IsSpread roots places (t + 1) number vs us
spread_more roots places t number k r vs ws us apart at root digits s = record {
  taken = λ j l q x lt p cov. elim (cases_Bool (covers x.0 x.1 r)) [
    | inl on ↦
        (let e : l ≡ k = apart l k q r x cov (root, on) in
        let f : q ≡ r = same roots k q r (subst (λ (n : ℕ). slice_get roots n ≡ Some q) e cov.0) root in
        digits x ∙ cond-true (covers x.0 x.1 r) (taken_digit number r x) (digits_in ws x.0 x.1) on ∙ ap (λ (d : Drive). taken_digit number d x) (sym f))
    | inr off ↦
        (digits x ∙ cond-false (covers x.0 x.1 r) (taken_digit number r x) (digits_in ws x.0 x.1) off
        ∙ s.taken j l q x
        (elim (cases_eq j t) [
          | inl e ↦
              (let a : l ≡ k = same places t l k (subst (λ (n : ℕ). slice_get places n ≡ Some l) e p) at in
              let f : q ≡ r = same roots k q r (subst (λ (n : ℕ). slice_get roots n ≡ Some q) a cov.0) root in
              absurd (false≢true (sym off ∙ ap (covers x.0 x.1) (sym f) ∙ cov.1)))
          | inr ne ↦ omega (arith, lt, ne)
        ])
        p cov)
  ];
  kept = λ x out. elim (cases_Bool (covers x.0 x.1 r)) [
    | inl on ↦ absurd (out (t, k, r, (let h : t < t + 1 = omega arith in h), at, (root, on)))
    | inr off ↦
        (digits x ∙ cond-false (covers x.0 x.1 r) (taken_digit number r x) (digits_in ws x.0 x.1) off
        ∙ s.kept x (λ h. out (h.0, h.1, h.2, (let lt : h.0 < t = h.3 in omega (arith, lt)), h.4, h.5)))
  ];
}

-- ---- kept values

pub seed_more : (roots : List Drive) (kept : Kept) (t : ℕ) (r : Drive) (vs ws us : List BitValue) → AreApart roots → slice_get roots t ≡ Some r → HasKept kept r
    → ((v : BitValue) (x : Bit) → is_kept r.by ≡ true → kept_value kept r.by ≡ Some v → digits_in us x.0 x.1 ≡ cond (covers x.0 x.1 r) (taken_digit v.number r x) (digits_in ws x.0 x.1))
    → (is_kept r.by ≡ false → us ≡ ws)
    → IsSeeded roots kept t vs ws → IsSeeded roots kept (t + 1) vs us
seed_more roots kept t r vs ws us apart root has digits other s = elim (cases_Bool (is_kept r.by)) [
  | inl is ↦
      (let h = has is in
      let v : BitValue = h.0 in record {
        taken = λ i q x u lt cov k e. elim (cases_eq i t) [
          | inl at ↦
              (let f : q ≡ r = same roots t q r (subst (λ (n : ℕ). slice_get roots n ≡ Some q) at cov.0) root in
              let on : covers x.0 x.1 r ≡ true = ap (covers x.0 x.1) (sym f) ∙ cov.1 in
              let g : kept_value kept r.by ≡ Some u = ap (λ (d : Drive). kept_value kept d.by) (sym f) ∙ e in
              digits u x is g ∙ cond-true (covers x.0 x.1 r) (taken_digit u.number r x) (digits_in ws x.0 x.1) on ∙ ap (λ (d : Drive). taken_digit u.number d x) (sym f))
          | inr ne ↦
              (let off : covers x.0 x.1 r ≡ false = elim (cases_Bool (covers x.0 x.1 r)) [
                | inl on ↦ absurd (ne (apart i t q r x cov (root, on)))
                | inr no_ ↦ no_
              ] in
              digits v x is h.1 ∙ cond-false (covers x.0 x.1 r) (taken_digit v.number r x) (digits_in ws x.0 x.1) off ∙ s.taken i q x u (omega (arith, lt, ne)) cov k e)
        ];
        bare = λ x out.
            (let off : covers x.0 x.1 r ≡ false = elim (cases_Bool (covers x.0 x.1 r)) [
              | inl on ↦ absurd (false≢true (sym (out t r (root, on)) ∙ is))
              | inr no_ ↦ no_
            ] in
            digits v x is h.1 ∙ cond-false (covers x.0 x.1 r) (taken_digit v.number r x) (digits_in ws x.0 x.1) off ∙ s.bare x out);
      })
  | inr not_ ↦
      (let e : us ≡ ws = other not_ in
      subst (λ (ns : List BitValue). IsSeeded roots kept (t + 1) vs ns) (sym e) (record {
        taken = λ i q x u lt cov k g. elim (cases_eq i t) [
          | inl at ↦
              (let f : q ≡ r = same roots t q r (subst (λ (n : ℕ). slice_get roots n ≡ Some q) at cov.0) root in
              absurd (false≢true (sym not_ ∙ ap (λ (d : Drive). is_kept d.by) (sym f) ∙ k)))
          | inr ne ↦ s.taken i q x u (omega (arith, lt, ne)) cov k g
        ];
        bare = s.bare;
      }))
]
