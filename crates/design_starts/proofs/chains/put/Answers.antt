use Rattle.std.proofs.Common.{◌≡◌, ℕ, ◌<◌, List, length, set, get_or, sym, ◌∙◌, subst, arith, inl, inr, Some, length-set}
use Rattle.std.specs.Prelude.{slice_get}
use Rattle.std.proofs.lemmas.Bool.{cases_eq}
use Rattle.std.proofs.lemmas.Option.{slice_get-get_or}
use Rattle.driver_check.proofs.Places.{within, same, set_same, set_other}
use Rattle.design_starts.specs.declared.taken.Taken.{Taken}
use Rattle.design_starts.proofs.chains.put.Goals as goal

stays : (table : List Taken) (u v : ℕ) (t : Taken) → u < length table → slice_get table v ≡ Some t → slice_get (set table u t) v ≡ Some t
stays table u v t lt s = elim (cases_eq v u) [
  | inl e ↦ subst (λ (x : ℕ). slice_get (set table u t) x ≡ Some t) (sym e) (set_same table u t lt)
  | inr ne ↦ set_other table u v t ne ∙ s
]

pub returns-clause-passed : goal.returns-clause-passed
returns-clause-passed c = λ place p. c.loop-place.invariant.passed p.0 place (omega (arith, within c.args.path.now p.0 place p.1)) p.1

pub loop-place-preserved : goal.loop-place-preserved
loop-place-preserved c =
    let table = c.loop-place.table.items in
    let path = c.args.path.now in
    let at = c.loop-place.place-index in
    let place : ℕ = get_or path at 0 in
    let is : slice_get path at ≡ Some place = slice_get-get_or path at 0 (omega arith) in
    let inside : place < length table = omega (arith, c.requires at place is, c.loop-place.invariant.long) in
    record {
      long = length-set table place c.args.found ∙ c.loop-place.invariant.long;
      passed = λ k p lt e. elim (cases_eq k at) [
        | inl h ↦
            (let z : place ≡ p = same path at place p is (subst (λ (n : ℕ). slice_get path n ≡ Some p) h e) in
            subst (λ (x : ℕ). slice_get (set table place c.args.found) x ≡ Some c.args.found) z (set_same table place c.args.found inside))
        | inr ne ↦ stays table place p c.args.found inside (c.loop-place.invariant.passed k p (omega (arith, lt, ne)) e)
      ];
      others = λ p. elim (cases_eq p place) [
        | inl e ↦ inl ((at, subst (λ (n : ℕ). slice_get path at ≡ Some n) (sym e) is), subst (λ (x : ℕ). slice_get (set table place c.args.found) x ≡ Some c.args.found) (sym e) (set_same table place c.args.found inside))
        | inr ne ↦ elim (c.loop-place.invariant.others p) [
          | inl s ↦ inl (s.0, set_other table place p c.args.found ne ∙ s.1)
          | inr e ↦ inr (set_other table place p c.args.found ne ∙ e)
        ]
      ];
    }
