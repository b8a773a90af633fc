use Rattle.std.proofs.Common.{ℕ, List, sym, subst, arith, inl, inr}
use Rattle.std.proofs.lemmas.Bool.{cases_eq}
use Rattle.driver_check.specs.Search.{Has}
use Rattle.driver_check.specs.declared.search.Mark.{Mark}
use Rattle.driver_check.specs.declared.search.Mark.TheVariants as mark
use Rattle.driver_check.proofs.sorting.Sorting.first_stuck.Goals as goal

pub loop-number-preserved : goal.loop-number-preserved
loop-number-preserved c = λ u lt stuck. elim (cases_eq u c.loop-number.number) [
  | inl e ↦
      c.is_stuck.ensures.no c.if-is_stuck.false
      (subst (λ (xs : List Mark). Has xs mark.Stuck c.loop-number.number) (sym c.deref.ensures.value) (subst (λ (v : ℕ). Has c.args.self.now.search.marks.items mark.Stuck v) e stuck))
  | inr ne ↦ c.loop-number.invariant u (omega (arith, lt, ne)) stuck
]

pub returns-clause-first : goal.returns-clause-first
returns-clause-first c = record {
  below = λ u lt. c.loop-number.invariant u (omega (arith, lt));
  is = λ lt. absurd (omega (arith, lt));
}
