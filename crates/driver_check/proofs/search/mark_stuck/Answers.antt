use Rattle.std.proofs.Common.{◌≡◌, ℕ, ◌<◌, List, length, set, get_or, sym, ◌∙◌, subst, arith, inl, inr, Some, length-set}
use Rattle.std.specs.Prelude.{slice_get}
use Rattle.std.proofs.lemmas.Bool.{cases_eq}
use Rattle.std.proofs.lemmas.Option.{slice_get-get_or}
use Rattle.driver_check.specs.declared.search.Mark.{Mark}
use Rattle.driver_check.specs.declared.search.Mark.TheVariants as mark
use Rattle.driver_check.specs.declared.search.Frame.{Frame}
use Rattle.driver_check.specs.Search.{Has}
use Rattle.driver_check.proofs.Places.{within, same, set_same, set_other, was_set}
use Rattle.driver_check.proofs.search.mark_stuck.Goals as goal

stays : (marks : List Mark) (u v : ℕ) → u < length marks → Has marks mark.Stuck v → Has (set marks u mark.Stuck) mark.Stuck v
stays marks u v lt s = elim (cases_eq v u) [
  | inl e ↦ subst (λ (x : ℕ). Has (set marks u mark.Stuck) mark.Stuck x) (sym e) (set_same marks u mark.Stuck lt)
  | inr ne ↦ set_other marks u v mark.Stuck ne ∙ s
]

pub returns-clause-all : goal.returns-clause-all
returns-clause-all c = λ k f e. c.loop-frame.invariant.all k f (omega (arith, within c.args.stack.now k f e)) e

pub loop-frame-preserved : goal.loop-frame-preserved
loop-frame-preserved c =
    let marks = c.loop-frame.marks.items in
    let stack = c.args.stack.now in
    let at = c.loop-frame.frame-index in
    let f : Frame = get_or stack at (record { vertex = 0; span = 0; offset = 0 }) in
    let is : slice_get stack at ≡ Some f = slice_get-get_or stack at (record { vertex = 0; span = 0; offset = 0 }) (omega arith) in
    let inside : f.vertex < length marks = omega (arith, c.requires at f is, c.loop-frame.invariant.size) in
    record {
      size = length-set marks f.vertex mark.Stuck ∙ c.loop-frame.invariant.size;
      all = λ k g lt e. elim (cases_eq k at) [
        | inl h ↦
            (let z : f ≡ g = same stack at f g is (subst (λ (n : ℕ). slice_get stack n ≡ Some g) h e) in
            subst (λ (x : Frame). Has (set marks f.vertex mark.Stuck) mark.Stuck x.vertex) z (set_same marks f.vertex mark.Stuck inside))
        | inr ne ↦ stays marks f.vertex g.vertex inside (c.loop-frame.invariant.all k g (omega (arith, lt, ne)) e)
      ];
      others = λ v. elim (cases_eq v f.vertex) [
        | inl e ↦ inl (subst (λ (x : ℕ). Has (set marks f.vertex mark.Stuck) mark.Stuck x) (sym e) (set_same marks f.vertex mark.Stuck inside))
        | inr ne ↦ elim (c.loop-frame.invariant.others v) [
          | inl s ↦ inl (set_other marks f.vertex v mark.Stuck ne ∙ s)
          | inr e ↦ inr (set_other marks f.vertex v mark.Stuck ne ∙ e)
        ]
      ];
      only = λ v s. elim (was_set marks f.vertex v mark.Stuck mark.Stuck s) [
        | inl a ↦ inr (at, f, is, sym a.0)
        | inr a ↦ c.loop-frame.invariant.only v a.1
      ];
    }
