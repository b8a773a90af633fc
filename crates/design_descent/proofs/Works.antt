-- Each turn leaves less work.
use Rattle.std.proofs.Common.{◌≡◌, ℕ, suc, ◌+◌, ◌-◌, ◌<◌, List, [], ◌∷◌, length, drop, Some, refl, ap, arith}
use Rattle.std.specs.List.{slice_get}
use Rattle.rtlil_tree.specs.declared.module.Module.{Module}
use Rattle.rtlil_tree.specs.declared.module.Statement.{Statement}
use Rattle.rtlil_tree.specs.declared.module.Statement.TheVariants as statement
use Rattle.design_descent.specs.Frames.{AreNested}
use Rattle.design_descent.specs.Turns.{LeadsInto}
use Rattle.design_descent.specs.Work.{instance_work, module_work, statement_work, statements_work, work}
use Rattle.design_descent.specs.declared.frame.Frame.{Frame}
use Rattle.design_descent.proofs.Depth.{fuel}
use Rattle.design_descent.proofs.Pending.{dropped, past}

some_work : (within : Module → ℕ) (ms : List Module) (ss : List Statement) → 0 < statements_work within ms ss
unfolding statements_work
some_work within ms [] = omega arith
some_work within ms (s ∷ ss) = omega arith

leads_work : (within : Module → ℕ) (ms : List Module) (s : Statement) (m : Module) → LeadsInto ms s m → statement_work within ms s ≡ within m
leads_work within ms (statement.Cell c) m e = ap (module_work within) e
leads_work within ms (statement.Parameter p) m e = absurd e
leads_work within ms (statement.Wire w) m e = absurd e
leads_work within ms (statement.Memory k) m e = absurd e
leads_work within ms (statement.Connect a) m e = absurd e
leads_work within ms (statement.Process p) m e = absurd e

done_less : (all here others : ℕ) → all ≡ here + others → 0 < here → others < all
done_less all here others e h = omega arith

next_less : (all here later more one rest others : ℕ) → all ≡ here + others → later ≡ rest + others → here ≡ suc (one + rest) → more ≡ later → more < all
next_less all here later more one rest others a b c d = omega arith

into_less : (all here later more one rest others inner : ℕ) → all ≡ here + others → later ≡ rest + others → here ≡ suc (one + rest) → one ≡ inner → more ≡ inner + later → more < all
into_less all here later more one rest others inner a b c d e = omega arith

module _ (ms : List Module) (f : Frame) (fs : List Frame) (nested : AreNested ms (f ∷ fs)) where
  abbrev within : ℕ
  within = length ms - suc (length fs)

  abbrev work_at : ℕ → ℕ
  work_at next = statements_work (instance_work (suc within) ms) ms (drop next f.unit.now.statements)

  work_is : (next : ℕ) → work ms ((record f { next = next }) ∷ fs) ≡ work_at next + work ms fs
  unfolding work
  work_is next = ap (λ (d : ℕ). statements_work (instance_work d ms) ms (drop next f.unit.now.statements) + work ms fs) (fuel ms f fs nested)

  pub work_done : work ms fs < work ms (f ∷ fs)
  work_done = done_less (work ms (f ∷ fs)) (work_at f.next) (work ms fs) (work_is f.next) (some_work (instance_work (suc within) ms) ms (drop f.next f.unit.now.statements))

  module _ (s : Statement) (at_s : slice_get f.unit.now.statements f.next ≡ Some s) where
    work_more : work_at f.next ≡ suc (statement_work (instance_work (suc within) ms) ms s + work_at (f.next + 1))
    unfolding statements_work
    work_more = ap (statements_work (instance_work (suc within) ms) ms) (dropped f.unit.now.statements f.next s at_s)

    pub work_next : work ms (past f ∷ fs) < work ms (f ∷ fs)
    work_next = next_less (work ms (f ∷ fs)) (work_at f.next) (work ms (past f ∷ fs)) (work ms (past f ∷ fs)) (statement_work (instance_work (suc within) ms) ms s) (work_at (f.next + 1)) (work ms fs) (work_is f.next) (work_is (f.next + 1)) work_more refl

    inner_work : (g : Frame) → g.next ≡ 0 → work ms (g ∷ past f ∷ fs) ≡ instance_work (suc within) ms g.unit.now + work ms (past f ∷ fs)
    unfolding work instance_work
    inner_work g e = ap (λ (k : ℕ). statements_work (instance_work within ms) ms (drop k g.unit.now.statements) + work ms (past f ∷ fs)) e

    pub work_into : (g : Frame) → LeadsInto ms s g.unit.now → g.next ≡ 0 → work ms (g ∷ past f ∷ fs) < work ms (f ∷ fs)
    work_into g leads first = into_less (work ms (f ∷ fs)) (work_at f.next) (work ms (past f ∷ fs)) (work ms (g ∷ past f ∷ fs)) (statement_work (instance_work (suc within) ms) ms s) (work_at (f.next + 1)) (work ms fs) (instance_work (suc within) ms g.unit.now) (work_is f.next) (work_is (f.next + 1)) work_more (leads_work (instance_work (suc within) ms) ms s g.unit.now leads) (inner_work g first)
