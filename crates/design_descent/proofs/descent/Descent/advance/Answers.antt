use Rattle.std.proofs.Common.{◌≡◌, suc, List, ◌∷◌, Bool, true, false, length, reverse, set, Option, Some, None, Ok, sym, ap, subst, ◌∙◌, arith, rules}
use Rattle.std.specs.List.{slice_get}
use Rattle.std.proofs.lemmas.Option.{slice_get_within}
use Rattle.rtlil_tree.specs.declared.module.Statement.{Statement}
use Rattle.design_walk.specs.Kept.{AreOpen}
use Rattle.design_descent.specs.Frames.{names_of}
use Rattle.design_descent.specs.Turns.{Takes}
use Rattle.design_descent.specs.declared.frame.Frame.{Frame}
use Rattle.design_descent.proofs.Names.{number_below}
use Rattle.design_descent.proofs.Pending.{past, step_of}
use Rattle.design_descent.proofs.Turned.{leaves_flagless, leaves_last, number_inside, on_top, turn_as, turn_fails, turn_into, turn_next}
use Rattle.design_descent.proofs.descent.Descent.advance.Goals as goal

pub leave-requires : goal.leave-requires
leave-requires c = number_inside c.args.modules.now c.args.self.now.open_modules.items c.args.frame (reverse c.args.self.now.frames.items) c.requires.descent

pub returns-in_default : goal.returns-in_default
returns-in_default c =
    let f = c.args.frame in
    let fs = reverse c.args.self.now.frames.items in
    let flags = c.args.self.now.open_modules.items in
    let none : slice_get f.unit.now.statements f.next ≡ None = subst (λ (ss : List Statement). slice_get ss f.next ≡ None) c.as_slice.ensures (sym c.in_default.ensures) in
    turn_as c.args.modules.now (f ∷ fs) c.args.draft.now (set flags f.number false) c.leave.new.self.open_modules.items fs (reverse c.leave.new.self.frames.items) c.args.draft.now c.leave.ensures.flags (ap reverse c.leave.ensures.frames)
    (leaves_last c.args.modules.now flags f fs c.requires.descent c.args.draft.now none)

pub leave-requires-in_default-at : goal.leave-requires-in_default-at
leave-requires-in_default-at c = number_inside c.args.modules.now c.args.self.now.open_modules.items c.args.frame (reverse c.args.self.now.frames.items) c.requires.descent

pub returns-in_default-at : goal.returns-in_default-at
returns-in_default-at c =
    let f = c.args.frame in
    let fs = reverse c.args.self.now.frames.items in
    let flags = c.args.self.now.open_modules.items in
    let none : slice_get f.clashes f.next ≡ None = subst (λ (bs : List Bool). slice_get bs f.next ≡ None) c.as_slice-2.ensures (sym c.in_default-at.ensures) in
    turn_as c.args.modules.now (f ∷ fs) c.args.draft.now (set flags f.number false) c.leave-in_default-at.new.self.open_modules.items fs (reverse c.leave-in_default-at.new.self.frames.items) c.args.draft.now c.leave-in_default-at.ensures.flags (ap reverse c.leave-in_default-at.ensures.frames)
    (leaves_flagless c.args.modules.now flags f fs c.requires.descent c.args.draft.now none)

pub returns-in_err-inside : goal.returns-in_err-inside
returns-in_err-inside c =
    let f = c.args.frame in
    let fs = reverse c.args.self.now.frames.items in
    let s = c.in-Some.statement.now in
    let b = c.in-Some-at.clash.now in
    let at_s : slice_get f.unit.now.statements f.next ≡ Some s = subst (λ (ss : List Statement). slice_get ss f.next ≡ Some s) c.as_slice.ensures (sym c.in-Some.ensures) in
    let at_b : slice_get f.clashes f.next ≡ Some b = subst (λ (bs : List Bool). slice_get bs f.next ≡ Some b) c.as_slice-2.ensures (sym c.in-Some-at.ensures) in
    let h = turn_fails c.args.modules.now c.args.self.now.open_modules.items f fs c.requires.descent c.args.draft.now b s at_b at_s c.in_err-inside.field-0.0 (c.in_err-inside.ensures (names_of (f ∷ fs)) (subst (λ (bs : List Bool). AreOpen bs c.args.modules.now (names_of (f ∷ fs))) (sym c.deref.ensures.value) c.requires.descent.flagged)) in
    search rules

pub go_on-requires : goal.go_on-requires
go_on-requires c =
    let lt = slice_get_within c.as_slice.result.now c.args.frame.next c.in-Some.statement.now (sym c.in-Some.ensures) in
    omega (arith, lt)

pub returns-in_default-inside : goal.returns-in_default-inside
returns-in_default-inside c =
    let ms = c.args.modules.now in
    let f = c.args.frame in
    let fs = reverse c.args.self.now.frames.items in
    let flags = c.args.self.now.open_modules.items in
    let old = c.args.draft.now in
    let new = c.take_statement.new.draft in
    let s = c.in-Some.statement.now in
    let b = c.in-Some-at.clash.now in
    let at_s : slice_get f.unit.now.statements f.next ≡ Some s = subst (λ (ss : List Statement). slice_get ss f.next ≡ Some s) c.as_slice.ensures (sym c.in-Some.ensures) in
    let at_b : slice_get f.clashes f.next ≡ Some b = subst (λ (bs : List Bool). slice_get bs f.next ≡ Some b) c.as_slice-2.ensures (sym c.in-Some-at.ensures) in
    let taken = subst (λ (o : Option Frame). Takes ms (names_of (f ∷ fs)) (λ depth. step_of (suc depth) ms (names_of (f ∷ fs)) f b s) s old (Ok o) new) c.in_default-inside.is (c.in_ok-inside.ensures (names_of (f ∷ fs)) (subst (λ (bs : List Bool). AreOpen bs c.args.modules.now (names_of (f ∷ fs))) (sym c.deref.ensures.value) c.requires.descent.flagged)) in
    turn_as ms (f ∷ fs) old flags c.go_on.new.self.open_modules.items (past f ∷ fs) (reverse c.go_on.new.self.frames.items) new c.in_ok-go_on.ensures.flags (ap reverse c.in_ok-go_on.ensures.frames ∙ on_top c.args.self.now.frames.items (past f))
    (turn_next ms flags f fs c.requires.descent old b s at_b at_s new taken)

pub enter-requires : goal.enter-requires
enter-requires c =
    let ms = c.args.modules.now in
    let f = c.args.frame in
    let fs = reverse c.args.self.now.frames.items in
    let s = c.in-Some.statement.now in
    let b = c.in-Some-at.clash.now in
    let g = c.in-Some-inside.inside in
    let taken = subst (λ (o : Option Frame). Takes ms (names_of (f ∷ fs)) (λ depth. step_of (suc depth) ms (names_of (f ∷ fs)) f b s) s c.args.draft.now (Ok o) c.take_statement.new.draft) c.in-Some-inside.is (c.in_ok-inside.ensures (names_of (f ∷ fs)) (subst (λ (bs : List Bool). AreOpen bs c.args.modules.now (names_of (f ∷ fs))) (sym c.deref.ensures.value) c.requires.descent.flagged)) in
    let lt = number_below ms g.unit.now.name g.number taken.inside.number in
    omega (arith, lt, c.requires.descent.sized, ap (λ (xs : List Bool). length xs) c.in_ok-go_on.ensures.flags)

pub returns : goal.returns
returns c =
    let ms = c.args.modules.now in
    let f = c.args.frame in
    let fs = reverse c.args.self.now.frames.items in
    let flags = c.args.self.now.open_modules.items in
    let old = c.args.draft.now in
    let new = c.take_statement.new.draft in
    let s = c.in-Some.statement.now in
    let b = c.in-Some-at.clash.now in
    let g = c.in-Some-inside.inside in
    let at_s : slice_get f.unit.now.statements f.next ≡ Some s = subst (λ (ss : List Statement). slice_get ss f.next ≡ Some s) c.as_slice.ensures (sym c.in-Some.ensures) in
    let at_b : slice_get f.clashes f.next ≡ Some b = subst (λ (bs : List Bool). slice_get bs f.next ≡ Some b) c.as_slice-2.ensures (sym c.in-Some-at.ensures) in
    let taken = subst (λ (o : Option Frame). Takes ms (names_of (f ∷ fs)) (λ depth. step_of (suc depth) ms (names_of (f ∷ fs)) f b s) s old (Ok o) new) c.in-Some-inside.is (c.in_ok-inside.ensures (names_of (f ∷ fs)) (subst (λ (bs : List Bool). AreOpen bs c.args.modules.now (names_of (f ∷ fs))) (sym c.deref.ensures.value) c.requires.descent.flagged)) in
    turn_as ms (f ∷ fs) old (set flags g.number true) c.enter.new.self.open_modules.items (g ∷ past f ∷ fs) (reverse c.enter.new.self.frames.items) new
    (c.in_ok-enter.ensures.flags ∙ ap (λ (xs : List Bool). set xs g.number true) c.in_ok-go_on.ensures.flags)
    (ap reverse c.in_ok-enter.ensures.frames ∙ on_top c.go_on.new.self.frames.items g ∙ ap (λ (xs : List Frame). g ∷ xs) (ap reverse c.in_ok-go_on.ensures.frames ∙ on_top c.args.self.now.frames.items (past f)))
    (turn_into ms flags f fs c.requires.descent old b s at_b at_s g new taken)
