use Rattle.std.proofs.Common.{◌≡◌, List, length, arith, refl, reverse, sym, ap, subst, ◌∙◌, rules}
use Rattle.std.proofs.lemmas.Grind.{common_steps}
use Rattle.std.proofs.lemmas.List.{nil_from_length}
use Rattle.design_parts.specs.Parts.{Fails, run}
use Rattle.design_descent.specs.Frames.{pending}
use Rattle.design_descent.specs.declared.frame.Frame.{Frame}
use Rattle.design_descent.proofs.Pending.{pending_none}
use Rattle.design_descent.proofs.descent.Descent.finish.Goals as goal

pub turns-init : goal.turns-init
turns-init c = record { descent = c.requires.descent; gives = refl }

pub turn-requires-clause-descent : goal.turn-requires-clause-descent
turn-requires-clause-descent c = c.turns.invariant.descent

pub turns-smaller : goal.turns-smaller
turns-smaller c = c.in_ok-turn.ensures.less

pub turns-preserved : goal.turns-preserved
turns-preserved c = record { descent = c.in_ok-turn.ensures.descent; gives = c.turns.invariant.gives ∙ c.in_ok-turn.ensures.gives }

pub returns-in_err-turn : goal.returns-in_err-turn
returns-in_err-turn c =
    let h = subst (Fails c.in_err-turn.field-0.0) (sym c.turns.invariant.gives) c.in_err-turn.ensures in
    search rules

pub returns : goal.returns
returns c =
    let none : length c.turns.self.frames.items ≡ 0 = grind (arith, common_steps) in
    c.turns.invariant.gives
    ∙ ap (λ (fs : List Frame). run (pending c.args.modules.now (reverse fs)) c.turns.draft) (nil_from_length c.turns.self.frames.items none)
    ∙ pending_none c.args.modules.now c.turns.draft
