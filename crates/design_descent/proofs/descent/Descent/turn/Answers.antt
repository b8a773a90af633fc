use Rattle.std.proofs.Common.{List, ◌∷◌, reverse, ap, subst, ◌∙◌}
use Rattle.design_descent.specs.Frames.{IsDescent}
use Rattle.design_descent.specs.declared.frame.Frame.{Frame}
use Rattle.design_descent.proofs.Turned.{on_top, turns_of}
use Rattle.design_descent.proofs.descent.Descent.turn.Goals as goal

pub advance-requires-clause-descent : goal.advance-requires-clause-descent
advance-requires-clause-descent c =
    subst (λ (fs : List Frame). IsDescent c.args.modules.now c.args.self.now.open_modules.items fs) (ap reverse c.in-Some.ensures.items ∙ on_top c.pop.new.self.items c.in-Some.frame) c.requires.descent

pub returns : goal.returns
returns c =
    turns_of c.args.modules.now (reverse c.args.self.now.frames.items) (c.in-Some.frame ∷ reverse c.pop.new.self.items) c.args.draft.now c.advance.result c.advance.new.self.open_modules.items (reverse c.advance.new.self.frames.items) c.advance.new.draft
    (ap reverse c.in-Some.ensures.items ∙ on_top c.pop.new.self.items c.in-Some.frame)
    c.advance.ensures
