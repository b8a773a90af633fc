use Rattle.std.proofs.Common.{◌≡◌, reverse}
use Rattle.design_parts.specs.Parts.{run}
use Rattle.design_descent.specs.Frames.{IsDescent, pending}
use Rattle.design_descent.specs.Work.{work}
use Rattle.design_descent.proofs.descent.Descent.finish.Given as goal

abbrev pub invariant-turns : goal.invariant-turns
invariant-turns l = record {
  descent : IsDescent l.modules l.self.open_modules.items (reverse l.self.frames.items);
  gives : run (pending l.modules (reverse l.fn.self.frames.items)) l.fn.draft ≡ run (pending l.modules (reverse l.self.frames.items)) l.draft;
}

abbrev pub decreases-turns : goal.decreases-turns
decreases-turns l = work l.modules (reverse l.self.frames.items)
