use Rattle.std.proofs.Common.{◌≡◌, ◌+◌, length, sym, ap, ◌∙◌, subst, arith}
use Rattle.std.specs.Prelude.{slice_get}
use Rattle.std.proofs.lemmas.List.{length-set}
use Rattle.circuit.specs.Rounds.{Run}
use Rattle.circuit.specs.declared.netlist.Circuit.{Circuit}
use Rattle.stimulus_blocks.specs.Courses.{run_of}
use Rattle.run_core.specs.Cursor.{IsCursor, left_by}
use Rattle.run_core.specs.declared.cursor.Cursor.{Cursor}
use Rattle.run_followed.proofs.Steps.{kept_more, of_some}
use Rattle.run_followed.proofs.progress.Progress.go_on.Goals as goal

pub returns-then-is_some-clause-progress : goal.returns-then-is_some-clause-progress
returns-then-is_some-clause-progress c =
    let run : Run = run_of c.args.circuit.now c.args.stimulus.now in
    let k = c.args.self.now.cursor.given in
    let same = c.requires.progress.cursor.circuit in
    let left = c.go_on.ensures.machine ∙ ap (λ (x : Circuit). left_by (run_of x c.args.stimulus.now) k) same in
    let given = ap (λ (p : Cursor). p.given) c.keep.ensures.cursor ∙ of_some c.go_on.result (c.go_on.new.self.given ≡ k + 1) c.if-is_some.ensures c.go_on.ensures.given in
    record {
      cursor =
          subst (λ (p : Cursor). IsCursor c.args.circuit.now c.args.stimulus.now p) (sym c.keep.ensures.cursor)
          (subst (λ (x : Circuit). IsCursor x c.args.stimulus.now c.go_on.new.self) same c.go_on.ensures.cursor);
      room = λ some. ap length c.keep.ensures.fired ∙ length-set c.args.self.now.fired.items k c.fired_kinds-kinds.result ∙ c.requires.progress.room some;
      fired = λ n kinds lt at.
          kept_more run k c.args.self.now.fired.items c.fired_kinds-kinds.result (c.fired_kinds-kinds.ensures run k left) c.requires.progress.fired n kinds
          (omega (arith, lt, given)) (ap (λ xs. slice_get xs n) (sym c.keep.ensures.fired) ∙ at);
    }
