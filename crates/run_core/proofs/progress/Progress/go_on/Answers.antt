use Rattle.std.proofs.Common.{refl, ◌∙◌, ap}
use Rattle.std.specs.Prelude.{is_some}
use Rattle.circuit.specs.declared.netlist.Circuit.{Circuit}
use Rattle.eval_commit.specs.Machine.{MachineState}
use Rattle.stimulus_blocks.specs.Courses.{run_of}
use Rattle.run_core.specs.Cursor.{left_by}
use Rattle.run_core.proofs.Steps.{stands_at, written_back}
use Rattle.run_core.proofs.progress.Progress.go_on.Goals as goal

pub returns-clause-words : goal.returns-clause-words
returns-clause-words c =
    let k = c.args.self.now.cursor.given in
    let own = c.go_on.ensures.machine in
    let some = ap (λ (m : MachineState). is_some m.standing) own ∙ c.in_ok-time.ensures.settles.0 refl in
    let left = own ∙ ap (λ (x : Circuit). left_by (run_of x c.args.stimulus.now) k) c.requires.progress.cursor.circuit in
    let stands = stands_at c.args.circuit.now c.args.stimulus.now k c.go_on.new.self.machine left some in
    written_back c.args.self.now.words.len c.put_words.new.words c.args.self.now.words.items (c.put_words.auto.words ∙ c.deref_mut-2.ensures.len)
    ∙ c.put_words.ensures.words (run_of c.args.circuit.now c.args.stimulus.now) k stands.0 stands.1
