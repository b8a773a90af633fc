use Rattle.std.proofs.Common.{◌≡◌, ◌<◌, length, subst, arith}
use Rattle.circuit.specs.declared.netlist.Circuit.{Circuit}
use Rattle.stimulus_blocks.specs.Courses.{sample_count}
use Rattle.run_followed.proofs.progress.Progress.new.Goals as goal

pub returns : goal.returns
returns c = record {
  cursor = c.in_ok-cursor.ensures.cursor;
  room = subst (λ (x : Circuit). 0 < length x.diags → length c.in_ok-fired.fired.items ≡ sample_count c.args.stimulus.now) c.deref.ensures c.in_ok-fired.ensures;
  fired = λ k kinds lt at. absurd (omega (arith, lt, c.in_ok-cursor.ensures.none));
}
