use Rattle.std.proofs.Common.{◌++◌, refl, sym}
use Rattle.std.specs.Prelude.{nat_lt}
use Rattle.flat_run.specs.Run.{run_under}
use Rattle.cxxsim.specs.TraceText.{last_line, run_text}
use Rattle.cxxsim.proofs.Begun.{all_gone, begun, begun_then, left_whole}
use Rattle.cxxsim.proofs.Printing.{printed_last}
use Rattle.cxxsim.proofs.tracing.write_trace.Goals as goal

pub returns-in_err-rounds-clause-begun : goal.returns-in_err-rounds-clause-begun
returns-in_err-rounds-clause-begun g c = begun (g.O.Sink.seen c.args.out.now).held (g.O.Sink.seen c.args.out.now).held (run_text (run_under c.args.circuit.now c.args.stimulus.now)) (run_text (run_under c.args.circuit.now c.args.stimulus.now)) (left_whole (g.O.Sink.seen c.args.out.now).held (run_text (run_under c.args.circuit.now c.args.stimulus.now)) (run_text (run_under c.args.circuit.now c.args.stimulus.now)) refl)

pub returns-in_err-inputs-clause-begun : goal.returns-in_err-inputs-clause-begun
returns-in_err-inputs-clause-begun g c = begun (g.O.Sink.seen c.args.out.now).held (g.O.Sink.seen c.args.out.now).held (run_text (run_under c.args.circuit.now c.args.stimulus.now)) (run_text (run_under c.args.circuit.now c.args.stimulus.now)) (left_whole (g.O.Sink.seen c.args.out.now).held (run_text (run_under c.args.circuit.now c.args.stimulus.now)) (run_text (run_under c.args.circuit.now c.args.stimulus.now)) refl)

pub returns-in_err-push_header-clause-begun : goal.returns-in_err-push_header-clause-begun
returns-in_err-push_header-clause-begun g c = begun (g.O.Sink.seen c.args.out.now).held (g.O.Sink.seen c.args.out.now).held (run_text (run_under c.args.circuit.now c.args.stimulus.now)) (run_text (run_under c.args.circuit.now c.args.stimulus.now)) (left_whole (g.O.Sink.seen c.args.out.now).held (run_text (run_under c.args.circuit.now c.args.stimulus.now)) (run_text (run_under c.args.circuit.now c.args.stimulus.now)) refl)

pub returns-in_err-push_last_line-clause-begun : goal.returns-in_err-push_last_line-clause-begun
returns-in_err-push_last_line-clause-begun g c =
    begun (g.O.Sink.seen c.args.out.now).held (g.O.Sink.seen c.write_samples.new.out).held (run_text (run_under c.args.circuit.now c.args.stimulus.now)) (c.write_samples.new.text.items ++ (last_line (nat_lt c.in_ok-done.done c.count.result) c.in_ok-done.done))
    (printed_last (run_under c.args.circuit.now c.args.stimulus.now) c.in_ok-done.done c.count.result (g.O.Sink.seen c.args.out.now).held (g.O.Sink.seen c.write_samples.new.out).held c.write_samples.new.text.items (c.write_samples.new.text.items ++ (last_line (nat_lt c.in_ok-done.done c.count.result) c.in_ok-done.done)) c.in_ok-done.ensures.left refl c.count.ensures.value (sym c.in_ok-done.ensures.length))

pub returns-in_err-flush-clause-begun : goal.returns-in_err-flush-clause-begun
returns-in_err-flush-clause-begun g c =
    begun_then (g.O.Sink.seen c.args.out.now).held (g.O.Sink.seen c.write_samples.new.out).held (g.O.Sink.seen c.flush.new.out).held (run_text (run_under c.args.circuit.now c.args.stimulus.now)) c.push_last_line.new.text.items
    (printed_last (run_under c.args.circuit.now c.args.stimulus.now) c.in_ok-done.done c.count.result (g.O.Sink.seen c.args.out.now).held (g.O.Sink.seen c.write_samples.new.out).held c.write_samples.new.text.items c.push_last_line.new.text.items c.in_ok-done.ensures.left c.in_ok-push_last_line.ensures c.count.ensures.value (sym c.in_ok-done.ensures.length))
    c.flush.ensures.begun

pub returns-clause-begun : goal.returns-clause-begun
returns-clause-begun g c =
    begun_then (g.O.Sink.seen c.args.out.now).held (g.O.Sink.seen c.write_samples.new.out).held (g.O.Sink.seen c.flush.new.out).held (run_text (run_under c.args.circuit.now c.args.stimulus.now)) c.push_last_line.new.text.items
    (printed_last (run_under c.args.circuit.now c.args.stimulus.now) c.in_ok-done.done c.count.result (g.O.Sink.seen c.args.out.now).held (g.O.Sink.seen c.write_samples.new.out).held c.write_samples.new.text.items c.push_last_line.new.text.items c.in_ok-done.ensures.left c.in_ok-push_last_line.ensures c.count.ensures.value (sym c.in_ok-done.ensures.length))
    c.flush.ensures.begun

pub returns-clause-printed : goal.returns-clause-printed
returns-clause-printed g c =
    all_gone (g.O.Sink.seen c.args.out.now).held (g.O.Sink.seen c.write_samples.new.out).held (g.O.Sink.seen c.flush.new.out).held (run_text (run_under c.args.circuit.now c.args.stimulus.now)) c.push_last_line.new.text.items
    (printed_last (run_under c.args.circuit.now c.args.stimulus.now) c.in_ok-done.done c.count.result (g.O.Sink.seen c.args.out.now).held (g.O.Sink.seen c.write_samples.new.out).held c.write_samples.new.text.items c.push_last_line.new.text.items c.in_ok-done.ensures.left c.in_ok-push_last_line.ensures c.count.ensures.value (sym c.in_ok-done.ensures.length))
    c.in_ok-flush.ensures.ok.0
