use Rattle.std.proofs.Common.{◌∙◌, ap, arith, take, drop}
use Rattle.std.proofs.lemmas.List.{take_rest}
use Rattle.std.specs.Io.KnownBytes.{append_known}
use Rattle.outside.proofs.SinkLemmas.{append_known-take}
use Rattle.outside.proofs.sink.put_all.Goals as goal

pub loop-done-preserved : goal.loop-done-preserved
loop-done-preserved g c = record {
  inside = omega (arith, c.in-Took.ensures.within);
  held = (rw take_rest at c.in-Took.ensures.bytes)
      ∙ ap (λ known. append_known known (take c.in-Took.count (drop c.loop-done.done c.args.bytes.now))) c.loop-done.invariant.held
      ∙ append_known-take (g.K.Sink.seen c.args.sink.now).held c.loop-done.done c.in-Took.count c.args.bytes.now;
  unfailed = c.in-Took.ensures.cause ∙ c.loop-done.invariant.unfailed;
}
