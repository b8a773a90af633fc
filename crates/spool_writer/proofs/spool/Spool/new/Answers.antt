use Rattle.std.proofs.Common.{◌≡◌, length, ap, arith}
use Rattle.std.specs.Arc.{arc_value}
use Rattle.sim_base.specs.Shape.{words_of_widths}
use Rattle.spool_writer.proofs.Growth.{nothing_grown, nothing_seen}
use Rattle.spool_writer.proofs.spool.Spool.new.Goals as goal

pub invariant_of-result : goal.invariant_of-result
invariant_of-result c =
    let room : length c.new-words.result ≡ words_of_widths (arc_value c.args.shape) =
    omega (arith, ap length c.new-words.ensures, ap words_of_widths c.deref.ensures, c.words.ensures.value, c.in_ok-vec.ensures.len) in
    nothing_grown (arc_value c.args.shape) c.new.result c.new-2.result.items c.new-words.result c.zero.result c.new.ensures c.new-2.ensures.items room

pub returns : goal.returns
returns c = nothing_seen (arc_value c.args.shape) c.new.result c.new-2.result.items c.new.ensures c.new-2.ensures.items
