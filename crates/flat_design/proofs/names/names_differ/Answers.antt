use Rattle.std.proofs.Common.{arith}
use Rattle.flat_design.proofs.Distinct.{distinct_stop, distinct_next, distinct_all}
use Rattle.flat_design.proofs.names.names_differ.Goals as goal

pub returns-then-has_name : goal.returns-then-has_name
returns-then-has_name g c =
    distinct_stop g.T.Named.name_of c.args.items.now c.loop-i.i c.index-items-i.result (omega arith) c.index-items-i.is c.name.result.now c.name.ensures c.has_name.result c.has_name.ensures c.loop-i.invariant c.if-has_name.true

pub loop-i-preserved : goal.loop-i-preserved
loop-i-preserved g c =
    distinct_next g.T.Named.name_of c.args.items.now c.loop-i.i c.index-items-i.result (omega arith) c.index-items-i.is c.name.result.now c.name.ensures c.has_name.result c.has_name.ensures c.loop-i.invariant c.if-has_name.false

pub returns : goal.returns
returns g c = distinct_all g.T.Named.name_of c.args.items.now c.loop-i.i (omega arith) c.loop-i.invariant
