use Rattle.std.proofs.Common.{◌≡◌, List, ◌++◌, ◌∷◌, [], sym, subst, arith}
use Rattle.driver_check.specs.Numbers.{read_count}
use Rattle.driver_check.specs.Nodes.{ArePlaced}
use Rattle.driver_check.specs.declared.parts.Node.{Node}
use Rattle.driver_check.specs.declared.parts.Node.TheVariants as node
use Rattle.driver_check.proofs.Places.{length_pushed}
use Rattle.driver_check.proofs.Numbered.{before_next}
use Rattle.driver_check.proofs.Placed.{placed_more}
use Rattle.driver_check.proofs.parts.push_ports.Goals as goal

pub loop-port-preserved : goal.loop-port-preserved
loop-port-preserved c =
    let nodes = c.loop-port.nodes.items in
    let n : Node = node.Read c.args.place c.loop-port.port in
    let items : c.push.new.self.items ≡ nodes ++ n ∷ [] = c.in_ok-push.ensures.items in
    record {
      long = (let e = length_pushed nodes c.push.new.self.items n items in omega (arith, e, c.loop-port.invariant.long));
      placed = subst (λ (xs : List Node). ArePlaced c.args.circuit.now xs) (sym items)
          (placed_more c.args.circuit.now nodes n c.loop-port.invariant.placed (c.args.mem.now, c.requires.there, omega arith) (sym c.loop-port.invariant.long));
    }

pub returns-clause-long : goal.returns-clause-long
returns-clause-long c =
    let next = before_next read_count c.args.circuit.now.mems c.args.place c.args.mem.now c.requires.there in
    omega (arith, next, c.loop-port.invariant.long)
