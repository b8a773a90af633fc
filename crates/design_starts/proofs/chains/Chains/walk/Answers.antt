use Rattle.std.proofs.Common.{refl, ◌∙◌, subst}
use Rattle.driver_check.specs.Depends.{Bit}
use Rattle.design_starts.specs.Chains.{IsOnWay}
use Rattle.design_starts.specs.declared.taken.Taken.{Taken}
use Rattle.design_starts.proofs.Walks.{way_begins}
use Rattle.design_starts.proofs.chains.Chains.walk.Goals as goal

pub wires-init : goal.wires-init
wires-init c =
    let from : Bit = (c.args.from.0, c.args.from.1) in
    record {
      places = refl;
      long = refl;
      way = way_begins c.args.circuit.now from c.args.self.now.table.items c.args.path.now.items c.requires.path c.requires.table;
    }

pub wires-preserved : goal.wires-preserved
wires-preserved c =
    let from : Bit = (c.args.from.0, c.args.from.1) in
    record {
      places = c.step.ensures.places ∙ c.wires.invariant.places;
      long = c.step.ensures.long ∙ c.wires.invariant.long;
      way = c.in_ok-found.ensures.way from (subst (λ (t : Taken). IsOnWay c.args.circuit.now from c.wires.self.table.items c.wires.path.items t) c.in-Bit.is c.wires.invariant.way);
    }
