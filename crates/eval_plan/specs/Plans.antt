-- The plan of a circuit.
use Rattle.std.specs.Prelude.{◌≡◌, true}
use Rattle.circuit.specs.Acyclic.{IsInOrder}
use Rattle.circuit.specs.Valid.{is_valid}
use Rattle.circuit.specs.declared.netlist.Circuit.{Circuit}
use Rattle.eval_plan.specs.Ordered.{IsOrdered}
use Rattle.eval_plan.specs.Readers.{AreReaders, DoReadersFollow}
use Rattle.eval_plan.specs.Roots.{AreRoots}
use Rattle.eval_plan.specs.Sources.{AreSources}
use Rattle.eval_plan.specs.declared.plan.Plan.{Plan}

-- a plan of a valid circuit in order
pub record IsPlanOf (c : Circuit) (plan : Plan) : Type 0 where
  pub valid : is_valid c ≡ true
  pub order : IsInOrder c
  -- each node once, behind all that it depends on
  pub nodes : IsOrdered c plan.nodes
  -- what gives the bits of the nets
  pub roots : AreRoots c plan.roots
  -- for each source the roots that take from it
  pub sources : AreSources c plan.roots plan.sources
  -- for each root the nodes that read it, which stand behind the node that it takes from
  pub readers : AreReaders c plan.nodes plan.roots plan.readers
  pub follow : DoReadersFollow plan.nodes plan.roots plan.readers
