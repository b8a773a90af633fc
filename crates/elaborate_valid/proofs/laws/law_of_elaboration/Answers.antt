use Rattle.std.proofs.Common.{◌<◌, subst}
use Rattle.std.specs.Prelude.{◌^◌}
use Rattle.circuit.specs.Valid.{node_count}
use Rattle.circuit.specs.declared.netlist.Circuit.{Circuit}
use Rattle.circuit.proofs.Grown.{all_at}
use Rattle.design_parts.specs.Parts.{circuit_of}
use Rattle.rtlil_names.specs.Names.{is_well_named}
use Rattle.elaborate_valid.proofs.Tops.{top_walked}
use Rattle.elaborate_valid.proofs.laws.law_of_elaboration.Goals as goal

pub returns : goal.returns
returns c ms name circuit built names nodes =
    let made = built.0 in
    let walked = top_walked ms name made built.1 in
    let few : node_count (circuit_of made) < 2 ^ 32 = subst (λ (x : Circuit). node_count x < 2 ^ 32) built.2.whole nodes in
    c.law_of_finishing.ensures.valid (circuit_of made) circuit made.inits built.2 (c.law_of_readiness.ensures ms walked.0 made names (all_at is_well_named ms names walked.1 walked.0 walked.2) walked.3 few)
