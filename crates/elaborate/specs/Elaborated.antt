-- The circuit of a file.
use Rattle.std.specs.Prelude.{◌≡◌, ℕ, List, [], Option, Some, None, Result, Ok, Err, slice_get}
use Rattle.std.specs.Option.{option_and_then}
use Rattle.circuit.specs.declared.fault.DesignFault.{DesignFault}
use Rattle.circuit.specs.declared.netlist.Circuit.{Circuit}
use Rattle.rtlil_tree.specs.declared.module.Module.{Module}
use Rattle.design_parts.specs.Parts.{Fails, Made, Walk, circuit_of, guard, none_made, nothing, run}
use Rattle.design_parts.specs.declared.refusal.Refusal.{Refusal}
use Rattle.design_top.specs.Inputs.{inputs}
use Rattle.design_top.specs.Names.{name_checks}
use Rattle.design_top.specs.Tops.{top_checks, top_number}
use Rattle.design_walk.specs.Walks.{top_walk}
use Rattle.design_finish.specs.Finished.{IsFinished}

-- the module that is the top: that of this name, if one is given
abbrev pub top_module : List Module → Option (List ℕ) → Option Module
top_module ms name = option_and_then (slice_get ms) (top_number ms name)

-- the walk from the top, whose inputs are driven between its wires and its other statements
abbrev pub walk_of : List Module → Module → Walk
walk_of ms top = top_walk (λ scope. inputs scope top.statements) ms top

abbrev pub walk_from : List Module → Option Module → Walk
walk_from ms None = nothing
walk_from ms (Some top) = walk_of ms top

-- all that modules of a file give: the checks of the top, then those of the names of modules, then the walk
unfoldable pub whole_walk : List Module → Option (List ℕ) → Walk
whole_walk ms name = guard (λ _. top_checks ms name) (guard (λ _. name_checks [] ms) (walk_from ms (top_module ms name)))

-- the lists that they give, or the first check that fails
abbrev pub whole_made : List Module → Option (List ℕ) → Result Made DesignFault
whole_made ms name = run (whole_walk ms name) none_made

-- a circuit is that of the lists that were made
abbrev pub IsCircuitOf : Made → Circuit → Type 0
IsCircuitOf m c = IsFinished (circuit_of m) m.inits c

-- modules of a file give a circuit where no check fails, and else the first fault; want of memory is free
abbrev pub IsElaborated : List Module → Option (List ℕ) → Result Circuit Refusal → Type 0
IsElaborated ms name (Ok c) = (m : Made) × (whole_made ms name ≡ Ok m) × IsCircuitOf m c
IsElaborated ms name (Err e) = Fails e (whole_made ms name)
