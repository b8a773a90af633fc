use Rattle.std.proofs.Common.{◌∙◌, List, ap, drop, flat_map, sym}
use Rattle.rtlil_tree.specs.declared.module.Module.{Module}
use Rattle.process_check.specs.Processes.{places_in, process_places}
use Rattle.process_check.proofs.Steps.{first_here}
use Rattle.process_check.proofs.processes.first_process.Goals as goal

pub returns-in-Some : goal.returns-in-Some
returns-in-Some c =
    let modules = c.as_slice-module-items.result.now in
    let at = c.loop-module.module-index in
    let left = c.loop-module.invariant ∙ ap (λ (ms : List Module). flat_map places_in (drop at ms)) (sym c.as_slice-module-items.ensures) in
    first_here places_in (process_places c.args.file.now) modules at c.module-item.result c.in-Some.place c.loop-module-test.true c.module-item.is left c.in-Some.ensures
