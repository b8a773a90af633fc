use Rattle.std.proofs.Common.{◌≡◌, ◌∙◌, true, ap, sym, arith, None, Some}
use Rattle.std.proofs.lemmas.Grind.{common_steps}
use Rattle.cell_library.specs.Checks.{first_fault}
use Rattle.cell_library.specs.Table.{seen}
use Rattle.design_cells.specs.Joined.{seen_ports}
use Rattle.design_cells.specs.Rules.{has_room, kind_checks}
use Rattle.design_cells.proofs.Orders.{limits_hold, located_fails, located_none, room_holds}
use Rattle.design_cells.proofs.allowed.allowed.Goals as goal

pub returns-in-Ok-clause-passes : goal.returns-in-Ok-clause-passes
returns-in-Ok-clause-passes c =
    let cs = kind_checks (seen c.args.line.now) c.args.settings.now (seen_ports c.args.joined.now) (has_room c.args.draft.now) in
    let none : first_fault cs ≡ None = grind (arith, common_steps) in
    located_none c.args.owner.now c.args.item.now cs none

pub returns-in-Ok-clause-cells : goal.returns-in-Ok-clause-cells
returns-in-Ok-clause-cells c =
    let none : first_fault (kind_checks (seen c.args.line.now) c.args.settings.now (seen_ports c.args.joined.now) (has_room c.args.draft.now)) ≡ None = grind (arith, common_steps) in
    let room = room_holds (seen c.args.line.now) c.args.settings.now (seen_ports c.args.joined.now) (has_room c.args.draft.now) none in
    grind (arith, common_steps, room)

pub returns-in-Ok-clause-registers : goal.returns-in-Ok-clause-registers
returns-in-Ok-clause-registers c =
    let none : first_fault (kind_checks (seen c.args.line.now) c.args.settings.now (seen_ports c.args.joined.now) (has_room c.args.draft.now)) ≡ None = grind (arith, common_steps) in
    let room = room_holds (seen c.args.line.now) c.args.settings.now (seen_ports c.args.joined.now) (has_room c.args.draft.now) none in
    grind (arith, common_steps, room)

pub returns-in-Err-clause-passes : goal.returns-in-Err-clause-passes
returns-in-Err-clause-passes c =
    let cs = kind_checks (seen c.args.line.now) c.args.settings.now (seen_ports c.args.joined.now) (has_room c.args.draft.now) in
    let some : first_fault cs ≡ Some c.in-Err.kind = grind (arith, common_steps) in
    located_fails c.args.owner.now c.args.item.now cs c.in-Err.kind c.refused_at.result some c.refused_at.ensures

pub returns-in-Ok-clause-limits : goal.returns-in-Ok-clause-limits
returns-in-Ok-clause-limits c =
    let none : first_fault (kind_checks (seen c.args.line.now) c.args.settings.now (seen_ports c.args.joined.now) (has_room c.args.draft.now)) ≡ None = grind (arith, common_steps) in
    limits_hold (seen c.args.line.now) c.args.settings.now (seen_ports c.args.joined.now) (has_room c.args.draft.now) none
