-- Instances, up to their statements.
use Rattle.std.proofs.Common.{◌≡◌, ◌≤◌, ◌<◌, List, [], ◌∷◌, cond, length, true, false, Option, Some, None, Ok, refl, sym, ap, subst, arith}
use Rattle.std.proofs.lemmas.Bool.{ltb-true}
use Rattle.rtlil_signals.specs.Signals.{Scope}
use Rattle.rtlil_tree.specs.declared.module.Cell.{Cell}
use Rattle.rtlil_tree.specs.declared.module.Module.{Module}
use Rattle.design_parts.specs.Parts.{Made, Walk, ◌>>◌, none_made, part_count, run}
use Rattle.design_wires.specs.Places.{InstancePlace, ShownPlace}
use Rattle.design_wires.specs.Texts.{source_text}
use Rattle.design_wires.specs.Wires.{is_public, scope_of, shown_name, wires}
use Rattle.design_cells.specs.Rules.{has_room, most_parts}
use Rattle.design_instances.specs.Instances as instances
use Rattle.design_instances.specs.Joins.{join_drives}
use Rattle.design_instances.specs.Ports.{ports_of}
use Rattle.design_walk.specs.Instances.{entered, instance_checks, place_within, scope_of_instance, scopes_within, top_entered, top_place, type_checks}
use Rattle.design_walk.specs.Walks.{Standing, arrival, joins, top_wires}
use Rattle.design_valid.proofs.Keeping.{holds_at, run_given, run_parts}
use Rattle.design_valid_walk.proofs.Walking.{MayEnter}
use Rattle.design_valid_counts.specs.Counted.{AreCounted}
use Rattle.design_valid_counts.proofs.Added.{counted_both, drives_counted}
use Rattle.design_valid_counts.proofs.Wires.{Leaves, wire_count, wires_counted, wires_more}

-- an instance has one scope at most
few_scopes : (shown : Option ShownPlace) (md : Module) (c : Cell) → length (scopes_within shown md c) ≤ 1
few_scopes None md c = omega arith
few_scopes (Some s) md c = elim (is_public c.name) as (λ b. length (cond b (scope_of_instance (shown_name s c.name) md (source_text c.attributes) ∷ []) []) ≤ 1) [ true ↦ omega arith | false ↦ omega arith ]

entered_counted : (around : InstancePlace) (md : Module) (c : Cell) (m n : Made) → has_room m ≡ true → run (entered around md c) m ≡ Ok n → AreCounted m → AreCounted n
unfolding entered
entered_counted around md c m n room ran h =
    let made : Made = record none_made { scopes = scopes_within around.shown md c; instances = 1 } in
    let fewer : part_count m < most_parts = ltb-true (part_count m) most_parts room in
    let few = few_scopes around.shown md c in
    subst AreCounted (sym (run_given (λ _. made) m n ran))
    (counted_both m made (record { nets = omega (arith, h.nets); bits = omega (arith, h.bits); parts = omega (arith, fewer); rows = omega (arith, h.rows); scopes = omega (arith, few, h.scopes); inputs = omega (arith, h.inputs) }))

joins_counted : (within around : Scope) (c : Cell) (md : Module) (m n : Made) → run (joins within around c md) m ≡ Ok n → AreCounted m → AreCounted n
unfolding joins
joins_counted within around c md m n ran h =
    let made : Made = record none_made { drives = join_drives within around (ports_of md.statements) c.connections } in
    subst AreCounted (sym (run_given (λ _. made) m n ran)) (drives_counted m made h refl refl refl refl refl)

room_to_enter : (ms : List Module) (here : Standing) (c : Cell) (m : Made) → MayEnter ms here c m → has_room m ≡ true
unfolding type_checks instances.joined_checks
room_to_enter ms here c m may = holds_at (instance_checks ms here.ancestors here.place.owner here.scope c m) 6 _ may refl

pub arrival_counted : (place : InstancePlace) (around : Scope) (c : Cell) (md : Module) (m n : Made) → has_room m ≡ true → run (arrival place around c md) m ≡ Ok n → AreCounted m → AreCounted n
unfolding arrival run
arrival_counted place around c md m n room ran h =
    let within : Scope = scope_of (length m.nets) md.statements in
    let here = place_within place md.name c.name (length m.scopes) in
    let lines : Walk = wires here [] md.statements in
    let first = run_parts (entered place md c) (lines >> joins within around c md) m n ran in
    let second = run_parts lines (joins within around c md) first.0 n first.2 in
    joins_counted within around c md second.0 n second.2 (wires_counted here [] md.statements first.0 second.0 second.1 (entered_counted place md c m first.0 room first.1 h))

pub room_inside : (ms : List Module) (here : Standing) (c : Cell) (m : Made) → MayEnter ms here c m → has_room m ≡ true
room_inside ms here c m may = room_to_enter ms here c m may

-- ---- the top

none_counted : AreCounted none_made
none_counted = record { nets = omega arith; bits = omega arith; parts = omega arith; rows = omega arith; scopes = omega arith; inputs = omega arith }

-- behind its wires there may be as many inputs
pub top_counted : (md : Module) (n : Made) → run (top_wires md) none_made ≡ Ok n → Leaves (wire_count md.statements) n
unfolding top_wires top_entered run
top_counted md n ran =
    let here = top_place md 0 in
    let made : Made = record none_made { scopes = scope_of_instance [] md None ∷ [] } in
    let parts = run_parts (top_entered md) (wires here [] md.statements) none_made n ran in
    let is = run_given (λ _. made) none_made parts.0 parts.1 in
    let first : AreCounted parts.0 = subst AreCounted (sym is) (counted_both none_made made (record { nets = omega arith; bits = omega arith; parts = omega arith; rows = omega arith; scopes = omega arith; inputs = omega arith })) in
    let more = wires_more here [] md.statements parts.0 n parts.2 in
    let none : length parts.0.inputs ≡ 0 = ap (λ (x : Made). length x.inputs) is in
    record { counted = wires_counted here [] md.statements parts.0 n parts.2 first; left = omega (arith, more.0, more.1, none) }
