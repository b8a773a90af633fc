-- An instance that is entered, up to its statements.
use Rattle.std.proofs.Common.{◌≡◌, ℕ, List, [], ◌∷◌, ◌++◌, length, Ok, None, refl, sym, ap, subst, arith, length-append}
use Rattle.circuit.specs.declared.netlist.Drive.{Drive}
use Rattle.circuit.specs.declared.netlist.Net.{Net}
use Rattle.rtlil_signals.specs.Signals.{Scope}
use Rattle.rtlil_tree.specs.declared.module.Cell.{Cell}
use Rattle.rtlil_tree.specs.declared.module.Module.{Module}
use Rattle.rtlil_tree.specs.declared.module.Statement.{Statement}
use Rattle.design_parts.specs.Parts.{Made, Walk, ◌>>◌, both_made, none_made, run}
use Rattle.design_wires.specs.Places.{InstancePlace}
use Rattle.design_wires.specs.Wires.{scope_of, wires}
use Rattle.design_instances.specs.Joins.{join_drives}
use Rattle.design_instances.specs.Ports.{ports_of}
use Rattle.design_walk.specs.Instances.{entered, place_within, scope_of_instance, scopes_within, top_entered, top_place}
use Rattle.design_walk.specs.Walks.{arrival, joins, top_wires}
use Rattle.design_valid.specs.Wired.{IsWired, IsWiredIn, StandsOver}
use Rattle.design_valid.proofs.Keeping.{run_given, run_parts}
use Rattle.design_valid.proofs.Wires.{keeps_wires, wires_stand}
use Rattle.design_valid.proofs.Wiring.{drives_wired, stands_more, wired_with}
use Rattle.design_valid_walk.proofs.Growing.{Grew, grew_by, grew_twice}
use Rattle.design_valid_walk.proofs.Joining.{joins_fit}

pub stands_behind : (scope : Scope) (before behind : Made) → Grew before behind → StandsOver scope before.nets → StandsOver scope behind.nets
stands_behind scope before behind grew stands = subst (λ (m : Made). StandsOver scope m.nets) (sym grew.1) (stands_more scope before.nets grew.0.nets stands)

-- ---- what has no nets and no parts

no_more : (m n : Made) (nets : List Net) → n.nets ≡ m.nets ++ [] → length n.nets ≡ length m.nets
no_more m n nets e = let none = length-append m.nets (let no : List Net = [] in no) in omega (arith, ap length e, none)

module _ (around : InstancePlace) (md : Module) (c : Cell) (m n : Made) (ran : run (entered around md c) m ≡ Ok n) where
  entered_is : n ≡ both_made m (record none_made { scopes = scopes_within around.shown md c; instances = 1 })
  unfolding entered
  entered_is = run_given (λ _. record none_made { scopes = scopes_within around.shown md c; instances = 1 }) m n ran

  entered_wired : IsWired m → IsWired n
  entered_wired h = subst IsWired (sym entered_is) (wired_with m (record none_made { scopes = scopes_within around.shown md c; instances = 1 }) h (record { nets = refl; drives = refl; cells = refl; regs = refl; mems = refl; diags = refl }))

  entered_nets : length n.nets ≡ length m.nets
  entered_nets = no_more m n m.nets (ap (λ (x : Made). x.nets) entered_is)

module _ (md : Module) (m n : Made) (ran : run (top_entered md) m ≡ Ok n) where
  top_is : n ≡ both_made m (record none_made { scopes = scope_of_instance [] md None ∷ [] })
  unfolding top_entered
  top_is = run_given (λ _. record none_made { scopes = scope_of_instance [] md None ∷ [] }) m n ran

  top_entered_wired : IsWired m → IsWired n
  top_entered_wired h = subst IsWired (sym top_is) (wired_with m (record none_made { scopes = scope_of_instance [] md None ∷ [] }) h (record { nets = refl; drives = refl; cells = refl; regs = refl; mems = refl; diags = refl }))

  top_entered_nets : length n.nets ≡ length m.nets
  top_entered_nets = no_more m n m.nets (ap (λ (x : Made). x.nets) top_is)

-- ---- wires behind them

-- the wires of a module, where so many nets stand before them
wired_behind : (place : InstancePlace) (ss : List Statement) (first : ℕ) (m n : Made) → length m.nets ≡ first → run (wires place [] ss) m ≡ Ok n → IsWired m → IsWiredIn (scope_of first ss) n
wired_behind place ss first m n count ran h = record {
  wired = keeps_wires place [] ss m n ran h;
  stands = subst (λ (k : ℕ). StandsOver (scope_of k ss) n.nets) count (wires_stand place [] ss m n ran);
}

-- what joins them to the wires around
joined_behind : (within around : Scope) (c : Cell) (md : Module) (m n : Made) → run (joins within around c md) m ≡ Ok n → StandsOver around m.nets → IsWiredIn within m → IsWiredIn within n
unfolding joins
joined_behind within around c md m n ran over h =
    let ds : List Drive = join_drives within around (ports_of md.statements) c.connections in
    let made : Made = record none_made { drives = ds } in
    let all : Made = both_made m made in
    let is = run_given (λ _. made) m n ran in
    let stands = stands_more within m.nets [] h.stands in
    subst (IsWiredIn within) (sym is) (record {
      wired = wired_with m made h.wired (drives_wired m ds (joins_fit all within stands (ports_of md.statements) around (stands_more around m.nets [] over) c.connections));
      stands = stands;
    })

pub arrived : (place : InstancePlace) (around : Scope) (c : Cell) (md : Module) (m n : Made) → run (arrival place around c md) m ≡ Ok n → IsWiredIn around m → IsWiredIn (scope_of (length m.nets) md.statements) n
unfolding arrival run
arrived place around c md m n ran h =
    let within : Scope = scope_of (length m.nets) md.statements in
    let here = place_within place md.name c.name (length m.scopes) in
    let lines : Walk = wires here [] md.statements in
    let first = run_parts (entered place md c) (lines >> joins within around c md) m n ran in
    let second = run_parts lines (joins within around c md) first.0 n first.2 in
    let grew = grew_twice m first.0 second.0 (grew_by (entered place md c) m first.0 first.1) (grew_by lines first.0 second.0 second.1) in
    let wired = wired_behind here md.statements (length m.nets) first.0 second.0 (entered_nets place md c m first.0 first.1) second.1 (entered_wired place md c m first.0 first.1 h.wired) in
    joined_behind within around c md second.0 n second.2 (stands_behind around m second.0 grew h.stands) wired

pub top_arrived : (md : Module) (m n : Made) → run (top_wires md) m ≡ Ok n → IsWired m → IsWiredIn (scope_of (length m.nets) md.statements) n
unfolding top_wires run
top_arrived md m n ran h =
    let here = top_place md (length m.scopes) in
    let parts = run_parts (top_entered md) (wires here [] md.statements) m n ran in
    wired_behind here md.statements (length m.nets) parts.0 n (top_entered_nets md m parts.0 parts.1) parts.2 (top_entered_wired md m parts.0 parts.1 h)
