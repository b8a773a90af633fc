-- What is shown of an instance up to its statements.
use Rattle.std.proofs.Common.{◌≡◌, ℕ, ◌+◌, List, [], ◌∷◌, ◌++◌, length, append-nil, None, Result, Ok, refl, sym, ap, subst, ◌∙◌, arith}
use Rattle.circuit.specs.declared.fault.DesignFault.{DesignFault}
use Rattle.circuit.specs.declared.item.Scope.{Scope as Shown}
use Rattle.circuit.specs.declared.netlist.Drive.{Drive}
use Rattle.rtlil_tree.specs.declared.module.Cell.{Cell}
use Rattle.rtlil_tree.specs.declared.module.Module.{Module}
use Rattle.rtlil_tree.specs.declared.module.Statement.{Statement}
use Rattle.rtlil_signals.specs.Signals.{Scope}
use Rattle.design_parts.specs.Parts.{Fails, Made, both_made, none_made, run, ◌>>◌}
use Rattle.design_parts.specs.declared.refusal.Refusal.{Refusal}
use Rattle.design_parts.proofs.Runs.{give_ok, then_fails, then_ok}
use Rattle.design_wires.specs.Places.{InstancePlace}
use Rattle.design_wires.specs.Wires.{scope_of, wires}
use Rattle.design_instances.specs.Joins.{join_drives}
use Rattle.design_instances.specs.Ports.{PortWires, ports_of}
use Rattle.design_walk.specs.Instances.{entered, place_within, scope_of_instance, scopes_within, top_entered, top_place}
use Rattle.design_walk.specs.Walks.{arrival, joins, top_wires}

add_none : (a : ℕ) → a + 0 ≡ a
add_none a = omega arith

same_ok : (a b : Made) → ◌≡◌ {A = Result Made DesignFault} (Ok a) (Ok b) → a ≡ b
same_ok a b e = cc

-- ---- scopes

made_entered : (m : Made) (ss : List Shown) → both_made m (record none_made { scopes = ss; instances = 1 }) ≡ (record m { scopes = m.scopes ++ ss; instances = m.instances + 1 })
made_entered m ss = simp append-nil

made_scopes : (m : Made) (ss : List Shown) → both_made m (record none_made { scopes = ss }) ≡ (record m { scopes = m.scopes ++ ss })
made_scopes m ss = simp (append-nil, add_none)

pub entered_ok : (place : InstancePlace) (m : Module) (c : Cell) (old : Made) → run (entered place m c) old ≡ Ok (record old { scopes = old.scopes ++ scopes_within place.shown m c; instances = old.instances + 1 })
unfolding entered
entered_ok place m c old = give_ok (λ _. record none_made { scopes = scopes_within place.shown m c; instances = 1 }) old ∙ ap Ok (made_entered old (scopes_within place.shown m c))

pub top_entered_ok : (m : Module) (old : Made) → run (top_entered m) old ≡ Ok (record old { scopes = old.scopes ++ scope_of_instance [] m None ∷ [] })
unfolding top_entered
top_entered_ok m old = give_ok (λ _. record none_made { scopes = scope_of_instance [] m None ∷ [] }) old ∙ ap Ok (made_scopes old (scope_of_instance [] m None ∷ []))

-- entering gives no net
entered_nets : (place : InstancePlace) (m : Module) (c : Cell) (old new : Made) → run (entered place m c) old ≡ Ok new → new.nets ≡ old.nets
entered_nets place m c old new e = ap (λ (d : Made). d.nets) (same_ok new _ (sym e ∙ entered_ok place m c old))

top_nets : (m : Module) (old new : Made) → run (top_entered m) old ≡ Ok new → new.nets ≡ old.nets
top_nets m old new e = ap (λ (d : Made). d.nets) (same_ok new _ (sym e ∙ top_entered_ok m old))

-- ---- joins

made_drives : (m : Made) (ds : List Drive) → both_made m (record none_made { drives = ds }) ≡ (record m { drives = m.drives ++ ds })
made_drives m ds = simp (append-nil, add_none)

pub joins_ok : (within around : Scope) (c : Cell) (m : Module) (ports : PortWires) (old : Made) → ports ≡ ports_of m.statements → run (joins within around c m) old ≡ Ok (record old { drives = old.drives ++ join_drives within around ports c.connections })
unfolding joins
joins_ok within around c m ports old same =
    give_ok (λ _. record none_made { drives = join_drives within around (ports_of m.statements) c.connections }) old
    ∙ ap (λ ps. Ok (both_made old (record none_made { drives = join_drives within around ps c.connections }))) (sym same)
    ∙ ap Ok (made_drives old (join_drives within around ports c.connections))

-- ---- an instance

module _ (place : InstancePlace) (around : Scope) (c : Cell) (m : Module) (old : Made) where
  abbrev inner : InstancePlace
  inner = place_within place m.name c.name (length old.scopes)

  abbrev scope : Scope
  scope = scope_of (length old.nets) m.statements

  arrival_is : run (arrival place around c m) old ≡ run (entered place m c >> (wires inner [] m.statements >> joins scope around c m)) old
  unfolding run arrival
  arrival_is = refl

  pub arrival_first : (e : Refusal) → Fails e (run (entered place m c) old) → Fails e (run (arrival place around c m) old)
  arrival_first e h = subst (Fails e) (sym arrival_is) (then_fails (entered place m c) (wires inner [] m.statements >> joins scope around c m) old e h)

  module _ (b : Made) (enters : run (entered place m c) old ≡ Ok b) where
    scope_then : (s : Scope) (ss : List Statement) → ss ≡ m.statements → s ≡ scope_of (length b.nets) ss → s ≡ scope
    scope_then s ss is e = e ∙ ap (scope_of (length b.nets)) is ∙ ap (λ ns. scope_of (length ns) m.statements) (entered_nets place m c old b enters)

    arrival_then : run (arrival place around c m) old ≡ run (wires inner [] m.statements >> joins scope around c m) b
    arrival_then = arrival_is ∙ then_ok (entered place m c) (wires inner [] m.statements >> joins scope around c m) old b enters

    module _ (p : InstancePlace) (ss : List Statement) (stands : p ≡ inner) (is : ss ≡ m.statements) where
      same_wires : run (wires p [] ss) b ≡ run (wires inner [] m.statements) b
      same_wires = ap (λ q. run (wires q [] ss) b) stands ∙ ap (λ xs. run (wires inner [] xs) b) is

      pub arrival_wires : (e : Refusal) → Fails e (run (wires p [] ss) b) → Fails e (run (arrival place around c m) old)
      arrival_wires e h = subst (Fails e) (sym arrival_then) (then_fails (wires inner [] m.statements) (joins scope around c m) b e (subst (Fails e) same_wires h))

      pub arrival_scope : (s : Scope) → s ≡ scope_of (length b.nets) ss → s ≡ scope_of (length old.nets) m.statements
      arrival_scope s e = scope_then s ss is e

      module _ (d : Made) (takes : run (wires p [] ss) b ≡ Ok d) (s : Scope) (names : s ≡ scope_of (length b.nets) ss) where
        pub arrival_joins : run (arrival place around c m) old ≡ run (joins s around c m) d
        arrival_joins =
            arrival_then
            ∙ then_ok (wires inner [] m.statements) (joins scope around c m) b d (sym same_wires ∙ takes)
            ∙ ap (λ k. run (joins k around c m) d) (sym (scope_then s ss is names))

        pub arrival_last : (e : Refusal) → Fails e (run (joins s around c m) d) → Fails e (run (arrival place around c m) old)
        arrival_last e h = subst (Fails e) (sym arrival_joins) h

-- ---- the top

module _ (m : Module) (old : Made) where
  abbrev at_top : InstancePlace
  at_top = top_place m (length old.scopes)

  top_is : run (top_wires m) old ≡ run (top_entered m >> wires at_top [] m.statements) old
  unfolding run top_wires
  top_is = refl

  pub top_first : (e : Refusal) → Fails e (run (top_entered m) old) → Fails e (run (top_wires m) old)
  top_first e h = subst (Fails e) (sym top_is) (then_fails (top_entered m) (wires at_top [] m.statements) old e h)

  module _ (b : Made) (enters : run (top_entered m) old ≡ Ok b) (p : InstancePlace) (ss : List Statement) (stands : p ≡ at_top) (is : ss ≡ m.statements) where
    pub top_then : run (top_wires m) old ≡ run (wires p [] ss) b
    top_then =
        top_is
        ∙ then_ok (top_entered m) (wires at_top [] m.statements) old b enters
        ∙ ap (λ q. run (wires q [] m.statements) b) (sym stands)
        ∙ ap (λ xs. run (wires p [] xs) b) (sym is)

    pub top_last : (e : Refusal) → Fails e (run (wires p [] ss) b) → Fails e (run (top_wires m) old)
    top_last e h = subst (Fails e) (sym top_then) h

    pub top_scope : (s : Scope) → s ≡ scope_of (length b.nets) ss → s ≡ scope_of (length old.nets) m.statements
    top_scope s e = e ∙ ap (scope_of (length b.nets)) is ∙ ap (λ ns. scope_of (length ns) m.statements) (top_nets m old b enters)
