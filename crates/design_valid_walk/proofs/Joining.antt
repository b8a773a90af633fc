-- What joins an instance to the wires around it fits.
use Rattle.std.proofs.Common.{◌≡◌, ◌+◌, ◌&&◌, not, nat_eq, cond, List, [], ◌∷◌, flat_map, Bool, true, false, Option, Some, None, refl, ap, ◌∙◌, arith}
use Rattle.std.specs.List.{list_all}
use Rattle.std.specs.Option.{is_some}
use Rattle.std.proofs.lemmas.Bool.{and_from, and_parts, eq-eqb}
use Rattle.sim_base.specs.BitValue.{zeros}
use Rattle.circuit.specs.Valid.{drive_fits, driver_fits, net_holds, piece_fits}
use Rattle.circuit.specs.declared.netlist.By.TheVariants as by
use Rattle.circuit.specs.declared.netlist.Drive.{Drive}
use Rattle.circuit.specs.declared.netlist.Piece.{Piece}
use Rattle.rtlil_signals.specs.Signals.{Scope, net_named, net_pieces}
use Rattle.rtlil_signals.specs.declared.scope.NamedNet.{NamedNet}
use Rattle.rtlil_tree.specs.declared.module.Connection.{Connection}
use Rattle.design_parts.specs.Parts.{Made}
use Rattle.design_wires.specs.Connects.{or_none}
use Rattle.design_cells.specs.Joined.{Joined, joined_at, joined_in}
use Rattle.design_instances.specs.Joins.{is_input, join_drives, joined_drives, missing_drives, port_drives, tied, tied_to, zero_drives}
use Rattle.design_instances.specs.Ports.{PortWires, wire_named}
use Rattle.design_valid.specs.Wired.{IsThere, StandsOver}
use Rattle.design_valid.proofs.Driven.{connected_fits}
use Rattle.design_valid.proofs.Lists.{all_both}
use Rattle.design_valid.proofs.Sigs.{net_fits, net_there}
use Rattle.design_valid.proofs.Wiring.{drivers_in}
use Rattle.design_valid_cells.proofs.Ports.{all_fit, joined_fit}

module _ (all : Made) where
  abbrev fit : List Drive → Type 0
  fit ds = list_all (drive_fits (drivers_in all)) ds ≡ true

  tied_fit : (input : Bool) (net sig : List Piece) → list_all (piece_fits all.nets) net ≡ true → list_all (piece_fits all.nets) sig ≡ true → fit (tied input net sig)
  tied_fit true net sig f g = connected_fits (drivers_in all) 0 net sig f g
  tied_fit false net sig f g = connected_fits (drivers_in all) 0 sig net g f

  tied_to_fit : (input : Bool) (o : Option NamedNet) (sig : Option (List Piece)) → ((n : NamedNet) → o ≡ Some n → IsThere all.nets n) → list_all (piece_fits all.nets) (or_none sig) ≡ true → fit (tied_to input o sig)
  tied_to_fit input None sig there f = refl
  tied_to_fit input (Some n) None there f = refl
  tied_to_fit input (Some n) (Some sig) there f = tied_fit input (net_pieces (Some n)) sig (net_fits all.nets (Some n) there) f

  zeros_fit : (o : Option NamedNet) → ((n : NamedNet) → o ≡ Some n → IsThere all.nets n) → fit (zero_drives o)
  zeros_fit None there = refl
  zeros_fit (Some n) there = elim (nat_eq n.width 0) as (λ b. fit (cond b [] ((record { net = n.net; at = 0; width = n.width; by = by.Const (zeros n.width) }) ∷ []))) [
    | true ↦ refl
    | false ↦
        (let z : 0 + n.width ≡ n.width = omega arith in
        let inside : net_holds all.nets n.net (0 + n.width) ≡ true = ap (net_holds all.nets n.net) z ∙ net_there all.nets n (there n refl) in
        and_from (net_holds all.nets n.net (0 + n.width) && driver_fits (drivers_in all) n.width (by.Const (zeros n.width))) true
        (and_from (net_holds all.nets n.net (0 + n.width)) (driver_fits (drivers_in all) n.width (by.Const (zeros n.width))) inside (eq-eqb n.width n.width refl)) refl)
  ]

  module _ (inside : Scope) (stands : StandsOver inside all.nets) (ports : PortWires) where
    ports_fit : (js : List Joined) → all_fit all.nets js ≡ true → fit (flat_map (port_drives inside ports) js)
    ports_fit [] f = refl
    ports_fit (j ∷ js) f =
        let both = and_parts (list_all (piece_fits all.nets) (or_none j.pieces)) (all_fit all.nets js) f in
        all_both (drive_fits (drivers_in all)) (port_drives inside ports j) (flat_map (port_drives inside ports) js)
        (tied_to_fit (is_input (wire_named ports j.port)) (net_named inside j.port) j.pieces (λ n e. stands j.port n e) both.0) (ports_fit js both.1)

    missing_fit : (js : List Joined) (ps : PortWires) → fit (flat_map (missing_drives inside js) ps)
    missing_fit js [] = refl
    missing_fit js (p ∷ ps) =
        all_both (drive_fits (drivers_in all)) (missing_drives inside js p) (flat_map (missing_drives inside js) ps)
        (elim (p.1.is_input && not (is_some (joined_at js p.0))) as (λ b. fit (cond b (zero_drives (net_named inside p.0)) [])) [ true ↦ zeros_fit (net_named inside p.0) (λ n e. stands p.0 n e) | false ↦ refl ])
        (missing_fit js ps)

    pub joins_fit : (around : Scope) → StandsOver around all.nets → (cs : List Connection) → fit (join_drives inside around ports cs)
    unfolding joined_drives
    joins_fit around over cs =
        let js : List Joined = joined_in around cs in
        all_both (drive_fits (drivers_in all)) (flat_map (port_drives inside ports) js) (flat_map (missing_drives inside js) ports) (ports_fit js (joined_fit all.nets around over cs)) (missing_fit js ports)
