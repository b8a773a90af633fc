-- Wires and connections keep that all fits together, and names of wires stand for nets that are there.
use Rattle.std.proofs.Common.{◌≡◌, ℕ, ◌+◌, List, [], ◌∷◌, ◌++◌, length, true, Option, Some, None, Ok, refl, sym, ◌∙◌, ap, subst, arith, length-append}
use Rattle.std.specs.Prelude.{slice_get, nat_le}
use Rattle.std.specs.List.{list_all}
use Rattle.circuit.specs.Valid.{piece_fits, widest}
use Rattle.circuit.specs.declared.netlist.Net.{Net}
use Rattle.circuit.specs.declared.netlist.Piece.{Piece}
use Rattle.circuit.proofs.Grown.{appended_stands}
use Rattle.rtlil_tree.specs.declared.module.Assignment.{Assignment}
use Rattle.rtlil_tree.specs.declared.module.Statement.{Statement}
use Rattle.rtlil_tree.specs.declared.module.Statement.TheVariants as statement
use Rattle.rtlil_tree.specs.declared.module.Wire.{Wire}
use Rattle.rtlil_signals.specs.Signals.{Scope, sig_pieces}
use Rattle.design_parts.specs.Parts.{Made, both_made, give, nothing, run}
use Rattle.design_parts.proofs.Runs.{nothing_ok}
use Rattle.design_wires.specs.Connects.{connect, connect_checks, connect_made, or_none}
use Rattle.design_wires.specs.Places.{InstancePlace}
use Rattle.design_wires.specs.Wires.{named, named_net, scope_of, wire, wire_checks, wire_in, wire_made, wire_net, wires}
use Rattle.design_valid.specs.Keeps.{Keeps}
use Rattle.design_valid.specs.Wired.{IsThere, IsWired, IsWiredIn, StandsOver}
use Rattle.design_valid.proofs.Driven.{connected_fits}
use Rattle.design_valid.proofs.Keeping.{holds_at, keeps_nothing, run_given, run_guarded, run_is, run_parts}
use Rattle.design_valid.proofs.Lists.{all_one, last_stands}
use Rattle.design_valid.proofs.Sigs.{IsFitting, sig_fits_over}
use Rattle.design_valid.proofs.Wiring.{drivers_in, drives_wired, stands_first, stands_more, stands_none, wired_in_with, wired_with}

-- ---- a connection

pub some_fits : (nets : List Net) (o : Option (List Piece)) → IsFitting nets o → list_all (piece_fits nets) (or_none o) ≡ true
some_fits nets None h = refl
some_fits nets (Some ps) h = h

pub keeps_connect : (owner : List ℕ) (scope : Scope) (a : Assignment) → Keeps (IsWiredIn scope) (connect owner scope a)
unfolding connect
keeps_connect owner scope a m n e h =
    let made = connect_made scope a in
    let from = drivers_in (both_made m made) in
    let stands = stands_more scope m.nets [] h.stands in
    let is : n ≡ both_made m made = run_given (λ _. made) m n (run_guarded (λ _. connect_checks owner scope a) (give (λ _. made)) m n e).1 in
    let left = some_fits from.nets (sig_pieces scope a.left) (sig_fits_over from.nets scope stands a.left) in
    let right = some_fits from.nets (sig_pieces scope a.right) (sig_fits_over from.nets scope stands a.right) in
    subst (IsWiredIn scope) (sym is)
    (wired_in_with scope m made h (drives_wired m made.drives (connected_fits from 0 (or_none (sig_pieces scope a.left)) (or_none (sig_pieces scope a.right)) left right)))

-- ---- wires

module _ (here : InstancePlace) (earlier : Scope) (w : Wire) where
  wire_is : (m n : Made) → run (wire here earlier w) m ≡ Ok n → (nat_le w.options.width widest ≡ true) × (n ≡ both_made m (wire_made here w m))
  unfolding wire wire_checks
  wire_is m n e =
      let parts = run_guarded (wire_checks here earlier w) (give (wire_made here w)) m n e in
      (holds_at (wire_checks here earlier w m) 2 _ parts.0 refl, run_given (wire_made here w) m n parts.1)

  keeps_wire : Keeps IsWired (wire here earlier w)
  keeps_wire m n e h =
      let is = wire_is m n e in
      subst IsWired (sym is.1) (wired_with m (wire_made here w m) h (record { nets = all_one (λ (x : Net). nat_le x.width widest) (wire_net here w) is.0; drives = refl; cells = refl; regs = refl; mems = refl; diags = refl }))

keeps_wire_in : (here : InstancePlace) (earlier : Scope) (s : Statement) → Keeps IsWired (wire_in here earlier s)
unfolding wire_in
keeps_wire_in here earlier (statement.Wire w) = keeps_wire here earlier w
keeps_wire_in here earlier (statement.Parameter _) = keeps_nothing IsWired
keeps_wire_in here earlier (statement.Memory _) = keeps_nothing IsWired
keeps_wire_in here earlier (statement.Cell _) = keeps_nothing IsWired
keeps_wire_in here earlier (statement.Connect _) = keeps_nothing IsWired
keeps_wire_in here earlier (statement.Process _) = keeps_nothing IsWired

pub keeps_wires : (here : InstancePlace) (earlier : Scope) (ss : List Statement) → Keeps IsWired (wires here earlier ss)
unfolding wires run
keeps_wires here earlier [] = keeps_nothing IsWired
keeps_wires here earlier (s ∷ ss) = λ m n e h.
    let rest = wires here (earlier ++ named (length m.nets) s) ss in
    let parts = run_parts (wire_in here earlier s) rest m n e in
    keeps_wires here (earlier ++ named (length m.nets) s) ss parts.0 n parts.2 (keeps_wire_in here earlier s m parts.0 parts.1 h)

-- ---- what their names stand for

-- a statement that is no wire gives nothing and names nothing
nothing_is : (m n : Made) → run nothing m ≡ Ok n → m ≡ n
nothing_is m n e = let same : Ok m ≡ Ok n = sym (nothing_ok m) ∙ e in cc same

-- one statement: its name stands for a net that is there behind it, and there are as many nets more as it names
abbrev NamedOver : Statement → Made → Made → Type 0
NamedOver s m n = (length n.nets ≡ length m.nets + length (named (length m.nets) s))
    × ((scope : Scope) (more : List Net) → StandsOver scope (n.nets ++ more) → StandsOver (named (length m.nets) s ++ scope) (n.nets ++ more))

none_named : (m n : Made) → run nothing m ≡ Ok n → (length n.nets ≡ length m.nets + 0) × ((scope : Scope) (more : List Net) → StandsOver scope (n.nets ++ more) → StandsOver scope (n.nets ++ more))
none_named m n e =
    let same = ap (λ (x : Made). length x.nets) (nothing_is m n e) in
    (omega (arith, same), λ scope more h. h)

wire_named : (here : InstancePlace) (earlier : Scope) (w : Wire) (m n : Made) → run (wire here earlier w) m ≡ Ok n → NamedOver (statement.Wire w) m n
wire_named here earlier w m n e =
    let nets : n.nets ≡ m.nets ++ wire_net here w ∷ [] = ap (λ (x : Made). x.nets) (wire_is here earlier w m n e).1 in
    let first : (more : List Net) → IsThere (n.nets ++ more) (named_net (length m.nets) w) = λ more. record {
      net = wire_net here w;
      found = ap (λ (xs : List Net). slice_get (xs ++ more) (length m.nets)) nets ∙ appended_stands (m.nets ++ wire_net here w ∷ []) more (length m.nets) (wire_net here w) (last_stands m.nets (wire_net here w));
      width = refl;
    } in
    (ap length nets ∙ length-append m.nets (wire_net here w ∷ []), λ scope more h. stands_first (n.nets ++ more) w.name (named_net (length m.nets) w) scope (first more) h)

statement_named : (here : InstancePlace) (earlier : Scope) (s : Statement) (m n : Made) → run (wire_in here earlier s) m ≡ Ok n → NamedOver s m n
unfolding wire_in
statement_named here earlier (statement.Wire w) m n e = wire_named here earlier w m n e
statement_named here earlier (statement.Parameter _) m n e = none_named m n e
statement_named here earlier (statement.Memory _) m n e = none_named m n e
statement_named here earlier (statement.Cell _) m n e = none_named m n e
statement_named here earlier (statement.Connect _) m n e = none_named m n e
statement_named here earlier (statement.Process _) m n e = none_named m n e

-- the wires of an instance stand over the nets behind them
pub wires_stand : (here : InstancePlace) (earlier : Scope) (ss : List Statement) (m n : Made) → run (wires here earlier ss) m ≡ Ok n → StandsOver (scope_of (length m.nets) ss) n.nets
unfolding wires run
wires_stand here earlier [] m n e = stands_none n.nets
wires_stand here earlier (s ∷ ss) m n e =
    let rest = wires here (earlier ++ named (length m.nets) s) ss in
    let parts = run_parts (wire_in here earlier s) rest m n e in
    let between : Made = parts.0 in
    let one = statement_named here earlier s m between parts.1 in
    let later = wires_stand here (earlier ++ named (length m.nets) s) ss between n parts.2 in
    let more = (rest between).made.nets in
    let nets : n.nets ≡ between.nets ++ more = ap (λ (x : Made). x.nets) (run_is rest between n parts.2) in
    let behind = subst (λ (k : ℕ). StandsOver (scope_of k ss) n.nets) one.0 later in
    subst (StandsOver (scope_of (length m.nets) (s ∷ ss))) (sym nets)
    (one.1 (scope_of (length m.nets + length (named (length m.nets) s)) ss) more (subst (StandsOver (scope_of (length m.nets + length (named (length m.nets) s)) ss)) nets behind))
