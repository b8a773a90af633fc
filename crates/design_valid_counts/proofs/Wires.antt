-- Wires, what joins them, and inputs.
use Rattle.std.proofs.Common.{◌≡◌, ℕ, ◌+◌, ◌≤◌, ◌<◌, cond, List, [], ◌∷◌, ◌++◌, length, Bool, true, false, Option, Some, None, Ok, refl, sym, ap, ◌∙◌, subst, arith, length-append}
use Rattle.std.specs.Prelude.{nat_le, nat_lt}
use Rattle.std.specs.Option.{is_some}
use Rattle.std.proofs.lemmas.Bool.{and_parts, leb-true, ltb-true}
use Rattle.std.proofs.lemmas.List.Sums.{sum_by-cons}
use Rattle.sim_base.specs.BitValue.{zeros}
use Rattle.circuit.specs.declared.netlist.By.TheVariants as by
use Rattle.circuit.specs.declared.netlist.Net.{Net}
use Rattle.rtlil_tree.specs.declared.module.Assignment.{Assignment}
use Rattle.rtlil_tree.specs.declared.module.Statement.{Statement}
use Rattle.rtlil_tree.specs.declared.module.Statement.TheVariants as statement
use Rattle.rtlil_tree.specs.declared.module.Wire.{Wire}
use Rattle.rtlil_signals.specs.Signals.{Scope, net_named}
use Rattle.rtlil_signals.specs.declared.scope.NamedNet.{NamedNet}
use Rattle.design_parts.specs.Parts.{Made, both_made, give, none_made, nothing, run}
use Rattle.design_wires.specs.Connects.{connect, connect_checks, connect_made}
use Rattle.design_wires.specs.Places.{InstancePlace}
use Rattle.design_wires.specs.Wires.{has_room, is_public, most_net_bits, most_nets, name_fits, named, wire, wire_checks, wire_in, wire_made, wire_net, wires}
use Rattle.design_top.specs.Inputs.{input_in, input_made, inputs, net_input, whole_driven}
use Rattle.design_valid.specs.Keeps.{Keeps}
use Rattle.design_valid.proofs.Keeping.{holds_at, keeps_nothing, run_given, run_guarded, run_parts}
use Rattle.design_parts.proofs.Runs.{nothing_ok}
use Rattle.design_valid_counts.specs.Counted.{AreCounted, net_bits}
use Rattle.design_valid_counts.proofs.Added.{counted_both, drives_counted}

-- ---- connections

pub connect_counted : (owner : List ℕ) (scope : Scope) (a : Assignment) → Keeps AreCounted (connect owner scope a)
unfolding connect
connect_counted owner scope a m n e h =
    let made = connect_made scope a in
    let is : n ≡ both_made m made = run_given (λ _. made) m n (run_guarded (λ _. connect_checks owner scope a) (give (λ _. made)) m n e).1 in
    subst AreCounted (sym is) (drives_counted m made h refl refl refl refl refl)

-- ---- wires

wire_counted : (here : InstancePlace) (earlier : Scope) (w : Wire) → Keeps AreCounted (wire here earlier w)
unfolding wire wire_checks
wire_counted here earlier w m n e h =
    let parts = run_guarded (wire_checks here earlier w) (give (wire_made here w)) m n e in
    let room : has_room here.shown w m ≡ true = holds_at (wire_checks here earlier w m) 3 _ parts.0 refl in
    let first = and_parts (nat_lt (length m.nets) most_nets) _ room in
    let second = and_parts (nat_le (net_bits m + w.options.width) most_net_bits) (name_fits here.shown w.name) first.1 in
    let fewer : length m.nets < most_nets = ltb-true (length m.nets) most_nets first.0 in
    let within : net_bits m + w.options.width ≤ most_net_bits = leb-true (net_bits m + w.options.width) most_net_bits second.0 in
    let made : Made = wire_made here w m in
    let one : net_bits made ≡ w.options.width + 0 = sum_by-cons (λ (x : Net). x.width) (wire_net here w) [] in
    subst AreCounted (sym (run_given (wire_made here w) m n parts.1))
    (counted_both m made (record {
      nets = omega (arith, fewer);
      bits = omega (arith, one, within);
      parts = omega (arith, h.parts);
      rows = omega (arith, h.rows);
      scopes = omega (arith, h.scopes);
      inputs = omega (arith, h.inputs);
    }))

wire_in_counted : (here : InstancePlace) (earlier : Scope) (s : Statement) → Keeps AreCounted (wire_in here earlier s)
unfolding wire_in
wire_in_counted here earlier (statement.Wire w) = wire_counted here earlier w
wire_in_counted here earlier (statement.Parameter _) = keeps_nothing AreCounted
wire_in_counted here earlier (statement.Memory _) = keeps_nothing AreCounted
wire_in_counted here earlier (statement.Cell _) = keeps_nothing AreCounted
wire_in_counted here earlier (statement.Connect _) = keeps_nothing AreCounted
wire_in_counted here earlier (statement.Process _) = keeps_nothing AreCounted

pub wires_counted : (here : InstancePlace) (earlier : Scope) (ss : List Statement) → Keeps AreCounted (wires here earlier ss)
unfolding wires run
wires_counted here earlier [] = keeps_nothing AreCounted
wires_counted here earlier (s ∷ ss) = λ m n e h.
    let rest = wires here (earlier ++ named (length m.nets) s) ss in
    let parts = run_parts (wire_in here earlier s) rest m n e in
    wires_counted here (earlier ++ named (length m.nets) s) ss parts.0 n parts.2 (wire_in_counted here earlier s m parts.0 parts.1 h)

-- ---- inputs

-- how many wires there are
abbrev pub wires_at : Statement → ℕ
wires_at (statement.Wire w) = 1
wires_at _ = 0

abbrev pub wire_count : List Statement → ℕ
wire_count [] = 0
wire_count (s ∷ ss) = wires_at s + wire_count ss

-- there are so many nets more
abbrev MoreNets : ℕ → Made → Made → Type 0
MoreNets k m n = (length n.nets ≡ length m.nets + k) × (length n.inputs ≡ length m.inputs)

no_more : (m n : Made) → run nothing m ≡ Ok n → MoreNets 0 m n
no_more m n e =
    let okay : Ok n ≡ Ok m = sym e ∙ nothing_ok m in
    let same : n ≡ m = cc okay in
    let nets = ap (λ (x : Made). length x.nets) same in
    (omega (arith, nets), ap (λ (x : Made). length x.inputs) same)

one_more : (here : InstancePlace) (earlier : Scope) (s : Statement) (m n : Made) → run (wire_in here earlier s) m ≡ Ok n → MoreNets (wires_at s) m n
unfolding wire_in wire
one_more here earlier (statement.Wire w) m n e =
    let parts = run_guarded (wire_checks here earlier w) (give (wire_made here w)) m n e in
    let is = run_given (wire_made here w) m n parts.1 in
    let inputs = length-append m.inputs (let none : List ℕ = [] in none) in
    (ap (λ (x : Made). length x.nets) is ∙ length-append m.nets (wire_net here w ∷ []), omega (arith, ap (λ (x : Made). length x.inputs) is, inputs))
one_more here earlier (statement.Parameter _) m n e = no_more m n e
one_more here earlier (statement.Memory _) m n e = no_more m n e
one_more here earlier (statement.Cell _) m n e = no_more m n e
one_more here earlier (statement.Connect _) m n e = no_more m n e
one_more here earlier (statement.Process _) m n e = no_more m n e

pub wires_more : (here : InstancePlace) (earlier : Scope) (ss : List Statement) (m n : Made) → run (wires here earlier ss) m ≡ Ok n → MoreNets (wire_count ss) m n
unfolding wires run
wires_more here earlier [] m n e = no_more m n e
wires_more here earlier (s ∷ ss) m n e =
    let rest = wires here (earlier ++ named (length m.nets) s) ss in
    let parts = run_parts (wire_in here earlier s) rest m n e in
    let one = one_more here earlier s m parts.0 parts.1 in
    let more = wires_more here (earlier ++ named (length m.nets) s) ss parts.0 n parts.2 in
    (omega (arith, one.0, more.0), more.1 ∙ one.1)

-- what is counted but the inputs, of which there may be so many
pub record Leaves (room : ℕ) (m : Made) : Type 0 where
  pub counted : AreCounted m
  pub left : length m.inputs + room ≤ length m.nets

less_left : (k room : ℕ) (m : Made) → Leaves (k + room) m → Leaves room m
less_left k room m h = record { counted = h.counted; left = omega (arith, h.left) }

input_counted : (net : NamedNet) (w : Wire) (room : ℕ) (m : Made) → Leaves (1 + room) m → Leaves room (both_made m (input_made net w m))
input_counted net w room m h = elim (is_public w.name) as (λ b. Leaves room (both_made m (cond b (record none_made { drives = whole_driven net (by.Input (length m.inputs) 0); inputs = net.net ∷ [] }) (record none_made { drives = whole_driven net (by.Const (zeros net.width)) })))) [
  | true ↦
      (let made : Made = record none_made { drives = whole_driven net (by.Input (length m.inputs) 0); inputs = net.net ∷ [] } in
      let c = h.counted in
      record {
        counted = counted_both m made (record { nets = omega (arith, c.nets); bits = omega (arith, c.bits); parts = omega (arith, c.parts); rows = omega (arith, c.rows); scopes = omega (arith, c.scopes); inputs = omega (arith, h.left) });
        left = omega (arith, h.left, length-append m.inputs (net.net ∷ []), length-append m.nets made.nets);
      })
  | false ↦
      (let made : Made = record none_made { drives = whole_driven net (by.Const (zeros net.width)) } in
      record {
        counted = drives_counted m made h.counted refl refl refl refl refl;
        left = omega (arith, h.left, length-append m.inputs made.inputs, length-append m.nets made.nets);
      })
]

leaves_nothing : (k room : ℕ) (m n : Made) → run nothing m ≡ Ok n → Leaves (k + room) m → Leaves room n
leaves_nothing k room m n e h = keeps_nothing (Leaves room) m n e (less_left k room m h)

net_input_counted : (o : Option NamedNet) (w : Wire) (room : ℕ) (m n : Made) → run (net_input o w) m ≡ Ok n → Leaves (1 + room) m → Leaves room n
net_input_counted None w room m n e h = leaves_nothing 1 room m n e h
net_input_counted (Some net) w room m n e h = by (is_some w.options.input) e
  where
    by : (b : Bool) → run (cond b (give (input_made net w)) nothing) m ≡ Ok n → Leaves room n
    by true ran = subst (Leaves room) (sym (run_given (input_made net w) m n ran)) (input_counted net w room m h)
    by false ran = leaves_nothing 1 room m n ran h

input_in_counted : (scope : Scope) (s : Statement) (room : ℕ) (m n : Made) → run (input_in scope s) m ≡ Ok n → Leaves (wires_at s + room) m → Leaves room n
input_in_counted scope (statement.Wire w) room m n e h = net_input_counted (net_named scope w.name) w room m n e h
input_in_counted scope (statement.Parameter _) room m n e h = leaves_nothing 0 room m n e h
input_in_counted scope (statement.Memory _) room m n e h = leaves_nothing 0 room m n e h
input_in_counted scope (statement.Cell _) room m n e h = leaves_nothing 0 room m n e h
input_in_counted scope (statement.Connect _) room m n e h = leaves_nothing 0 room m n e h
input_in_counted scope (statement.Process _) room m n e h = leaves_nothing 0 room m n e h

pub inputs_counted : (scope : Scope) (ss : List Statement) (m n : Made) → run (inputs scope ss) m ≡ Ok n → Leaves (wire_count ss) m → AreCounted n
unfolding inputs
inputs_counted scope [] m n e h = keeps_nothing AreCounted m n e h.counted
inputs_counted scope (s ∷ ss) m n e h =
    let parts = run_parts (input_in scope s) (inputs scope ss) m n e in
    inputs_counted scope ss parts.0 n parts.2 (input_in_counted scope s (wire_count ss) m parts.0 parts.1 h)
