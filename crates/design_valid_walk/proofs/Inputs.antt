-- What drives the inputs of the top fits.
use Rattle.std.proofs.Common.{◌≡◌, ◌+◌, ◌==◌, ◌&&◌, cond, List, [], ◌∷◌, length, Bool, true, false, Option, Some, None, refl, sym, ap, ◌∙◌, subst, arith}
use Rattle.std.specs.List.{list_all}
use Rattle.std.specs.Option.{is_some}
use Rattle.std.proofs.lemmas.Bool.{and_from, eq-eqb}
use Rattle.sim_base.specs.BitValue.{zeros}
use Rattle.circuit.specs.Valid.{drive_fits, driver_fits, input_holds, net_holds}
use Rattle.circuit.specs.declared.netlist.By.{By}
use Rattle.circuit.specs.declared.netlist.By.TheVariants as by
use Rattle.rtlil_tree.specs.declared.module.Statement.{Statement}
use Rattle.rtlil_tree.specs.declared.module.Statement.TheVariants as statement
use Rattle.rtlil_tree.specs.declared.module.Wire.{Wire}
use Rattle.rtlil_signals.specs.Signals.{Scope, net_named}
use Rattle.rtlil_signals.specs.declared.scope.NamedNet.{NamedNet}
use Rattle.design_parts.specs.Parts.{Made, both_made, give, none_made, nothing}
use Rattle.design_wires.specs.Wires.{is_public}
use Rattle.design_top.specs.Inputs.{input_in, input_made, inputs, net_input, whole_driven}
use Rattle.design_valid.specs.Keeps.{Keeps}
use Rattle.design_valid.specs.Wired.{AreWired, IsThere, IsWiredIn}
use Rattle.design_valid.proofs.Keeping.{keeps_both, keeps_nothing, run_given}
use Rattle.design_valid.proofs.Lists.{last_stands}
use Rattle.design_valid.proofs.Sigs.{net_there}
use Rattle.design_valid.proofs.Wiring.{drivers_in, there_more, wired_in_with}

-- what drives all bits of a net that is there
pub whole_fits : (all : Made) (n : NamedNet) (source : By) → IsThere all.nets n → driver_fits (drivers_in all) n.width source ≡ true → list_all (drive_fits (drivers_in all)) (whole_driven n source) ≡ true
whole_fits all n source there fits = elim (n.width == 0) as (λ b. list_all (drive_fits (drivers_in all)) (cond b [] ((record { net = n.net; at = 0; width = n.width; by = source }) ∷ [])) ≡ true) [
  | true ↦ refl
  | false ↦
      (let z : 0 + n.width ≡ n.width = omega arith in
      let inside : net_holds all.nets n.net (0 + n.width) ≡ true = ap (net_holds all.nets n.net) z ∙ net_there all.nets n there in
      and_from (net_holds all.nets n.net (0 + n.width) && driver_fits (drivers_in all) n.width source) true
      (and_from (net_holds all.nets n.net (0 + n.width)) (driver_fits (drivers_in all) n.width source) inside fits) refl)
]

input_wired : (m : Made) (n : NamedNet) (w : Wire) → IsThere m.nets n → AreWired (both_made m (input_made n w m)) (input_made n w m)
input_wired m n w there = elim (is_public w.name) as (λ b. let made = cond b (record none_made { drives = whole_driven n (by.Input (length m.inputs) 0); inputs = n.net ∷ [] }) (record none_made { drives = whole_driven n (by.Const (zeros n.width)) }) in AreWired (both_made m made) made) [
  | true ↦
      (let all : Made = both_made m (record none_made { drives = whole_driven n (by.Input (length m.inputs) 0); inputs = n.net ∷ [] }) in
      let stays : IsThere all.nets n = there_more m.nets [] n there in
      let z : 0 + n.width ≡ n.width = omega arith in
      let held : driver_fits (drivers_in all) n.width (by.Input (length m.inputs) 0) ≡ true = ap (input_holds all.nets (0 + n.width)) (last_stands m.inputs n.net) ∙ ap (net_holds all.nets n.net) z ∙ net_there all.nets n stays in
      record { nets = refl; drives = whole_fits all n (by.Input (length m.inputs) 0) stays held; cells = refl; regs = refl; mems = refl; diags = refl })
  | false ↦
      (let all : Made = both_made m (record none_made { drives = whole_driven n (by.Const (zeros n.width)) }) in
      let stays : IsThere all.nets n = there_more m.nets [] n there in
      record { nets = refl; drives = whole_fits all n (by.Const (zeros n.width)) stays (eq-eqb n.width n.width refl); cells = refl; regs = refl; mems = refl; diags = refl })
]

keeps_net_input : (scope : Scope) (w : Wire) (o : Option NamedNet) → net_named scope w.name ≡ o → Keeps (IsWiredIn scope) (net_input o w)
keeps_net_input scope w None is = keeps_nothing (IsWiredIn scope)
keeps_net_input scope w (Some n) is = by (is_some w.options.input)
  where
    by : (b : Bool) → Keeps (IsWiredIn scope) (cond b (give (input_made n w)) nothing)
    by false = keeps_nothing (IsWiredIn scope)
    by true = λ m k e h. subst (IsWiredIn scope) (sym (run_given (input_made n w) m k e)) (wired_in_with scope m (input_made n w m) h (input_wired m n w (h.stands w.name n is)))

keeps_input_in : (scope : Scope) (s : Statement) → Keeps (IsWiredIn scope) (input_in scope s)
keeps_input_in scope (statement.Wire w) = keeps_net_input scope w (net_named scope w.name) refl
keeps_input_in scope (statement.Parameter _) = keeps_nothing (IsWiredIn scope)
keeps_input_in scope (statement.Memory _) = keeps_nothing (IsWiredIn scope)
keeps_input_in scope (statement.Cell _) = keeps_nothing (IsWiredIn scope)
keeps_input_in scope (statement.Connect _) = keeps_nothing (IsWiredIn scope)
keeps_input_in scope (statement.Process _) = keeps_nothing (IsWiredIn scope)

pub keeps_inputs : (scope : Scope) (ss : List Statement) → Keeps (IsWiredIn scope) (inputs scope ss)
unfolding inputs
keeps_inputs scope [] = keeps_nothing (IsWiredIn scope)
keeps_inputs scope (s ∷ ss) = keeps_both (IsWiredIn scope) (input_in scope s) (inputs scope ss) (keeps_input_in scope s) (keeps_inputs scope ss)
