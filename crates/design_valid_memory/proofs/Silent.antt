-- A cell that drives nothing keeps that all fits together.
use Rattle.std.proofs.Common.{◌≡◌, ℕ, ◌≤◌, ◌==◌, ◌&&◌, ◌||◌, not, List, cond, Bool, true, false, Option, Some, None, refl, sym, ◌∙◌, ap, subst, arith, length, bytes_eq}
use Rattle.std.specs.Prelude.{nat_le}
use Rattle.std.specs.Option.{is_some}
use Rattle.std.proofs.lemmas.Bool.{and_from, and_parts, eq-eqb, leb-true}
use Rattle.std.proofs.lemmas.Bool.Decides.{Decides-eqb}
use Rattle.std.proofs.lemmas.List.FromFn.{length-map-range_with_len}
use Rattle.std.proofs.lemmas.Slice.Eq.{bytes_eq-Decides}
use Rattle.sim_base.specs.BitValue.{BitValue}
use Rattle.circuit.specs.Signal.{sig_width}
use Rattle.circuit.specs.Valid.{sig_fits, sig_of, trigger_fits, widest}
use Rattle.circuit.specs.declared.diagnostic.Diag.{Diag}
use Rattle.circuit.specs.declared.netlist.Net.{Net}
use Rattle.circuit.proofs.Grown.{all_at}
use Rattle.rtlil_signals.specs.Signals.{Scope}
use Rattle.rtlil_tree.specs.declared.module.Attribute.{Attribute}
use Rattle.rtlil_tree.specs.declared.module.Cell.{Cell}
use Rattle.rtlil_tree.specs.declared.module.Setting.{Setting}
use Rattle.design_parts.specs.Parts.{Made, both_made, give}
use Rattle.design_wires.specs.Connects.{or_none}
use Rattle.design_wires.specs.Places.{InstancePlace}
use Rattle.design_cells.specs.Cells.{signal_or_zeros}
use Rattle.design_cells.specs.Joined.{Joined, joined_at, joined_in}
use Rattle.design_memory.specs.Settings.{is_set}
use Rattle.design_diagnostics.specs.Diagnostics.{diagnostic_of, rising_of, signal_at, silent_cell, silent_made, taken, trigger_if, trigger_of}
use Rattle.design_diagnostics.specs.Names.{port_name}
use Rattle.design_diagnostics.specs.Readings.{cell_text, number_at, reading_of, value_at}
use Rattle.design_diagnostics.specs.Rules.{are_joined, are_narrow, has_width, is_joined, is_narrow_trigger, port_width, silent_checks}
use Rattle.design_diagnostics.specs.declared.names.Parameter.TheVariants as parameter
use Rattle.design_diagnostics.specs.declared.names.Port.{Port}
use Rattle.design_diagnostics.specs.declared.names.Port.TheVariants as port
use Rattle.design_diagnostics.specs.declared.names.SilentType.{SilentType}
use Rattle.design_diagnostics.specs.declared.reading.Reading.{Reading}
use Rattle.design_valid.specs.Keeps.{Keeps}
use Rattle.design_valid.specs.Wired.{AreWired, IsWiredIn, diag_wired}
use Rattle.design_valid.proofs.Keeping.{holds_at, run_given, run_guarded}
use Rattle.design_valid.proofs.Lists.{all_one}
use Rattle.design_valid.proofs.Wiring.{stands_more, wired_in_with}
use Rattle.design_valid_cells.proofs.Ports.{all_fit, found_at, joined_fit, wide_enough, zeros_or_fit, zeros_wide}

module _ (r : Reading) (tw : ℕ) (js : List Joined) (joined : are_joined (Some r) tw js ≡ true) where
  found_width : (name : List ℕ) (width : ℕ) (j : Joined) → port_width (Some r) tw name ≡ Some width → joined_at js name ≡ Some j → sig_width (or_none j.pieces) ≡ width
  found_width name width j is e =
      let at = found_at (λ (x : Joined). bytes_eq x.port name) js j e in
      let same : j.port ≡ name = (bytes_eq-Decides j.port name).0 at.2 in
      let both = and_parts (is_some j.pieces) (has_width (port_width (Some r) tw j.port) (sig_width (or_none j.pieces))) (all_at (is_joined (Some r) tw) js joined at.0 j at.1) in
      let has : has_width (Some width) (sig_width (or_none j.pieces)) ≡ true = sym (ap (λ o. has_width o (sig_width (or_none j.pieces))) (ap (port_width (Some r) tw) same ∙ is)) ∙ both.1 in
      sym ((Decides-eqb width (sig_width (or_none j.pieces))).0 has)

  signal_wide : (name : List ℕ) (width : ℕ) → port_width (Some r) tw name ≡ Some width → sig_width (signal_or_zeros (joined_at js name) width) ≡ width
  signal_wide name width is = by (joined_at js name) refl
    where
      by : (o : Option Joined) → joined_at js name ≡ o → sig_width (signal_or_zeros o width) ≡ width
      by None e = zeros_wide width
      by (Some j) e = found_width name width j is e

  module _ (nets : List Net) (fit : all_fit nets js ≡ true) where
    signal_of : (p : Port) (width : ℕ) → width ≤ widest → port_width (Some r) tw (port_name p) ≡ Some width → sig_of nets width (signal_at js p width) ≡ true
    signal_of p width le is = wide_enough nets width (signal_at js p width) (zeros_or_fit nets js (port_name p) width fit) (signal_wide (port_name p) width is) le

    trigger_wired : (polarity : BitValue) → tw ≤ widest → r.has_trigger ≡ true → trigger_fits nets (Some (trigger_of polarity tw js)) ≡ true
    trigger_wired polarity le has =
        let is : port_width (Some r) tw (port_name port.Trigger) ≡ Some tw = ap (λ b. cond (b && true) (Some tw) None) has in
        let on = signal_at js port.Trigger tw in
        let both = and_parts (sig_fits nets on) (sig_width on == tw) (signal_of port.Trigger tw le is) in
        let width : sig_width on ≡ tw = (Decides-eqb (sig_width on) tw).0 both.1 in
        and_from (sig_fits nets on) (length (rising_of polarity tw) == sig_width on) both.0
        (eq-eqb (length (rising_of polarity tw)) (sig_width on) (length-map-range_with_len (is_set polarity) 0 tw ∙ sym width))

-- the trigger, where there is one, is within the limit
trigger_narrow : (r : Reading) (tw : ℕ) → is_narrow_trigger (Some r) tw ≡ true → r.has_trigger ≡ true → tw ≤ widest
trigger_narrow r tw h has = leb-true tw widest (sym (ap (λ b. not b || nat_le tw widest) has) ∙ h)

trigger_if_fits : (nets : List Net) (r : Reading) (ss : List Setting) (js : List Joined) → are_joined (Some r) (number_at ss parameter.TriggerWidth) js ≡ true → is_narrow_trigger (Some r) (number_at ss parameter.TriggerWidth) ≡ true → all_fit nets js ≡ true
    → trigger_fits nets (trigger_if r ss js) ≡ true
trigger_if_fits nets r ss js joined narrow fit = by (r.has_trigger && not (number_at ss parameter.TriggerEnable == 0)) refl
  where
    tw : ℕ
    tw = number_at ss parameter.TriggerWidth

    by : (b : Bool) → (r.has_trigger && not (number_at ss parameter.TriggerEnable == 0)) ≡ b → trigger_fits nets (cond b (Some (trigger_of (value_at ss parameter.TriggerPolarity) (number_at ss parameter.TriggerWidth) js)) None) ≡ true
    by false e = refl
    by true e =
        let has = (and_parts r.has_trigger (not (number_at ss parameter.TriggerEnable == 0)) e).0 in
        trigger_wired r (number_at ss parameter.TriggerWidth) js joined nets fit (value_at ss parameter.TriggerPolarity) (trigger_narrow r (number_at ss parameter.TriggerWidth) narrow has) has

diagnostic_wired : (nets : List Net) (r : Reading) (text : List ℕ) (attributes : List Attribute) (ss : List Setting) (js : List Joined) → are_joined (Some r) (number_at ss parameter.TriggerWidth) js ≡ true
    → is_narrow_trigger (Some r) (number_at ss parameter.TriggerWidth) ≡ true → all_fit nets js ≡ true → diag_wired nets (diagnostic_of r text attributes ss js) ≡ true
diagnostic_wired nets r text attributes ss js joined narrow fit =
    let d : Diag = diagnostic_of r text attributes ss js in
    let tw : ℕ = number_at ss parameter.TriggerWidth in
    let few : 1 ≤ widest = omega arith in
    and_from (sig_of nets 1 d.a) (sig_of nets 1 d.en && trigger_fits nets d.trigger) (signal_of r tw js joined nets fit port.Value 1 few refl)
    (and_from (sig_of nets 1 d.en) (trigger_fits nets d.trigger) (signal_of r tw js joined nets fit port.Enable 1 few refl) (trigger_if_fits nets r ss js joined narrow fit))

silent_wired : (all : Made) (r : Option Reading) (text : List ℕ) (attributes : List Attribute) (ss : List Setting) (js : List Joined) → are_joined r (number_at ss parameter.TriggerWidth) js ≡ true
    → is_narrow_trigger r (number_at ss parameter.TriggerWidth) ≡ true → all_fit all.nets js ≡ true → AreWired all (silent_made r text attributes ss js)
silent_wired all None text attributes ss js joined narrow fit = record { nets = refl; drives = refl; cells = refl; regs = refl; mems = refl; diags = refl }
silent_wired all (Some r) text attributes ss js joined narrow fit =
    let d : Diag = diagnostic_of r text attributes ss js in
    record { nets = refl; drives = refl; cells = refl; regs = refl; mems = refl; diags = all_one (diag_wired all.nets) d (diagnostic_wired all.nets r text attributes ss js joined narrow fit) }

pub keeps_silent_cell : (here : InstancePlace) (scope : Scope) (silent : SilentType) (c : Cell) → Keeps (IsWiredIn scope) (silent_cell here scope silent c)
unfolding taken silent_checks
keeps_silent_cell here scope silent c m n e h =
    let r : Option Reading = reading_of silent c.settings in
    let js : List Joined = joined_in scope c.connections in
    let tw : ℕ = number_at c.settings parameter.TriggerWidth in
    let made : Made = silent_made r (cell_text here c.name) c.attributes c.settings js in
    let parts = run_guarded (silent_checks here c.name r c.settings js) (give (λ _. made)) m n e in
    let joined : are_joined r tw js ≡ true = holds_at (silent_checks here c.name r c.settings js m) 2 _ parts.0 refl in
    let both : (are_narrow js && is_narrow_trigger r tw) ≡ true = holds_at (silent_checks here c.name r c.settings js m) 3 _ parts.0 refl in
    let narrow = (and_parts (are_narrow js) (is_narrow_trigger r tw) both).1 in
    let fit = joined_fit (both_made m made).nets scope (stands_more scope m.nets made.nets h.stands) c.connections in
    subst (IsWiredIn scope) (sym (run_given (λ _. made) m n parts.1))
    (wired_in_with scope m made h (silent_wired (both_made m made) r (cell_text here c.name) c.attributes c.settings js joined narrow fit))
