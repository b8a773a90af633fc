-- What is wired up stays so, and more fits behind it.
use Rattle.std.proofs.Common.{◌≡◌, ℕ, List, [], ◌∷◌, ◌++◌, length, ◌==◌, ◌&&◌, true, Option, Some, None, cond, Bool, false, bytes_eq, refl, sym, subst}
use Rattle.std.specs.Prelude.{nat_le}
use Rattle.std.specs.List.{list_all}
use Rattle.std.specs.Map.{lookup}
use Rattle.std.proofs.lemmas.Bool.{and_from, and_parts}
use Rattle.circuit.specs.Built.{DriversStandIn, StandsIn}
use Rattle.circuit.specs.Signal.{sig_width}
use Rattle.circuit.specs.declared.diagnostic.Diag.{Diag}
use Rattle.circuit.specs.declared.diagnostic.Trigger.{Trigger}
use Rattle.circuit.specs.Valid.{Drivers, cell_fits, drive_fits, drivers_of, mem_fits, register_fits, sig_fits, sig_of, trigger_fits, widest}
use Rattle.circuit.specs.declared.netlist.Drive.{Drive}
use Rattle.circuit.specs.declared.netlist.Net.{Net}
use Rattle.circuit.proofs.Grown.{all_mono, appended_stands, cell_stays, drive_stays, mem_stays, register_stays, sig_of_stays, sig_stays}
use Rattle.design_parts.specs.Parts.{Made, Walk, both_made, circuit_of, none_made}
use Rattle.rtlil_signals.specs.Signals.{Scope}
use Rattle.rtlil_signals.specs.declared.scope.NamedNet.{NamedNet}
use Rattle.design_valid.specs.Keeps.{Keeps}
use Rattle.design_valid.specs.Wired.{AreWired, IsThere, IsWired, IsWiredIn, StandsOver, diag_wired}
use Rattle.design_valid.proofs.Keeping.{run_is}
use Rattle.design_valid.proofs.Lists.{all_both}

trigger_stays : (nets more : List Net) → StandsIn nets more → (t : Option Trigger) → trigger_fits nets t ≡ true → trigger_fits more t ≡ true
trigger_stays nets more stands None h = h
trigger_stays nets more stands (Some t) h =
    let both = and_parts (sig_fits nets t.on) (length t.rising == sig_width t.on) h in
    and_from (sig_fits more t.on) (length t.rising == sig_width t.on) (sig_stays nets more stands t.on both.0) both.1

diag_stays : (nets more : List Net) → StandsIn nets more → (d : Diag) → diag_wired nets d ≡ true → diag_wired more d ≡ true
diag_stays nets more stands d h =
    let a = and_parts (sig_of nets 1 d.a) (sig_of nets 1 d.en && trigger_fits nets d.trigger) h in
    let b = and_parts (sig_of nets 1 d.en) (trigger_fits nets d.trigger) a.1 in
    and_from (sig_of more 1 d.a) (sig_of more 1 d.en && trigger_fits more d.trigger) (sig_of_stays nets more stands 1 d.a a.0)
    (and_from (sig_of more 1 d.en) (trigger_fits more d.trigger) (sig_of_stays nets more stands 1 d.en b.0) (trigger_stays nets more stands d.trigger b.1))

abbrev pub drivers_in : Made → Drivers
drivers_in m = drivers_of (circuit_of m)

drivers_stand : (m f : Made) → DriversStandIn (drivers_in m) (drivers_in (both_made m f))
drivers_stand m f = record {
  nets = appended_stands m.nets f.nets;
  inputs = appended_stands m.inputs f.inputs;
  cells = appended_stands m.cells f.cells;
  regs = appended_stands m.regs f.regs;
  mems = appended_stands m.mems f.mems;
}

-- what fits together, and a part that fits over the whole
pub wired_with : (m f : Made) → IsWired m → AreWired (both_made m f) f → IsWired (both_made m f)
wired_with m f w g =
    let more = m.nets ++ f.nets in
    let stands = appended_stands m.nets f.nets in
    let from = drivers_in m in
    let to = drivers_in (both_made m f) in
    record {
      nets = all_both (λ x. nat_le x.width widest) m.nets f.nets w.nets g.nets;
      drives = all_both (drive_fits to) m.drives f.drives (all_mono (drive_fits from) (drive_fits to) m.drives (drive_stays from to (drivers_stand m f)) w.drives) g.drives;
      cells = all_both (cell_fits more) m.cells f.cells (all_mono (cell_fits m.nets) (cell_fits more) m.cells (cell_stays m.nets more stands) w.cells) g.cells;
      regs = all_both (register_fits more) m.regs f.regs (all_mono (register_fits m.nets) (register_fits more) m.regs (register_stays m.nets more stands) w.regs) g.regs;
      mems = all_both (mem_fits more) m.mems f.mems (all_mono (mem_fits m.nets) (mem_fits more) m.mems (mem_stays m.nets more stands) w.mems) g.mems;
      diags = all_both (diag_wired more) m.diags f.diags (all_mono (diag_wired m.nets) (diag_wired more) m.diags (diag_stays m.nets more stands) w.diags) g.diags;
    }

-- ---- names

pub there_more : (nets more : List Net) (n : NamedNet) → IsThere nets n → IsThere (nets ++ more) n
there_more nets more n t = record { net = t.net; found = appended_stands nets more n.net t.net t.found; width = t.width }

pub stands_more : (scope : Scope) (nets more : List Net) → StandsOver scope nets → StandsOver scope (nets ++ more)
stands_more scope nets more s name n e = there_more nets more n (s name n e)

pub stands_first : (nets : List Net) (key : List ℕ) (first : NamedNet) (scope : Scope) → IsThere nets first → StandsOver scope nets → StandsOver ((key, first) ∷ scope) nets
stands_first nets key first scope here rest name n e = by (bytes_eq name key) e
  where
    by : (b : Bool) → cond b (Some first) (lookup (bytes_eq name) scope) ≡ Some n → IsThere nets n
    by true e = let same : first ≡ n = cc e in subst (IsThere nets) same here
    by false e = rest name n e

pub stands_none : (nets : List Net) → StandsOver [] nets
stands_none nets name n e = cc e

-- ---- in an instance

pub wired_in_with : (scope : Scope) (m f : Made) → IsWiredIn scope m → AreWired (both_made m f) f → IsWiredIn scope (both_made m f)
wired_in_with scope m f w g = record { wired = wired_with m f w.wired g; stands = stands_more scope m.nets f.nets w.stands }

-- what keeps that all fits together keeps it where a scope stands
pub keeps_in : (scope : Scope) (w : Walk) → Keeps IsWired w → Keeps (IsWiredIn scope) w
keeps_in scope w k m n e h = record {
  wired = k m n e h.wired;
  stands = subst (λ (x : Made). StandsOver scope x.nets) (sym (run_is w m n e)) (stands_more scope m.nets (w m).made.nets h.stands);
}

-- ---- parts of drives alone, and of nets alone

pub drives_wired : (m : Made) (ds : List Drive) → list_all (drive_fits (drivers_in (both_made m (record none_made { drives = ds })))) ds ≡ true → AreWired (both_made m (record none_made { drives = ds })) (record none_made { drives = ds })
drives_wired m ds h = record { nets = refl; drives = h; cells = refl; regs = refl; mems = refl; diags = refl }
