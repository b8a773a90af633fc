-- Registers and diagnostics of a valid circuit.
use Rattle.std.proofs.Common.{◌≡◌, ℕ, ◌≤◌, cond, List, length, true, Option, Some, None}
use Rattle.std.specs.Prelude.{nat_le, ◌==◌}
use Rattle.std.proofs.lemmas.Bool.{and_parts}
use Rattle.circuit.specs.Signal.{sig_width}
use Rattle.circuit.specs.Valid.{diag_fits, Ports, ports_of_kind, register_fits, register_has, sig_fits, sig_of, trigger_fits, widest, width_where}
use Rattle.circuit.specs.declared.netlist.Circuit.{Circuit}
use Rattle.circuit.specs.declared.netlist.Piece.{Piece}
use Rattle.circuit.specs.declared.register.Reg.{Reg}
use Rattle.circuit.specs.declared.diagnostic.Diag.{Diag}
use Rattle.circuit.specs.declared.diagnostic.Trigger.{Trigger}
use Rattle.circuit.specs.declared.store.Store.{Store}
use Rattle.signal_words.specs.Values.{IsSignalOf}
pub use Rattle.signal_words.proofs.Told.{eq_from, le_from}
use Rattle.state_cells.specs.Registers.{HasWidths, IsRegisterOf}
use Rattle.state_cells.specs.Diagnostics.{IsDiagnosticOf, MayTrigger}

-- signals that fit the circuit lie inside the nets of the store
abbrev pub LieIn : Circuit → Store → Type 0
LieIn c store = (sig : List Piece) → sig_fits c.nets sig ≡ true → IsSignalOf store.nets sig

pub sig_there : (c : Circuit) (width : ℕ) (sig : List Piece) → sig_of c.nets width sig ≡ true → (sig_fits c.nets sig ≡ true) × (sig_width sig ≡ width)
sig_there c width sig e = let t = and_parts (sig_fits c.nets sig) (sig_width sig == width) e in (t.0, eq_from (sig_width sig) width t.1)

-- the tests of a register's ports, one by one
record PortsFit (c : Circuit) (p : Ports) (r : Reg) : Type 0 where
  clk : sig_of c.nets (width_where p.clk 1) r.clk ≡ true
  d : sig_of c.nets (width_where p.d r.width) r.d ≡ true
  en : sig_of c.nets (width_where p.en 1) r.en ≡ true
  set : sig_of c.nets (width_where p.bits r.width) r.set ≡ true
  clr : sig_of c.nets (cond p.bits r.width (width_where p.reset 1)) r.clr ≡ true
  load : sig_of c.nets (width_where p.load 1) r.load ≡ true
  ad : sig_of c.nets (width_where p.load r.width) r.ad ≡ true

ports_fit : (c : Circuit) (p : Ports) (r : Reg) → register_has c.nets p r ≡ true → PortsFit c p r
ports_fit c p r e =
    let t1 = and_parts (sig_of c.nets (width_where p.clk 1) r.clk) _ e in
    let t2 = and_parts (sig_of c.nets (width_where p.d r.width) r.d) _ t1.1 in
    let t3 = and_parts (sig_of c.nets (width_where p.en 1) r.en) _ t2.1 in
    let t4 = and_parts (sig_of c.nets (width_where p.bits r.width) r.set) _ t3.1 in
    let t5 = and_parts (sig_of c.nets (cond p.bits r.width (width_where p.reset 1)) r.clr) _ t4.1 in
    let t6 = and_parts (sig_of c.nets (width_where p.load 1) r.load) _ t5.1 in
    record { clk = t1.0; d = t2.0; en = t3.0; set = t4.0; clr = t5.0; load = t6.0; ad = t6.1 }

widths_from : (c : Circuit) (p : Ports) (r : Reg) → r.width ≤ widest → r.value.width ≡ r.width → PortsFit c p r → HasWidths p r
widths_from c p r width value f = record {
  width = width;
  clk = (sig_there c _ r.clk f.clk).1;
  d = (sig_there c _ r.d f.d).1;
  en = (sig_there c _ r.en f.en).1;
  set = (sig_there c _ r.set f.set).1;
  clr = (sig_there c _ r.clr f.clr).1;
  load = (sig_there c _ r.load f.load).1;
  ad = (sig_there c _ r.ad f.ad).1;
  value = value;
}

pub register_in : (c : Circuit) (before now : Store) (r : Reg) → LieIn c before → LieIn c now → register_fits c.nets r ≡ true → IsRegisterOf before.nets now.nets r
register_in c before now r b w e =
    let t = and_parts (nat_le r.width widest) _ e in
    let u = and_parts (register_has c.nets (ports_of_kind r.kind) r) _ t.1 in
    let v = and_parts (r.value.width == r.width) _ u.1 in
    let f = ports_fit c (ports_of_kind r.kind) r u.0 in
    record {
      widths = widths_from c (ports_of_kind r.kind) r (le_from r.width widest t.0) (eq_from r.value.width r.width v.0) f;
      clk_before = (b r.clk (sig_there c _ r.clk f.clk).0).inside;
      clk = (w r.clk (sig_there c _ r.clk f.clk).0).inside;
      d = (w r.d (sig_there c _ r.d f.d).0).inside;
      en = (w r.en (sig_there c _ r.en f.en).0).inside;
      set = (w r.set (sig_there c _ r.set f.set).0).inside;
      clr = (w r.clr (sig_there c _ r.clr f.clr).0).inside;
      load = (w r.load (sig_there c _ r.load f.load).0).inside;
      ad = (w r.ad (sig_there c _ r.ad f.ad).0).inside;
    }

trigger_in : (c : Circuit) (before now : Store) (t : Option Trigger) → LieIn c before → LieIn c now → trigger_fits c.nets t ≡ true → MayTrigger before.nets now.nets t
trigger_in c before now None b w e = tt
trigger_in c before now (Some t) b w e =
    let u = and_parts (sig_fits c.nets t.on) _ e in
    record {
      on_before = (b t.on u.0).inside;
      on = (w t.on u.0).inside;
      width = (w t.on u.0).width;
      rising = eq_from (length t.rising) (sig_width t.on) u.1;
    }

pub diagnostic_in : (c : Circuit) (before now : Store) (d : Diag) → LieIn c before → LieIn c now → diag_fits c.nets d ≡ true → IsDiagnosticOf before.nets now.nets d
diagnostic_in c before now d b w e =
    let t = and_parts (sig_of c.nets 1 d.a) _ e in
    let u = and_parts (sig_of c.nets 1 d.en) _ t.1 in
    let v = and_parts (trigger_fits c.nets d.trigger) _ u.1 in
    record {
      a = (w d.a (sig_there c 1 d.a t.0).0).inside;
      a_width = (sig_there c 1 d.a t.0).1;
      en = (w d.en (sig_there c 1 d.en u.0).0).inside;
      en_width = (sig_there c 1 d.en u.0).1;
      trigger = trigger_in c before now d.trigger b w v.0;
    }
