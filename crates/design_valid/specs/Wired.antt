-- What a valid circuit asks of what is wired up: nets, drives, cells, registers, memories and diagnostics.
use Rattle.std.specs.Prelude.{◌≡◌, ◌&&◌, ℕ, List, Bool, true, Some, slice_get, nat_le}
use Rattle.std.specs.List.{list_all}
use Rattle.circuit.specs.Valid.{cell_fits, drive_fits, drivers_of, mem_fits, register_fits, sig_of, trigger_fits, widest}
use Rattle.circuit.specs.declared.diagnostic.Diag.{Diag}
use Rattle.circuit.specs.declared.netlist.Net.{Net}
use Rattle.design_parts.specs.Parts.{Made, circuit_of}
use Rattle.rtlil_signals.specs.Signals.{Scope, net_named}
use Rattle.rtlil_signals.specs.declared.scope.NamedNet.{NamedNet}

-- the signals of a diagnostic; its texts are another matter
abbrev pub diag_wired : List Net → Diag → Bool
diag_wired nets d = sig_of nets 1 d.a && (sig_of nets 1 d.en && trigger_fits nets d.trigger)

-- the lists of one part fit over those of all
pub record AreWired (all part : Made) : Type 0 where
  pub nets : list_all (λ x. nat_le x.width widest) part.nets ≡ true
  pub drives : list_all (drive_fits (drivers_of (circuit_of all))) part.drives ≡ true
  pub cells : list_all (cell_fits all.nets) part.cells ≡ true
  pub regs : list_all (register_fits all.nets) part.regs ≡ true
  pub mems : list_all (mem_fits all.nets) part.mems ≡ true
  pub diags : list_all (diag_wired all.nets) part.diags ≡ true

-- what was made fits together
abbrev pub IsWired : Made → Type 0
IsWired m = AreWired m m

-- a net is there, and has this width
pub record IsThere (nets : List Net) (n : NamedNet) : Type 0 where
  pub net : Net
  pub found : slice_get nets n.net ≡ Some net
  pub width : net.width ≡ n.width

-- what names stand for is there
abbrev pub StandsOver : Scope → List Net → Type 0
StandsOver scope nets = (name : List ℕ) (n : NamedNet) → net_named scope name ≡ Some n → IsThere nets n

-- what was made fits together, and what the names of an instance stand for is there
pub record IsWiredIn (scope : Scope) (m : Made) : Type 0 where
  pub wired : IsWired m
  pub stands : StandsOver scope m.nets
