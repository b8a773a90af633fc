-- Registers over the values of nets in two rounds.
use Rattle.std.specs.Prelude.{◌≡◌, ◌≤◌, List, if◌then◌else◌}
use Rattle.sim_base.specs.BitValue.{BitValue}
use Rattle.circuit.specs.Signal.{sig_width}
use Rattle.circuit.specs.Valid.{Ports, ports_of_kind, widest, width_where}
use Rattle.circuit.specs.declared.register.Reg.{Reg}
use Rattle.signal_words.specs.Values.{AreInside}

-- each port has the width that the kind gives it
pub record HasWidths (ports : Ports) (r : Reg) : Type 0 where
  pub width : r.width ≤ widest
  pub clk : sig_width r.clk ≡ width_where ports.clk 1
  pub d : sig_width r.d ≡ width_where ports.d r.width
  pub en : sig_width r.en ≡ width_where ports.en 1
  pub set : sig_width r.set ≡ width_where ports.bits r.width
  pub clr : sig_width r.clr ≡ (if ports.bits then r.width else width_where ports.reset 1)
  pub load : sig_width r.load ≡ width_where ports.load 1
  pub ad : sig_width r.ad ≡ width_where ports.load r.width
  pub value : r.value.width ≡ r.width

-- and each signal lies inside the nets: the clock in both rounds, the others in this one
pub record IsRegisterOf (before now : List BitValue) (r : Reg) : Type 0 where
  pub widths : HasWidths (ports_of_kind r.kind) r
  pub clk_before : AreInside before r.clk
  pub clk : AreInside now r.clk
  pub d : AreInside now r.d
  pub en : AreInside now r.en
  pub set : AreInside now r.set
  pub clr : AreInside now r.clr
  pub load : AreInside now r.load
  pub ad : AreInside now r.ad
