-- Parts of what the ports of a memory are joined to.
use Rattle.std.proofs.Common.{◌≡◌, ℕ, ◌+◌, ◌*◌, ◌≤◌, List, true, Option, Some, None, refl, sym, ◌∙◌, ap, arith, bytes_eq}
use Rattle.std.specs.Prelude.{nat_le, slice_get}
use Rattle.std.specs.List.{list_all}
use Rattle.std.specs.Option.{is_some}
use Rattle.std.proofs.lemmas.Bool.{and_parts, leb-true}
use Rattle.std.proofs.lemmas.Bool.Decides.{Decides-eqb}
use Rattle.std.proofs.lemmas.Slice.Eq.{bytes_eq-Decides}
use Rattle.sim_base.specs.BitValue.{zeros}
use Rattle.circuit.specs.Signal.{sig_width}
use Rattle.circuit.specs.Valid.{piece_fits, sig_of, widest}
use Rattle.circuit.specs.declared.netlist.Net.{Net}
use Rattle.circuit.specs.declared.netlist.Piece.TheVariants as piece
use Rattle.circuit.proofs.Grown.{all_at}
use Rattle.design_wires.specs.Connects.{or_none}
use Rattle.design_cells.specs.Joined.{Joined, joined_at, pieces_in}
use Rattle.design_memory.specs.Memories.{part_at, part_or_zeros}
use Rattle.design_memory.specs.Names.{port_name, port_named, port_width, ports}
use Rattle.design_memory.specs.Rules.{are_joined, are_narrow, fits, is_joined, within}
use Rattle.design_memory.specs.declared.names.Port.{Port}
use Rattle.design_memory.specs.declared.names.Port.TheVariants as port
use Rattle.design_memory.specs.declared.settings.Shape.{Shape}
use Rattle.design_valid.proofs.Sigs.{part_is, part_pieces_fit, whole_fits}
use Rattle.design_valid_cells.proofs.Ports.{all_fit, found_at, pieces_fit, wide_enough, zeros_wide}

-- each port is found by its name
port_found : (p : Port) → port_named (port_name p) ≡ Some p
unfolding ports
port_found port.ReadClock = refl
port_found port.ReadEnable = refl
port_found port.ReadArst = refl
port_found port.ReadSrst = refl
port_found port.ReadAddress = refl
port_found port.ReadData = refl
port_found port.WriteClock = refl
port_found port.WriteEnable = refl
port_found port.WriteAddress = refl
port_found port.WriteData = refl

module _ (s : Shape) (js : List Joined) (joined : are_joined s js ≡ true) where
  found_width : (p : Port) (j : Joined) → joined_at js (port_name p) ≡ Some j → sig_width (or_none j.pieces) ≡ port_width s p
  unfolding are_joined
  found_width p j e =
      let at = found_at (λ (x : Joined). bytes_eq x.port (port_name p)) js j e in
      let same : j.port ≡ port_name p = (bytes_eq-Decides j.port (port_name p)).0 at.2 in
      let both = and_parts (is_some j.pieces) (fits s (port_named j.port) (sig_width (or_none j.pieces))) (all_at (is_joined s) js joined at.0 j at.1) in
      let has : fits s (Some p) (sig_width (or_none j.pieces)) ≡ true = sym (ap (λ o. fits s o (sig_width (or_none j.pieces))) (ap port_named same ∙ port_found p)) ∙ both.1 in
      sym ((Decides-eqb (port_width s p) (sig_width (or_none j.pieces))).0 has)

  pub part_wide : (p : Port) (at width : ℕ) → at + width ≤ port_width s p → sig_width (part_at js p at width) ≡ width
  part_wide p at width le = by (joined_at js (port_name p)) refl
    where
      by : (o : Option Joined) → joined_at js (port_name p) ≡ o → sig_width (part_or_zeros o at width) ≡ width
      by None e = zeros_wide width
      by (Some j) e = let is = found_width p j e in part_is at width (or_none j.pieces) (omega (arith, le, is))

  module _ (nets : List Net) (fit : all_fit nets js ≡ true) where
    part_fits : (p : Port) (at width : ℕ) → list_all (piece_fits nets) (part_at js p at width) ≡ true
    part_fits p at width = by (joined_at js (port_name p)) (pieces_fit nets js (port_name p) fit)
      where
        by : (o : Option Joined) → list_all (piece_fits nets) (pieces_in o) ≡ true → list_all (piece_fits nets) (part_or_zeros o at width) ≡ true
        by None h = whole_fits nets (piece.Const (zeros width)) refl
        by (Some j) h = part_pieces_fit nets at width (or_none j.pieces) h

    pub part_of : (p : Port) (at width : ℕ) → width ≤ widest → at + width ≤ port_width s p → sig_of nets width (part_at js p at width) ≡ true
    part_of p at width few le = wide_enough nets width (part_at js p at width) (part_fits p at width) (part_wide p at width le) few

-- ---- limits

module _ (s : Shape) (narrow : are_narrow s ≡ true) where
  pub row_within : s.width ≤ widest
  unfolding are_narrow
  row_within = leb-true s.width widest (and_parts (nat_le s.width widest) (within s ports) narrow).0

  port_within : (n : ℕ) (p : Port) → slice_get ports n ≡ Some p → port_width s p ≤ widest
  unfolding are_narrow
  port_within n p e = leb-true (port_width s p) widest (all_at (λ q. nat_le (port_width s q) widest) ports (and_parts (nat_le s.width widest) (within s ports) narrow).1 n p e)

  pub clocks_within : s.reads ≤ widest
  unfolding ports
  clocks_within = let le : s.reads * 1 ≤ widest = port_within 0 port.ReadClock refl in omega (arith, le)

  pub read_addresses_within : s.reads * s.address_width ≤ widest
  unfolding ports
  read_addresses_within = port_within 5 port.ReadAddress refl

  pub write_addresses_within : s.writes * s.address_width ≤ widest
  unfolding ports
  write_addresses_within = port_within 8 port.WriteAddress refl
