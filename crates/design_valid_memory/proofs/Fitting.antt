-- A memory that passes its checks fits, and so does what it drives.
use Rattle.std.proofs.Common.{◌≡◌, ℕ, zero, suc, ◌+◌, ◌*◌, ◌^◌, ◌<◌, ◌≤◌, ◌==◌, ◌&&◌, List, map, length, Bool, true, Some, refl, sym, ◌∙◌, ap, arith}
use Rattle.std.specs.Prelude.{nat_le, nat_lt, slice_get}
use Rattle.std.specs.List.{list_all, range_with_len}
use Rattle.std.proofs.lemmas.Bool.{and_from, eq-eqb, le-leb, lt-ltb}
use Rattle.std.proofs.lemmas.List.FromFn.{length-map-range_with_len}
use Rattle.circuit.specs.Signal.{sig_part}
use Rattle.circuit.specs.Valid.{address_width, drive_fits, is_countable, mem_fits, port_holds, read_fits, sig_of, widest, write_fits}
use Rattle.circuit.specs.declared.memory.Mem.{Mem}
use Rattle.circuit.specs.declared.memory.ReadPort.{ReadPort}
use Rattle.circuit.specs.declared.memory.WritePort.{WritePort}
use Rattle.circuit.specs.declared.netlist.Net.{Net}
use Rattle.circuit.specs.declared.netlist.Piece.{Piece}
use Rattle.rtlil_signals.specs.Drives.{by_at}
use Rattle.rtlil_signals.specs.declared.drives.Source.TheVariants as source
use Rattle.design_parts.specs.Parts.{Made}
use Rattle.design_cells.specs.Joined.{Joined, joined_at, pieces_in}
use Rattle.design_memory.specs.Memories.{drives_of, memory_of, read_drives, read_port, write_port}
use Rattle.design_memory.specs.Names.{port_name}
use Rattle.design_memory.specs.Rules.{are_joined, are_narrow}
use Rattle.design_memory.specs.Settings.{is_set}
use Rattle.design_memory.specs.declared.names.Port.TheVariants as port
use Rattle.design_memory.specs.declared.settings.Shape.{Shape}
use Rattle.design_memory.specs.declared.settings.Values.{Values}
use Rattle.design_valid.proofs.Driven.{driven_fits}
use Rattle.design_valid.proofs.Sigs.{part_pieces_fit, part_width}
use Rattle.design_valid.proofs.Wiring.{drivers_in}
use Rattle.design_valid_cells.proofs.Ports.{all_fit, pieces_fit}
use Rattle.design_valid_memory.proofs.Parts.{clocks_within, part_of, part_wide, read_addresses_within, row_within, write_addresses_within}
use Rattle.design_valid_memory.proofs.Ranges.{all_flat, all_over, in_step}

module _ (s : Shape) (v : Values) (js : List Joined) (joined : are_joined s js ≡ true) (narrow : are_narrow s ≡ true) where
  abbrev one : Mem
  one = memory_of s v js

  -- the first port that has an address has one of this width
  address_from : (reads writes : ℕ) → reads ≤ s.reads → writes ≤ s.writes → 0 < reads + writes → address_width (map (read_port s v js) (range_with_len 0 reads)) (map (write_port s v js) (range_with_len 0 writes)) ≡ s.address_width
  unfolding read_port write_port
  address_from (suc n) k read write some = part_wide s js joined port.ReadAddress (0 * s.address_width) s.address_width (in_step 0 s.reads s.address_width (omega (arith, read)))
  address_from zero (suc k) read write some = part_wide s js joined port.WriteAddress (0 * s.address_width) s.address_width (in_step 0 s.writes s.address_width (omega (arith, write)))
  address_from zero zero read write some = absurd (omega (arith, some))

  address_is : 0 < s.reads + s.writes → address_width one.reads one.writes ≡ s.address_width
  address_is some = address_from s.reads s.writes (omega arith) (omega arith) some

  address_within : (i count : ℕ) → i < count → count * s.address_width ≤ widest → s.address_width ≤ widest
  address_within i count lt le = omega (arith, in_step i count s.address_width lt, le)

  module _ (nets : List Net) (fit : all_fit nets js ≡ true) where
    abbrev addressed : List Piece → Bool
    addressed ps = sig_of nets (address_width one.reads one.writes) ps

    read_one : (i : ℕ) → i < s.reads → read_fits nets one (address_width one.reads one.writes) (read_port s v js i) ≡ true
    unfolding read_port
    read_one i lt =
        let p : ReadPort = read_port s v js i in
        let few : 1 ≤ widest = omega arith in
        let is = address_is (omega (arith, lt)) in
        let address : sig_of nets s.address_width p.addr ≡ true = part_of s js joined nets fit port.ReadAddress (i * s.address_width) s.address_width (address_within i s.reads lt (read_addresses_within s narrow)) (in_step i s.reads s.address_width lt) in
        let many : length p.see ≡ length one.writes = length-map-range_with_len (λ j. is_set v.sees (i * s.writes + j)) 0 s.writes ∙ sym (length-map-range_with_len (write_port s v js) 0 s.writes) in
        and_from (sig_of nets 1 p.clk) _ (part_of s js joined nets fit port.ReadClock i 1 few (omega (arith, lt)))
        (and_from (sig_of nets 1 p.en) _ (part_of s js joined nets fit port.ReadEnable i 1 few (omega (arith, lt)))
        (and_from (addressed p.addr) (length p.see == length one.writes && p.init.width == one.width) (ap (λ (w : ℕ). sig_of nets w p.addr) is ∙ address)
        (and_from (length p.see == length one.writes) (p.init.width == one.width) (eq-eqb (length p.see) (length one.writes) many) (eq-eqb s.width s.width refl))))

    write_one : (j : ℕ) → j < s.writes → write_fits nets one (address_width one.reads one.writes) (write_port s v js j) ≡ true
    unfolding write_port
    write_one j lt =
        let p : WritePort = write_port s v js j in
        let few : 1 ≤ widest = omega arith in
        let is = address_is (omega (arith, lt)) in
        let row = row_within s narrow in
        let inside = in_step j s.writes s.width lt in
        let address : sig_of nets s.address_width p.addr ≡ true = part_of s js joined nets fit port.WriteAddress (j * s.address_width) s.address_width (address_within j s.writes lt (write_addresses_within s narrow)) (in_step j s.writes s.address_width lt) in
        and_from (sig_of nets 1 p.clk) _ (part_of s js joined nets fit port.WriteClock j 1 few (omega (arith, lt)))
        (and_from (sig_of nets s.width p.en) _ (part_of s js joined nets fit port.WriteEnable (j * s.width) s.width row inside)
        (and_from (addressed p.addr) (sig_of nets s.width p.word) (ap (λ (w : ℕ). sig_of nets w p.addr) is ∙ address)
        (part_of s js joined nets fit port.WriteData (j * s.width) s.width row inside)))

    pub memory_fits : mem_fits nets one ≡ true
    memory_fits =
        let abits : ℕ = address_width one.reads one.writes in
        let reads : length one.reads ≡ s.reads = length-map-range_with_len (read_port s v js) 0 s.reads in
        let countable : length one.reads < 2 ^ 32 = omega (arith, reads, clocks_within s narrow) in
        and_from (nat_le one.width widest) _ (le-leb s.width widest (row_within s narrow))
        (and_from (one.init.width == one.size * one.width) _ (eq-eqb (s.size * s.width) (s.size * s.width) refl)
        (and_from (is_countable (length one.reads)) _ (lt-ltb (length one.reads) (2 ^ 32) countable)
        (and_from (list_all (read_fits nets one abits) one.reads) (list_all (write_fits nets one abits) one.writes)
        (all_over (read_fits nets one abits) (read_port s v js) 0 s.reads (λ i low high. read_one i (omega (arith, high))))
        (all_over (write_fits nets one abits) (write_port s v js) 0 s.writes (λ j low high. write_one j (omega (arith, high)))))))

  -- ---- what its read ports drive

  module _ (all : Made) (n : ℕ) (stands : slice_get all.mems n ≡ Some one) (fit : all_fit all.nets js ≡ true) where
    port_there : (i end : ℕ) → i < s.reads → end ≤ s.width → port_holds i end (slice_get all.mems n) ≡ true
    port_there i end lt le =
        let reads : length one.reads ≡ s.reads = length-map-range_with_len (read_port s v js) 0 s.reads in
        ap (port_holds i end) stands ∙ and_from (nat_lt i (length one.reads)) (nat_le end one.width) (lt-ltb i (length one.reads) (omega (arith, lt, reads))) (le-leb end s.width le)

    read_driven : (i : ℕ) → i < s.reads → list_all (drive_fits (drivers_in all)) (read_drives n s js i) ≡ true
    unfolding read_drives
    read_driven i lt =
        let ps : List Piece = pieces_in (joined_at js (port_name port.ReadData)) in
        let few = part_width (i * s.width) s.width ps in
        driven_fits (drivers_in all) (by_at (source.Read n i)) 0 (sig_part (i * s.width) s.width ps) (part_pieces_fit all.nets (i * s.width) s.width ps (pieces_fit all.nets js (port_name port.ReadData) fit))
        (λ at width le. port_there i (at + width) lt (omega (arith, few, le)))

    pub reads_driven : list_all (drive_fits (drivers_in all)) (drives_of n s js s.reads) ≡ true
    reads_driven = all_flat (drive_fits (drivers_in all)) (read_drives n s js) 0 s.reads (λ i low high. read_driven i (omega (arith, high)))
