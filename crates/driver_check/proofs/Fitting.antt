-- The parts of a valid circuit.
use Rattle.std.proofs.Common.{◌≡◌, ℕ, zero, suc, ◌+◌, ◌*◌, ◌^◌, ◌<◌, ◌≤◌, List, [], ◌∷◌, length, refl, sym, ◌∙◌, ap, subst, arith, inl, inr, Bool, true, false, ◌&&◌, Option, Some, None, nat_le, nat_lt}
use Rattle.std.specs.Prelude.{slice_get}
use Rattle.std.specs.List.{list_all}
use Rattle.std.proofs.lemmas.Bool.{and_from, and_parts, le-leb, leb-true, ltb-true}
use Rattle.circuit.specs.Acyclic.{AreDrivesInside}
use Rattle.circuit.specs.Valid.{cell_fits, input_holds, ports_of_kind, register_has, register_holds, cell_holds, port_holds, counts_fit, diag_fits, drive_fits, driver_fits, drivers_of, address_width, inputs_fit, is_countable, is_valid, item_fits, mem_fits, names_differ, names_rise, net_holds, piece_fits, reaches, read_fits, register_fits, sig_fits, sig_of, widths_fit, widths_of, write_fits, scope_fits, slots_run, widest}
use Rattle.std.specs.List.{list_any}
use Rattle.std.specs.Prelude.{◌==◌}
use Rattle.circuit.specs.Signal.{Reads, sig_width}
use Rattle.circuit.specs.Output.{ReadsBit}
use Rattle.circuit.specs.declared.netlist.Circuit.{Circuit}
use Rattle.circuit.specs.declared.netlist.Drive.{Drive}
use Rattle.circuit.specs.declared.netlist.Net.{Net}
use Rattle.circuit.specs.declared.cell.Cell.{Cell}
use Rattle.circuit.specs.declared.memory.Mem.{Mem}
use Rattle.circuit.specs.declared.register.Reg.{Reg}
use Rattle.circuit.specs.declared.memory.ReadPort.{ReadPort}
use Rattle.circuit.specs.declared.netlist.By.{By}
use Rattle.circuit.specs.declared.netlist.By.TheVariants as by
use Rattle.sim_base.specs.BitValue.{BitValue}
use Rattle.circuit.specs.declared.netlist.Piece.{Piece}
use Rattle.circuit.specs.declared.netlist.Piece.TheVariants as piece
use Rattle.driver_check.specs.Numbers.{IsBit, before, width_of}
use Rattle.driver_check.proofs.Places.{within}
use Rattle.driver_check.proofs.Numbered.{before_bound}

pub all_at : {X : Type 0} (p : X → Bool) (xs : List X) → list_all p xs ≡ true → (i : ℕ) (x : X) → slice_get xs i ≡ Some x → p x ≡ true
all_at p [] h i x e = cc e
all_at p (y ∷ ys) h zero x e =
    let z : y ≡ x = let g : Some y ≡ Some x = e in cc g in
    ap p (sym z) ∙ (and_parts (p y) (list_all p ys) h).0
all_at p (y ∷ ys) h (suc i) x e = all_at p ys (and_parts (p y) (list_all p ys) h).1 i x e

pub holds_net : (c : Circuit) (net end : ℕ) → net_holds c.nets net end ≡ true → (x : Net) × (slice_get c.nets net ≡ Some x) × (end ≤ x.width)
holds_net c net end h = held (slice_get c.nets net) refl
  where
    held : (o : Option Net) → slice_get c.nets net ≡ o → (x : Net) × (slice_get c.nets net ≡ Some x) × (end ≤ x.width)
    held None is = absurd (let z : false ≡ true = sym (ap (reaches end) is) ∙ h in cc z)
    held (Some x) is = (x, is, leb-true end x.width (sym (ap (reaches end) is) ∙ h))

module _ (c : Circuit) where
  pieces_bits : (ps : List Piece) → list_all (piece_fits c.nets) ps ≡ true → (net bit : ℕ) → Reads ps net bit → IsBit c.nets (net, bit)
  unfolding Reads
  pieces_bits [] h net bit r = absurd r
  pieces_bits (piece.Const v ∷ ps) h net bit r = pieces_bits ps (and_parts true (list_all (piece_fits c.nets) ps) h).1 net bit r
  pieces_bits (piece.Part n at width ∷ ps) h net bit (inl r) =
      let x = holds_net c n (at + width) (and_parts (net_holds c.nets n (at + width)) (list_all (piece_fits c.nets) ps) h).0 in
      (x.0, subst (λ (k : ℕ). slice_get c.nets k ≡ Some x.0) r.0 x.1, omega (arith, r.2, x.2))
  pieces_bits (piece.Part n at width ∷ ps) h net bit (inr r) = pieces_bits ps (and_parts (net_holds c.nets n (at + width)) (list_all (piece_fits c.nets) ps) h).1 net bit r

module _ (c : Circuit) (valid : is_valid c ≡ true) where
  abbrev rest_drives : Bool
  rest_drives =
      list_all (cell_fits c.nets) c.cells
      && (list_all (register_fits c.nets) c.regs
      && (list_all (mem_fits c.nets) c.mems
      && (inputs_fit c.nets c.items c.inputs
      && (list_all (item_fits c.nets c.mems c.scopes) c.items
      && (slots_run c.mems 0 c.items
      && (names_rise c.items
      && (list_all scope_fits c.scopes
      && (names_differ c.scopes
      && (list_any (λ s. length s.name == 0) c.scopes
      && list_all (diag_fits c.nets) c.diags)))))))))

  abbrev few_nets : Bool
  few_nets = list_all (λ (x : Net). nat_le x.width widest) c.nets

  abbrev fit_drives : Bool
  fit_drives = list_all (drive_fits (drivers_of c)) c.drives

  first_part : (counts_fit c ≡ true) × ((few_nets && (fit_drives && rest_drives)) ≡ true)
  first_part = and_parts (counts_fit c) (few_nets && (fit_drives && rest_drives)) valid

  second_part : (few_nets ≡ true) × ((fit_drives && rest_drives) ≡ true)
  second_part = and_parts few_nets (fit_drives && rest_drives) first_part.1

  third_part : (fit_drives ≡ true) × (rest_drives ≡ true)
  third_part = and_parts fit_drives rest_drives second_part.1

  pub counts : counts_fit c ≡ true
  counts = first_part.0

  pub net_width : (n : ℕ) (x : Net) → slice_get c.nets n ≡ Some x → x.width ≤ 65536
  net_width n x e = leb-true x.width widest (all_at (λ (y : Net). nat_le y.width widest) c.nets second_part.0 n x e)

  pub drive_fits_at : (i : ℕ) (d : Drive) → slice_get c.drives i ≡ Some d → drive_fits (drivers_of c) d ≡ true
  drive_fits_at i d e = all_at (drive_fits (drivers_of c)) c.drives third_part.0 i d e

  abbrev rest_mems : Bool
  rest_mems =
      inputs_fit c.nets c.items c.inputs
      && (list_all (item_fits c.nets c.mems c.scopes) c.items
      && (slots_run c.mems 0 c.items
      && (names_rise c.items
      && (list_all scope_fits c.scopes
      && (names_differ c.scopes
      && (list_any (λ s. length s.name == 0) c.scopes
      && list_all (diag_fits c.nets) c.diags))))))

  abbrev fit_cells : Bool
  fit_cells = list_all (cell_fits c.nets) c.cells

  abbrev fit_registers : Bool
  fit_registers = list_all (register_fits c.nets) c.regs

  abbrev fit_mems : Bool
  fit_mems = list_all (mem_fits c.nets) c.mems

  fourth_part : (fit_cells ≡ true) × ((fit_registers && (fit_mems && rest_mems)) ≡ true)
  fourth_part = and_parts fit_cells (fit_registers && (fit_mems && rest_mems)) third_part.1

  fifth_part : (fit_registers ≡ true) × ((fit_mems && rest_mems) ≡ true)
  fifth_part = and_parts fit_registers (fit_mems && rest_mems) fourth_part.1

  pub cell_fits_at : (n : ℕ) (x : Cell) → slice_get c.cells n ≡ Some x → cell_fits c.nets x ≡ true
  cell_fits_at n x e = all_at (cell_fits c.nets) c.cells fourth_part.0 n x e

  pub mem_fits_at : (n : ℕ) (m : Mem) → slice_get c.mems n ≡ Some m → mem_fits c.nets m ≡ true
  mem_fits_at n m e = all_at (mem_fits c.nets) c.mems (and_parts fit_mems rest_mems fifth_part.1).0 n m e

  mem_parts : (n : ℕ) (m : Mem) → slice_get c.mems n ≡ Some m → (is_countable (length m.reads) ≡ true) × (list_all (read_fits c.nets m (address_width m.reads m.writes)) m.reads ≡ true)
  mem_parts n m e =
      let tail : Bool = list_all (read_fits c.nets m (address_width m.reads m.writes)) m.reads && list_all (write_fits c.nets m (address_width m.reads m.writes)) m.writes in
      let a = and_parts (nat_le m.width widest) (m.init.width == m.size * m.width && (is_countable (length m.reads) && tail)) (mem_fits_at n m e) in
      let b = and_parts (m.init.width == m.size * m.width) (is_countable (length m.reads) && tail) a.1 in
      let d = and_parts (is_countable (length m.reads)) tail b.1 in
      (d.0, (and_parts (list_all (read_fits c.nets m (address_width m.reads m.writes)) m.reads) (list_all (write_fits c.nets m (address_width m.reads m.writes)) m.writes) d.1).0)

  pub port_count : (n : ℕ) (m : Mem) → slice_get c.mems n ≡ Some m → length m.reads < 2 ^ 32
  port_count n m e = ltb-true (length m.reads) (2 ^ 32) (mem_parts n m e).0

  -- a signal's bits are there
  pub sig_bits : (ps : List Piece) → sig_fits c.nets ps ≡ true → (net bit : ℕ) → Reads ps net bit → IsBit c.nets (net, bit)
  sig_bits ps fits net bit r = pieces_bits c ps (and_parts (list_all (piece_fits c.nets) ps) (nat_le (sig_width ps) widest) fits).0 net bit r

  pub cell_sigs : (x : Cell) → cell_fits c.nets x ≡ true → (list_all (piece_fits c.nets) x.a ≡ true) × (list_all (piece_fits c.nets) x.b ≡ true) × (list_all (piece_fits c.nets) x.s ≡ true)
  cell_sigs x fits =
      let tail : Bool = sig_fits c.nets x.s && (nat_le x.width widest && widths_fit x.op (widths_of x)) in
      let a = and_parts (sig_fits c.nets x.a) (sig_fits c.nets x.b && tail) fits in
      let b = and_parts (sig_fits c.nets x.b) tail a.1 in
      let d = and_parts (sig_fits c.nets x.s) (nat_le x.width widest && widths_fit x.op (widths_of x)) b.1 in (
        (and_parts (list_all (piece_fits c.nets) x.a) (nat_le (sig_width x.a) widest) a.0).0,
        (and_parts (list_all (piece_fits c.nets) x.b) (nat_le (sig_width x.b) widest) b.0).0,
        (and_parts (list_all (piece_fits c.nets) x.s) (nat_le (sig_width x.s) widest) d.0).0,
      )

  pub cell_bits : (n : ℕ) (x : Cell) → slice_get c.cells n ≡ Some x → (net bit : ℕ) → ReadsBit x net bit → IsBit c.nets (net, bit)
  cell_bits n x e net bit r =
      let tail : Bool = sig_fits c.nets x.s && (nat_le x.width widest && widths_fit x.op (widths_of x)) in
      let a = and_parts (sig_fits c.nets x.a) (sig_fits c.nets x.b && tail) (cell_fits_at n x e) in
      let b = and_parts (sig_fits c.nets x.b) tail a.1 in
      let d = and_parts (sig_fits c.nets x.s) (nat_le x.width widest && widths_fit x.op (widths_of x)) b.1 in
      elim r [
        | inl h ↦ sig_bits x.a a.0 net bit h
        | inr t ↦ elim t [ inl h ↦ sig_bits x.b b.0 net bit h | inr h ↦ sig_bits x.s d.0 net bit h ]
      ]

  pub port_fits_at : (n k : ℕ) (m : Mem) (p : ReadPort) → slice_get c.mems n ≡ Some m → slice_get m.reads k ≡ Some p → sig_fits c.nets p.addr ≡ true
  port_fits_at n k m p e at =
      let abits : ℕ = address_width m.reads m.writes in
      let f : read_fits c.nets m abits p ≡ true = all_at (read_fits c.nets m abits) m.reads (mem_parts n m e).1 k p at in
      let tail : Bool = length p.see == length m.writes && p.init.width == m.width in
      let a = and_parts (sig_of c.nets 1 p.clk) (sig_of c.nets 1 p.en && (sig_of c.nets abits p.addr && tail)) f in
      let b = and_parts (sig_of c.nets 1 p.en) (sig_of c.nets abits p.addr && tail) a.1 in
      let d = and_parts (sig_of c.nets abits p.addr) tail b.1 in
      (and_parts (sig_fits c.nets p.addr) (sig_width p.addr == abits) d.0).0

  pub port_bits : (n k : ℕ) (m : Mem) (p : ReadPort) → slice_get c.mems n ≡ Some m → slice_get m.reads k ≡ Some p → (net bit : ℕ) → Reads p.addr net bit → IsBit c.nets (net, bit)
  port_bits n k m p e at net bit r = sig_bits p.addr (port_fits_at n k m p e at) net bit r

  pub net_count : length c.nets < 2 ^ 32
  net_count = ltb-true (length c.nets) (2 ^ 32) (and_parts (is_countable (length c.nets)) _ counts).0

  -- no more bits than 2 ^ 48
  pub bits_bound : (n : ℕ) → before width_of c.nets n ≤ 65536 * 2 ^ 32
  bits_bound n =
      let a : before width_of c.nets n ≤ 65536 * length c.nets = before_bound width_of 65536 c.nets net_width n in
      let b = net_count in
      omega arith

  pub drives_inside : AreDrivesInside c
  drives_inside i d e = held (slice_get c.nets d.net) refl
    where
      fits : (net_holds c.nets d.net (d.at + d.width) ≡ true) × (driver_fits (drivers_of c) d.width d.by ≡ true)
      fits = and_parts (net_holds c.nets d.net (d.at + d.width)) (driver_fits (drivers_of c) d.width d.by) (drive_fits_at i d e)

      held : (o : Option Net) → slice_get c.nets d.net ≡ o → (x : Net) × (slice_get c.nets d.net ≡ Some x) × (d.at + d.width ≤ x.width)
      held None is = absurd (let z : false ≡ true = sym (ap (reaches (d.at + d.width)) is) ∙ fits.0 in cc z)
      held (Some x) is = (x, is, leb-true (d.at + d.width) x.width (sym (ap (reaches (d.at + d.width)) is) ∙ fits.0))

  -- ---- what a drive takes from is there
  module _ (d : Drive) (fits : drive_fits (drivers_of c) d ≡ true) where
    driver : driver_fits (drivers_of c) d.width d.by ≡ true
    driver = (and_parts (net_holds c.nets d.net (d.at + d.width)) (driver_fits (drivers_of c) d.width d.by) fits).1

    pub wire_there : (n at : ℕ) → d.by ≡ by.Wire n at → (x : Net) × (slice_get c.nets n ≡ Some x) × (at + d.width ≤ x.width)
    wire_there n at is = holds_net c n (at + d.width) (sym (ap (driver_fits (drivers_of c) d.width) is) ∙ driver)

    pub cell_there : (n at : ℕ) → d.by ≡ by.Cell n at → n < length c.cells
    cell_there n at is = held (slice_get c.cells n) refl
      where
        h : cell_holds (at + d.width) (slice_get c.cells n) ≡ true
        h = sym (ap (driver_fits (drivers_of c) d.width) is) ∙ driver

        held : (o : Option Cell) → slice_get c.cells n ≡ o → n < length c.cells
        held None e = absurd (let z : false ≡ true = sym (ap (cell_holds (at + d.width)) e) ∙ h in cc z)
        held (Some x) e = within c.cells n x e

    pub port_there : (m n at : ℕ) → d.by ≡ by.Read m n at → (x : Mem) × (slice_get c.mems m ≡ Some x) × (n < length x.reads)
    port_there m n at is = held (slice_get c.mems m) refl
      where
        h : port_holds n (at + d.width) (slice_get c.mems m) ≡ true
        h = sym (ap (driver_fits (drivers_of c) d.width) is) ∙ driver

        held : (o : Option Mem) → slice_get c.mems m ≡ o → (x : Mem) × (slice_get c.mems m ≡ Some x) × (n < length x.reads)
        held None e = absurd (let z : false ≡ true = sym (ap (port_holds n (at + d.width)) e) ∙ h in cc z)
        held (Some x) e = (x, e, ltb-true n (length x.reads) (and_parts (nat_lt n (length x.reads)) (nat_le (at + d.width) x.width) (sym (ap (port_holds n (at + d.width)) e) ∙ h)).0)

  pub cell_count : length c.cells < 2 ^ 32
  cell_count =
      let a = and_parts (is_countable (length c.nets)) _ counts in
      ltb-true (length c.cells) (2 ^ 32) (and_parts (is_countable (length c.cells)) _ a.1).0

  -- ---- how far what drives reaches
  cell_width : (n : ℕ) (x : Cell) → slice_get c.cells n ≡ Some x → x.width ≤ 65536
  cell_width n x e =
      let tail : Bool = sig_fits c.nets x.s && (nat_le x.width widest && widths_fit x.op (widths_of x)) in
      let a = and_parts (sig_fits c.nets x.a) (sig_fits c.nets x.b && tail) (cell_fits_at n x e) in
      let b = and_parts (sig_fits c.nets x.b) tail a.1 in
      let d = and_parts (sig_fits c.nets x.s) (nat_le x.width widest && widths_fit x.op (widths_of x)) b.1 in
      leb-true x.width widest (and_parts (nat_le x.width widest) (widths_fit x.op (widths_of x)) d.1).0

  reg_width : (n : ℕ) (r : Reg) → slice_get c.regs n ≡ Some r → r.width ≤ 65536
  reg_width n r e =
      let h = all_at (register_fits c.nets) c.regs fifth_part.0 n r e in
      leb-true r.width widest (and_parts (nat_le r.width widest) (register_has c.nets (ports_of_kind r.kind) r && (r.value.width == r.width && r.init.width == r.width)) h).0

  mem_width : (n : ℕ) (m : Mem) → slice_get c.mems n ≡ Some m → m.width ≤ 65536
  mem_width n m e =
      let tail : Bool = list_all (read_fits c.nets m (address_width m.reads m.writes)) m.reads && list_all (write_fits c.nets m (address_width m.reads m.writes)) m.writes in
      leb-true m.width widest (and_parts (nat_le m.width widest) (m.init.width == m.size * m.width && (is_countable (length m.reads) && tail)) (mem_fits_at n m e)).0

  held_net : (net end : ℕ) → net_holds c.nets net end ≡ true → end ≤ 65536
  held_net net end h = let x = holds_net c net end h in let w = net_width net x.0 x.1 in omega (arith, w, x.2)

  held_input : (end : ℕ) (o : Option ℕ) → input_holds c.nets end o ≡ true → end ≤ 65536
  held_input end None h = absurd (let z : false ≡ true = h in cc z)
  held_input end (Some net) h = held_net net end h

  held_cell : (n end : ℕ) (o : Option Cell) → slice_get c.cells n ≡ o → cell_holds end o ≡ true → end ≤ 65536
  held_cell n end None e h = absurd (let z : false ≡ true = h in cc z)
  held_cell n end (Some x) e h = let w = cell_width n x e in let l = leb-true end x.width h in omega (arith, w, l)

  held_reg : (n end : ℕ) (o : Option Reg) → slice_get c.regs n ≡ o → register_holds end o ≡ true → end ≤ 65536
  held_reg n end None e h = absurd (let z : false ≡ true = h in cc z)
  held_reg n end (Some r) e h = let w = reg_width n r e in let l = leb-true end r.width h in omega (arith, w, l)

  held_mem : (m n end : ℕ) (o : Option Mem) → slice_get c.mems m ≡ o → port_holds n end o ≡ true → end ≤ 65536
  held_mem m n end None e h = absurd (let z : false ≡ true = h in cc z)
  held_mem m n end (Some x) e h = let w = mem_width m x e in let l = leb-true end x.width (and_parts (nat_lt n (length x.reads)) (nat_le end x.width) h).1 in omega (arith, w, l)

  -- the end of what drives, where it is no constant
  abbrev EndsLow : By → ℕ → Type 0
  EndsLow (by.Const v) width = Unit {0}
  EndsLow (by.Input n at) width = at + width ≤ 65536
  EndsLow (by.Wire n at) width = at + width ≤ 65536
  EndsLow (by.Cell n at) width = at + width ≤ 65536
  EndsLow (by.Reg n at) width = at + width ≤ 65536
  EndsLow (by.Read m n at) width = at + width ≤ 65536

  ends_low : (b : By) (width : ℕ) → driver_fits (drivers_of c) width b ≡ true → EndsLow b width
  ends_low (by.Const v) width h = tt
  ends_low (by.Input n at) width h = held_input (at + width) (slice_get c.inputs n) h
  ends_low (by.Wire n at) width h = held_net n (at + width) h
  ends_low (by.Cell n at) width h = held_cell n (at + width) (slice_get c.cells n) refl h
  ends_low (by.Reg n at) width h = held_reg n (at + width) (slice_get c.regs n) refl h
  ends_low (by.Read m n at) width h = held_mem m n (at + width) (slice_get c.mems m) refl h

  pub drive_ends : (d : Drive) → drive_fits (drivers_of c) d ≡ true → (b : By) → d.by ≡ b → EndsLow b d.width
  drive_ends d fits b is = ends_low b d.width (sym (ap (driver_fits (drivers_of c) d.width) is) ∙ (and_parts (net_holds c.nets d.net (d.at + d.width)) (driver_fits (drivers_of c) d.width d.by) fits).1)

-- ---- a part of what drives

pub net_less : (c : Circuit) (net end low : ℕ) → low ≤ end → net_holds c.nets net end ≡ true → net_holds c.nets net low ≡ true
net_less c net end low le h = less (slice_get c.nets net) h
  where
    less : (o : Option Net) → reaches end o ≡ true → reaches low o ≡ true
    less None k = k
    less (Some x) k = le-leb low x.width (let l = leb-true end x.width k in omega (arith, l, le))

input_less : (c : Circuit) (end low : ℕ) → low ≤ end → (o : Option ℕ) → input_holds c.nets end o ≡ true → input_holds c.nets low o ≡ true
input_less c end low le None h = h
input_less c end low le (Some net) h = net_less c net end low le h

cell_less : (end low : ℕ) → low ≤ end → (o : Option Cell) → cell_holds end o ≡ true → cell_holds low o ≡ true
cell_less end low le None h = h
cell_less end low le (Some x) h = le-leb low x.width (let l = leb-true end x.width h in omega (arith, l, le))

reg_less : (end low : ℕ) → low ≤ end → (o : Option Reg) → register_holds end o ≡ true → register_holds low o ≡ true
reg_less end low le None h = h
reg_less end low le (Some x) h = le-leb low x.width (let l = leb-true end x.width h in omega (arith, l, le))

mem_less : (n end low : ℕ) → low ≤ end → (o : Option Mem) → port_holds n end o ≡ true → port_holds n low o ≡ true
mem_less n end low le None h = h
mem_less n end low le (Some x) h =
    let p = and_parts (nat_lt n (length x.reads)) (nat_le end x.width) h in
    and_from (nat_lt n (length x.reads)) (nat_le low x.width) p.0 (le-leb low x.width (let l = leb-true end x.width p.1 in omega (arith, l, le)))

-- what drives, from a later bit on
abbrev pub moved_by : By → ℕ → By
moved_by (by.Const v) offset = by.Const v
moved_by (by.Input n at) offset = by.Input n (at + offset)
moved_by (by.Wire n at) offset = by.Wire n (at + offset)
moved_by (by.Cell n at) offset = by.Cell n (at + offset)
moved_by (by.Reg n at) offset = by.Reg n (at + offset)
moved_by (by.Read m n at) offset = by.Read m n (at + offset)

pub moved_fits : (c : Circuit) (d : Drive) → drive_fits (drivers_of c) d ≡ true → (b : By) → d.by ≡ b → ((v : BitValue) → b ≡ by.Const v → ⊥) → (offset count : ℕ) → offset + count ≤ d.width → driver_fits (drivers_of c) count (moved_by b offset) ≡ true
moved_fits c d fits b is other offset count le = by_by b is other (sym (ap (driver_fits (drivers_of c) d.width) is) ∙ (and_parts (net_holds c.nets d.net (d.at + d.width)) (driver_fits (drivers_of c) d.width d.by) fits).1)
  where
    by_by : (k : By) → d.by ≡ k → ((v : BitValue) → k ≡ by.Const v → ⊥) → driver_fits (drivers_of c) d.width k ≡ true → driver_fits (drivers_of c) count (moved_by k offset) ≡ true
    by_by (by.Const v) e o h = absurd (o v refl)
    by_by (by.Input n at) e o h = input_less c (at + d.width) (at + offset + count) (omega (arith, le)) (slice_get c.inputs n) h
    by_by (by.Wire n at) e o h = net_less c n (at + d.width) (at + offset + count) (omega (arith, le)) h
    by_by (by.Cell n at) e o h = cell_less (at + d.width) (at + offset + count) (omega (arith, le)) (slice_get c.cells n) h
    by_by (by.Reg n at) e o h = reg_less (at + d.width) (at + offset + count) (omega (arith, le)) (slice_get c.regs n) h
    by_by (by.Read m n at) e o h = mem_less n (at + d.width) (at + offset + count) (omega (arith, le)) (slice_get c.mems m) h

pub fits_inside : (c : Circuit) (d : Drive) → drive_fits (drivers_of c) d ≡ true → (x : Net) × (slice_get c.nets d.net ≡ Some x) × (d.at + d.width ≤ x.width)
fits_inside c d fits = holds_net c d.net (d.at + d.width) (and_parts (net_holds c.nets d.net (d.at + d.width)) (driver_fits (drivers_of c) d.width d.by) fits).0
