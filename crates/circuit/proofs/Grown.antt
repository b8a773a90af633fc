-- The tests of a valid circuit one by one, and over lists that grow.
use Rattle.std.proofs.Common.{◌≡◌, ℕ, zero, suc, ◌+◌, ◌*◌, ◌^◌, cond, List, [], ◌∷◌, ◌++◌, length, refl, sym, ◌∙◌, ap, arith, Bool, true, false, ◌&&◌, Option, Some, None, nat_le, nat_lt, ◌<◌}
use Rattle.std.specs.Prelude.{slice_get, ◌==◌}
use Rattle.std.specs.List.{list_all, list_any}
use Rattle.std.specs.Str.{is_utf8}
use Rattle.std.proofs.lemmas.Bool.{and_from, and_parts, lt-ltb, ltb-true}
use Rattle.circuit.specs.Signal.{sig_width}
use Rattle.circuit.specs.Valuation.{bits_of}
use Rattle.circuit.specs.Valid.{Drivers, drivers_of, Ports, address_width, cell_fits, cell_holds, counts_fit, diag_fits, drive_fits, driver_fits, input_holds, inputs_fit, is_countable, is_valid, item_fits, kind_fits, mem_fits, is_shown_once, names_differ, names_rise, net_holds, net_words, node_count, numbers_differ, output_words, piece_fits, port_holds, ports_of_kind, reaches, read_fits, register_fits, register_has, register_holds, register_words, scope_fits, sig_fits, sig_of, slot_count, slots_run, text_fits, trigger_fits, widest, width_where, widths_fit, widths_of, write_fits}
use Rattle.circuit.specs.Built.{AreCountable, AreFitting, DriversStandIn, ShowsWhatIsThere, StandsIn}
use Rattle.circuit.specs.declared.netlist.Circuit.{Circuit}
use Rattle.circuit.specs.declared.netlist.Net.{Net}
use Rattle.circuit.specs.declared.netlist.Drive.{Drive}
use Rattle.circuit.specs.declared.netlist.By.{By}
use Rattle.circuit.specs.declared.netlist.By.TheVariants as by
use Rattle.circuit.specs.declared.netlist.Piece.{Piece}
use Rattle.circuit.specs.declared.netlist.Piece.TheVariants as piece
use Rattle.circuit.specs.declared.cell.Cell.{Cell}
use Rattle.circuit.specs.declared.register.Reg.{Reg}
use Rattle.circuit.specs.declared.memory.Mem.{Mem}
use Rattle.circuit.specs.declared.memory.ReadPort.{ReadPort}
use Rattle.circuit.specs.declared.memory.WritePort.{WritePort}
use Rattle.circuit.specs.declared.item.Item.{Item}
use Rattle.circuit.specs.declared.item.ItemKind.{ItemKind}
use Rattle.circuit.specs.declared.item.ItemKind.TheVariants as item
use Rattle.circuit.specs.declared.diagnostic.Diag.{Diag}
use Rattle.circuit.specs.declared.diagnostic.Trigger.{Trigger}

-- ---- tests

and_mono : (a b p q : Bool) → (a ≡ true → b ≡ true) → (p ≡ true → q ≡ true) → (a && p) ≡ true → (b && q) ≡ true
and_mono a b p q f g h = let t = and_parts a p h in and_from b q (f t.0) (g t.1)

pub all_mono : {X : Type 0} (p q : X → Bool) (xs : List X) → ((x : X) → p x ≡ true → q x ≡ true) → list_all p xs ≡ true → list_all q xs ≡ true
all_mono p q [] f h = refl
all_mono p q (x ∷ xs) f h = and_mono (p x) (q x) (list_all p xs) (list_all q xs) (f x) (all_mono p q xs f) h

pub all_at : {X : Type 0} (p : X → Bool) (xs : List X) → list_all p xs ≡ true → (i : ℕ) (x : X) → slice_get xs i ≡ Some x → p x ≡ true
all_at p [] h i x e = cc e
all_at p (y ∷ ys) h zero x e =
    let z : y ≡ x = let g : Some y ≡ Some x = e in cc g in
    ap p (sym z) ∙ (and_parts (p y) (list_all p ys) h).0
all_at p (y ∷ ys) h (suc i) x e = all_at p ys (and_parts (p y) (list_all p ys) h).1 i x e

-- ---- the tests of a valid circuit

counts_of : (c : Circuit) → counts_fit c ≡ true → AreCountable c
counts_of c h =
    let a = and_parts (is_countable (length c.nets)) _ h in
    let b = and_parts (is_countable (length c.cells)) _ a.1 in
    let d = and_parts (is_countable (length c.regs)) _ b.1 in
    let e = and_parts (is_countable (length c.mems)) _ d.1 in
    let f = and_parts (is_countable (length c.inputs)) _ e.1 in
    let g = and_parts (is_countable (length c.scopes)) _ f.1 in
    let i = and_parts (is_countable (slot_count c)) _ g.1 in
    let j = and_parts (is_countable (node_count c)) _ i.1 in
    let k = and_parts (is_countable (bits_of c)) _ j.1 in
    let l = and_parts (is_countable (net_words c.nets)) _ k.1 in
    let m = and_parts (is_countable (output_words c.cells)) (is_countable (register_words c.regs)) l.1 in
    record {
      nets = ltb-true (length c.nets) (2 ^ 32) a.0;
      cells = ltb-true (length c.cells) (2 ^ 32) b.0;
      regs = ltb-true (length c.regs) (2 ^ 32) d.0;
      mems = ltb-true (length c.mems) (2 ^ 32) e.0;
      inputs = ltb-true (length c.inputs) (2 ^ 32) f.0;
      scopes = ltb-true (length c.scopes) (2 ^ 32) g.0;
      slots = ltb-true (slot_count c) (2 ^ 32) i.0;
      nodes = ltb-true (node_count c) (2 ^ 32) j.0;
      bits = ltb-true (bits_of c) (2 ^ 32) k.0;
      net_words = ltb-true (net_words c.nets) (2 ^ 32) l.0;
      output_words = ltb-true (output_words c.cells) (2 ^ 32) m.0;
      register_words = ltb-true (register_words c.regs) (2 ^ 32) m.1;
    }

counts_from : (c : Circuit) → AreCountable c → counts_fit c ≡ true
counts_from c a =
    let m = and_from (is_countable (output_words c.cells)) (is_countable (register_words c.regs)) (lt-ltb (output_words c.cells) (2 ^ 32) a.output_words) (lt-ltb (register_words c.regs) (2 ^ 32) a.register_words) in
    let l = and_from (is_countable (net_words c.nets)) _ (lt-ltb (net_words c.nets) (2 ^ 32) a.net_words) m in
    let k = and_from (is_countable (bits_of c)) _ (lt-ltb (bits_of c) (2 ^ 32) a.bits) l in
    let i = and_from (is_countable (node_count c)) _ (lt-ltb (node_count c) (2 ^ 32) a.nodes) k in
    let h = and_from (is_countable (slot_count c)) _ (lt-ltb (slot_count c) (2 ^ 32) a.slots) i in
    let g = and_from (is_countable (length c.scopes)) _ (lt-ltb (length c.scopes) (2 ^ 32) a.scopes) h in
    let f = and_from (is_countable (length c.inputs)) _ (lt-ltb (length c.inputs) (2 ^ 32) a.inputs) g in
    let e = and_from (is_countable (length c.mems)) _ (lt-ltb (length c.mems) (2 ^ 32) a.mems) f in
    let d = and_from (is_countable (length c.regs)) _ (lt-ltb (length c.regs) (2 ^ 32) a.regs) e in
    let b = and_from (is_countable (length c.cells)) _ (lt-ltb (length c.cells) (2 ^ 32) a.cells) d in
    and_from (is_countable (length c.nets)) _ (lt-ltb (length c.nets) (2 ^ 32) a.nets) b

pub fitting_of : (c : Circuit) → is_valid c ≡ true → AreFitting c
fitting_of c h =
    let a = and_parts (counts_fit c) _ h in
    let b = and_parts (list_all (λ x. nat_le x.width widest) c.nets) _ a.1 in
    let d = and_parts (list_all (drive_fits (drivers_of c)) c.drives) _ b.1 in
    let e = and_parts (list_all (cell_fits c.nets) c.cells) _ d.1 in
    let f = and_parts (list_all (register_fits c.nets) c.regs) _ e.1 in
    let g = and_parts (list_all (mem_fits c.nets) c.mems) _ f.1 in
    let i = and_parts (inputs_fit c.nets c.items c.inputs) _ g.1 in
    let j = and_parts (list_all (item_fits c.nets c.mems c.scopes) c.items) _ i.1 in
    let k = and_parts (slots_run c.mems 0 c.items) _ j.1 in
    let l = and_parts (names_rise c.items) _ k.1 in
    let m = and_parts (list_all scope_fits c.scopes) _ l.1 in
    let n = and_parts (names_differ c.scopes) _ m.1 in
    let o = and_parts (list_any (λ s. length s.name == 0) c.scopes) (list_all (diag_fits c.nets) c.diags) n.1 in
    record {
      counts = counts_of c a.0;
      nets = b.0;
      drives = d.0;
      cells = e.0;
      regs = f.0;
      mems = g.0;
      inputs = i.0;
      items = j.0;
      slots = k.0;
      rise = l.0;
      scopes = m.0;
      names = n.0;
      top = o.0;
      diags = o.1;
    }

pub fitting_from : (c : Circuit) → AreFitting c → is_valid c ≡ true
fitting_from c a =
    let o = and_from (list_any (λ s. length s.name == 0) c.scopes) (list_all (diag_fits c.nets) c.diags) a.top a.diags in
    let n = and_from (names_differ c.scopes) _ a.names o in
    let m = and_from (list_all scope_fits c.scopes) _ a.scopes n in
    let l = and_from (names_rise c.items) _ a.rise m in
    let k = and_from (slots_run c.mems 0 c.items) _ a.slots l in
    let j = and_from (list_all (item_fits c.nets c.mems c.scopes) c.items) _ a.items k in
    let i = and_from (inputs_fit c.nets c.items c.inputs) _ a.inputs j in
    let g = and_from (list_all (mem_fits c.nets) c.mems) _ a.mems i in
    let f = and_from (list_all (register_fits c.nets) c.regs) _ a.regs g in
    let e = and_from (list_all (cell_fits c.nets) c.cells) _ a.cells f in
    let d = and_from (list_all (drive_fits (drivers_of c)) c.drives) _ a.drives e in
    let b = and_from (list_all (λ x. nat_le x.width widest) c.nets) _ a.nets d in
    and_from (counts_fit c) _ (counts_from c a.counts) b

-- ---- over more nets

module _ (nets more : List Net) (stands : StandsIn nets more) where
  net_stays : (n end : ℕ) → net_holds nets n end ≡ true → net_holds more n end ≡ true
  net_stays n end h = held (slice_get nets n) refl h
    where
      held : (o : Option Net) → slice_get nets n ≡ o → reaches end o ≡ true → net_holds more n end ≡ true
      held None e k = absurd (let z : false ≡ true = k in cc z)
      held (Some x) e k = ap (reaches end) (stands n x e) ∙ k

  piece_stays : (p : Piece) → piece_fits nets p ≡ true → piece_fits more p ≡ true
  piece_stays (piece.Const v) h = refl
  piece_stays (piece.Part n at width) h = net_stays n (at + width) h

  pub sig_stays : (ps : List Piece) → sig_fits nets ps ≡ true → sig_fits more ps ≡ true
  sig_stays ps h = and_mono (list_all (piece_fits nets) ps) (list_all (piece_fits more) ps) (nat_le (sig_width ps) widest) (nat_le (sig_width ps) widest) (all_mono (piece_fits nets) (piece_fits more) ps piece_stays) (λ k. k) h

  pub sig_of_stays : (width : ℕ) (ps : List Piece) → sig_of nets width ps ≡ true → sig_of more width ps ≡ true
  sig_of_stays width ps h = and_mono (sig_fits nets ps) (sig_fits more ps) (sig_width ps == width) (sig_width ps == width) (sig_stays ps) (λ k. k) h

  pub cell_stays : (x : Cell) → cell_fits nets x ≡ true → cell_fits more x ≡ true
  cell_stays x h =
      let w : Bool = nat_le x.width widest && widths_fit x.op (widths_of x) in
      and_mono (sig_fits nets x.a) (sig_fits more x.a) (sig_fits nets x.b && (sig_fits nets x.s && w)) (sig_fits more x.b && (sig_fits more x.s && w)) (sig_stays x.a)
      (and_mono (sig_fits nets x.b) (sig_fits more x.b) (sig_fits nets x.s && w) (sig_fits more x.s && w) (sig_stays x.b)
      (and_mono (sig_fits nets x.s) (sig_fits more x.s) w w (sig_stays x.s) (λ k. k))) h

  ports_stay : (p : Ports) (r : Reg) → register_has nets p r ≡ true → register_has more p r ≡ true
  ports_stay p r h =
      let a = and_parts (sig_of nets (width_where p.clk 1) r.clk) _ h in
      let b = and_parts (sig_of nets (width_where p.d r.width) r.d) _ a.1 in
      let d = and_parts (sig_of nets (width_where p.en 1) r.en) _ b.1 in
      let e = and_parts (sig_of nets (width_where p.bits r.width) r.set) _ d.1 in
      let f = and_parts (sig_of nets (cond p.bits r.width (width_where p.reset 1)) r.clr) _ e.1 in
      let g = and_parts (sig_of nets (width_where p.load 1) r.load) (sig_of nets (width_where p.load r.width) r.ad) f.1 in
      and_from (sig_of more (width_where p.clk 1) r.clk) _ (sig_of_stays (width_where p.clk 1) r.clk a.0)
      (and_from (sig_of more (width_where p.d r.width) r.d) _ (sig_of_stays (width_where p.d r.width) r.d b.0)
      (and_from (sig_of more (width_where p.en 1) r.en) _ (sig_of_stays (width_where p.en 1) r.en d.0)
      (and_from (sig_of more (width_where p.bits r.width) r.set) _ (sig_of_stays (width_where p.bits r.width) r.set e.0)
      (and_from (sig_of more (cond p.bits r.width (width_where p.reset 1)) r.clr) _ (sig_of_stays (cond p.bits r.width (width_where p.reset 1)) r.clr f.0)
      (and_from (sig_of more (width_where p.load 1) r.load) (sig_of more (width_where p.load r.width) r.ad) (sig_of_stays (width_where p.load 1) r.load g.0)
      (sig_of_stays (width_where p.load r.width) r.ad g.1))))))

  pub register_stays : (r : Reg) → register_fits nets r ≡ true → register_fits more r ≡ true
  register_stays r h =
      let rest : Bool = r.value.width == r.width && r.init.width == r.width in
      let a = and_parts (nat_le r.width widest) (register_has nets (ports_of_kind r.kind) r && rest) h in
      let b = and_parts (register_has nets (ports_of_kind r.kind) r) rest a.1 in
      and_from (nat_le r.width widest) (register_has more (ports_of_kind r.kind) r && rest) a.0
      (and_from (register_has more (ports_of_kind r.kind) r) rest (ports_stay (ports_of_kind r.kind) r b.0) b.1)

  read_stays : (m : Mem) (abits : ℕ) (p : ReadPort) → read_fits nets m abits p ≡ true → read_fits more m abits p ≡ true
  read_stays m abits p h =
      let rest : Bool = length p.see == length m.writes && p.init.width == m.width in
      and_mono (sig_of nets 1 p.clk) (sig_of more 1 p.clk) (sig_of nets 1 p.en && (sig_of nets abits p.addr && rest)) (sig_of more 1 p.en && (sig_of more abits p.addr && rest)) (sig_of_stays 1 p.clk)
      (and_mono (sig_of nets 1 p.en) (sig_of more 1 p.en) (sig_of nets abits p.addr && rest) (sig_of more abits p.addr && rest) (sig_of_stays 1 p.en)
      (and_mono (sig_of nets abits p.addr) (sig_of more abits p.addr) rest rest (sig_of_stays abits p.addr) (λ k. k))) h

  write_stays : (m : Mem) (abits : ℕ) (p : WritePort) → write_fits nets m abits p ≡ true → write_fits more m abits p ≡ true
  write_stays m abits p h =
      and_mono (sig_of nets 1 p.clk) (sig_of more 1 p.clk) (sig_of nets m.width p.en && (sig_of nets abits p.addr && sig_of nets m.width p.word)) (sig_of more m.width p.en && (sig_of more abits p.addr && sig_of more m.width p.word)) (sig_of_stays 1 p.clk)
      (and_mono (sig_of nets m.width p.en) (sig_of more m.width p.en) (sig_of nets abits p.addr && sig_of nets m.width p.word) (sig_of more abits p.addr && sig_of more m.width p.word) (sig_of_stays m.width p.en)
      (and_mono (sig_of nets abits p.addr) (sig_of more abits p.addr) (sig_of nets m.width p.word) (sig_of more m.width p.word) (sig_of_stays abits p.addr) (sig_of_stays m.width p.word))) h

  pub mem_stays : (m : Mem) → mem_fits nets m ≡ true → mem_fits more m ≡ true
  mem_stays m h =
      let abits : ℕ = address_width m.reads m.writes in
      let a = and_parts (nat_le m.width widest) _ h in
      let b = and_parts (m.init.width == m.size * m.width) _ a.1 in
      let d = and_parts (is_countable (length m.reads)) (list_all (read_fits nets m abits) m.reads && list_all (write_fits nets m abits) m.writes) b.1 in
      let e = and_parts (list_all (read_fits nets m abits) m.reads) (list_all (write_fits nets m abits) m.writes) d.1 in
      let f = and_from (list_all (read_fits more m abits) m.reads) (list_all (write_fits more m abits) m.writes)
      (all_mono (read_fits nets m abits) (read_fits more m abits) m.reads (read_stays m abits) e.0)
      (all_mono (write_fits nets m abits) (write_fits more m abits) m.writes (write_stays m abits) e.1) in
      and_from (nat_le m.width widest) _ a.0
      (and_from (m.init.width == m.size * m.width) _ b.0
      (and_from (is_countable (length m.reads)) (list_all (read_fits more m abits) m.reads && list_all (write_fits more m abits) m.writes) d.0 f))

  trigger_stays : (t : Option Trigger) → trigger_fits nets t ≡ true → trigger_fits more t ≡ true
  trigger_stays None h = h
  trigger_stays (Some t) h = and_mono (sig_fits nets t.on) (sig_fits more t.on) (length t.rising == sig_width t.on) (length t.rising == sig_width t.on) (sig_stays t.on) (λ k. k) h

  pub diag_stays : (d : Diag) → diag_fits nets d ≡ true → diag_fits more d ≡ true
  diag_stays d h =
      let rest : Bool = is_countable (length d.text) && (is_utf8 d.text && text_fits d.src) in
      and_mono (sig_of nets 1 d.a) (sig_of more 1 d.a) (sig_of nets 1 d.en && (trigger_fits nets d.trigger && rest)) (sig_of more 1 d.en && (trigger_fits more d.trigger && rest)) (sig_of_stays 1 d.a)
      (and_mono (sig_of nets 1 d.en) (sig_of more 1 d.en) (trigger_fits nets d.trigger && rest) (trigger_fits more d.trigger && rest) (sig_of_stays 1 d.en)
      (and_mono (trigger_fits nets d.trigger) (trigger_fits more d.trigger) rest rest (trigger_stays d.trigger) (λ k. k))) h

-- ---- drives over more of what they name

at_of_option : {X : Type 0} (xs ys : List X) (test : Option X → Bool) → StandsIn xs ys → test None ≡ false → (n : ℕ) → test (slice_get xs n) ≡ true → test (slice_get ys n) ≡ true
at_of_option {X} xs ys test stands none n h = held (slice_get xs n) refl h
  where
    held : (o : Option X) → slice_get xs n ≡ o → test o ≡ true → test (slice_get ys n) ≡ true
    held None e k = absurd (let z : false ≡ true = sym none ∙ k in cc z)
    held (Some x) e k = ap test (stands n x e) ∙ k

module _ (from to : Drivers) (s : DriversStandIn from to) where
  input_stays : (end n : ℕ) → input_holds from.nets end (slice_get from.inputs n) ≡ true → input_holds to.nets end (slice_get to.inputs n) ≡ true
  input_stays end n h = held (slice_get from.inputs n) refl h
    where
      held : (o : Option ℕ) → slice_get from.inputs n ≡ o → input_holds from.nets end o ≡ true → input_holds to.nets end (slice_get to.inputs n) ≡ true
      held None e k = absurd (let z : false ≡ true = k in cc z)
      held (Some net) e k = ap (input_holds to.nets end) (s.inputs n net e) ∙ net_stays from.nets to.nets s.nets net end k

  by_stays : (width : ℕ) (b : By) → driver_fits from width b ≡ true → driver_fits to width b ≡ true
  by_stays width (by.Const v) h = h
  by_stays width (by.Input n at) h = input_stays (at + width) n h
  by_stays width (by.Wire n at) h = net_stays from.nets to.nets s.nets n (at + width) h
  by_stays width (by.Cell n at) h = at_of_option from.cells to.cells (cell_holds (at + width)) s.cells refl n h
  by_stays width (by.Reg n at) h = at_of_option from.regs to.regs (register_holds (at + width)) s.regs refl n h
  by_stays width (by.Read m n at) h = at_of_option from.mems to.mems (port_holds n (at + width)) s.mems refl m h

  pub drive_stays : (d : Drive) → drive_fits from d ≡ true → drive_fits to d ≡ true
  drive_stays d h =
      and_mono (net_holds from.nets d.net (d.at + d.width)) (net_holds to.nets d.net (d.at + d.width)) (driver_fits from d.width d.by) (driver_fits to d.width d.by) (net_stays from.nets to.nets s.nets d.net (d.at + d.width)) (by_stays d.width d.by) h

-- ---- lists that are appended to

pub appended_stands : {X : Type 0} (xs more : List X) → StandsIn xs (xs ++ more)
appended_stands [] more i x e = cc e
appended_stands (y ∷ ys) more zero x e = e
appended_stands (y ∷ ys) more (suc i) x e = appended_stands ys more i x e

-- ---- what is named is there

get_within : {X : Type 0} (xs : List X) (n : ℕ) → n < length xs → (x : X) × (slice_get xs n ≡ Some x)
get_within [] n lt = absurd (omega (arith, lt))
get_within (x ∷ xs) zero lt = (x, refl)
get_within (x ∷ xs) (suc n) lt = get_within xs n (omega (arith, lt))

kind_there : (c : Circuit) (k : ItemKind) → kind_fits c.nets c.mems k ≡ true → ShowsWhatIsThere c k
kind_there c (item.Node net lsb_at input output) h = get_within c.nets net (ltb-true net (length c.nets) h)
kind_there c (item.Memory m) h = get_within c.mems m (ltb-true m (length c.mems) h)

item_parts : (c : Circuit) → is_valid c ≡ true → (n : ℕ) (i : Item) → slice_get c.items n ≡ Some i → (i.scope < length c.scopes) × (kind_fits c.nets c.mems i.kind ≡ true)
item_parts c valid n i e =
    let fits = all_at (item_fits c.nets c.mems c.scopes) c.items (fitting_of c valid).items n i e in
    let a = and_parts (nat_lt i.scope (length c.scopes)) _ fits in
    let b = and_parts (kind_fits c.nets c.mems i.kind) _ a.1 in
    (ltb-true i.scope (length c.scopes) a.0, b.0)

pub item_there : (c : Circuit) → is_valid c ≡ true → (n : ℕ) (i : Item) → slice_get c.items n ≡ Some i → ShowsWhatIsThere c i.kind
item_there c valid n i e = kind_there c i.kind (item_parts c valid n i e).1

pub item_scope : (c : Circuit) → is_valid c ≡ true → (n : ℕ) (i : Item) → slice_get c.items n ≡ Some i → i.scope < length c.scopes
item_scope c valid n i e = (item_parts c valid n i e).0

pub input_there : (c : Circuit) → is_valid c ≡ true → (n net : ℕ) → slice_get c.inputs n ≡ Some net → net < length c.nets
input_there c valid n net e =
    let named : Bool = list_all (λ (m : ℕ). nat_lt m (length c.nets) && is_shown_once c.items m) c.inputs in
    let a = and_parts named (numbers_differ c.inputs) (fitting_of c valid).inputs in
    let b = all_at (λ (m : ℕ). nat_lt m (length c.nets) && is_shown_once c.items m) c.inputs a.0 n net e in
    ltb-true net (length c.nets) (and_parts (nat_lt net (length c.nets)) (is_shown_once c.items net) b).0
