-- The parts of a valid circuit, and its stores.
use Rattle.std.proofs.Common.{◌≡◌, ℕ, zero, suc, ◌+◌, ◌*◌, ◌<◌, ◌≤◌, cond, List, [], ◌∷◌, map, length, get_or, refl, sym, ◌∙◌, ap, subst, arith, Bool, true, false, Some}
use Rattle.std.specs.Prelude.{slice_get, nat_le, ◌==◌}
use Rattle.std.specs.List.{list_all, list_any}
use Rattle.std.proofs.lemmas.Bool.{and_parts}
use Rattle.std.proofs.lemmas.List.{length-map}
use Rattle.sim_base.specs.BitValue.{BitValue, zeros}
use Rattle.circuit.specs.Signal.{sig_width}
use Rattle.circuit.specs.Store.{start_read, start_store}
use Rattle.circuit.specs.Valid.{widest, reaches, is_countable, piece_fits, sig_fits, sig_of, drive_fits, drivers_of, widths_fit, widths_of, cell_fits, register_has, ports_of_kind, register_fits, read_fits, address_width, mem_fits, inputs_fit, item_fits, slots_run, names_rise, scope_fits, names_differ, diag_fits, counts_fit, is_valid}
use Rattle.circuit.specs.declared.netlist.Circuit.{Circuit}
use Rattle.circuit.specs.declared.netlist.Net.{Net}
use Rattle.circuit.specs.declared.netlist.Piece.{Piece}
use Rattle.circuit.specs.declared.netlist.Piece.TheVariants as piece
use Rattle.circuit.specs.declared.cell.Cell.{Cell}
use Rattle.circuit.specs.declared.register.Reg.{Reg}
use Rattle.circuit.specs.declared.memory.Mem.{Mem}
use Rattle.circuit.specs.declared.memory.ReadPort.{ReadPort}
use Rattle.circuit.specs.declared.store.Store.{Store}
use Rattle.sim_base.specs.Values.{widths}
use Rattle.signal_words.specs.Values.{IsInside, AreInside, IsSignalOf}
use Rattle.signal_words.specs.Stores.{IsStoreOf, IsCellOf}
use Rattle.signal_words.proofs.Told.{eq_from, le_from}

-- ---- lists

pub passes_at : {X : Type 0} (test : X → Bool) (xs : List X) (n : ℕ) (x : X) → list_all test xs ≡ true → slice_get xs n ≡ Some x → test x ≡ true
passes_at test [] n x h e = cc e
passes_at test (y ∷ ys) zero x h e = let same : y ≡ x = cc e in ap test (sym same) ∙ (and_parts (test y) (list_all test ys) h).0
passes_at test (y ∷ ys) (suc n) x h e = passes_at test ys n x (and_parts (test y) (list_all test ys) h).1 e

pub mapped_at : {X : Type 0} (f : X → ℕ) (xs : List X) (n : ℕ) (x : X) → slice_get xs n ≡ Some x → (n < length xs) × (get_or (map f xs) n 0 ≡ f x)
mapped_at f [] n x e = cc e
mapped_at f (y ∷ ys) zero x e = let same : y ≡ x = cc e in (omega arith, ap f same)
mapped_at f (y ∷ ys) (suc n) x e = let t = mapped_at f ys n x e in (omega (arith, t.0), t.1)

length_same : {X Y : Type 0} (f : X → ℕ) (g : Y → ℕ) (xs : List X) (ys : List Y) → map f xs ≡ map g ys → length xs ≡ length ys
length_same f g xs ys e = sym (length-map xs f) ∙ ap length e ∙ length-map ys g

-- ---- signals

net_reached : (xs : List Net) (n end : ℕ) → reaches end (slice_get xs n) ≡ true → (n < length xs) × (end ≤ get_or (map (λ (x : Net). x.width) xs) n 0)
net_reached [] n end e = cc e
net_reached (x ∷ xs) zero end e = (omega arith, le_from end x.width e)
net_reached (x ∷ xs) (suc n) end e = let t = net_reached xs n end e in (omega (arith, t.0), t.1)

piece_inside : (c : Circuit) (store : Store) (p : Piece) → IsStoreOf c store → piece_fits c.nets p ≡ true → IsInside store.nets p
piece_inside c store (piece.Const v) s e = tt
piece_inside c store (piece.Part net at width) s e =
    let t = net_reached c.nets net (at + width) e in
    let l : length store.nets ≡ length c.nets = length_same (λ (x : BitValue). x.width) (λ (x : Net). x.width) store.nets c.nets s.nets in
    (omega (arith, t.0, l), subst (λ ws. at + width ≤ get_or ws net 0) (sym s.nets) t.1)

pieces_inside : (c : Circuit) (store : Store) (ps : List Piece) → IsStoreOf c store → list_all (piece_fits c.nets) ps ≡ true → AreInside store.nets ps
pieces_inside c store [] s e = tt
pieces_inside c store (p ∷ ps) s e =
    let t = and_parts (piece_fits c.nets p) (list_all (piece_fits c.nets) ps) e in (piece_inside c store p s t.0, pieces_inside c store ps s t.1)

pub signal_of : (c : Circuit) (store : Store) (sig : List Piece) → IsStoreOf c store → sig_fits c.nets sig ≡ true → IsSignalOf store.nets sig
signal_of c store sig s e =
    let t = and_parts (list_all (piece_fits c.nets) sig) (nat_le (sig_width sig) widest) e in
    record { inside = pieces_inside c store sig s t.0; width = le_from (sig_width sig) widest t.1 }

-- ---- the parts of a valid circuit

record Parts (c : Circuit) : Type 0 where
  cells : list_all (cell_fits c.nets) c.cells ≡ true
  regs : list_all (register_fits c.nets) c.regs ≡ true
  mems : list_all (mem_fits c.nets) c.mems ≡ true
  diags : list_all (diag_fits c.nets) c.diags ≡ true

parts_of : (c : Circuit) → is_valid c ≡ true → Parts c
parts_of c e =
    let a = and_parts (counts_fit c) _ e in
    let b = and_parts (list_all (λ x. nat_le x.width widest) c.nets) _ a.1 in
    let d = and_parts (list_all (drive_fits (drivers_of c)) c.drives) _ b.1 in
    let x = and_parts (list_all (cell_fits c.nets) c.cells) _ d.1 in
    let r = and_parts (list_all (register_fits c.nets) c.regs) _ x.1 in
    let m = and_parts (list_all (mem_fits c.nets) c.mems) _ r.1 in
    let i = and_parts (inputs_fit c.nets c.items c.inputs) _ m.1 in
    let j = and_parts (list_all (item_fits c.nets c.mems c.scopes) c.items) _ i.1 in
    let k = and_parts (slots_run c.mems 0 c.items) _ j.1 in
    let l = and_parts (names_rise c.items) _ k.1 in
    let s = and_parts (list_all scope_fits c.scopes) _ l.1 in
    let n = and_parts (names_differ c.scopes) _ s.1 in
    let o = and_parts (list_any (λ s. length s.name == 0) c.scopes) _ n.1 in
    record { cells = x.0; regs = r.0; mems = m.0; diags = o.1 }

pub memory_of : (c : Circuit) (n : ℕ) (m : Mem) → is_valid c ≡ true → slice_get c.mems n ≡ Some m → mem_fits c.nets m ≡ true
memory_of c n m v e = passes_at (mem_fits c.nets) c.mems n m (parts_of c v).mems e

pub cell_of : (c : Circuit) (store : Store) (n : ℕ) (x : Cell) → is_valid c ≡ true → IsStoreOf c store → slice_get c.cells n ≡ Some x → IsCellOf store n x
cell_of c store n x v s e =
    let f = passes_at (cell_fits c.nets) c.cells n x (parts_of c v).cells e in
    let a = and_parts (sig_fits c.nets x.a) _ f in
    let b = and_parts (sig_fits c.nets x.b) _ a.1 in
    let d = and_parts (sig_fits c.nets x.s) _ b.1 in
    let w = and_parts (nat_le x.width widest) (widths_fit x.op (widths_of x)) d.1 in
    let t = mapped_at (λ (y : Cell). y.width) c.cells n x e in
    let l : length store.cells ≡ length c.cells = length_same (λ (y : BitValue). y.width) (λ (y : Cell). y.width) store.cells c.cells s.cells in
    record {
      a = signal_of c store x.a s a.0;
      b = signal_of c store x.b s b.0;
      s = signal_of c store x.s s d.0;
      width = le_from x.width widest w.0;
      fits = w.1;
      there = omega (arith, t.0, l);
      out_width = ap (λ ws. get_or ws n 0) s.cells ∙ t.1;
    }

-- ---- the store before the first sample

zeros_widths : {X : Type 0} (f : X → ℕ) (xs : List X) → widths (map (λ x. zeros (f x)) xs) ≡ map f xs
zeros_widths f [] = refl
zeros_widths f (x ∷ xs) = ap (λ ws. f x ∷ ws) (zeros_widths f xs)

regs_widths : (c : Circuit) (rs : List Reg) → list_all (register_fits c.nets) rs ≡ true → widths (map (λ r. r.init) rs) ≡ map (λ r. r.width) rs
regs_widths c [] e = refl
regs_widths c (r ∷ rs) e =
    let t = and_parts (register_fits c.nets r) (list_all (register_fits c.nets) rs) e in
    let f = and_parts (nat_le r.width widest) _ t.0 in
    let p = and_parts (register_has c.nets (ports_of_kind r.kind) r) _ f.1 in
    let q = and_parts (r.value.width == r.width) (r.init.width == r.width) p.1 in
    let i : r.init.width ≡ r.width = eq_from r.init.width r.width q.1 in
    let u : widths (map (λ r. r.init) rs) ≡ map (λ r. r.width) rs = regs_widths c rs t.1 in
    cc (i, u)

read_width : (m : Mem) (p : ReadPort) → p.init.width ≡ m.width → (start_read m p).width ≡ m.width
read_width m p e = by p.clocked
  where
    by : (t : Bool) → (cond t p.init (zeros m.width)).width ≡ m.width
    by true = e
    by false = refl

reads_widths : (c : Circuit) (m : Mem) (abits : ℕ) (ps : List ReadPort) → list_all (read_fits c.nets m abits) ps ≡ true → widths (map (start_read m) ps) ≡ map (λ _. m.width) ps
reads_widths c m abits [] e = refl
reads_widths c m abits (p ∷ ps) e =
    let t = and_parts (read_fits c.nets m abits p) (list_all (read_fits c.nets m abits) ps) e in
    let a = and_parts (sig_of c.nets 1 p.clk) _ t.0 in
    let b = and_parts (sig_of c.nets 1 p.en) _ a.1 in
    let d = and_parts (sig_of c.nets abits p.addr) _ b.1 in
    let s = and_parts (length p.see == length m.writes) (p.init.width == m.width) d.1 in
    let i : (start_read m p).width ≡ m.width = read_width m p (eq_from p.init.width m.width s.1) in
    let u : widths (map (start_read m) ps) ≡ map (λ _. m.width) ps = reads_widths c m abits ps t.1 in
    cc (i, u)

mems_widths : (c : Circuit) (ms : List Mem) → list_all (mem_fits c.nets) ms ≡ true → map widths (map (λ m. map (start_read m) m.reads) ms) ≡ map (λ m. map (λ _. m.width) m.reads) ms
mems_widths c [] e = refl
mems_widths c (m ∷ ms) e =
    let t = and_parts (mem_fits c.nets m) (list_all (mem_fits c.nets) ms) e in
    let a = and_parts (nat_le m.width widest) _ t.0 in
    let b = and_parts (m.init.width == m.size * m.width) _ a.1 in
    let d = and_parts (is_countable (length m.reads)) _ b.1 in
    let r = and_parts (list_all (read_fits c.nets m (address_width m.reads m.writes)) m.reads) _ d.1 in
    let i : widths (map (start_read m) m.reads) ≡ map (λ _. m.width) m.reads = reads_widths c m (address_width m.reads m.writes) m.reads r.0 in
    let u : map widths (map (λ m. map (start_read m) m.reads) ms) ≡ map (λ m. map (λ _. m.width) m.reads) ms = mems_widths c ms t.1 in
    cc (i, u)

pub start_of : (c : Circuit) → is_valid c ≡ true → IsStoreOf c (start_store c)
start_of c v =
    let p = parts_of c v in
    record {
      nets = zeros_widths (λ (x : Net). x.width) c.nets;
      cells = zeros_widths (λ (x : Cell). x.width) c.cells;
      regs = regs_widths c c.regs p.regs;
      reads = mems_widths c c.mems p.mems;
    }
