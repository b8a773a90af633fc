-- The rows and the read ports of all memories.
use Rattle.std.proofs.Common.{◌≡◌, ℕ, zero, suc, ◌+◌, ◌<◌, ◌≤◌, List, [], ◌∷◌, map, length, set, refl, sym, ◌∙◌, ap, subst, arith, inl, inr, Bool, true, false, not, ◌&&◌, ◌||◌, Some}
use Rattle.std.specs.Prelude.{◌*◌, ◌==◌, slice_get, slice_index, nat_eq, nat_le}
use Rattle.std.specs.Cmp.Lexicographic.{pointwise}
use Rattle.std.specs.List.{list_all}
use Rattle.std.proofs.lemmas.Bool.{and_parts}
use Rattle.std.proofs.lemmas.Bool.Decides.{nat_tests}
use Rattle.std.proofs.lemmas.Option.{get_or_from_slice_get}
use Rattle.std.proofs.lemmas.Slice.Eq.{bytes_eq-Decides}
use Rattle.std.proofs.Math.Seq.{map-set_same}
use Rattle.sim_base.specs.BitValue.{BitValue}
use Rattle.circuit.specs.Next.{next_mems, next_stored}
use Rattle.circuit.specs.Rounds.{start_stored}
use Rattle.circuit.specs.Signal.{Digits}
use Rattle.circuit.specs.State.{Stored, same_stored}
use Rattle.circuit.specs.Valid.{address_width, is_countable, is_valid, mem_fits, read_fits, sig_of, widest}
use Rattle.circuit.specs.declared.netlist.Circuit.{Circuit}
use Rattle.circuit.specs.declared.memory.Mem.{Mem}
use Rattle.circuit.specs.declared.memory.ReadPort.{ReadPort}
use Rattle.circuit.specs.declared.store.Store.{Store}
use Rattle.driver_check.proofs.Places.{found, same, was_set, within}
use Rattle.memory_cells.specs.Ports.{stored}
use Rattle.memory_cells.specs.Rows.{AreRowsOf, RowValues, start_rows}
use Rattle.sim_base.specs.Values.{numbers, widths}
use Rattle.signal_words.proofs.Fitting.{memory_of}
use Rattle.eval_commit.specs.Computed.{AreAllRows}
use Rattle.eval_commit.specs.Evaluation.{Holds}
use Rattle.eval_commit.specs.KeptState.{kept_state, stored_all}
use Rattle.eval_commit.proofs.PortsOver.{long_as, over, over_all, over_at, over_more, told_more, unchanged}

-- ---- elements of what is kept

pub stored_length : (rows : List RowValues) (outs : List (List BitValue)) → length rows ≡ length outs → length (stored_all rows outs) ≡ length rows
unfolding stored_all
stored_length [] outs e = refl
stored_length (r ∷ rows) [] e = absurd (omega (arith, e))
stored_length (r ∷ rows) (o ∷ outs) e = ap suc (stored_length rows outs (omega (arith, e)))

pub stored_at : (rows : List RowValues) (outs : List (List BitValue)) (i : ℕ) (r : RowValues) (o : List BitValue) → slice_get rows i ≡ Some r → slice_get outs i ≡ Some o
    → slice_get (stored_all rows outs) i ≡ Some (stored r o)
unfolding stored_all
stored_at [] outs i r o a b = cc a
stored_at (s ∷ rows) [] i r o a b = cc b
stored_at (s ∷ rows) (p ∷ outs) zero r o a b =
    let e : s ≡ r = cc a in
    let f : p ≡ o = cc b in
    ap (λ (t : RowValues). Some (stored t p)) e ∙ ap (λ (q : List BitValue). Some (stored r q)) f
stored_at (s ∷ rows) (p ∷ outs) (suc i) r o a b = stored_at rows outs i r o a b

stored_set : (rows : List RowValues) (outs : List (List BitValue)) (i : ℕ) (r : RowValues) (o : List BitValue) → stored_all (set rows i r) (set outs i o) ≡ set (stored_all rows outs) i (stored r o)
unfolding stored_all
stored_set [] outs i r o = refl
stored_set (s ∷ rows) [] zero r o = refl
stored_set (s ∷ rows) [] (suc i) r o = refl
stored_set (s ∷ rows) (p ∷ outs) zero r o = refl
stored_set (s ∷ rows) (p ∷ outs) (suc i) r o = ap (λ ks. stored s p ∷ ks) (stored_set rows outs i r o)

next_length : (before now : Digits) (ms : List Mem) (ks : List Stored) → length ms ≡ length ks → length (next_mems before now ms ks) ≡ length ks
unfolding next_mems
next_length before now [] [] e = refl
next_length before now [] (k ∷ ks) e = absurd (omega (arith, e))
next_length before now (m ∷ ms) [] e = refl
next_length before now (m ∷ ms) (k ∷ ks) e = ap suc (next_length before now ms ks (omega (arith, e)))

next_at : (before now : Digits) (ms : List Mem) (ks : List Stored) (i : ℕ) (m : Mem) (k : Stored) → slice_get ms i ≡ Some m → slice_get ks i ≡ Some k
    → slice_get (next_mems before now ms ks) i ≡ Some (next_stored before now m k)
unfolding next_mems
next_at before now [] ks i m k a b = cc a
next_at before now (x ∷ ms) [] i m k a b = cc b
next_at before now (x ∷ ms) (y ∷ ks) zero m k a b =
    let e : x ≡ m = cc a in
    let f : y ≡ k = cc b in
    ap (λ (z : Mem). Some (next_stored before now z y)) e ∙ ap (λ (z : Stored). Some (next_stored before now m z)) f
next_at before now (x ∷ ms) (y ∷ ks) (suc i) m k a b = next_at before now ms ks i m k a b

pub same_itself : (s : Stored) → same_stored s s ≡ true
same_itself s = ap (λ b. b && pointwise nat_eq s.reads s.reads) ((bytes_eq-Decides s.rows s.rows).1 refl) ∙ (bytes_eq-Decides s.reads s.reads).1 refl

-- ---- the memories, one by one

pub rows_set : (c : Circuit) (rows : List RowValues) (i : ℕ) (m : Mem) (r : RowValues) → AreAllRows c rows → slice_get c.mems i ≡ Some m → AreRowsOf m r → AreAllRows c (set rows i r)
rows_set c rows i m r are at of = record {
  long = length_set rows i ∙ are.long;
  each = λ n x s a b. elim (was_set rows i n r s b) [
    | inl h ↦ subst (λ (q : RowValues). AreRowsOf x q) (sym h.1) (subst (λ (y : Mem). AreRowsOf y r) (same c.mems i m x at (subst (λ (k : ℕ). slice_get c.mems k ≡ Some x) h.0 a)) of)
    | inr h ↦ are.each n x s a h.1
  ];
}
  where
    length_set : (qs : List RowValues) (k : ℕ) → length (set qs k r) ≡ length qs
    length_set [] k = refl
    length_set (q ∷ qs) zero = refl
    length_set (q ∷ qs) (suc k) = ap suc (length_set qs k)

-- what is kept once the first i memories did their round
pub record AreClocked (c : Circuit) (before now : Digits) (olds : List Stored) (ports : List (List BitValue)) (rows : List RowValues) (outs : List (List BitValue)) (i : ℕ) (changed : Bool) : Type 0 where
  pub sized : AreAllRows c rows
  pub wide : map widths outs ≡ map widths ports
  pub kept : stored_all rows outs ≡ over (next_mems before now c.mems olds) olds i
  pub told : changed ≡ not (pointwise same_stored (over (next_mems before now c.mems olds) olds i) olds)

pub clocked_more : (c : Circuit) (before now : Digits) (olds : List Stored) (ports : List (List BitValue)) (rows : List RowValues) (outs : List (List BitValue)) (i : ℕ) (changed part : Bool)
    (m : Mem) (r s : RowValues) (o p : List BitValue) → AreClocked c before now olds ports rows outs i changed → slice_get c.mems i ≡ Some m → slice_get rows i ≡ Some r → slice_get outs i ≡ Some o
    → AreRowsOf m s → widths p ≡ widths o → stored s p ≡ next_stored before now m (stored r o) → part ≡ not (same_stored (stored s p) (stored r o))
    → AreClocked c before now olds ports (set rows i s) (set outs i p) (i + 1) (changed || part)
clocked_more c before now olds ports rows outs i changed part m r s o p done at there out sized wide made told =
    let news = next_mems before now c.mems olds in
    let next = next_stored before now m (stored r o) in
    let own : slice_get olds i ≡ Some (stored r o) = sym (over_at news olds i) ∙ ap (λ (ks : List Stored). slice_get ks i) (sym done.kept) ∙ stored_at rows outs i r o there out in
    let new : slice_get news i ≡ Some next = next_at before now c.mems olds i m (stored r o) at own in
    record {
      sized = rows_set c rows i m s done.sized at sized;
      wide = map-set_same widths outs i p o (wide ∙ ap widths (sym (get_or_from_slice_get outs i o o out))) ∙ done.wide;
      kept = stored_set rows outs i s p ∙ ap (λ (ks : List Stored). set ks i (stored s p)) done.kept ∙ ap (set (over news olds i) i) made ∙ over_more news olds i next (stored r o) new own;
      told = told_more same_stored same_itself news olds i next (stored r o) changed part new own done.told (told ∙ ap (λ (k : Stored). not (same_stored k (stored r o))) made);
    }

pub clocked_first : (c : Circuit) (before now : Digits) (rows : List RowValues) (ports : List (List BitValue)) → AreAllRows c rows → AreClocked c before now (stored_all rows ports) ports rows ports 0 false
clocked_first c before now rows ports sized = record {
  sized = sized;
  wide = refl;
  kept = refl;
  told = ap not (sym (unchanged same_stored same_itself (stored_all rows ports)));
}

-- the widths of a memory's read ports
abbrev pub port_widths : Mem → List ℕ
port_widths m = map (λ _. m.width) m.reads

pub clocked_all : (c : Circuit) (before now : Digits) (olds : List RowValues) (ports : List (List BitValue)) (rows : List RowValues) (outs : List (List BitValue)) (i : ℕ) (changed : Bool)
    → AreAllRows c olds → map widths ports ≡ map port_widths c.mems → length c.mems ≤ i → AreClocked c before now (stored_all olds ports) ports rows outs i changed
    → stored_all rows outs ≡ next_mems before now c.mems (stored_all olds ports)
clocked_all c before now olds ports rows outs i changed sized wide le done =
    let kept = stored_all olds ports in
    let l : length ports ≡ length c.mems = long_as widths port_widths ports c.mems wide in
    let k : length kept ≡ length olds = stored_length olds ports (omega (arith, l, sized.long)) in
    let n : length (next_mems before now c.mems kept) ≡ length kept = next_length before now c.mems kept (omega (arith, k, sized.long)) in
    done.kept ∙ over_all (next_mems before now c.mems kept) kept i n (omega (arith, n, k, le, sized.long))

pub clocked_told : (c : Circuit) (before now : Digits) (olds : List Stored) (ports : List (List BitValue)) (rows : List RowValues) (outs : List (List BitValue)) (i : ℕ) (changed : Bool)
    → AreClocked c before now olds ports rows outs i changed → changed ≡ not (pointwise same_stored (stored_all rows outs) olds)
clocked_told c before now olds ports rows outs i changed done = done.told ∙ ap (λ (ks : List Stored). not (pointwise same_stored ks olds)) (sym done.kept)

-- ---- the state

pub start_stored_is : (ms : List Mem) → stored_all (map start_rows ms) (map (λ m. map (λ p. p.init) m.reads) ms) ≡ map start_stored ms
unfolding stored_all
start_stored_is [] = refl
start_stored_is (m ∷ ms) =
    let reads : numbers (map (λ (p : ReadPort). p.init) m.reads) ≡ map (λ (p : ReadPort). p.init.number) m.reads = init_numbers m.reads in
    ap (λ (ns : List ℕ). (let s : Stored = record { rows = (start_stored m).rows; reads = ns } in s) ∷ stored_all (map start_rows ms) (map (λ x. map (λ p. p.init) x.reads) ms)) reads
    ∙ ap (λ (ks : List Stored). start_stored m ∷ ks) (start_stored_is ms)
  where
    init_numbers : (ps : List ReadPort) → numbers (map (λ (p : ReadPort). p.init) ps) ≡ map (λ (p : ReadPort). p.init.number) ps
    init_numbers [] = refl
    init_numbers (p ∷ ps) = ap (λ ns. p.init.number ∷ ns) (init_numbers ps)

init_widths : (c : Circuit) (m : Mem) (abits : ℕ) (ps : List ReadPort) → list_all (read_fits c.nets m abits) ps ≡ true → widths (map (λ p. p.init) ps) ≡ map (λ _. m.width) ps
init_widths c m abits [] e = refl
init_widths c m abits (p ∷ ps) e =
    let t = and_parts (read_fits c.nets m abits p) (list_all (read_fits c.nets m abits) ps) e in
    let a = and_parts (sig_of c.nets 1 p.clk) _ t.0 in
    let b = and_parts (sig_of c.nets 1 p.en) _ a.1 in
    let d = and_parts (sig_of c.nets abits p.addr) _ b.1 in
    let s = and_parts (length p.see == length m.writes) (p.init.width == m.width) d.1 in
    let i : p.init.width ≡ m.width = (let h = s.1 in grind (arith, nat_tests)) in
    let u : widths (map (λ p. p.init) ps) ≡ map (λ _. m.width) ps = init_widths c m abits ps t.1 in
    cc (i, u)

mem_init_widths : (c : Circuit) (m : Mem) → mem_fits c.nets m ≡ true → widths (map (λ p. p.init) m.reads) ≡ port_widths m
mem_init_widths c m e =
    let a = and_parts (nat_le m.width widest) _ e in
    let b = and_parts (m.init.width == m.size * m.width) _ a.1 in
    let d = and_parts (is_countable (length m.reads)) _ b.1 in
    let r = and_parts (list_all (read_fits c.nets m (address_width m.reads m.writes)) m.reads) _ d.1 in
    init_widths c m (address_width m.reads m.writes) m.reads r.0

-- the start values of the read ports have the widths of rows
pub start_ports_wide : (c : Circuit) → is_valid c ≡ true → map widths (map (λ m. map (λ p. p.init) m.reads) c.mems) ≡ map (λ m. map (λ _. m.width) m.reads) c.mems
start_ports_wide c valid = go c.mems (λ n m at. mem_init_widths c m (memory_of c n m valid at))
  where
    go : (ms : List Mem) → ((n : ℕ) (m : Mem) → slice_get ms n ≡ Some m → widths (map (λ p. p.init) m.reads) ≡ port_widths m) → map widths (map (λ m. map (λ p. p.init) m.reads) ms) ≡ map port_widths ms
    go [] each = refl
    go (m ∷ ms) each =
        let i : widths (map (λ p. p.init) m.reads) ≡ port_widths m = each 0 m refl in
        let u : map widths (map (λ m. map (λ p. p.init) m.reads) ms) ≡ map port_widths ms = go ms (λ n x at. each (suc n) x at) in
        cc (i, u)

-- a store with copies of the registers and of the read ports holds the state
pub kept_holds : (c : Circuit) (regs : List BitValue) (rows : List RowValues) (ports : List (List BitValue)) (store : Store) → length rows ≡ length c.mems → length ports ≡ length c.mems
    → numbers store.regs ≡ numbers regs → store.reads ≡ ports → Holds c rows store (kept_state regs rows ports)
kept_holds c regs rows ports store many outs_many copied reads = record {
  regs = sym copied;
  mems = stored_length rows ports (many ∙ sym outs_many) ∙ many;
  rows_are = λ m kept r at there.
      let o = found ports m (let lt : m < length rows = within rows m r there in omega (arith, lt, many, outs_many)) in
      ap (λ (k : Stored). k.rows) (same (stored_all rows ports) m kept (stored r o.0) at (stored_at rows ports m r o.0 there o.1));
  reads_are = λ m n x p kept outs mem port on at there.
      let o : slice_get ports m ≡ Some outs = ap (λ (os : List (List BitValue)). slice_get os m) (sym reads) ∙ there in
      let r = found rows m (let lt : m < length ports = within ports m outs o in omega (arith, lt, many, outs_many)) in
      ap (λ (k : Stored). slice_index k.reads n) (same (stored_all rows ports) m kept (stored r.0 outs) at (stored_at rows ports m r.0 outs r.1 o));
}
