-- The graph of a circuit says what its bits depend on.
use Rattle.std.proofs.Common.{◌≡◌, ℕ, zero, suc, ◌+◌, ◌-◌, ◌<◌, ◌≤◌, ◌⊎◌, List, [], ◌∷◌, ◌++◌, refl, sym, ◌∙◌, ap, subst, arith, inl, inr, Bool, true, Option, Some, None}
use Rattle.std.specs.Prelude.{slice_get, find}
use Rattle.std.proofs.lemmas.Bool.{cases_Bool, cond-true, cond-false}
use Rattle.circuit.specs.Signal.{Reads}
use Rattle.circuit.specs.Valuation.{covers, drive_of}
use Rattle.circuit.specs.Valid.{drive_fits, drivers_of, is_valid}
use Rattle.circuit.specs.declared.netlist.Circuit.{Circuit}
use Rattle.circuit.specs.declared.netlist.Drive.{Drive}
use Rattle.circuit.specs.declared.netlist.Net.{Net}
use Rattle.circuit.specs.declared.netlist.By.{By}
use Rattle.circuit.specs.declared.netlist.By.TheVariants as by
use Rattle.circuit.specs.declared.netlist.Piece.{Piece}
use Rattle.circuit.specs.declared.netlist.Piece.TheVariants as piece
use Rattle.circuit.specs.declared.cell.Cell.{Cell}
use Rattle.circuit.specs.declared.memory.Mem.{Mem}
use Rattle.circuit.specs.declared.memory.ReadPort.{ReadPort}
use Rattle.driver_check.specs.Depends.{Bit, CellReads, DependsOn, DriveTakes, MemReads, PortReads, TakesBit}
use Rattle.driver_check.specs.Numbers.{before, bit_count, IsBit, bit_number, width_of}
use Rattle.driver_check.specs.Nodes.{NodeReads, IsPart, part_place}
use Rattle.driver_check.specs.Search.{Needs}
use Rattle.driver_check.specs.Vertices.{bit_span, by_span, cell_spans, drive_span, mem_spans, node_spans, nothing, port_spans, sig_spans, span_of}
use Rattle.driver_check.specs.declared.graph.Span.{Span}
use Rattle.driver_check.specs.declared.parts.Node.{Node}
use Rattle.driver_check.specs.declared.parts.Node.TheVariants as node
use Rattle.driver_check.proofs.Places.{kept}
use Rattle.driver_check.proofs.Fitting.{cell_bits, cell_there, drive_fits_at, port_bits, port_there, wire_there}
use Rattle.driver_check.proofs.Owned.{covers_parts}

-- ---- spans

pub needs_left : (xs ys : List Span) (w : ℕ) → Needs xs w → Needs (xs ++ ys) w
needs_left xs ys w n = (n.0, n.1, kept xs ys n.0 n.1 n.2, n.3, n.4)

behind : {X : Type 0} (xs ys : List X) (i : ℕ) (x : X) → slice_get ys i ≡ Some x → (j : ℕ) × (slice_get (xs ++ ys) j ≡ Some x)
behind [] ys i x e = (i, e)
behind (z ∷ xs) ys i x e = let r = behind xs ys i x e in (suc r.0, r.1)

pub needs_right : (xs ys : List Span) (w : ℕ) → Needs ys w → Needs (xs ++ ys) w
needs_right xs ys w n = let r = behind xs ys n.0 n.1 n.2 in (r.0, n.1, r.1, n.3, n.4)

either : {X : Type 0} (xs ys : List X) (i : ℕ) (x : X) → slice_get (xs ++ ys) i ≡ Some x → (slice_get xs i ≡ Some x) ⊎ ((j : ℕ) × (slice_get ys j ≡ Some x))
either [] ys i x e = inr (i, e)
either (z ∷ xs) ys zero x e = inl e
either (z ∷ xs) ys (suc i) x e = either xs ys i x e

pub needs_either : (xs ys : List Span) (w : ℕ) → Needs (xs ++ ys) w → Needs xs w ⊎ Needs ys w
needs_either xs ys w n = elim (either xs ys n.0 n.1 n.2) [
  | inl h ↦ inl (n.0, n.1, h, n.3, n.4)
  | inr h ↦ inr (h.0, n.1, h.1, n.3, n.4)
]

pub needs_none : (w : ℕ) → Needs [] w → ⊥
needs_none w n = let e : slice_get [] n.0 ≡ Some n.1 = n.2 in cc e

pub needs_one : (s : Span) (w : ℕ) → Needs (s ∷ []) w → (s.first ≤ w) × (w < s.first + s.width)
needs_one s w n = only n.0 n.1 n.2 n.3 n.4
  where
    only : (i : ℕ) (t : Span) → slice_get (s ∷ []) i ≡ Some t → t.first ≤ w → w < t.first + t.width → (s.first ≤ w) × (w < s.first + s.width)
    only zero t e le lt = let z : s ≡ t = let h : Some s ≡ Some t = e in cc h in (omega (arith, ap (λ (x : Span). x.first) z, le), omega (arith, ap (λ (x : Span). x.first) z, ap (λ (x : Span). x.width) z, lt))
    only (suc i) t e le lt = cc e

pub one_needs : (s : Span) (w : ℕ) → s.first ≤ w → w < s.first + s.width → Needs (s ∷ []) w
one_needs s w le lt = (0, s, refl, le, lt)

-- a signal's spans are the bits that it reads
pub needs_sig : (nets : List Net) (ps : List Piece) (net bit : ℕ) → Reads ps net bit → Needs (sig_spans nets ps) (bit_number nets (net, bit))
unfolding Reads
needs_sig nets [] net bit r = absurd r
needs_sig nets (piece.Const v ∷ ps) net bit r = needs_right [] (sig_spans nets ps) (bit_number nets (net, bit)) (needs_sig nets ps net bit r)
needs_sig nets (piece.Part n at width ∷ ps) net bit (inl r) =
    let e : before width_of nets n ≡ before width_of nets net = ap (before width_of nets) r.0 in
    needs_left (span_of (before width_of nets n + at) width ∷ []) (sig_spans nets ps) (before width_of nets net + bit)
    (one_needs (span_of (before width_of nets n + at) width) (before width_of nets net + bit)
    (let h : before width_of nets n + at ≤ before width_of nets net + bit = omega (arith, e, r.1) in h)
    (let h : before width_of nets net + bit < before width_of nets n + at + width = omega (arith, e, r.2) in h))
needs_sig nets (piece.Part n at width ∷ ps) net bit (inr r) =
    needs_right (span_of (before width_of nets n + at) width ∷ []) (sig_spans nets ps) (bit_number nets (net, bit)) (needs_sig nets ps net bit r)

pub sig_needs : (nets : List Net) (ps : List Piece) (w : ℕ) → Needs (sig_spans nets ps) w → (net : ℕ) × (bit : ℕ) × Reads ps net bit × (bit_number nets (net, bit) ≡ w)
unfolding Reads
sig_needs nets [] w n = absurd (needs_none w n)
sig_needs nets (piece.Const v ∷ ps) w n = elim (needs_either [] (sig_spans nets ps) w n) [
  | inl h ↦ absurd (needs_none w h)
  | inr h ↦ sig_needs nets ps w h
]
sig_needs nets (piece.Part n at width ∷ ps) w need = elim (needs_either (span_of (before width_of nets n + at) width ∷ []) (sig_spans nets ps) w need) [
  | inl h ↦
      (let o = needs_one (span_of (before width_of nets n + at) width) w h in
      let low : before width_of nets n + at ≤ w = o.0 in
      let high : w < before width_of nets n + at + width = o.1 in
      (n, w - before width_of nets n, inl (refl, omega (arith, low), omega (arith, low, high)), (let e : before width_of nets n + (w - before width_of nets n) ≡ w = omega (arith, low) in e)))
  | inr h ↦ (let r = sig_needs nets ps w h in (r.0, r.1, inr r.2, r.3))
]

cell_needs : (nets : List Net) (o : Option Cell) (w : ℕ) → Needs (cell_spans nets o) w → (net : ℕ) × (bit : ℕ) × CellReads o net bit × (bit_number nets (net, bit) ≡ w)
cell_needs nets None w n = absurd (needs_none w n)
cell_needs nets (Some x) w n = elim (needs_either (sig_spans nets x.a) (sig_spans nets x.b ++ sig_spans nets x.s) w n) [
  | inl h ↦ (let r = sig_needs nets x.a w h in (r.0, r.1, inl r.2, r.3))
  | inr t ↦ elim (needs_either (sig_spans nets x.b) (sig_spans nets x.s) w t) [
    | inl h ↦ (let r = sig_needs nets x.b w h in (r.0, r.1, inr (inl r.2), r.3))
    | inr h ↦ (let r = sig_needs nets x.s w h in (r.0, r.1, inr (inr r.2), r.3))
  ]
]

needs_cell : (nets : List Net) (o : Option Cell) (net bit : ℕ) → CellReads o net bit → Needs (cell_spans nets o) (bit_number nets (net, bit))
needs_cell nets None net bit r = absurd r
needs_cell nets (Some x) net bit (inl r) = needs_left (sig_spans nets x.a) (sig_spans nets x.b ++ sig_spans nets x.s) (bit_number nets (net, bit)) (needs_sig nets x.a net bit r)
needs_cell nets (Some x) net bit (inr (inl r)) =
    needs_right (sig_spans nets x.a) (sig_spans nets x.b ++ sig_spans nets x.s) (bit_number nets (net, bit))
    (needs_left (sig_spans nets x.b) (sig_spans nets x.s) (bit_number nets (net, bit)) (needs_sig nets x.b net bit r))
needs_cell nets (Some x) net bit (inr (inr r)) =
    needs_right (sig_spans nets x.a) (sig_spans nets x.b ++ sig_spans nets x.s) (bit_number nets (net, bit))
    (needs_right (sig_spans nets x.b) (sig_spans nets x.s) (bit_number nets (net, bit)) (needs_sig nets x.s net bit r))

port_needs : (nets : List Net) (o : Option ReadPort) (w : ℕ) → Needs (port_spans nets o) w → (net : ℕ) × (bit : ℕ) × PortReads o net bit × (bit_number nets (net, bit) ≡ w)
port_needs nets None w n = absurd (needs_none w n)
port_needs nets (Some p) w n = elim (cases_Bool p.clocked) [
  | inl on ↦ absurd (needs_none w (subst (λ (spans : List Span). Needs spans w) (cond-true p.clocked [] (sig_spans nets p.addr) on) n))
  | inr off ↦
      (let r = sig_needs nets p.addr w (subst (λ (spans : List Span). Needs spans w) (cond-false p.clocked [] (sig_spans nets p.addr) off) n) in
      (r.0, r.1, (off, r.2), r.3))
]

needs_port : (nets : List Net) (o : Option ReadPort) (net bit : ℕ) → PortReads o net bit → Needs (port_spans nets o) (bit_number nets (net, bit))
needs_port nets None net bit r = absurd r
needs_port nets (Some p) net bit r =
    subst (λ (spans : List Span). Needs spans (bit_number nets (net, bit))) (sym (cond-false p.clocked [] (sig_spans nets p.addr) r.0)) (needs_sig nets p.addr net bit r.1)

mem_needs : (nets : List Net) (o : Option Mem) (n w : ℕ) → Needs (mem_spans nets o n) w → (net : ℕ) × (bit : ℕ) × MemReads o n net bit × (bit_number nets (net, bit) ≡ w)
mem_needs nets None n w h = absurd (needs_none w h)
mem_needs nets (Some m) n w h = port_needs nets (slice_get m.reads n) w h

needs_mem : (nets : List Net) (o : Option Mem) (n net bit : ℕ) → MemReads o n net bit → Needs (mem_spans nets o n) (bit_number nets (net, bit))
needs_mem nets None n net bit r = absurd r
needs_mem nets (Some m) n net bit r = needs_port nets (slice_get m.reads n) net bit r

pub node_needs : (c : Circuit) (n : Node) (w : ℕ) → Needs (node_spans c n) w → (net : ℕ) × (bit : ℕ) × NodeReads c n net bit × (bit_number c.nets (net, bit) ≡ w)
node_needs c (node.Cell n) w h = cell_needs c.nets (slice_get c.cells n) w h
node_needs c (node.Read m n) w h = mem_needs c.nets (slice_get c.mems m) n w h

pub needs_node : (c : Circuit) (n : Node) (net bit : ℕ) → NodeReads c n net bit → Needs (node_spans c n) (bit_number c.nets (net, bit))
needs_node c (node.Cell n) net bit r = needs_cell c.nets (slice_get c.cells n) net bit r
needs_node c (node.Read m n) net bit r = needs_mem c.nets (slice_get c.mems m) n net bit r

-- ---- the drive of a bit

find_at : (test : Drive → Bool) (xs : List Drive) (d : Drive) → find test xs ≡ Some d → (i : ℕ) × (slice_get xs i ≡ Some d) × (test d ≡ true)
find_at test [] d e = cc e
find_at test (x ∷ xs) d e = elim (cases_Bool (test x)) [
  | inl on ↦
      (let f : Some x ≡ Some d = sym (cond-true (test x) (Some x) (find test xs) on) ∙ e in
      let g : x ≡ d = cc f in (0, f, ap test (sym g) ∙ on))
  | inr off ↦
      (let r = find_at test xs d (sym (cond-false (test x) (Some x) (find test xs) off) ∙ e) in (suc r.0, r.1, r.2))
]

pub drive_at : (c : Circuit) (x : Bit) (d : Drive) → drive_of c x.0 x.1 ≡ Some d → (i : ℕ) × (slice_get c.drives i ≡ Some d) × (covers x.0 x.1 d ≡ true)
drive_at c x d e = find_at (covers x.0 x.1) c.drives d e

module _ (c : Circuit) (valid : is_valid c ≡ true) where
  -- what a node reads is a bit
  pub node_bits : (n : Node) (net bit : ℕ) → NodeReads c n net bit → IsBit c.nets (net, bit)
  node_bits (node.Cell n) net bit r = of_cell (slice_get c.cells n) refl r
    where
      of_cell : (o : Option Cell) → slice_get c.cells n ≡ o → CellReads o net bit → IsBit c.nets (net, bit)
      of_cell None e h = absurd h
      of_cell (Some x) e h = cell_bits c valid n x e net bit h
  node_bits (node.Read m n) net bit r = of_mem (slice_get c.mems m) refl r
    where
      of_port : (x : Mem) → slice_get c.mems m ≡ Some x → (o : Option ReadPort) → slice_get x.reads n ≡ o → PortReads o net bit → IsBit c.nets (net, bit)
      of_port x e None f h = absurd h
      of_port x e (Some p) f h = port_bits c valid m n x p e f net bit h.1

      of_mem : (o : Option Mem) → slice_get c.mems m ≡ o → MemReads o n net bit → IsBit c.nets (net, bit)
      of_mem None e h = absurd h
      of_mem (Some x) e h = of_port x e (slice_get x.reads n) refl h

  -- what the vertex of a bit needs: a bit that it depends on, or a node all of whose bits it depends on
  abbrev Via : Bit → ℕ → Type 0
  Via x w = ((y : Bit) × DependsOn c x y × IsBit c.nets y × (bit_number c.nets y ≡ w)) ⊎ ((n : Node) × IsPart c n × (bit_count c.nets + part_place c n ≡ w) × ((net bit : ℕ) → NodeReads c n net bit → DependsOn c x (net, bit)))

  abbrev TakesVia : By → ℕ → ℕ → Type 0
  TakesVia b i w = ((y : Bit) × TakesBit c b i y.0 y.1 × IsBit c.nets y × (bit_number c.nets y ≡ w)) ⊎ ((n : Node) × IsPart c n × (bit_count c.nets + part_place c n ≡ w) × ((net bit : ℕ) → NodeReads c n net bit → TakesBit c b i net bit))

  no_need : (w : ℕ) → Needs (nothing ∷ []) w → ⊥
  no_need w n = let o = needs_one nothing w n in let a : 0 ≤ w = o.0 in let b : w < 0 + 0 = o.1 in omega (arith, b)

  by_via : (d : Drive) → drive_fits (drivers_of c) d ≡ true → (b : By) → d.by ≡ b → (i : ℕ) → i < d.width → (w : ℕ) → Needs (by_span c b i ∷ []) w → TakesVia b i w
  by_via d fits (by.Const v) is i lt w n = absurd (no_need w n)
  by_via d fits (by.Input m at) is i lt w n = absurd (no_need w n)
  by_via d fits (by.Wire m at) is i lt w n =
      let o = needs_one (span_of (before width_of c.nets m + at + i) 1) w n in
      let low : before width_of c.nets m + at + i ≤ w = o.0 in
      let high : w < before width_of c.nets m + at + i + 1 = o.1 in
      let x = wire_there c valid d fits m at is in
      inl ((m, at + i), (refl, refl), (x.0, x.1, omega (arith, x.2, lt)), (let e : before width_of c.nets m + (at + i) ≡ w = omega (arith, low, high) in e))
  by_via d fits (by.Cell m at) is i lt w n =
      let o = needs_one (span_of (bit_count c.nets + part_place c (node.Cell m)) 1) w n in
      let low : bit_count c.nets + part_place c (node.Cell m) ≤ w = o.0 in
      let high : w < bit_count c.nets + part_place c (node.Cell m) + 1 = o.1 in
      inr (node.Cell m, cell_there c valid d fits m at is, omega (arith, low, high), λ net bit r. r)
  by_via d fits (by.Reg m at) is i lt w n = absurd (no_need w n)
  by_via d fits (by.Read m k at) is i lt w n =
      let o = needs_one (span_of (bit_count c.nets + part_place c (node.Read m k)) 1) w n in
      let low : bit_count c.nets + part_place c (node.Read m k) ≤ w = o.0 in
      let high : w < bit_count c.nets + part_place c (node.Read m k) + 1 = o.1 in
      inr (node.Read m k, port_there c valid d fits m k at is, omega (arith, low, high), λ net bit r. r)

  pub via : (x : Bit) (w : ℕ) → Needs (bit_span c x ∷ []) w → Via x w
  via x w n = by_drive (drive_of c x.0 x.1) refl n
    where
      by_drive : (o : Option Drive) → drive_of c x.0 x.1 ≡ o → Needs (drive_span c o x.1 ∷ []) w → Via x w
      by_drive None e h = absurd (no_need w h)
      by_drive (Some d) e h =
          let at = drive_at c x d e in
          let p = covers_parts d x.0 x.1 at.2 in
          let r = by_via d (drive_fits_at c valid at.0 d at.1) d.by refl (x.1 - d.at) (omega (arith, p.1, p.2)) w h in
          elim r [
            | inl y ↦ inl (y.0, subst (λ (m : Option Drive). DriveTakes c m x.1 y.0.0 y.0.1) (sym e) y.1, y.2, y.3)
            | inr k ↦ inr (k.0, k.1, k.2, λ net bit reads. subst (λ (m : Option Drive). DriveTakes c m x.1 net bit) (sym e) (k.3 net bit reads))
          ]

  -- and the other way: what a bit depends on, its vertex needs, or a node that it needs reads
  abbrev Back : Bit → Bit → Type 0
  Back x y = Needs (bit_span c x ∷ []) (bit_number c.nets y) ⊎ ((n : Node) × IsPart c n × Needs (bit_span c x ∷ []) (bit_count c.nets + part_place c n) × NodeReads c n y.0 y.1)

  by_back : (d : Drive) → drive_fits (drivers_of c) d ≡ true → (b : By) → d.by ≡ b → (i : ℕ) → i < d.width → (y : Bit) → TakesBit c b i y.0 y.1
      → IsBit c.nets y × (Needs (by_span c b i ∷ []) (bit_number c.nets y) ⊎ ((n : Node) × IsPart c n × Needs (by_span c b i ∷ []) (bit_count c.nets + part_place c n) × NodeReads c n y.0 y.1))
  by_back d fits (by.Const v) is i lt y t = absurd t
  by_back d fits (by.Input m at) is i lt y t = absurd t
  by_back d fits (by.Wire m at) is i lt y t =
      let x = wire_there c valid d fits m at is in
      let e : before width_of c.nets m ≡ before width_of c.nets y.0 = ap (before width_of c.nets) t.0 in (
        (x.0, subst (λ (k : ℕ). slice_get c.nets k ≡ Some x.0) t.0 x.1, omega (arith, x.2, lt, t.1)),
        inl (one_needs (span_of (before width_of c.nets m + at + i) 1) (before width_of c.nets y.0 + y.1)
            (let h : before width_of c.nets m + at + i ≤ before width_of c.nets y.0 + y.1 = omega (arith, e, t.1) in h)
            (let h : before width_of c.nets y.0 + y.1 < before width_of c.nets m + at + i + 1 = omega (arith, e, t.1) in h)),
      )
  by_back d fits (by.Cell m at) is i lt y t =
      let place : ℕ = bit_count c.nets + part_place c (node.Cell m) in
      (node_bits (node.Cell m) y.0 y.1 t, inr (node.Cell m, cell_there c valid d fits m at is, one_needs (span_of place 1) place (let h : place ≤ place = omega arith in h) (let h : place < place + 1 = omega arith in h), t))
  by_back d fits (by.Reg m at) is i lt y t = absurd t
  by_back d fits (by.Read m k at) is i lt y t =
      let place : ℕ = bit_count c.nets + part_place c (node.Read m k) in
      (node_bits (node.Read m k) y.0 y.1 t, inr (node.Read m k, port_there c valid d fits m k at is, one_needs (span_of place 1) place (let h : place ≤ place = omega arith in h) (let h : place < place + 1 = omega arith in h), t))

  pub back : (x y : Bit) → DependsOn c x y → IsBit c.nets y × Back x y
  back x y t = by_drive (drive_of c x.0 x.1) refl t
    where
      by_drive : (o : Option Drive) → drive_of c x.0 x.1 ≡ o → DriveTakes c o x.1 y.0 y.1 → IsBit c.nets y × Back x y
      by_drive None e h = absurd h
      by_drive (Some d) e h =
          let at = drive_at c x d e in
          let p = covers_parts d x.0 x.1 at.2 in
          let r = by_back d (drive_fits_at c valid at.0 d at.1) d.by refl (x.1 - d.at) (omega (arith, p.1, p.2)) y h in (
            r.0,
            elim r.1 [
              | inl n ↦ inl (subst (λ (m : Option Drive). Needs (drive_span c m x.1 ∷ []) (bit_number c.nets y)) (sym e) n)
              | inr k ↦ inr (k.0, k.1, subst (λ (m : Option Drive). Needs (drive_span c m x.1 ∷ []) (bit_count c.nets + part_place c k.0)) (sym e) k.2, k.3)
            ],
          )
