-- A test that a circuit of adders and plain registers, without items, is flat, which computes at a circuit that is
-- written out.
use Rattle.std.proofs.Common.{◌≡◌, ℕ, zero, suc, ◌+◌, ◌<◌, ◌⊎◌, List, [], ◌∷◌, length, Bool, true, false, not, ◌&&◌, ◌||◌, eqb, leb, ltb, Option, Some, None, refl, sym, ◌∙◌, ap, subst, arith, inl, inr}
use Rattle.std.specs.Prelude.{slice_get, slice_index}
use Rattle.std.proofs.lemmas.Bool.{and_parts, eqb-true, leb-true, ltb-true, eq-eqb, lt-ltb, not-true, false≢true, or_left, or_right}
use Rattle.circuit.specs.Signal.{sig_width}
use Rattle.circuit.specs.declared.netlist.Circuit.{Circuit}
use Rattle.circuit.specs.declared.netlist.Net.{Net}
use Rattle.circuit.specs.declared.register.Reg.{Reg}
use Rattle.circuit.specs.declared.register.RegKind.TheVariants as kind
use Rattle.circuit.specs.declared.cell.Cell.{Cell}
use Rattle.circuit.specs.declared.cell.Op.TheVariants as op
use Rattle.circuit.specs.declared.netlist.Drive.{Drive}
use Rattle.circuit.specs.declared.item.Item.{Item}
use Rattle.circuit.specs.declared.netlist.By.{By}
use Rattle.circuit.specs.declared.netlist.By.TheVariants as by
use Rattle.circuit.specs.declared.netlist.Piece.{Piece}
use Rattle.circuit.specs.declared.netlist.Piece.TheVariants as piece
use Rattle.flat_design.specs.Flat.{IsWordWidth, IsFlat, IsFlatPiece, IsFlatSig, IsFlatBy, IsFlatDrive, IsFlatCell, IsFlatReg, ReadsNet}

-- ---- a test of each item

abbrev every : {A : Type 0} → (ℕ → A → Bool) → ℕ → List A → Bool
every p n [] = true
every p n (x ∷ xs) = p n x && every p (suc n) xs

every_at : {A : Type 0} (p : ℕ → A → Bool) (n : ℕ) (xs : List A) → every p n xs ≡ true → (i : ℕ) (x : A) → slice_get xs i ≡ Some x → p (i + n) x ≡ true
every_at p n [] h i x e = cc e
every_at p n (y ∷ ys) h zero x e =
    let same : y ≡ x = cc e in
    let z : n ≡ 0 + n = omega arith in
    ap (p (0 + n)) (sym same) ∙ ap (λ m. p m y) (sym z) ∙ (and_parts (p n y) (every p (suc n) ys) h).0
every_at p n (y ∷ ys) h (suc i) x e =
    let z : i + suc n ≡ suc i + n = omega arith in
    ap (λ m. p m x) (sym z) ∙ every_at p (suc n) ys (and_parts (p n y) (every p (suc n) ys) h).1 i x e

all_at : {A : Type 0} (p : ℕ → A → Bool) (xs : List A) → every p 0 xs ≡ true → (i : ℕ) (x : A) → slice_get xs i ≡ Some x → p i x ≡ true
all_at p xs h i x e =
    let z : i ≡ i + 0 = omega arith in ap (λ m. p m x) z ∙ every_at p 0 xs h i x e

abbrev has : {A : Type 0} → (A → ℕ) → Option A → ℕ → Bool
has f None n = false
has f (Some x) n = eqb (f x) n

has_at : {A : Type 0} (f : A → ℕ) (o : Option A) (n : ℕ) → has f o n ≡ true → (x : A) × (o ≡ Some x) × (f x ≡ n)
has_at f None n h = absurd (false≢true h)
has_at f (Some x) n h = (x, refl, eqb-true (f x) n h)

-- the same of all items of a list, each of which is shown by itself
abbrev pub All : {A : Type 0} → (A → Type 0) → List A → Type 0
All P [] = Unit {0}
All P (x ∷ xs) = P x × All P xs

one_of : {A : Type 0} (P : A → Type 0) (xs : List A) → All P xs → (i : ℕ) (x : A) → slice_get xs i ≡ Some x → P x
one_of P [] h i x e = cc e
one_of P (y ∷ ys) h zero x e = let same : y ≡ x = cc e in subst P same h.0
one_of P (y ∷ ys) h (suc i) x e = one_of P ys h.1 i x e

abbrev pub IsAdder : Cell → Type 0
IsAdder x = (x.op ≡ op.Add) × (x.s ≡ [])

abbrev pub IsPlain : Reg → Type 0
IsPlain x = x.kind ≡ kind.Dff

-- ---- the parts

abbrev word_width : ℕ → Bool
word_width w = leb 1 w && leb w 64

word_width_is : (w : ℕ) → word_width w ≡ true → IsWordWidth w
word_width_is w h = let p = and_parts (leb 1 w) (leb w 64) h in (leb-true 1 w p.0, leb-true w 64 p.1)

abbrev flat_piece : Circuit → ℕ → Piece → Bool
flat_piece c w (piece.Const v) = eqb v.width w
flat_piece c w (piece.Part net at v) = eqb at 0 && (eqb v w && has (λ (x : Net). x.width) (slice_get c.nets net) w)

flat_piece_is : (c : Circuit) (w : ℕ) (p : Piece) → flat_piece c w p ≡ true → IsFlatPiece c w p
flat_piece_is c w (piece.Const v) h = eqb-true v.width w h
flat_piece_is c w (piece.Part net at v) h =
    let p = and_parts (eqb at 0) (eqb v w && has (λ (x : Net). x.width) (slice_get c.nets net) w) h in
    let q = and_parts (eqb v w) (has (λ (x : Net). x.width) (slice_get c.nets net) w) p.1 in
    let x = has_at (λ (x : Net). x.width) (slice_get c.nets net) w q.1 in
    (eqb-true at 0 p.0, eqb-true v w q.0, (x.0, x.1, x.2))

abbrev flat_sig : Circuit → ℕ → List Piece → Bool
flat_sig c w [] = false
flat_sig c w (p ∷ []) = word_width w && flat_piece c w p
flat_sig c w (p ∷ q ∷ ps) = false

flat_sig_is : (c : Circuit) (w : ℕ) (ps : List Piece) → flat_sig c w ps ≡ true → IsFlatSig c w ps
flat_sig_is c w [] h = absurd (false≢true h)
flat_sig_is c w (p ∷ []) h = let q = and_parts (word_width w) (flat_piece c w p) h in (word_width_is w q.0, flat_piece_is c w p q.1)
flat_sig_is c w (p ∷ q ∷ ps) h = absurd (false≢true h)

abbrev flat_by : Circuit → ℕ → ℕ → By → Bool
flat_by c net w (by.Const v) = false
flat_by c net w (by.Input n at) = eqb at 0 && (ltb n (length c.inputs) && eqb (slice_index c.inputs n) net)
flat_by c net w (by.Wire n at) = false
flat_by c net w (by.Cell n at) = eqb at 0 && has (λ (x : Cell). x.width) (slice_get c.cells n) w
flat_by c net w (by.Reg n at) = eqb at 0 && has (λ (x : Reg). x.width) (slice_get c.regs n) w
flat_by c net w (by.Read m n at) = false

flat_by_is : (c : Circuit) (net w : ℕ) (b : By) → flat_by c net w b ≡ true → IsFlatBy c net w b
flat_by_is c net w (by.Const v) h = absurd (false≢true h)
flat_by_is c net w (by.Input n at) h =
    let p = and_parts (eqb at 0) (ltb n (length c.inputs) && eqb (slice_index c.inputs n) net) h in
    let q = and_parts (ltb n (length c.inputs)) (eqb (slice_index c.inputs n) net) p.1 in
    (eqb-true at 0 p.0, ltb-true n (length c.inputs) q.0, eqb-true (slice_index c.inputs n) net q.1)
flat_by_is c net w (by.Wire n at) h = absurd (false≢true h)
flat_by_is c net w (by.Cell n at) h =
    let p = and_parts (eqb at 0) (has (λ (x : Cell). x.width) (slice_get c.cells n) w) h in
    let x = has_at (λ (x : Cell). x.width) (slice_get c.cells n) w p.1 in (eqb-true at 0 p.0, x.0, x.1, x.2)
flat_by_is c net w (by.Reg n at) h =
    let p = and_parts (eqb at 0) (has (λ (x : Reg). x.width) (slice_get c.regs n) w) h in
    let x = has_at (λ (x : Reg). x.width) (slice_get c.regs n) w p.1 in (eqb-true at 0 p.0, x.0, x.1, x.2)
flat_by_is c net w (by.Read m n at) h = absurd (false≢true h)

abbrev flat_drive : Circuit → Drive → Bool
flat_drive c d = eqb d.at 0 && (has (λ (x : Net). x.width) (slice_get c.nets d.net) d.width && flat_by c d.net d.width d.by)

flat_drive_is : (c : Circuit) (d : Drive) → flat_drive c d ≡ true → IsFlatDrive c d
flat_drive_is c d h =
    let p = and_parts (eqb d.at 0) (has (λ (x : Net). x.width) (slice_get c.nets d.net) d.width && flat_by c d.net d.width d.by) h in
    let q = and_parts (has (λ (x : Net). x.width) (slice_get c.nets d.net) d.width) (flat_by c d.net d.width d.by) p.1 in
    let x = has_at (λ (x : Net). x.width) (slice_get c.nets d.net) d.width q.0 in
    (eqb-true d.at 0 p.0, (x.0, x.1, x.2), flat_by_is c d.net d.width d.by q.1)

abbrev flat_cell : Circuit → Cell → Bool
flat_cell c x = flat_sig c (sig_width x.a) x.a && (flat_sig c (sig_width x.b) x.b && (not x.a_signed && (not x.b_signed && word_width x.width)))

flat_cell_is : (c : Circuit) (x : Cell) → IsAdder x → flat_cell c x ≡ true → IsFlatCell c x
flat_cell_is c x adder h =
    let p = and_parts (flat_sig c (sig_width x.a) x.a) (flat_sig c (sig_width x.b) x.b && (not x.a_signed && (not x.b_signed && word_width x.width))) h in
    let q = and_parts (flat_sig c (sig_width x.b) x.b) (not x.a_signed && (not x.b_signed && word_width x.width)) p.1 in
    let r = and_parts (not x.a_signed) (not x.b_signed && word_width x.width) q.1 in
    let s = and_parts (not x.b_signed) (word_width x.width) r.1 in
    record {
      op = adder.0;
      s = adder.1;
      a = (sig_width x.a, flat_sig_is c (sig_width x.a) x.a p.0);
      b = (sig_width x.b, flat_sig_is c (sig_width x.b) x.b q.0);
      a_unsigned = not-true x.a_signed r.0;
      b_unsigned = not-true x.b_signed s.0;
      width = word_width_is x.width s.1;
    }

abbrev flat_reg : Circuit → Reg → Bool
flat_reg c x = flat_sig c 1 x.clk && (flat_sig c x.width x.d && (word_width x.width && (x.pol.clk && eqb x.init.width x.width)))

flat_reg_is : (c : Circuit) (x : Reg) → x.kind ≡ kind.Dff → flat_reg c x ≡ true → IsFlatReg c x
flat_reg_is c x plain h =
    let p = and_parts (flat_sig c 1 x.clk) (flat_sig c x.width x.d && (word_width x.width && (x.pol.clk && eqb x.init.width x.width))) h in
    let q = and_parts (flat_sig c x.width x.d) (word_width x.width && (x.pol.clk && eqb x.init.width x.width)) p.1 in
    let r = and_parts (word_width x.width) (x.pol.clk && eqb x.init.width x.width) q.1 in
    let s = and_parts x.pol.clk (eqb x.init.width x.width) r.1 in
    record {
      kind = plain;
      clk = flat_sig_is c 1 x.clk p.0;
      d = flat_sig_is c x.width x.d q.0;
      width = word_width_is x.width r.0;
      rising = s.0;
      init = eqb-true x.init.width x.width s.1;
    }

-- ---- the order

abbrev implied : Bool → Bool → Bool
implied a b = not a || b

implied_at : (a b : Bool) → implied a b ≡ true → a ≡ true → b ≡ true
implied_at true b h e = h
implied_at false b h e = absurd (false≢true e)

-- of two cells the first is earlier
abbrev earlier : By → By → Bool
earlier (by.Const v) b = true
earlier (by.Input n at) b = true
earlier (by.Wire n at) b = true
earlier (by.Reg n at) b = true
earlier (by.Read m n at) b = true
earlier (by.Cell k p) (by.Const v) = true
earlier (by.Cell k p) (by.Input n at) = true
earlier (by.Cell k p) (by.Wire n at) = true
earlier (by.Cell k p) (by.Reg n at) = true
earlier (by.Cell k p) (by.Read m n at) = true
earlier (by.Cell k p) (by.Cell l q) = ltb k l

earlier_is : (a b : By) (k p l q : ℕ) → earlier a b ≡ true → a ≡ by.Cell k p → b ≡ by.Cell l q → k < l
earlier_is a b k p l q h e f = ltb-true k l (ap (λ x. earlier x (by.Cell l q)) (sym e) ∙ ap (earlier a) (sym f) ∙ h)

abbrev reads : List Piece → ℕ → Bool
reads [] net = false
reads (piece.Const v ∷ ps) net = reads ps net
reads (piece.Part n at w ∷ ps) net = eqb n net || reads ps net

reads_from : (ps : List Piece) (net : ℕ) → ReadsNet ps net → reads ps net ≡ true
reads_from [] net r = absurd r
reads_from (piece.Const v ∷ ps) net r = reads_from ps net r
reads_from (piece.Part n at w ∷ ps) net (inl e) = or_left (eqb n net) (reads ps net) (eq-eqb n net e)
reads_from (piece.Part n at w ∷ ps) net (inr r) = or_right (eqb n net) (reads ps net) (reads_from ps net r)

cell_reads_from : (x : Cell) (net : ℕ) → ReadsNet x.a net ⊎ ReadsNet x.b net → (reads x.a net || reads x.b net) ≡ true
cell_reads_from x net (inl r) = or_left (reads x.a net) (reads x.b net) (reads_from x.a net r)
cell_reads_from x net (inr r) = or_right (reads x.a net) (reads x.b net) (reads_from x.b net r)

abbrev pub flat_test : Circuit → Bool
flat_test c =
    every (λ n (x : Net). word_width x.width) 0 c.nets
    && (every (λ i (d : Drive). flat_drive c d) 0 c.drives
    && (every (λ n (x : Cell). flat_cell c x) 0 c.cells
    && (every (λ n (x : Reg). flat_reg c x) 0 c.regs
    && (every (λ i (d : Drive). every (λ j (e : Drive). implied (eqb d.net e.net) (eqb i j)) 0 c.drives) 0 c.drives
    && (every (λ i (d : Drive). every (λ j (e : Drive). implied (ltb i j) (earlier d.by e.by)) 0 c.drives) 0 c.drives
    && every (λ m (x : Cell). every (λ i (d : Drive). implied (reads x.a d.net || reads x.b d.net) (earlier d.by (by.Cell m 0))) 0 c.drives) 0 c.cells)))))

pub flat_from_test : (c : Circuit) → flat_test c ≡ true → All IsAdder c.cells → All IsPlain c.regs → c.mems ≡ [] → c.diags ≡ [] → c.items ≡ [] → IsFlat c
flat_from_test c h adders plain no_mems no_diags none =
    let p0 = and_parts (every (λ n (x : Net). word_width x.width) 0 c.nets) _ h in
    let p1 = and_parts (every (λ i (d : Drive). flat_drive c d) 0 c.drives) _ p0.1 in
    let p2 = and_parts (every (λ n (x : Cell). flat_cell c x) 0 c.cells) _ p1.1 in
    let p3 = and_parts (every (λ n (x : Reg). flat_reg c x) 0 c.regs) _ p2.1 in
    let p4 = and_parts (every (λ i (d : Drive). every (λ j (e : Drive). implied (eqb d.net e.net) (eqb i j)) 0 c.drives) 0 c.drives) _ p3.1 in
    let p5 = and_parts (every (λ i (d : Drive). every (λ j (e : Drive). implied (ltb i j) (earlier d.by e.by)) 0 c.drives) 0 c.drives) _ p4.1 in
    record {
      nets = λ n x e. word_width_is x.width (all_at (λ n (x : Net). word_width x.width) c.nets p0.0 n x e);
      drives = λ i d e. flat_drive_is c d (all_at (λ i (d : Drive). flat_drive c d) c.drives p1.0 i d e);
      once = λ i j d e at_i at_j same.
          eqb-true i j (implied_at (eqb d.net e.net) (eqb i j)
          (all_at (λ j (e : Drive). implied (eqb d.net e.net) (eqb i j)) c.drives
          (all_at (λ i (d : Drive). every (λ j (e : Drive). implied (eqb d.net e.net) (eqb i j)) 0 c.drives) c.drives p4.0 i d at_i) j e at_j)
          (eq-eqb d.net e.net same));
      cells = λ n x e. flat_cell_is c x (one_of IsAdder c.cells adders n x e) (all_at (λ n (x : Cell). flat_cell c x) c.cells p2.0 n x e);
      regs = λ n x e. flat_reg_is c x (one_of IsPlain c.regs plain n x e) (all_at (λ n (x : Reg). flat_reg c x) c.regs p3.0 n x e);
      mems = no_mems;
      diags = no_diags;
      rising = λ i j k l p q d e lt at_i at_j b_d b_e.
          earlier_is d.by e.by k p l q (implied_at (ltb i j) (earlier d.by e.by)
          (all_at (λ j (e : Drive). implied (ltb i j) (earlier d.by e.by)) c.drives
          (all_at (λ i (d : Drive). every (λ j (e : Drive). implied (ltb i j) (earlier d.by e.by)) 0 c.drives) c.drives p5.0 i d at_i) j e at_j)
          (lt-ltb i j lt)) b_d b_e;
      order = λ m k p i net x d at_m r at_i on b.
          earlier_is d.by (by.Cell m 0) k p m 0 (implied_at (reads x.a d.net || reads x.b d.net) (earlier d.by (by.Cell m 0))
          (all_at (λ i (d : Drive). implied (reads x.a d.net || reads x.b d.net) (earlier d.by (by.Cell m 0))) c.drives
          (all_at (λ m (x : Cell). every (λ i (d : Drive). implied (reads x.a d.net || reads x.b d.net) (earlier d.by (by.Cell m 0))) 0 c.drives) c.cells p5.1 m x at_m) i d at_i)
          (ap (λ n. reads x.a n || reads x.b n) on ∙ cell_reads_from x net r)) b refl;
      items = λ i x e. (let z : slice_get {X = Item} [] i ≡ Some x = ap (λ xs. slice_get xs i) (sym none) ∙ e in cc z);
    }
