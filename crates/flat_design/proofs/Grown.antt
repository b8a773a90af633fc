-- What is flat stays so when a circuit grows.
use Rattle.std.proofs.Common.{◌≡◌, ℕ, ◌<◌, ◌⊎◌, List, [], ◌∷◌, ◌++◌, length, sym, ◌∙◌, ap, subst, arith, inl, inr, Some, None}
use Rattle.std.specs.Prelude.{slice_get, slice_index}
use Rattle.std.proofs.lemmas.Option.{slice_get_within}
use Rattle.circuit.specs.declared.netlist.Circuit.{Circuit}
use Rattle.circuit.specs.declared.netlist.Net.{Net}
use Rattle.circuit.specs.declared.netlist.Drive.{Drive}
use Rattle.circuit.specs.declared.netlist.By.{By}
use Rattle.circuit.specs.declared.netlist.By.TheVariants as by
use Rattle.circuit.specs.declared.cell.Cell.{Cell}
use Rattle.circuit.specs.declared.register.Reg.{Reg}
use Rattle.circuit.specs.declared.item.Item.{Item}
use Rattle.circuit.specs.declared.netlist.Piece.{Piece}
use Rattle.circuit.specs.declared.netlist.Piece.TheVariants as piece
use Rattle.flat_design.specs.Flat.{HasWidth, IsWordWidth, IsFlatPiece, IsFlatSig, ReadsNet, IsFlatBy, IsFlatDrive, IsFlatCell, IsFlatReg, IsNodeOf, IsFlat}
use Rattle.flat_design.proofs.Lists.{get_push}

-- all that stands in the one stands in the other, at the same place
pub record Extends (c d : Circuit) : Type 0 where
  pub nets : (n : ℕ) (x : Net) → slice_get c.nets n ≡ Some x → slice_get d.nets n ≡ Some x
  pub inputs : (n : ℕ) → n < length c.inputs → (n < length d.inputs) × (slice_index d.inputs n ≡ slice_index c.inputs n)
  pub cells : (n : ℕ) (x : Cell) → slice_get c.cells n ≡ Some x → slice_get d.cells n ≡ Some x
  pub regs : (n : ℕ) (x : Reg) → slice_get c.regs n ≡ Some x → slice_get d.regs n ≡ Some x

module _ (c d : Circuit) (up : Extends c d) where
  width_up : (net width : ℕ) → HasWidth c net width → HasWidth d net width
  width_up net width h = (h.0, up.nets net h.0 h.1, h.2)

  pub piece_up : (width : ℕ) (p : Piece) → IsFlatPiece c width p → IsFlatPiece d width p
  piece_up width (piece.Const v) h = h
  piece_up width (piece.Part net at w) h = (h.0, h.1, width_up net width h.2)

  sig_up : (width : ℕ) (ps : List Piece) → IsFlatSig c width ps → IsFlatSig d width ps
  sig_up width [] h = h
  sig_up width (p ∷ []) h = (h.0, piece_up width p h.1)
  sig_up width (p ∷ q ∷ ps) h = h

  by_up : (net width : ℕ) (b : By) → IsFlatBy c net width b → IsFlatBy d net width b
  by_up net width (by.Const v) h = h
  by_up net width (by.Input n at) h = (h.0, (up.inputs n h.1).0, (up.inputs n h.1).1 ∙ h.2)
  by_up net width (by.Wire n at) h = h
  by_up net width (by.Cell n at) h = (h.0, h.1, up.cells n h.1 h.2, h.3)
  by_up net width (by.Reg n at) h = (h.0, h.1, up.regs n h.1 h.2, h.3)
  by_up net width (by.Read m n at) h = h

  pub drive_up : (e : Drive) → IsFlatDrive c e → IsFlatDrive d e
  drive_up e h = (h.0, width_up e.net e.width h.1, by_up e.net e.width e.by h.2)

  pub cell_up : (x : Cell) → IsFlatCell c x → IsFlatCell d x
  cell_up x h = record {
    op = h.op;
    a = (h.a.0, sig_up h.a.0 x.a h.a.1);
    b = (h.b.0, sig_up h.b.0 x.b h.b.1);
    s = h.s;
    a_unsigned = h.a_unsigned;
    b_unsigned = h.b_unsigned;
    width = h.width;
  }

  pub reg_up : (x : Reg) → IsFlatReg c x → IsFlatReg d x
  reg_up x h = record {
    kind = h.kind;
    clk = sig_up 1 x.clk h.clk;
    d = sig_up x.width x.d h.d;
    width = h.width;
    rising = h.rising;
    init = h.init;
  }

-- a drive by a cell names one that stands there
pub cell_within : (c : Circuit) (e : Drive) (k p : ℕ) → IsFlatDrive c e → e.by ≡ by.Cell k p → k < length c.cells
cell_within c e k p h is =
    let g : IsFlatBy c e.net e.width (by.Cell k p) = subst (λ (b : By). IsFlatBy c e.net e.width b) is h.2 in
    slice_get_within c.cells k g.1 g.2

-- nothing but nets and items is new
pub record Keeps (c d : Circuit) : Type 0 where
  pub nets : (n : ℕ) (x : Net) → slice_get d.nets n ≡ Some x → (slice_get c.nets n ≡ Some x) ⊎ IsWordWidth x.width
  pub drives : d.drives ≡ c.drives
  pub cells : d.cells ≡ c.cells
  pub regs : d.regs ≡ c.regs
  pub mems : d.mems ≡ c.mems
  pub diags : d.diags ≡ c.diags
  pub items : (i : ℕ) (x : Item) → slice_get d.items i ≡ Some x → (x.first_slot ≡ i) × IsNodeOf d x.kind

-- the drive is new, and with it what it takes from
pub record Adds (c d : Circuit) (e : Drive) : Type 0 where
  pub nets : (n : ℕ) (x : Net) → slice_get d.nets n ≡ Some x → (slice_get c.nets n ≡ Some x) ⊎ IsWordWidth x.width
  pub drives : d.drives ≡ c.drives ++ e ∷ []
  pub drive : IsFlatDrive d e
  pub fresh : (i : ℕ) (x : Drive) → slice_get c.drives i ≡ Some x → x.net ≡ e.net → ⊥
  pub cells : (n : ℕ) (x : Cell) → slice_get d.cells n ≡ Some x → (slice_get c.cells n ≡ Some x) ⊎ ((n ≡ length c.cells) × IsFlatCell d x)
  pub regs : (n : ℕ) (x : Reg) → slice_get d.regs n ≡ Some x → (slice_get c.regs n ≡ Some x) ⊎ IsFlatReg d x
  pub last : (k p : ℕ) → e.by ≡ by.Cell k p → k ≡ length c.cells
  pub unread : (k p : ℕ) → e.by ≡ by.Cell k p → (m : ℕ) (x : Cell) → slice_get d.cells m ≡ Some x → ReadsNet x.a e.net ⊎ ReadsNet x.b e.net → ⊥
  pub items : d.items ≡ []
  pub mems : d.mems ≡ c.mems
  pub diags : d.diags ≡ c.diags

module _ (c d : Circuit) (flat : IsFlat c) (up : Extends c d) (same : Keeps c d) where
  kept_nets : (n : ℕ) (x : Net) → slice_get d.nets n ≡ Some x → IsWordWidth x.width
  kept_nets n x g = elim (same.nets n x g) [ inl o ↦ flat.nets n x o | inr w ↦ w ]

  kept_drive : (i : ℕ) (e : Drive) → slice_get d.drives i ≡ Some e → slice_get c.drives i ≡ Some e
  kept_drive i e g = sym (ap (λ (xs : List Drive). slice_get xs i) same.drives) ∙ g

  kept_cell : (i : ℕ) (e : Cell) → slice_get d.cells i ≡ Some e → slice_get c.cells i ≡ Some e
  kept_cell i e g = sym (ap (λ (xs : List Cell). slice_get xs i) same.cells) ∙ g

  kept_reg : (i : ℕ) (e : Reg) → slice_get d.regs i ≡ Some e → slice_get c.regs i ≡ Some e
  kept_reg i e g = sym (ap (λ (xs : List Reg). slice_get xs i) same.regs) ∙ g

  pub flat_kept : IsFlat d
  flat_kept = record {
    nets = kept_nets;
    drives = λ i e g. drive_up c d up e (flat.drives i e (kept_drive i e g));
    once = λ i j e f g h s. flat.once i j e f (kept_drive i e g) (kept_drive j f h) s;
    cells = λ n x g. cell_up c d up x (flat.cells n x (kept_cell n x g));
    regs = λ n x g. reg_up c d up x (flat.regs n x (kept_reg n x g));
    rising = λ i j k l p q e f lt g h s t. flat.rising i j k l p q e f lt (kept_drive i e g) (kept_drive j f h) s t;
    order = λ m k p i net x e g r h s t. flat.order m k p i net x e (kept_cell m x g) r (kept_drive i e h) s t;
    mems = same.mems ∙ flat.mems;
    diags = same.diags ∙ flat.diags;
    items = same.items;
  }

module _ (c d : Circuit) (e : Drive) (flat : IsFlat c) (up : Extends c d) (a : Adds c d e) where
  drive_cases : (i : ℕ) (x : Drive) → slice_get d.drives i ≡ Some x → (slice_get c.drives i ≡ Some x) ⊎ ((i ≡ length c.drives) × (x ≡ e))
  drive_cases i x g = get_push c.drives e i x (sym (ap (λ (xs : List Drive). slice_get xs i) a.drives) ∙ g)

  more_nets : (n : ℕ) (x : Net) → slice_get d.nets n ≡ Some x → IsWordWidth x.width
  more_nets n x g = elim (a.nets n x g) [ inl o ↦ flat.nets n x o | inr w ↦ w ]

  more_drives : (i : ℕ) (x : Drive) → slice_get d.drives i ≡ Some x → IsFlatDrive d x
  more_drives i x g = elim (drive_cases i x g) [
    | inl o ↦ drive_up c d up x (flat.drives i x o)
    | inr n ↦ subst (λ (y : Drive). IsFlatDrive d y) (sym n.1) a.drive
  ]

  more_once : (i j : ℕ) (x y : Drive) → slice_get d.drives i ≡ Some x → slice_get d.drives j ≡ Some y → x.net ≡ y.net → i ≡ j
  more_once i j x y g h s = elim (drive_cases i x g) [
    | inl o ↦ elim (drive_cases j y h) [
      | inl o' ↦ flat.once i j x y o o' s
      | inr n' ↦ absurd (a.fresh i x o (s ∙ ap (λ (z : Drive). z.net) n'.1))
    ]
    | inr n ↦ elim (drive_cases j y h) [
      | inl o' ↦ absurd (a.fresh j y o' (sym s ∙ ap (λ (z : Drive). z.net) n.1))
      | inr n' ↦ n.0 ∙ sym n'.0
    ]
  ]

  more_cells : (n : ℕ) (x : Cell) → slice_get d.cells n ≡ Some x → IsFlatCell d x
  more_cells n x g = elim (a.cells n x g) [ inl o ↦ cell_up c d up x (flat.cells n x o) | inr w ↦ w.1 ]

  more_regs : (n : ℕ) (x : Reg) → slice_get d.regs n ≡ Some x → IsFlatReg d x
  more_regs n x g = elim (a.regs n x g) [ inl o ↦ reg_up c d up x (flat.regs n x o) | inr w ↦ w ]

  last_of : (y : Drive) (l q : ℕ) → y ≡ e → y.by ≡ by.Cell l q → l ≡ length c.cells
  last_of y l q n t = a.last l q (sym (ap (λ (z : Drive). z.by) n) ∙ t)

  more_rising : (i j k l p q : ℕ) (x y : Drive) → i < j → slice_get d.drives i ≡ Some x → slice_get d.drives j ≡ Some y → x.by ≡ by.Cell k p → y.by ≡ by.Cell l q → k < l
  more_rising i j k l p q x y lt g h s t = elim (drive_cases i x g) [
    | inl o ↦ elim (drive_cases j y h) [
      | inl o' ↦ flat.rising i j k l p q x y lt o o' s t
      | inr n' ↦ (let b : k < length c.cells = cell_within c x k p (flat.drives i x o) s in
          let f : l ≡ length c.cells = last_of y l q n'.1 t in omega (arith, b, f))
    ]
    | inr n ↦ elim (drive_cases j y h) [
      | inl o' ↦ (let b : j < length c.drives = slice_get_within c.drives j y o' in absurd (omega (arith, b, n.0, lt)))
      | inr n' ↦ absurd (omega (arith, n.0, n'.0, lt))
    ]
  ]

  reads_same : (x : Cell) (net net' : ℕ) → net ≡ net' → ReadsNet x.a net ⊎ ReadsNet x.b net → ReadsNet x.a net' ⊎ ReadsNet x.b net'
  reads_same x net net' s r = subst (λ (n : ℕ). ReadsNet x.a n ⊎ ReadsNet x.b n) s r

  more_order : (m k p i net : ℕ) (x : Cell) (y : Drive) → slice_get d.cells m ≡ Some x → ReadsNet x.a net ⊎ ReadsNet x.b net → slice_get d.drives i ≡ Some y → y.net ≡ net → y.by ≡ by.Cell k p → k < m
  more_order m k p i net x y g r h s t = elim (drive_cases i y h) [
    | inl o ↦ elim (a.cells m x g) [
      | inl o' ↦ flat.order m k p i net x y o' r o s t
      | inr n' ↦ (let b : k < length c.cells = cell_within c y k p (flat.drives i y o) t in omega (arith, b, n'.0))
    ]
    | inr n ↦ absurd (a.unread k p (sym (ap (λ (z : Drive). z.by) n.1) ∙ t) m x g (reads_same x net e.net (sym s ∙ ap (λ (z : Drive). z.net) n.1) r))
  ]

  no_items : (i : ℕ) (x : Item) → slice_get d.items i ≡ Some x → (x.first_slot ≡ i) × IsNodeOf d x.kind
  no_items i x g = let f : None ≡ Some x = sym (ap (λ (xs : List Item). slice_get xs i) a.items) ∙ g in cc f

  pub flat_more : IsFlat d
  flat_more = record {
    nets = more_nets;
    drives = more_drives;
    once = more_once;
    cells = more_cells;
    regs = more_regs;
    mems = a.mems ∙ flat.mems;
    diags = a.diags ∙ flat.diags;
    rising = more_rising;
    order = more_order;
    items = no_items;
  }
