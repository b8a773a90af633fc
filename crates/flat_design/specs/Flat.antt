-- What holds of the circuit of a flat module: whole nets of at most 64 bits, adders in an order in which each reads
-- only what stands before it, plain registers, and nothing else.
use Rattle.std.specs.Prelude.{◌≡◌, ℕ, ◌<◌, ◌≤◌, ◌⊎◌, List, [], ◌∷◌, length, true, false, Some, slice_get, slice_index, Option, None}
use Rattle.circuit.specs.declared.netlist.Circuit.{Circuit}
use Rattle.circuit.specs.declared.netlist.Net.{Net}
use Rattle.circuit.specs.declared.netlist.Drive.{Drive}
use Rattle.circuit.specs.declared.netlist.By.{By}
use Rattle.circuit.specs.declared.netlist.By.TheVariants as by
use Rattle.circuit.specs.declared.cell.Cell.{Cell}
use Rattle.circuit.specs.declared.cell.Op.TheVariants as op
use Rattle.circuit.specs.declared.register.Reg.{Reg}
use Rattle.circuit.specs.declared.register.RegKind.TheVariants as kind
use Rattle.circuit.specs.declared.netlist.Piece.{Piece}
use Rattle.circuit.specs.declared.netlist.Piece.TheVariants as piece
use Rattle.circuit.specs.declared.item.Item.{Item}
use Rattle.circuit.specs.declared.item.ItemKind.{ItemKind}
use Rattle.circuit.specs.declared.item.ItemKind.TheVariants as item

-- the net stands there and has this width
abbrev pub HasWidth : Circuit → ℕ → ℕ → Type 0
HasWidth c net width = (x : Net) × (slice_get c.nets net ≡ Some x) × (x.width ≡ width)

-- the width of a net that may be there
abbrev pub width_of : Option Net → ℕ
width_of None = 0
width_of (Some x) = x.width

-- a width that one word of 64 bits holds
abbrev pub IsWordWidth : ℕ → Type 0
IsWordWidth width = (1 ≤ width) × (width ≤ 64)

-- one constant, or one whole net
abbrev pub IsFlatPiece : Circuit → ℕ → Piece → Type 0
IsFlatPiece c width (piece.Const v) = v.width ≡ width
IsFlatPiece c width (piece.Part net at w) = (at ≡ 0) × (w ≡ width) × HasWidth c net width

-- a signal of this width
abbrev pub IsFlatSig : Circuit → ℕ → List Piece → Type 0
IsFlatSig c width [] = ⊥
IsFlatSig c width (p ∷ []) = IsWordWidth width × IsFlatPiece c width p
IsFlatSig c width (p ∷ q ∷ ps) = ⊥

abbrev pub ReadsNet : List Piece → ℕ → Type 0
ReadsNet [] net = ⊥
ReadsNet (piece.Const v ∷ ps) net = ReadsNet ps net
ReadsNet (piece.Part n at w ∷ ps) net = (n ≡ net) ⊎ ReadsNet ps net

-- a drive gives a whole net all bits of an input, a cell or a register
abbrev pub IsFlatBy : Circuit → ℕ → ℕ → By → Type 0
IsFlatBy c net width (by.Const v) = ⊥
IsFlatBy c net width (by.Input n at) = (at ≡ 0) × (n < length c.inputs) × (slice_index c.inputs n ≡ net)
IsFlatBy c net width (by.Wire n at) = ⊥
IsFlatBy c net width (by.Cell n at) = (at ≡ 0) × (x : Cell) × (slice_get c.cells n ≡ Some x) × (x.width ≡ width)
IsFlatBy c net width (by.Reg n at) = (at ≡ 0) × (x : Reg) × (slice_get c.regs n ≡ Some x) × (x.width ≡ width)
IsFlatBy c net width (by.Read m n at) = ⊥

abbrev pub IsFlatDrive : Circuit → Drive → Type 0
IsFlatDrive c d = (d.at ≡ 0) × HasWidth c d.net d.width × IsFlatBy c d.net d.width d.by

pub record IsFlatCell (c : Circuit) (x : Cell) : Type 0 where
  pub op : x.op ≡ op.Add
  pub a : (w : ℕ) × IsFlatSig c w x.a
  pub b : (w : ℕ) × IsFlatSig c w x.b
  pub s : x.s ≡ []
  pub a_unsigned : x.a_signed ≡ false
  pub b_unsigned : x.b_signed ≡ false
  pub width : IsWordWidth x.width

pub record IsFlatReg (c : Circuit) (x : Reg) : Type 0 where
  pub kind : x.kind ≡ kind.Dff
  pub clk : IsFlatSig c 1 x.clk
  pub d : IsFlatSig c x.width x.d
  pub width : IsWordWidth x.width
  pub rising : x.pol.clk ≡ true
  pub init : x.init.width ≡ x.width

abbrev pub IsNodeOf : Circuit → ItemKind → Type 0
IsNodeOf c (item.Node net lsb_at input output) = net < length c.nets
IsNodeOf c (item.Memory m) = ⊥

pub record IsFlat (c : Circuit) : Type 0 where
  pub nets : (n : ℕ) (x : Net) → slice_get c.nets n ≡ Some x → IsWordWidth x.width
  pub drives : (i : ℕ) (d : Drive) → slice_get c.drives i ≡ Some d → IsFlatDrive c d
  -- a net has one drive
  pub once : (i j : ℕ) (d e : Drive) → slice_get c.drives i ≡ Some d → slice_get c.drives j ≡ Some e → d.net ≡ e.net → i ≡ j
  pub cells : (n : ℕ) (x : Cell) → slice_get c.cells n ≡ Some x → IsFlatCell c x
  pub regs : (n : ℕ) (x : Reg) → slice_get c.regs n ≡ Some x → IsFlatReg c x
  pub mems : c.mems ≡ []
  pub diags : c.diags ≡ []
  -- the drives of cells stand in the order of the cells
  pub rising : (i j k l p q : ℕ) (d e : Drive) → i < j → slice_get c.drives i ≡ Some d → slice_get c.drives j ≡ Some e → d.by ≡ by.Cell k p → e.by ≡ by.Cell l q → k < l
  -- a cell reads no output of itself or of a later cell
  pub order : (m k p i net : ℕ) (x : Cell) (d : Drive) → slice_get c.cells m ≡ Some x → ReadsNet x.a net ⊎ ReadsNet x.b net → slice_get c.drives i ≡ Some d → d.net ≡ net → d.by ≡ by.Cell k p → k < m
  -- each item is a node, and has the slot of its place
  pub items : (i : ℕ) (x : Item) → slice_get c.items i ≡ Some x → (x.first_slot ≡ i) × IsNodeOf c x.kind
