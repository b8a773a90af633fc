-- Some type becomes each cell and each register.
use Rattle.std.proofs.Common.{◌≡◌, ℕ, Some, refl}
use Rattle.circuit.specs.declared.cell.Op.{Op}
use Rattle.circuit.specs.declared.cell.Op.TheVariants as op
use Rattle.circuit.specs.declared.register.RegKind.{RegKind}
use Rattle.circuit.specs.declared.register.RegKind.TheVariants as kind
use Rattle.cell_library.specs.declared.line.Gives.TheVariants as gives
use Rattle.cell_library.specs.Table.{table}
use Rattle.cell_library.specs.Whole.{AreAllThere, gives_at}

of_cell : (o : Op) → (n : ℕ) × (gives_at n ≡ Some (gives.Cell o))
unfolding table
of_cell op.Not = (0, refl)
of_cell op.Pos = (1, refl)
of_cell op.ReduceAnd = (2, refl)
of_cell op.ReduceOr = (3, refl)
of_cell op.ReduceBool = (4, refl)
of_cell op.ReduceXor = (5, refl)
of_cell op.ReduceXnor = (6, refl)
of_cell op.LogicNot = (7, refl)
of_cell op.Neg = (8, refl)
of_cell op.And = (9, refl)
of_cell op.Or = (10, refl)
of_cell op.Xor = (11, refl)
of_cell op.Xnor = (12, refl)
of_cell op.LogicAnd = (13, refl)
of_cell op.LogicOr = (14, refl)
of_cell op.Eq = (15, refl)
of_cell op.Ne = (16, refl)
of_cell op.Eqx = (17, refl)
of_cell op.Nex = (18, refl)
of_cell op.Shl = (19, refl)
of_cell op.Sshl = (20, refl)
of_cell op.Shr = (21, refl)
of_cell op.Sshr = (22, refl)
of_cell op.Shift = (23, refl)
of_cell op.Shiftx = (24, refl)
of_cell op.Add = (25, refl)
of_cell op.Sub = (26, refl)
of_cell op.Mul = (27, refl)
of_cell op.Div = (28, refl)
of_cell op.Mod = (29, refl)
of_cell op.DivFloor = (30, refl)
of_cell op.ModFloor = (31, refl)
of_cell op.Lt = (32, refl)
of_cell op.Le = (33, refl)
of_cell op.Ge = (34, refl)
of_cell op.Gt = (35, refl)
of_cell op.Mux = (36, refl)
of_cell op.Pmux = (37, refl)
of_cell op.Bmux = (38, refl)
of_cell op.Demux = (39, refl)
of_cell op.Bwmux = (40, refl)
of_cell op.Bweqx = (41, refl)
of_cell op.Slice = (42, refl)
of_cell op.Concat = (43, refl)

of_register : (k : RegKind) → (n : ℕ) × (gives_at n ≡ Some (gives.Register k))
unfolding table
of_register kind.Dff = (44, refl)
of_register kind.Dffe = (45, refl)
of_register kind.Adff = (46, refl)
of_register kind.Adffe = (47, refl)
of_register kind.Sdff = (48, refl)
of_register kind.Sdffe = (49, refl)
of_register kind.Sdffce = (50, refl)
of_register kind.Aldff = (51, refl)
of_register kind.Aldffe = (52, refl)
of_register kind.Dffsr = (53, refl)
of_register kind.Dffsre = (54, refl)
of_register kind.Sr = (55, refl)
of_register kind.Dlatch = (56, refl)
of_register kind.Adlatch = (57, refl)
of_register kind.Dlatchsr = (58, refl)

pub all_there : AreAllThere
all_there = record { cells = of_cell; registers = of_register }
