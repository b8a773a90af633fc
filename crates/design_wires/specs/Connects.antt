-- A `connect` of a module: its checks and its drives.
use Rattle.std.specs.Prelude.{ℕ, ◌==◌, List, [], ◌∷◌, Bool, true, false, ◌&&◌, Option, Some, None, codes}
use Rattle.std.specs.List.{list_all}
use Rattle.circuit.specs.Signal.{sig_width}
use Rattle.circuit.specs.declared.fault.DesignKind.TheVariants as kind
use Rattle.circuit.specs.declared.netlist.Piece.{Piece}
use Rattle.circuit.specs.declared.netlist.Piece.TheVariants as piece
use Rattle.rtlil_tree.specs.declared.module.Assignment.{Assignment}
use Rattle.rtlil_signals.specs.Drives.{connected}
use Rattle.rtlil_signals.specs.Signals.{Scope, is_named, sig_pieces}
use Rattle.design_parts.specs.Parts.{Check, Made, Walk, at, check, give, guard, none_made}

abbrev pub is_part : Piece → Bool
is_part (piece.Const v) = false
is_part (piece.Part net at width) = true

abbrev pub has_no_constant : List Piece → Bool
has_no_constant ps = list_all is_part ps

-- both signals have their slices inside, and the same width
abbrev pub have_one_width : Option (List Piece) → Option (List Piece) → Bool
have_one_width (Some l) (Some r) = sig_width l == sig_width r
have_one_width _ _ = false

abbrev pub or_none : Option (List Piece) → List Piece
or_none None = []
or_none (Some ps) = ps

unfoldable pub connect_checks : List ℕ → Scope → Assignment → List Check
connect_checks owner scope a =
    check (is_named scope a.left && is_named scope a.right) (at kind.UnknownName owner (codes "connect"))
    ∷ check (have_one_width (sig_pieces scope a.left) (sig_pieces scope a.right)) (at kind.Width owner (codes "connect"))
    ∷ check (has_no_constant (or_none (sig_pieces scope a.left))) (at kind.ConstTarget owner (codes "connect"))
    ∷ []

abbrev pub connect_made : Scope → Assignment → Made
connect_made scope a = record none_made { drives = connected (or_none (sig_pieces scope a.left)) (or_none (sig_pieces scope a.right)) }

unfoldable pub connect : List ℕ → Scope → Assignment → Walk
connect owner scope a = guard (λ m. connect_checks owner scope a) (give (λ m. connect_made scope a))
