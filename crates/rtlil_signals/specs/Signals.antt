-- What a signal of a tree is in an instance of a module: pieces of nets and of constants.
use Rattle.std.specs.Prelude.{ℕ, List, [], ◌∷◌, ◌++◌, map, Bool, true, false, Option, Some, None, option_and_then, bytes_eq}
use Rattle.std.specs.List.{list_all}
use Rattle.std.specs.Map.{lookup}
use Rattle.std.specs.Option.{is_some}
use Rattle.sim_base.specs.BitValue.{BitValue}
use Rattle.circuit.specs.declared.netlist.Piece.{Piece}
use Rattle.circuit.specs.declared.netlist.Piece.TheVariants as piece
use Rattle.circuit.specs.Signal.{piece_width, sig_part, sig_width}
use Rattle.rtlil_tree.specs.declared.sig.Sig.{Sig}
use Rattle.rtlil_tree.specs.declared.sig.Slice.{Slice}
use Rattle.rtlil_tree.specs.declared.sig.SigPart.{SigPart}
use Rattle.rtlil_tree.specs.declared.sig.SigPart.TheOpen.{Sig-F, SigPart-F}
use Rattle.rtlil_tree.specs.declared.sig.SigPart.TheFolds.{fold-Sig, fold-SigPart}
use Rattle.rtlil_signals.specs.Spans.{some_part}
use Rattle.rtlil_signals.specs.Slices.{chosen}
use Rattle.rtlil_signals.specs.Values.{const_value}
use Rattle.rtlil_signals.specs.declared.scope.NamedNet.{NamedNet}
use Rattle.rtlil_signals.specs.declared.slice.Range.{Range}

-- the nets that names stand for
abbrev pub Scope : Type 0
Scope = List (List ℕ × NamedNet)

abbrev pub net_named : Scope → List ℕ → Option NamedNet
net_named scope name = lookup (bytes_eq name) scope

-- ---- each wire of a signal is there

abbrev pub part_is_named : Scope → SigPart-F Bool Bool → Bool
part_is_named scope (SigPart-F.Const c) = true
part_is_named scope (SigPart-F.Wire name) = is_some (net_named scope name)
part_is_named scope (SigPart-F.Concatenation parts) = list_all (λ named. named) parts

abbrev pub sig_is_named : Sig-F Bool Bool → Bool
sig_is_named s = s.part

unfoldable pub is_named : Scope → Sig → Bool
is_named scope = fold-Sig Bool Bool (part_is_named scope) sig_is_named

-- ---- the pieces of a signal

-- a constant or a net is one piece, or none where it has no bit
abbrev pub whole : Piece → List Piece
whole p = some_part 0 (piece_width p) p

abbrev pub value_pieces : BitValue → List Piece
value_pieces v = whole (piece.Const v)

-- a name that is not there has none
abbrev pub net_pieces : Option NamedNet → List Piece
net_pieces None = []
net_pieces (Some n) = whole (piece.Part n.net 0 n.width)

-- the parts of a concatenation, of which the last is the least significant; none where one is none
abbrev pub in_front : Option (List Piece) → Option (List Piece) → Option (List Piece)
in_front None most = None
in_front (Some least) None = None
in_front (Some least) (Some most) = Some (least ++ most)

abbrev pub concatenated : List (Option (List Piece)) → Option (List Piece)
concatenated [] = Some []
concatenated (p ∷ ps) = in_front (concatenated ps) p

-- what slices cut from the pieces that stand before them; none where one is outside
abbrev pub cut : List Piece → Option Range → Option (List Piece)
cut ps None = None
cut ps (Some r) = Some (sig_part r.at r.width ps)

abbrev pub sliced : List Slice → List Piece → Option (List Piece)
sliced [] ps = Some ps
sliced (s ∷ ss) ps = cut ps (chosen (record { at = 0; width = sig_width ps }) (s ∷ ss))

abbrev pub part_pieces : Scope → SigPart-F (Option (List Piece)) (Option (List Piece)) → Option (List Piece)
part_pieces scope (SigPart-F.Const c) = Some (value_pieces (const_value c))
part_pieces scope (SigPart-F.Wire name) = Some (net_pieces (net_named scope name))
part_pieces scope (SigPart-F.Concatenation parts) = concatenated parts

abbrev pub sig_of_part : Sig-F (Option (List Piece)) (Option (List Piece)) → Option (List Piece)
sig_of_part s = option_and_then (sliced s.slices) s.part

-- the pieces of a signal, the least significant first, or none where a slice is outside of what stands before it
unfoldable pub sig_pieces : Scope → Sig → Option (List Piece)
sig_pieces scope = fold-Sig (Option (List Piece)) (Option (List Piece)) (part_pieces scope) sig_of_part
