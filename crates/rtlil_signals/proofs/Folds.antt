-- The equations of what signals are.
use Rattle.std.proofs.Common.{◌≡◌, ◌&&◌, ◌+◌, ◌<◌, zero, suc, length, drop, get_or, option_and_then, ℕ, List, [], ◌∷◌, map, Bool, true, false, Option, Some, None, refl, sym, ap, ◌∙◌}
use Rattle.std.specs.List.{list_all}
use Rattle.std.specs.Option.{is_some}
use Rattle.rtlil_tree.specs.declared.sig.Const.{Const}
use Rattle.rtlil_tree.specs.declared.sig.Sig.{Sig, out-Sig}
use Rattle.rtlil_tree.specs.declared.sig.SigPart.{SigPart}
use Rattle.rtlil_tree.specs.declared.sig.SigPart.TheVariants as part
use Rattle.rtlil_tree.specs.declared.sig.SigPart.TheVariants.{rolls-Const, rolls-Wire, rolls-Concatenation}
use Rattle.rtlil_tree.specs.declared.sig.SigPart.TheOpen.{SigPart-F}
use Rattle.rtlil_tree.specs.declared.sig.SigPart.TheFolds.{fold-Sig, fold-SigPart, fold_out-Sig, fold-roll-SigPart}
use Rattle.circuit.specs.declared.netlist.Piece.{Piece}
use Rattle.rtlil_signals.specs.Signals.{Scope, concatenated, in_front, is_named, net_named, part_is_named, part_pieces, sig_is_named, sig_of_part, sig_pieces, sliced}
use Rattle.rtlil_signals.proofs.Loops.{drop_item}

all_in : {X : Type 0} (test : X → Bool) (xs : List X) → list_all (λ b. b) (map test xs) ≡ list_all test xs
all_in test [] = refl
all_in test (x ∷ xs) = ap (λ r. test x && r) (all_in test xs)

pub named_const : (scope : Scope) (s : Sig) (c : Const) → (out-Sig s).part ≡ part.Const c → is_named scope s ≡ true
unfolding is_named
named_const scope s c e = fold_out-Sig Bool Bool (part_is_named scope) sig_is_named s ∙ ap (fold-SigPart Bool Bool (part_is_named scope) sig_is_named) (e ∙ sym (rolls-Const c)) ∙ fold-roll-SigPart Bool Bool (part_is_named scope) sig_is_named (SigPart-F.Const c)

pub named_wire : (scope : Scope) (s : Sig) (name : List ℕ) → (out-Sig s).part ≡ part.Wire name → is_named scope s ≡ is_some (net_named scope name)
unfolding is_named
named_wire scope s name e = fold_out-Sig Bool Bool (part_is_named scope) sig_is_named s ∙ ap (fold-SigPart Bool Bool (part_is_named scope) sig_is_named) (e ∙ sym (rolls-Wire name)) ∙ fold-roll-SigPart Bool Bool (part_is_named scope) sig_is_named (SigPart-F.Wire name)

pub named_parts : (scope : Scope) (s : Sig) (parts : List Sig) → (out-Sig s).part ≡ part.Concatenation parts → is_named scope s ≡ list_all (is_named scope) parts
unfolding is_named
named_parts scope s parts e = fold_out-Sig Bool Bool (part_is_named scope) sig_is_named s ∙ ap (fold-SigPart Bool Bool (part_is_named scope) sig_is_named) (e ∙ sym (rolls-Concatenation parts)) ∙ (fold-roll-SigPart Bool Bool (part_is_named scope) sig_is_named (SigPart-F.Concatenation parts) ∙ all_in (is_named scope) parts)

-- ---- pieces

abbrev pub drawn_part : Scope → SigPart → Option (List Piece)
drawn_part scope = fold-SigPart (Option (List Piece)) (Option (List Piece)) (part_pieces scope) sig_of_part

pub pieces_out : (scope : Scope) (s : Sig) → sig_pieces scope s ≡ option_and_then (sliced (out-Sig s).slices) (drawn_part scope (out-Sig s).part)
unfolding sig_pieces
pieces_out scope s = fold_out-Sig (Option (List Piece)) (Option (List Piece)) (part_pieces scope) sig_of_part s

pub pieces_of_parts : (scope : Scope) (p : SigPart) (parts : List Sig) → p ≡ part.Concatenation parts → drawn_part scope p ≡ concatenated (map (sig_pieces scope) parts)
unfolding sig_pieces
pieces_of_parts scope p parts e =
    ap (drawn_part scope) (e ∙ sym (rolls-Concatenation parts))
    ∙ fold-roll-SigPart (Option (List Piece)) (Option (List Piece)) (part_pieces scope) sig_of_part (SigPart-F.Concatenation parts)

none_in_front : (o : Option (List Piece)) → in_front None o ≡ None
none_in_front o = refl

-- a part that is none leaves none
pub none_spreads : (os : List (Option (List Piece))) (k : ℕ) → concatenated (drop k os) ≡ None → concatenated os ≡ None
none_spreads os zero e = e
none_spreads [] (suc k) e = e
none_spreads (o ∷ os) (suc k) e = ap (λ r. in_front r o) (none_spreads os k e)

front_none : (o : Option (List Piece)) → in_front o None ≡ None
front_none None = refl
front_none (Some ps) = refl

map-drop : {X Y : Type 0} (f : X → Y) (k : ℕ) (xs : List X) → map f (drop k xs) ≡ drop k (map f xs)
map-drop f zero xs = refl
map-drop f (suc k) [] = refl
map-drop f (suc k) (x ∷ xs) = map-drop f k xs

pub none_at : {X : Type 0} (f : X → Option (List Piece)) (xs : List X) (k : ℕ) (x : X) → k < length xs → x ≡ get_or xs k x → f x ≡ None → concatenated (map f xs) ≡ None
none_at f xs k x below is e =
    none_spreads (map f xs) k (ap concatenated (sym (map-drop f k xs)) ∙ ap (λ ys. concatenated (map f ys)) (drop_item xs k x below is) ∙ ap (in_front (concatenated (map f (drop (k + 1) xs)))) e ∙ front_none (concatenated (map f (drop (k + 1) xs))))
