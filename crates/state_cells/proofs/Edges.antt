-- The edges of a trigger, bit by bit.
use Rattle.std.proofs.Common.{◌≡◌, ℕ, suc, ◌+◌, ◌/◌, ◌%◌, ◌^◌, ◌<◌, List, [], ◌∷◌, length, get_or, drop, Bool, false, not, ◌&&◌, ◌||◌, refl, sym, ◌∙◌, ap, subst, add-one, eqb, cond}
use Rattle.std.proofs.lemmas.List.{drop_more}
use Rattle.circuit.specs.Next.{is_active_at}
use Rattle.circuit.specs.Shown.{some_edge}
use Rattle.std.specs.Int.{bit_at}
use Rattle.circuit.specs.Signal.{Digits, sig_number}
use Rattle.circuit.specs.declared.netlist.Piece.{Piece}

unfolded : (before now : Digits) (on : List Piece) (i : ℕ) (rising : Bool) (rest : List Bool) → some_edge before now on i (rising ∷ rest) ≡ ((not (is_active_at rising before on i) && is_active_at rising now on i) || some_edge before now on (suc i) rest)
unfolding some_edge
unfolded before now on i rising rest = refl

pub edge_at : (before now : Digits) (on : List Piece) (i : ℕ) (all : List Bool) → i < length all
    → some_edge before now on i (drop i all) ≡ ((not (is_active_at (get_or all i false) before on i) && is_active_at (get_or all i false) now on i) || some_edge before now on (i + 1) (drop (i + 1) all))
edge_at before now on i all lt =
    ap (some_edge before now on i) (drop_more all i false lt) ∙ unfolded before now on i (get_or all i false) (drop (i + 1) all)
    ∙ ap (λ k. (not (is_active_at (get_or all i false) before on i) && is_active_at (get_or all i false) now on i) || some_edge before now on k (drop (i + 1) all)) (sym (add-one i))

pub no_more_edge : (before now : Digits) (on : List Piece) (i : ℕ) → some_edge before now on i [] ≡ false
unfolding some_edge
no_more_edge before now on i = refl

-- a bit of the trigger, as it is taken of what is left of the signal in both rounds
pub edge_step : (before now : Digits) (on : List Piece) (i : ℕ) (all items : List Bool) (was_left is_left was is : ℕ) (edge : Bool) → items ≡ all → i < length items
    → was_left ≡ sig_number before on / 2 ^ i → is_left ≡ sig_number now on / 2 ^ i → was ≡ was_left % 2 → is ≡ is_left % 2
    → edge ≡ (not (eqb was (cond (get_or items i false) 1 0)) && eqb is (cond (get_or items i false) 1 0))
    → some_edge before now on i (drop i all) ≡ (edge || some_edge before now on (i + 1) (drop (i + 1) all))
edge_step before now on i all items was_left is_left was is edge same lt wl il w s e =
    let P : List Bool → Type 0 = λ xs. i < length xs in
    let was_is : was ≡ bit_at (sig_number before on) i = w ∙ ap (λ m. m % 2) wl in
    let is_is : is ≡ bit_at (sig_number now on) i = s ∙ ap (λ m. m % 2) il in
    edge_at before now on i all (subst P same lt)
    ∙ ap (λ b. b || some_edge before now on (i + 1) (drop (i + 1) all))
    (sym (e ∙ ap (λ (xs : List Bool). not (eqb was (cond (get_or xs i false) 1 0)) && eqb is (cond (get_or xs i false) 1 0)) same
    ∙ ap (λ m. not (eqb m (cond (get_or all i false) 1 0)) && eqb is (cond (get_or all i false) 1 0)) was_is
    ∙ ap (λ m. not (eqb (bit_at (sig_number before on) i) (cond (get_or all i false) 1 0)) && eqb m (cond (get_or all i false) 1 0)) is_is))
