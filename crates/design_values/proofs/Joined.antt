-- What is shown of the ports of an instance.
use Rattle.std.proofs.Common.{◌≡◌, ◌⊎◌, ℕ, zero, suc, ◌+◌, ◌*◌, ◌^◌, ◌&&◌, Bool, true, false, not, cond, nat_eq, List, [], ◌∷◌, Option, Some, None, flat_map, sym, ap, subst, ◌∙◌, arith, inl, inr}
use Rattle.std.specs.Int.{bit_at}
use Rattle.std.specs.List.{slice_get}
use Rattle.std.specs.Option.{is_some}
use Rattle.std.proofs.lemmas.Bool.{cond-true, cond-false}
use Rattle.std.proofs.lemmas.Bool.Decides.{eqb_tells}
use Rattle.std.proofs.lemmas.List.Sums.{sum_by-cons}
use Rattle.std.proofs.lemmas.Option.{same_Some}
use Rattle.sim_base.specs.BitValue.{zeros}
use Rattle.circuit.specs.Below.{AreConstantsBelow}
use Rattle.circuit.specs.Signal.{AreBits, gathered, piece_width, sig_number, sig_width}
use Rattle.circuit.specs.declared.netlist.By.TheVariants as by
use Rattle.circuit.specs.declared.netlist.Drive.{Drive}
use Rattle.circuit.specs.declared.netlist.Piece.{Piece}
use Rattle.circuit.specs.declared.netlist.Piece.TheVariants as piece
use Rattle.rtlil_signals.specs.Signals.{Scope, net_named, net_pieces}
use Rattle.rtlil_signals.specs.declared.scope.NamedNet.{NamedNet}
use Rattle.design_wires.specs.Connects.{has_no_constant}
use Rattle.design_cells.specs.Joined.{Joined, joined_at}
use Rattle.design_instances.specs.Joins.{is_input, joined_drives, missing_drives, port_drives, tied_to, zero_drives}
use Rattle.design_instances.specs.Ports.{PortWires, wire_named}
use Rattle.design_instances.specs.declared.port.PortWire.{PortWire}
use Rattle.design_values.specs.Follows.{AllFollow, Values}
use Rattle.design_values.proofs.Connected.{Constants, Parts, Widths, connected_same, follow_behind, follow_front}
use Rattle.design_values.proofs.Numbers.{gathered_same, gathered_zero}

-- ---- the pieces of a net

-- they are none, or the whole net
abbrev AsNet : NamedNet → List Piece → Type 0
AsNet n ps = ((n.width ≡ 0) × (ps ≡ [])) ⊎ (ps ≡ piece.Part n.net 0 n.width ∷ [])

as_net : (n : NamedNet) → AsNet n (net_pieces (Some n))
as_net n = elim (eqb_tells n.width 0) [
  | inl t ↦ inl (t.1, cond-true (nat_eq n.width 0) [] (piece.Part n.net (0 + 0) n.width ∷ []) t.0)
  | inr f ↦ inr (cond-false (nat_eq n.width 0) [] (piece.Part n.net (0 + 0) n.width ∷ []) f.0)
]

one_width : (p : Piece) → sig_width (p ∷ []) ≡ piece_width p
one_width p = let e = sum_by-cons piece_width p [] in omega (arith, e)

net_width : (n : NamedNet) → sig_width (net_pieces (Some n)) ≡ n.width
net_width n = elim (as_net n) [
  | inl h ↦ ap sig_width h.1 ∙ sym h.0
  | inr h ↦ ap sig_width h ∙ one_width (piece.Part n.net 0 n.width)
]

net_parts : (n : NamedNet) → has_no_constant (net_pieces (Some n)) ≡ true
net_parts n = elim (as_net n) [
  | inl h ↦ ap has_no_constant h.1
  | inr h ↦ ap has_no_constant h
]

no_constants : (ps : List Piece) → ps ≡ [] → AreConstantsBelow ps
no_constants ps e i u at = let f : None ≡ Some (piece.Const u) = ap (λ (xs : List Piece). slice_get xs i) (sym e) ∙ at in cc

part_alone : (net at w : ℕ) → AreConstantsBelow (piece.Part net at w ∷ [])
part_alone net at w zero u is = cc is
part_alone net at w (suc i) u is = cc is

net_below : (n : NamedNet) → AreConstantsBelow (net_pieces (Some n))
net_below n = elim (as_net n) [
  | inl h ↦ no_constants (net_pieces (Some n)) h.1
  | inr h ↦ subst AreConstantsBelow (sym h) (part_alone n.net 0 n.width)
]

-- ---- the drives at one port among all

follow_each : {X : Type 0} (v : Values) (f : X → List Drive) (xs : List X) (k : ℕ) (x : X) → slice_get xs k ≡ Some x → AllFollow v (flat_map f xs) → AllFollow v (f x)
follow_each v f [] k x e h = cc
follow_each v f (y ∷ ys) zero x e h = subst (λ z. AllFollow v (f z)) (same_Some y x e) (follow_front v (f y) (flat_map f ys) h)
follow_each v f (y ∷ ys) (suc k) x e h = follow_each v f ys k x e (follow_behind v (f y) (flat_map f ys) h)

abbrev zero_drive : NamedNet → Drive
zero_drive n = record { net = n.net; at = 0; width = n.width; by = by.Const (zeros n.width) }

module _ (v : Values) (inside : Scope) (ports : PortWires) (js : List Joined) (follow : AllFollow v (joined_drives inside ports js)) where
  joined_follow : (k : ℕ) (j : Joined) → slice_get js k ≡ Some j → AllFollow v (port_drives inside ports j)
  unfolding joined_drives
  joined_follow k j at = follow_each v (port_drives inside ports) js k j at (follow_front v (flat_map (port_drives inside ports) js) (flat_map (missing_drives inside js) ports) follow)

  missing_follow : (k : ℕ) (p : List ℕ × PortWire) → slice_get ports k ≡ Some p → AllFollow v (missing_drives inside js p)
  unfolding joined_drives
  missing_follow k p at = follow_each v (missing_drives inside js) ports k p at (follow_behind v (flat_map (port_drives inside ports) js) (flat_map (missing_drives inside js) ports) follow)

  tied_follow : (k : ℕ) (j : Joined) (b : Bool) (n : NamedNet) (sig : List Piece) → slice_get js k ≡ Some j → is_input (wire_named ports j.port) ≡ b → net_named inside j.port ≡ Some n → j.pieces ≡ Some sig → AllFollow v (tied_to b (Some n) (Some sig))
  tied_follow k j b n sig at input named pieces =
      subst (λ (o : Option (List Piece)). AllFollow v (tied_to b (Some n) o)) pieces
      (subst (λ (o : Option NamedNet). AllFollow v (tied_to b o j.pieces)) named
      (subst (λ (c : Bool). AllFollow v (tied_to c (net_named inside j.port) j.pieces)) input (joined_follow k j at)))

  module _ (widths : Widths) (parts : Parts) (constants : Constants) (small : AreBits v.digits) (k : ℕ) (j : Joined) (n : NamedNet) (sig : List Piece) (at : slice_get js k ≡ Some j) (named : net_named inside j.port ≡ Some n) (pieces : j.pieces ≡ Some sig) (wide : sig_width sig ≡ n.width) where
    pub input_same : is_input (wire_named ports j.port) ≡ true → AreConstantsBelow sig → sig_number v.digits (net_pieces (Some n)) ≡ sig_number v.digits sig
    input_same input below = connected_same widths parts constants v small (net_pieces (Some n)) sig below (net_parts n) (net_width n ∙ sym wide) (tied_follow k j true n sig at input named pieces)

    pub output_same : is_input (wire_named ports j.port) ≡ false → has_no_constant sig ≡ true → sig_number v.digits sig ≡ sig_number v.digits (net_pieces (Some n))
    output_same input none = connected_same widths parts constants v small sig (net_pieces (Some n)) (net_below n) none (wide ∙ sym (net_width n)) (tied_follow k j false n sig at input named pieces)

  -- ---- an input that nothing is joined to

  zeros_follow : (k : ℕ) (name : List ℕ) (w : PortWire) (n : NamedNet) → slice_get ports k ≡ Some (name, w) → w.is_input ≡ true → joined_at js name ≡ None → net_named inside name ≡ Some n → AllFollow v (zero_drives (Some n))
  zeros_follow k name w n at input missing named =
      subst (λ (o : Option NamedNet). AllFollow v (zero_drives o)) named
      (subst (λ (o : Option Joined). AllFollow v (cond (not (is_some o)) (zero_drives (net_named inside name)) [])) missing
      (subst (λ (b : Bool). AllFollow v (cond (b && not (is_some (joined_at js name))) (zero_drives (net_named inside name)) [])) input (missing_follow k (name, w) at)))

  pub missing_zero : (k : ℕ) (name : List ℕ) (w : PortWire) (n : NamedNet) → slice_get ports k ≡ Some (name, w) → w.is_input ≡ true → joined_at js name ≡ None → net_named inside name ≡ Some n → sig_number v.digits (net_pieces (Some n)) ≡ 0
  unfolding sig_number
  missing_zero k name w n at input missing named = elim (eqb_tells n.width 0) [
    | inl t ↦ ap (sig_number v.digits) (cond-true (nat_eq n.width 0) [] (piece.Part n.net (0 + 0) n.width ∷ []) t.0)
    | inr f ↦
        (let follows = subst (λ (b : Bool). AllFollow v (cond b [] (zero_drive n ∷ []))) f.0 (zeros_follow k name w n at input missing named) in
        let digit : ℕ → ℕ = λ j. v.digits n.net (0 + j) in
        let same : gathered digit n.width ≡ 0 = gathered_same n.width digit (bit_at 0) follows.0 ∙ gathered_zero n.width in
        let e : 0 * 2 ^ n.width + gathered digit n.width ≡ gathered digit n.width = omega arith in
        ap (sig_number v.digits) (cond-false (nat_eq n.width 0) [] (piece.Part n.net (0 + 0) n.width ∷ []) f.0) ∙ e ∙ same)
  ]
