-- Signals at the ports of a cell that passes its checks.
use Rattle.std.proofs.Common.{◌≡◌, ℕ, zero, suc, ◌^◌, ◌-◌, ◌≤◌, ◌==◌, min, eqb, List, [], ◌∷◌, find, cond, Bool, true, false, option_map, Option, Some, None, refl, sym, ◌∙◌, ap, subst, arith, inl, inr, bytes_eq}
use Rattle.std.specs.Prelude.{slice_get, nat_le}
use Rattle.std.specs.List.{list_all}
use Rattle.std.proofs.lemmas.Bool.{and_from, cond-false, cond-true, eq-eqb, le-leb}
use Rattle.std.proofs.lemmas.Bool.Decides.{eqb_tells}
use Rattle.std.proofs.lemmas.List.Sums.{sum_by-cons}
use Rattle.std.proofs.lemmas.Option.{slice_get-map}
use Rattle.std.proofs.lemmas.Slice.Eq.{bytes_eq-Decides}
use Rattle.sim_base.specs.BitValue.{zeros}
use Rattle.circuit.specs.Signal.{piece_part, piece_width, sig_width}
use Rattle.circuit.specs.Valid.{piece_fits, sig_fits, sig_of, widest}
use Rattle.circuit.specs.declared.fault.DesignKind.TheVariants as kind
use Rattle.circuit.specs.declared.netlist.Net.{Net}
use Rattle.circuit.specs.declared.netlist.Piece.{Piece}
use Rattle.circuit.specs.declared.netlist.Piece.TheVariants as piece
use Rattle.circuit.proofs.Grown.{all_at}
use Rattle.cell_library.specs.Checks.{first_fault, limit_checks, line_checks, port_named, port_width}
use Rattle.cell_library.specs.Fit.{width_of}
use Rattle.cell_library.specs.Lines.{TypeLine}
use Rattle.cell_library.specs.Names.{port_name}
use Rattle.cell_library.specs.Values.{span_width}
use Rattle.cell_library.specs.declared.line.PortName.{PortName}
use Rattle.cell_library.specs.declared.written.Setting.{Setting}
use Rattle.cell_library.proofs.Joined.{are_joined}
use Rattle.cell_library.proofs.Limits.{named_within, span_within}
use Rattle.rtlil_tree.specs.declared.module.Connection.{Connection as WrittenPort}
use Rattle.rtlil_signals.specs.Signals.{Scope, sig_pieces, whole}
use Rattle.design_wires.specs.Connects.{or_none}
use Rattle.design_cells.specs.Cells.{signal_at, signal_or_zeros}
use Rattle.design_cells.specs.Joined.{Joined, connection_of, connections_of, joined_at, joined_in, pieces_in}
use Rattle.design_valid.specs.Wired.{StandsOver}
use Rattle.design_valid.proofs.Sigs.{sig_fits_over, whole_fits}
use Rattle.design_valid.proofs.Wires.{some_fits}

-- ---- what is found stands in the list

pub found_at : {X : Type 0} (test : X → Bool) (xs : List X) (x : X) → find test xs ≡ Some x → (i : ℕ) × (slice_get xs i ≡ Some x) × (test x ≡ true)
found_at test [] x e = cc e
found_at {X} test (y ∷ ys) x e = by (test y) refl e (found_at test ys x)
  where
    by : (b : Bool) → test y ≡ b → cond b (Some y) (find test ys) ≡ Some x → (find test ys ≡ Some x → (i : ℕ) × (slice_get ys i ≡ Some x) × (test x ≡ true)) → (i : ℕ) × (slice_get (y ∷ ys) i ≡ Some x) × (test x ≡ true)
    by true h k rest = let same : y ≡ x = cc k in (zero, k, subst (λ (z : X). test z ≡ true) same h)
    by false h k rest = let later = rest k in (suc later.0, later.1, later.2)

-- ---- zeros

pub zeros_wide : (width : ℕ) → sig_width (whole (piece.Const (zeros width))) ≡ width
zeros_wide width = elim (eqb_tells width 0) [
  | inl t ↦ (let none = ap sig_width (cond-true (eqb width 0) [] (piece_part 0 width (piece.Const (zeros width)) ∷ []) t.0) in let z : width ≡ 0 = t.1 in none ∙ sym z)
  | inr f ↦
      (let some = ap sig_width (cond-false (eqb width 0) [] (piece_part 0 width (piece.Const (zeros width)) ∷ []) f.0) in
      some ∙ omega (arith, sum_by-cons piece_width (piece_part 0 width (piece.Const (zeros width))) []))
]

-- ---- all joined signals

abbrev pub all_fit : List Net → List Joined → Bool
all_fit nets js = list_all (λ j. list_all (piece_fits nets) (or_none j.pieces)) js

pub joined_fit : (nets : List Net) (scope : Scope) → StandsOver scope nets → (cs : List WrittenPort) → all_fit nets (joined_in scope cs) ≡ true
joined_fit nets scope stands [] = refl
joined_fit nets scope stands (c ∷ cs) =
    and_from (list_all (piece_fits nets) (or_none (sig_pieces scope c.sig))) (all_fit nets (joined_in scope cs))
    (some_fits nets (sig_pieces scope c.sig) (sig_fits_over nets scope stands c.sig)) (joined_fit nets scope stands cs)

pub pieces_fit : (nets : List Net) (js : List Joined) (name : List ℕ) → all_fit nets js ≡ true → list_all (piece_fits nets) (pieces_in (joined_at js name)) ≡ true
pieces_fit nets js name fit = by (joined_at js name) refl
  where
    by : (o : Option Joined) → joined_at js name ≡ o → list_all (piece_fits nets) (pieces_in o) ≡ true
    by None e = refl
    by (Some j) e = let at = found_at (λ (x : Joined). bytes_eq x.port name) js j e in all_at (λ (x : Joined). list_all (piece_fits nets) (or_none x.pieces)) js fit at.0 j at.1

-- a signal fits, or zeros of so many bits
pub zeros_or_fit : (nets : List Net) (js : List Joined) (name : List ℕ) (width : ℕ) → all_fit nets js ≡ true → list_all (piece_fits nets) (signal_or_zeros (joined_at js name) width) ≡ true
zeros_or_fit nets js name width fit = by (joined_at js name) (pieces_fit nets js name fit)
  where
    by : (o : Option Joined) → list_all (piece_fits nets) (pieces_in o) ≡ true → list_all (piece_fits nets) (signal_or_zeros o width) ≡ true
    by None h = whole_fits nets (piece.Const (zeros width)) refl
    by (Some j) h = h

pub wide_enough : (nets : List Net) (width : ℕ) (ps : List Piece) → list_all (piece_fits nets) ps ≡ true → sig_width ps ≡ width → width ≤ widest → sig_of nets width ps ≡ true
wide_enough nets width ps fit is le =
    and_from (sig_fits nets ps) (sig_width ps == width)
    (and_from (list_all (piece_fits nets) ps) (nat_le (sig_width ps) widest) fit (le-leb (sig_width ps) widest (omega (arith, is, le))))
    (eq-eqb (sig_width ps) width is)

-- ---- at a port of the type

module _ (l : TypeLine) (settings : List Setting) (js : List Joined) (passed : first_fault (line_checks l settings (connections_of js)) ≡ None) (limits : first_fault (limit_checks settings widest kind.TooWide l.ports) ≡ None) where
  pub port_within : (name : PortName) → width_of l settings name ≤ widest
  port_within name = named_within settings widest kind.TooWide l.ports (port_name name) limits

  joined_width : (i : ℕ) (j : Joined) → slice_get js i ≡ Some j → sig_width (or_none j.pieces) ≡ port_width settings (port_named l.ports j.port)
  joined_width i j e =
      let at = are_joined l settings (connections_of js) i (connection_of j) passed (slice_get-map connection_of js i ∙ ap (option_map connection_of) e) in
      let few = span_within settings l.ports j.port at.0 at.1 limits in
      let is : min (sig_width (or_none j.pieces)) (2 ^ 64 - 1) ≡ span_width settings at.0.span = at.2 in
      let width : sig_width (or_none j.pieces) ≡ span_width settings at.0.span = omega (arith, few, is) in
      width ∙ sym (ap (port_width settings) at.1)

  found_width : (name : List ℕ) (j : Joined) → joined_at js name ≡ Some j → sig_width (or_none j.pieces) ≡ port_width settings (port_named l.ports name)
  found_width name j e =
      let at = found_at (λ (x : Joined). bytes_eq x.port name) js j e in
      joined_width at.0 j at.1 ∙ ap (λ n. port_width settings (port_named l.ports n)) ((bytes_eq-Decides j.port name).0 at.2)

  pub pieces_within : (name : PortName) → sig_width (pieces_in (joined_at js (port_name name))) ≤ width_of l settings name
  pieces_within name = by (joined_at js (port_name name)) refl
    where
      by : (o : Option Joined) → joined_at js (port_name name) ≡ o → sig_width (pieces_in o) ≤ width_of l settings name
      by None e = omega arith
      by (Some j) e = let is = found_width (port_name name) j e in omega (arith, is)

  pub signal_wide : (name : PortName) → sig_width (signal_at l settings js name) ≡ width_of l settings name
  signal_wide name = by (joined_at js (port_name name)) refl
    where
      by : (o : Option Joined) → joined_at js (port_name name) ≡ o → sig_width (signal_or_zeros o (width_of l settings name)) ≡ width_of l settings name
      by None e = zeros_wide (width_of l settings name)
      by (Some j) e = found_width (port_name name) j e

  pub signal_of : (nets : List Net) → all_fit nets js ≡ true → (name : PortName) → sig_of nets (width_of l settings name) (signal_at l settings js name) ≡ true
  signal_of nets fit name = wide_enough nets (width_of l settings name) (signal_at l settings js name) (zeros_or_fit nets js (port_name name) (width_of l settings name) fit) (signal_wide name) (port_within name)
