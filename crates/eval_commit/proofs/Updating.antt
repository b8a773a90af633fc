-- The nets of one valuation become those of another, node by node.
use Rattle.std.proofs.Common.{◌≡◌, ℕ, ◌+◌, ◌-◌, ◌<◌, List, length, refl, sym, ◌∙◌, ap, subst, arith, inl, inr, Bool, not, ◌&&◌, false, Option, Some, None}
use Rattle.std.specs.Prelude.{◌==◌, slice_get, slice_index, sum_by}
use Rattle.std.specs.Int.{bit_at}
use Rattle.std.proofs.lemmas.Nat.Bits.{bit_at-zero}
use Rattle.sim_base.specs.BitValue.{BitValue, digit_of}
use Rattle.circuit.specs.Rounds.{Round}
use Rattle.circuit.specs.Signal.{Digits, sig_number}
use Rattle.circuit.specs.State.{State}
use Rattle.circuit.specs.Valuation.{IsValuation, cell_digit, given, offset_of}
use Rattle.circuit.specs.declared.cell.Cell.{Cell}
use Rattle.circuit.specs.declared.netlist.Circuit.{Circuit}
use Rattle.circuit.specs.declared.netlist.By.{By}
use Rattle.circuit.specs.declared.netlist.By.TheVariants as by
use Rattle.circuit.specs.declared.netlist.Drive.{Drive}
use Rattle.circuit.proofs.Same.{cell_same, sig_same}
use Rattle.cell_changes.specs.Changes.{changed_cells, has_changed}
use Rattle.driver_check.specs.Depends.{Bit, CellReads}
use Rattle.driver_check.specs.declared.parts.Node.{Node}
use Rattle.driver_check.specs.declared.parts.Node.TheVariants as node
use Rattle.driver_check.proofs.Places.{same}
use Rattle.eval_plan.specs.Ordered.{IsAmong, IsOrdered}
use Rattle.eval_plan.specs.Roots.{AreRoots, CoversIn}
use Rattle.eval_plan.specs.Sources.{AreSources, TakesCell, TakesPart, cell_row}
use Rattle.eval_plan.specs.declared.plan.Plan.{Plan}
use Rattle.signal_words.specs.Values.{digits_in}
use Rattle.eval_commit.specs.Computed.{cell_changes, cell_number, node_changes, node_row}
use Rattle.eval_commit.specs.Seeding.{is_kept}
use Rattle.eval_commit.specs.Shown.{Shows, ShowsCells}
use Rattle.eval_commit.specs.Spread.{IsCovered, IsSpread}
use Rattle.eval_commit.proofs.Meaning.{AreRight, final_right, root_right}
use Rattle.eval_commit.proofs.Rounding.{node_listed}
use Rattle.eval_commit.proofs.Stepped.{nodes_add_up}

-- ---- a cell that is not evaluated

-- its roots have what it gives
pub stays_spread : (roots : List Drive) (places : List ℕ) (number now : ℕ) (nets : List BitValue) → Shows roots places number nets → number ≡ now → IsSpread roots places (length places) now nets nets
stays_spread roots places number now nets shown e = record {
  taken = λ j k r x lt at cov. subst (λ (n : ℕ). digits_in nets x.0 x.1 ≡ bit_at n (offset_of r.by + (x.1 - r.at))) e (shown j k r x at cov);
  kept = λ x none. refl;
}

-- ---- what cells give under a valuation

pub some_cell_same : (o : Option Cell) (d e : Digits) → ((net bit : ℕ) → CellReads o net bit → d net bit ≡ e net bit) → cell_number d o ≡ cell_number e o
some_cell_same None d e h = refl
some_cell_same (Some x) d e h = cell_same x d e h

-- the root that takes from a cell is one of those listed for it
taken_from : (c : Circuit) (plan : Plan) (n j k : ℕ) (r : Drive) (x : Bit) → AreSources c plan.roots plan.sources → n < length c.cells → slice_get (cell_row plan.sources n) j ≡ Some k → CoversIn plan.roots k r x → TakesCell n r.by
taken_from c plan n j k r x from lt at cov =
    let h = (from.cells n lt).right j k at in
    subst (λ (d : Drive). TakesCell n d.by) (same plan.roots k h.0 r h.1 cov.0) h.2

pub shows_cells : (c : Circuit) (plan : Plan) (state : State) (inputs : List ℕ) (digits : Digits) (nets : List BitValue) → AreRoots c plan.roots → AreSources c plan.roots plan.sources → IsValuation c state inputs digits
    → ((net bit : ℕ) → digits_in nets net bit ≡ digits net bit) → ShowsCells c plan nets
shows_cells c plan state inputs digits nets are from valued right n lt j k r x at cov =
    let takes = taken_from c plan n j k r x from lt at cov in
    let o : offset_of r.by ≡ takes.0 = ap offset_of takes.1 in
    let i : ℕ = x.1 - r.at in
    right x.0 x.1
    ∙ root_right c state inputs digits plan.roots are valued k r x cov
    ∙ ap (λ (b : By). given c state inputs digits b i) takes.1
    ∙ digit_is (slice_get c.cells n) (takes.0 + i)
    ∙ ap (λ m. bit_at m (takes.0 + i)) (some_cell_same (slice_get c.cells n) digits (digits_in nets) (λ net bit h. sym (right net bit)))
    ∙ ap (λ m. bit_at (cell_number (digits_in nets) (slice_get c.cells n)) (m + i)) (sym o)
  where
    digit_is : (p : Option Cell) (i : ℕ) → cell_digit digits p i ≡ bit_at (cell_number digits p) i
    digit_is None i = sym (bit_at-zero i)
    digit_is (Some y) i = refl

-- ---- the roots of cells that were not computed yet

-- those of each cell that is not among the first k nodes have a number
abbrev pub ShowsRest : Circuit → List Node → Plan → ℕ → Digits → List BitValue → Type 0
ShowsRest c nodes plan k before nets = (n : ℕ) → n < length c.cells → (IsAmong nodes k (node.Cell n) → ⊥) → Shows plan.roots (cell_row plan.sources n) (cell_number before (slice_get c.cells n)) nets

-- seeds leave them
pub seeded_shown : (c : Circuit) (nodes : List Node) (plan : Plan) (inputs : List BitValue) (before vs ws : List BitValue) → AreRoots c plan.roots → AreSources c plan.roots plan.sources → ShowsCells c plan before → vs ≡ before
    → ((x : Bit) → ((i : ℕ) (r : Drive) → CoversIn plan.roots i r x → is_kept r.by ≡ false) → digits_in ws x.0 x.1 ≡ digits_in vs x.0 x.1) → ShowsRest c nodes plan 0 (digits_in before) ws
seeded_shown c nodes plan inputs before vs ws are from shown e bare n lt out j k r x at cov =
    bare x (λ i q other.
    let f : i ≡ k = are.once i k q r x other cov in
    let g : q ≡ r = same plan.roots k q r (subst (λ (l : ℕ). slice_get plan.roots l ≡ Some q) f other.0) cov.0 in
    let takes = taken_from c plan n j k r x from lt at cov in
    ap (λ (d : Drive). is_kept d.by) g ∙ ap is_kept takes.1)
    ∙ ap (λ (ns : List BitValue). digits_in ns x.0 x.1) e
    ∙ shown n lt j k r x at cov

-- and so does a node that is none of them
pub shown_more : (c : Circuit) (nodes : List Node) (plan : Plan) (k number : ℕ) (m : Node) (before : Digits) (vs ws : List BitValue) → IsOrdered c nodes → AreRoots c plan.roots → AreSources c plan.roots plan.sources → slice_get nodes k ≡ Some m
    → IsSpread plan.roots (node_row plan.sources m) (length (node_row plan.sources m)) number vs ws → ShowsRest c nodes plan k before vs → ShowsRest c nodes plan (k + 1) before ws
shown_more c nodes plan k number m before vs ws order are from here s shown n lt out j l r x at cov =
    s.kept x (λ h. out (k, (let le : k < k + 1 = omega arith in le), here ∙ ap Some (is_it h)))
    ∙ shown n lt (λ among. out (among.0, (let le : among.0 < k + 1 = omega (arith, among.1) in le), among.2)) j l r x at cov
  where
    one_source : (p : Node) (b : By) → TakesPart p b → TakesCell n b → p ≡ node.Cell n
    one_source (node.Cell i) b takes other = let e : by.Cell i takes.0 ≡ by.Cell n other.0 = sym takes.1 ∙ other.1 in ap node.Cell (let f : i ≡ n = cc e in f)
    one_source (node.Read a i) b takes other = let e : by.Read a i takes.0 ≡ by.Cell n other.0 = sym takes.1 ∙ other.1 in cc e

    is_it : IsCovered plan.roots (node_row plan.sources m) (length (node_row plan.sources m)) x → m ≡ node.Cell n
    is_it h =
        let f : h.1 ≡ l = are.once h.1 l h.2 r x h.5 cov in
        let root = (node_listed c plan.roots plan.sources m from (order.there k m here)).right h.0 h.1 h.4 in
        let g : root.0 ≡ r = same plan.roots l root.0 r (subst (λ (i : ℕ). slice_get plan.roots i ≡ Some root.0) f root.1) cov.0 in
        one_source m r.by (subst (λ (d : Drive). TakesPart m d.by) g root.2) (taken_from c plan n j l r x from lt at cov)

-- ---- how many cells have changed

abbrev differs : Digits → Cell → ℕ → ℕ → ℕ → Bool
differs before x a b s = not ((sig_number before x.a == a) && ((sig_number before x.b == b) && (sig_number before x.s == s)))

changes_same : (o : Option Cell) (before d e : Digits) → ((net bit : ℕ) → CellReads o net bit → d net bit ≡ e net bit) → cell_changes before d o ≡ cell_changes before e o
changes_same None before d e h = refl
changes_same (Some x) before d e h =
    let a = sig_same x.a d e (λ net bit r. h net bit (inl r)) in
    let b = sig_same x.b d e (λ net bit r. h net bit (inr (inl r))) in
    let s = sig_same x.s d e (λ net bit r. h net bit (inr (inr r))) in
    ap (λ n. digit_of (differs before x n (sig_number d x.b) (sig_number d x.s))) a
    ∙ ap (λ n. digit_of (differs before x (sig_number e x.a) n (sig_number d x.s))) b
    ∙ ap (λ n. digit_of (differs before x (sig_number e x.a) (sig_number e x.b) n)) s

-- what a node reads is final once it comes
pub node_changes_right : (c : Circuit) (nodes : List Node) (roots : List Drive) (k : ℕ) (m : Node) (before digits : Digits) (nets : List BitValue) → IsOrdered c nodes → AreRoots c roots → AreRight c nodes roots k digits nets
    → slice_get nodes k ≡ Some m → node_changes c before (digits_in nets) m ≡ node_changes c before digits m
node_changes_right c nodes roots k (node.Cell n) before digits nets order are right at =
    changes_same (slice_get c.cells n) before (digits_in nets) digits (λ net bit h. final_right c nodes roots k digits nets are right net bit (order.ready k net bit (node.Cell n) at h))
node_changes_right c nodes roots k (node.Read l n) before digits nets order are right at = refl

-- over all nodes they are those of a round
pub changes_are : (c : Circuit) (nodes : List Node) (r : Round) (digits : Digits) → IsOrdered c nodes → ((net bit : ℕ) → bit_at (slice_index r.now net) bit ≡ digits net bit)
    → sum_by (node_changes c (λ net bit. bit_at (slice_index r.before net) bit) digits) nodes ≡ changed_cells c.cells r
changes_are c nodes r digits order right =
    let before : Digits = λ net bit. bit_at (slice_index r.before net) bit in
    let now : Digits = λ net bit. bit_at (slice_index r.now net) bit in
    nodes_add_up (λ n. cell_changes before digits (slice_get c.cells n)) c nodes (λ x. digit_of (has_changed before now x)) order
    (λ n x at. ap (cell_changes before digits) at ∙ changes_same (Some x) before digits now (λ net bit h. sym (right net bit)))
