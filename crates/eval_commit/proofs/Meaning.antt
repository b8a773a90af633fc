-- What the roots of a circuit give under its valuation.
use Rattle.std.proofs.Common.{◌≡◌, ℕ, zero, suc, ◌+◌, ◌-◌, ◌⊎◌, List, [], ◌∷◌, length, refl, sym, ◌∙◌, ap, subst, inl, inr, true, false, Option, Some, None}
use Rattle.std.specs.Prelude.{slice_get, slice_index}
use Rattle.std.specs.Int.{bit_at}
use Rattle.std.proofs.lemmas.Bool.{cases_Bool, false≢true}
use Rattle.sim_base.specs.BitValue.{BitValue}
use Rattle.circuit.specs.Signal.{Digits}
use Rattle.circuit.specs.State.{State}
use Rattle.circuit.specs.Valid.{driver_fits, drivers_of}
use Rattle.circuit.specs.Valuation.{IsValuation, cell_digit, covers, drive_of, driven, given, read_digit}
use Rattle.circuit.specs.declared.netlist.Circuit.{Circuit}
use Rattle.circuit.specs.declared.netlist.Drive.{Drive}
use Rattle.circuit.specs.declared.netlist.By.{By}
use Rattle.circuit.specs.declared.netlist.By.TheVariants as by
use Rattle.driver_check.specs.Depends.{Bit}
use Rattle.eval_plan.specs.Ordered.{CellBit, Digit, InputBit, IsAmong, IsFinal, IsOrdered, IsThere, ReadBit, RegBit, SourceBit, Undriven, source_at, source_by, source_within}
use Rattle.driver_check.specs.Nodes.{IsNode}
use Rattle.eval_plan.specs.Roots.{AreRoots, CoversIn, root_source}
use Rattle.driver_check.specs.declared.parts.Node.{Node}
use Rattle.driver_check.specs.declared.parts.Node.TheVariants as node
use Rattle.eval_plan.proofs.Given.{by_cell, root_fits}
use Rattle.driver_check.proofs.Places.{within}
use Rattle.signal_words.specs.Values.{digits_in}

-- ---- sources

abbrev source_digit : Circuit → State → List ℕ → Digits → SourceBit → ℕ
source_digit c state inputs digits Undriven = 0
source_digit c state inputs digits (Digit d) = d
source_digit c state inputs digits (InputBit n i) = bit_at (slice_index inputs n) i
source_digit c state inputs digits (CellBit n i) = cell_digit digits (slice_get c.cells n) i
source_digit c state inputs digits (RegBit n i) = bit_at (slice_index state.regs n) i
source_digit c state inputs digits (ReadBit m n i) = read_digit digits (slice_get c.mems m) (slice_get state.mems m) n i

of_some : (f : SourceBit → ℕ) (x y : SourceBit) → Some x ≡ Some y → f x ≡ f y
of_some f x y e = ap f (cc e)

right_by : (c : Circuit) (state : State) (inputs : List ℕ) (digits : Digits) (more : ℕ → ℕ → Option SourceBit) → ((n i : ℕ) (o : SourceBit) → more n i ≡ Some o → digits n i ≡ source_digit c state inputs digits o)
    → (b : By) (i : ℕ) (o : SourceBit) → source_by more b i ≡ Some o → given c state inputs digits b i ≡ source_digit c state inputs digits o
right_by c state inputs digits more ih (by.Const v) i o e = of_some (source_digit c state inputs digits) (Digit (bit_at v.number i)) o e
right_by c state inputs digits more ih (by.Input n at) i o e = of_some (source_digit c state inputs digits) (InputBit n (at + i)) o e
right_by c state inputs digits more ih (by.Wire n at) i o e = ih n (at + i) o e
right_by c state inputs digits more ih (by.Cell n at) i o e = of_some (source_digit c state inputs digits) (CellBit n (at + i)) o e
right_by c state inputs digits more ih (by.Reg n at) i o e = of_some (source_digit c state inputs digits) (RegBit n (at + i)) o e
right_by c state inputs digits more ih (by.Read m n at) i o e = of_some (source_digit c state inputs digits) (ReadBit m n (at + i)) o e

right_at : (c : Circuit) (state : State) (inputs : List ℕ) (digits : Digits) (more : ℕ → ℕ → Option SourceBit) → ((n i : ℕ) (o : SourceBit) → more n i ≡ Some o → digits n i ≡ source_digit c state inputs digits o)
    → (bit : ℕ) (d : Option Drive) (o : SourceBit) → source_at more bit d ≡ Some o → driven c state inputs digits bit d ≡ source_digit c state inputs digits o
right_at c state inputs digits more ih bit None o e = of_some (source_digit c state inputs digits) Undriven o e
right_at c state inputs digits more ih bit (Some d) o e = right_by c state inputs digits more ih d.by (bit - d.at) o e

-- the digit of a bit is that of its source
source_right : (c : Circuit) (state : State) (inputs : List ℕ) (digits : Digits) → IsValuation c state inputs digits → (s net bit : ℕ) (o : SourceBit) → source_within c s net bit ≡ Some o → digits net bit ≡ source_digit c state inputs digits o
unfolding source_within
source_right c state inputs digits v zero net bit o e = cc e
source_right c state inputs digits v (suc s) net bit o e =
    v net bit ∙ right_at c state inputs digits (source_within c s) (source_right c state inputs digits v s) bit (drive_of c net bit) o e

-- the digit of a bit is what its root gives, and 0 where it has none
pub root_right : (c : Circuit) (state : State) (inputs : List ℕ) (digits : Digits) (roots : List Drive) → AreRoots c roots → IsValuation c state inputs digits
    → (i : ℕ) (r : Drive) (x : Bit) → CoversIn roots i r x → digits x.0 x.1 ≡ given c state inputs digits r.by (x.1 - r.at)
root_right c state inputs digits roots are v i r x cov =
    let n = (are.right i r cov.0).names x cov.1 in
    source_right c state inputs digits v n.0 x.0 x.1 n.1 n.2 ∙ sym (right_by c state inputs digits (λ n at. None) (λ n at o e. cc e) r.by (x.1 - r.at) n.1 n.3)

pub undriven_right : (c : Circuit) (state : State) (inputs : List ℕ) (digits : Digits) (roots : List Drive) → AreRoots c roots → IsValuation c state inputs digits
    → (x : Bit) → ((i : ℕ) (r : Drive) → CoversIn roots i r x → ⊥) → digits x.0 x.1 ≡ 0
undriven_right c state inputs digits roots are v x none =
    let n = are.undriven x none in
    source_right c state inputs digits v n.0 x.0 x.1 Undriven n.1

-- ---- bits of which the root is written

-- what drives is computed by the first k nodes, or by none
abbrev pub IsThereBy : Circuit → List Node → ℕ → By → Type 0
IsThereBy c nodes k (by.Const v) = Unit {0}
IsThereBy c nodes k (by.Input n at) = Unit {0}
IsThereBy c nodes k (by.Wire n at) = ⊥
IsThereBy c nodes k (by.Cell n at) = IsAmong nodes k (node.Cell n)
IsThereBy c nodes k (by.Reg n at) = Unit {0}
IsThereBy c nodes k (by.Read m n at) = IsNode c (node.Read m n) → IsAmong nodes k (node.Read m n)

-- each bit has its digit, where all roots that cover it are there
abbrev pub AreRight : Circuit → List Node → List Drive → ℕ → Digits → List BitValue → Type 0
AreRight c nodes roots k digits nets = (x : Bit) → ((i : ℕ) (r : Drive) → CoversIn roots i r x → IsThereBy c nodes k r.by) → digits_in nets x.0 x.1 ≡ digits x.0 x.1

there_by : (c : Circuit) (nodes : List Node) (k : ℕ) (b : By) (i : ℕ) (o : SourceBit) → root_source b i ≡ Some o → IsThere c nodes k o → IsThereBy c nodes k b
there_by c nodes k (by.Const v) i o e t = tt
there_by c nodes k (by.Input n at) i o e t = tt
there_by c nodes k (by.Wire n at) i o e t = cc e
there_by c nodes k (by.Cell n at) i o e t = let f : CellBit n (at + i) ≡ o = cc e in subst (λ (p : SourceBit). IsThere c nodes k p) (sym f) t
there_by c nodes k (by.Reg n at) i o e t = tt
there_by c nodes k (by.Read m n at) i o e t = let f : ReadBit m n (at + i) ≡ o = cc e in subst (λ (p : SourceBit). IsThere c nodes k p) (sym f) t

-- a final bit has its digit
pub final_right : (c : Circuit) (nodes : List Node) (roots : List Drive) (k : ℕ) (digits : Digits) (nets : List BitValue) → AreRoots c roots → AreRight c nodes roots k digits nets
    → (net bit : ℕ) → IsFinal c nodes k net bit → digits_in nets net bit ≡ digits net bit
final_right c nodes roots k digits nets are right net bit final =
    right (net, bit) (λ i r cov.
    let n = (are.right i r cov.0).names (net, bit) cov.1 in
    there_by c nodes k r.by (bit - r.at) n.1 n.3 (final n.0 n.1 n.2))

-- behind all nodes all bits have their digits
all_there : (c : Circuit) (nodes : List Node) (width : ℕ) (b : By) (i : ℕ) (o : SourceBit) → IsOrdered c nodes → driver_fits (drivers_of c) width b ≡ true → root_source b i ≡ Some o → IsThereBy c nodes (length nodes) b
all_there c nodes width (by.Const v) i o order fits e = tt
all_there c nodes width (by.Input n at) i o order fits e = tt
all_there c nodes width (by.Wire n at) i o order fits e = cc e
all_there c nodes width (by.Cell n at) i o order fits e =
    let h = order.every (node.Cell n) (by_cell c width n at fits) in (h.0, within nodes h.0 (node.Cell n) h.1, h.1)
all_there c nodes width (by.Reg n at) i o order fits e = tt
all_there c nodes width (by.Read m n at) i o order fits e = λ is.
    let h = order.every (node.Read m n) is in (h.0, within nodes h.0 (node.Read m n) h.1, h.1)

pub all_right : (c : Circuit) (nodes : List Node) (roots : List Drive) (digits : Digits) (nets : List BitValue) → IsOrdered c nodes → AreRoots c roots → AreRight c nodes roots (length nodes) digits nets
    → (net bit : ℕ) → digits_in nets net bit ≡ digits net bit
all_right c nodes roots digits nets order are right net bit =
    right (net, bit) (λ i r cov.
    let n = (are.right i r cov.0).names (net, bit) cov.1 in
    all_there c nodes r.width r.by (bit - r.at) n.1 order (root_fits c roots are i r cov.0) n.3)

-- ---- whether some root covers a bit

pub covering : (roots : List Drive) (x : Bit) → ((i : ℕ) × (r : Drive) × CoversIn roots i r x) ⊎ ((i : ℕ) (r : Drive) → CoversIn roots i r x → ⊥)
covering [] x = inr (λ i r cov. cc cov.0)
covering (q ∷ qs) x = elim (cases_Bool (covers x.0 x.1 q)) [
  | inl on ↦ inl (0, q, (refl, on))
  | inr off ↦ elim (covering qs x) [
    | inl h ↦ inl (suc h.0, h.1, h.2)
    | inr none ↦ inr (behind off none)
  ]
]
  where
    behind : covers x.0 x.1 q ≡ false → ((i : ℕ) (r : Drive) → CoversIn qs i r x → ⊥) → (i : ℕ) (r : Drive) → CoversIn (q ∷ qs) i r x → ⊥
    behind off none zero r cov = let e : q ≡ r = cc cov.0 in false≢true (sym off ∙ ap (covers x.0 x.1) e ∙ cov.1)
    behind off none (suc i) r cov = none i r cov
