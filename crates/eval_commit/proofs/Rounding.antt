-- The nets become right node by node.
use Rattle.std.proofs.Common.{◌≡◌, ℕ, zero, suc, ◌+◌, ◌-◌, ◌<◌, ◌⊎◌, List, [], ◌∷◌, length, refl, sym, ◌∙◌, ap, subst, arith, inl, inr, true, Option, Some, None, nat_le, nat_lt}
use Rattle.std.specs.Prelude.{option_and_then, slice_get, slice_index}
use Rattle.std.specs.Int.{bit_at}
use Rattle.std.proofs.lemmas.Bool.{and_parts, cases_eq, cases_Bool, cond-true, cond-false, false≢true, ltb-true}
use Rattle.sim_base.specs.BitValue.{BitValue}
use Rattle.circuit.specs.Signal.{Digits, Reads, sig_number}
use Rattle.circuit.specs.Output.{ReadsBit, output}
use Rattle.circuit.specs.State.{State, addressed_row}
use Rattle.circuit.specs.Valid.{driver_fits, drivers_of, port_holds}
use Rattle.circuit.specs.Valuation.{IsValuation, cell_digit, covers, given, offset_of, port_digit, read_digit}
use Rattle.circuit.specs.declared.netlist.Circuit.{Circuit}
use Rattle.circuit.specs.declared.netlist.Drive.{Drive}
use Rattle.circuit.specs.declared.netlist.By.{By}
use Rattle.circuit.specs.declared.netlist.By.TheVariants as by
use Rattle.circuit.specs.declared.memory.Mem.{Mem}
use Rattle.circuit.specs.declared.memory.ReadPort.{ReadPort}
use Rattle.circuit.specs.declared.store.Store.{Store}
use Rattle.circuit.proofs.Same.{cell_same, sig_same}
use Rattle.driver_check.specs.Depends.{Bit, CellReads, MemReads, PortReads}
use Rattle.driver_check.specs.Nodes.{IsNode}
use Rattle.eval_plan.specs.Ordered.{IsOrdered}
use Rattle.eval_plan.specs.Roots.{AreRoots, CoversIn}
use Rattle.eval_plan.specs.Sources.{AreSources, RootBy, TakesPart}
use Rattle.eval_plan.specs.Tables.{Lists}
use Rattle.driver_check.specs.declared.parts.Node.{Node}
use Rattle.driver_check.specs.declared.parts.Node.TheVariants as node
use Rattle.eval_plan.specs.declared.sources.Sources.{Sources}
use Rattle.eval_plan.proofs.Given.{root_fits}
use Rattle.driver_check.proofs.Places.{found, same, within}
use Rattle.memory_cells.specs.Rows.{RowValues}
use Rattle.signal_words.specs.Stores.{IsStoreOf}
use Rattle.sim_base.specs.Values.{numbers}
use Rattle.signal_words.specs.Values.{digits_in}
use Rattle.eval_commit.specs.Computed.{AreAllRows, cell_number, computed, node_row}
use Rattle.eval_commit.specs.Seeding.{HasKept, IsSeeded, is_kept, kept_value}
use Rattle.eval_commit.specs.Evaluation.{Holds, IsBlank}
use Rattle.eval_commit.specs.Spread.{IsCovered, IsSpread}
use Rattle.eval_commit.proofs.Belonging.{read_at}
use Rattle.eval_commit.proofs.Keeping.{kept_of, outs_at}
use Rattle.eval_commit.proofs.Meaning.{AreRight, IsThereBy, covering, final_right, root_right, undriven_right}
use Rattle.eval_commit.proofs.Written.{number_in}

-- ---- whether a listed root covers a bit

place_covers : (roots : List Drive) (k : ℕ) (x : Bit) (o : Option Drive) → slice_get roots k ≡ o → ((r : Drive) × CoversIn roots k r x) ⊎ ((r : Drive) → CoversIn roots k r x → ⊥)
place_covers roots k x None e = inr (λ r cov. let f : None ≡ Some r = sym e ∙ cov.0 in cc f)
place_covers roots k x (Some q) e = elim (cases_Bool (covers x.0 x.1 q)) [
  | inl on ↦ inl (q, (e, on))
  | inr off ↦ inr (λ r cov. let f : q ≡ r = same roots k q r e cov.0 in false≢true (sym off ∙ ap (covers x.0 x.1) f ∙ cov.1))
]

pub listed_covering : (roots : List Drive) (places : List ℕ) (x : Bit) → IsCovered roots places (length places) x ⊎ (IsCovered roots places (length places) x → ⊥)
listed_covering roots [] x = inr (λ h. let lt : h.0 < 0 = h.3 in omega (arith, lt))
listed_covering roots (k ∷ ks) x = elim (place_covers roots k x (slice_get roots k) refl) [
  | inl h ↦ inl (0, k, h.0, (let lt : 0 < suc (length ks) = omega arith in lt), refl, h.1)
  | inr no_ ↦ elim (listed_covering roots ks x) [
    | inl h ↦ inl (suc h.0, h.1, h.2, (let lt : h.0 < length ks = h.3 in let le : suc h.0 < suc (length ks) = omega (arith, lt) in le), h.4, h.5)
    | inr none ↦ inr (λ h. behind no_ none h.0 h.1 h.2 h.3 h.4 h.5)
  ]
]
  where
    behind : ((r : Drive) → CoversIn roots k r x → ⊥) → (IsCovered roots ks (length ks) x → ⊥) → (j l : ℕ) (r : Drive) → j < suc (length ks) → slice_get (k ∷ ks) j ≡ Some l → CoversIn roots l r x → ⊥
    behind no_ none zero l r lt at cov = let e : k ≡ l = cc at in no_ r (subst (λ (n : ℕ). CoversIn roots n r x) (sym e) cov)
    behind no_ none (suc j) l r lt at cov = none (j, l, r, (let h : j < length ks = omega (arith, lt) in h), at, cov)

-- ---- blank bits

pub seeded_blank : (roots : List Drive) (inputs : List BitValue) (store : Store) (t : ℕ) (vs ws : List BitValue) → IsSeeded roots (kept_of inputs store) t vs ws → IsBlank roots vs → IsBlank roots ws
seeded_blank roots inputs store t vs ws s blank x none = s.bare x (λ i r cov. absurd (none i r cov)) ∙ blank x none

pub spread_blank : (roots : List Drive) (places : List ℕ) (t number : ℕ) (vs ws : List BitValue) → IsSpread roots places t number vs ws → IsBlank roots vs → IsBlank roots ws
spread_blank roots places t number vs ws s blank x none = s.kept x (λ h. none h.1 h.2 h.5) ∙ blank x none

-- ---- kept values

module _ (c : Circuit) (inputs : List BitValue) (rows : List RowValues) (store : Store) (state : State) (digits : Digits) (nodes : List Node) (belongs : IsStoreOf c store) (holds : Holds c rows store state) where
  kept_read : (m n at i : ℕ) (v : BitValue) (x : Mem) (p : ReadPort) → slice_get c.mems m ≡ Some x → slice_get x.reads n ≡ Some p → p.clocked ≡ true
      → kept_value (kept_of inputs store) (by.Read m n at) ≡ Some v → bit_at v.number (at + i) ≡ read_digit digits (slice_get c.mems m) (slice_get state.mems m) n (at + i)
  kept_read m n at i v x p a b on e =
      let outs = outs_at c store m x belongs a in
      let lt : m < length state.mems = (let l : m < length c.mems = within c.mems m x a in omega (arith, l, holds.mems)) in
      let kept = found state.mems m lt in
      let port : slice_get outs.0 n ≡ Some v = sym (ap (option_and_then (λ os. slice_get os n)) outs.1) ∙ e in
      let number : slice_index kept.0.reads n ≡ v.number = holds.reads_are m n x p kept.0 outs.0 a b on kept.1 outs.1 ∙ number_in outs.0 n v port in
      ap (λ (k : ℕ). bit_at k (at + i)) (sym number)
      ∙ ap (λ (k : ℕ). bit_at k (at + i)) (sym (cond-true p.clocked (slice_index kept.0.reads n) (addressed_row x kept.0.rows (sig_number digits p.addr)) on))
      ∙ sym (ap (λ o. read_digit digits o (slice_get state.mems m) n (at + i)) a ∙ ap (λ o. read_digit digits (Some x) o n (at + i)) kept.1 ∙ ap (λ o. port_digit digits x kept.0 n o (at + i)) b)

  clocked_read : (m n at i : ℕ) (v : BitValue) (o : Option Mem) (end : ℕ) → slice_get c.mems m ≡ o → port_holds n end o ≡ true → IsThereBy c nodes 0 (by.Read m n at)
      → kept_value (kept_of inputs store) (by.Read m n at) ≡ Some v → bit_at v.number (at + i) ≡ read_digit digits (slice_get c.mems m) (slice_get state.mems m) n (at + i)
  clocked_read m n at i v None end a h there e = cc h
  clocked_read m n at i v (Some x) end a h there e =
      let p = found x.reads n (ltb-true n (length x.reads) (and_parts (nat_lt n (length x.reads)) (nat_le end x.width) h).0) in
      elim (cases_Bool p.0.clocked) [
        | inl on ↦ kept_read m n at i v x p.0 a p.1 on e
        | inr off ↦ (let t = there (x, p.0, a, p.1, off) in let lt : t.0 < 0 = t.1 in absurd (omega (arith, lt)))
      ]

  -- before the first node what is there is kept, and gives its digit
  there_kept : (b : By) → IsThereBy c nodes 0 b → is_kept b ≡ true
  there_kept (by.Const v) t = refl
  there_kept (by.Input n at) t = refl
  there_kept (by.Wire n at) t = absurd t
  there_kept (by.Cell n at) t = let lt : t.0 < 0 = t.1 in absurd (omega (arith, lt))
  there_kept (by.Reg n at) t = refl
  there_kept (by.Read m n at) t = refl

  given_kept : (width i : ℕ) (v : BitValue) (b : By) → driver_fits (drivers_of c) width b ≡ true → IsThereBy c nodes 0 b → kept_value (kept_of inputs store) b ≡ Some v → bit_at v.number (offset_of b + i) ≡ given c state (numbers inputs) digits b i
  given_kept width i v (by.Const u) fits t e =
      let f : u ≡ v = cc e in
      let j : 0 + i ≡ i = omega arith in
      ap (bit_at v.number) j ∙ ap (λ (k : BitValue). bit_at k.number i) (sym f)
  given_kept width i v (by.Input n at) fits t e = ap (λ (k : ℕ). bit_at k (at + i)) (sym (number_in inputs n v e))
  given_kept width i v (by.Wire n at) fits t e = absurd t
  given_kept width i v (by.Cell n at) fits t e = cc e
  given_kept width i v (by.Reg n at) fits t e = ap (λ (k : ℕ). bit_at k (at + i)) (sym (ap (λ ns. slice_index ns n) holds.regs ∙ number_in store.regs n v e))
  given_kept width i v (by.Read m n at) fits t e = clocked_read m n at i v (slice_get c.mems m) (at + width) refl fits t e

  pub seeded_right : (roots : List Drive) (vs ws : List BitValue) → AreRoots c roots → IsValuation c state (numbers inputs) digits → ((i : ℕ) (r : Drive) → slice_get roots i ≡ Some r → HasKept (kept_of inputs store) r)
      → IsBlank roots vs → IsSeeded roots (kept_of inputs store) (length roots) vs ws → AreRight c nodes roots 0 digits ws
  seeded_right roots vs ws are valued has blank s x there = elim (covering roots x) [
    | inl h ↦
        (let i : ℕ = h.0 in
        let r : Drive = h.1 in
        let cov : CoversIn roots i r x = h.2 in
        let t : IsThereBy c nodes 0 r.by = there i r cov in
        let is : is_kept r.by ≡ true = there_kept r.by t in
        let v = has i r cov.0 is in
        s.taken i r x v.0 (within roots i r cov.0) cov is v.1
        ∙ given_kept r.width (x.1 - r.at) v.0 r.by (root_fits c roots are i r cov.0) t v.1
        ∙ sym (root_right c state (numbers inputs) digits roots are valued i r x cov))
    | inr none ↦ s.bare x (λ i r cov. absurd (none i r cov)) ∙ blank x none ∙ sym (undriven_right c state (numbers inputs) digits roots are valued x none)
  ]

-- ---- a node

-- the roots that take from a node are listed
pub node_listed : (c : Circuit) (roots : List Drive) (sources : Sources) (n : Node) → AreSources c roots sources → IsNode c n → Lists (RootBy roots (TakesPart n)) (node_row sources n)
node_listed c roots sources (node.Cell n) from is = from.cells n is
node_listed c roots sources (node.Read m n) from is = from.reads m n is.0 is.2 (within is.0.reads n is.1 is.3)

-- what another node gives was there before
there_less : (c : Circuit) (nodes : List Node) (k : ℕ) (n : Node) (b : By) → slice_get nodes k ≡ Some n → (TakesPart n b → ⊥) → IsThereBy c nodes (k + 1) b → IsThereBy c nodes k b
there_less c nodes k n (by.Const v) at other t = t
there_less c nodes k n (by.Input m i) at other t = t
there_less c nodes k n (by.Wire m i) at other t = t
there_less c nodes k n (by.Cell m i) at other t = elim (cases_eq t.0 k) [
  | inl e ↦
      (let f : n ≡ node.Cell m = same nodes k n (node.Cell m) at (subst (λ (l : ℕ). slice_get nodes l ≡ Some (node.Cell m)) e t.2) in
      absurd (other (subst (λ (l : Node). TakesPart l (by.Cell m i)) (sym f) (i, refl))))
  | inr ne ↦ (t.0, omega (arith, t.1, ne), t.2)
]
there_less c nodes k n (by.Reg m i) at other t = t
there_less c nodes k n (by.Read l m i) at other t = λ is.
    let a = t is in
    elim (cases_eq a.0 k) [
      | inl e ↦
          (let f : n ≡ node.Read l m = same nodes k n (node.Read l m) at (subst (λ (j : ℕ). slice_get nodes j ≡ Some (node.Read l m)) e a.2) in
          absurd (other (subst (λ (j : Node). TakesPart j (by.Read l m i)) (sym f) (i, refl))))
      | inr ne ↦ (a.0, omega (arith, a.1, ne), a.2)
    ]

module _ (c : Circuit) (inputs : List BitValue) (rows : List RowValues) (store : Store) (state : State) (digits : Digits) (nodes : List Node) (roots : List Drive) (sources : Sources)
    (order : IsOrdered c nodes) (are : AreRoots c roots) (from : AreSources c roots sources) (all : AreAllRows c rows) (holds : Holds c rows store state)
    (valued : IsValuation c state (numbers inputs) digits) (k : ℕ) (vs : List BitValue) (right : AreRight c nodes roots k digits vs) where
  read_right : (n : Node) → slice_get nodes k ≡ Some n → IsNode c n → (b : By) → TakesPart n b → (i : ℕ) → bit_at (computed c rows (digits_in vs) n) (offset_of b + i) ≡ given c state (numbers inputs) digits b i
  read_right (node.Cell n) at is b takes i =
      let x = found c.cells n is in
      let reads : (net bit : ℕ) → ReadsBit x.0 net bit → digits_in vs net bit ≡ digits net bit =
      λ net bit h. final_right c nodes roots k digits vs are right net bit (order.ready k net bit (node.Cell n) at (subst (λ o. CellReads o net bit) (sym x.1) h)) in
      let value : output (digits_in vs) x.0 ≡ output digits x.0 = cell_same x.0 (digits_in vs) digits reads in
      let o : offset_of b ≡ takes.0 = ap offset_of takes.1 in
      ap (λ (j : ℕ). bit_at (cell_number (digits_in vs) (slice_get c.cells n)) (j + i)) o
      ∙ ap (λ p. bit_at (cell_number (digits_in vs) p) (takes.0 + i)) x.1
      ∙ ap (λ (j : ℕ). bit_at j (takes.0 + i)) value
      ∙ sym (ap (λ p. cell_digit digits p (takes.0 + i)) x.1)
      ∙ ap (λ (d : By). given c state (numbers inputs) digits d i) (sym takes.1)
  read_right (node.Read m n) at is b takes i =
      let x : Mem = is.0 in
      let p : ReadPort = is.1 in
      let mlt : m < length c.mems = within c.mems m x is.2 in
      let r = found rows m (omega (arith, mlt, all.long)) in
      let kept = found state.mems m (omega (arith, mlt, holds.mems)) in
      let reads : (net bit : ℕ) → Reads p.addr net bit → digits_in vs net bit ≡ digits net bit =
      λ net bit h. final_right c nodes roots k digits vs are right net bit
      (order.ready k net bit (node.Read m n) at (subst (λ o. MemReads o n net bit) (sym is.2) (subst (λ o. PortReads o net bit) (sym is.3) (is.4, h)))) in
      let address : sig_number (digits_in vs) p.addr ≡ sig_number digits p.addr = sig_same p.addr (digits_in vs) digits reads in
      let o : offset_of b ≡ takes.0 = ap offset_of takes.1 in
      let j : ℕ = takes.0 + i in
      ap (λ (l : ℕ). bit_at (computed c rows (digits_in vs) (node.Read m n)) (l + i)) o
      ∙ ap (λ (l : ℕ). bit_at l j) (read_at (digits_in vs) c.mems rows m n x r.0 p is.2 r.1 is.3)
      ∙ ap (λ (l : ℕ). bit_at (addressed_row x r.0.rows l) j) address
      ∙ ap (λ ns. bit_at (addressed_row x ns (sig_number digits p.addr)) j) (sym (holds.rows_are m kept.0 r.0 kept.1 r.1))
      ∙ ap (λ (l : ℕ). bit_at l j) (sym (cond-false p.clocked (slice_index kept.0.reads n) (addressed_row x kept.0.rows (sig_number digits p.addr)) is.4))
      ∙ sym (ap (λ q. read_digit digits q (slice_get state.mems m) n j) is.2 ∙ ap (λ q. read_digit digits (Some x) q n j) kept.1 ∙ ap (λ q. port_digit digits x kept.0 n q j) is.3)
      ∙ ap (λ (d : By). given c state (numbers inputs) digits d i) (sym takes.1)

  pub node_right : (n : Node) (ws : List BitValue) → slice_get nodes k ≡ Some n
      → IsSpread roots (node_row sources n) (length (node_row sources n)) (computed c rows (digits_in vs) n) vs ws → AreRight c nodes roots (k + 1) digits ws
  node_right n ws at s x there =
      let is : IsNode c n = order.there k n at in
      let row : List ℕ = node_row sources n in
      let lists = node_listed c roots sources n from is in
      elim (listed_covering roots row x) [
        | inl h ↦
            (let root = lists.right h.0 h.1 h.4 in
            let e : root.0 ≡ h.2 = same roots h.1 root.0 h.2 root.1 h.5.0 in
            let takes : TakesPart n h.2.by = subst (λ (d : Drive). TakesPart n d.by) e root.2 in
            s.taken h.0 h.1 h.2 x h.3 h.4 h.5
            ∙ read_right n at is h.2.by takes (x.1 - h.2.at)
            ∙ sym (root_right c state (numbers inputs) digits roots are valued h.1 h.2 x h.5))
        | inr none ↦
            (s.kept x none
            ∙ right x (λ i r cov. there_less c nodes k n r.by at
            (λ takes. let j = lists.every i (r, cov.0, takes) in none (j.0, i, r, within row j.0 i j.1, j.1, cov))
            (there i r cov)))
      ]
