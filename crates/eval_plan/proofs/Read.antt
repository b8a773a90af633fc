-- The readers of the roots.
use Rattle.std.proofs.Common.{◌≡◌, ℕ, ◌+◌, ◌-◌, ◌^◌, ◌<◌, ◌≤◌, List, [], length, sym, ◌∙◌, ap, subst, arith, inl, inr, true, Some}
use Rattle.std.specs.Prelude.{slice_get, slice_index}
use Rattle.std.proofs.lemmas.Bool.{cases_eq}
use Rattle.circuit.specs.Valid.{is_valid}
use Rattle.circuit.specs.Valuation.{covers}
use Rattle.circuit.specs.declared.netlist.Circuit.{Circuit}
use Rattle.circuit.specs.declared.netlist.Drive.{Drive}
use Rattle.circuit.specs.declared.netlist.By.{By}
use Rattle.driver_check.specs.Depends.{Bit}
use Rattle.eval_plan.specs.TableInvariants.{AreNoted, Grows, Noted, AreHolders, AreSeen, Sees, AreEntries, entry}
use Rattle.driver_check.specs.Numbers.{IsBit, bit_count, bit_number}
use Rattle.eval_plan.specs.Ordered.{CellBit, IsAmong, IsOrdered, IsThere, ReadBit, SourceBit}
use Rattle.driver_check.specs.Nodes.{IsNode}
use Rattle.eval_plan.specs.Readers.{AreReaders, DoReadersFollow, IsReader}
use Rattle.eval_plan.specs.Roots.{AreRoots, root_source}
use Rattle.driver_check.specs.Search.{Needs}
use Rattle.eval_plan.specs.Sources.{TakesPart}
use Rattle.driver_check.specs.Vertices.{node_spans}
use Rattle.eval_plan.specs.declared.entries.Entry.{Entry}
use Rattle.driver_check.specs.declared.parts.Node.{Node}
use Rattle.driver_check.specs.declared.parts.Node.TheVariants as node
use Rattle.eval_plan.specs.declared.table.Table.{Table}
use Rattle.driver_check.proofs.Places.{same, within}
use Rattle.driver_check.proofs.Linked.{needs_node, node_bits, node_needs}
use Rattle.driver_check.proofs.Numbered.{bit_below}
use Rattle.eval_plan.proofs.Noting.{notes_below}
use Rattle.eval_plan.proofs.Held.{covers_held, held_covers}

-- what a node needs are bits
pub needs_below : (c : Circuit) → is_valid c ≡ true → (n : Node) (w : ℕ) → Needs (node_spans c n) w → w < bit_count c.nets
needs_below c valid n w h =
    let r = node_needs c n w h in
    let l = bit_below c.nets (r.0, r.1) (node_bits c valid n r.0 r.1 r.2) in
    omega (arith, l, r.3)

pub none_seen : (c : Circuit) (nodes : List Node) (holders : List ℕ) (es : List Entry) (lasts : List ℕ) → es ≡ [] → AreNoted es lasts 0 → AreSeen c nodes holders 0 es lasts
none_seen c nodes holders es lasts none noted = record {
  noted = noted;
  right = λ r p h. absurd (let z = within es h.0 (entry r p) h.1 in let l = ap length none in omega (arith, z, l));
  every = λ r p lt h. absurd (omega (arith, lt));
}

pub one_seen : (c : Circuit) (nodes : List Node) (holders : List ℕ) (t : ℕ) (es : List Entry) (lasts : List ℕ) → AreSeen c nodes holders t es lasts → (n : Node) → slice_get nodes t ≡ Some n
    → (fs : List Entry) (afters : List ℕ) → AreNoted fs afters t → Grows es fs (Noted (Needs (node_spans c n)) holders t) → AreSeen c nodes holders (t + 1) fs afters
one_seen c nodes holders t es lasts was n at fs afters noted grows = record {
  noted = notes_below fs afters t (t + 1) (omega arith) noted;
  right = λ r p h. elim (grows.only r p h) [
    | inl x ↦ (let s = was.right r p x in (omega (arith, s.0), s.1))
    | inr x ↦ (
      omega (arith, x.0),
      record {
        node = n;
        number = x.1.0;
        at = subst (λ (k : ℕ). slice_get nodes k ≡ Some n) (sym x.0) at;
        needs = x.1.1;
        held = x.1.2;
      },
    )
  ];
  every = λ r p lt s. elim (cases_eq p t) [
    | inl y ↦
        (let z : s.node ≡ n = same nodes t s.node n (subst (λ (k : ℕ). slice_get nodes k ≡ Some s.node) y s.at) at in
        grows.added r p (y, (s.number, subst (λ (m : Node). Needs (node_spans c m) s.number) z s.needs, s.held)))
    | inr ne ↦ grows.kept r p (was.every r p (omega (arith, lt, ne)) s)
  ];
}

module _ (c : Circuit) (valid : is_valid c ≡ true) (nodes : List Node) (roots : List Drive) (are : AreRoots c roots) (few : length roots < 2 ^ 32) (holders : List ℕ) (hold : AreHolders c roots (length roots) holders) where
  seen_reads : (root place : ℕ) → Sees c nodes holders root place → IsReader c nodes roots root place
  seen_reads root place s =
      let r = node_needs c s.node s.number s.needs in
      let x : Bit = (r.0, r.1) in
      let b : IsBit c.nets x = node_bits c valid s.node r.0 r.1 r.2 in
      let d = held_covers c roots holders hold x b root (ap (λ (w : ℕ). slice_index holders w) r.3 ∙ s.held.0) s.held.1 in
      record {
        node = s.node;
        drive = d.0;
        bit = x;
        at = s.at;
        reads = r.2;
        covered = d.1;
      }

  reads_seen : (root place : ℕ) → IsReader c nodes roots root place → Sees c nodes holders root place
  reads_seen root place s =
      let b : IsBit c.nets s.bit = node_bits c valid s.node s.bit.0 s.bit.1 s.reads in
      let low = within roots root s.drive s.covered.0 in
      record {
        node = s.node;
        number = bit_number c.nets s.bit;
        at = s.at;
        needs = needs_node c s.node s.bit.0 s.bit.1 s.reads;
        held = (covers_held c roots are holders hold s.bit b root s.drive s.covered, λ e. omega (arith, low, few, e));
      }

  pub all_seen : (t : ℕ) → length nodes ≤ t → (es : List Entry) (lasts : List ℕ) → AreSeen c nodes holders t es lasts → AreEntries (IsReader c nodes roots) es
  all_seen t all es lasts seen = record {
    right = λ i e at. seen_reads e.row e.value (seen.right e.row e.value (i, at)).1;
    every = λ r k h. seen.every r k (let l = within nodes k h.node h.at in omega (arith, l, all)) (reads_seen r k h);
    rise = λ i j e f a b same_row lt. seen.noted.rise f.row i j e.value f.value (subst (λ (r : ℕ). slice_get es i ≡ Some (entry r e.value)) same_row a) b lt;
  }

-- ---- readers follow

among : (c : Circuit) (nodes : List Node) (k : ℕ) (n : Node) (b : By) → TakesPart n b → (j : ℕ) (o : SourceBit) → root_source b j ≡ Some o → IsNode c n → IsThere c nodes k o → IsAmong nodes k n
among c nodes k (node.Cell m) b takes j o e is there =
    let f : Some (CellBit m (takes.0 + j)) ≡ Some o = subst (λ (x : By). root_source x j ≡ Some o) takes.1 e in
    let g : CellBit m (takes.0 + j) ≡ o = cc f in
    subst (λ (x : SourceBit). IsThere c nodes k x) (sym g) there
among c nodes k (node.Read l m) b takes j o e is there =
    let f : Some (ReadBit l m (takes.0 + j)) ≡ Some o = subst (λ (x : By). root_source x j ≡ Some o) takes.1 e in
    let g : ReadBit l m (takes.0 + j) ≡ o = cc f in
    subst (λ (x : SourceBit). IsThere c nodes k x) (sym g) there is

pub readers_follow : (c : Circuit) (nodes : List Node) → IsOrdered c nodes → (roots : List Drive) → AreRoots c roots → (t : Table) → AreReaders c nodes roots t → DoReadersFollow nodes roots t
readers_follow c nodes ordered roots are t readers i root j k n r at there takes listed =
    let s = (readers root).right j k listed in
    let z : s.drive ≡ r = same roots root s.drive r s.covered.0 there in
    let cov : covers s.bit.0 s.bit.1 r ≡ true = subst (λ (d : Drive). covers s.bit.0 s.bit.1 d ≡ true) z s.covered.1 in
    let named = (are.right root r there).names s.bit cov in
    let final = ordered.ready k s.bit.0 s.bit.1 s.node s.at s.reads named.0 named.1 named.2 in
    let a = among c nodes k n r.by takes (s.bit.1 - r.at) named.1 named.3 (ordered.there i n at) final in
    let e : i ≡ a.0 = ordered.single i a.0 n at a.2 in
    omega (arith, e, a.1)
