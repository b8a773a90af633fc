use Rattle.std.proofs.Common.{◌≡◌, ℕ, ◌≤◌, List, length, sym, ◌∙◌, ap, subst, arith}
use Rattle.circuit.specs.declared.netlist.Circuit.{Circuit}
use Rattle.driver_check.specs.Depends.{Bit}
use Rattle.driver_check.specs.Numbers.{bit_count}
use Rattle.driver_check.specs.Search.{Has, Needs, row_of}
use Rattle.driver_check.specs.Sorting.{IsSorting}
use Rattle.driver_check.specs.Vertices.{bit_span}
use Rattle.driver_check.specs.Invariants.{IsLeastStuck}
use Rattle.driver_check.specs.declared.graph.Span.{Span}
use Rattle.driver_check.specs.declared.search.Mark.{Mark}
use Rattle.driver_check.specs.declared.search.Mark.TheVariants as mark
use Rattle.driver_check.specs.declared.sorting.Sorting.{Sorting}
use Rattle.driver_check.proofs.Places.{within}
use Rattle.driver_check.proofs.Numbered.{bit_at_number}
use Rattle.driver_check.proofs.Freedom.{graph_inside}
use Rattle.driver_check.proofs.Nexts.{node_least, node_next, span_is, span_stuck, wire_next}
use Rattle.driver_check.proofs.sorting.Sorting.next.Goals as goal

pub row-requires : goal.row-requires
row-requires c =
    let circuit = c.args.circuit.now in
    let s = c.args.self.now in
    let x = bit_at_number circuit.nets c.args.number (omega (arith, c.requires.there, c.requires.sorting.numbers.total)) in
    let e = span_is circuit s c.requires.sorting c.args.number c.index.result.now c.requires.there c.index.ensures x.0 x.1 x.2 in
    let stuck = span_stuck circuit c.requires.valid s c.requires.sorting x.0 x.1 (subst (λ (v : ℕ). Has s.search.marks.items mark.Stuck v) (sym x.2) c.requires.stuck) in
    let lt = within s.search.marks.items (bit_span circuit x.0).first mark.Stuck stuck.1 in
    omega (arith, lt, c.requires.sorting.sorted.sized, ap (λ (p : Span). p.first) e)

pub least_stuck-requires : goal.least_stuck-requires
least_stuck-requires c = λ w need.
    let circuit = c.args.circuit.now in
    let s = c.args.self.now in
    let lt = graph_inside circuit c.requires.valid s.parts.nodes.items s.parts.ports.items c.requires.sorting.parts s.graph c.requires.sorting.graph c.index.result.now.first w
    (subst (λ (spans : List Span). Needs spans w) c.row.ensures need) in
    omega (arith, lt, c.requires.sorting.sorted.sized, ap (λ (xs : List Mark). length xs) c.deref.ensures.value)

pub returns-then-first-bits-clause-stuck : goal.returns-then-first-bits-clause-stuck
returns-then-first-bits-clause-stuck c =
    let circuit = c.args.circuit.now in
    let s = c.args.self.now in
    let x = bit_at_number circuit.nets c.args.number (omega (arith, c.requires.there, c.requires.sorting.numbers.total)) in
    let e = span_is circuit s c.requires.sorting c.args.number c.index.result.now c.requires.there c.index.ensures x.0 x.1 x.2 in
    let stuck = span_stuck circuit c.requires.valid s c.requires.sorting x.0 x.1 (subst (λ (v : ℕ). Has s.search.marks.items mark.Stuck v) (sym x.2) c.requires.stuck) in
    subst (λ (p : Span). Has s.search.marks.items mark.Stuck p.first) (sym e) stuck.1

pub returns-then-first-bits-clause-next : goal.returns-then-first-bits-clause-next
returns-then-first-bits-clause-next c = λ x y b d at to.
    let circuit = c.args.circuit.now in
    let s = c.args.self.now in
    let e = span_is circuit s c.requires.sorting c.args.number c.index.result.now c.requires.there c.index.ensures x b at in
    wire_next circuit c.requires.valid s c.requires.sorting x y b d (subst (λ (v : ℕ). Has s.search.marks.items mark.Stuck v) (sym at) c.requires.stuck) (to ∙ ap (λ (p : Span). p.first) e)

-- what was found in the row of the node
least_is : (c : Circuit) (s : Sorting) → IsSorting c s → (marks : List Mark) → marks ≡ s.search.marks.items → (row : List Span) (span : Span) (x : Bit) → span ≡ bit_span c x → row ≡ row_of s.graph span.first → (r : ℕ) → IsLeastStuck marks row s.numbering.bits r
    → IsLeastStuck s.search.marks.items (row_of s.graph (bit_span c x).first) (bit_count c.nets) r
least_is c s is marks m row span x e at r h =
    subst (λ (n : ℕ). IsLeastStuck s.search.marks.items (row_of s.graph (bit_span c x).first) n r) is.numbers.total
    (subst (λ (p : Span). IsLeastStuck s.search.marks.items (row_of s.graph p.first) s.numbering.bits r) e
    (subst (λ (spans : List Span). IsLeastStuck s.search.marks.items spans s.numbering.bits r) at
    (subst (λ (ms : List Mark). IsLeastStuck ms row s.numbering.bits r) m h)))

pub returns-else-first-bits-clause-below : goal.returns-else-first-bits-clause-below
returns-else-first-bits-clause-below c =
    let circuit = c.args.circuit.now in
    let s = c.args.self.now in
    let x = bit_at_number circuit.nets c.args.number (omega (arith, c.requires.there, c.requires.sorting.numbers.total)) in
    let e = span_is circuit s c.requires.sorting c.args.number c.index.result.now c.requires.there c.index.ensures x.0 x.1 x.2 in
    let stuck = subst (λ (v : ℕ). Has s.search.marks.items mark.Stuck v) (sym x.2) c.requires.stuck in
    let least = least_is circuit s c.requires.sorting c.deref.result.now c.deref.ensures.value c.row.result.now c.index.result.now x.0 e c.row.ensures c.least_stuck.result c.least_stuck.ensures in
    let high : bit_count circuit.nets ≤ (bit_span circuit x.0).first = omega (arith, c.if-first-bits.false, c.requires.sorting.numbers.total, ap (λ (p : Span). p.first) e) in
    let r = node_least circuit c.requires.valid s c.requires.sorting x.0 x.1 stuck high c.least_stuck.result least in
    omega (arith, r.0, c.requires.sorting.numbers.total)

pub returns-else-first-bits-clause-stuck : goal.returns-else-first-bits-clause-stuck
returns-else-first-bits-clause-stuck c =
    let circuit = c.args.circuit.now in
    let s = c.args.self.now in
    let x = bit_at_number circuit.nets c.args.number (omega (arith, c.requires.there, c.requires.sorting.numbers.total)) in
    let e = span_is circuit s c.requires.sorting c.args.number c.index.result.now c.requires.there c.index.ensures x.0 x.1 x.2 in
    let stuck = subst (λ (v : ℕ). Has s.search.marks.items mark.Stuck v) (sym x.2) c.requires.stuck in
    let least = least_is circuit s c.requires.sorting c.deref.result.now c.deref.ensures.value c.row.result.now c.index.result.now x.0 e c.row.ensures c.least_stuck.result c.least_stuck.ensures in
    let high : bit_count circuit.nets ≤ (bit_span circuit x.0).first = omega (arith, c.if-first-bits.false, c.requires.sorting.numbers.total, ap (λ (p : Span). p.first) e) in
    (node_least circuit c.requires.valid s c.requires.sorting x.0 x.1 stuck high c.least_stuck.result least).2

pub returns-else-first-bits-clause-next : goal.returns-else-first-bits-clause-next
returns-else-first-bits-clause-next c = λ x y b d at to.
    let circuit = c.args.circuit.now in
    let s = c.args.self.now in
    let e = span_is circuit s c.requires.sorting c.args.number c.index.result.now c.requires.there c.index.ensures x b at in
    let stuck = subst (λ (v : ℕ). Has s.search.marks.items mark.Stuck v) (sym at) c.requires.stuck in
    let least = least_is circuit s c.requires.sorting c.deref.result.now c.deref.ensures.value c.row.result.now c.index.result.now x e c.row.ensures c.least_stuck.result c.least_stuck.ensures in
    let high : bit_count circuit.nets ≤ (bit_span circuit x).first = omega (arith, c.if-first-bits.false, c.requires.sorting.numbers.total, ap (λ (p : Span). p.first) e) in
    node_next circuit c.requires.valid s c.requires.sorting x b stuck high c.least_stuck.result least y d to
