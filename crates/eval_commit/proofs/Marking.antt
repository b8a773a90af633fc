-- The nets become right mark by mark.
use Rattle.std.proofs.Common.{◌≡◌, ◌≢◌, ℕ, zero, suc, ◌+◌, ◌-◌, ◌<◌, ◌≤◌, List, length, map, take, get_or, sym, ◌∙◌, ap, subst, arith, inl, inr, false, Some}
use Rattle.std.specs.Prelude.{slice_get, sum_by}
use Rattle.std.specs.Int.{bit_at}
use Rattle.std.proofs.lemmas.Bool.{cases_eq}
use Rattle.std.proofs.lemmas.List.Sums.{sum_by_more}
use Rattle.std.proofs.Math.Seq.{take-length}
use Rattle.std.proofs.lemmas.Nat.Bits.{bit_at-zero}
use Rattle.std.proofs.lemmas.Option.{get_or_from_slice_get}
use Rattle.sim_base.specs.BitValue.{BitValue, digit_of}
use Rattle.circuit.specs.Signal.{Digits}
use Rattle.circuit.specs.State.{State}
use Rattle.circuit.specs.Valuation.{IsValuation, digit_at, valuation}
use Rattle.circuit.specs.declared.cell.Cell.{Cell}
use Rattle.circuit.specs.declared.netlist.Circuit.{Circuit}
use Rattle.circuit.specs.declared.store.Store.{Store}
use Rattle.cell_changes.specs.Changes.{changed_cells, has_changed}
use Rattle.cell_changes.proofs.Same.{stays}
use Rattle.dirty_set.specs.Marks.{IsLeastTaken, IsMarked}
use Rattle.driver_check.specs.Depends.{CellReads}
use Rattle.driver_check.specs.Nodes.{NodeReads}
use Rattle.driver_check.specs.declared.parts.Node.{Node}
use Rattle.driver_check.specs.declared.parts.Node.TheVariants as node
use Rattle.driver_check.proofs.Places.{found, within}
use Rattle.eval_plan.specs.Ordered.{IsOrdered}
use Rattle.eval_plan.specs.Readers.{AreReaders, DoReadersFollow}
use Rattle.eval_plan.specs.Roots.{AreRoots}
use Rattle.eval_plan.specs.Sources.{AreSources, cell_row}
use Rattle.eval_plan.specs.declared.plan.Plan.{Plan}
use Rattle.memory_cells.specs.Rows.{RowValues}
use Rattle.sim_base.specs.Values.{numbers, widths}
use Rattle.signal_words.specs.Values.{digits_in}
use Rattle.eval_commit.specs.Computed.{AreAllRows, cell_changes, cell_number, computed, node_changes, node_row}
use Rattle.eval_commit.specs.Evaluation.{Holds, IsBlank}
use Rattle.eval_commit.specs.Marked.{AreMarkedToo, AreReadPlaces, AreTold, ReadListed}
use Rattle.eval_commit.specs.Shown.{Shows, ShowsCells}
use Rattle.eval_commit.specs.Spread.{IsSpread}
use Rattle.eval_commit.proofs.Meaning.{AreRight, all_right, covering}
use Rattle.eval_commit.proofs.Rounding.{node_listed, node_right}
use Rattle.eval_commit.proofs.Telling.{marked_before, others_marked}
use Rattle.eval_commit.proofs.Updating.{ShowsRest, changes_are, node_changes_right, shown_more, shows_cells, some_cell_same, stays_spread}
use Rattle.eval_commit.proofs.Valued.{valued}

-- what the nodes before the k-th give is right; no other has changed what it gives, and what one reads has not changed where it is
-- not marked, which read ports are
pub record IsUpTo (c : Circuit) (plan : Plan) (rows : List RowValues) (inputs : List BitValue) (first : Store) (before : List BitValue) (start k : ℕ) (nets : List BitValue) (marks : BitValue) (steps : ℕ) : Type 0 where
  pub right : (state : State) (digits : Digits) → Holds c rows first state → IsValuation c state (numbers inputs) digits → AreRight c plan.nodes plan.roots k digits nets
  pub rest : ShowsRest c plan.nodes plan k (digits_in before) nets
  pub unread : (p : ℕ) (n : Node) → slice_get plan.nodes p ≡ Some n → k ≤ p → (IsMarked marks p → ⊥) → (net bit : ℕ) → NodeReads c n net bit → digits_in before net bit ≡ digits_in nets net bit
  pub ports : (p l m : ℕ) → slice_get plan.nodes p ≡ Some (node.Read l m) → k ≤ p → IsMarked marks p
  pub ahead : (p : ℕ) → IsMarked marks p → k ≤ p
  pub counted : (state : State) (digits : Digits) → Holds c rows first state → IsValuation c state (numbers inputs) digits → steps ≡ start + sum_by (node_changes c (digits_in before) digits) (take k plan.nodes)

module _ (c : Circuit) (plan : Plan) (rows : List RowValues) (inputs : List BitValue) (first : Store) (before : List BitValue) (start : ℕ)
    (order : IsOrdered c plan.nodes) (are : AreRoots c plan.roots) (from : AreSources c plan.roots plan.sources) (all : AreAllRows c rows) where
  -- a cell of which no bit that it reads has changed gives what it gave
  same_cell : (i : ℕ) (nets : List BitValue) → ((net bit : ℕ) → NodeReads c (node.Cell i) net bit → digits_in before net bit ≡ digits_in nets net bit)
      → cell_number (digits_in before) (slice_get c.cells i) ≡ cell_number (digits_in nets) (slice_get c.cells i)
  same_cell i nets h = some_cell_same (slice_get c.cells i) (digits_in before) (digits_in nets) h

  no_change : (i : ℕ) (x : Cell) (nets : List BitValue) → slice_get c.cells i ≡ Some x → ((net bit : ℕ) → NodeReads c (node.Cell i) net bit → digits_in before net bit ≡ digits_in nets net bit)
      → node_changes c (digits_in before) (digits_in nets) (node.Cell i) ≡ 0
  no_change i x nets at h =
      let off : has_changed (digits_in before) (digits_in nets) x ≡ false = stays x (digits_in before) (digits_in nets) (λ net bit r. h net bit (subst (λ o. CellReads o net bit) (sym at) r)) in
      ap (cell_changes (digits_in before) (digits_in nets)) at ∙ ap digit_of off

  -- one node less or more of a sum
  one_more : (f : Node → ℕ) (k old new : ℕ) (n : Node) → slice_get plan.nodes k ≡ Some n → new ≡ old + f n → old ≡ start + sum_by f (take k plan.nodes) → new ≡ start + sum_by f (take (k + 1) plan.nodes)
  one_more f k old new n at e was =
      let more : sum_by f (take (k + 1) plan.nodes) ≡ sum_by f (take k plan.nodes) + f (get_or plan.nodes k n) = sum_by_more f plan.nodes k n (within plan.nodes k n at) in
      let here : f (get_or plan.nodes k n) ≡ f n = ap f (get_or_from_slice_get plan.nodes k n n at) in
      omega (arith, more, here, e, was)

  -- a node that is not marked is passed
  skip_cell : (k i : ℕ) (nets : List BitValue) (marks : BitValue) (steps : ℕ) → slice_get plan.nodes k ≡ Some (node.Cell i) → (IsMarked marks k → ⊥)
      → IsUpTo c plan rows inputs first before start k nets marks steps → IsUpTo c plan rows inputs first before start (k + 1) nets marks steps
  skip_cell k i nets marks steps at not_ up =
      let lt : i < length c.cells = order.there k (node.Cell i) at in
      let x = found c.cells i lt in
      let le : k ≤ k = omega arith in
      let reads = up.unread k (node.Cell i) at le not_ in
      let shown = up.rest i lt (λ among. let e : among.0 ≡ k = order.single among.0 k (node.Cell i) among.2 at in omega (arith, e, among.1)) in
      let spread = stays_spread plan.roots (node_row plan.sources (node.Cell i)) (cell_number (digits_in before) (slice_get c.cells i)) (computed c rows (digits_in nets) (node.Cell i)) nets shown (same_cell i nets reads) in
      record {
        right = λ state digits holds valued. node_right c inputs rows first state digits plan.nodes plan.roots plan.sources order are from all holds valued k nets (up.right state digits holds valued) (node.Cell i) nets at spread;
        rest = shown_more c plan.nodes plan k (computed c rows (digits_in nets) (node.Cell i)) (node.Cell i) (digits_in before) nets nets order are from at spread up.rest;
        unread = λ p n here le free. up.unread p n here (omega (arith, le)) free;
        ports = λ p l m here le. up.ports p l m here (omega (arith, le));
        ahead = λ p marked. elim (cases_eq p k) [
          | inl e ↦ absurd (not_ (subst (λ (q : ℕ). IsMarked marks q) e marked))
          | inr ne ↦ (let h : k ≤ p = up.ahead p marked in omega (arith, h, ne))
        ];
        counted = λ state digits holds valued.
            let still = node_changes_right c plan.nodes plan.roots k (node.Cell i) (digits_in before) digits nets order are (up.right state digits holds valued) at in
            let none : node_changes c (digits_in before) digits (node.Cell i) ≡ 0 = sym still ∙ no_change i x.0 nets x.1 reads in
            one_more (node_changes c (digits_in before) digits) k steps steps (node.Cell i) at (omega (arith, none)) (up.counted state digits holds valued);
      }

  skip : (k : ℕ) (n : Node) (nets : List BitValue) (marks : BitValue) (steps : ℕ) → slice_get plan.nodes k ≡ Some n → (IsMarked marks k → ⊥)
      → IsUpTo c plan rows inputs first before start k nets marks steps → IsUpTo c plan rows inputs first before start (k + 1) nets marks steps
  skip k (node.Cell i) nets marks steps at not_ up = skip_cell k i nets marks steps at not_ up
  skip k (node.Read l m) nets marks steps at not_ up = absurd (not_ (up.ports k l m at (let le : k ≤ k = omega arith in le)))

  pub skip_to : (d k : ℕ) (nets : List BitValue) (marks : BitValue) (steps : ℕ) → k + d ≤ length plan.nodes → ((p : ℕ) → p < k + d → IsMarked marks p → ⊥)
      → IsUpTo c plan rows inputs first before start k nets marks steps → IsUpTo c plan rows inputs first before start (k + d) nets marks steps
  skip_to zero k nets marks steps le free up = let e : k ≡ k + 0 = omega arith in subst (λ (p : ℕ). IsUpTo c plan rows inputs first before start p nets marks steps) e up
  skip_to (suc d) k nets marks steps le free up =
      let e : k + 1 + d ≡ k + suc d = omega arith in
      let n = found plan.nodes k (omega (arith, le)) in
      subst (λ (p : ℕ). IsUpTo c plan rows inputs first before start p nets marks steps) e
      (skip_to d (k + 1) nets marks steps (omega (arith, le)) (λ p lt. free p (omega (arith, lt)))
      (skip k n.0 nets marks steps n.1 (free k (omega arith)) up))

  -- none is marked
  pub all_passed : (k : ℕ) (nets : List BitValue) (marks : BitValue) (steps : ℕ) → k ≤ length plan.nodes → marks.number ≡ 0
      → IsUpTo c plan rows inputs first before start k nets marks steps → IsUpTo c plan rows inputs first before start (length plan.nodes) nets marks steps
  all_passed k nets marks steps le none up =
      let e : k + (length plan.nodes - k) ≡ length plan.nodes = omega (arith, le) in
      subst (λ (p : ℕ). IsUpTo c plan rows inputs first before start p nets marks steps) e
      (skip_to (length plan.nodes - k) k nets marks steps (omega (arith, le)) (λ p lt marked. absurd (let h : 0 ≡ 1 = sym (bit_at-zero p) ∙ ap (λ (m : ℕ). bit_at m p) (sym none) ∙ marked in omega (arith, h))) up)

  -- the least one that is marked comes
  pub passed_to : (k i : ℕ) (nets : List BitValue) (marks after : BitValue) (steps : ℕ) → i < length plan.nodes → IsLeastTaken i marks after
      → IsUpTo c plan rows inputs first before start k nets marks steps → IsUpTo c plan rows inputs first before start i nets marks steps
  passed_to k i nets marks after steps lt taken up =
      let le : k ≤ i = up.ahead i taken.marked in
      let e : k + (i - k) ≡ i = omega (arith, le) in
      subst (λ (p : ℕ). IsUpTo c plan rows inputs first before start p nets marks steps) e
      (skip_to (i - k) k nets marks steps (omega (arith, le, lt)) (λ p less marked. let h : i ≤ p = taken.least p marked in omega (arith, h, less, e)) up)

  pub shown_at : (i n : ℕ) (nets : List BitValue) (marks : BitValue) (steps : ℕ) → slice_get plan.nodes i ≡ Some (node.Cell n) → IsUpTo c plan rows inputs first before start i nets marks steps
      → Shows plan.roots (cell_row plan.sources n) (cell_number (digits_in before) (slice_get c.cells n)) nets
  shown_at i n nets marks steps at up =
      up.rest n (order.there i (node.Cell n) at) (λ among. let e : among.0 ≡ i = order.single among.0 i (node.Cell n) among.2 at in omega (arith, e, among.1))

  -- and is brought up
  module _ (readers : AreReaders c plan.nodes plan.roots plan.readers) (follow : DoReadersFollow plan.nodes plan.roots plan.readers)
      (i : ℕ) (n : Node) (vs ws : List BitValue) (marks after now : BitValue) (was steps : ℕ) (at : slice_get plan.nodes i ≡ Some n) (taken : IsLeastTaken i marks after)
      (blank : IsBlank plan.roots vs) (still : IsBlank plan.roots ws) (told : AreTold plan.roots plan.readers vs ws after now) (listed : ReadListed plan.readers (node_row plan.sources n) after now)
      (spread : IsSpread plan.roots (node_row plan.sources n) (length (node_row plan.sources n)) (computed c rows (digits_in vs) n) vs ws) where
    behind : (p : ℕ) → IsMarked now p → i + 1 ≤ p
    behind p marked = elim (listed p marked) [
      | inl stays_ ↦
          (let h = marked_before i p marks after taken stays_ in
          let le : i ≤ p = taken.least p h.1 in omega (arith, le, h.0))
      | inr h ↦
          (let root = (node_listed c plan.roots plan.sources n from (order.there i n at)).right h.0 h.1 h.3 in
          let lt : i < p = follow i h.1 h.2 p n root.0 at root.1 root.2 h.4 in omega (arith, lt))
    ]

    kept : (p : ℕ) → i + 1 ≤ p → IsMarked marks p → IsMarked now p
    kept p le marked = told.kept p (others_marked i p marks after taken (let ne : p ≢ i = λ e. omega (arith, le, e) in ne) marked)

    unchanged : (p : ℕ) (m : Node) → slice_get plan.nodes p ≡ Some m → (IsMarked now p → ⊥) → (net bit : ℕ) → NodeReads c m net bit → digits_in vs net bit ≡ digits_in ws net bit
    unchanged p m here free net bit reads = elim (told.bits (net, bit)) [
      | inl stays_ ↦ sym stays_
      | inr marked ↦ elim (covering plan.roots (net, bit)) [
        | inl h ↦
            (let place = (readers h.0).every p (record { node = m; drive = h.1; bit = (net, bit); at = here; reads = reads; covered = h.2 }) in
            absurd (free (marked h.0 place.0 p h.1 h.2 place.1)))
        | inr none ↦ blank (net, bit) none ∙ sym (still (net, bit) none)
      ]
    ]

    pub brought_up : ((state : State) (digits : Digits) → Holds c rows first state → IsValuation c state (numbers inputs) digits → steps ≡ was + node_changes c (digits_in before) digits n)
        → IsUpTo c plan rows inputs first before start i vs marks was → IsUpTo c plan rows inputs first before start (i + 1) ws now steps
    brought_up took up = record {
      right = λ state digits holds valued. node_right c inputs rows first state digits plan.nodes plan.roots plan.sources order are from all holds valued i vs (up.right state digits holds valued) n ws at spread;
      rest = shown_more c plan.nodes plan i (computed c rows (digits_in vs) n) n (digits_in before) vs ws order are from at spread up.rest;
      unread = λ p m here le free net bit reads.
          up.unread p m here (omega (arith, le)) (λ marked. free (kept p le marked)) net bit reads ∙ unchanged p m here free net bit reads;
      ports = λ p l m here le. kept p le (up.ports p l m here (omega (arith, le)));
      ahead = behind;
      counted = λ state digits holds valued. one_more (node_changes c (digits_in before) digits) i was steps n at (took state digits holds valued) (up.counted state digits holds valued);
    }

  -- behind the last node
  module _ (valuations : (state : State) (ins : List ℕ) → IsValuation c state ins (digit_at c state ins)) (nets : List BitValue) (marks : BitValue) (steps : ℕ) (up : IsUpTo c plan rows inputs first before start (length plan.nodes) nets marks steps) where
    pub end_digits : (state : State) → Holds c rows first state → (net bit : ℕ) → digits_in nets net bit ≡ digit_at c state (numbers inputs) net bit
    end_digits state holds = all_right c plan.nodes plan.roots (digit_at c state (numbers inputs)) nets order are (up.right state (digit_at c state (numbers inputs)) holds (valuations state (numbers inputs)))

    pub end_nets : widths nets ≡ map (λ x. x.width) c.nets → (state : State) → Holds c rows first state → numbers nets ≡ valuation c state (numbers inputs)
    end_nets wide state holds = valued c state (numbers inputs) plan.roots nets are (valuations state (numbers inputs)) wide (end_digits state holds)

    pub end_shown : (state : State) → Holds c rows first state → ShowsCells c plan nets
    end_shown state holds = shows_cells c plan state (numbers inputs) (digit_at c state (numbers inputs)) nets are from (valuations state (numbers inputs)) (end_digits state holds)

    pub end_steps : (state : State) → Holds c rows first state → steps ≡ start + changed_cells c.cells (record { before = numbers before; now = numbers nets })
    end_steps state holds =
        let digits = digit_at c state (numbers inputs) in
        let change = node_changes c (digits_in before) digits in
        up.counted state digits holds (valuations state (numbers inputs))
        ∙ ap (λ n. start + n) (ap (λ ns. sum_by change ns) (take-length plan.nodes) ∙ changes_are c plan.nodes (record { before = numbers before; now = numbers nets }) digits order (end_digits state holds))

-- before the first node, where bits that have changed are told
pub starts_up : (c : Circuit) (plan : Plan) (rows : List RowValues) (inputs : List BitValue) (first : Store) (before : List BitValue) (start : ℕ) (ws : List BitValue) (old marks all : BitValue) (reads : List ℕ)
    → AreReaders c plan.nodes plan.roots plan.readers → AreReadPlaces plan.nodes reads → IsBlank plan.roots before → IsBlank plan.roots ws
    → ((state : State) (digits : Digits) → Holds c rows first state → IsValuation c state (numbers inputs) digits → AreRight c plan.nodes plan.roots 0 digits ws)
    → ShowsRest c plan.nodes plan 0 (digits_in before) ws → AreTold plan.roots plan.readers before ws old marks → AreMarkedToo reads (length reads) marks all
    → IsUpTo c plan rows inputs first before start 0 ws all start
starts_up c plan rows inputs first before start ws old marks all reads readers places blank still right rest told more = record {
  right = right;
  rest = rest;
  unread = λ p m here le free net bit read. elim (told.bits (net, bit)) [
    | inl stays_ ↦ sym stays_
    | inr marked ↦ elim (covering plan.roots (net, bit)) [
      | inl h ↦
          (let place = (readers h.0).every p (record { node = m; drive = h.1; bit = (net, bit); at = here; reads = read; covered = h.2 }) in
          absurd (free (more.kept p (marked h.0 place.0 p h.1 h.2 place.1))))
      | inr none ↦ blank (net, bit) none ∙ sym (still (net, bit) none)
    ]
  ];
  ports = λ p l m here le.
      let j = places.every p l m (within plan.nodes p (node.Read l m) here) here in
      more.listed j.0 p (within reads j.0 p j.1) j.1;
  ahead = λ p marked. omega arith;
  counted = λ state digits holds valued. omega arith;
}
