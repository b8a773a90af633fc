use Rattle.std.proofs.Common.{ℕ, List, length, sym, ◌∙◌, ap, subst, arith}
use Rattle.eval_plan.specs.TableInvariants.{AreHeld, AreInRows, values_in}
use Rattle.eval_plan.specs.Readers.{IsReader}
use Rattle.eval_plan.specs.declared.entries.Entry.{Entry}
use Rattle.eval_plan.proofs.Held.{holders_held}
use Rattle.eval_plan.proofs.Listed.{table_listed}
use Rattle.eval_plan.proofs.Read.{all_seen}
use Rattle.eval_plan.proofs.readers.readers_of.Goals as goal

pub note_node-requires-clause-held : goal.note_node-requires-clause-held
note_node-requires-clause-held c =
    let h = holders_held c.args.circuit.now c.args.roots.now c.in_ok-holders.holders.items (c.in_ok-holders.ensures.long ∙ c.requires.sorting.numbers.total) c.in_ok-holders.ensures.holders in
    subst (λ (n : ℕ). AreHeld c.deref.result.now n) (sym c.loop-place.invariant.long) (subst (λ (l : List ℕ). AreHeld l (length c.args.roots.now)) (sym c.deref.ensures.value) h)

pub table_of-requires : goal.table_of-requires
table_of-requires c =
    subst (λ (es : List Entry). AreInRows es (length c.args.roots.now)) (sym c.deref-2.ensures.value)
    (subst (λ (n : ℕ). AreInRows c.loop-place.notes.entries.items n) c.loop-place.invariant.long c.loop-place.invariant.seen.noted.inside)

pub returns : goal.returns
returns c =
    let entries = c.loop-place.notes.entries.items in
    let are = all_seen c.args.circuit.now c.requires.valid c.args.nodes.now c.args.roots.now c.requires.roots c.requires.few_roots c.in_ok-holders.holders.items c.in_ok-holders.ensures.holders
    c.loop-place.place (omega arith) entries c.loop-place.notes.last.items c.loop-place.invariant.seen in
    table_listed (IsReader c.args.circuit.now c.args.nodes.now c.args.roots.now) entries are c.in_ok-table.table
    (λ r. c.in_ok-table.ensures r ∙ ap (λ (es : List Entry). values_in r es) c.deref-2.ensures.value)
