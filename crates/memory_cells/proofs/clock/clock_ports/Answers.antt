use Rattle.std.proofs.Common.{◌≡◌, ℕ, List, Bool, true, false, not, ◌&&◌, ◌||◌, refl, sym, ◌∙◌, ap}
use Rattle.circuit.specs.Next.{next_reads, next_rows}
use Rattle.sim_base.specs.Parts.{parts}
use Rattle.circuit.specs.State.{Stored}
use Rattle.sim_base.specs.Values.{numbers}
use Rattle.signal_words.specs.Values.{digits_in}
use Rattle.sim_base.proofs.Parts.{length-parts}
use Rattle.memory_cells.proofs.Parts.{kept_as}
use Rattle.memory_cells.proofs.Told.{same_lists}
use Rattle.memory_cells.proofs.clock.clock_ports.Goals as goal

pub clock_reads-read-requires-clause-rows : goal.clock_reads-read-requires-clause-rows
clock_reads-read-requires-clause-rows c = c.rows.invariant.0 ∙ (kept_as c.args.mem.now c.rows.inside.size c.rows.inside.width c.rows.inside.rows.number c.args.rows.now c.rows.view_is c.requires.rows).total

pub clock_writes-written-requires-clause-rows : goal.clock_writes-written-requires-clause-rows
clock_writes-written-requires-clause-rows c = c.rows.invariant.0 ∙ (kept_as c.args.mem.now c.rows.inside.size c.rows.inside.width c.rows.inside.rows.number c.args.rows.now c.rows.view_is c.requires.rows).total

pub returns-clause-stored : goal.returns-clause-stored
returns-clause-stored c =
    let m = c.args.mem.now in
    let k = kept_as m c.rows.inside.size c.rows.inside.width c.rows.inside.rows.number c.args.rows.now c.rows.view_is c.requires.rows in
    let b = digits_in c.args.before.now.nets in
    let n = digits_in c.args.now.now.nets in
    let rows : parts c.rows.inside.width c.rows.inside.size c.clock_writes-written.new.rows.number ≡ next_rows b n m 0 c.args.rows.now.rows = k.same c.clock_writes-written.new.rows.number ∙ c.clock_writes-written.ensures.rows ∙ ap (next_rows b n m 0) k.rows in
    let reads : numbers c.clock_reads-read.new.outs ≡ next_reads b n m c.args.rows.now.rows m.reads (numbers c.args.outs.now) = c.clock_reads-read.ensures.outs ∙ ap (λ (xs : List ℕ). next_reads b n m xs m.reads (numbers c.args.outs.now)) k.rows in
    both _ _ _ _ rows reads
  where
    both : (rows rows' reads reads' : List ℕ) → rows ≡ rows' → reads ≡ reads' → (let s : Stored = record { rows = rows; reads = reads } in s) ≡ record { rows = rows'; reads = reads' }
    both rows rows' reads reads' e f = ap (λ (xs : List ℕ). let s : Stored = record { rows = xs; reads = reads } in s) e ∙ ap (λ (xs : List ℕ). let s : Stored = record { rows = rows'; reads = xs } in s) f

pub returns-clause-changed : goal.returns-clause-changed
returns-clause-changed c =
    let m = c.args.mem.now in
    let k = kept_as m c.rows.inside.size c.rows.inside.width c.rows.inside.rows.number c.args.rows.now c.rows.view_is c.requires.rows in
    let reads = same_lists (numbers c.clock_reads-read.new.outs) (numbers c.args.outs.now) in
    let news = c.clock_writes-written.new.rows.number in
    ap (λ x. x || c.clock_writes-written.result) c.clock_reads-read.ensures.changed
    ∙ ap (λ x. not reads || x)
    (c.clock_writes-written.ensures.changed
    ∙ ap (λ (xs : List ℕ). not (same_lists (parts m.width m.size news) xs)) k.rows
    ∙ ap (λ (xs : List ℕ). not (same_lists xs c.args.rows.now.rows)) (sym (k.same news)))
    ∙ either reads (same_lists (parts c.rows.inside.width c.rows.inside.size news) c.args.rows.now.rows)
  where
    either : (a b : Bool) → (not a || not b) ≡ not (b && a)
    either true true = refl
    either true false = refl
    either false true = refl
    either false false = refl

pub returns-clause-rows : goal.returns-clause-rows
returns-clause-rows c =
    let m = c.args.mem.now in
    let k = kept_as m c.rows.inside.size c.rows.inside.width c.rows.inside.rows.number c.args.rows.now c.rows.view_is c.requires.rows in
    record { width = k.wide; size = length-parts c.rows.inside.width c.rows.inside.size c.clock_writes-written.new.rows.number ∙ k.many }
