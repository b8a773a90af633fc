use Rattle.std.proofs.Common.{◌+◌, List, subst, arith, get_or}
use Rattle.eval_plan.specs.TableInvariants.{AreNoted, Grows, Noted, AreSeen}
use Rattle.driver_check.specs.Search.{Needs}
use Rattle.driver_check.specs.declared.graph.Span.{Span}
use Rattle.driver_check.specs.declared.parts.Node.{Node}
use Rattle.driver_check.specs.declared.parts.Node.TheVariants as node
use Rattle.eval_plan.proofs.Noded.{node_part}
use Rattle.eval_plan.proofs.Read.{needs_below, one_seen}
use Rattle.eval_plan.proofs.Results.{both_ok}
use Rattle.eval_plan.proofs.Tabled.{got}
use Rattle.eval_plan.proofs.readers.note_node.Goals as goal

pub needs_of-row-requires-clause-there : goal.needs_of-row-requires-clause-there
needs_of-row-requires-clause-there c =
    let n : Node = get_or c.args.nodes.now c.args.place (node.Cell 0) in
    node_part c.args.circuit.now n (c.requires.nodes.there c.args.place n (got c.args.nodes.now c.args.place (node.Cell 0) c.requires.there))

pub note_row-requires-clause-there : goal.note_row-requires-clause-there
note_row-requires-clause-there c = λ w h.
    let n : Node = get_or c.args.nodes.now c.args.place (node.Cell 0) in
    let l = needs_below c.args.circuit.now c.requires.valid n w (subst (λ (row : List Span). Needs row w) c.needs_of-row.ensures h) in
    omega (arith, l, c.requires.long, c.requires.sorting.numbers.total)

pub returns-clause-seen : goal.returns-clause-seen
returns-clause-seen c =
    let circuit = c.args.circuit.now in
    let nodes = c.args.nodes.now in
    let holders = c.args.holders.now in
    let n : Node = get_or nodes c.args.place (node.Cell 0) in
    let was = c.args.notes.now.entries.items in
    let now = c.note_row.new.self.entries.items in
    let lasts = c.note_row.new.self.last.items in
    both_ok c.note_row.result (AreNoted now lasts c.args.place) (Grows was now (Noted (Needs c.needs_of-row.result.now) holders c.args.place)) (AreSeen circuit nodes holders (c.args.place + 1) now lasts)
    (λ noted grows.
    one_seen circuit nodes holders c.args.place was c.args.notes.now.last.items c.requires.seen n (got nodes c.args.place (node.Cell 0) c.requires.there) now lasts noted
    (subst (λ (row : List Span). Grows was now (Noted (Needs row) holders c.args.place)) c.needs_of-row.ensures grows))
    c.note_row.ensures.noted c.note_row.ensures.grows
