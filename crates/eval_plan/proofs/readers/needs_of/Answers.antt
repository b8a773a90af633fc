use Rattle.std.proofs.Common.{◌≡◌, ℕ, ◌+◌, ◌∙◌, ap, arith}
use Rattle.driver_check.specs.Numbers.{bit_count}
use Rattle.driver_check.specs.Search.{row_of}
use Rattle.driver_check.specs.Nodes.{part_place}
use Rattle.driver_check.proofs.Freedom.{row_node}
use Rattle.eval_plan.proofs.readers.needs_of.Goals as goal

pub returns : goal.returns
returns c =
    let circuit = c.args.circuit.now in
    let s = c.args.sorting.now in
    let is = c.requires.sorting in
    let e : s.numbering.bits + c.place-place.result ≡ bit_count circuit.nets + part_place circuit c.args.node = omega (arith, c.place-place.ensures.value, is.numbers.total) in
    c.row.ensures ∙ ap (λ (v : ℕ). row_of s.graph v) e ∙ row_node circuit c.requires.valid s.parts.nodes.items s.parts.ports.items is.parts s.graph is.graph c.args.node c.requires.there
