use Rattle.std.proofs.Common.{◌≡◌, ◌++◌, ◌∷◌, [], length, codes, decimal, ◌∙◌, ap}
use Rattle.std.specs.Arc.{arc_value}
use Rattle.std.specs.List.{flat_map}
use Rattle.trace_text.specs.Text.{node_line, nodes}
use Rattle.trace_text.proofs.Columns.{columns_count, header_is}
use Rattle.trace_text.proofs.printer.Printer.push_header.Goals as goal

pub returns : goal.returns
returns c =
    let circuit = c.args.self.now in
    let text = c.args.text.now.items in
    let count : length c.as_slice.result.now ≡ length (nodes circuit) = ap length (c.as_slice.ensures.value ∙ c.self.invariant.1) ∙ columns_count (arc_value c.self.inside.circuit) ∙ ap (λ d. length (nodes d)) (let v = c.self.view_is in let view : arc_value c.self.inside.circuit ≡ circuit = cc v in view) in
    let a = c.in_ok-extend_from_slice.ensures.items in
    let b = c.in_ok-push_decimal.ensures in
    let d = c.in_ok-push.ensures.items in
    let e = c.in_ok-push_nodes.ensures in
    (let all : c.push_nodes.new.text.items ≡ ((text ++ codes "items ") ++ decimal (length (nodes circuit))) ++ 10 ∷ [] ++ flat_map (node_line circuit) (nodes circuit) = cc (a, b, d, e, count) in all)
    ∙ header_is circuit text (codes "items ") (decimal (length (nodes circuit))) (flat_map (node_line circuit) (nodes circuit))
