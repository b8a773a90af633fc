use Rattle.std.proofs.Common.{◌≡◌, ◌≤◌, sym, ◌∙◌, arith}
use Rattle.cell_library.specs.Values.{span_width}
use Rattle.cell_library.proofs.Limits.{span_within, exact_none, exact_some}
use Rattle.cell_library.proofs.checks.port_width.Goals as goal

pub unreachable-requires : goal.unreachable-requires
unreachable-requires c =
    exact_none (span_width c.args.settings.now c.in-Some.port.span)
    (span_within c.args.settings.now c.args.ports.now c.name.result.now c.in-Some.port (sym c.port_named.ensures ∙ c.in-Some.is) c.requires)
    (sym c.in-None.is ∙ c.span_width.ensures)

pub overflow_cast-result : goal.overflow_cast-result
overflow_cast-result c =
    let within : span_width c.args.settings.now c.in-Some.port.span ≤ 65536 =
    span_within c.args.settings.now c.args.ports.now c.name.result.now c.in-Some.port (sym c.port_named.ensures ∙ c.in-Some.is) c.requires in
    let same : c.in-Some-span_width.width ≡ span_width c.args.settings.now c.in-Some.port.span =
    exact_some (span_width c.args.settings.now c.in-Some.port.span) c.in-Some-span_width.width (sym c.in-Some-span_width.is ∙ c.span_width.ensures) in
    omega arith
