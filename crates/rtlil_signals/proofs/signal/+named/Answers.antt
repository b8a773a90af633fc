use Rattle.std.proofs.Common.{◌≡◌, sym, ap, ◌∙◌}
use Rattle.std.specs.List.{list_all}
use Rattle.std.specs.Option.{is_some}
use Rattle.rtlil_signals.specs.Signals.{is_named, net_named}
use Rattle.rtlil_signals.proofs.Folds.{named_const, named_wire, named_parts}
use Rattle.rtlil_signals.proofs.signal.+named.Goals as goal

pub is_named-returns-in-Const : goal.is_named-returns-in-Const
is_named-returns-in-Const t c = sym (named_const c.args.scope.now c.args.sig.now c.in-Const.field-0 c.in-Const.is)

pub is_named-returns-in-Wire : goal.is_named-returns-in-Wire
is_named-returns-in-Wire t c =
    let e = named_wire c.args.scope.now c.args.sig.now c.in-Wire.name c.in-Wire.is in
    c.is_some.ensures ∙ ap is_some (c.get.ensures ∙ ap (net_named c.args.scope.now) c.as_bytes.ensures) ∙ sym e

pub is_named-returns-in-Concatenation : goal.is_named-returns-in-Concatenation
is_named-returns-in-Concatenation t c =
    c.are_named.ensures ∙ ap (list_all (is_named c.args.scope.now)) c.as_slice.ensures ∙ sym (named_parts c.args.scope.now c.args.sig.now c.in-Concatenation.parts c.in-Concatenation.is)
