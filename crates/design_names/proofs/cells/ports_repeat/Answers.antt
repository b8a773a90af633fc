use Rattle.std.proofs.Common.{[], map, ap, ◌∙◌}
use Rattle.design_names.specs.Clashes.{port_name}
use Rattle.design_names.specs.Names.{any_again, has, with_name}
use Rattle.design_names.proofs.Steps.{again_found, again_more, again_none}
use Rattle.design_names.proofs.cells.ports_repeat.Goals as goal

pub returns-then-branch : goal.returns-then-branch
returns-then-branch c =
    again_found port_name c.loop-connection.names c.args.connections.now c.loop-connection.connection-index (any_again [] (map port_name c.args.connections.now)) c.connection-item.result c.in_ok-is_again.field-0
    c.loop-connection-test.true c.connection-item.is (c.in_ok-is_again.ensures.value ∙ ap (has c.loop-connection.names) c.as_bytes.ensures) c.if-branch.true c.loop-connection.invariant

pub loop-connection-preserved : goal.loop-connection-preserved
loop-connection-preserved c =
    again_more port_name c.loop-connection.names c.args.connections.now c.loop-connection.connection-index (any_again [] (map port_name c.args.connections.now)) c.connection-item.result c.in_ok-is_again.field-0 c.is_again.new.names
    c.loop-connection-test.true c.connection-item.is (c.in_ok-is_again.ensures.value ∙ ap (has c.loop-connection.names) c.as_bytes.ensures) c.if-branch.false (c.in_ok-is_again.ensures.names ∙ ap (with_name c.loop-connection.names) c.as_bytes.ensures) c.loop-connection.invariant

pub returns : goal.returns
returns c = again_none port_name c.loop-connection.names c.args.connections.now c.loop-connection.connection-index (any_again [] (map port_name c.args.connections.now)) c.loop-connection-test.false c.loop-connection.invariant
