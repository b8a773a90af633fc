use Rattle.design_wires.specs.Texts.{bytes_of}
use Rattle.design_wires.proofs.Bytes.{byte_more}
use Rattle.design_wires.proofs.text.bytes_of.Goals as goal

pub loop-done-init : goal.loop-done-init
unfolding bytes_of
loop-done-init c = c.in_ok-bytes.ensures.items

pub loop-done-preserved : goal.loop-done-preserved
loop-done-preserved c = byte_more c.args.value.now.number c.args.count c.loop-done.done c.loop-done.bytes.items c.field.result c.push.new.self.items c.loop-done-test.true c.loop-done.invariant c.field.ensures c.in_ok-push.ensures.items
