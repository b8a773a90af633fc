use Rattle.std.proofs.Common.{◌*◌, ◌+◌, arith}
use Rattle.rtlil_signals.proofs.Digits.{byte_above, byte_below}
use Rattle.rtlil_signals.proofs.value.put_byte.Goals as goal

pub returns-clause-number : goal.returns-clause-number
returns-clause-number c = byte_above c.args.byte c.args.bits.now.number (8 * c.args.done) c.put_field.new.self.number (omega arith) c.requires.below c.put_field.ensures.bits

pub returns-clause-below : goal.returns-clause-below
returns-clause-below c = rw (byte_above c.args.byte c.args.bits.now.number (8 * c.args.done) c.put_field.new.self.number (omega arith) c.requires.below c.put_field.ensures.bits) (byte_below c.args.byte c.args.bits.now.number (8 * c.args.done) (8 * (c.args.done + 1)) (omega arith) c.requires.below (omega arith))
