use Rattle.std.proofs.Common.{refl}
use Rattle.circuit.specs.Output.{output}
use Rattle.circuit.specs.declared.cell.Op.TheVariants as op
use Rattle.sim_base.specs.Values.{width_at}
use Rattle.cell_wide.specs.declared.words.Bitwise.TheVariants as by
use Rattle.signal_words.proofs.Told.{same_put}
use Rattle.cell_wide.proofs.Outputs.{pair_output, xnor_output, xnor_is}
use Rattle.cell_wide.proofs.bitwise.bitwise_by.Goals as goal

pub returns-in-And : goal.returns-in-And
returns-in-And g c digits one other =
    same_put c.args.out _ (output digits c.args.cell.now) c.args.into.now c.write.new.into c.write.result
    (pair_output digits c.args.cell.now op.And by.And by.And (width_at c.args.into.now c.args.out) _ _ c.in-And.is refl c.requires.into one other refl) c.write.ensures

pub returns-in-Or : goal.returns-in-Or
returns-in-Or g c digits one other =
    same_put c.args.out _ (output digits c.args.cell.now) c.args.into.now c.write-in-Or.new.into c.write-in-Or.result
    (pair_output digits c.args.cell.now op.Or by.Or by.Or (width_at c.args.into.now c.args.out) _ _ c.in-Or.is refl c.requires.into one other refl) c.write-in-Or.ensures

pub returns-in-Xor : goal.returns-in-Xor
returns-in-Xor g c digits one other =
    same_put c.args.out _ (output digits c.args.cell.now) c.args.into.now c.write-in-Xor.new.into c.write-in-Xor.result
    (pair_output digits c.args.cell.now op.Xor by.Xor by.Xor (width_at c.args.into.now c.args.out) _ _ c.in-Xor.is refl c.requires.into one other refl) c.write-in-Xor.ensures

pub returns-in_default : goal.returns-in_default
returns-in_default g c digits one other =
    same_put c.args.out _ (output digits c.args.cell.now) c.args.into.now c.write-in_default.new.into c.write-in_default.result
    (xnor_output digits c.args.cell.now by.Xor (width_at c.args.into.now c.args.out) _ _ (xnor_is c.args.cell.now.op c.requires.kind c.in_default.not-And c.in_default.not-Or c.in_default.not-Xor) refl c.requires.into one other) c.write-in_default.ensures
