use Rattle.std.proofs.Common.{◌≡◌, ◌+◌, ◌-◌, ◌/◌, ◌%◌, ◌^◌, arith, ap, sym, ◌∙◌}
use Rattle.sim_base.specs.BitValue.{bit_value}
use Rattle.circuit.specs.declared.netlist.Piece.TheVariants as piece
use Rattle.rtlil_signals.specs.Values.{const_value}
use Rattle.rtlil_signals.proofs.Cuts.{cut_again}
use Rattle.rtlil_signals.proofs.span.const_part.Goals as goal

pub returns : goal.returns
returns c = cut_again (const_value c.args.of.now) c.args.from (c.args.to - c.args.from) c.args.at c.args.width (omega arith)
