use Rattle.std.proofs.Common.{sym}
use Rattle.circuit.specs.Signal.{sig_number, sig_width}
use Rattle.signal_words.specs.Values.{digits_in}
use Rattle.cell_words.proofs.Distances.{negative_amount}
use Rattle.cell_words.proofs.amount.amount_of_words.Goals as goal

pub returns-then-is_below_zero : goal.returns-then-is_below_zero
returns-then-is_below_zero c =
    negative_amount c.args.signed (sig_width c.args.sig.now) (sig_number (digits_in c.args.nets.now) c.args.sig.now) c.distance.result c.min-by.result
    (sym c.if-is_below_zero.ensures) c.distance.ensures.below c.distance.ensures.value c.min-by.ensures
