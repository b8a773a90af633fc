use Rattle.std.proofs.Common.{◌*◌, ◌%◌, ◌^◌, ◌*ℤ◌}
use Rattle.signal_words.proofs.Modulo.{modulo_product, modulo_difference}
use Rattle.cell_words.proofs.whole.Whole.remainder.Goals as goal

pub returns : goal.returns
returns c q times =
    modulo_difference 128 c.args.self.now (c.args.divisor.now *ℤ q) c.low.result (c.low-2.result * c.args.times % 2 ^ 128) c.low.ensures
    (modulo_product 128 c.args.divisor.now q c.low-2.result c.args.times c.low-2.ensures times)
