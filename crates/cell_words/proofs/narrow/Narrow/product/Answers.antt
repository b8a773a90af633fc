use Rattle.signal_words.proofs.Modulo.{modulo_product}
use Rattle.cell_words.proofs.narrow.Narrow.product.Goals as goal

pub returns : goal.returns
returns c = modulo_product 64 c.args.self.now c.args.other.now c.low.result c.low-2.result c.low.ensures c.low-2.ensures
