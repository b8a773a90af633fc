use Rattle.cell_words.proofs.Combined.{sum_digits, difference_digits, product_digits}
use Rattle.cell_words.proofs.values.combined.Goals as goal

pub returns-in-Add : goal.returns-in-Add
returns-in-Add c i w le e f = sum_digits c.args.op i w c.args.a c.args.b c.in-Add.is le e f

pub returns-in-Sub : goal.returns-in-Sub
returns-in-Sub c i w le e f = difference_digits c.args.op i w c.args.a c.args.b c.in-Sub.is le e f

pub returns-in_default : goal.returns-in_default
returns-in_default c i w le e f = product_digits c.args.op i w c.args.a c.args.b c.requires c.in_default.not-Add c.in_default.not-Sub le e f
