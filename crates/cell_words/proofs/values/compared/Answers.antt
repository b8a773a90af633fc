use Rattle.circuit.specs.Output.{operand}
use Rattle.cell_words.proofs.Compared.{at_most_told, at_least_told}
use Rattle.cell_words.proofs.values.compared.Goals as goal

pub returns-in-Le : goal.returns-in-Le
returns-in-Le c i e f =
    at_most_told c.args.op i (operand c.args.signed c.args.width c.args.a) (operand c.args.signed c.args.width c.args.b) c.is_below-in-Le.result c.in-Le.is e f c.is_below-in-Le.ensures

pub returns-in-Ge : goal.returns-in-Ge
returns-in-Ge c i e f =
    at_least_told c.args.op i (operand c.args.signed c.args.width c.args.a) (operand c.args.signed c.args.width c.args.b) c.is_below-in-Ge.result c.in-Ge.is e f c.is_below-in-Ge.ensures
