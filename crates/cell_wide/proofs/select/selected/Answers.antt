use Rattle.circuit.specs.Signal.{sig_width}
use Rattle.cell_wide.proofs.Selections.{selector_small}
use Rattle.cell_wide.proofs.select.selected.Goals as goal

pub sig_word-requires-clause-small : goal.sig_word-requires-clause-small
sig_word-requires-clause-small c = selector_small c.args.width (sig_width c.args.s.now) c.if-width-eq0.false c.requires.most
