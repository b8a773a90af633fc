use Rattle.std.proofs.Common.{sym}
use Rattle.flat_text.proofs.TextLines.{unfinished}
use Rattle.flat_text.proofs.place.Place.finished.Goals as goal

pub returns : goal.returns
returns c = sym (unfinished c.args.self c.in_default.not-Closed)
