-- The last sample's time is the one that is kept.
use Rattle.std.proofs.Common.{◌<◌, sym, subst, arith}
use Rattle.std.proofs.lemmas.Bool.{lt-ltb}
use Rattle.std.specs.Arc.{arc_value}
use Rattle.spool_format.specs.Kept.{recording_of}
use Rattle.spool_format.specs.Records.{IsLater}
use Rattle.spool_writer.proofs.Growth.{later_kept}
use Rattle.spool_writer.proofs.spool.Spool.is_later.Goals as goal

pub returns-else-self-eq0-clause-no : goal.returns-else-self-eq0-clause-no
returns-else-self-eq0-clause-no c = λ later.
    let r = recording_of (arc_value c.self.inside.shape) c.self.inside.full c.self.inside.growing.items in
    let ok : IsLater r.samples c.args.time = subst (λ v. IsLater v.samples c.args.time) (sym c.self.view_is) later in
    let less : c.self.inside.last.time < c.args.time = later_kept r c.self.inside.full c.self.inside.growing.items c.self.inside.count c.self.inside.last c.args.time c.self.invariant c.if-self-eq0.false ok in
    lt-ltb c.femtoseconds.result c.femtoseconds-else-self-eq0.result (omega (arith, less, c.femtoseconds.ensures.value, c.femtoseconds-else-self-eq0.ensures.value))
