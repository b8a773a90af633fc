-- The last sample is that of the recording, or the last of those that came.
use Rattle.std.proofs.Common.{◌-◌, ◌<◌, length, ap, refl, subst, arith}
use Rattle.std.proofs.lemmas.Bool.{lt-ltb, ltb-true}
use Rattle.spool_format.specs.declared.sample.Sample.{Sample}
use Rattle.spool_format.specs.Records.{IsLater}
use Rattle.spool_writer.proofs.Growth.{behind_later, counted_more, later_behind, none_behind, sample_in_place}
use Rattle.spool_writer.proofs.spool.Spool.is_later_behind.Goals as goal

pub returns-then-k-eq0-clause-no : goal.returns-then-k-eq0-clause-no
returns-then-k-eq0-clause-no c = λ later.
    c.is_later.ensures.no (subst (λ ss. IsLater ss c.args.time) (none_behind c.args.self.now.samples c.args.samples.now c.args.k c.if-k-eq0.true) later)

pub returns-else-k-eq0-clause-yes : goal.returns-else-k-eq0-clause-yes
returns-else-k-eq0-clause-yes c = λ h.
    let some = counted_more c.args.k c.args.k refl c.if-k-eq0.false in
    let within : c.args.k - 1 < length c.args.samples.now = omega (arith, some, c.requires) in
    let is = ap (λ (s : Sample). s.time) (sample_in_place c.args.samples.now (c.args.k - 1) c.index-samples-k.result within) in
    let less = ltb-true c.femtoseconds.result c.femtoseconds-else-k-eq0.result h in
    later_behind c.args.self.now c.args.samples.now c.args.k c.args.time some c.requires
    (omega (arith, is, less, c.femtoseconds.ensures.value, c.femtoseconds-else-k-eq0.ensures.value))

pub returns-else-k-eq0-clause-no : goal.returns-else-k-eq0-clause-no
returns-else-k-eq0-clause-no c = λ later.
    let some = counted_more c.args.k c.args.k refl c.if-k-eq0.false in
    let within : c.args.k - 1 < length c.args.samples.now = omega (arith, some, c.requires) in
    let is = ap (λ (s : Sample). s.time) (sample_in_place c.args.samples.now (c.args.k - 1) c.index-samples-k.result within) in
    let less = behind_later c.args.self.now c.args.samples.now c.args.k c.args.time some c.requires later in
    lt-ltb c.femtoseconds.result c.femtoseconds-else-k-eq0.result (omega (arith, is, less, c.femtoseconds.ensures.value, c.femtoseconds-else-k-eq0.ensures.value))
