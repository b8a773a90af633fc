-- The definitions compute.
use Rattle.std.proofs.Common.{refl}
use Rattle.spool_format.specs.Records.{change_record, change_records, chunk_words, slots_with_words}
use Rattle.spool_format.proofs.laws.worked_records.Goals as goal

pub returns-clause-counter : goal.returns-clause-counter
unfolding change_record change_records chunk_words slots_with_words
returns-clause-counter c = refl

pub returns-clause-widths : goal.returns-clause-widths
unfolding change_record change_records chunk_words slots_with_words
returns-clause-widths c = refl
