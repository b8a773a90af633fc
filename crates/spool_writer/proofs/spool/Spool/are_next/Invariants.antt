use Rattle.std.proofs.Common.{ℕ, ◌<◌, ◌++◌, take}
use Rattle.spool_format.specs.Reading.{sample_at}
use Rattle.spool_format.specs.Records.{IsNext}
use Rattle.spool_writer.proofs.spool.Spool.are_next.Given as goal

abbrev pub invariant-loop-k : goal.invariant-loop-k
invariant-loop-k l = (n : ℕ) → n < l.k → IsNext l.self.widths (l.self.samples ++ take n l.samples) (sample_at l.samples n)
