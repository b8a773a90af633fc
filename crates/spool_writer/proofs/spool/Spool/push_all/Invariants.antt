use Rattle.std.proofs.Common.{◌≡◌, ◌++◌, take}
use Rattle.spool_format.specs.Kept.{Recording}
use Rattle.spool_writer.proofs.spool.Spool.push_all.Given as goal

abbrev pub invariant-loop-s : goal.invariant-loop-s
invariant-loop-s l = l.more ≡ (let r : Recording = record { widths = l.self.widths; samples = l.self.samples ++ take l.s-index l.samples } in r)
