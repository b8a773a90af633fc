use Rattle.std.proofs.Common.{◌≡◌, ◌-◌, ◌*◌, ◌++◌, drop}
use Rattle.sim_base.specs.Digits.{lowest_digits}
use Rattle.spool_format.specs.Records.{slot_number}
use Rattle.trace_text.proofs.digits.push_number.Given as goal

-- the digits of the words above stand
abbrev pub invariant-loop-place : goal.invariant-loop-place
invariant-loop-place l = l.text.items ≡ l.fn.text.items ++ lowest_digits 16 (l.digits - 8 * l.place) (slot_number (drop l.place l.words))
