-- The log of a history: a line for each entry.
use Rattle.std.specs.Prelude.{ℕ, Bool, true, false, List, [], ◌++◌, codes, decimal, flat_map}
use Rattle.sim_base.specs.declared.kinds.Kinds.{Kinds}
use Rattle.hall_core.specs.declared.entry.Entry.{Entry}
use Rattle.hall_core.specs.declared.entry.Entry.TheVariants as entry
use Rattle.hall_core.specs.declared.entry.Act.{Act}
use Rattle.hall_core.specs.declared.entry.Act.TheVariants as act
use Rattle.hall_core.specs.declared.entry.Why.{Why}
use Rattle.hall_core.specs.declared.entry.Why.TheVariants as why

abbrev pub word_if : Bool → List ℕ → List ℕ
word_if true word = word
word_if false word = []

abbrev pub kinds_text : Kinds → List ℕ
kinds_text kinds = word_if kinds.asserts (codes " assert") ++ word_if kinds.assumes (codes " assume")

abbrev pub act_text : Act → List ℕ
act_text act.Look = []
act_text (act.Run m kinds) = codes " run " ++ decimal m ++ kinds_text kinds
act_text act.Pause = codes " pause"

abbrev pub why_text : Why → List ℕ
why_text why.Ended = codes " ended"
why_text why.Fault = codes " fault"
why_text why.TooLong = codes " too_long"
why_text why.Slow = codes " slow"
why_text why.Limit = codes " limit"
why_text why.Memory = codes " memory"
why_text why.Over = codes " over"

abbrev pub entry_text : Entry → List ℕ
entry_text (entry.Open c) = codes "open " ++ decimal c
entry_text (entry.Packet c what) = codes "packet " ++ decimal c ++ act_text what
entry_text (entry.Record m hit) = codes "record " ++ decimal m ++ word_if hit (codes " hit")
entry_text entry.Unsettled = codes "unsettled"
entry_text (entry.Close c cause) = codes "close " ++ decimal c ++ why_text cause
entry_text entry.End = codes "end"

abbrev pub line : Entry → List ℕ
line e = entry_text e ++ codes "\n"

-- the log of a history
abbrev pub log_text : List Entry → List ℕ
log_text history = flat_map line history
