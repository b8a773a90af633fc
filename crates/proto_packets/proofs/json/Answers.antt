use Rattle.proto_packets.proofs.Reading.{reading-some, reading-none}
use Rattle.proto_packets.proofs.json.Goals as goal

pub returns-in-Ok : goal.returns-in-Ok
returns-in-Ok c = reading-some _ _ c.in-Ok.ensures.ok.0 c.in-Ok.ensures.ok.1

pub returns-else-is_memory : goal.returns-else-is_memory
returns-else-is_memory c = reading-none _ (c.in-Err.ensures.err (λ is. let no = c.if-is_memory.ensures.1 is in cc))
