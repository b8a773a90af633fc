use Rattle.frame_zero.proofs.PacketLaws.{packets-append}
use Rattle.frame_zero.proofs.law_of_beginnings.Goals as goal

pub returns : goal.returns
returns c = packets-append
