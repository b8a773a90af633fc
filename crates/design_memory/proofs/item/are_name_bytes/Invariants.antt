use Rattle.std.proofs.Common.{◌≡◌, drop}
use Rattle.std.specs.List.{list_all}
use Rattle.design_memory.specs.Settings.{is_name_byte}
use Rattle.design_memory.proofs.item.are_name_bytes.Given as goal

abbrev pub invariant-loop-byte : goal.invariant-loop-byte
invariant-loop-byte l = list_all is_name_byte l.bytes ≡ list_all is_name_byte (drop l.byte-index l.bytes)
