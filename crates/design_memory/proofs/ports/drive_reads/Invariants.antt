use Rattle.std.proofs.Common.{◌≡◌, ◌++◌}
use Rattle.design_cells.specs.Joined.{seen_ports}
use Rattle.design_memory.specs.Memories.{drives_of}
use Rattle.design_memory.proofs.ports.drive_reads.Given as goal

abbrev pub invariant-loop-port : goal.invariant-loop-port
invariant-loop-port l = l.draft ≡ (record l.fn.draft { drives = l.fn.draft.drives ++ drives_of l.fn.memory l.shape (seen_ports l.ports) l.port })
