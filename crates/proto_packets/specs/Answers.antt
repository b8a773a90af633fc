-- An answer is as wanted, unless memory is wanting.
use Rattle.std.specs.Prelude.{◌≡◌, Option, Some, None, Result, Ok, Err}
use Rattle.std.specs.Borrow.{Bor}
use Rattle.serde_json.specs.Data.{Data}
use Rattle.serde_json.specs.View.{view}
use Rattle.serde_json.specs.declared.value.Value.{Value}
use Rattle.proto_packets.specs.declared.fault.PacketFault.{PacketFault}
use Rattle.proto_packets.specs.declared.fault.PacketFault.TheVariants as fault

abbrev pub Answers : {A : Type 0} → Result A PacketFault → Result A PacketFault → Type 0
Answers (Ok x) want = want ≡ Ok x
Answers (Err fault.Json) want = want ≡ Err fault.Json
Answers (Err fault.Packet) want = want ≡ Err fault.Packet
Answers (Err fault.Command) want = want ≡ Err fault.Command
Answers (Err fault.Argument) want = want ≡ Err fault.Argument
Answers (Err fault.NoMemory) want = Unit {0}

-- an argument is as it is read, and a fault says that there is none
abbrev pub Gives : {A : Type 0} → Result A PacketFault → Option A → Type 0
Gives (Ok x) read = read ≡ Some x
Gives (Err fault.Json) read = ⊥
Gives (Err fault.Packet) read = ⊥
Gives (Err fault.Command) read = ⊥
Gives (Err fault.Argument) read = read ≡ None
Gives (Err fault.NoMemory) read = Unit {0}

-- a value is the reading, and a fault says that there is none
abbrev pub Reads : Result Value PacketFault → Option Data → Type 0
Reads (Ok v) reading = reading ≡ Some (view v)
Reads (Err fault.Json) reading = reading ≡ None
Reads (Err fault.Packet) reading = ⊥
Reads (Err fault.Command) reading = ⊥
Reads (Err fault.Argument) reading = ⊥
Reads (Err fault.NoMemory) reading = Unit {0}

-- the value at a key, and a fault says that there is none
abbrev pub Finds : Result (Bor Value) PacketFault → Option Data → Type 0
Finds (Ok v) found = found ≡ Some (view v.now)
Finds (Err fault.Json) found = ⊥
Finds (Err fault.Packet) found = ⊥
Finds (Err fault.Command) found = ⊥
Finds (Err fault.Argument) found = found ≡ None
Finds (Err fault.NoMemory) found = ⊥
