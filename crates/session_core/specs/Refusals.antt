-- What a client's packets make of it, and which of them are refused.
use Rattle.std.specs.Prelude.{ℕ, ◌==◌, List, [], Bool, false, ◌||◌, Option, Some, None, Result, Ok, Err, if◌then◌else◌}
use Rattle.std.specs.List.{fold}
use Rattle.proto_packets.specs.Asked.{asked}
use Rattle.proto_packets.specs.declared.request.Designation.{Designation}
use Rattle.proto_packets.specs.declared.request.Request.{Request}
use Rattle.proto_packets.specs.declared.request.Request.TheVariants as request
use Rattle.proto_packets.specs.declared.fault.PacketFault.{PacketFault}
use Rattle.proto_packets.specs.declared.fault.PacketFault.TheVariants as fault
use Rattle.proto_replies.specs.declared.answer.ErrorKind.{ErrorKind}
use Rattle.proto_replies.specs.declared.answer.ErrorKind.TheVariants as error

-- what a packet asks, or its fault
abbrev pub Asking : Type 0
Asking = Result Request PacketFault

-- a greeting of version 0
abbrev pub greets : Asking → Bool
greets (Ok (request.Greeting version)) = version == 0
greets (Ok (request.ListScopes scope)) = false
greets (Ok (request.ListItems scope)) = false
greets (Ok (request.ReferenceItems reference items)) = false
greets (Ok (request.QueryInterval begin end items encoding collapse diagnostics)) = false
greets (Ok request.Status) = false
greets (Ok (request.RunSimulation until kinds)) = false
greets (Ok request.PauseSimulation) = false
greets (Err e) = false

-- what its packets so far made of a client: whether it is greeted, and the items by the references that it has set
pub record Client : Type 0 where
  pub greeted : Bool
  pub references : List (List ℕ × List Designation)

abbrev pub new_client : Client
new_client = record { greeted = false; references = [] }

-- a client after one more packet; commands on references are not served yet
abbrev pub client_after : Client → Asking → Client
client_after client read = record client { greeted = client.greeted || greets read }

-- the client of these packets
abbrev pub client_of : List (List ℕ) → Client
client_of packets = fold (λ client packet. client_after client (asked packet)) new_client packets

abbrev pub is_greeted : List (List ℕ) → Bool
is_greeted packets = (client_of packets).greeted

-- the error of a command that asks for a greeting before it
abbrev pub unless_greeted : Client → Option ErrorKind
unless_greeted client = if client.greeted then None else Some error.NotGreeted

-- the first error that holds for a packet of a client, by what its earlier packets made of it; want of memory is none
abbrev pub error_of : Client → Asking → Option ErrorKind
error_of client (Err fault.Json) = Some error.InvalidJson
error_of client (Err fault.Packet) = Some error.InvalidPacket
error_of client (Err fault.Command) = Some error.InvalidCommand
error_of client (Err fault.Argument) = Some error.InvalidArgument
error_of client (Err fault.NoMemory) = None
error_of client (Ok (request.Greeting version)) = if client.greeted then Some error.AlreadyGreeted else (if version == 0 then None else Some error.InvalidVersion)
error_of client (Ok request.Status) = unless_greeted client
error_of client (Ok (request.RunSimulation until kinds)) = unless_greeted client
-- commands that are not served yet
error_of client (Ok (request.ListScopes scope)) = Some error.InvalidCommand
error_of client (Ok (request.ListItems scope)) = Some error.InvalidCommand
error_of client (Ok (request.ReferenceItems reference items)) = Some error.InvalidCommand
error_of client (Ok (request.QueryInterval begin end items encoding collapse diagnostics)) = Some error.InvalidCommand
error_of client (Ok request.PauseSimulation) = Some error.InvalidCommand

-- the error for which a packet behind a client's earlier packets is refused
abbrev pub refused : List (List ℕ) → List ℕ → Option ErrorKind
refused earlier packet = error_of (client_of earlier) (asked packet)
