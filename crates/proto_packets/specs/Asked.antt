-- What a packet asks.
use Rattle.std.specs.Prelude.{ℕ, List, Bool, false, Option, Some, None, Result, Ok, Err, option_map, option_and_then, unwrap_or, codes, if◌then◌else◌}
use Rattle.std.specs.Str.{is_utf8, bytes_eq}
use Rattle.serde_json.specs.Data.{Data}
use Rattle.serde_json.specs.Read.{read}
use Rattle.serde_json.specs.Find.{get, as_str, as_bool}
use Rattle.sim_base.specs.declared.kinds.Kinds.{Kinds}
use Rattle.proto_packets.specs.declared.request.Request.{Request}
use Rattle.proto_packets.specs.declared.request.Request.TheVariants as request
use Rattle.proto_packets.specs.declared.fault.PacketFault.{PacketFault}
use Rattle.proto_packets.specs.declared.fault.PacketFault.TheVariants as fault
use Rattle.proto_packets.specs.declared.command.Command.{Command}
use Rattle.proto_packets.specs.declared.command.Command.TheVariants.{ListScopes, ListItems, ReferenceItems, QueryInterval, GetSimulationStatus, RunSimulation, PauseSimulation}
use Rattle.proto_packets.specs.Kind.{may_be, must_be, or_null, whole, time, interval, kinds, designations}

-- the value that a packet is, or none where its bytes are no UTF-8 or have no reading of at most 127 levels
abbrev pub reading : List ℕ → Option Data
reading bytes = if is_utf8 bytes then read bytes else None

-- the seven commands
abbrev pub command_named : List ℕ → Option Command
command_named name =
    if bytes_eq name (codes "list_scopes") then Some ListScopes
    else (if bytes_eq name (codes "list_items") then Some ListItems
    else (if bytes_eq name (codes "reference_items") then Some ReferenceItems
    else (if bytes_eq name (codes "query_interval") then Some QueryInterval
    else (if bytes_eq name (codes "get_simulation_status") then Some GetSimulationStatus
    else (if bytes_eq name (codes "run_simulation") then Some RunSimulation
    else (if bytes_eq name (codes "pause_simulation") then Some PauseSimulation
    else None))))))

-- `diagnostics` or `collapse`: false where it is absent
abbrev pub truth : Option Data → Option Bool
truth found = option_map (λ given. unwrap_or given false) (may_be as_bool found)

abbrev pub no_kinds : Kinds
no_kinds = record { asserts = false; assumes = false }

-- `until_diagnostics`: no kinds where it is absent
abbrev pub stops : Option Data → Option Kinds
stops found = option_map (λ given. unwrap_or given no_kinds) (may_be kinds found)

-- the request by the command's keys, or none where a key is missing, of a wrong kind, or no time
abbrev pub arguments : Command → Data → Option Request
arguments ListScopes d = option_map request.ListScopes (may_be as_str (get (codes "scope") d))
arguments ListItems d = option_map request.ListItems (may_be as_str (get (codes "scope") d))
arguments ReferenceItems d =
    option_and_then (λ reference. option_map (λ items. request.ReferenceItems reference items)
    (must_be (or_null designations) (get (codes "items") d)))
    (must_be as_str (get (codes "reference") d))
arguments QueryInterval d =
    option_and_then (λ times. option_and_then (λ items. option_and_then (λ encoding. option_and_then (λ collapse. option_map (λ diagnostics.
    request.QueryInterval times.0 times.1 items encoding collapse diagnostics)
    (truth (get (codes "diagnostics") d)))
    (truth (get (codes "collapse") d)))
    (may_be as_str (get (codes "item_values_encoding") d)))
    (may_be as_str (get (codes "items") d)))
    (must_be interval (get (codes "interval") d))
arguments GetSimulationStatus d = Some request.Status
arguments RunSimulation d =
    option_and_then (λ until. option_and_then (λ stop. option_map (λ sampled.
    request.RunSimulation until stop)
    (may_be as_bool (get (codes "sample_item_values") d)))
    (stops (get (codes "until_diagnostics") d)))
    (may_be time (get (codes "until_time") d))
arguments PauseSimulation d = Some request.PauseSimulation

-- what is there, or the fault
abbrev pub or_fault : {A : Type 0} → PacketFault → Option A → Result A PacketFault
or_fault e (Some x) = Ok x
or_fault e None = Err e

-- a command: its name, which must be a text, and its keys
abbrev pub asked_by : Option Command → Data → Result Request PacketFault
asked_by None d = Err fault.Command
asked_by (Some command) d = or_fault fault.Argument (arguments command d)

abbrev pub command : Data → Option (List ℕ) → Result Request PacketFault
command d None = Err fault.Packet
command d (Some name) = asked_by (command_named name) d

abbrev pub greeting : Data → Result Request PacketFault
greeting d = or_fault fault.Packet (option_map request.Greeting (must_be whole (get (codes "version") d)))

-- by the text `type` of a packet
abbrev pub packet : Data → Option (List ℕ) → Result Request PacketFault
packet d None = Err fault.Packet
packet d (Some kind) =
    if bytes_eq kind (codes "greeting") then greeting d
    else (if bytes_eq kind (codes "command") then command d (must_be as_str (get (codes "command") d))
    else Err fault.Packet)

abbrev pub asked_in : Data → Result Request PacketFault
asked_in d = packet d (must_be as_str (get (codes "type") d))

abbrev pub asked_of : Option Data → Result Request PacketFault
asked_of None = Err fault.Json
asked_of (Some d) = asked_in d

-- the request that a packet is, or the first of the faults
abbrev pub asked : List ℕ → Result Request PacketFault
asked bytes = asked_of (reading bytes)
