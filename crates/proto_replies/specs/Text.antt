-- The text of an answer: JSON with no blanks and sorted keys.
use Rattle.std.specs.Prelude.{ℕ, List, [], ◌++◌, Option, Some, None, codes}
use Rattle.sim_base.specs.TimeText.{time_text}
use Rattle.proto_replies.specs.declared.answer.Answer.{Answer}
use Rattle.proto_replies.specs.declared.answer.Answer.TheVariants as answer
use Rattle.proto_replies.specs.declared.answer.RunState.{RunState}
use Rattle.proto_replies.specs.declared.answer.RunState.TheVariants as state
use Rattle.proto_replies.specs.declared.answer.Cause.{Cause}
use Rattle.proto_replies.specs.declared.answer.Cause.TheVariants as cause
use Rattle.proto_replies.specs.declared.answer.ErrorKind.{ErrorKind}
use Rattle.proto_replies.specs.declared.answer.ErrorKind.TheVariants as error

abbrev pub state_word : RunState → List ℕ
state_word state.Running = codes "running"
state_word state.Paused = codes "paused"
state_word state.Finished = codes "finished"

abbrev pub cause_word : Cause → List ℕ
cause_word cause.UntilTime = codes "until_time"
cause_word cause.UntilDiagnostics = codes "until_diagnostics"

abbrev pub error_word : ErrorKind → List ℕ
error_word error.InvalidJson = codes "invalid_json"
error_word error.InvalidPacket = codes "invalid_packet"
error_word error.InvalidCommand = codes "invalid_command"
error_word error.InvalidArgument = codes "invalid_argument"
error_word error.NotGreeted = codes "not_greeted"
error_word error.AlreadyGreeted = codes "already_greeted"
error_word error.InvalidVersion = codes "invalid_version"
error_word error.InvalidScope = codes "invalid_scope"
error_word error.InvalidItem = codes "invalid_item"
error_word error.InvalidReference = codes "invalid_reference"
error_word error.InvalidInterval = codes "invalid_interval"
error_word error.InvalidEncoding = codes "invalid_encoding"
error_word error.PacketTooLong = codes "packet_too_long"

abbrev pub error_message : ErrorKind → List ℕ
error_message error.InvalidJson = codes "the packet is not JSON"
error_message error.InvalidPacket = codes "the packet is not a greeting or a command"
error_message error.InvalidCommand = codes "the command is unknown"
error_message error.InvalidArgument = codes "an argument is missing or malformed"
error_message error.NotGreeted = codes "no greeting was received"
error_message error.AlreadyGreeted = codes "the greeting was already received"
error_message error.InvalidVersion = codes "the version is not 0"
error_message error.InvalidScope = codes "the scope is unknown"
error_message error.InvalidItem = codes "an item is unknown or malformed"
error_message error.InvalidReference = codes "the reference is unknown or one too many"
error_message error.InvalidInterval = codes "the interval ends before it begins"
error_message error.InvalidEncoding = codes "the encoding is unknown"
error_message error.PacketTooLong = codes "the packet is too long"

-- the time of the next sample, where there is one
abbrev pub next_text : Option ℕ → List ℕ
next_text None = []
next_text (Some time) = codes ",\"next_sample_time\":\"" ++ time_text time ++ codes "\""

abbrev pub greeting_text : List ℕ
greeting_text = codes "{\"commands\":[\"list_scopes\",\"list_items\",\"reference_items\",\"query_interval\",\"get_simulation_status\",\"run_simulation\",\"pause_simulation\"],\"events\":[\"simulation_paused\",\"simulation_finished\"],\"features\":{\"item_values_encoding\":[\"base64(u32)\"]},\"type\":\"greeting\",\"version\":0}"

-- the text of an answer, piece by piece
abbrev pub answer_text : Answer → List ℕ
answer_text answer.Greeting = greeting_text
answer_text answer.ReferenceItems = codes "{\"command\":\"reference_items\",\"type\":\"response\"}"
answer_text answer.RunSimulation = codes "{\"command\":\"run_simulation\",\"type\":\"response\"}"
answer_text (answer.PauseSimulation time) =
    codes "{\"command\":\"pause_simulation\",\"time\":\"" ++ time_text time ++ codes "\",\"type\":\"response\"}"
answer_text (answer.Status latest how next) =
    codes "{\"command\":\"get_simulation_status\",\"latest_time\":\"" ++ time_text latest ++ codes "\"" ++ next_text next ++ codes ",\"status\":\"" ++ state_word how ++ codes "\",\"type\":\"response\"}"
answer_text (answer.Paused why time) =
    codes "{\"cause\":\"" ++ cause_word why ++ codes "\",\"event\":\"simulation_paused\",\"time\":\"" ++ time_text time ++ codes "\",\"type\":\"event\"}"
answer_text (answer.Finished time) =
    codes "{\"event\":\"simulation_finished\",\"time\":\"" ++ time_text time ++ codes "\",\"type\":\"event\"}"
answer_text (answer.Error kind) =
    codes "{\"error\":\"" ++ error_word kind ++ codes "\",\"message\":\"" ++ error_message kind ++ codes "\",\"type\":\"error\"}"
