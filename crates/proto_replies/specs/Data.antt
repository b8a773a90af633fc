-- Answers as data: the keys and values of each, as JSON, and the text of a packet.
use Rattle.std.specs.Prelude.{⊤, ℕ, ◌≤◌, List, [], ◌∷◌, ◌++◌, Option, Some, None, codes}
use Rattle.serde_json.specs.Data.{Data, number, string, array, object, unsigned, Items, no_items, item, Members, no_members, member}
use Rattle.serde_json.specs.Written.{compact_text}
use Rattle.sim_base.specs.TimeText.{largest_time, time_text}
use Rattle.proto_replies.specs.Text.{cause_word, error_message, error_word, state_word}
use Rattle.proto_replies.specs.declared.answer.Answer.{Answer}
use Rattle.proto_replies.specs.declared.answer.Answer.TheVariants as answer

-- texts as the items of an array
unfoldable pub texts : List (List ℕ) → Items
texts [] = no_items
texts (text ∷ more) = item (string text) (texts more)

abbrev pub commands : List (List ℕ)
commands =
    codes "list_scopes" ∷ codes "list_items" ∷ codes "reference_items" ∷ codes "query_interval" ∷ codes "get_simulation_status" ∷ codes "run_simulation" ∷ codes "pause_simulation" ∷ []

abbrev pub events : List (List ℕ)
events = codes "simulation_paused" ∷ codes "simulation_finished" ∷ []

abbrev pub features : Members
features = member (codes "item_values_encoding") (array (texts (codes "base64(u32)" ∷ []))) no_members

-- a key whose value is a text, before the other keys
abbrev pub text_at : List ℕ → List ℕ → Members → Members
text_at key text more = member key (string text) more

abbrev pub next_at : Option ℕ → Members → Members
next_at None more = more
next_at (Some time) more = text_at (codes "next_sample_time") (time_text time) more

abbrev pub answer_members : Answer → Members
answer_members answer.Greeting =
    member (codes "commands") (array (texts commands))
    (member (codes "events") (array (texts events))
    (member (codes "features") (object features)
    (text_at (codes "type") (codes "greeting")
    (member (codes "version") (number (unsigned 0)) no_members))))
answer_members answer.ReferenceItems =
    text_at (codes "command") (codes "reference_items") (text_at (codes "type") (codes "response") no_members)
answer_members answer.RunSimulation =
    text_at (codes "command") (codes "run_simulation") (text_at (codes "type") (codes "response") no_members)
answer_members (answer.PauseSimulation time) =
    text_at (codes "command") (codes "pause_simulation")
    (text_at (codes "time") (time_text time)
    (text_at (codes "type") (codes "response") no_members))
answer_members (answer.Status latest how next) =
    text_at (codes "command") (codes "get_simulation_status")
    (text_at (codes "latest_time") (time_text latest)
    (next_at next
    (text_at (codes "status") (state_word how)
    (text_at (codes "type") (codes "response") no_members))))
answer_members (answer.Paused why time) =
    text_at (codes "cause") (cause_word why)
    (text_at (codes "event") (codes "simulation_paused")
    (text_at (codes "time") (time_text time)
    (text_at (codes "type") (codes "event") no_members)))
answer_members (answer.Finished time) =
    text_at (codes "event") (codes "simulation_finished")
    (text_at (codes "time") (time_text time)
    (text_at (codes "type") (codes "event") no_members))
answer_members (answer.Error kind) =
    text_at (codes "error") (error_word kind)
    (text_at (codes "message") (error_message kind)
    (text_at (codes "type") (codes "error") no_members))

unfoldable pub answer_data : Answer → Data
answer_data a = object (answer_members a)

-- the packet of any data: the data as JSON with no blanks, and the zero byte that ends a packet
unfoldable pub packet_text : Data → List ℕ
packet_text content = compact_text content ++ 0 ∷ []

-- the times in an answer are times
abbrev pub IsNoneOrTime : Option ℕ → Type 0
IsNoneOrTime None = ⊤
IsNoneOrTime (Some time) = time ≤ largest_time

abbrev pub AreTimes : Answer → Type 0
AreTimes answer.Greeting = ⊤
AreTimes answer.ReferenceItems = ⊤
AreTimes answer.RunSimulation = ⊤
AreTimes (answer.PauseSimulation time) = time ≤ largest_time
AreTimes (answer.Status latest how next) = (latest ≤ largest_time) × IsNoneOrTime next
AreTimes (answer.Paused why time) = time ≤ largest_time
AreTimes (answer.Finished time) = time ≤ largest_time
AreTimes (answer.Error kind) = ⊤
