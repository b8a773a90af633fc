-- Texts that JSON writes as they are, and the text of each answer among them.
use Rattle.std.proofs.Common.{◌≡◌, ℕ, zero, suc, ◌+◌, ◌-◌, length, take, ◌/◌, ◌%◌, ◌^◌, ◌<◌, ◌≤◌, true, List, [], ◌∷◌, ◌++◌, Option, Some, None, decimal, refl, sym, ap, ◌∙◌, arith, append_assoc, codes}
use Rattle.std.specs.Prelude.{⊤}
use Rattle.std.proofs.lemmas.Bool.Decides.{nat_tests}
use Rattle.std.proofs.lemmas.Fmt.{decimal_by_steps, decimal_digit}
use Rattle.json.specs.Print.{escape, escape_byte}
use Rattle.json.proofs.Printed.Strings.{escape_byte_plain}
use Rattle.serde_json.specs.Data.{Members, no_members}
use Rattle.serde_json.specs.Written.{compact_text, members_text}
use Rattle.sim_base.specs.Digits.{digit_character, lowest_digits}
use Rattle.sim_base.specs.TimeText.{largest_time, time_text}
use Rattle.proto_replies.specs.declared.answer.Answer.{Answer}
use Rattle.proto_replies.specs.declared.answer.Answer.TheVariants as answer
use Rattle.proto_replies.specs.declared.answer.RunState.{RunState}
use Rattle.proto_replies.specs.declared.answer.RunState.TheVariants as state
use Rattle.proto_replies.specs.declared.answer.Cause.{Cause}
use Rattle.proto_replies.specs.declared.answer.Cause.TheVariants as cause
use Rattle.proto_replies.specs.declared.answer.ErrorKind.{ErrorKind}
use Rattle.proto_replies.specs.declared.answer.ErrorKind.TheVariants as error
use Rattle.proto_replies.specs.Data.{AreTimes, IsNoneOrTime, answer_data, next_at, text_at, texts, packet_text}
use Rattle.proto_replies.specs.Text.{answer_text, greeting_text, next_text, state_word}

-- digits and dots
AreDigits : List ℕ → Type 0
AreDigits [] = ⊤
AreDigits (c ∷ cs) = ((46 ≤ c) × (c ≤ 57)) × AreDigits cs

AreDigits-append : (xs ys : List ℕ) → AreDigits xs → AreDigits ys → AreDigits (xs ++ ys)
unfolding AreDigits
AreDigits-append [] ys first second = second
AreDigits-append (x ∷ xs) ys first second = (first.0, AreDigits-append xs ys first.1 second)

escape-digits : (xs : List ℕ) → AreDigits xs → escape xs ≡ xs
unfolding AreDigits
escape-digits [] digits = refl
escape-digits (x ∷ xs) digits =
    ap (λ front. front ++ escape xs) (escape_byte_plain x (λ e. omega (arith, e, digits.0)) (λ e. omega (arith, e, digits.0)) (omega (arith, digits.0.0)))
    ∙ ap (λ rest. x ∷ rest) (escape-digits xs digits.1)

decimal-digits : (n : ℕ) → n < 2 ^ 64 → AreDigits (decimal n)
unfolding AreDigits
decimal-digits =
    decimal_by_steps (λ m ds. AreDigits ds) (λ m less. ((omega arith, omega arith), tt))
    (λ m ds less digits. AreDigits-append ds ((48 + m % 10) ∷ []) digits ((omega arith, omega arith), tt))

digit_of_ten : (d : ℕ) → d < 10 → digit_character d ≡ 48 + d
digit_of_ten d less = grind (arith, nat_tests)

lowest-digits : (width n : ℕ) → AreDigits (lowest_digits 10 width n)
unfolding AreDigits lowest_digits
lowest-digits zero n = tt
lowest-digits (suc width) n =
    let digit : digit_character (n % 10) ≡ 48 + n % 10 = digit_of_ten (n % 10) (omega arith) in
    AreDigits-append (lowest_digits 10 width (n / 10)) (digit_character (n % 10) ∷ []) (lowest-digits width (n / 10)) ((omega (arith, digit), omega (arith, digit)), tt)

-- a time is written as it is
escape-time : (time : ℕ) → time ≤ largest_time → escape (time_text time) ≡ time_text time
unfolding AreDigits time_text
escape-time time inside =
    escape-digits (time_text time)
    (AreDigits-append (decimal (time / 10 ^ 15)) (46 ∷ lowest_digits 10 15 (time % 10 ^ 15)) (decimal-digits (time / 10 ^ 15) (omega arith))
    ((omega arith, omega arith), lowest-digits 15 (time % 10 ^ 15)))

escape-state : (how : RunState) → escape (state_word how) ≡ state_word how
unfolding escape_byte
escape-state state.Running = refl
escape-state state.Paused = refl
escape-state state.Finished = refl

-- an error has no other text than its two words
error-json : (kind : ErrorKind) → answer_text (answer.Error kind) ≡ compact_text (answer_data (answer.Error kind))
unfolding escape_byte answer_data
error-json error.InvalidJson = refl
error-json error.InvalidPacket = refl
error-json error.InvalidCommand = refl
error-json error.InvalidArgument = refl
error-json error.NotGreeted = refl
error-json error.AlreadyGreeted = refl
error-json error.InvalidVersion = refl
error-json error.InvalidScope = refl
error-json error.InvalidItem = refl
error-json error.InvalidReference = refl
error-json error.InvalidInterval = refl
error-json error.InvalidEncoding = refl
error-json error.PacketTooLong = refl

-- a text that is written as it is, in quotes, before more
quoted-plain : (text more : List ℕ) → escape text ≡ text → text ++ 34 ∷ more ≡ escape text ++ 34 ∷ [] ++ more
quoted-plain text more plain = sym (append_assoc text (34 ∷ []) more) ∙ ap (λ same. same ++ 34 ∷ [] ++ more) (sym plain)

-- the text of a greeting up to its version
abbrev greeting_before : List ℕ
greeting_before = take (length greeting_text - 2) greeting_text

greeting-json : answer_text answer.Greeting ≡ compact_text (answer_data answer.Greeting)
unfolding escape_byte texts answer_data
greeting-json = ap (λ version. greeting_before ++ (version ++ 125 ∷ [])) (sym (decimal_digit 0 (omega arith)))

finished-json : (time : ℕ) → time ≤ largest_time → answer_text (answer.Finished time) ≡ compact_text (answer_data (answer.Finished time))
unfolding escape_byte answer_data
finished-json time inside = ap (λ rest. codes "{\"event\":\"simulation_finished\",\"time\":\"" ++ rest) (quoted-plain (time_text time) (codes ",\"type\":\"event\"}") (escape-time time inside))

pause-json : (time : ℕ) → time ≤ largest_time → answer_text (answer.PauseSimulation time) ≡ compact_text (answer_data (answer.PauseSimulation time))
unfolding escape_byte answer_data
pause-json time inside = ap (λ rest. codes "{\"command\":\"pause_simulation\",\"time\":\"" ++ rest) (quoted-plain (time_text time) (codes ",\"type\":\"response\"}") (escape-time time inside))

paused-json : (time : ℕ) → time ≤ largest_time → (why : Cause) → answer_text (answer.Paused why time) ≡ compact_text (answer_data (answer.Paused why time))
unfolding escape_byte answer_data
paused-json time inside cause.UntilTime = ap (λ rest. codes "{\"cause\":\"until_time\",\"event\":\"simulation_paused\",\"time\":\"" ++ rest) (quoted-plain (time_text time) (codes ",\"type\":\"event\"}") (escape-time time inside))
paused-json time inside cause.UntilDiagnostics = ap (λ rest. codes "{\"cause\":\"until_diagnostics\",\"event\":\"simulation_paused\",\"time\":\"" ++ rest) (quoted-plain (time_text time) (codes ",\"type\":\"event\"}") (escape-time time inside))

-- the time of the next sample among the other keys
next-json : (next : Option ℕ) (more : Members) → IsNoneOrTime next → next_text next ++ members_text true more ≡ members_text true (next_at next more)
unfolding escape_byte answer_data
next-json None more times = refl
next-json (Some time) more times = ap (λ text. codes ",\"next_sample_time\":\"" ++ (text ++ 34 ∷ [] ++ members_text true more)) (sym (escape-time time times))

regroup : (a b c d e f : List ℕ) → a ++ b ++ c ++ d ++ e ++ f ≡ a ++ (b ++ (c ++ (d ++ (e ++ f))))
regroup a b c d e f = append_assoc (a ++ b ++ c ++ d) e f ∙ append_assoc (a ++ b ++ c) d (e ++ f) ∙ append_assoc (a ++ b) c (d ++ (e ++ f)) ∙ append_assoc a b (c ++ (d ++ (e ++ f)))

status-json : (latest : ℕ) (how : RunState) (next : Option ℕ) → (latest ≤ largest_time) × IsNoneOrTime next
    → answer_text (answer.Status latest how next) ≡ compact_text (answer_data (answer.Status latest how next))
unfolding escape_byte answer_data
status-json latest how next times =
    let state = text_at (codes "status") (state_word how) (text_at (codes "type") (codes "response") no_members) in
    ap (λ rest. codes "{\"command\":\"get_simulation_status\",\"latest_time\":\"" ++ rest)
    (regroup (time_text latest) (codes "\"") (next_text next) (codes ",\"status\":\"") (state_word how) (codes "\",\"type\":\"response\"}")
    ∙ ap (λ rest. time_text latest ++ 34 ∷ (next_text next ++ (codes ",\"status\":\"" ++ rest))) (quoted-plain (state_word how) (codes ",\"type\":\"response\"}") (escape-state how))
    ∙ ap (λ rest. time_text latest ++ 34 ∷ rest) (next-json next state times.1)
    ∙ quoted-plain (time_text latest) (members_text true (next_at next state)) (escape-time latest times.0))

-- the text of each answer is that of its keys and their values
pub answer-json : (a : Answer) → AreTimes a → answer_text a ≡ compact_text (answer_data a)
unfolding escape_byte answer_data
answer-json answer.Greeting times = greeting-json
answer-json answer.ReferenceItems times = refl
answer-json answer.RunSimulation times = refl
answer-json (answer.PauseSimulation time) times = pause-json time times
answer-json (answer.Status latest how next) times = status-json latest how next times
answer-json (answer.Paused why time) times = paused-json time times why
answer-json (answer.Finished time) times = finished-json time times
answer-json (answer.Error kind) times = error-json kind

-- the pieces of an answer, and the zero byte, are its packet
pub packet_json : (a : Answer) (text : List ℕ) → AreTimes a → text ≡ answer_text a → text ++ 0 ∷ [] ≡ packet_text (answer_data a)
unfolding packet_text
packet_json a text times is = ap (λ z. z ++ 0 ∷ []) (is ∙ answer-json a times)
