-- What was read and sent when a session ends, or when memory is wanting.
use Rattle.std.proofs.Common.{◌≡◌, ℕ, ◌≤◌, List, [], ◌∷◌, ◌++◌, length, map, sym, ap, subst, arith, ◌∙◌, append-nil, Option, Some, true, false, inl, inr, length-append, Ok, Err}
use Rattle.std.specs.Prelude.{OnErr}
use Rattle.std.specs.declared.result.Result.{Result}
use Rattle.std.specs.Io.KnownBytes.{append_known, prepend_known}
use Rattle.std.proofs.lemmas.List.{append_assoc, take_all}
use Rattle.circuit.specs.Rounds.{Run}
use Rattle.frame_zero.specs.Packets.{Packet, has_too_long, packets, too_long, whole, wholes}
use Rattle.hall_core.specs.declared.entry.Entry.{Entry}
use Rattle.hall_core.specs.declared.entry.Entry.TheVariants as entry
use Rattle.hall_core.specs.declared.entry.Why.TheVariants as why
use Rattle.solo_session.specs.Pace.{course, input_limit, opening, packets_of, solo_history, with_packets}
use Rattle.solo_session.specs.Reading.{HasRead, IsOutputCause, IsReading}
use Rattle.session_core.specs.Said.{said, said_behind}
use Rattle.solo_session.specs.Session.{Conversation}
use Rattle.solo_session.specs.Solo.{IsBroken, IsCause, IsEnded, IsEndedBy, IsReadOf, IsServedTo, IsWanting, IsWhole, Outset, due}
use Rattle.outside.specs.Faults.{Rose}
use Rattle.outside.specs.Sink.{IsSentInPart, SinkSeen}
use Rattle.outside.specs.Source.{SourceSeen}
use Rattle.solo_session.specs.declared.solo.Ending.{Ending}
use Rattle.solo_session.specs.declared.solo.Ending.TheVariants as ending
use Rattle.outside.proofs.SinkLemmas.{sent_all}
use Rattle.frame_zero.proofs.Streams.{has_too_long_done, wholes_done}
use Rattle.outside.proofs.SourceLemmas.{prepend_two}
use Rattle.solo_session.proofs.Reading.{reading_breaks, started}
use Rattle.session_core.proofs.Sayings.{said-append, said_closed}

pub on_err : {T E P : Type 0} (r : Result T E) → P → OnErr r P
on_err (Ok x) p = tt
on_err (Err e) p = p

-- ---- what was read

pub read_of : (outset : Outset) (left : Option (List ℕ)) (s : Conversation) (rest : List ℕ) (taken : ℕ) (told : List ℕ) (read : HasRead outset left s rest taken told) → IsReadOf outset.left left read.given
read_of outset left s rest taken told read = record {
  few = (let e : length read.given ≡ taken = read.count in let l : taken ≤ input_limit = read.within in omega (arith, e, l));
  read = read.read;
}

pub ended_by : (outset : Outset) (left held : Option (List ℕ)) (s : Conversation) (rest : List ℕ) (taken : ℕ) (told : List ℕ) (history : List Entry) (ends : Ending) (read : HasRead outset left s rest taken told)
    → IsEndedBy outset left held history read.given ends → IsEnded outset left held history ends
ended_by outset left held s rest taken told history ends read by = record { given = read.given; taken = read_of outset left s rest taken told read; by = by }

-- one byte more than are served was read
pub over_by : (outset : Outset) (left held here : Option (List ℕ)) (s : Conversation) (rest piece : List ℕ) (taken : ℕ) (history : List Entry) (reading : IsReading outset (prepend_known piece left) here s rest taken) → length piece ≤ 1
    → IsWhole outset left held history (reading.1.given ++ piece) ending.Limit → IsEnded outset left held history ending.Limit
over_by outset left held here s rest piece taken history (told, read, sent, none) one by = record {
  given = read.given ++ piece;
  taken = record {
    few = (let e : length read.given ≡ taken = read.count in let l : taken ≤ input_limit = read.within in omega (arith, e, l, one, length-append read.given piece));
    read = read.read ∙ prepend_two read.given piece left;
  };
  by = by;
}

-- ---- by what was read

read_within : (outset : Outset) (left : Option (List ℕ)) (s : Conversation) (rest : List ℕ) (taken : ℕ) (told : List ℕ) (read : HasRead outset left s rest taken told) → length read.given ≤ input_limit
read_within outset left s rest taken told read = (let e : length read.given ≡ taken = read.count in let l : taken ≤ input_limit = read.within in omega (arith, e, l))

-- the packets of the bytes that were read, and those behind them
read_packets : (outset : Outset) (left : Option (List ℕ)) (s : Conversation) (rest : List ℕ) (taken : ℕ) (told : List ℕ) (read : HasRead outset left s rest taken told) → packets read.given ≡ map whole read.done ++ packets rest
read_packets outset left s rest taken told read = ap packets (sym (append-nil read.given)) ∙ read.parts [] ∙ ap (λ z. map whole read.done ++ packets z) (append-nil rest)

pub given_packets : (outset : Outset) (left : Option (List ℕ)) (s : Conversation) (rest : List ℕ) (taken : ℕ) (told : List ℕ) (read : HasRead outset left s rest taken told) → wholes (packets rest) ≡ [] → packets_of read.given ≡ read.done
given_packets outset left s rest taken told read none =
    ap (λ z. wholes (packets z)) (take_all input_limit read.given (read_within outset left s rest taken told read))
    ∙ ap wholes (read_packets outset left s rest taken told read)
    ∙ wholes_done read.done (packets rest) ∙ ap (λ z. read.done ++ z) none ∙ append-nil read.done

pub given_long : (outset : Outset) (left : Option (List ℕ)) (s : Conversation) (rest : List ℕ) (taken : ℕ) (told : List ℕ) (read : HasRead outset left s rest taken told) → has_too_long (packets read.given) ≡ has_too_long (packets rest)
given_long outset left s rest taken told read = ap has_too_long (read_packets outset left s rest taken told read) ∙ has_too_long_done read.done (packets rest)

pub none_whole : (ps : List Packet) → ps ≡ [] → wholes ps ≡ []
unfolding wholes
none_whole ps is = ap wholes is

pub none_whole_long : (ps : List Packet) → ps ≡ too_long ∷ [] → wholes ps ≡ []
unfolding wholes
none_whole_long ps is = ap wholes is

pub none_long : (ps : List Packet) → ps ≡ [] → has_too_long ps ≡ false
unfolding has_too_long
none_long ps is = ap has_too_long is

pub is_long : (ps : List Packet) → ps ≡ too_long ∷ [] → has_too_long ps ≡ true
unfolding has_too_long
is_long ps is = ap has_too_long is

-- the history, and what was told, are those of the packets of the bytes that were read
pub course_is : (outset : Outset) (left : Option (List ℕ)) (s : Conversation) (rest : List ℕ) (taken : ℕ) (told : List ℕ) (read : HasRead outset left s rest taken told) → wholes (packets rest) ≡ [] → s.history ≡ course s.run read.given
course_is outset left s rest taken told read none = read.served.paced ∙ ap (λ z. with_packets s.run [] opening z) (sym (given_packets outset left s rest taken told read none))

pub due_is : (outset : Outset) (left : Option (List ℕ)) (s : Conversation) (rest : List ℕ) (taken : ℕ) (told : List ℕ) (read : HasRead outset left s rest taken told) → wholes (packets rest) ≡ [] → told ≡ due s.run read.given
due_is outset left s rest taken told read none =
    read.served.has_said.said
    ∙ ap (λ z. said s.run z 0 s.history) (sym (given_packets outset left s rest taken told read none))
    ∙ ap (λ z. said s.run (packets_of read.given) 0 z) (course_is outset left s rest taken told read none)

served_to : (outset : Outset) (left held : Option (List ℕ)) (s : Conversation) (rest : List ℕ) (taken : ℕ) (told : List ℕ) (read : HasRead outset left s rest taken told) → held ≡ append_known outset.held told → packets rest ≡ []
    → IsServedTo (started outset s.run) held (s.history ++ entry.Close 0 why.Fault ∷ entry.End ∷ []) read.given
served_to outset left held s rest taken told read sent none =
    let same : packets_of read.given ≡ read.done = given_packets outset left s rest taken told read (none_whole (packets rest) none) in
    record {
      whole = ap (λ z. z ++ entry.Close 0 why.Fault ∷ entry.End ∷ []) (course_is outset left s rest taken told read (none_whole (packets rest) none));
      sent = sent
          ∙ ap (λ z. append_known outset.held z)
          (read.served.has_said.said ∙ sym (append-nil (said s.run read.done 0 s.history)) ∙ sym (said_closed s.run read.done s.history why.Fault)
          ∙ ap (λ z. said s.run z 0 (s.history ++ entry.Close 0 why.Fault ∷ entry.End ∷ [])) (sym same));
    }

-- ---- the input failed

pub input_fails : (outset : Outset) (left held : Option (List ℕ)) (s : Conversation) (rest : List ℕ) (taken : ℕ) → IsReading outset left held s rest taken
    → IsEnded outset left held (s.history ++ entry.Close 0 why.Fault ∷ entry.End ∷ []) ending.InputFailed
input_fails outset left held s rest taken (told, read, sent, none) =
    ended_by outset left held s rest taken told (s.history ++ entry.Close 0 why.Fault ∷ entry.End ∷ []) ending.InputFailed read (
      reading_breaks outset left held s rest taken (told, read, sent, none),
      subst (λ (r : Run). IsServedTo (started outset r) held (s.history ++ entry.Close 0 why.Fault ∷ entry.End ∷ []) read.given) read.run (served_to outset left held s rest taken told read sent none),
    )

-- ---- memory is wanting

longer : (before now : Option (List ℕ)) (bytes more all : List ℕ) → IsSentInPart before now bytes → all ≡ bytes ++ more → IsSentInPart before now all
longer before now bytes more all part is = record {
  sent = part.sent;
  more = part.more ++ more;
  parts = is ∙ ap (λ z. z ++ more) part.parts ∙ append_assoc part.sent part.more more;
  holds = part.holds;
}

-- what a history says that a fault broke off is a beginning of what the whole one says
cut_says : (run : Run) (ps : List (List ℕ)) (begun more history solo : List Entry) → solo ≡ begun ++ more → history ≡ begun ++ entry.Close 0 why.Fault ∷ entry.End ∷ []
    → said run ps 0 solo ≡ said run ps 0 history ++ said_behind run ps 0 begun more
cut_says run ps begun more history solo parts cut =
    ap (said run ps 0) parts ∙ said-append run ps 0 begun more
    ∙ ap (λ z. z ++ said_behind run ps 0 begun more) (sym (append-nil (said run ps 0 begun)) ∙ sym (said_closed run ps begun why.Fault) ∙ ap (said run ps 0) (sym cut))

pub broken_wanting : (outset : Outset) (held : Option (List ℕ)) (history : List Entry) → IsBroken outset held history → IsWanting outset held
broken_wanting outset held history b = record {
  bytes = b.bytes;
  input = b.input;
  sent =
      elim b.broken [
        | inl cut ↦
            longer outset.held held (said outset.run (packets_of b.bytes) 0 history) (said_behind outset.run (packets_of b.bytes) 0 cut.begun cut.more)
            (said outset.run (packets_of b.bytes) 0 (solo_history outset.run b.bytes)) b.sent
            (cut_says outset.run (packets_of b.bytes) cut.begun cut.more history (solo_history outset.run b.bytes) cut.parts cut.cut)
        | inr same ↦ subst (λ (h : List Entry). IsSentInPart outset.held held (said outset.run (packets_of b.bytes) 0 h)) same.1 b.sent
      ];
}

pub whole_wanting : (outset : Outset) (left held : Option (List ℕ)) (history : List Entry) (given : List ℕ) (ends : Ending) → IsWhole outset left held history given ends → IsWanting outset held
whole_wanting outset left held history given ends w = record {
  bytes = w.bytes;
  input = w.input;
  sent = subst (λ (h : List Entry). IsSentInPart outset.held held (said outset.run (packets_of w.bytes) 0 h)) w.whole (sent_all outset.held held (said outset.run (packets_of w.bytes) 0 history) w.sent);
}

pub reading_wanting : (outset : Outset) (left held : Option (List ℕ)) (s : Conversation) (rest : List ℕ) (taken : ℕ) → IsReading outset left held s rest taken → IsWanting outset held
reading_wanting outset left held s rest taken reading = broken_wanting outset held (s.history ++ entry.Close 0 why.Fault ∷ entry.End ∷ []) (reading_breaks outset left held s rest taken reading)

-- what an ending says of the output's count holds of both counts, where these stood still before
pub cause_behind : (ends : Ending) (input here : SourceSeen) (out before now : SinkSeen) → here.faults ≡ input.faults → before.faults ≡ out.faults → IsOutputCause (Some ends) before now → IsCause ends input here out now
cause_behind ending.Served input here out before now same still is = (same, (is input).1 ∙ still)
cause_behind ending.Limit input here out before now same still is = (same, (is input).1 ∙ still)
cause_behind ending.InputFailed input here out before now same still is = (subst (λ n. Rose input.faults n) (sym same) (is input).0, (is input).1 ∙ still)
cause_behind ending.OutputFailed input here out before now same still is = (same, subst (λ n. Rose n now.faults) still (is input).1)
