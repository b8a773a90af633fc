-- What holds of a session as its client's bytes are read goes on to hold, and says how the session ends.
use Rattle.std.proofs.Common.{◌≡◌, ℕ, zero, suc, ◌+◌, ◌-◌, ◌<◌, ◌≤◌, Bool, true, false, List, [], ◌∷◌, ◌++◌, length, map, take, refl, sym, ap, subst, arith, ◌∙◌, append-nil, Option, inl, inr, length-append}
use Rattle.std.specs.Prelude.{nat_lt, if◌then◌else◌}
use Rattle.std.proofs.lemmas.Bool.{cond-true, cond-false}
use Rattle.std.specs.Io.KnownBytes.{IsAtEnd, append_known, prepend_known}
use Rattle.std.proofs.Math.Seq.{take-append-add, take-append_seam}
use Rattle.std.proofs.lemmas.List.{append_assoc, length-take-le}
use Rattle.std.proofs.lemmas.Bool.Decides.{nat_tests}
use Rattle.circuit.specs.Rounds.{run_length, Run}
use Rattle.frame_zero.specs.Packets.{Packet, packets, packets_from, parts_of, too_long, whole, has_too_long, wholes}
use Rattle.hall_core.specs.Facts.{facts_of}
use Rattle.hall_core.specs.Replay.{replay}
use Rattle.hall_core.specs.declared.entry.Entry.TheVariants as entry
use Rattle.hall_core.specs.declared.entry.Why.TheVariants as why
use Rattle.outside.specs.Sink.{TookPart, IsSentInPart}
use Rattle.solo_session.specs.Pace.{batches, closing, input_limit, opening, packets_of, solo_history, with_packets}
use Rattle.solo_session.specs.Reading.{HasRead, IsReading}
use Rattle.session_core.specs.Said.{last_words}
use Rattle.solo_session.specs.Session.{HasSaid, HasServed, IsServedOf, IsServedSoFar, IsServing, Conversation}
use Rattle.solo_session.specs.Solo.{EndsTooLong, IsBroken, IsWhole, Outset, is_too_long}
use Rattle.outside.specs.Source.{IsInput}
use Rattle.solo_session.specs.declared.solo.Ending.TheVariants as ending
use Rattle.outside.proofs.SourceLemmas.{bytes_left, is_input, prepend_two, no_bytes, none_left}
use Rattle.solo_session.proofs.Endings.{cut_off, whole as whole_of, whole_in_part}
use Rattle.outside.proofs.SinkLemmas.{sent_all, sent_more, sent_part, nothing_told}
use Rattle.solo_session.proofs.Extending.{Extends, closing_ended, closing_limit, closing_long, ending_ended, ending_limit, ending_long, extends-closing, extends-more_packets, extends-trans, solo_is}
use Rattle.frame_zero.proofs.Streams.{has_too_long_done, wholes_done, stays_too_long}

-- ---- the outset, and a piece more

pub reads_first : (s : Conversation) (left held : Option (List ℕ)) → HasServed [] s [] → IsReading (record { run = s.run; left = left; held = held }) left held s [] 0
unfolding parts_of packets_from
reads_first s left held served = (
  [],
  record {
    run = refl;
    given = [];
    count = refl;
    within = omega arith;
    read = no_bytes left;
    done = [];
    parts = λ more. refl;
    served = served;
  },
  nothing_told held,
  refl,
)

map_append : (one other : List (List ℕ)) (more : List Packet) → map whole one ++ (map whole other ++ more) ≡ map whole (one ++ other) ++ more
map_append [] other more = refl
map_append (p ∷ one) other more = ap (λ z. whole p ∷ z) (map_append one other more)

pub reads_more : (outset : Outset) (left : Option (List ℕ)) (s now : Conversation) (rest piece more : List ℕ) (taken : ℕ) (told text : List ℕ) → HasRead outset (prepend_known piece left) s rest taken told → taken + length piece ≤ input_limit
    → IsServedSoFar (rest ++ piece) more s now [] text → HasRead outset left now more (taken + length piece) (told ++ text)
reads_more outset left s now rest piece more taken told text read within so_far = record {
  run = so_far.run ∙ read.run;
  given = read.given ++ piece;
  count = length-append read.given piece ∙ ap (λ z. z + length piece) read.count;
  within = within;
  read = read.read ∙ prepend_two read.given piece left;
  done = read.done ++ so_far.done;
  parts = λ later.
      ap packets (append_assoc read.given piece later)
      ∙ read.parts (piece ++ later)
      ∙ ap (λ z. map whole read.done ++ packets z) (sym (append_assoc rest piece later))
      ∙ ap (λ z. map whole read.done ++ z) (so_far.parts later)
      ∙ map_append read.done so_far.done (packets (more ++ later));
  served = so_far.served read.done told (subst (λ z. HasServed read.done s z) (sym (append-nil told)) read.served);
}

pub reading_serves : (outset : Outset) (left held : Option (List ℕ)) (s : Conversation) (rest : List ℕ) (taken : ℕ) → IsReading outset left held s rest taken → IsServing s.run (replay s.history)
reading_serves outset left held s rest taken (told, read, sent, none) = read.served.has_said.serving

-- the first n bytes of a buffer that was written back whole
front_of : (n len : ℕ) (buffer now more : List ℕ) → now ≡ take len (buffer ++ more) → length buffer ≡ len → take n now ≡ take n buffer
front_of n len buffer now more is long = ap (λ z. take n z) (is ∙ ap (λ z. take z (buffer ++ more)) (sym long) ∙ take-append_seam buffer more)

pub front_count : (n len : ℕ) (buffer now more : List ℕ) → now ≡ take len (buffer ++ more) → length buffer ≡ len → n ≤ length buffer → length (take n now) ≡ n
front_count n len buffer now more is long within = ap length (front_of n len buffer now more is long) ∙ length-take-le n buffer within

pub front_some : (n : ℕ) (buffer : List ℕ) → 0 < n → n ≤ length buffer → 0 < length (take n buffer)
front_some n buffer some within = (let e : length (take n buffer) ≡ n = length-take-le n buffer within in omega (arith, e, some))

-- a piece was read, and stands at the front of the buffer
pub reads_piece : (outset : Outset) (before left held : Option (List ℕ)) (s : Conversation) (rest : List ℕ) (taken n len : ℕ) (buffer now more : List ℕ) → IsReading outset before held s rest taken → before ≡ prepend_known (take n buffer) left
    → now ≡ take len (buffer ++ more) → length buffer ≡ len → IsReading outset (prepend_known (take n now) left) held s rest taken
reads_piece outset before left held s rest taken n len buffer now more reading gave is long =
    subst (λ z. IsReading outset z held s rest taken) (gave ∙ ap (λ z. prepend_known z left) (sym (front_of n len buffer now more is long))) reading

-- a turn: the packets that end in a piece were served
pub turned : (outset : Outset) (left : Option (List ℕ)) (s now : Conversation) (rest fed piece more : List ℕ) (taken : ℕ) (told before text : List ℕ) (ends : Bool) → HasRead outset (prepend_known piece left) s rest taken told → taken + length piece ≤ input_limit
    → fed ≡ rest ++ piece → before ≡ [] → IsServedOf fed more ends s now before text → HasRead outset left now more (taken + length piece) (told ++ text)
turned outset left s now rest fed piece more taken told before text ends read within fed_is none served =
    reads_more outset left s now rest piece more taken told text read within (subst (λ z. IsServedSoFar z more s now [] text) fed_is (subst (λ z. IsServedSoFar fed more s now z text) none served.so_far))

pub turned_given : (outset : Outset) (left : Option (List ℕ)) (s now : Conversation) (rest fed piece more : List ℕ) (taken : ℕ) (told before text : List ℕ) (ends : Bool) (read : HasRead outset (prepend_known piece left) s rest taken told) (within : taken + length piece ≤ input_limit)
    (fed_is : fed ≡ rest ++ piece) (none : before ≡ []) (served : IsServedOf fed more ends s now before text) → (turned outset left s now rest fed piece more taken told before text ends read within fed_is none served).given ≡ read.given ++ piece
unfolding turned reads_more
turned_given outset left s now rest fed piece more taken told before text ends read within fed_is none served = refl

pub left_long : (rest : List ℕ) (ends : Bool) → packets rest ≡ (if ends then too_long ∷ [] else []) → ends ≡ true → packets rest ≡ too_long ∷ []
left_long rest ends is long = is ∙ cond-true ends (too_long ∷ []) [] long

pub left_none : (rest : List ℕ) (ends : Bool) → packets rest ≡ (if ends then too_long ∷ [] else []) → ends ≡ false → packets rest ≡ []
left_none rest ends is short = is ∙ cond-false ends (too_long ∷ []) [] short

-- ---- the bytes of the input

-- these are the bytes of the input: those that were read, and more
module _ (outset : Outset) (left : Option (List ℕ)) (s : Conversation) (rest : List ℕ) (taken : ℕ) (told : List ℕ) (read : HasRead outset left s rest taken told) (more : List ℕ) where
  all : List ℕ
  all = read.given ++ more

  -- those behind what was read, as far as bytes are read
  later : List ℕ
  later = take (input_limit - taken) more

  front : take input_limit all ≡ read.given ++ later
  unfolding all later
  front =
      ap (λ z. take z (read.given ++ more)) (let e : length read.given ≡ taken = read.count in let l : taken ≤ input_limit = read.within in let r : input_limit ≡ length read.given + (input_limit - taken) = omega (arith, e, l) in r)
      ∙ take-append-add read.given more (input_limit - taken)

  packets_are : packets (take input_limit all) ≡ map whole read.done ++ packets (rest ++ later)
  packets_are = ap packets front ∙ read.parts later

  packets_all : packets_of all ≡ read.done ++ wholes (packets (rest ++ later))
  packets_all = ap wholes packets_are ∙ wholes_done read.done (packets (rest ++ later))

  too_long_there : is_too_long all ≡ has_too_long (packets (rest ++ later))
  too_long_there = ap has_too_long packets_are ∙ has_too_long_done read.done (packets (rest ++ later))

  some_settle : 1 ≤ run_length s.run
  some_settle = (let a : 1 ≤ (replay s.history).n = read.served.has_said.serving.some in let b : (replay s.history).n ≤ run_length s.run = read.served.has_said.serving.settled in omega (arith, a, b))

  -- the history so far begins that of all packets
  begins_packets : Extends s.history (with_packets s.run [] opening (packets_of all))
  begins_packets =
      subst (λ z. Extends z (with_packets s.run [] opening (packets_of all))) (sym read.served.paced)
      (subst (λ z. Extends (with_packets s.run [] opening read.done) (with_packets s.run [] opening z)) (sym packets_all)
      (extends-more_packets s.run read.done (wholes (packets (rest ++ later)))))

  begins_solo : Extends s.history (solo_history s.run all)
  begins_solo =
      subst (λ z. Extends s.history z) (sym (solo_is s.run all some_settle))
      (extends-trans s.history (with_packets s.run [] opening (packets_of all)) (closing s.run all (with_packets s.run [] opening (packets_of all)))
      begins_packets (extends-closing s.run all (with_packets s.run [] opening (packets_of all))))

  -- where no other packets come, the history is that of all packets
  solo_here : wholes (packets (rest ++ later)) ≡ [] → solo_history s.run all ≡ closing s.run all s.history
  solo_here none =
      solo_is s.run all some_settle
      ∙ ap (λ z. closing s.run all (with_packets s.run [] opening z)) (packets_all ∙ ap (λ z. read.done ++ z) none ∙ append-nil read.done)
      ∙ ap (λ z. closing s.run all z) (sym read.served.paced)

-- the same outset of the run of a session
abbrev pub started : Outset → Run → Outset
started outset run = record { run = run; left = outset.left; held = outset.held }

-- a fault breaks the session off
pub broken : (outset : Outset) (left held : Option (List ℕ)) (s : Conversation) (rest : List ℕ) (taken : ℕ) (told : List ℕ) → HasRead outset left s rest taken told → IsSentInPart outset.held held told
    → IsBroken outset held (s.history ++ entry.Close 0 why.Fault ∷ entry.End ∷ [])
unfolding all
broken outset left held s rest taken told read sent =
    let begins = begins_solo outset left s rest taken told read (bytes_left left) in
    subst (λ (r : Run). IsBroken (started outset r) held (s.history ++ entry.Close 0 why.Fault ∷ entry.End ∷ [])) read.run
    (cut_off s (all outset left s rest taken told read (bytes_left left)) read.done (wholes (packets (rest ++ later outset left s rest taken told read (bytes_left left)))) told begins.0 outset.left outset.held held read.served.has_said
    (packets_all outset left s rest taken told read (bytes_left left)) (is_input outset.left left read.given read.read) begins.1 sent)

pub reading_breaks : (outset : Outset) (left held : Option (List ℕ)) (s : Conversation) (rest : List ℕ) (taken : ℕ) → IsReading outset left held s rest taken → IsBroken outset held (s.history ++ entry.Close 0 why.Fault ∷ entry.End ∷ [])
reading_breaks outset left held s rest taken (told, read, sent, none) = broken outset left held s rest taken told read (sent_all outset.held held told sent)

-- ---- a part that is too long

module _ (outset : Outset) (left : Option (List ℕ)) (s : Conversation) (rest : List ℕ) (taken : ℕ) (told : List ℕ) (read : HasRead outset left s rest taken told) (long : packets rest ≡ too_long ∷ []) where
  long_all : List ℕ
  long_all = all outset left s rest taken told read (bytes_left left)

  long_later : List ℕ
  long_later = later outset left s rest taken told read (bytes_left left)

  behind : packets (rest ++ long_later) ≡ too_long ∷ []
  behind = stays_too_long rest long_later long

  is_long : is_too_long long_all ≡ true
  unfolding has_too_long long_all long_later
  is_long = too_long_there outset left s rest taken told read (bytes_left left) ∙ ap has_too_long behind

  long_packets : packets_of long_all ≡ read.done ++ wholes (packets (rest ++ long_later))
  unfolding long_all long_later
  long_packets = packets_all outset left s rest taken told read (bytes_left left)

  long_input : IsInput outset.left long_all
  unfolding long_all all
  long_input = is_input outset.left left read.given read.read

  solo_long : solo_history s.run long_all ≡ s.history ++ entry.Close 0 why.TooLong ∷ entry.End ∷ []
  unfolding wholes long_all long_later
  solo_long = solo_here outset left s rest taken told read (bytes_left left) (ap wholes behind) ∙ closing_long s.run long_all s.history is_long

  long_whole : EndsTooLong read.given → (held : Option (List ℕ)) → held ≡ append_known outset.held (told ++ last_words why.TooLong) → IsWhole (started outset s.run) left held (s.history ++ entry.Close 0 why.TooLong ∷ entry.End ∷ []) read.given ending.Served
  long_whole ends held sent =
      whole_of s long_all read.done (wholes (packets (rest ++ long_later))) told read.served.has_said long_packets why.TooLong outset.left left outset.held held read.given ending.Served long_input (ending_long long_all is_long) (inr ends) solo_long sent

  long_in_part : (held : Option (List ℕ)) → IsSentInPart outset.held held (told ++ last_words why.TooLong) → IsBroken (started outset s.run) held (s.history ++ entry.Close 0 why.TooLong ∷ entry.End ∷ [])
  long_in_part held sent =
      whole_in_part s long_all read.done (wholes (packets (rest ++ long_later))) told read.served.has_said long_packets why.TooLong outset.left outset.held held long_input is_long solo_long sent

pub refused : (outset : Outset) (left held : Option (List ℕ)) (s : Conversation) (rest : List ℕ) (taken : ℕ) (told : List ℕ) (read : HasRead outset left s rest taken told) → packets rest ≡ too_long ∷ [] → EndsTooLong read.given → held ≡ append_known outset.held (told ++ last_words why.TooLong)
    → IsWhole outset left held (s.history ++ entry.Close 0 why.TooLong ∷ entry.End ∷ []) read.given ending.Served
refused outset left held s rest taken told read long ends sent =
    subst (λ (r : Run). IsWhole (started outset r) left held (s.history ++ entry.Close 0 why.TooLong ∷ entry.End ∷ []) read.given ending.Served) read.run (long_whole outset left s rest taken told read long ends held sent)

pub refused_in_part : (outset : Outset) (left held : Option (List ℕ)) (s : Conversation) (rest : List ℕ) (taken : ℕ) (told : List ℕ) → HasRead outset left s rest taken told → packets rest ≡ too_long ∷ [] → IsSentInPart outset.held held (told ++ last_words why.TooLong)
    → IsBroken outset held (s.history ++ entry.Close 0 why.TooLong ∷ entry.End ∷ [])
refused_in_part outset left held s rest taken told read long sent =
    subst (λ (r : Run). IsBroken (started outset r) held (s.history ++ entry.Close 0 why.TooLong ∷ entry.End ∷ [])) read.run (long_in_part outset left s rest taken told read long held sent)

-- ---- no more bytes are served

module _ (outset : Outset) (left : Option (List ℕ)) (s : Conversation) (rest : List ℕ) (taken : ℕ) (told : List ℕ) (read : HasRead outset left s rest taken told) (more : List ℕ) (none : packets rest ≡ []) (done : later outset left s rest taken told read more ≡ []) where
  none_behind : packets (rest ++ later outset left s rest taken told read more) ≡ []
  none_behind = ap (λ z. packets (rest ++ z)) done ∙ ap packets (append-nil rest) ∙ none

  is_short : is_too_long (all outset left s rest taken told read more) ≡ false
  unfolding has_too_long
  is_short = too_long_there outset left s rest taken told read more ∙ ap has_too_long none_behind

  solo_short : solo_history s.run (all outset left s rest taken told read more) ≡ closing s.run (all outset left s rest taken told read more) s.history
  unfolding wholes
  solo_short = solo_here outset left s rest taken told read more (ap wholes none_behind)

-- ---- more bytes than are read

over_limit : (n : ℕ) → input_limit < n → nat_lt input_limit n ≡ true
over_limit n over = grind (arith, nat_tests)

within_limit : (n : ℕ) → n ≤ input_limit → nat_lt input_limit n ≡ false
within_limit n within = grind (arith, nat_tests)

take_no : (n : ℕ) (bytes : List ℕ) → n ≡ 0 → take n bytes ≡ []
take_no n bytes is = ap (λ z. take z bytes) is

limit_words : (told : List ℕ) → told ++ last_words why.Limit ≡ told
limit_words told = append-nil told

module _ (outset : Outset) (left : Option (List ℕ)) (s : Conversation) (rest piece : List ℕ) (taken : ℕ) (told : List ℕ) (read : HasRead outset (prepend_known piece left) s rest taken told) (none : packets rest ≡ []) (full : taken ≡ input_limit) (some : 0 < length piece) (one : length piece ≤ 1) where
  over_all : List ℕ
  over_all = all outset (prepend_known piece left) s rest taken told read (piece ++ bytes_left left)

  none_later : later outset (prepend_known piece left) s rest taken told read (piece ++ bytes_left left) ≡ []
  unfolding later
  none_later = take_no (input_limit - taken) (piece ++ bytes_left left) (omega (arith, full))

  over_input : IsInput outset.left over_all
  unfolding over_all all
  over_input = subst (λ z. IsInput outset.left z) (append_assoc read.given piece (bytes_left left)) (is_input outset.left left (read.given ++ piece) (read.read ∙ prepend_two read.given piece left))

  is_over : nat_lt input_limit (length over_all) ≡ true
  unfolding over_all all
  is_over = over_limit (length (read.given ++ (piece ++ bytes_left left))) (let e : length read.given ≡ taken = read.count in omega (arith, e, full, some, length-append read.given (piece ++ bytes_left left), length-append piece (bytes_left left)))

  over_short : is_too_long over_all ≡ false
  unfolding over_all
  over_short = is_short outset (prepend_known piece left) s rest taken told read (piece ++ bytes_left left) none none_later

  over_packets : packets_of over_all ≡ read.done ++ wholes (packets (rest ++ later outset (prepend_known piece left) s rest taken told read (piece ++ bytes_left left)))
  unfolding over_all
  over_packets = packets_all outset (prepend_known piece left) s rest taken told read (piece ++ bytes_left left)

  solo_over : solo_history s.run over_all ≡ s.history ++ entry.Close 0 why.Limit ∷ entry.End ∷ []
  unfolding over_all
  solo_over = solo_short outset (prepend_known piece left) s rest taken told read (piece ++ bytes_left left) none none_later ∙ closing_limit s.run over_all s.history over_short is_over

  over_read : length (read.given ++ piece) ≡ input_limit + 1
  over_read = (let e : length read.given ≡ taken = read.count in omega (arith, e, full, some, one, length-append read.given piece))

  over_whole : (held : Option (List ℕ)) → held ≡ append_known outset.held told → IsWhole (started outset s.run) left held (s.history ++ entry.Close 0 why.Limit ∷ entry.End ∷ []) (read.given ++ piece) ending.Limit
  over_whole held sent =
      whole_of s over_all read.done (wholes (packets (rest ++ later outset (prepend_known piece left) s rest taken told read (piece ++ bytes_left left)))) told read.served.has_said over_packets why.Limit
      outset.left left outset.held held (read.given ++ piece) ending.Limit over_input (ending_limit over_all over_short is_over) over_read solo_over (sent ∙ ap (λ z. append_known outset.held z) (sym (limit_words told)))

pub at_limit : (outset : Outset) (left held : Option (List ℕ)) (s : Conversation) (rest piece : List ℕ) (taken : ℕ) (reading : IsReading outset (prepend_known piece left) held s rest taken) → taken ≡ input_limit → 0 < length piece → length piece ≤ 1
    → IsWhole outset left held (s.history ++ entry.Close 0 why.Limit ∷ entry.End ∷ []) (reading.1.given ++ piece) ending.Limit
at_limit outset left held s rest piece taken (told, read, sent, none) full some one =
    subst (λ (r : Run). IsWhole (started outset r) left held (s.history ++ entry.Close 0 why.Limit ∷ entry.End ∷ []) (read.given ++ piece) ending.Limit) read.run (over_whole outset left s rest piece taken told read none full some one held sent)

-- ---- the end of the input

take_none : (n : ℕ) → take {A = ℕ} n [] ≡ []
take_none zero = refl
take_none (suc n) = refl

-- what was asked for is recorded
abbrev pub ran_out : Conversation → Conversation
ran_out s = record s { history = batches (facts_of s.run) s.run.count s.history }

module _ (outset : Outset) (left : Option (List ℕ)) (s : Conversation) (rest : List ℕ) (taken : ℕ) (told text : List ℕ) (read : HasRead outset left s rest taken told) (none : packets rest ≡ []) (ends : IsAtEnd left) (has : HasSaid read.done (ran_out s) (told ++ text)) where
  end_all : List ℕ
  end_all = all outset left s rest taken told read (bytes_left left)

  end_later : later outset left s rest taken told read (bytes_left left) ≡ []
  unfolding later
  end_later = ap (λ z. take (input_limit - taken) z) (none_left left ends) ∙ take_none (input_limit - taken)

  end_input : IsInput outset.left end_all
  unfolding end_all all
  end_input = is_input outset.left left read.given read.read

  end_within : nat_lt input_limit (length end_all) ≡ false
  unfolding end_all all
  end_within = within_limit (length (read.given ++ bytes_left left)) (let e : length read.given ≡ taken = read.count in let l : taken ≤ input_limit = read.within in omega (arith, e, l, length-append read.given (bytes_left left), ap length (none_left left ends)))

  end_short : is_too_long end_all ≡ false
  unfolding end_all
  end_short = is_short outset left s rest taken told read (bytes_left left) none end_later

  end_packets : packets_of end_all ≡ read.done ++ wholes (packets (rest ++ later outset left s rest taken told read (bytes_left left)))
  unfolding end_all
  end_packets = packets_all outset left s rest taken told read (bytes_left left)

  solo_end : solo_history s.run end_all ≡ (ran_out s).history ++ entry.Close 0 why.Ended ∷ entry.End ∷ []
  unfolding end_all
  solo_end = solo_short outset left s rest taken told read (bytes_left left) none end_later ∙ closing_ended s.run end_all s.history end_short end_within

  end_whole : (held : Option (List ℕ)) → held ≡ append_known outset.held (told ++ text) → IsWhole (started outset s.run) left held ((ran_out s).history ++ entry.Close 0 why.Ended ∷ entry.End ∷ []) read.given ending.Served
  end_whole held sent =
      whole_of (ran_out s) end_all read.done (wholes (packets (rest ++ later outset left s rest taken told read (bytes_left left)))) (told ++ text) has end_packets why.Ended
      outset.left left outset.held held read.given ending.Served end_input (ending_ended end_all end_short end_within) (inl ends) solo_end (sent ∙ ap (λ z. append_known outset.held z) (sym (append-nil (told ++ text))))

  end_broken : (held : Option (List ℕ)) → IsSentInPart outset.held held (told ++ text) → IsBroken (started outset s.run) held ((ran_out s).history ++ entry.Close 0 why.Fault ∷ entry.End ∷ [])
  end_broken held sent =
      cut_off (ran_out s) end_all read.done (wholes (packets (rest ++ later outset left s rest taken told read (bytes_left left)))) (told ++ text) (entry.Close 0 why.Ended ∷ entry.End ∷ []) outset.left outset.held held has end_packets end_input solo_end sent

-- what the recording puts behind the text is said to the client
abbrev pub SaysOn : Conversation → Conversation → List ℕ → Type 0
SaysOn s next text = (ps : List (List ℕ)) (sent : List ℕ) → HasSaid ps s (sent ++ []) → HasSaid ps next (sent ++ text)

pub said_on : (s next : Conversation) (text : List ℕ) (ps : List (List ℕ)) (told : List ℕ) → SaysOn s next text → next ≡ ran_out s → HasSaid ps s told → HasSaid ps (ran_out s) (told ++ text)
said_on s next text ps told says is has = subst (λ n. HasSaid ps n (told ++ text)) is (says ps told (subst (λ z. HasSaid ps s z) (sym (append-nil told)) has))

pub finished : (outset : Outset) (left here held : Option (List ℕ)) (s next : Conversation) (rest : List ℕ) (taken : ℕ) (text : List ℕ) (reading : IsReading outset left here s rest taken) → IsAtEnd left → next ≡ ran_out s → SaysOn s next text → held ≡ append_known here text
    → IsWhole outset left held (next.history ++ entry.Close 0 why.Ended ∷ entry.End ∷ []) reading.1.given ending.Served
finished outset left here held s next rest taken text (told, read, sent, none) ends is says all_sent =
    subst (λ (n : Conversation). IsWhole outset left held (n.history ++ entry.Close 0 why.Ended ∷ entry.End ∷ []) read.given ending.Served) (sym is)
    (subst (λ (r : Run). IsWhole (started outset r) left held ((ran_out s).history ++ entry.Close 0 why.Ended ∷ entry.End ∷ []) read.given ending.Served) read.run
    (end_whole outset left s rest taken told text read none ends (said_on s next text read.done told says is read.served.has_said) held (sent_more outset.held here held told text sent all_sent)))

pub finished_in_part : (outset : Outset) (left here held : Option (List ℕ)) (s next : Conversation) (rest : List ℕ) (taken : ℕ) (text : List ℕ) → IsReading outset left here s rest taken → IsAtEnd left → next ≡ ran_out s → SaysOn s next text → TookPart here held text
    → IsBroken outset held (next.history ++ entry.Close 0 why.Fault ∷ entry.End ∷ [])
finished_in_part outset left here held s next rest taken text (told, read, sent, none) ends is says part =
    subst (λ (n : Conversation). IsBroken outset held (n.history ++ entry.Close 0 why.Fault ∷ entry.End ∷ [])) (sym is)
    (subst (λ (r : Run). IsBroken (started outset r) held ((ran_out s).history ++ entry.Close 0 why.Fault ∷ entry.End ∷ [])) read.run
    (end_broken outset left s rest taken told text read none ends (said_on s next text read.done told says is read.served.has_said) held (sent_part outset.held here held told text sent part)))
