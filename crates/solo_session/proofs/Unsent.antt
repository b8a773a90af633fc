-- What a write leaves that failed.
use Rattle.std.proofs.Common.{◌≡◌, ℕ, ◌≤◌, List, [], ◌∷◌, ◌++◌, length, refl, sym, ap, subst, arith, ◌∙◌, append-nil, Option}
use Rattle.std.specs.Io.KnownBytes.{IsAtEnd, append_known, prepend_known}
use Rattle.std.proofs.lemmas.List.{append_assoc}
use Rattle.circuit.specs.Rounds.{Run}
use Rattle.frame_zero.specs.Packets.{packets, too_long, wholes}
use Rattle.hall_core.specs.Facts.{facts_of}
use Rattle.hall_core.specs.declared.entry.Entry.{Entry}
use Rattle.hall_core.specs.declared.entry.Entry.TheVariants as entry
use Rattle.hall_core.specs.declared.entry.Why.{Why}
use Rattle.hall_core.specs.declared.entry.Why.TheVariants as why
use Rattle.outside.specs.Sink.{IsSentInPart, TookPart}
use Rattle.outside.proofs.SinkLemmas.{TookPart-append, sent_more, sent_part}
use Rattle.session_core.specs.Said.{last_words, said}
use Rattle.session_core.proofs.Sayings.{said_closed}
use Rattle.solo_session.specs.Pace.{batches, course, packets_of, piece_limit}
use Rattle.solo_session.specs.Reading.{HasRead, IsReading, IsSentBy}
use Rattle.solo_session.specs.Session.{Conversation, HasSaid}
use Rattle.solo_session.specs.Solo.{EndsTooLong, IsCutShort, IsEnded, IsLastPiece, IsUnsent, Outset, at_end, behind_piece, behind_too_long, due}
use Rattle.solo_session.specs.declared.solo.Ending.{Ending}
use Rattle.solo_session.specs.declared.solo.Ending.TheVariants as ending
use Rattle.solo_session.proofs.Leaving.{course_is, due_is, ended_by, given_long, given_packets, is_long, none_long, none_whole, none_whole_long}
use Rattle.solo_session.proofs.Reading.{SaysOn, broken, ran_out, refused, refused_in_part, said_on}

unsent : (outset : Outset) (left here held : Option (List ℕ)) (history : List Entry) (earlier last given told text : List ℕ) → IsLastPiece given earlier last → IsCutShort outset.run left given last history
    → told ≡ due outset.run earlier → here ≡ append_known outset.held told → said outset.run (packets_of given) 0 history ≡ told ++ text → TookPart here held text → IsUnsent outset left held history given
unsent outset left here held history earlier last given told text is_last closed is sent says part = record {
  earlier = earlier;
  last = last;
  is_last = is_last;
  closed = closed;
  rest = text;
  says = says ∙ ap (λ z. z ++ text) is;
  part = subst (λ z. TookPart z held text) (sent ∙ ap (λ z. append_known outset.held z) is) part;
}

-- nothing was read behind a piece
pub last_piece : (outset : Outset) (left : Option (List ℕ)) (s : Conversation) (rest : List ℕ) (taken : ℕ) (told : List ℕ) (read : HasRead outset left s rest taken told) (piece given : List ℕ) → packets rest ≡ [] → length piece ≤ piece_limit
    → given ≡ read.given ++ piece → IsLastPiece given read.given piece
last_piece outset left s rest taken told read piece given none few is = record { parts = is; few = few; goes_on = given_long outset left s rest taken told read ∙ none_long (packets rest) none }

-- ---- what was told, once the client is let go

module _ (outset : Outset) (left : Option (List ℕ)) (s : Conversation) (rest : List ℕ) (taken : ℕ) (told : List ℕ) (read : HasRead outset left s rest taken told) (none : wholes (packets rest) ≡ []) where
  told_is : told ≡ due outset.run read.given
  told_is = due_is outset left s rest taken told read none ∙ ap (λ (r : Run). due r read.given) read.run

  history_is : (cause : Why) → s.history ++ entry.Close 0 cause ∷ entry.End ∷ [] ≡ course outset.run read.given ++ entry.Close 0 cause ∷ entry.End ∷ []
  history_is cause = ap (λ z. z ++ entry.Close 0 cause ∷ entry.End ∷ []) (course_is outset left s rest taken told read none ∙ ap (λ (r : Run). course r read.given) read.run)

  says_closed : (cause : Why) → said outset.run (packets_of read.given) 0 (s.history ++ entry.Close 0 cause ∷ entry.End ∷ []) ≡ told ++ last_words cause
  says_closed cause =
      ap (λ (r : Run). said r (packets_of read.given) 0 (s.history ++ entry.Close 0 cause ∷ entry.End ∷ [])) (sym read.run)
      ∙ said_closed s.run (packets_of read.given) s.history cause
      ∙ ap (λ z. z ++ last_words cause) (ap (λ z. said s.run z 0 s.history) (given_packets outset left s rest taken told read none) ∙ sym read.served.has_said.said)

-- ---- behind a piece

module _ (outset : Outset) (left here held : Option (List ℕ)) (s now : Conversation) (rest more piece : List ℕ) (taken after : ℕ) (told text : List ℕ) (before : HasRead outset (prepend_known piece left) s rest taken told) (read : HasRead outset left now more after (told ++ text)) (given : read.given ≡ before.given ++ piece) (none : packets rest ≡ []) (few : length piece ≤ piece_limit) (sent : here ≡ append_known outset.held told) where
  is_last : IsLastPiece read.given before.given piece
  is_last = last_piece outset (prepend_known piece left) s rest taken told before piece read.given none few given

  behind : (cause : Why) → IsCutShort outset.run left read.given piece (now.history ++ entry.Close 0 cause ∷ entry.End ∷ []) → wholes (packets more) ≡ [] → TookPart here held (text ++ last_words cause)
      → IsUnsent outset left held (now.history ++ entry.Close 0 cause ∷ entry.End ∷ []) read.given
  behind cause closed whole part =
      unsent outset left here held (now.history ++ entry.Close 0 cause ∷ entry.End ∷ []) before.given piece read.given told (text ++ last_words cause) is_last closed
      (told_is outset (prepend_known piece left) s rest taken told before (none_whole (packets rest) none)) sent
      (says_closed outset left now more after (told ++ text) read whole cause ∙ append_assoc told text (last_words cause)) part

  pub piece_unsent : packets more ≡ [] → TookPart here held text → IsUnsent outset left held (now.history ++ entry.Close 0 why.Fault ∷ entry.End ∷ []) read.given
  piece_unsent none_more part =
      behind why.Fault (behind_piece (given_long outset left now more after (told ++ text) read ∙ none_long (packets more) none_more) (history_is outset left now more after (told ++ text) read (none_whole (packets more) none_more) why.Fault))
      (none_whole (packets more) none_more) (TookPart-append here held text [] part)

  pub long_unsent : packets more ≡ too_long ∷ [] → TookPart here held (text ++ last_words why.TooLong) → IsUnsent outset left held (now.history ++ entry.Close 0 why.TooLong ∷ entry.End ∷ []) read.given
  long_unsent long part =
      behind why.TooLong (behind_too_long (given_long outset left now more after (told ++ text) read ∙ is_long (packets more) long) (history_is outset left now more after (told ++ text) read (none_whole_long (packets more) long) why.TooLong))
      (none_whole_long (packets more) long) part

  pub ends_long : packets more ≡ too_long ∷ [] → EndsTooLong read.given
  ends_long long = record { earlier = before.given; last = piece; is_last = is_last; long = given_long outset left now more after (told ++ text) read ∙ is_long (packets more) long }

  -- how the session ends behind a part that is too long, by whether the text came
  pub long_ends : (ends : Ending) → packets more ≡ too_long ∷ [] → IsSentBy ends here held (text ++ last_words why.TooLong) → IsEnded outset left held (now.history ++ entry.Close 0 why.TooLong ∷ entry.End ∷ []) ends
  long_ends ending.Served long came =
      ended_by outset left held now more after (told ++ text) (now.history ++ entry.Close 0 why.TooLong ∷ entry.End ∷ []) ending.Served read
      (refused outset left held now more after (told ++ text) read long (ends_long long)
      (sent_more outset.held here held told (text ++ last_words why.TooLong) sent came ∙ ap (λ z. append_known outset.held z) (sym (append_assoc told text (last_words why.TooLong)))))
  long_ends ending.Limit long came = absurd came
  long_ends ending.InputFailed long came = absurd came
  long_ends ending.OutputFailed long part =
      ended_by outset left held now more after (told ++ text) (now.history ++ entry.Close 0 why.TooLong ∷ entry.End ∷ []) ending.OutputFailed read (
        refused_in_part outset left held now more after (told ++ text) read long
            (subst (λ z. IsSentInPart outset.held held z) (sym (append_assoc told text (last_words why.TooLong))) (sent_part outset.held here held told (text ++ last_words why.TooLong) sent part)),
        long_unsent long part,
      )

  -- how it ends where the answers did not come
  pub piece_ends : packets more ≡ [] → TookPart here held text → IsEnded outset left held (now.history ++ entry.Close 0 why.Fault ∷ entry.End ∷ []) ending.OutputFailed
  piece_ends none_more part =
      ended_by outset left held now more after (told ++ text) (now.history ++ entry.Close 0 why.Fault ∷ entry.End ∷ []) ending.OutputFailed read (
        broken outset left held now more after (told ++ text) read (sent_part outset.held here held told text sent part),
        piece_unsent none_more part,
      )

-- ---- at the end

module _ (outset : Outset) (left here held : Option (List ℕ)) (s : Conversation) (rest : List ℕ) (taken : ℕ) (told text : List ℕ) (read : HasRead outset left s rest taken told) (none : packets rest ≡ []) (ends : IsAtEnd left) (sent : here ≡ append_known outset.held told) (has : HasSaid read.done (ran_out s) (told ++ text)) (part : TookPart here held text) where
  at_last : IsLastPiece read.given read.given []
  at_last = record { parts = sym (append-nil read.given); few = omega arith; goes_on = given_long outset left s rest taken told read ∙ none_long (packets rest) none }

  all : packets_of read.given ≡ read.done
  all = given_packets outset left s rest taken told read (none_whole (packets rest) none)

  ran_is : (ran_out s).history ++ entry.Close 0 why.Fault ∷ entry.End ∷ [] ≡ batches (facts_of outset.run) outset.run.count (course outset.run read.given) ++ entry.Close 0 why.Fault ∷ entry.End ∷ []
  ran_is =
      ap (λ z. batches (facts_of s.run) s.run.count z ++ entry.Close 0 why.Fault ∷ entry.End ∷ []) (course_is outset left s rest taken told read (none_whole (packets rest) none))
      ∙ ap (λ (r : Run). batches (facts_of r) r.count (course r read.given) ++ entry.Close 0 why.Fault ∷ entry.End ∷ []) read.run

  says_ran : said outset.run (packets_of read.given) 0 ((ran_out s).history ++ entry.Close 0 why.Fault ∷ entry.End ∷ []) ≡ told ++ text
  says_ran =
      ap (λ (r : Run). said r (packets_of read.given) 0 ((ran_out s).history ++ entry.Close 0 why.Fault ∷ entry.End ∷ [])) (sym read.run)
      ∙ said_closed s.run (packets_of read.given) (ran_out s).history why.Fault
      ∙ append-nil (said s.run (packets_of read.given) 0 (ran_out s).history)
      ∙ ap (λ z. said s.run z 0 (ran_out s).history) all
      ∙ sym has.said

  end_unsent : IsUnsent outset left held ((ran_out s).history ++ entry.Close 0 why.Fault ∷ entry.End ∷ []) read.given
  end_unsent =
      unsent outset left here held ((ran_out s).history ++ entry.Close 0 why.Fault ∷ entry.End ∷ []) read.given [] read.given told text at_last (at_end ends refl ran_is)
      (told_is outset left s rest taken told read (none_whole (packets rest) none)) sent says_ran part

pub finish_unsent : (outset : Outset) (left here held : Option (List ℕ)) (s next : Conversation) (rest : List ℕ) (taken : ℕ) (text : List ℕ) (reading : IsReading outset left here s rest taken) → IsAtEnd left → next ≡ ran_out s → SaysOn s next text → TookPart here held text
    → IsUnsent outset left held (next.history ++ entry.Close 0 why.Fault ∷ entry.End ∷ []) reading.1.given
finish_unsent outset left here held s next rest taken text (told, read, sent, none) ends is says part =
    subst (λ (n : Conversation). IsUnsent outset left held (n.history ++ entry.Close 0 why.Fault ∷ entry.End ∷ []) read.given) (sym is)
    (end_unsent outset left here held s rest taken told text read none ends sent (said_on s next text read.done told says is read.served.has_said) part)
