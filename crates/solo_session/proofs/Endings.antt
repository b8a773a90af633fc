-- What a session leaves as it ends, from what its client was served and told.
use Rattle.std.proofs.Common.{◌≡◌, ℕ, List, [], ◌∷◌, ◌++◌, length, refl, sym, ap, subst, arith, ◌∙◌, append-nil, true, Option, inl, inr}
use Rattle.std.specs.Io.KnownBytes.{append_known}
use Rattle.std.proofs.lemmas.List.{append_assoc}
use Rattle.hall_core.specs.declared.entry.Entry.{Entry}
use Rattle.hall_core.specs.declared.entry.Entry.TheVariants as entry
use Rattle.hall_core.specs.declared.entry.Why.{Why}
use Rattle.hall_core.specs.declared.entry.Why.TheVariants as why
use Rattle.outside.specs.Sink.{IsSentInPart}
use Rattle.solo_session.specs.Pace.{packets_of, solo_history}
use Rattle.session_core.specs.Said.{Agrees, last_words, packets_in, said}
use Rattle.solo_session.specs.Session.{HasSaid, Conversation}
use Rattle.solo_session.specs.Solo.{IsBroken, IsReadOn, IsSession, IsWhole, ending_of, is_too_long}
use Rattle.outside.specs.Source.{IsInput}
use Rattle.solo_session.specs.declared.solo.Ending.{Ending}
use Rattle.session_core.proofs.Agreeing.{agrees_more, agrees_other}
use Rattle.session_core.proofs.Sayings.{said_closed, said_more}
use Rattle.solo_session.proofs.Taking.{closed_legal}

-- ---- the end

module _ (s : Conversation) (bytes : List ℕ) (done others : List (List ℕ)) (told : List ℕ) (has : HasSaid done s told) (all : packets_of bytes ≡ done ++ others) (cause : Why) where
  agrees_closed : Agrees s.run (packets_of bytes) 0 (s.history ++ entry.Close 0 cause ∷ entry.End ∷ [])
  agrees_closed =
      subst (λ z. Agrees s.run z 0 (s.history ++ entry.Close 0 cause ∷ entry.End ∷ [])) (sym all)
      (subst (λ z. Agrees s.run (done ++ others) 0 z) (append_assoc s.history (entry.Close 0 cause ∷ []) (entry.End ∷ []))
      (agrees_other s.run (done ++ others) (s.history ++ entry.Close 0 cause ∷ []) entry.End
      (agrees_other s.run (done ++ others) s.history (entry.Close 0 cause) (agrees_more s.run done others 0 s.history has.agrees) refl) refl))

  session_closed : IsSession s.run bytes (s.history ++ entry.Close 0 cause ∷ entry.End ∷ [])
  session_closed = record {
    legal = closed_legal s.run s.history cause has.serving has.taken;
    agrees = agrees_closed;
  }

  told_closed : told ++ last_words cause ≡ said s.run (packets_of bytes) 0 (s.history ++ entry.Close 0 cause ∷ entry.End ∷ [])
  told_closed =
      ap (λ z. z ++ last_words cause) (has.said ∙ sym (said_more s.run done others 0 s.history (let e : packets_in 0 s.history ≡ length done = has.counted in omega (arith, e))))
      ∙ sym (said_closed s.run (done ++ others) s.history cause)
      ∙ ap (λ z. said s.run z 0 (s.history ++ entry.Close 0 cause ∷ entry.End ∷ [])) (sym all)

  -- the history that the bytes give, all of which was told
  pub whole : (left_all left held_all held : Option (List ℕ)) (given : List ℕ) (ends : Ending) → IsInput left_all bytes → ends ≡ ending_of bytes → IsReadOn ends left given
      → solo_history s.run bytes ≡ s.history ++ entry.Close 0 cause ∷ entry.End ∷ [] → held ≡ append_known held_all (told ++ last_words cause)
      → IsWhole (record { run = s.run; left = left_all; held = held_all }) left held (s.history ++ entry.Close 0 cause ∷ entry.End ∷ []) given ends
  whole left_all left held_all held given ends input ended read_on is sent = record {
    bytes = bytes;
    input = input;
    ended = ended;
    read_on = read_on;
    session = session_closed;
    whole = sym is;
    sent = sent ∙ ap (λ z. append_known held_all z) told_closed;
  }

  -- the same, of which a part was told
  pub whole_in_part : (left_all held_all held : Option (List ℕ)) → IsInput left_all bytes → is_too_long bytes ≡ true → solo_history s.run bytes ≡ s.history ++ entry.Close 0 cause ∷ entry.End ∷ [] → IsSentInPart held_all held (told ++ last_words cause)
      → IsBroken (record { run = s.run; left = left_all; held = held_all }) held (s.history ++ entry.Close 0 cause ∷ entry.End ∷ [])
  whole_in_part left_all held_all held input long is sent = record {
    bytes = bytes;
    input = input;
    session = session_closed;
    broken = inr (long, sym is);
    sent = subst (λ z. IsSentInPart held_all held z) told_closed sent;
  }

-- a fault broke the history off
pub cut_off : (s : Conversation) (bytes : List ℕ) (done others : List (List ℕ)) (told : List ℕ) (more : List Entry) (left_all held_all held : Option (List ℕ)) → HasSaid done s told → packets_of bytes ≡ done ++ others → IsInput left_all bytes
    → solo_history s.run bytes ≡ s.history ++ more → IsSentInPart held_all held told
    → IsBroken (record { run = s.run; left = left_all; held = held_all }) held (s.history ++ entry.Close 0 why.Fault ∷ entry.End ∷ [])
cut_off s bytes done others told more left_all held_all held has all input is sent = record {
  bytes = bytes;
  input = input;
  session = session_closed s bytes done others told has all why.Fault;
  broken = inl (record { begun = s.history; more = more; parts = is; cut = refl });
  sent = subst (λ z. IsSentInPart held_all held z) (sym (append-nil told) ∙ told_closed s bytes done others told has all why.Fault) sent;
}
