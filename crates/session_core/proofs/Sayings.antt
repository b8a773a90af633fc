-- What a history gives to a client, as the history and the client's packets grow.
use Rattle.std.proofs.Common.{◌≡◌, ℕ, zero, suc, ◌+◌, ◌<◌, ◌≤◌, Bool, true, false, List, [], ◌∷◌, ◌++◌, length, take, refl, sym, ap, subst, arith, ◌∙◌, append-nil, cond, Some}
use Rattle.std.specs.Prelude.{◌==◌, ◌&&◌, ◌||◌, slice_get}
use Rattle.std.specs.List.{list_all}
use Rattle.std.proofs.lemmas.Bool.{and_parts, false≢true}
use Rattle.std.proofs.lemmas.List.{append_assoc, length_push, take-append-le}
use Rattle.std.proofs.Math.Seq.{take-append_seam, take-length}
use Rattle.std.proofs.lemmas.List.Sums.{fold_push, sum_by-append}
use Rattle.circuit.specs.Rounds.{Run}
use Rattle.hall_core.specs.Laws.{is_recording}
use Rattle.hall_core.specs.Legal.{is_open}
use Rattle.hall_core.specs.Replay.{Replayed, after, replay}
use Rattle.hall_core.specs.declared.entry.Act.{Act}
use Rattle.hall_core.specs.declared.entry.Act.TheVariants as act
use Rattle.hall_core.specs.declared.entry.Entry.{Entry}
use Rattle.hall_core.specs.declared.entry.Entry.TheVariants as entry
use Rattle.hall_core.specs.declared.entry.Why.{Why}
use Rattle.hall_core.proofs.Progress.{replay-push}
use Rattle.proto_packets.specs.Asked.{asked}
use Rattle.proto_replies.specs.Data.{packet_text}
use Rattle.session_core.specs.Refusals.{Client, client_after, client_of, greets, is_greeted, new_client}
use Rattle.hall_core.specs.Moments.{Moment, moment_of}
use Rattle.session_core.specs.Replies.{answer_in, event, events}
use Rattle.session_core.specs.Said.{answered, given_by, is_packet_of, last_words, listens, packets_in, reply_at, reply_to, said, said_behind}

-- ---- a longer history

said_behind-append : (run : Run) (packets : List (List ℕ)) (c : ℕ) (before one other : List Entry) → said_behind run packets c before (one ++ other) ≡ said_behind run packets c before one ++ said_behind run packets c (before ++ one) other
unfolding said_behind
said_behind-append run packets c before [] other = ap (λ z. said_behind run packets c z other) (sym (append-nil before))
said_behind-append run packets c before (e ∷ one) other =
    ap (λ z. given_by run packets c before e ++ z) (said_behind-append run packets c (before ++ e ∷ []) one other)
    ∙ sym (append_assoc (given_by run packets c before e) (said_behind run packets c (before ++ e ∷ []) one) _)
    ∙ ap (λ z. (given_by run packets c before e ++ said_behind run packets c (before ++ e ∷ []) one) ++ said_behind run packets c z other) (append_assoc before (e ∷ []) one)

pub said-append : (run : Run) (packets : List (List ℕ)) (c : ℕ) (h more : List Entry) → said run packets c (h ++ more) ≡ said run packets c h ++ said_behind run packets c h more
said-append run packets c h more = said_behind-append run packets c [] h more

said_behind-one : (run : Run) (packets : List (List ℕ)) (c : ℕ) (before : List Entry) (e : Entry) → said_behind run packets c before (e ∷ []) ≡ given_by run packets c before e
unfolding said_behind
said_behind-one run packets c before e = append-nil (given_by run packets c before e)

pub said_push : (run : Run) (packets : List (List ℕ)) (c : ℕ) (h : List Entry) (e : Entry) → said run packets c (h ++ e ∷ []) ≡ said run packets c h ++ given_by run packets c h e
said_push run packets c h e = said-append run packets c h (e ∷ []) ∙ ap (λ z. said run packets c h ++ z) (said_behind-one run packets c h e)

-- ---- how many packets

pub client_push : (earlier : List (List ℕ)) (p : List ℕ) → client_of (earlier ++ p ∷ []) ≡ client_after (client_of earlier) (asked p)
client_push earlier p = fold_push (λ (client : Client) (packet : List ℕ). client_after client (asked packet)) new_client earlier p

pub is_greeted_push : (earlier : List (List ℕ)) (p : List ℕ) → is_greeted (earlier ++ p ∷ []) ≡ (is_greeted earlier || greets (asked p))
is_greeted_push earlier p = ap (λ (client : Client). client.greeted) (client_push earlier p)

pub packets_in-append : (c : ℕ) (h more : List Entry) → packets_in c (h ++ more) ≡ packets_in c h + packets_in c more
packets_in-append c h more = sum_by-append (λ e. cond (is_packet_of c e) 1 0) h more

pub one_packet : (c : ℕ) (e : Entry) → is_packet_of c e ≡ true → packets_in c (e ∷ []) ≡ 1
one_packet c e h = rw h refl

no_packet : (c : ℕ) (e : Entry) → is_packet_of c e ≡ false → packets_in c (e ∷ []) ≡ 0
no_packet c e h = rw h refl

pub packets_in-push_yes : (c : ℕ) (h : List Entry) (e : Entry) → is_packet_of c e ≡ true → packets_in c (h ++ e ∷ []) ≡ packets_in c h + 1
packets_in-push_yes c h e is = packets_in-append c h (e ∷ []) ∙ ap (λ z. packets_in c h + z) (one_packet c e is)

pub packets_in-push_no : (c : ℕ) (h : List Entry) (e : Entry) → is_packet_of c e ≡ false → packets_in c (h ++ e ∷ []) ≡ packets_in c h
packets_in-push_no c h e is = omega (arith, packets_in-append c h (e ∷ []), no_packet c e is)

pub packets_in_push_packet : (h : List Entry) (what : Act) → packets_in 0 (h ++ entry.Packet 0 what ∷ []) ≡ packets_in 0 h + 1
packets_in_push_packet h what = packets_in-push_yes 0 h (entry.Packet 0 what) refl

pub packets_in_other : (h : List Entry) (e : Entry) → is_packet_of 0 e ≡ false → packets_in 0 (h ++ e ∷ []) ≡ packets_in 0 h
packets_in_other h e is = packets_in-push_no 0 h e is

pub recording_is_no_packet : (c : ℕ) (e : Entry) → is_recording e ≡ true → is_packet_of c e ≡ false
recording_is_no_packet c (entry.Open d) h = absurd (false≢true h)
recording_is_no_packet c (entry.Packet d what) h = absurd (false≢true h)
recording_is_no_packet c (entry.Record m hit) h = refl
recording_is_no_packet c entry.Unsettled h = refl
recording_is_no_packet c (entry.Close d cause) h = absurd (false≢true h)
recording_is_no_packet c entry.End h = absurd (false≢true h)

no_packets : (c : ℕ) (es : List Entry) → list_all is_recording es ≡ true → packets_in c es ≡ 0
no_packets c [] h = refl
no_packets c (e ∷ es) h =
    let parts = and_parts (is_recording e) (list_all is_recording es) h in
    omega (arith, packets_in-append c (e ∷ []) es, no_packet c e (recording_is_no_packet c e parts.0), no_packets c es parts.1)

pub packets_in_batch : (h es : List Entry) → list_all is_recording es ≡ true → packets_in 0 (h ++ es) ≡ packets_in 0 h
packets_in_batch h es all = omega (arith, packets_in-append 0 h es, no_packets 0 es all)

-- ---- more packets

pub slice_get-append : (xs ys : List (List ℕ)) (j : ℕ) → j < length xs → slice_get (xs ++ ys) j ≡ slice_get xs j
slice_get-append [] ys j low = absurd (omega arith)
slice_get-append (x ∷ xs) ys zero low = refl
slice_get-append (x ∷ xs) ys (suc j) low = slice_get-append xs ys j (omega arith)

pub slice_get-last : (xs : List (List ℕ)) (p : List ℕ) → slice_get (xs ++ p ∷ []) (length xs) ≡ Some p
slice_get-last [] p = refl
slice_get-last (x ∷ xs) p = slice_get-last xs p

reply_at-more : (run : Run) (m : Moment) (earlier more : List (List ℕ)) (j : ℕ) → j < length earlier → reply_at run m (earlier ++ more) j ≡ reply_at run m earlier j
reply_at-more run m earlier more j low =
    ap (λ z. reply_to run m z (slice_get (earlier ++ more) j)) (take-append-le j earlier more (omega arith))
    ∙ ap (λ z. reply_to run m (take j earlier) z) (slice_get-append earlier more j low)

answered_packet-more : (b : Bool) (run : Run) (m : Moment) (earlier more : List (List ℕ)) (j : ℕ) → (b ≡ true → j < length earlier) → cond b (reply_at run m (earlier ++ more) j) [] ≡ cond b (reply_at run m earlier j) []
answered_packet-more true run m earlier more j low = reply_at-more run m earlier more j (low refl)
answered_packet-more false run m earlier more j low = refl

answered-more : (run : Run) (earlier more : List (List ℕ)) (c : ℕ) (before : List Entry) (e : Entry) → packets_in c (before ++ e ∷ []) ≤ length earlier → answered run (earlier ++ more) c before e ≡ answered run earlier c before e
answered-more run earlier more c before (entry.Open d) low = refl
answered-more run earlier more c before (entry.Packet d what) low =
    answered_packet-more (c == d) run _ earlier more (packets_in c before) (λ same. omega (arith, low, packets_in-push_yes c before (entry.Packet d what) same))
answered-more run earlier more c before (entry.Record m hit) low = refl
answered-more run earlier more c before entry.Unsettled low = refl
answered-more run earlier more c before (entry.Close d cause) low = refl
answered-more run earlier more c before entry.End low = refl

listens-more : (earlier more : List (List ℕ)) (c : ℕ) (before : List Entry) (e : Entry) → packets_in c (before ++ e ∷ []) ≤ length earlier → listens (earlier ++ more) c before e ≡ listens earlier c before e
listens-more earlier more c before e low = ap (λ z. is_open (after (replay before) e) c && is_greeted z) (take-append-le (packets_in c (before ++ e ∷ [])) earlier more low)

given_by-more : (run : Run) (earlier more : List (List ℕ)) (c : ℕ) (before : List Entry) (e : Entry) → packets_in c (before ++ e ∷ []) ≤ length earlier → given_by run (earlier ++ more) c before e ≡ given_by run earlier c before e
given_by-more run earlier more c before e low =
    ap (λ z. z ++ event run (listens (earlier ++ more) c before e) (replay before) e) (answered-more run earlier more c before e low)
    ∙ ap (λ z. answered run earlier c before e ++ event run z (replay before) e) (listens-more earlier more c before e low)

said_behind-more : (run : Run) (earlier more : List (List ℕ)) (c : ℕ) (before es : List Entry) → packets_in c (before ++ es) ≤ length earlier → said_behind run (earlier ++ more) c before es ≡ said_behind run earlier c before es
unfolding said_behind
said_behind-more run earlier more c before [] low = refl
said_behind-more run earlier more c before (e ∷ es) low =
    let low' : packets_in c ((before ++ e ∷ []) ++ es) ≤ length earlier = subst (λ z. packets_in c z ≤ length earlier) (sym (append_assoc before (e ∷ []) es)) low in
    let first : packets_in c (before ++ e ∷ []) ≤ length earlier = omega (arith, low', packets_in-append c (before ++ e ∷ []) es) in
    ap (λ z. z ++ said_behind run (earlier ++ more) c (before ++ e ∷ []) es) (given_by-more run earlier more c before e first)
    ∙ ap (λ z. given_by run earlier c before e ++ z) (said_behind-more run earlier more c (before ++ e ∷ []) es low')

pub said_more : (run : Run) (earlier more : List (List ℕ)) (c : ℕ) (h : List Entry) → packets_in c h ≤ length earlier → said run (earlier ++ more) c h ≡ said run earlier c h
said_more run earlier more c h low = said_behind-more run earlier more c [] h low

-- ---- a packet

open-packet : (s : Replayed) (what : Act) → is_open (after s (entry.Packet 0 what)) 0 ≡ is_open s 0
open-packet s act.Look = refl
open-packet s (act.Run m kinds) = refl
open-packet s act.Pause = refl

open-recording : (s : Replayed) (e : Entry) → is_recording e ≡ true → is_open (after s e) 0 ≡ is_open s 0
open-recording s (entry.Open d) h = absurd (false≢true h)
open-recording s (entry.Packet d what) h = absurd (false≢true h)
open-recording s (entry.Record m hit) h = refl
open-recording s entry.Unsettled h = refl
open-recording s (entry.Close d cause) h = absurd (false≢true h)
open-recording s entry.End h = absurd (false≢true h)

-- an open client whose packets all stand in the history listens where it is greeted
listens-open : (packets : List (List ℕ)) (before : List Entry) (e : Entry) → is_open (after (replay before) e) 0 ≡ true → packets_in 0 (before ++ e ∷ []) ≡ length packets → listens packets 0 before e ≡ is_greeted packets
listens-open packets before e is_there all =
    ap (λ z. z && is_greeted (take (packets_in 0 (before ++ e ∷ [])) packets)) is_there
    ∙ ap is_greeted (ap (λ z. take z packets) all ∙ take-length packets)

reply_at-last : (run : Run) (m : Moment) (earlier : List (List ℕ)) (p : List ℕ) (j : ℕ) → j ≡ length earlier → reply_at run m (earlier ++ p ∷ []) j ≡ packet_text (answer_in run (client_of earlier) m (asked p))
reply_at-last run m earlier p j is_last =
    ap (λ z. reply_at run m (earlier ++ p ∷ []) z) is_last
    ∙ ap (λ z. reply_to run m z (slice_get (earlier ++ p ∷ []) (length earlier))) (take-append_seam earlier (p ∷ []))
    ∙ ap (λ z. reply_to run m earlier z) (slice_get-last earlier p)

pub given_by_packet : (run : Run) (earlier : List (List ℕ)) (p : List ℕ) (h : List Entry) (what : Act) → is_open (replay h) 0 ≡ true → packets_in 0 h ≡ length earlier → given_by run (earlier ++ p ∷ []) 0 h (entry.Packet 0 what) ≡ packet_text (answer_in run (client_of earlier) (moment_of (after (replay h) (entry.Packet 0 what))) (asked p)) ++ event run (is_greeted (earlier ++ p ∷ [])) (replay h) (entry.Packet 0 what)
given_by_packet run earlier p h what is_there all =
    let count : packets_in 0 (h ++ entry.Packet 0 what ∷ []) ≡ length (earlier ++ p ∷ []) = omega (arith, all, packets_in_push_packet h what, length_push earlier p) in
    ap (λ z. z ++ event run (listens (earlier ++ p ∷ []) 0 h (entry.Packet 0 what)) (replay h) (entry.Packet 0 what)) (reply_at-last run (moment_of (after (replay h) (entry.Packet 0 what))) earlier p (packets_in 0 h) all)
    ∙ ap (λ z. packet_text (answer_in run (client_of earlier) (moment_of (after (replay h) (entry.Packet 0 what))) (asked p)) ++ event run z (replay h) (entry.Packet 0 what)) (listens-open (earlier ++ p ∷ []) h (entry.Packet 0 what) (open-packet (replay h) what ∙ is_there) count)

pub said_packet : (run : Run) (earlier : List (List ℕ)) (p : List ℕ) (h : List Entry) (what : Act) → is_open (replay h) 0 ≡ true → packets_in 0 h ≡ length earlier → said run (earlier ++ p ∷ []) 0 (h ++ entry.Packet 0 what ∷ []) ≡ said run earlier 0 h ++ (packet_text (answer_in run (client_of earlier) (moment_of (after (replay h) (entry.Packet 0 what))) (asked p)) ++ event run (is_greeted (earlier ++ p ∷ [])) (replay h) (entry.Packet 0 what))
said_packet run earlier p h what is_there all =
    said_push run (earlier ++ p ∷ []) 0 h (entry.Packet 0 what)
    ∙ ap (λ z. z ++ given_by run (earlier ++ p ∷ []) 0 h (entry.Packet 0 what)) (said_more run earlier (p ∷ []) 0 h (omega (arith, all)))
    ∙ ap (λ z. said run earlier 0 h ++ z) (given_by_packet run earlier p h what is_there all)

-- ---- a batch

answered-recording : (run : Run) (packets : List (List ℕ)) (c : ℕ) (before : List Entry) (e : Entry) → is_recording e ≡ true → answered run packets c before e ≡ []
answered-recording run packets c before (entry.Open d) h = absurd (false≢true h)
answered-recording run packets c before (entry.Packet d what) h = absurd (false≢true h)
answered-recording run packets c before (entry.Record m hit) h = refl
answered-recording run packets c before entry.Unsettled h = refl
answered-recording run packets c before (entry.Close d cause) h = absurd (false≢true h)
answered-recording run packets c before entry.End h = absurd (false≢true h)

given_by_recording : (run : Run) (packets : List (List ℕ)) (before : List Entry) (e : Entry) → is_recording e ≡ true → is_open (replay before) 0 ≡ true → packets_in 0 before ≡ length packets → given_by run packets 0 before e ≡ event run (is_greeted packets) (replay before) e
given_by_recording run packets before e recording is_there all =
    ap (λ z. z ++ event run (listens packets 0 before e) (replay before) e) (answered-recording run packets 0 before e recording)
    ∙ ap (λ z. event run z (replay before) e) (listens-open packets before e (open-recording (replay before) e recording ∙ is_there) (packets_in_other before e (recording_is_no_packet 0 e recording) ∙ all))

said_behind-batch : (run : Run) (packets : List (List ℕ)) (before es : List Entry) → list_all is_recording es ≡ true → is_open (replay before) 0 ≡ true → packets_in 0 before ≡ length packets → said_behind run packets 0 before es ≡ events run (is_greeted packets) (replay before) es
unfolding said_behind events
said_behind-batch run packets before [] recording is_there all = refl
said_behind-batch run packets before (e ∷ es) recording is_there all =
    let parts = and_parts (is_recording e) (list_all is_recording es) recording in
    let is_there' : is_open (replay (before ++ e ∷ [])) 0 ≡ true = ap (λ z. is_open z 0) (replay-push before e) ∙ open-recording (replay before) e parts.0 ∙ is_there in
    let all' : packets_in 0 (before ++ e ∷ []) ≡ length packets = packets_in_other before e (recording_is_no_packet 0 e parts.0) ∙ all in
    ap (λ z. z ++ said_behind run packets 0 (before ++ e ∷ []) es) (given_by_recording run packets before e parts.0 is_there all)
    ∙ ap (λ z. event run (is_greeted packets) (replay before) e ++ z) (said_behind-batch run packets (before ++ e ∷ []) es parts.1 is_there' all' ∙ ap (λ z. events run (is_greeted packets) z es) (replay-push before e))

pub said_batch : (run : Run) (earlier : List (List ℕ)) (h es : List Entry) → is_open (replay h) 0 ≡ true → packets_in 0 h ≡ length earlier → list_all is_recording es ≡ true → said run earlier 0 (h ++ es) ≡ said run earlier 0 h ++ events run (is_greeted earlier) (replay h) es
said_batch run earlier h es is_there all recording =
    said-append run earlier 0 h es ∙ ap (λ z. said run earlier 0 h ++ z) (said_behind-batch run earlier h es recording is_there all)

-- ---- the end

said_behind-closed : (run : Run) (packets : List (List ℕ)) (h : List Entry) (cause : Why) → said_behind run packets 0 h (entry.Close 0 cause ∷ entry.End ∷ []) ≡ last_words cause
unfolding said_behind
said_behind-closed run packets h cause = append-nil (last_words cause ++ []) ∙ append-nil (last_words cause)

pub said_closed : (run : Run) (packets : List (List ℕ)) (h : List Entry) (cause : Why) → said run packets 0 (h ++ entry.Close 0 cause ∷ entry.End ∷ []) ≡ said run packets 0 h ++ last_words cause
said_closed run packets h cause = said-append run packets 0 h (entry.Close 0 cause ∷ entry.End ∷ []) ∙ ap (λ z. said run packets 0 h ++ z) (said_behind-closed run packets h cause)
