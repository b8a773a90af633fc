-- The packet entries of a history do what the client's packets ask, as both grow.
use Rattle.std.proofs.Common.{◌≡◌, ℕ, ◌+◌, ◌<◌, ◌≤◌, true, false, List, [], ◌∷◌, ◌++◌, length, take, refl, sym, ap, subst, arith, ◌∙◌, append-nil, Some, length-append}
use Rattle.std.specs.Prelude.{◌==◌, slice_get}
use Rattle.std.specs.List.{list_all}
use Rattle.std.proofs.lemmas.Bool.{and_parts, false≢true}
use Rattle.std.proofs.lemmas.Bool.Decides.{nat_tests}
use Rattle.std.proofs.lemmas.List.{append_assoc, length_push, take-append-le}
use Rattle.std.proofs.Math.Seq.{take-append_seam}
use Rattle.circuit.specs.Rounds.{Run}
use Rattle.hall_core.specs.Laws.{is_recording}
use Rattle.hall_core.specs.declared.entry.Act.{Act}
use Rattle.hall_core.specs.declared.entry.Entry.{Entry}
use Rattle.hall_core.specs.declared.entry.Entry.TheVariants as entry
use Rattle.session_core.specs.Replies.{act_of}
use Rattle.session_core.specs.Said.{Agrees, is_packet_of, packets_in}
use Rattle.session_core.proofs.Sayings.{one_packet, packets_in-append, packets_in-push_no, packets_in_push_packet, recording_is_no_packet, slice_get-append, slice_get-last}

-- where an entry stands in a list that one entry was put behind: it is that one, or it stands before it
data IsPlace (history : List Entry) (last : Entry) (before : List Entry) (e : Entry) : Type 0 where
  at_end : before ≡ history → e ≡ last → IsPlace history last before e
  inside : (rest : List Entry) → history ≡ before ++ e ∷ rest → IsPlace history last before e

place-cons : (y : Entry) (history : List Entry) (last : Entry) (before : List Entry) (e : Entry) → IsPlace history last before e → IsPlace (y ∷ history) last (y ∷ before) e
place-cons y history last before e (at_end same is) = at_end (ap (λ z. y ∷ z) same) is
place-cons y history last before e (inside rest same) = inside rest (ap (λ z. y ∷ z) same)

cons-nil : (y : Entry) (ys : List Entry) → y ∷ ys ≡ [] → ⊥
cons-nil y ys h = cc

pub no_packet_there : (before : List Entry) (e : Entry) (more : List Entry) → [] ≡ before ++ e ∷ more → ⊥
no_packet_there [] e more h = cons-nil e more (sym h)
no_packet_there (b ∷ before) e more h = cons-nil b (before ++ e ∷ more) (sym h)

place : (history : List Entry) (last : Entry) (before : List Entry) (e : Entry) (more : List Entry) → history ++ last ∷ [] ≡ before ++ e ∷ more → IsPlace history last before e
place [] last [] e more h = at_end refl cc
place [] last (b ∷ before) e more h = absurd (no_packet_there before e more cc)
place (y ∷ ys) last [] e more h = inside ys cc
place (y ∷ ys) last (b ∷ before) e more h =
    let head : y ≡ b = cc in
    subst (λ z. IsPlace (y ∷ ys) last (z ∷ before) e) head (place-cons y ys last before e (place ys last before e more cc))

-- ---- more packets

own_number : (c : ℕ) → (c == c) ≡ true
own_number c = grind (arith, nat_tests)

own_packet : (c : ℕ) (what : Act) → packets_in c (entry.Packet c what ∷ []) ≡ 1
own_packet c what = one_packet c (entry.Packet c what) (own_number c)

-- a packet entry stands behind fewer packets than there are
packets_below : (c : ℕ) (h before rest : List Entry) (what : Act) → h ≡ before ++ entry.Packet c what ∷ rest → packets_in c before < packets_in c h
packets_below c h before rest what same =
    let whole : packets_in c h ≡ packets_in c (before ++ entry.Packet c what ∷ rest) = ap (λ z. packets_in c z) same in
    let parts : packets_in c (before ++ entry.Packet c what ∷ rest) ≡ packets_in c before + packets_in c (entry.Packet c what ∷ rest) = packets_in-append c before (entry.Packet c what ∷ rest) in
    let behind : packets_in c (entry.Packet c what ∷ rest) ≡ packets_in c (entry.Packet c what ∷ []) + packets_in c rest = packets_in-append c (entry.Packet c what ∷ []) rest in
    omega (arith, whole, parts, behind, own_packet c what)

pub agrees_more : (run : Run) (earlier more : List (List ℕ)) (c : ℕ) (h : List Entry) → Agrees run earlier c h → Agrees run (earlier ++ more) c h
agrees_more run earlier more c h agrees = record {
  taken = omega (arith, agrees.taken, length-append earlier more);
  acts = λ before rest what packet same is.
      let low : packets_in c before < length earlier = omega (arith, packets_below c h before rest what same, agrees.taken) in
      agrees.acts before rest what packet same (sym (slice_get-append earlier more (packets_in c before) low) ∙ is)
      ∙ sym (ap (λ z. act_of run z packet) (take-append-le (packets_in c before) earlier more (omega (arith, low))));
}

-- ---- a longer history

-- what the last entry does, where it is a packet of the client
abbrev DoesAsAsked : Run → List (List ℕ) → ℕ → List Entry → Entry → Type 0
DoesAsAsked run packets c h last = (what : Act) (packet : List ℕ) → entry.Packet c what ≡ last → slice_get packets (packets_in c h) ≡ Some packet → what ≡ act_of run (take (packets_in c h) packets) packet

acts_at : (run : Run) (packets : List (List ℕ)) (c : ℕ) (h : List Entry) (last : Entry) → Agrees run packets c h → DoesAsAsked run packets c h last → (before : List Entry) (what : Act) (packet : List ℕ) → IsPlace h last before (entry.Packet c what) → slice_get packets (packets_in c before) ≡ Some packet → what ≡ act_of run (take (packets_in c before) packets) packet
acts_at run packets c h last agrees does before what packet (at_end same is) there =
    does what packet is (ap (λ z. slice_get packets (packets_in c z)) (sym same) ∙ there)
    ∙ ap (λ z. act_of run (take (packets_in c z) packets) packet) (sym same)
acts_at run packets c h last agrees does before what packet (inside rest same) there = agrees.acts before rest what packet same there

agrees-push : (run : Run) (packets : List (List ℕ)) (c : ℕ) (h : List Entry) (last : Entry) → Agrees run packets c h → packets_in c (h ++ last ∷ []) ≤ length packets → DoesAsAsked run packets c h last → Agrees run packets c (h ++ last ∷ [])
agrees-push run packets c h last agrees fits does = record {
  taken = fits;
  acts = λ before rest what packet same there. acts_at run packets c h last agrees does before what packet (place h last before (entry.Packet c what) rest same) there;
}

same_act : (c : ℕ) (one other : Act) → entry.Packet c one ≡ entry.Packet c other → one ≡ other
same_act c one other h = cc

same_some : (one other : List ℕ) → Some one ≡ Some other → one ≡ other
same_some one other h = cc

pub agrees_packet : (run : Run) (earlier : List (List ℕ)) (p : List ℕ) (h : List Entry) → Agrees run earlier 0 h → packets_in 0 h ≡ length earlier → Agrees run (earlier ++ p ∷ []) 0 (h ++ entry.Packet 0 (act_of run earlier p) ∷ [])
agrees_packet run earlier p h agrees all =
    agrees-push run (earlier ++ p ∷ []) 0 h (entry.Packet 0 (act_of run earlier p)) (agrees_more run earlier (p ∷ []) 0 h agrees)
    (omega (arith, all, packets_in_push_packet h (act_of run earlier p), length_push earlier p))
    (λ what packet is there.
    let front : take (packets_in 0 h) (earlier ++ p ∷ []) ≡ earlier = ap (λ z. take z (earlier ++ p ∷ [])) all ∙ take-append_seam earlier (p ∷ []) in
    let own : p ≡ packet = same_some p packet (sym (ap (λ z. slice_get (earlier ++ p ∷ []) z) all ∙ slice_get-last earlier p) ∙ there) in
    same_act 0 what (act_of run earlier p) is ∙ ap (λ z. act_of run earlier z) own ∙ ap (λ z. act_of run z packet) (sym front))

own_packet_of : (c : ℕ) (what : Act) (e : Entry) → entry.Packet c what ≡ e → is_packet_of c e ≡ true
own_packet_of c what e is = subst (λ z. is_packet_of c z ≡ true) is (own_number c)

agrees-push_other : (run : Run) (packets : List (List ℕ)) (c : ℕ) (h : List Entry) (e : Entry) → Agrees run packets c h → is_packet_of c e ≡ false → Agrees run packets c (h ++ e ∷ [])
agrees-push_other run packets c h e agrees other =
    agrees-push run packets c h e agrees (omega (arith, agrees.taken, packets_in-push_no c h e other))
    (λ what packet is there. absurd (false≢true (sym other ∙ own_packet_of c what e is)))

pub agrees_other : (run : Run) (packets : List (List ℕ)) (h : List Entry) (e : Entry) → Agrees run packets 0 h → is_packet_of 0 e ≡ false → Agrees run packets 0 (h ++ e ∷ [])
agrees_other run packets h e agrees other = agrees-push_other run packets 0 h e agrees other

pub agrees_batch : (run : Run) (packets : List (List ℕ)) (h es : List Entry) → Agrees run packets 0 h → list_all is_recording es ≡ true → Agrees run packets 0 (h ++ es)
agrees_batch run packets h [] agrees recording = subst (λ z. Agrees run packets 0 z) (sym (append-nil h)) agrees
agrees_batch run packets h (e ∷ es) agrees recording =
    let parts = and_parts (is_recording e) (list_all is_recording es) recording in
    subst (λ z. Agrees run packets 0 z) (append_assoc h (e ∷ []) es)
    (agrees_batch run packets (h ++ e ∷ []) es (agrees_other run packets h e agrees (recording_is_no_packet 0 e parts.0)) parts.1)
