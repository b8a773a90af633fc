-- A text that lists slots with their words, and the words in which they are set.
use Rattle.std.proofs.Common.{◌≡◌, ◌⊎◌, ℕ, zero, suc, ◌+◌, ◌<◌, ◌≤◌, List, [], ◌∷◌, ◌++◌, length, take, drop, get_or, Bool, true, false, cond, refl, sym, ap, ◌∙◌, subst, inl, inr, arith}
use Rattle.std.specs.List.{filter, flat_map, range_with_len}
use Rattle.std.proofs.lemmas.List.{append_assoc, length-append, take_at, drop_at}
use Rattle.std.proofs.lemmas.Bool.{cases_lt}
use Rattle.sim_base.specs.Shape.{words_of_width, words_of_widths}
use Rattle.spool_format.specs.Records.{changed_slots, differs, place_of, slot_words, slots_with_words}
use Rattle.spool_format.specs.Reading.{AreSlots, behind_slots, set_slots, written_at}
use Rattle.spool_format.proofs.Placed.{slot_before, slot_behind, slot_room, slot_within, slot_written, written_length}
use Rattle.spool_format.proofs.Told.{Each, by_cases, same_slots, undiffer}

-- one slot and its words, before the others
text_of : (ws new rest : List ℕ) (l : ℕ) (ls : List ℕ)
    → slots_with_words ws new (l ∷ ls) ++ rest ≡ l ∷ (slot_words ws new l ++ (slots_with_words ws new ls ++ rest))
unfolding slots_with_words
text_of ws new rest l ls = ap (λ xs. l ∷ xs) (append_assoc (slot_words ws new l) (flat_map (λ n. n ∷ slot_words ws new n) ls) rest)

text_behind : (l k : ℕ) (slot rest : List ℕ) → length slot ≡ k → drop (1 + k) (l ∷ (slot ++ rest)) ≡ rest
text_behind l k slot rest long =
    let at : 1 + k ≡ suc k = omega arith in
    ap (λ n. drop n (l ∷ (slot ++ rest))) at ∙ drop_at slot rest k long

none_listed : (ws new rest : List ℕ) → slots_with_words ws new [] ++ rest ≡ rest
unfolding slots_with_words
none_listed ws new rest = refl

pub slots_behind : (ws new rest : List ℕ) → length new ≡ words_of_widths ws → (ls : List ℕ) → Each (λ l. l < length ws) ls
    → behind_slots ws (length ls) (slots_with_words ws new ls ++ rest) ≡ rest
unfolding behind_slots
slots_behind ws new rest room [] h = none_listed ws new rest
slots_behind ws new rest room (l ∷ ls) h =
    let slot = slot_words ws new l in
    let k = words_of_width (get_or ws l 0) in
    let more = slots_with_words ws new ls ++ rest in
    ap (behind_slots ws (suc (length ls))) (text_of ws new rest l ls)
    ∙ ap (behind_slots ws (length ls)) (text_behind l k slot more (slot_room ws new l h.0 room)) ∙ slots_behind ws new rest room ls h.1

pub slots_listed : (ws new rest : List ℕ) → length new ≡ words_of_widths ws → (ls : List ℕ) → Each (λ l. l < length ws) ls
    → AreSlots ws (length ls) (slots_with_words ws new ls ++ rest)
unfolding AreSlots
slots_listed ws new rest room [] h = tt
slots_listed ws new rest room (l ∷ ls) h =
    let slot = slot_words ws new l in
    let k = words_of_width (get_or ws l 0) in
    let more = slots_with_words ws new ls ++ rest in
    let long : length slot ≡ k = slot_room ws new l h.0 room in
    let here : AreSlots ws (suc (length ls)) (l ∷ (slot ++ more)) = (
      h.0,
      omega (arith, length-append slot more),
      subst (AreSlots ws (length ls)) (sym (text_behind l k slot more long)) (slots_listed ws new rest room ls h.1),
    ) in
    subst (AreSlots ws (suc (length ls))) (sym (text_of ws new rest l ls)) here

abbrev In : ℕ → List ℕ → Type 0
In n [] = ⊥
In n (l ∷ ls) = (n ≡ l) ⊎ In n ls

abbrev IsSettled : List ℕ → List ℕ → List ℕ → List ℕ → Type 0
IsSettled ws new ls old = (n : ℕ) → n < length ws → (slot_words ws old n ≡ slot_words ws new n) ⊎ In n ls

settled_one : (ws new old : List ℕ) (l : ℕ) (ls : List ℕ) → length new ≡ words_of_widths ws → length old ≡ words_of_widths ws → l < length ws
    → IsSettled ws new (l ∷ ls) old → IsSettled ws new ls (written_at old (place_of ws l) (slot_words ws new l))
settled_one ws new old l ls room was h settled n within =
    let slot = slot_words ws new l in
    let long = slot_room ws new l h room in
    let here : slot_words ws (written_at old (place_of ws l) slot) l ≡ slot = slot_written ws old slot l h was long in
    elim (cases_lt n l) [
      | inl low ↦ elim (settled n within) [
        | inl same ↦ inl (slot_before ws old slot l n h low was ∙ same)
        | inr listed ↦ elim listed [
          | inl at ↦ absurd (omega (arith, at))
          | inr more ↦ inr more
        ]
      ]
      | inr high ↦ elim (cases_lt l n) [
        | inl up ↦ elim (settled n within) [
          | inl same ↦ inl (slot_behind ws old slot l n h up was long ∙ same)
          | inr listed ↦ elim listed [
            | inl at ↦ absurd (omega (arith, at))
            | inr more ↦ inr more
          ]
        ]
        | inr most ↦ let at : l ≡ n = omega arith in
            inl (subst (λ m. slot_words ws (written_at old (place_of ws l) slot) m ≡ slot_words ws new m) at here)
      ]
    ]

slots_set : (ws new rest : List ℕ) → length new ≡ words_of_widths ws → (ls : List ℕ) → Each (λ l. l < length ws) ls
    → (old : List ℕ) → length old ≡ words_of_widths ws → IsSettled ws new ls old
    → set_slots ws (length ls) (slots_with_words ws new ls ++ rest) old ≡ new
unfolding set_slots
slots_set ws new rest room [] h old was settled =
    same_slots ws old new was room (λ n within. elim (settled n within) [ inl same ↦ same | inr none ↦ absurd none ])
slots_set ws new rest room (l ∷ ls) h old was settled =
    let slot = slot_words ws new l in
    let k = words_of_width (get_or ws l 0) in
    let more = slots_with_words ws new ls ++ rest in
    let long : length slot ≡ k = slot_room ws new l h.0 room in
    let within = slot_within ws l h.0 in
    let next : List ℕ = written_at old (place_of ws l) slot in
    ap (λ text. set_slots ws (suc (length ls)) text old) (text_of ws new rest l ls)
    ∙ ap (λ text. set_slots ws (length ls) text (written_at old (place_of ws l) (take k (slot ++ more)))) (text_behind l k slot more long)
    ∙ ap (λ v. set_slots ws (length ls) more (written_at old (place_of ws l) v)) (take_at slot more k long)
    ∙ slots_set ws new rest room ls h.1 next (written_length old slot (place_of ws l) (omega arith) ∙ was) (settled_one ws new old l ls room was h.0 settled)

-- ---- the slots that differ

in_pick : (b : Bool) (n a : ℕ) (ls : List ℕ) → In n ls → In n (cond b (a ∷ ls) ls)
in_pick true n a ls h = inr h
in_pick false n a ls h = h

at_pick : (b : Bool) (n : ℕ) (ls : List ℕ) → b ≡ true → In n (cond b (n ∷ ls) ls)
at_pick true n ls h = inl refl
at_pick false n ls h = cc

in_filter : (d : ℕ → Bool) (a n k : ℕ) → a ≤ k → k < a + n → d k ≡ true → In k (filter d (range_with_len a n))
in_filter d a zero k low high is = absurd (omega arith)
in_filter d a (suc n) k low high is = elim (cases_lt a k) [
  | inl l ↦ in_pick (d a) k a (filter d (range_with_len (a + 1) n)) (in_filter d (a + 1) n k (omega arith) (omega arith) is)
  | inr l ↦ let at : a ≡ k = omega arith in
      subst (λ m. In k (cond (d m) (m ∷ filter d (range_with_len (a + 1) n)) (filter d (range_with_len (a + 1) n)))) (sym at)
      (at_pick (d k) k (filter d (range_with_len (a + 1) n)) is)
]

each_pick : (P : ℕ → Type 0) (b : Bool) (a : ℕ) (ls : List ℕ) → P a → Each P ls → Each P (cond b (a ∷ ls) ls)
each_pick P true a ls p h = (p, h)
each_pick P false a ls p h = h

each_filter : (m : ℕ) (d : ℕ → Bool) (a n : ℕ) → a + n ≤ m → Each (λ l. l < m) (filter d (range_with_len a n))
each_filter m d a zero h = tt
each_filter m d a (suc n) h = each_pick (λ l. l < m) (d a) a (filter d (range_with_len (a + 1) n)) (omega arith) (each_filter m d (a + 1) n (omega arith))

pub changed_within : (ws old new : List ℕ) → Each (λ l. l < length ws) (changed_slots ws old new)
changed_within ws old new = each_filter (length ws) (differs ws old new) 0 (length ws) (omega arith)

changed_settle : (ws old new : List ℕ) → IsSettled ws new (changed_slots ws old new) old
changed_settle ws old new n within =
    by_cases (differs ws old new n)
    (λ is. inr (in_filter (differs ws old new) 0 (length ws) n (omega arith) (omega arith) is))
    (λ is. inl (undiffer ws old new n is))

-- where the slots that differ are set, the words are the later ones
pub changes_set : (ws old new rest : List ℕ) → length old ≡ words_of_widths ws → length new ≡ words_of_widths ws
    → set_slots ws (length (changed_slots ws old new)) (slots_with_words ws new (changed_slots ws old new) ++ rest) old ≡ new
changes_set ws old new rest was room =
    slots_set ws new rest room (changed_slots ws old new) (changed_within ws old new) old was (changed_settle ws old new)
