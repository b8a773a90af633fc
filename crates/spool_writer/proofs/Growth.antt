-- The chunks keep one sample more.
use Rattle.std.proofs.Common.{◌≡◌, ℕ, ◌+◌, ◌-◌, ◌%◌, ◌<◌, ◌≤◌, List, [], ◌∷◌, ◌++◌, length, take, Bool, true, false, cond, eqb, get_or, refl, sym, ap, ◌∙◌, subst, inl, inr, arith}
use Rattle.std.proofs.lemmas.List.{append_assoc, append-nil, get_or-map, get_or_default, length-append, length_push, length-take-le, get_or_push, take_more}
use Rattle.std.proofs.lemmas.Bool.{cases_lt, eqb-false, ne_eqb}
use Rattle.sim_base.specs.Shape.{words_of_widths}
use Rattle.spool_format.specs.declared.sample.Sample.{Sample}
use Rattle.spool_format.specs.Records.{IsLater, IsNext, change_record, changed_slots, slots_with_words, time_words, whole_record}
use Rattle.spool_format.specs.Reading.{sample_at}
use Rattle.spool_format.specs.Kept.{AreChunksOf, Recording, next_record, recording_of, with_sample}
use Rattle.spool_format.proofs.Decoded.{kept_read}
use Rattle.spool_format.proofs.KeptOn.{next_full, next_within, nothing_kept, nothing_read}
use Rattle.spool_writer.specs.Growing.{AreNext, IsGrowing, full_after, growing_after}

pub nothing_grown : (ws : List ℕ) (full : List (List ℕ)) (growing last : List ℕ) (time : ℕ) → full ≡ [] → growing ≡ [] → length last ≡ words_of_widths ws
    → IsGrowing (recording_of ws full growing) full growing 0 last time
nothing_grown ws full growing last time is_full is_growing room =
    let none : IsGrowing (recording_of ws [] []) [] [] 0 last time = record {
      kept = nothing_kept ws;
      counted = sym (ap length (nothing_read ws));
      room = room;
      shown = λ h. absurd (omega (arith, ap length (nothing_read ws)));
      timed = λ h. absurd (omega (arith, ap length (nothing_read ws)));
    } in
    subst (λ f. IsGrowing (recording_of ws f growing) f growing 0 last time) (sym is_full)
    (subst (λ g. IsGrowing (recording_of ws [] g) [] g 0 last time) (sym is_growing) none)

pub nothing_seen : (ws : List ℕ) (full : List (List ℕ)) (growing : List ℕ) → full ≡ [] → growing ≡ []
    → recording_of ws full growing ≡ (let r : Recording = record { widths = ws; samples = [] } in r)
nothing_seen ws full growing is_full is_growing =
    ap (λ f. recording_of ws f growing) is_full ∙ ap (λ g. recording_of ws [] g) is_growing
    ∙ ap (λ ss. let r : Recording = record { widths = ws; samples = ss } in r) (nothing_read ws)

change_same : (ws : List ℕ) (b c s : Sample) → b.words ≡ c.words → change_record ws b s ≡ change_record ws c s
unfolding change_record
change_same ws b c s h =
    ap (λ w. 1 ∷ (time_words s.time ++ length (changed_slots ws w s.words) ∷ slots_with_words ws s.words (changed_slots ws w s.words))) h

else_same : (b : Bool) (w x y : List ℕ) → (b ≡ false → x ≡ y) → cond b w x ≡ cond b w y
else_same true w x y h = refl
else_same false w x y h = h refl

counted_some : (n count : ℕ) → count ≡ n → (count % 256 ≡ 0 → ⊥) → 0 < n
counted_some n count is apart = elim (cases_lt 0 n) [ inl more ↦ more | inr none ↦ let zero_count : count % 256 ≡ 0 = omega arith in absurd (apart zero_count) ]

next_same : (r : Recording) (full : List (List ℕ)) (growing : List ℕ) (count : ℕ) (last s : Sample) → IsGrowing r full growing count last.words last.time
    → cond (eqb (count % 256) 0) (whole_record s) (change_record r.widths last s) ≡ next_record r s
next_same r full growing count last s h =
    else_same (eqb (count % 256) 0) (whole_record s) (change_record r.widths last s) (change_record r.widths (sample_at r.samples (length r.samples - 1)) s)
    (λ no. change_same r.widths last (sample_at r.samples (length r.samples - 1)) s (h.shown (let apart = eqb-false (count % 256) 0 no in counted_some (length r.samples) count h.counted apart)))
    ∙ ap (λ k. cond (eqb (k % 256) 0) (whole_record s) (change_record r.widths (sample_at r.samples (length r.samples - 1)) s)) h.counted

pick : {A : Type 0} (b : Bool) (x y : A) → b ≡ true → cond b x y ≡ x
pick true x y h = refl
pick false x y h = cc

skip : {A : Type 0} (b : Bool) (x y : A) → b ≡ false → cond b x y ≡ y
skip true x y h = cc
skip false x y h = refl

-- the recording that the chunks then stand for
abbrev Grows : Recording → Sample → List ℕ → List (List ℕ) → List ℕ → ℕ → List ℕ → ℕ → Type 0
Grows r s ws full growing next last time = (recording_of ws full growing ≡ with_sample r s) × IsGrowing (recording_of ws full growing) full growing next last time

grows : (r : Recording) (s : Sample) (full : List (List ℕ)) (growing : List ℕ) (next : ℕ) (last : List ℕ) (time : ℕ) → AreChunksOf (with_sample r s) full growing
    → IsNext r.widths r.samples s → next ≡ length r.samples + 1 → last ≡ s.words → time ≡ s.time → Grows r s r.widths full growing next last time
grows r s full growing next last time kept ok is_next is_last is_time =
    let seen = kept_read (with_sample r s) full growing kept in
    let long : length (r.samples ++ s ∷ []) ≡ length r.samples + 1 = length_push r.samples s in
    let end : length (r.samples ++ s ∷ []) - 1 ≡ length r.samples = omega (arith, long) in
    let shown : sample_at (r.samples ++ s ∷ []) (length (r.samples ++ s ∷ []) - 1) ≡ s =
    ap (sample_at (r.samples ++ s ∷ [])) end ∙ get_or_push r.samples s _ (length r.samples) refl in
    let grown : IsGrowing (with_sample r s) full growing next last time = record {
      kept = kept;
      counted = is_next ∙ sym long;
      room = ap length is_last ∙ ok.shaped.room;
      shown = λ _. is_last ∙ ap (λ t. t.words) (sym shown);
      timed = λ _. is_time ∙ ap (λ t. t.time) (sym shown);
    } in (seen, subst (λ v. IsGrowing v full growing next last time) (sym seen) grown)

pub pushed : (ws : List ℕ) (full : List (List ℕ)) (growing : List ℕ) (count next : ℕ) (last s : Sample) (written : List ℕ) (full2 : List (List ℕ)) (growing2 last2 : List ℕ) (time2 : ℕ)
    → IsGrowing (recording_of ws full growing) full growing count last.words last.time → IsNext ws (recording_of ws full growing).samples s → next ≡ count + 1
    → written ≡ growing ++ cond (eqb (count % 256) 0) (whole_record s) (change_record ws last s)
    → full2 ≡ full_after next full written → growing2 ≡ growing_after next written → last2 ≡ s.words → time2 ≡ s.time
    → Grows (recording_of ws full growing) s ws full2 growing2 next last2 time2
pushed ws full growing count next last s written full2 growing2 last2 time2 h ok is_next is_written is_full is_growing is_last is_time =
    let r = recording_of ws full growing in
    let text : written ≡ growing ++ next_record r s = is_written ∙ ap (λ w. growing ++ w) (next_same r full growing count last s h) in
    let number : next ≡ length r.samples + 1 = omega (arith, h.counted) in
    elim (cases_lt 0 (next % 256)) [
      | inl more ↦
          let test : eqb (next % 256) 0 ≡ false = ne_eqb (next % 256) 0 (λ e. absurd (omega arith)) in
          let same_full : full2 ≡ full = is_full ∙ skip (eqb (next % 256) 0) (full ++ written ∷ []) full test in
          let same_growing : growing2 ≡ growing ++ next_record r s = is_growing ∙ skip (eqb (next % 256) 0) [] written test ∙ text in
          let kept = next_within r full growing s h.kept ok (λ e. absurd (omega (arith, number))) in
          grows r s full2 growing2 next last2 time2
          (subst (λ f. AreChunksOf (with_sample r s) f growing2) (sym same_full) (subst (λ g. AreChunksOf (with_sample r s) full g) (sym same_growing) kept))
          ok number is_last is_time
      | inr none ↦
          let zero_left : next % 256 ≡ 0 = omega arith in
          let test : eqb (next % 256) 0 ≡ true = ap (λ k. eqb k 0) zero_left in
          let more_full : full2 ≡ full ++ (growing ++ next_record r s) ∷ [] =
          is_full ∙ pick (eqb (next % 256) 0) (full ++ written ∷ []) full test ∙ ap (λ w. full ++ w ∷ []) text in
          let no_growing : growing2 ≡ [] = is_growing ∙ pick (eqb (next % 256) 0) [] written test in
          let kept = next_full r full growing s h.kept ok (omega (arith, number)) in
          grows r s full2 growing2 next last2 time2
          (subst (λ f. AreChunksOf (with_sample r s) f growing2) (sym more_full)
          (subst (λ g. AreChunksOf (with_sample r s) (full ++ (growing ++ next_record r s) ∷ []) g) (sym no_growing) kept))
          ok number is_last is_time
    ]

-- ---- samples one after another

pub next_one : (r more : Recording) (samples : List Sample) (k : ℕ) (s : Sample) → AreNext r samples → k < length samples
    → more ≡ (let t : Recording = record { widths = r.widths; samples = r.samples ++ take k samples } in t) → s ≡ sample_at samples k → IsNext more.widths more.samples s
next_one r more samples k s h within is_more is_s =
    subst (λ t. IsNext more.widths more.samples t) (sym is_s) (subst (λ v. IsNext v.widths v.samples (sample_at samples k)) (sym is_more) (h k within))

pub one_more : (r : Recording) (samples : List Sample) (k : ℕ) → k < length samples
    → (r.samples ++ take k samples) ++ sample_at samples k ∷ [] ≡ r.samples ++ take (k + 1) samples
one_more r samples k within =
    append_assoc r.samples (take k samples) (sample_at samples k ∷ []) ∙ ap (λ xs. r.samples ++ xs) (sym (take_more samples k _ within))

-- ---- a time later than the last sample's

pub counted_more : (n count : ℕ) → count ≡ n → (count ≡ 0 → ⊥) → 0 < n
counted_more n count is apart = elim (cases_lt 0 n) [ inl more ↦ more | inr none ↦ let zero_count : count ≡ 0 = omega arith in absurd (apart zero_count) ]

pub later_kept : (r : Recording) (full : List (List ℕ)) (growing : List ℕ) (count : ℕ) (last : Sample) (time : ℕ)
    → IsGrowing r full growing count last.words last.time → (count ≡ 0 → ⊥) → IsLater r.samples time → last.time < time
later_kept r full growing count last time h some later =
    let n = length r.samples in
    let more : 0 < n = counted_more n count h.counted some in
    let end : n - 1 + 1 ≡ n = omega arith in
    let within : n - 1 < n = omega arith in
    let shown = get_or-map (λ (s : Sample). s.time) r.samples (n - 1) (record { number = 0; time = 0; words = [] }) 0 within in
    let before = later (n - 1) end in
    let kept = h.timed more in
    omega (arith, shown, before, kept)

-- ---- samples behind some that came

pub none_behind : (xs ys : List Sample) (k : ℕ) → k ≡ 0 → xs ++ take k ys ≡ xs
none_behind xs ys k none = ap (λ n. xs ++ take n ys) none ∙ append-nil xs

pub sample_in_place : (xs : List Sample) (k : ℕ) (d : Sample) → k < length xs → get_or xs k d ≡ sample_at xs k
sample_in_place xs k d within = get_or_default xs k d (record { number = 0; time = 0; words = [] }) within

pub number_behind : (xs ys : List Sample) (k : ℕ) → k ≤ length ys → length (xs ++ take k ys) ≡ length xs + k
number_behind xs ys k le = length-append xs (take k ys) ∙ ap (λ n. length xs + n) (length-take-le k ys le)

later_push : (xs : List Sample) (s : Sample) (time : ℕ) → s.time < time → IsLater (xs ++ s ∷ []) time
later_push xs s time less j end =
    let long : length (xs ++ s ∷ []) ≡ length xs + 1 = length_push xs s in
    let at : j ≡ length xs = omega (arith, long, end) in
    let within : j < length (xs ++ s ∷ []) = omega (arith, long, end) in
    let shown = get_or-map (λ (t : Sample). t.time) (xs ++ s ∷ []) j (record { number = 0; time = 0; words = [] }) 0 within in
    let which = ap (λ (t : Sample). t.time) (get_or_push xs s (record { number = 0; time = 0; words = [] }) j (sym at)) in
    omega (arith, shown, which, less)

push_later : (xs : List Sample) (s : Sample) (time : ℕ) → IsLater (xs ++ s ∷ []) time → s.time < time
push_later xs s time later =
    let long : length (xs ++ s ∷ []) ≡ length xs + 1 = length_push xs s in
    let within : length xs < length (xs ++ s ∷ []) = omega (arith, long) in
    let shown = get_or-map (λ (t : Sample). t.time) (xs ++ s ∷ []) (length xs) (record { number = 0; time = 0; words = [] }) 0 within in
    let which = ap (λ (t : Sample). t.time) (get_or_push xs s (record { number = 0; time = 0; words = [] }) (length xs) refl) in
    let less = later (length xs) (sym long) in
    omega (arith, shown, which, less)

last_behind : (r : Recording) (ys : List Sample) (k : ℕ) → 0 < k → k ≤ length ys → (r.samples ++ take (k - 1) ys) ++ sample_at ys (k - 1) ∷ [] ≡ r.samples ++ take k ys
last_behind r ys k some le =
    let same : k - 1 + 1 ≡ k = omega arith in
    one_more r ys (k - 1) (omega arith) ∙ ap (λ n. r.samples ++ take n ys) same

pub later_behind : (r : Recording) (ys : List Sample) (k time : ℕ) → 0 < k → k ≤ length ys → (sample_at ys (k - 1)).time < time → IsLater (r.samples ++ take k ys) time
later_behind r ys k time some le less =
    subst (λ ss. IsLater ss time) (last_behind r ys k some le) (later_push (r.samples ++ take (k - 1) ys) (sample_at ys (k - 1)) time less)

pub behind_later : (r : Recording) (ys : List Sample) (k time : ℕ) → 0 < k → k ≤ length ys → IsLater (r.samples ++ take k ys) time → (sample_at ys (k - 1)).time < time
behind_later r ys k time some le later =
    push_later (r.samples ++ take (k - 1) ys) (sample_at ys (k - 1)) time (subst (λ ss. IsLater ss time) (sym (last_behind r ys k some le)) later)
