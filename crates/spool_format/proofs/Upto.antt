-- What is written once the slots from one up to another have been compared.
use Rattle.std.proofs.Common.{◌≡◌, ℕ, ◌+◌, ◌-◌, ◌<◌, ◌≤◌, List, [], ◌∷◌, ◌++◌, length, take, drop, get_or, Bool, true, false, not, cond, refl, sym, ap, ◌∙◌, arith}
use Rattle.std.specs.Str.{bytes_eq}
use Rattle.std.proofs.lemmas.List.{append-nil, append_assoc, length-append, take_at, take-take}
use Rattle.sim_base.specs.Shape.{words_of_width}
use Rattle.spool_format.specs.Records.{place_of, slot_words, changed_among, slots_with_words}
use Rattle.spool_format.proofs.Slots.{place_next, changed_split, changed_few, written_append, written_one, written_none, none_changed}

-- the slots from one up to another that differ stand behind what was there, and are counted
pub record IsWritten (ws old new : List ℕ) (from at p c : ℕ) (was now : List ℕ) : Type 0 where
  pub place : p ≡ place_of ws at
  pub count : c ≡ length (changed_among ws old new from (at - from))
  pub few : c ≤ at - from
  pub into : now ≡ was ++ slots_with_words ws new (changed_among ws old new from (at - from))

pub IsWritten-none : (ws old new : List ℕ) (from place : ℕ) (was : List ℕ) → place ≡ place_of ws from → IsWritten ws old new from from place 0 was was
IsWritten-none ws old new from place was h =
    let nothing : from - from ≡ 0 = omega arith in
    let empty : changed_among ws old new from (from - from) ≡ [] = ap (changed_among ws old new from) nothing in
    record {
      place = h;
      count = sym (ap length empty);
      few = omega arith;
      into = sym (ap (λ xs. was ++ slots_with_words ws new xs) empty ∙ ap (λ xs. was ++ xs) (written_none ws new) ∙ append-nil was);
    }

one_changed : (ws old new : List ℕ) (n : ℕ) (b : Bool) → bytes_eq (slot_words ws old n) (slot_words ws new n) ≡ b → changed_among ws old new n 1 ≡ cond (not b) (n ∷ []) []
one_changed ws old new n b h = ap (λ r. cond (not r) (n ∷ []) []) h

-- more slots are compared: those of `more` differ
further : (ws old new : List ℕ) (from a e q c d : ℕ) (was into now more : List ℕ) → from ≤ a → a ≤ e
    → into ≡ was ++ slots_with_words ws new (changed_among ws old new from (a - from)) → c ≡ length (changed_among ws old new from (a - from))
    → changed_among ws old new a (e - a) ≡ more → d ≡ length more → now ≡ into ++ slots_with_words ws new more → q ≡ place_of ws e
    → IsWritten ws old new from e q (c + d) was now
further ws old new from a e q c d was into now more low high is_into is_c is_more is_d is_now is_q =
    let split = changed_split ws old new from (a - from) (e - a) in
    let whole : (a - from) + (e - a) ≡ e - from = omega arith in
    let middle : from + (a - from) ≡ a = omega arith in
    let all : changed_among ws old new from (e - from) ≡ changed_among ws old new from (a - from) ++ more =
    ap (changed_among ws old new from) (sym whole) ∙ split ∙ ap (λ k. changed_among ws old new from (a - from) ++ changed_among ws old new k (e - a)) middle
    ∙ ap (λ xs. changed_among ws old new from (a - from) ++ xs) is_more in
    let counted : c + d ≡ length (changed_among ws old new from (e - from)) =
    ap (λ n. n + d) is_c ∙ ap (λ n. length (changed_among ws old new from (a - from)) + n) is_d
    ∙ sym (length-append (changed_among ws old new from (a - from)) more) ∙ sym (ap length all) in
    let few = changed_few ws old new from (e - from) in
    record {
      place = is_q;
      count = counted;
      few = omega arith;
      into = is_now ∙ ap (λ xs. xs ++ slots_with_words ws new more) is_into
          ∙ append_assoc was (slots_with_words ws new (changed_among ws old new from (a - from))) (slots_with_words ws new more)
          ∙ ap (λ xs. was ++ xs) (sym (written_append ws new (changed_among ws old new from (a - from)) more))
          ∙ ap (λ xs. was ++ slots_with_words ws new xs) (sym all);
    }

-- the words of the slot that is compared next
compared : (ws old : List ℕ) (n p r : ℕ) → p ≡ place_of ws n → r ≡ words_of_width (get_or ws n 0) → take (p + r - p) (drop p old) ≡ slot_words ws old n
compared ws old n p r is_p is_r =
    let long : p + r - p ≡ r = omega arith in
    ap (λ k. take k (drop p old)) (long ∙ is_r) ∙ ap (λ k. take (words_of_width (get_or ws n 0)) (drop k old)) is_p

slots_of_one : (n : ℕ) → n + 1 - n ≡ 1
slots_of_one n = omega arith

pub IsWritten-same : {ws old new : List ℕ} {from n p c : ℕ} {was into : List ℕ} (r : ℕ) → IsWritten ws old new from n p c was into → from ≤ n → n < length ws
    → r ≡ words_of_width (get_or ws n 0) → bytes_eq (take (p + r - p) (drop p old)) (take (p + r - p) (drop p new)) ≡ true
    → IsWritten ws old new from (n + 1) (p + r) c was into
IsWritten-same {ws} {old} {new} {from} {n} {p} {c} {was} {into} r h low within is_r same =
    let there : bytes_eq (slot_words ws old n) (slot_words ws new n) ≡ true =
    rw (← compared ws old n p r h.place is_r, ← compared ws new n p r h.place is_r) same in
    let none : changed_among ws old new n (n + 1 - n) ≡ [] = ap (changed_among ws old new n) (slots_of_one n) ∙ one_changed ws old new n true there in
    let next : p + r ≡ place_of ws (n + 1) = ap (λ k. k + r) h.place ∙ ap (λ k. place_of ws n + k) is_r ∙ sym (place_next ws n within) in
    let done = further ws old new from n (n + 1) (p + r) c 0 was into into [] low (omega arith) h.into h.count none refl
    (sym (ap (λ xs. into ++ xs) (written_none ws new) ∙ append-nil into)) next in
    let counted : c + 0 ≡ c = omega arith in
    rw counted at done

pub IsWritten-changed : {ws old new : List ℕ} {from n p c : ℕ} {was into : List ℕ} (r : ℕ) (now : List ℕ) → IsWritten ws old new from n p c was into → from ≤ n → n < length ws
    → r ≡ words_of_width (get_or ws n 0) → bytes_eq (take (p + r - p) (drop p old)) (take (p + r - p) (drop p new)) ≡ false
    → now ≡ into ++ n ∷ take (p + r - p) (drop p new)
    → IsWritten ws old new from (n + 1) (p + r) (c + 1) was now
IsWritten-changed {ws} {old} {new} {from} {n} {p} {c} {was} {into} r now h low within is_r apart is_now =
    let there : bytes_eq (slot_words ws old n) (slot_words ws new n) ≡ false =
    rw (← compared ws old n p r h.place is_r, ← compared ws new n p r h.place is_r) apart in
    let one : changed_among ws old new n (n + 1 - n) ≡ n ∷ [] = ap (changed_among ws old new n) (slots_of_one n) ∙ one_changed ws old new n false there in
    let next : p + r ≡ place_of ws (n + 1) = ap (λ k. k + r) h.place ∙ ap (λ k. place_of ws n + k) is_r ∙ sym (place_next ws n within) in
    further ws old new from n (n + 1) (p + r) c 1 was into now (n ∷ []) low (omega arith) h.into h.count one refl
    (is_now ∙ ap (λ xs. into ++ n ∷ xs) (compared ws new n p r h.place is_r) ∙ ap (λ xs. into ++ xs) (sym (written_one ws new n))) next

pub IsWritten-block : {ws old new : List ℕ} {n p c : ℕ} {was into : List ℕ} (e q d : ℕ) (now : List ℕ) → IsWritten ws old new 0 n p c was into → n ≤ e
    → q ≡ place_of ws e → d ≡ length (changed_among ws old new n (e - n))
    → now ≡ into ++ slots_with_words ws new (changed_among ws old new n (e - n))
    → IsWritten ws old new 0 e q (c + d) was now
IsWritten-block {ws} {old} {new} {n} {p} {c} {was} {into} e q d now h high is_q is_d is_now =
    further ws old new 0 n e q c d was into now (changed_among ws old new n (e - n)) (omega arith) high h.into h.count refl is_d is_now is_q

pub IsWritten-block_same : {ws old new : List ℕ} {n p c : ℕ} {was into : List ℕ} (e q : ℕ) → IsWritten ws old new 0 n p c was into → n ≤ e → e ≤ length ws
    → q ≡ place_of ws e → bytes_eq (take (q - p) (drop p old)) (take (q - p) (drop p new)) ≡ true
    → IsWritten ws old new 0 e q c was into
IsWritten-block_same {ws} {old} {new} {n} {p} {c} {was} {into} e q h high within is_q same =
    let none : changed_among ws old new n (e - n) ≡ [] = none_changed ws old new n e p q high within h.place is_q same in
    let done = further ws old new 0 n e q c 0 was into into [] (omega arith) high h.into h.count none refl
    (sym (ap (λ xs. into ++ xs) (written_none ws new) ∙ append-nil into)) is_q in
    let counted : c + 0 ≡ c = omega arith in
    rw counted at done

-- what begins with more begins with less
pub begins_on : (a x b c : List ℕ) → b ≡ a ++ x → take (length b) c ≡ b → take (length a) c ≡ a
begins_on a x b c is starts =
    let long : length b ≡ length a + length x = ap length is ∙ length-append a x in
    let fits : length a ≤ length b = omega arith in
    sym (take-take (length a) (length b) c fits) ∙ ap (take (length a)) starts ∙ ap (take (length a)) is ∙ take_at a x (length a) refl
