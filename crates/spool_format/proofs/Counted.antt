-- A record of what changed, once the number of slots is written over the 0 that held its place.
use Rattle.std.proofs.Common.{◌≡◌, ℕ, ◌+◌, ◌-◌, List, [], ◌∷◌, ◌++◌, length, get_or, set, sym, ap, ◌∙◌, arith}
use Rattle.std.proofs.lemmas.List.{append_assoc, length-append, set_at}
use Rattle.spool_format.specs.declared.sample.Sample.{Sample}
use Rattle.spool_format.specs.Records.{change_record, changed_slots, slots_with_words, time_words}

written_over : (was front rest : List ℕ) (n c : ℕ) → n ≡ length (was ++ (front ++ 0 ∷ [])) → set ((was ++ (front ++ 0 ∷ [])) ++ rest) (n - 1) c ≡ was ++ (front ++ c ∷ rest)
written_over was front rest n c h =
    let long : length (was ++ (front ++ 0 ∷ [])) ≡ length was + (length front + 1) =
    length-append was (front ++ 0 ∷ []) ∙ ap (λ k. length was + k) (length-append front (0 ∷ [])) in
    let place : length (was ++ front) ≡ n - 1 = length-append was front ∙ (omega arith) in
    let shape : (was ++ (front ++ 0 ∷ [])) ++ rest ≡ (was ++ front) ++ 0 ∷ rest =
    ap (λ xs. xs ++ rest) (sym (append_assoc was front (0 ∷ []))) ∙ append_assoc (was ++ front) (0 ∷ []) rest in
    ap (λ xs. set xs (n - 1) c) shape ∙ set_at (was ++ front) 0 rest c (n - 1) place ∙ append_assoc was front (c ∷ rest)

pub counted : (was headed now times ws xs ys : List ℕ) (at c : ℕ) (widths : List ℕ) (old s : Sample) → ws ≡ widths → xs ≡ old.words → ys ≡ s.words
    → times ≡ time_words s.time
    → headed ≡ was ++ 1 ∷ get_or times 0 0 ∷ get_or times 1 0 ∷ get_or times 2 0 ∷ 0 ∷ []
    → at ≡ length headed
    → now ≡ headed ++ slots_with_words ws ys (changed_slots ws xs ys)
    → c ≡ length (changed_slots ws xs ys)
    → set now (at - 1) c ≡ was ++ change_record widths old s
unfolding change_record
counted was headed now times ws xs ys at c widths old s is_widths is_old is_new is_time is_headed is_at is_now is_c =
    let front : List ℕ = 1 ∷ time_words s.time in
    let head : headed ≡ was ++ (front ++ 0 ∷ []) = is_headed ∙ ap (λ ts. was ++ 1 ∷ get_or ts 0 0 ∷ get_or ts 1 0 ∷ get_or ts 2 0 ∷ 0 ∷ []) is_time in
    let slots : changed_slots ws xs ys ≡ changed_slots widths old.words s.words = cc in
    let rest : slots_with_words ws ys (changed_slots ws xs ys) ≡ slots_with_words widths s.words (changed_slots widths old.words s.words) = cc in
    ap (λ zs. set zs (at - 1) c) (is_now ∙ ap (λ hs. hs ++ slots_with_words ws ys (changed_slots ws xs ys)) head)
    ∙ written_over was front (slots_with_words ws ys (changed_slots ws xs ys)) at c (is_at ∙ ap length head)
    ∙ ap (λ n. was ++ (front ++ n ∷ slots_with_words ws ys (changed_slots ws xs ys))) (is_c ∙ ap length slots)
    ∙ ap (λ zs. was ++ (front ++ length (changed_slots widths old.words s.words) ∷ zs)) rest
