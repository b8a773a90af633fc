use Rattle.std.proofs.Common.{◌≡◌, ◌-◌, ◌*◌, ◌++◌, ◌<◌, ◌^◌, suc, length, drop, slice_index, sym, ◌∙◌, ap, arith, append_assoc}
use Rattle.std.proofs.lemmas.List.{append-nil}
use Rattle.sim_base.specs.Digits.{lowest_digits}
use Rattle.spool_format.specs.Records.{slot_number}
use Rattle.trace_text.proofs.Numerals.{no_digits, word_behind, word_first}
use Rattle.trace_text.proofs.digits.push_number.Goals as goal

pub loop-place-init : goal.loop-place-init
loop-place-init c =
    let words = c.args.words.now in
    let number = slot_number (drop (length words) words) in
    let none : c.args.digits - 8 * length words ≡ 0 = omega (arith, c.requires.within) in
    sym (ap (λ k. c.args.text.now.items ++ lowest_digits 16 k number) none ∙ ap (λ ds. c.args.text.now.items ++ ds) (no_digits number) ∙ append-nil c.args.text.now.items)

pub loop-place-preserved : goal.loop-place-preserved
loop-place-preserved c =
    let words = c.args.words.now in
    let place = c.loop-place.place - 1 in
    let next : c.loop-place.place ≡ suc place = omega arith in
    let above = slot_number (drop (suc place) words) in
    let word = slice_index words place in
    let small : word < 2 ^ 32 = omega arith in
    let before : c.loop-place.text.items ≡ c.args.text.now.items ++ lowest_digits 16 (c.args.digits - 8 * suc place) above =
    c.loop-place.invariant ∙ ap (λ k. c.args.text.now.items ++ lowest_digits 16 (c.args.digits - 8 * k) (slot_number (drop k words))) next in
    c.in_ok-push_word.ensures
    ∙ ap (λ text. text ++ lowest_digits 16 c.digits_at.result word) before
    ∙ append_assoc c.args.text.now.items (lowest_digits 16 (c.args.digits - 8 * suc place) above) (lowest_digits 16 c.digits_at.result word)
    ∙ ap (λ k. c.args.text.now.items ++ (lowest_digits 16 (c.args.digits - 8 * suc place) above ++ lowest_digits 16 k word)) c.digits_at.ensures
    ∙ ap (λ ds. c.args.text.now.items ++ ds) (word_behind c.args.digits place above word small)
    ∙ ap (λ n. c.args.text.now.items ++ lowest_digits 16 (c.args.digits - 8 * place) n) (sym (word_first words place (omega arith)))
