use Rattle.std.proofs.Common.{◌/◌, ◌%◌, ℕ, List, get_or, not, ◌==◌, ◌∙◌, ap, subst, sym, refl}
use Rattle.std.specs.Int.{bit_at}
use Rattle.std.proofs.lemmas.List.{get_or_read}
use Rattle.sim_base.specs.BitValue.{AreWords, number_of_words, digit_after_copy}
use Rattle.sim_base.proofs.Words.{fit_set}
use Rattle.sim_base.proofs.Copies.{copied_word}
use Rattle.sim_base.proofs.Told.{told_word}
use Rattle.sim_base.proofs.bits.put_digits.Goals as goal

pub returns-clause-fit : goal.returns-clause-fit
returns-clause-fit c =
    subst (λ (l : List ℕ). AreWords l) (sym c.store.ensures.items) (fit_set c.args.words.now.items (c.args.at / 64) c.merged-word.result c.requires.fit c.merged-word.type_inv)

pub returns-clause-bits : goal.returns-clause-bits
returns-clause-bits c j =
    ap (λ (l : List ℕ). bit_at (number_of_words l) j) c.store.ensures.items
    ∙ copied_word c.args.words.now.items c.args.at c.args.n c.args.v c.merged-word.result c.requires.fit c.merged-word.type_inv c.requires.there c.requires.inside
    (λ j lt. c.merged-word.ensures j lt ∙ ap (λ x. digit_after_copy (c.args.at % 64) c.args.v 0 c.args.n x j) (get_or_read c.args.words.now.items (c.args.at / 64) c.index.result.now c.requires.there c.index.ensures 0)) j

pub returns-clause-changed : goal.returns-clause-changed
returns-clause-changed c =
    c.store.ensures.changed (get_or c.args.words.now.items (c.args.at / 64) 0) refl
    ∙ ap not (told_word c.args.words.now.items (c.args.at / 64) c.merged-word.result c.requires.fit c.merged-word.type_inv c.requires.there
    ∙ ap (λ (l : List ℕ). number_of_words l == number_of_words c.args.words.now.items) (sym c.store.ensures.items))
