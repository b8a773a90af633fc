use Rattle.std.proofs.Common.{◌∙◌, sym, ap, length}
use Rattle.std.specs.Prelude.{◌==◌}
use Rattle.std.specs.List.{list_any}
use Rattle.flat_stimulus.proofs.Lists.{list_any-map, words_some, words_none}
use Rattle.flat_stimulus.proofs.words.read_words.Goals as goal

pub returns-then-has_empty-clause-not_built : goal.returns-then-has_empty-clause-not_built
returns-then-has_empty-clause-not_built c same =
    words_none c.args.line.now _ c.in_ok-words.ensures
    (list_any-map (λ word. length word == 0) (λ x. x.now) c.in_ok-words.words.items ∙ sym (c.has_empty.ensures ∙ ap (list_any (λ word. length word.now == 0)) c.deref.ensures.value) ∙ c.if-has_empty.true)

pub returns-clause-ok : goal.returns-clause-ok
returns-clause-ok c =
    words_some c.args.line.now _ c.in_ok-words.ensures
    (list_any-map (λ word. length word == 0) (λ x. x.now) c.in_ok-words.words.items ∙ sym (c.has_empty.ensures ∙ ap (list_any (λ word. length word.now == 0)) c.deref.ensures.value) ∙ c.if-has_empty.false)
