use Rattle.std.proofs.Common.{ap, refl, true, map, string_bytes, ◌≡◌, ◌∙◌, subst}
use Rattle.std.proofs.lemmas.Result.{IfOk-weaker}
use Rattle.clap.specs.Words.{FailsBy, fault_of, is_simple, is_simple_and_free, matches_of}
use Rattle.clap.proofs.OnLiterals.{clap_on_literals}
use Rattle.command_words.specs.Line.{line}
use Rattle.command_words.proofs.line.matched.Goals as goal

is_free : is_simple_and_free line ≡ true
unfolding clap_on_literals
is_free = refl

is_plain : is_simple line ≡ true
unfolding clap_on_literals
is_plain = refl

pub returns-clause-fits : goal.returns-clause-fits
returns-clause-fits c = subst (λ a. FailsBy (fault_of a (map string_bytes c.args.words.now)) c.try_get_matches_from.result) c.in_ok-line.ensures
    (c.try_get_matches_from.ensures.kinds (ap is_simple_and_free c.in_ok-line.ensures ∙ is_free))

pub returns-clause-matches : goal.returns-clause-matches
returns-clause-matches c =
    IfOk-weaker c.try_get_matches_from.result _ _ (λ m h. (h (ap is_simple c.in_ok-line.ensures ∙ is_plain)).0 ∙ ap (λ a. matches_of a (map string_bytes c.args.words.now)) c.in_ok-line.ensures) c.try_get_matches_from.ensures.matches
