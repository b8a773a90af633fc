use Rattle.std.proofs.Common.{◌^◌, ◌<◌, ◌∙◌, List, ap, subst, sym, length, map}
use Rattle.std.proofs.lemmas.List.{length-map}
use Rattle.sim_base.specs.BitValue.{BitValue}
use Rattle.sim_base.specs.declared.values.Span.{Span}
use Rattle.sim_base.proofs.Blocks.{length_of_values}
use Rattle.sim_base.proofs.values.Values.len.Goals as goal

pub returns-clause-value : goal.returns-clause-value
returns-clause-value c =
    let l = c.self.inside.spans.ok.0 in
    c.len.ensures ∙ l ∙ sym (length-map c.self.inside.spans.items (λ (s : Span). s.width))
    ∙ sym (length_of_values (map (λ (s : Span). s.width) c.self.inside.spans.items) c.self.inside.words.items) ∙ ap (λ (l : List BitValue). length l) c.self.view_is

pub returns-clause-few : goal.returns-clause-few
returns-clause-few c = subst (λ n. n < 2 ^ 32) (sym (length_of_values (map (λ (s : Span). s.width) c.self.inside.spans.items) c.self.inside.words.items) ∙ ap (λ (l : List BitValue). length l) c.self.view_is) c.self.invariant.few
