use Rattle.std.proofs.Common.{◌<◌, ◌∙◌, ℕ, List, length, sym, ap, arith}
use Rattle.std.proofs.lemmas.List.{get_or-map, length-map}
use Rattle.sim_base.specs.Values.{first_word}
use Rattle.sim_base.specs.declared.values.Span.{Span}
use Rattle.sim_base.proofs.Held.{inside, widths_is, width_is}
use Rattle.sim_base.proofs.values.Values.span.Goals as goal

pub index-requires : goal.index-requires
index-requires c =
    let i = inside _ _ _ _ c.args.n c.self.invariant c.self.view_is c.requires in
    let l = c.self.inside.spans.ok.0 in
    omega (arith, length-map c.self.inside.spans.items (λ (s : Span). s.width))

pub returns-clause-place : goal.returns-clause-place
returns-clause-place c =
    let i = inside _ _ _ _ c.args.n c.self.invariant c.self.view_is c.requires in
    let there : c.args.n < length c.self.inside.spans.items = omega (arith, i, length-map c.self.inside.spans.items (λ (s : Span). s.width)) in
    ap (λ (s : Span). s.place) c.index.ensures ∙ sym (get_or-map (λ (s : Span). s.place) c.self.inside.spans.items c.args.n c.index.result.now 0 there)
    ∙ c.self.invariant.placed c.args.n i ∙ ap (λ (l : List ℕ). first_word l c.args.n) (sym (widths_is _ _ _ _ c.args.n c.self.invariant c.self.view_is c.requires))

pub returns-clause-width : goal.returns-clause-width
returns-clause-width c =
    let i = inside _ _ _ _ c.args.n c.self.invariant c.self.view_is c.requires in
    let there : c.args.n < length c.self.inside.spans.items = omega (arith, i, length-map c.self.inside.spans.items (λ (s : Span). s.width)) in
    ap (λ (s : Span). s.width) c.index.ensures ∙ sym (get_or-map (λ (s : Span). s.width) c.self.inside.spans.items c.args.n c.index.result.now 0 there)
    ∙ sym (width_is _ _ _ _ c.args.n c.self.invariant c.self.view_is c.requires)
