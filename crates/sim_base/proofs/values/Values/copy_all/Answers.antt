use Rattle.std.proofs.Common.{◌∙◌, ℕ, List, ap, subst, sym, length, map}
use Rattle.sim_base.specs.Values.{room_of, values_of, IsLaidOut}
use Rattle.sim_base.specs.declared.values.Span.{Span}
use Rattle.sim_base.proofs.Held.{laid_as, same_widths}
use Rattle.sim_base.proofs.values.Values.copy_all.Goals as goal

abbrev widths_in : List Span → List ℕ
widths_in spans = map (λ s. s.width) spans

abbrev places_in : List Span → List ℕ
places_in spans = map (λ s. s.place) spans

pub copy_from_slice-requires : goal.copy_from_slice-requires
copy_from_slice-requires c =
    let l = c.self.inside.words.ok.0 in
    l ∙ c.self.invariant.room ∙ ap room_of (sym (same_widths _ _ _ _ _ _ c.from.view_is c.self.view_is c.requires)) ∙ sym c.from.invariant.room ∙ sym (ap (λ (l : List ℕ). length l) c.as_slice.ensures.value)

pub invariant_of-self : goal.invariant_of-self
invariant_of-self c =
    subst (λ (l : List ℕ). IsLaidOut l (widths_in c.self.inside.spans.items) (places_in c.self.inside.spans.items)) (sym (c.copy_from_slice.ensures.items ∙ c.as_slice.ensures.value))
    (laid_as c.from.inside.words.items (widths_in c.from.inside.spans.items) (places_in c.from.inside.spans.items) (widths_in c.self.inside.spans.items) (places_in c.self.inside.spans.items) c.from.invariant (same_widths _ _ _ _ _ _ c.from.view_is c.self.view_is c.requires) c.self.invariant.shape c.self.invariant.placed)

pub returns : goal.returns
returns c =
    ap (λ (l : List ℕ). values_of (widths_in c.self.inside.spans.items) l) (c.copy_from_slice.ensures.items ∙ c.as_slice.ensures.value)
    ∙ ap (λ (l : List ℕ). values_of l c.from.inside.words.items) (sym (same_widths _ _ _ _ _ _ c.from.view_is c.self.view_is c.requires)) ∙ c.from.view_is
