use Rattle.std.proofs.Common.{ℕ, List, Option, Bor, sym, ap, ◌∙◌, ◌∷◌, option_copied}
use Rattle.flat_text.specs.Words.{one_of, parts, parts_left}
use Rattle.flat_text.proofs.Parts.{one_of_more, some_part}
use Rattle.flat_text.proofs.words.one_of.Goals as goal

pub returns-in-Some : goal.returns-in-Some
returns-in-Some c =
    let first = c.split_first.result.0.now in
    let more = c.in-Some.field-0.now in
    sym (ap one_of c.split_first.ensures.parts
    ∙ ap (λ (r : Option (Bor (List ℕ))). one_of (first ∷ parts_left 32 (option_copied r))) c.in-Some.is
    ∙ one_of_more first (parts 32 more) (some_part 32 more))
