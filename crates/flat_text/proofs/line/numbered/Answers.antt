use Rattle.std.proofs.Common.{ℕ, List, Option, Bor, sym, ap, ◌∙◌, ◌∷◌, option_copied}
use Rattle.std.specs.Option.{option_map}
use Rattle.flat_text.specs.Lines.{numbered}
use Rattle.flat_text.specs.Words.{parts, parts_left}
use Rattle.flat_text.proofs.Parts.{numbered_more, some_part}
use Rattle.flat_text.proofs.line.numbered.Goals as goal

pub returns : goal.returns
returns c =
    let word = c.split_first.result.0.now in
    let more = parts 32 c.in_ok-rest.rest.now in
    ap (λ (r : Option (Bor (List ℕ))). numbered (parts_left 32 (option_copied r))) c.in_ok-words.was
    ∙ ap numbered c.split_first.ensures.parts
    ∙ ap (λ (r : Option (Bor (List ℕ))). numbered (word ∷ parts_left 32 (option_copied r))) c.in_ok-rest.was
    ∙ numbered_more word more (some_part 32 c.in_ok-rest.rest.now)
    ∙ ap (option_map (λ (n : ℕ). (n, more))) (sym c.number_of.ensures ∙ c.in_ok-number.was)
