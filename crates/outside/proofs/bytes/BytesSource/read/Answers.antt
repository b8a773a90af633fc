use Rattle.std.proofs.Common.{◌≡◌, ◌≤◌, ap, arith, drop, length, take, sym, ◌∙◌, Some}
use Rattle.std.proofs.lemmas.Grind.{common_steps}
use Rattle.std.proofs.lemmas.List.{take_rest}
use Rattle.outside.proofs.SourceLemmas.{given-at_front}
use Rattle.outside.proofs.bytes.BytesSource.read.Goals as goal

pub returns-clause-bytes : goal.returns-clause-bytes
returns-clause-bytes c =
    let inside : c.min-count.result ≤ length (drop c.self.inside.given c.self.inside.bytes.items) = grind (arith, common_steps, take_rest) in
    let same : c.copy_from_slice.new.self ≡ take c.min-count.result (drop c.self.inside.given c.self.inside.bytes.items) = grind (arith, common_steps, take_rest) in
    ap (λ giving. Some giving.left) (sym c.self.view_is)
    ∙ ap Some (given-at_front c.self.inside.given c.min-count.result c.self.inside.bytes.items c.copy_from_slice.new.self _ inside same)
