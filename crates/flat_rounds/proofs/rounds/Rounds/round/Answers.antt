use Rattle.std.proofs.Common.{◌≡◌, ◌∙◌, ap, arith, rules}
use Rattle.std.proofs.lemmas.Grind.{common_steps}
use Rattle.circuit.specs.Signal.{digits_of_nets}
use Rattle.circuit.specs.Next.{next, next_numbers}
use Rattle.flat_rounds.proofs.Settling.{without, next_without}
use Rattle.flat_rounds.proofs.rounds.Rounds.round.Goals as goal

pub returns-clause-state : goal.returns-clause-state
returns-clause-state c =
    let regs : c.swap-2.new.x.items ≡ next_numbers (digits_of_nets c.self.inside.nets.items) (digits_of_nets c.swap.new.x.items) c.args.circuit.now.regs c.self.inside.regs.items = first_of (search rules, grind (arith, common_steps)) in
    ap without regs
    ∙ next_without c.args.circuit.now c.self.inside.regs.items c.self.inside.nets.items c.swap.new.x.items
    ∙ ap (λ s. next c.args.circuit.now s.state s.nets c.swap.new.x.items) c.self.view_is
