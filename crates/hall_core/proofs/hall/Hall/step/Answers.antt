use Rattle.std.proofs.Common.{rules, ◌≡◌, ◌++◌, [], ◌∷◌}
use Rattle.hall_core.proofs.Histories.{legal_step}
use Rattle.hall_core.proofs.hall.Hall.step.Goals as goal

pub returns-clause-legal : goal.returns-clause-legal
returns-clause-legal c =
    let is : c.push.new.self.items ≡ c.args.self.now.history ++ c.args.entry ∷ [] = search rules in
    legal_step c.args.self.now.count c.args.self.now.history c.args.entry _ is c.requires
