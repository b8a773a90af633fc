use Rattle.std.proofs.Common.{◌≡◌, subst, arith}
use Rattle.stimulus_blocks.specs.Blocks.{samples_in}
use Rattle.stimulus_blocks.specs.Courses.{Course, IsCourse}
use Rattle.stimulus_blocks.proofs.Samples.{some_samples}
use Rattle.stimulus_blocks.proofs.course.Stimulus.count.Goals as goal

pub returns-clause-some : goal.returns-clause-some
returns-clause-some c some =
    let good : IsCourse c.args.self.now = subst (λ (s : Course). IsCourse s) c.self.view_is c.self.invariant.1 in
    let least = some_samples c.args.self.now.widths c.args.self.now.blocks good.blocks some in
    let is : c.self.inside.count ≡ samples_in c.args.self.now.blocks = subst (λ (s : Course). c.self.inside.count ≡ samples_in s.blocks) c.self.view_is c.self.invariant.0.count in
    omega arith
