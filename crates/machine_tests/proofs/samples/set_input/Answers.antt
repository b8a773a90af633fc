use Rattle.eval_commit.proofs.Written.{put_widths}
use Rattle.machine_tests.proofs.samples.set_input.Goals as goal

pub returns-then-n-len : goal.returns-then-n-len
returns-then-n-len c = put_widths c.args.inputs.now c.args.n c.at.result.now c.put_number.new.bits c.at.ensures.value c.put_number.ensures
