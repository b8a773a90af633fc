use Rattle.std.proofs.Common.{rules}
use Rattle.flat_stimulus.specs.Text.{columns_among}
use Rattle.flat_stimulus.proofs.column.push_column.Goals as goal

pub returns-else-input : goal.returns-else-input
unfolding columns_among
returns-else-input c = search rules

pub returns-in_ok-push : goal.returns-in_ok-push
unfolding columns_among
returns-in_ok-push c = search rules
