use Rattle.circuit.proofs.Choices.{highest_is, is_highest, none_written, writes_none}
use Rattle.circuit.proofs.laws.law_of_writing.Goals as goal

pub returns-clause-highest : goal.returns-clause-highest
returns-clause-highest c before now address i marks ports n p h = highest_is before now address i marks ports n p h

pub returns-clause-written : goal.returns-clause-written
returns-clause-written c before now address i marks ports d h = is_highest before now address i marks ports d h

pub returns-clause-none : goal.returns-clause-none
returns-clause-none c before now address i marks ports h n p e m = writes_none before now address i marks ports h n p e m

pub returns-clause-unwritten : goal.returns-clause-unwritten
returns-clause-unwritten c before now address i marks ports h = none_written before now address i marks ports h
