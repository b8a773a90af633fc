use Rattle.design_items.proofs.Placed.{arranged_fit, arranged_once, arranged_rise, arranged_run, arranged_slots}
use Rattle.design_items.proofs.laws.law_of_arranged_items.Goals as goal

pub returns-clause-slots : goal.returns-clause-slots
returns-clause-slots c mems made items arranged = arranged_run mems made items arranged

pub returns-clause-rise : goal.returns-clause-rise
returns-clause-rise c mems made items arranged apart = arranged_rise mems made items arranged (c.law_of_order.ensures.rise made arranged.sorted apart arranged.same arranged.rise)

pub returns-clause-fit : goal.returns-clause-fit
returns-clause-fit c nets mems scopes made items arranged fit = arranged_fit mems made items arranged nets scopes (c.law_of_order.ensures.fit nets mems scopes made arranged.sorted arranged.same fit)

pub returns-clause-once : goal.returns-clause-once
returns-clause-once c mems net made items arranged = arranged_once mems made items arranged net (c.law_of_order.ensures.once net made arranged.sorted arranged.same)

pub returns-clause-count : goal.returns-clause-count
returns-clause-count c mems made items arranged = arranged_slots mems made items arranged
