use Rattle.std.proofs.Common.{◌≡◌, true, subst, sym}
use Rattle.circuit.specs.Valid.{is_valid}
use Rattle.circuit.specs.declared.netlist.Circuit.{Circuit}
use Rattle.design_starts.specs.Starts.{start_digit, started}
use Rattle.design_finish.proofs.Only.{only_one, valid_one}
use Rattle.design_finish.proofs.Ready.{ready_fits}
use Rattle.design_finish.proofs.laws.law_of_finishing.Goals as goal

pub returns-clause-only : goal.returns-clause-only
returns-clause-only c made one other inits apart a b =
    let rise = c.law_of_order.ensures.rise made.items in
    only_one c.law_of_order.ensures.before made one other inits a b (rise a.arranged.sorted apart a.arranged.same a.arranged.rise) (rise b.arranged.sorted apart b.arranged.same b.arranged.rise)

pub returns-clause-valid_only : goal.returns-clause-valid_only
returns-clause-valid_only c made one other inits valid a b =
    valid_one c.law_of_order.ensures.before c.law_of_order.ensures.rise made one other inits (c.law_of_validity.ensures.parts one valid).rise a b

pub returns-clause-valid : goal.returns-clause-valid
returns-clause-valid c made finished inits fin ready =
    let items = fin.items in
    let law = c.law_of_arranged_items.ensures in
    let begun : Circuit = record made { items = items } in
    subst (λ (x : Circuit). is_valid x ≡ true) (sym fin.whole)
    (c.law_of_validity.ensures.whole (started begun inits)
    (ready_fits (start_digit begun inits) made items ready
    (law.count made.mems made.items items fin.arranged)
    (λ net. law.once made.mems net made.items items fin.arranged)
    (law.fit made.nets made.mems made.scopes made.items items fin.arranged ready.items)
    (law.slots made.mems made.items items fin.arranged)
    (law.rise made.mems made.items items fin.arranged ready.apart)))
