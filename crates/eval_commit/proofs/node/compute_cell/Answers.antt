use Rattle.std.proofs.Common.{◌≡◌, ℕ, ◌<◌, List, length, map, refl, sym, ◌∙◌}
use Rattle.sim_base.specs.BitValue.{BitValue}
use Rattle.sim_base.specs.Values.{widths}
use Rattle.circuit.specs.declared.cell.Cell.{Cell}
use Rattle.driver_check.proofs.Places.{found}
use Rattle.eval_commit.proofs.Written.{number_in, view_read}
use Rattle.eval_commit.proofs.Belonging.{below_in, cell_listed, roots_inside, spread_as, value_read}
use Rattle.eval_plan.specs.Sources.{cell_row}
use Rattle.eval_commit.proofs.Telling.{listed_as, told_as}
use Rattle.eval_commit.proofs.node.compute_cell.Goals as goal

there : (vs : List BitValue) (cells : List Cell) (n : ℕ) → widths vs ≡ map (λ (x : Cell). x.width) cells → n < length cells → n < length vs
there vs cells n e lt = below_in (λ (x : Cell). x.width) vs vs cells n e refl lt

pub view-from-requires : goal.view-from-requires
view-from-requires g c = there c.eval_cell.new.store.cells c.args.circuit.now.cells c.args.n c.eval_cell.ensures.store.cells c.requires.there

pub spread-requires-clause-inside : goal.spread-requires-clause-inside
spread-requires-clause-inside g c =
    roots_inside c.args.circuit.now c.eval_cell.new.store.nets c.args.plan.now.roots c.as_slice.result.now c.as_slice.ensures c.eval_cell.ensures.store.nets c.requires.roots

pub spread-requires-clause-listed : goal.spread-requires-clause-listed
spread-requires-clause-listed g c =
    let x = found c.args.circuit.now.cells c.args.n c.requires.there in
    let v = value_read (λ (y : Cell). y.width) c.eval_cell.new.store.cells c.eval_cell.new.store.cells c.args.circuit.now.cells c.args.n x.0 c.view-from.result c.eval_cell.ensures.store.cells x.1 refl (view_read c.eval_cell.new.store.cells c.args.n c.view-from.result (there c.eval_cell.new.store.cells c.args.circuit.now.cells c.args.n c.eval_cell.ensures.store.cells c.requires.there) c.view-from.ensures) in
    cell_listed c.args.circuit.now c.args.plan.now.roots c.as_slice.result.now c.args.plan.now.sources c.args.n c.view-from.result.width x.0 c.roots_of_cell-places.result.now
    c.as_slice.ensures c.roots_of_cell-places.ensures c.requires.roots c.requires.sources x.1 v.1

pub returns-clause-spread : goal.returns-clause-spread
returns-clause-spread g c =
    let x = found c.args.circuit.now.cells c.args.n c.requires.there in
    let v = value_read (λ (y : Cell). y.width) c.eval_cell.new.store.cells c.eval_cell.new.store.cells c.args.circuit.now.cells c.args.n x.0 c.view-from.result c.eval_cell.ensures.store.cells x.1 refl (view_read c.eval_cell.new.store.cells c.args.n c.view-from.result (there c.eval_cell.new.store.cells c.args.circuit.now.cells c.args.n c.eval_cell.ensures.store.cells c.requires.there) c.view-from.ensures) in
    spread_as c.args.plan.now.roots c.as_slice.result.now _ c.roots_of_cell-places.result.now _ c.view-from.result.number c.args.store.now.nets c.eval_cell.new.store.nets c.spread.new.nets
    c.as_slice.ensures c.roots_of_cell-places.ensures (sym (number_in c.eval_cell.new.store.cells c.args.n c.view-from.result v.0) ∙ c.eval_cell.ensures.number) c.eval_cell.ensures.nets c.spread.ensures.spread

pub returns-clause-told : goal.returns-clause-told
returns-clause-told g c =
    told_as c.args.plan.now.roots c.as_slice.result.now c.args.plan.now.readers c.args.store.now.nets c.eval_cell.new.store.nets c.spread.new.nets c.args.marks.now c.spread.new.marks c.as_slice.ensures c.eval_cell.ensures.nets c.spread.ensures.told

pub returns-clause-listed : goal.returns-clause-listed
returns-clause-listed g c =
    listed_as c.args.plan.now.readers (cell_row c.args.plan.now.sources c.args.n) c.roots_of_cell-places.result.now c.args.marks.now c.spread.new.marks c.roots_of_cell-places.ensures c.spread.ensures.listed
