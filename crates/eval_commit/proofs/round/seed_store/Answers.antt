use Rattle.std.proofs.Common.{◌≡◌, List, refl, sym, subst, Some}
use Rattle.std.specs.Prelude.{slice_get}
use Rattle.sim_base.specs.BitValue.{BitValue}
use Rattle.circuit.specs.declared.netlist.Drive.{Drive}
use Rattle.eval_commit.specs.Seeding.{HasKept}
use Rattle.eval_commit.proofs.Belonging.{roots_inside}
use Rattle.eval_commit.proofs.Keeping.{has_kept}
use Rattle.eval_commit.proofs.Telling.{told_as}
use Rattle.eval_commit.proofs.round.seed_store.Goals as goal

pub seed-requires-clause-inside : goal.seed-requires-clause-inside
seed-requires-clause-inside c =
    roots_inside c.requires.fits.0 c.args.store.now.nets c.args.plan.now.roots c.as_slice.result.now c.as_slice.ensures c.requires.fits.3.nets c.requires.fits.1

pub seed-requires-clause-kept : goal.seed-requires-clause-kept
seed-requires-clause-kept c i r at =
    subst (λ (os : List (List BitValue)). HasKept (record { inputs = c.args.inputs.now; regs = c.args.store.now.regs; reads = os }) r) (sym c.as_slice-reads.ensures)
    (has_kept c.requires.fits.0 c.args.inputs.now c.args.store.now c.requires.fits.2 c.requires.fits.3 c.args.plan.now.roots c.requires.fits.1 i r
    (subst (λ (ds : List Drive). slice_get ds i ≡ Some r) c.as_slice.ensures at))

pub returns-clause-told : goal.returns-clause-told
returns-clause-told c =
    told_as c.args.plan.now.roots c.as_slice.result.now c.args.plan.now.readers c.args.store.now.nets c.args.store.now.nets c.seed.new.nets c.args.marks.now c.seed.new.marks c.as_slice.ensures refl c.seed.ensures.told
