use Rattle.std.proofs.Common.{List, subst, sym, ℕ}
use Rattle.std.specs.Option.{option_copied}
use Rattle.run_files.specs.Files.{MayHold}
use Rattle.run_files.proofs.Loading.{design_is}
use Rattle.run_files.proofs.load.read_design.Goals as goal

pub returns-clause-design : goal.returns-clause-design
returns-clause-design g c =
    let file = (g.S.Shelf.seen c.args.shelf.now).file c.args.name.now in
    design_is c.args.limit file (option_copied c.args.top) c.deref.result.now c.in_ok-load_design.field-0
    (subst (λ (text : List ℕ). MayHold c.args.limit file text) (sym c.deref.ensures.value) c.in_ok-text.ensures.text)
    c.in_ok-load_design.ensures
