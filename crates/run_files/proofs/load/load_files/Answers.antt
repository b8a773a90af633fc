use Rattle.std.proofs.Common.{sym}
use Rattle.std.specs.Option.{option_copied}
use Rattle.run_files.specs.Files.{files_of}
use Rattle.run_files.specs.declared.fault.FileFault.TheVariants as fault
use Rattle.run_files.proofs.Loading.{errs_so, refused_behind}
use Rattle.run_files.proofs.load.load_files.Goals as goal

pub returns-in-Err-clause-refused : goal.returns-in-Err-clause-refused
returns-in-Err-clause-refused g c r e =
    let files = files_of (g.S.Shelf.seen c.args.shelf.now).file c.args.design.now c.args.stimulus.now (option_copied c.args.top) in
    refused_behind c.args.limit files c.in_ok-circuit.field-0.circuit r ((g.S.Shelf.seen c.read_design.new.shelf).file c.args.stimulus.now) c.in_ok-circuit.ensures.design
    (sym (c.read_design.ensures.files c.args.stimulus.now))
    (c.in-Err.ensures.refused r (errs_so c.in-Err.fault (fault.Refused r) e))
