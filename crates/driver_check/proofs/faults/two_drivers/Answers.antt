use Rattle.std.proofs.Common.{◌≡◌, List, length, ap, subst, arith}
use Rattle.std.specs.Prelude.{slice_index}
use Rattle.std.proofs.lemmas.Result.{IfOk-weaker}
use Rattle.circuit.specs.declared.netlist.Drive.{Drive}
use Rattle.driver_check.specs.Faults.{SaysTwoDrivers, says_two_drivers}
use Rattle.driver_check.specs.Invariants.{IsNextCover}
use Rattle.driver_check.proofs.Fitting.{drives_inside}
use Rattle.driver_check.proofs.Owned.{first_shared, owner_covers, owner_there}
use Rattle.driver_check.proofs.faults.two_drivers.Goals as goal

pub bit_of-bit-requires-clause-there : goal.bit_of-bit-requires-clause-there
bit_of-bit-requires-clause-there c =
    owner_there c.args.circuit.now (drives_inside c.args.circuit.now c.requires.valid) c.args.owners.now c.requires.owners c.args.least c.args.numbering.now.bits c.requires.shared c.requires.some

pub bit_of-bit-requires-clause-inside : goal.bit_of-bit-requires-clause-inside
bit_of-bit-requires-clause-inside c =
    owner_covers c.args.circuit.now (drives_inside c.args.circuit.now c.requires.valid) c.args.owners.now c.requires.owners c.args.least c.args.numbering.now.bits c.requires.shared c.requires.some

pub next_cover-second-requires : goal.next_cover-second-requires
next_cover-second-requires c =
    let h = owner_there c.args.circuit.now (drives_inside c.args.circuit.now c.requires.valid) c.args.owners.now c.requires.owners c.args.least c.args.numbering.now.bits c.requires.shared c.requires.some in
    omega (arith, h, ap (λ (xs : List Drive). length xs) c.as_slice.ensures)

pub returns : goal.returns
returns c =
    let next = subst (λ (drives : List Drive). IsNextCover drives (slice_index c.args.owners.now c.args.least) c.bit_of-bit.result.0 c.bit_of-bit.result.1 c.next_cover-second.result) c.as_slice.ensures c.next_cover-second.ensures in
    IfOk-weaker c.shared_fault.result
    (λ f. f ≡ says_two_drivers c.args.circuit.now (c.bit_of-bit.result.0, c.bit_of-bit.result.1) (slice_index c.args.owners.now c.args.least) c.next_cover-second.result)
    (λ f. SaysTwoDrivers c.args.circuit.now f)
    (λ f is. record {
      bit = (c.bit_of-bit.result.0, c.bit_of-bit.result.1);
      first = slice_index c.args.owners.now c.args.least;
      second = c.next_cover-second.result;
      shared = first_shared c.args.circuit.now (drives_inside c.args.circuit.now c.requires.valid) c.args.owners.now c.requires.owners c.args.least c.args.numbering.now.bits c.requires.shared c.requires.some
          (c.bit_of-bit.result.0, c.bit_of-bit.result.1) c.bit_of-bit.ensures.number c.bit_of-bit.ensures.covers c.next_cover-second.result next;
      is = is;
    }) c.shared_fault.ensures
