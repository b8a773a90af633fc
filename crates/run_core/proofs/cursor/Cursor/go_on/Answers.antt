use Rattle.std.proofs.Common.{refl, sym, ◌∙◌, ap, arith}
use Rattle.std.specs.Prelude.{is_some}
use Rattle.std.proofs.lemmas.Bool.{false≢true}
use Rattle.sim_base.specs.Values.{numbers, widths}
use Rattle.eval_commit.specs.Machine.{MachineState}
use Rattle.run_core.proofs.Steps.{does_not, goes_on, settles, settles_next, stands_next, written_back}
use Rattle.run_core.proofs.cursor.Cursor.go_on.Goals as goal

pub returns-in-Yes-clause-cursor : goal.returns-in-Yes-clause-cursor
returns-in-Yes-clause-cursor c =
    let back = written_back c.args.self.now.inputs.len c.row_from-time.new.into c.args.self.now.inputs.items (c.row_from-time.auto.into ∙ c.deref_mut.ensures.len) in
    let left = goes_on c.args.self.now.machine.circuit c.args.stimulus.now c.args.self.now.given c.args.self.now.machine c.settle.new.machine (numbers c.deref.result.now) refl (c.requires.cursor.stands c.requires.free)
    (ap numbers (c.deref.ensures.value ∙ back) ∙ c.row_from-time.ensures.inputs) c.settle.ensures.machine in
    let yes = c.settle.ensures.yes c.in-Yes.field-0 c.in-Yes.is in
    record {
      valid = c.requires.cursor.valid;
      fits = c.requires.cursor.fits;
      circuit = ap (λ (m : MachineState). m.circuit) left;
      place = c.row_from-time.ensures.place;
      inputs = ap widths back ∙ c.row_from-time.ensures.widths ∙ ap widths c.deref_mut.ensures.value ∙ c.requires.cursor.inputs;
      within = omega (arith, c.requires.there);
      settled = settles_next c.args.self.now.machine.circuit c.args.stimulus.now c.args.self.now.given c.settle.new.machine left yes;
      stands = λ free. stands_next c.args.self.now.machine.circuit c.args.stimulus.now c.args.self.now.given c.settle.new.machine left;
      ends = λ stuck. absurd (false≢true (sym c.requires.free ∙ stuck));
    }

pub returns-in-Yes-clause-machine : goal.returns-in-Yes-clause-machine
returns-in-Yes-clause-machine c =
    let back = written_back c.args.self.now.inputs.len c.row_from-time.new.into c.args.self.now.inputs.items (c.row_from-time.auto.into ∙ c.deref_mut.ensures.len) in
    let left = goes_on c.args.self.now.machine.circuit c.args.stimulus.now c.args.self.now.given c.args.self.now.machine c.settle.new.machine (numbers c.deref.result.now) refl (c.requires.cursor.stands c.requires.free)
    (ap numbers (c.deref.ensures.value ∙ back) ∙ c.row_from-time.ensures.inputs) c.settle.ensures.machine in
    left

pub returns-in-Yes-clause-settles : goal.returns-in-Yes-clause-settles
returns-in-Yes-clause-settles c =
    let back = written_back c.args.self.now.inputs.len c.row_from-time.new.into c.args.self.now.inputs.items (c.row_from-time.auto.into ∙ c.deref_mut.ensures.len) in
    let left = goes_on c.args.self.now.machine.circuit c.args.stimulus.now c.args.self.now.given c.args.self.now.machine c.settle.new.machine (numbers c.deref.result.now) refl (c.requires.cursor.stands c.requires.free)
    (ap numbers (c.deref.ensures.value ∙ back) ∙ c.row_from-time.ensures.inputs) c.settle.ensures.machine in
    (λ some. settles c.args.self.now.machine.circuit c.args.stimulus.now c.args.self.now.given c.settle.new.machine left (c.settle.ensures.yes c.in-Yes.field-0 c.in-Yes.is), λ some. refl)

pub returns-in-No-clause-cursor : goal.returns-in-No-clause-cursor
returns-in-No-clause-cursor c =
    let back = written_back c.args.self.now.inputs.len c.row_from-time.new.into c.args.self.now.inputs.items (c.row_from-time.auto.into ∙ c.deref_mut.ensures.len) in
    let left = goes_on c.args.self.now.machine.circuit c.args.stimulus.now c.args.self.now.given c.args.self.now.machine c.settle.new.machine (numbers c.deref.result.now) refl (c.requires.cursor.stands c.requires.free)
    (ap numbers (c.deref.ensures.value ∙ back) ∙ c.row_from-time.ensures.inputs) c.settle.ensures.machine in
    record {
      valid = c.requires.cursor.valid;
      fits = c.requires.cursor.fits;
      circuit = ap (λ (m : MachineState). m.circuit) left;
      place = c.row_from-time.ensures.place;
      inputs = ap widths back ∙ c.row_from-time.ensures.widths ∙ ap widths c.deref_mut.ensures.value ∙ c.requires.cursor.inputs;
      within = c.requires.cursor.within;
      settled = c.requires.cursor.settled;
      stands = λ free. absurd (false≢true (sym free));
      ends = λ stuck. (c.requires.there, does_not c.args.self.now.machine.circuit c.args.stimulus.now c.args.self.now.given c.settle.new.machine left (c.settle.ensures.no c.in-No.is));
    }

pub returns-in-No-clause-machine : goal.returns-in-No-clause-machine
returns-in-No-clause-machine c =
    let back = written_back c.args.self.now.inputs.len c.row_from-time.new.into c.args.self.now.inputs.items (c.row_from-time.auto.into ∙ c.deref_mut.ensures.len) in
    let left = goes_on c.args.self.now.machine.circuit c.args.stimulus.now c.args.self.now.given c.args.self.now.machine c.settle.new.machine (numbers c.deref.result.now) refl (c.requires.cursor.stands c.requires.free)
    (ap numbers (c.deref.ensures.value ∙ back) ∙ c.row_from-time.ensures.inputs) c.settle.ensures.machine in
    left

pub returns-in-No-clause-settles : goal.returns-in-No-clause-settles
returns-in-No-clause-settles c =
    let back = written_back c.args.self.now.inputs.len c.row_from-time.new.into c.args.self.now.inputs.items (c.row_from-time.auto.into ∙ c.deref_mut.ensures.len) in
    let left = goes_on c.args.self.now.machine.circuit c.args.stimulus.now c.args.self.now.given c.args.self.now.machine c.settle.new.machine (numbers c.deref.result.now) refl (c.requires.cursor.stands c.requires.free)
    (ap numbers (c.deref.ensures.value ∙ back) ∙ c.row_from-time.ensures.inputs) c.settle.ensures.machine in
    let none = does_not c.args.self.now.machine.circuit c.args.stimulus.now c.args.self.now.given c.settle.new.machine left (c.settle.ensures.no c.in-No.is) in
    (λ some. absurd (false≢true some), λ some. absurd (false≢true (sym (ap is_some none) ∙ some)))
