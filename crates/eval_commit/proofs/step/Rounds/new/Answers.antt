use Rattle.std.proofs.Common.{◌∙◌, List, ap, subst, map, arith}
use Rattle.sim_base.specs.BitValue.{BitValue}
use Rattle.circuit.specs.Valid.{register_words}
use Rattle.circuit.specs.declared.register.Reg.{Reg}
use Rattle.circuit.proofs.Grown.{fitting_of}
use Rattle.driver_check.specs.declared.parts.Node.{Node}
use Rattle.eval_plan.proofs.Counted.{nodes_countable}
use Rattle.eval_commit.specs.Marked.{AreReadPlaces}
use Rattle.eval_commit.specs.declared.step.Rounds.{Rounds}
use Rattle.eval_commit.proofs.Standing.{AreFirst, first_rounds, first_state}
use Rattle.eval_commit.proofs.step.Rounds.new.Goals as goal

pub start_regs-requires : goal.start_regs-requires
start_regs-requires c =
    let few = (fitting_of c.args.circuit.now c.requires.valid).counts.register_words in
    omega (arith, few, ap register_words c.as_slice.ensures)

pub overflow_cast-len : goal.overflow_cast-len
overflow_cast-len c =
    let few = nodes_countable c.args.circuit.now c.args.plan.now.nodes c.requires.valid c.requires.nodes in
    omega (arith, few, c.len.ensures)

-- what is made
abbrev made : goal.In_ok-read_places → Rounds
made c = record {
  regs = c.in_ok-start_regs.field-0;
  rows = c.in_ok-start_rows.field-0;
  ports = c.in_ok-start_ports.field-0;
  before = c.in_ok-new.field-0;
  now = c.in_ok-new-2.field-0;
  rooms = c.in_ok-rooms_of.field-0;
  fired = c.in_ok-start_fired.field-0;
  marks = c.in_ok-new-3.field-0;
  reads = c.in_ok-read_places.field-0;
}

first : (c : goal.In_ok-read_places) → AreFirst c.args.circuit.now c.args.plan.now (made c)
first c = record {
  regs = c.in_ok-start_regs.ensures ∙ ap (map (λ (r : Reg). r.init)) c.as_slice.ensures;
  rows = c.in_ok-start_rows.ensures;
  ports = c.in_ok-start_ports.ensures;
  before = c.in_ok-new.ensures;
  now = c.in_ok-new-2.ensures;
  rooms = c.in_ok-rooms_of.ensures;
  fired = c.in_ok-start_fired.ensures;
  marks = ap (λ (v : BitValue). v.width) c.in_ok-new-3.ensures ∙ c.len.ensures;
  reads = subst (λ (nodes : List Node). AreReadPlaces nodes c.in_ok-read_places.field-0.items) c.as_slice-2.ensures c.in_ok-read_places.ensures;
}

pub returns-clause-rounds : goal.returns-clause-rounds
returns-clause-rounds c =
    first_rounds c.args.circuit.now c.args.plan.now (made c) (first c) (c.law_of_start.ensures c.args.circuit.now c.requires.valid) (c.law_of_first_state.ensures.rows c.args.circuit.now)
    (c.law_of_first_state.ensures.blank c.args.circuit.now c.args.plan.now.roots) c.requires.valid

pub returns-clause-state : goal.returns-clause-state
returns-clause-state c = first_state c.args.circuit.now c.args.plan.now (made c) (first c)
