use Rattle.std.proofs.Common.{◌≡◌, ◌∙◌, ap, length, subst, refl, arith, Some}
use Rattle.std.specs.Prelude.{slice_get}
use Rattle.std.proofs.lemmas.List.{length-set}
use Rattle.std.proofs.lemmas.Option.{slice_get_read, slice_get_within}
use Rattle.circuit.specs.Signal.{digits_of_nets}
use Rattle.flat_rounds.proofs.Clocked.{clocked_none, clocked_more, clocked_all}
use Rattle.flat_rounds.proofs.clock.clock.Goals as goal

pub loop-n-init : goal.loop-n-init
loop-n-init c = record {
  long = c.requires.long;
  done = clocked_none c.args.circuit.now.regs (digits_of_nets c.args.before.now) (digits_of_nets c.args.nets.now) c.args.regs.now c.args.next.now.items;
}

pub loop-n-preserved : goal.loop-n-preserved
loop-n-preserved c =
    let at = subst (λ xs. slice_get xs c.loop-n.n ≡ Some c.reg-item.result) c.as_slice-reg-items.ensures
    (slice_get_read c.as_slice-reg-items.result.now (length c.as_slice-reg-items.result.now) c.loop-n.n c.reg-item.result refl (omega arith) c.reg-item.is) in
    record {
      long = length-set c.loop-n.next.items c.loop-n.n c.next_word.result ∙ c.loop-n.invariant.long;
      done = clocked_more c.args.circuit.now.regs (digits_of_nets c.args.before.now) (digits_of_nets c.args.nets.now) c.args.regs.now c.loop-n.next.items c.loop-n.n c.next_word.result c.reg-item.result at
          (omega (arith, slice_get_within c.args.circuit.now.regs c.loop-n.n c.reg-item.result at, c.loop-n.invariant.long, c.requires.regs.long))
          c.next_word.ensures.value c.next_word.ensures.below c.loop-n.invariant.done;
    }

pub returns-clause-regs : goal.returns-clause-regs
returns-clause-regs c = record {
  long = c.loop-n.invariant.long ∙ c.requires.regs.long;
  below = λ k r e. (c.loop-n.invariant.done k r (omega (arith, slice_get_within c.args.circuit.now.regs k r e, ap length c.as_slice-reg-items.ensures)) e).1;
}

pub returns-clause-numbers : goal.returns-clause-numbers
returns-clause-numbers c =
    clocked_all c.args.circuit.now.regs (digits_of_nets c.args.before.now) (digits_of_nets c.args.nets.now) c.args.regs.now c.loop-n.next.items c.loop-n.n
    c.requires.regs.long (c.loop-n.invariant.long ∙ c.requires.regs.long) (omega (arith, ap length c.as_slice-reg-items.ensures)) c.loop-n.invariant.done
