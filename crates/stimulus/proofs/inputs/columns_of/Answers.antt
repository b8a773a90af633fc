use Rattle.std.proofs.Common.{get_or, ◌++◌, ◌+◌, ◌∙◌, drop, sym, ap, arith}
use Rattle.std.specs.Option.{option_map}
use Rattle.stimulus.specs.Inputs.{columns_of}
use Rattle.stimulus.proofs.Traversed.{front_none, columns_step, columns_stop, columns_end}
use Rattle.stimulus.proofs.inputs.columns_of.Goals as goal

pub loop-input-init : goal.loop-input-init
loop-input-init c = sym (ap (λ xs. option_map (λ more. xs ++ more) (columns_of c.args.nets.now c.args.inputs.now)) c.new-columns.ensures.items ∙ front_none (columns_of c.args.nets.now c.args.inputs.now))

pub loop-input-preserved : goal.loop-input-preserved
loop-input-preserved c =
    columns_step c.args.nets.now c.args.inputs.now c.loop-input.columns.items c.loop-input.input-index c.loop-input.invariant c.loop-input-test.true c.in-Some.column (sym (c.in-Some.ensures ∙ c.get.ensures.value ∙ c.in_ok-places.ensures (get_or c.args.inputs.now c.loop-input.input-index 0)))
    ∙ ap (λ xs. option_map (λ more. xs ++ more) (columns_of c.args.nets.now (drop (c.loop-input.input-index + 1) c.args.inputs.now))) (sym c.in_ok-push-in-Some.ensures.items)

pub returns-in-None : goal.returns-in-None
returns-in-None c = sym (columns_stop c.args.nets.now c.args.inputs.now c.loop-input.columns.items c.loop-input.input-index c.loop-input.invariant c.loop-input-test.true (sym (c.in-None.ensures ∙ c.get.ensures.value ∙ c.in_ok-places.ensures (get_or c.args.inputs.now c.loop-input.input-index 0))))

pub returns : goal.returns
returns c = sym (columns_end c.args.nets.now c.args.inputs.now c.loop-input.columns.items c.loop-input.input-index c.loop-input.invariant (omega (arith, c.loop-input-test.false)))
