use Rattle.std.proofs.Common.{◌++◌, ◌+◌, ◌∙◌, [], drop, map, sym, ap, arith}
use Rattle.std.specs.Option.{option_map}
use Rattle.stimulus.specs.Inputs.{nets_named}
use Rattle.stimulus.proofs.Traversed.{front_none, nets_step, nets_stop, nets_end}
use Rattle.stimulus.proofs.inputs.nets_named.Goals as goal

pub loop-word-init : goal.loop-word-init
loop-word-init c = sym (ap (λ xs. option_map (λ more. xs ++ more) (nets_named c.args.circuit.now (map (λ x. x.now) c.args.words.now))) c.new-nets.ensures.items ∙ front_none (nets_named c.args.circuit.now (map (λ x. x.now) c.args.words.now)))

pub loop-word-preserved : goal.loop-word-preserved
loop-word-preserved c =
    nets_step c.args.circuit.now c.args.words.now c.loop-word.nets.items c.loop-word.word-index (record { ref_ptr = (0, 0); now = [] }) c.loop-word.invariant c.loop-word-test.true c.in-Some.net (sym c.in-Some.ensures)
    ∙ ap (λ xs. option_map (λ more. xs ++ more) (nets_named c.args.circuit.now (map (λ x. x.now) (drop (c.loop-word.word-index + 1) c.args.words.now)))) (sym c.in_ok-push-in-Some.ensures.items)

pub returns-in-None : goal.returns-in-None
returns-in-None c = sym (nets_stop c.args.circuit.now c.args.words.now c.loop-word.nets.items c.loop-word.word-index (record { ref_ptr = (0, 0); now = [] }) c.loop-word.invariant c.loop-word-test.true (sym c.in-None.ensures))

pub returns : goal.returns
returns c = sym (nets_end c.args.circuit.now c.args.words.now c.loop-word.nets.items c.loop-word.word-index (record { ref_ptr = (0, 0); now = [] }) c.loop-word.invariant (omega (arith, c.loop-word-test.false)))
