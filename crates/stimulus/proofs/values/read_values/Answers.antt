use Rattle.std.proofs.Common.{◌<◌, ◌+◌, ◌∙◌, ◌++◌, ◌∷◌, [], ℕ, List, map, drop, sym, ap, arith, length}
use Rattle.std.specs.Option.{option_map}
use Rattle.stimulus_text.specs.Numbers.{number_of}
use Rattle.stimulus_text.specs.declared.value.Value.{Value}
use Rattle.stimulus.specs.Steps.{values_of}
use Rattle.std.proofs.lemmas.List.{length-map, map-append}
use Rattle.stimulus.proofs.Traversed.{front_none, values_step, values_stop, values_end, values_unequal}
use Rattle.stimulus.proofs.values.read_values.Goals as goal

pub returns-then-words-widths : goal.returns-then-words-widths
returns-then-words-widths c = sym (values_unequal c.args.widths.now _ (λ e. c.if-words-widths.true (sym (e ∙ length-map c.args.words.now (λ x. x.now)))))

pub loop-i-init : goal.loop-i-init
loop-i-init c =
    sym (ap (λ (xs : List Value). option_map (λ more. map number_of xs ++ more) (values_of c.args.widths.now (map (λ x. x.now) c.args.words.now))) c.in_ok-values.ensures.items
    ∙ front_none (values_of c.args.widths.now (map (λ x. x.now) c.args.words.now)))

pub loop-i-preserved : goal.loop-i-preserved
loop-i-preserved c =
    let words_left : c.loop-i.i < length c.args.words.now = omega (arith, c.loop-i-test.true, c.if-words-widths.false) in
    values_step c.args.widths.now c.args.words.now (map number_of c.loop-i.values.items) c.loop-i.i (record { ref_ptr = (0, 0); now = [] }) c.loop-i.invariant c.loop-i-test.true words_left (number_of c.in-Some.value)
    (sym c.in_ok-value.ensures ∙ ap (option_map number_of) c.in-Some.is)
    ∙ ap (λ (xs : List ℕ). option_map (λ more. xs ++ more) (values_of (drop (c.loop-i.i + 1) c.args.widths.now) (map (λ x. x.now) (drop (c.loop-i.i + 1) c.args.words.now))))
    (sym (ap (λ (vs : List Value). map number_of vs) c.in_ok-push-in-Some.ensures.items ∙ map-append number_of c.loop-i.values.items (c.in-Some.value ∷ [])))

pub returns-in-None : goal.returns-in-None
returns-in-None c =
    let words_left : c.loop-i.i < length c.args.words.now = omega (arith, c.loop-i-test.true, c.if-words-widths.false) in
    sym (values_stop c.args.widths.now c.args.words.now (map number_of c.loop-i.values.items) c.loop-i.i (record { ref_ptr = (0, 0); now = [] }) c.loop-i.invariant c.loop-i-test.true words_left
    (sym c.in_ok-value.ensures ∙ ap (option_map number_of) c.in-None.is))

pub returns : goal.returns
returns c =
    sym (values_end c.args.widths.now c.args.words.now (map number_of c.loop-i.values.items) c.loop-i.i (record { ref_ptr = (0, 0); now = [] }) c.loop-i.invariant (omega (arith, c.loop-i-test.false)) (omega (arith, c.loop-i-test.false, c.if-words-widths.false)))
