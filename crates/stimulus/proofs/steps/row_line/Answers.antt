use Rattle.std.proofs.Common.{◌≡◌, ◌<◌, ◌≤◌, ◌∙◌, ℕ, List, Option, Some, Vec, Global, map, sym, ap, subst, arith, is_ge, nat_cmp, false}
use Rattle.std.specs.Option.{option_map}
use Rattle.std.proofs.lemmas.Bool.Decides.{nat_tests}
use Rattle.std.proofs.lemmas.List.{length-map}
use Rattle.stimulus_text.specs.Numbers.{number_of}
use Rattle.stimulus_text.specs.declared.value.Value.{Value}
use Rattle.stimulus_blocks.specs.Rows.{BlockRow}
use Rattle.stimulus_blocks.specs.Blocks.{AreRows, IsRow}
use Rattle.stimulus.specs.Steps.{least_behind, values_of}
use Rattle.stimulus.proofs.Grown.{rows_grown, values_good}
use Rattle.stimulus.proofs.steps.row_line.Goals as goal

row : (widths given : List ℕ) (words : List (List ℕ)) (read : Option (Vec Value Global)) (values : Vec Value Global) (offset : ℕ) → given ≡ widths → option_map (λ (v : Vec Value Global). map number_of v.items) read ≡ values_of given words → read ≡ Some values → IsRow widths (record { offset = offset; values = map number_of values.items })
row widths given words read values offset given_is e is =
    values_good widths words (map number_of values.items) offset (ap (λ (l : List ℕ). values_of l words) (sym given_is) ∙ sym e ∙ ap (option_map (λ (v : Vec Value Global). map number_of v.items)) is)

early : (offset period : ℕ) → is_ge (nat_cmp offset period) ≡ false → offset < period
early offset period e = grind (arith, nat_tests)

pub push-requires : goal.push-requires
push-requires c i r at =
    let new = row c.args.stimulus.widths c.widths.result.now _ c.in_ok-values.field-0 c.in-Some-2.values 0 c.widths.ensures c.in_ok-values.ensures c.in-Some-2.is in
    let old = (c.requires.rows.each i r at).long in
    omega (arith, old, new.long, length-map c.in-Some-2.values.items number_of)

pub returns-clause-sound : goal.returns-clause-sound
returns-clause-sound c =
    let new = row c.args.stimulus.widths c.widths.result.now _ c.in_ok-values.field-0 c.in-Some-2.values c.in-Some.offset c.widths.ensures c.in_ok-values.ensures c.in-Some-2.is in
    let least : least_behind c.args.block.rows ≤ c.in-Some.offset = omega (arith, c.if-femtoseconds-least_behind.false, c.least_behind.ensures, c.femtoseconds.ensures.value) in
    let before : c.in-Some.offset < c.args.block.period = early c.in-Some.offset c.args.block.period (sym c.ge.ensures ∙ c.if-ge.false) in
    record {
      comes = c.requires.comes;
      most = c.requires.most;
      rows = subst (λ (rs : List BlockRow). AreRows c.args.stimulus.widths c.args.block.period rs) (sym c.in_ok-rows.ensures)
          (rows_grown c.args.stimulus.widths c.args.block.period c.args.block.rows (record { offset = c.in-Some.offset; values = map number_of c.in-Some-2.values.items }) c.requires.rows least before new);
    }
