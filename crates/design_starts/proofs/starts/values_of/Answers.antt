use Rattle.std.proofs.Common.{◌≡◌, ℕ, ◌+◌, ◌-◌, ◌<◌, List, [], ◌∷◌, drop, false, get_or, length, map, sym, ◌∙◌, ap, subst, arith, Some}
use Rattle.std.specs.Prelude.{slice_get}
use Rattle.std.proofs.lemmas.Bool.{eqb-true}
use Rattle.std.proofs.lemmas.List.{drop_all}
use Rattle.std.proofs.lemmas.Option.{slice_get-get_or}
use Rattle.sim_base.specs.BitValue.{zeros}
use Rattle.circuit.specs.declared.register.Reg.{Reg}
use Rattle.driver_check.specs.Numbers.{IsNumbering}
use Rattle.design_starts.specs.Starts.{HaveDigits}
use Rattle.design_starts.specs.declared.marks.Mark.{Mark}
use Rattle.design_starts.specs.declared.places.Places.{Places}
use Rattle.design_starts.proofs.Given.{no_length, zero_digits}
use Rattle.design_starts.proofs.Marked.{drop_at}
use Rattle.design_starts.proofs.starts.values_of.Goals as goal

pub returns-then-is_empty : goal.returns-then-is_empty
returns-then-is_empty c =
    let circuit = c.args.circuit.now in
    let ms = c.args.marks.now in
    let values = c.in_ok-values.values in
    let none : ms ≡ [] = no_length ms (eqb-true (length ms) 0 (sym c.is_empty.ensures ∙ c.if-is_empty.true)) in
    let is : values ≡ map (λ r. zeros r.width) circuit.regs = c.in_ok-values.ensures ∙ ap (λ (rs : List Reg). map (λ (r : Reg). zeros r.width) rs) c.as_slice.ensures in
    subst (λ (xs : List Mark). HaveDigits circuit xs values) (sym none) (zero_digits circuit values is)

pub loop-done-init : goal.loop-done-init
loop-done-init c =
    let circuit = c.args.circuit.now in
    let ms = c.args.marks.now in
    let values = c.in_ok-values.values in
    let is : values ≡ map (λ r. zeros r.width) circuit.regs = c.in_ok-values.ensures ∙ ap (λ (rs : List Reg). map (λ (r : Reg). zeros r.width) rs) c.as_slice.ensures in
    record {
      places = c.in_ok-chains.ensures.places;
      long = c.in_ok-chains.ensures.long;
      table = c.in_ok-chains.ensures.table;
      digits = subst (λ (xs : List Mark). HaveDigits circuit xs values) (sym (drop_all (length ms - 0) ms (omega arith))) (zero_digits circuit values is);
    }

pub loop-done-preserved : goal.loop-done-preserved
loop-done-preserved c =
    let circuit = c.args.circuit.now in
    let ms = c.args.marks.now in
    let done = c.loop-done.done in
    let n = length ms - 1 - done in
    let m : Mark = get_or ms n (record { net = 0; bit = 0; digit = false }) in
    let less : done < length ms = c.loop-done-test.true in
    let at : slice_get ms n ≡ Some m = slice_get-get_or ms n (record { net = 0; bit = 0; digit = false }) (omega (arith, less)) in
    let now : length ms - (done + 1) ≡ n = omega arith in
    let was : n + 1 ≡ length ms - done = omega (arith, less) in
    let split : drop (length ms - (done + 1)) ms ≡ m ∷ drop (length ms - done) ms =
    ap (λ (k : ℕ). drop k ms) now ∙ drop_at ms n m at ∙ ap (λ (k : ℕ). m ∷ drop k ms) was in
    record {
      places = subst (λ (p : Places). IsNumbering circuit.nets p.firsts.items p.bits) (sym c.origin.ensures.places) c.loop-done.invariant.places;
      long = c.origin.ensures.long ∙ c.loop-done.invariant.long ∙ sym (ap (λ (p : Places). p.bits) c.origin.ensures.places);
      table = c.in_ok-end.ensures.table;
      digits = subst (λ (xs : List Mark). HaveDigits circuit xs c.give.new.values) (sym split) (c.give.ensures (drop (length ms - done) ms) c.loop-done.invariant.digits);
    }
