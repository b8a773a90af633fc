use Rattle.std.proofs.Common.{◌≡◌, ℕ, ◌+◌, List, replicate, sym, ◌∙◌, ap, subst, arith, cond, Some, nat_le, nat_lt}
use Rattle.std.proofs.lemmas.List.{get_or-replicate}
use Rattle.std.specs.Prelude.{slice_get, slice_index, ◌&&◌}
use Rattle.circuit.specs.declared.netlist.Drive.{Drive}
use Rattle.circuit.specs.declared.netlist.Net.{Net}
use Rattle.eval_plan.specs.TableInvariants.{nobody}
use Rattle.driver_check.specs.Numbers.{IsInsideNet, start_of}
use Rattle.driver_check.proofs.Places.{read}
use Rattle.eval_plan.proofs.Held.{holders_more, no_holders, root_inside}
use Rattle.eval_plan.proofs.holders.holders_of.Goals as goal

pub loop-place-init : goal.loop-place-init
loop-place-init c =
    let items : c.in_ok-holders.holders.items ≡ replicate c.args.numbering.now.bits nobody = c.in_ok-holders.ensures.items_if_clones_equal (λ y e. e) in
    record {
      len = omega (arith, c.in_ok-holders.ensures.len);
      holders = no_holders c.args.circuit.now c.args.roots.now c.in_ok-holders.holders.items (λ v lt.
          ap (λ (xs : List ℕ). slice_index xs v) items ∙ get_or-replicate c.args.numbering.now.bits v nobody 0 (omega (arith, lt, c.requires.numbers.total)));
    }

pub start-first-requires-clause-inside : goal.start-first-requires-clause-inside
start-first-requires-clause-inside c =
    let r : Drive = c.index-roots-place.result in
    let at : slice_get c.args.roots.now c.loop-place.place ≡ Some r = read c.args.roots.now c.loop-place.place r c.loop-place-test.true c.index-roots-place.is in
    subst (λ (nets : List Net). IsInsideNet nets r) (sym c.as_slice.ensures) (root_inside c.args.circuit.now c.args.roots.now c.requires.roots c.loop-place.place r at)

pub loop-place-preserved : goal.loop-place-preserved
loop-place-preserved c =
    let r : Drive = c.index-roots-place.result in
    let holders = c.loop-place.holders.items in
    let after = c.hold.new.holders.items in
    let at : slice_get c.args.roots.now c.loop-place.place ≡ Some r = read c.args.roots.now c.loop-place.place r c.loop-place-test.true c.index-roots-place.is in
    let start : c.start-first.result ≡ start_of c.args.circuit.now.nets r = c.start-first.ensures.value ∙ ap (λ (nets : List Net). start_of nets r) c.as_slice.ensures in
    record {
      len = c.hold.ensures.length ∙ c.loop-place.invariant.len;
      holders = holders_more c.args.circuit.now c.args.roots.now c.requires.roots c.loop-place.place r at holders after c.loop-place.invariant.holders
          (subst (λ (first : ℕ). (v : ℕ) → slice_index after v ≡ cond (nat_le first v && nat_lt v (first + r.width)) c.loop-place.place (slice_index holders v)) start c.hold.ensures.holders);
    }
