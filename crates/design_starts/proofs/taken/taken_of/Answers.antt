use Rattle.std.proofs.Common.{◌≡◌, ℕ, ◌+◌, ◌-◌, ◌<◌, List, length, drop, replicate, sym, ◌∙◌, ap, subst, arith, cond, Some}
use Rattle.std.specs.Prelude.{find, slice_get, slice_index_or}
use Rattle.std.proofs.lemmas.List.{drop_all, length-replicate}
use Rattle.circuit.specs.Valuation.{covers}
use Rattle.circuit.specs.declared.netlist.Drive.{Drive}
use Rattle.circuit.specs.declared.netlist.Net.{Net}
use Rattle.driver_check.specs.Depends.{Bit}
use Rattle.driver_check.specs.Numbers.{IsBit, bit_number}
use Rattle.driver_check.proofs.Numbered.{bit_below}
use Rattle.driver_check.proofs.Places.{read}
use Rattle.design_starts.specs.Chains.{taken_at, taken_by}
use Rattle.design_starts.specs.declared.taken.Taken.{Taken}
use Rattle.design_starts.specs.declared.taken.Taken.TheVariants as taken
use Rattle.design_starts.proofs.Marked.{drop_at, replicated}
use Rattle.design_starts.proofs.Takes.{pick}
use Rattle.design_starts.proofs.taken.taken_of.Goals as goal

pub loop-done-init : goal.loop-done-init
loop-done-init c =
    let drives = c.args.circuit.now.drives in
    let nets = c.args.circuit.now.nets in
    let bits = c.args.places.now.bits in
    let items : c.in_ok-table.table.items ≡ replicate bits taken.Nothing = c.in_ok-table.ensures.items_if_clones_equal (λ y e. e) in
    record {
      long = ap (λ (xs : List Taken). length xs) items ∙ length-replicate bits taken.Nothing;
      taken = λ x b.
          ap (λ (xs : List Taken). slice_get xs (bit_number nets x)) items
          ∙ replicated bits (bit_number nets x) taken.Nothing (omega (arith, bit_below nets x b, c.requires.total))
          ∙ sym (ap (λ (ds : List Drive). Some (taken_at x.1 (find (covers x.0 x.1) ds))) (drop_all (length drives - 0) drives (omega arith)));
    }

pub loop-done-preserved : goal.loop-done-preserved
loop-done-preserved c =
    let drives = c.args.circuit.now.drives in
    let nets = c.args.circuit.now.nets in
    let done = c.loop-done.done in
    let d = c.index-drives-drives.result in
    let n = length drives - 1 - done in
    let same : c.as_slice-drives.result.now ≡ drives = c.as_slice-drives.ensures in
    let less : done < length drives = subst (λ (ds : List Drive). done < length ds) same c.loop-done-test.true in
    let is = subst (λ (ds : List Drive). d ≡ slice_index_or ds (length ds - 1 - done) d) same c.index-drives-drives.is in
    let at : slice_get drives n ≡ Some d = read drives n d (omega (arith, less)) is in
    let now : length drives - (done + 1) ≡ n = omega arith in
    let was : n + 1 ≡ length drives - done = omega (arith, less) in
    let by = subst (λ (ns : List Net). (x : Bit) → IsBit ns x → slice_get c.take.new.table.items (bit_number ns x) ≡ cond (covers x.0 x.1 d) (Some (taken_by d.by (x.1 - d.at))) (slice_get c.loop-done.table.items (bit_number ns x))) c.as_slice.ensures c.take.ensures.taken in
    record {
      long = c.take.ensures.long ∙ c.loop-done.invariant.long;
      taken = λ x b.
          by x b ∙ pick (covers x.0 x.1 d) x.1 d (find (covers x.0 x.1) (drop (length drives - done) drives)) (slice_get c.loop-done.table.items (bit_number nets x)) (c.loop-done.invariant.taken x b)
          ∙ ap (λ (k : ℕ). Some (taken_at x.1 (cond (covers x.0 x.1 d) (Some d) (find (covers x.0 x.1) (drop k drives))))) (sym was)
          ∙ sym (ap (λ (ds : List Drive). Some (taken_at x.1 (find (covers x.0 x.1) ds))) (ap (λ (k : ℕ). drop k drives) now ∙ drop_at drives n d at));
    }
