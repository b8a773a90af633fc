use Rattle.std.proofs.Common.{◌≡◌, ℕ, ◌+◌, ◌<◌, List, [], ◌∷◌, ◌++◌, drop, length, reverse, sym, ◌∙◌, ap, subst, arith, append-nil, append_assoc, Some}
use Rattle.std.specs.Prelude.{slice_get, slice_index_or}
use Rattle.std.proofs.lemmas.List.{reverse-append}
use Rattle.sim_base.specs.BitValue.{BitValue}
use Rattle.circuit.specs.declared.register.Reg.{Reg}
use Rattle.driver_check.proofs.Places.{length_pushed, read}
use Rattle.design_starts.specs.Starts.{with_values}
use Rattle.design_starts.proofs.Given.{no_registers, one_register}
use Rattle.design_starts.proofs.Marked.{drop_at}
use Rattle.design_starts.proofs.starts.with_values.Goals as goal

pub registers-preserved : goal.registers-preserved
registers-preserved c =
    let values = c.args.values.now in
    let found = c.registers.found in
    let n = length found in
    let reg = c.in-Some.reg in
    let rest = c.pop.new.self in
    let v = c.index-values-len.result in
    let made = c.with_init.result in
    let longer : length c.push.new.self ≡ n + 1 = length_pushed found c.push.new.self made c.in_ok-push.ensures.ok in
    let shorter : length c.registers.rest ≡ length rest + 1 = length_pushed rest c.registers.rest reg c.in-Some.ensures in
    let less : n < length values = omega (arith, shorter, c.registers.invariant.long) in
    let at : slice_get values n ≡ Some v = read values n v less (subst (λ (k : ℕ). v ≡ slice_index_or values k v) c.len.ensures c.index-values-len.is) in
    let split : reverse c.registers.rest ≡ reg ∷ reverse rest = ap (λ (rs : List Reg). reverse rs) c.in-Some.ensures ∙ reverse-append rest (reg ∷ []) in
    let is : made ≡ (record reg { init = v }) = c.with_init.ensures ∙ ap (λ (u : BitValue). let q : Reg = record reg { init = u } in q) c.in_ok-init.ensures in
    let behind = with_values (reverse rest) (drop (n + 1) values) in
    record {
      long = omega (arith, longer, shorter, c.registers.invariant.long);
      so_far = c.registers.invariant.so_far
          ∙ ap (λ (rs : List Reg). found ++ with_values rs (drop n values)) split
          ∙ ap (λ (vs : List BitValue). found ++ with_values (reg ∷ reverse rest) vs) (drop_at values n v at)
          ∙ ap (λ (rs : List Reg). found ++ rs) (one_register reg (reverse rest) v (drop (n + 1) values))
          ∙ ap (λ (q : Reg). found ++ q ∷ behind) (sym is)
          ∙ sym (append_assoc found (made ∷ []) behind)
          ∙ ap (λ (rs : List Reg). rs ++ behind) (sym c.in_ok-push.ensures.ok)
          ∙ ap (λ (k : ℕ). c.push.new.self ++ with_values (reverse rest) (drop k values)) (sym longer);
    }

pub returns : goal.returns
returns c =
    let values = c.args.values.now in
    let found = c.registers.found in
    sym (c.registers.invariant.so_far
    ∙ ap (λ (rs : List Reg). found ++ with_values (reverse rs) (drop (length found) values)) c.in_default.ensures.0
    ∙ ap (λ (rs : List Reg). found ++ rs) (no_registers (drop (length found) values))
    ∙ append-nil found)
