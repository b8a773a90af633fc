use Rattle.std.proofs.Common.{◌≡◌, ℕ, ◌<◌, ◌^◌, ◌/◌, ◌%◌, ◌++◌, ◌∷◌, [], ◌∙◌, ap, length, map, take, subst, sym, refl, arith, Some, inl, inr, get_or}
use Rattle.std.specs.Prelude.{slice_get, slice_index}
use Rattle.std.proofs.lemmas.Bool.{cases_eq}
use Rattle.std.proofs.lemmas.List.{map_more, take_all, get_or-map, length-map}
use Rattle.std.proofs.lemmas.Option.{slice_get_read, slice_get_within, get_or_from_slice_get}
use Rattle.circuit.specs.declared.register.Reg.{Reg}
use Rattle.flat_rounds.proofs.Words.{whole_field}
use Rattle.flat_rounds.proofs.rounds.start_regs.Goals as goal

pub loop-reg-preserved : goal.loop-reg-preserved
loop-reg-preserved c =
    let at = subst (λ xs. slice_get xs c.loop-reg.reg-index ≡ Some c.reg-item.result) c.as_slice-reg-items.ensures
    (slice_get_read c.as_slice-reg-items.result.now (length c.as_slice-reg-items.result.now) c.loop-reg.reg-index c.reg-item.result refl (omega arith) c.reg-item.is) in
    let read : get_or c.args.circuit.now.regs c.loop-reg.reg-index c.reg-item.result ≡ c.reg-item.result = get_or_from_slice_get c.args.circuit.now.regs c.loop-reg.reg-index c.reg-item.result c.reg-item.result at in
    let value : c.field.result ≡ c.reg-item.result.init.number =
    c.field.ensures ∙ ap (λ w. c.reg-item.result.init.number / 2 ^ 0 % 2 ^ w) c.width-width.ensures.value ∙ whole_field c.reg-item.result.init.number c.reg-item.result.init.width c.width-width.ensures.below in
    let wide : c.reg-item.result.init.width ≡ c.reg-item.result.width = (c.requires.regs c.loop-reg.reg-index c.reg-item.result at).init in
    record {
      numbers = c.in_ok-push.ensures.items ∙ ap (λ xs. xs ++ c.field.result ∷ []) c.loop-reg.invariant.numbers
          ∙ ap (λ n. map (λ (r : Reg). r.init.number) (take c.loop-reg.reg-index c.args.circuit.now.regs) ++ n ∷ []) (value ∙ sym (ap (λ (r : Reg). r.init.number) read))
          ∙ sym (map_more (λ (r : Reg). r.init.number) c.args.circuit.now.regs c.loop-reg.reg-index c.reg-item.result (slice_get_within c.args.circuit.now.regs c.loop-reg.reg-index c.reg-item.result at));
      below = λ k r lt e. elim (cases_eq k c.loop-reg.reg-index) [
        | inl same ↦
            (let z : Some c.reg-item.result ≡ Some r = sym at ∙ ap (slice_get c.args.circuit.now.regs) (sym same) ∙ e in
            let f : c.reg-item.result ≡ r = cc z in
            subst (λ (x : Reg). x.init.number < 2 ^ x.width) f (subst (λ w. c.reg-item.result.init.number < 2 ^ w) wide c.width-width.ensures.below))
        | inr ne ↦ c.loop-reg.invariant.below k r (omega (arith, lt, ne)) e
      ];
    }

pub returns-clause-fits : goal.returns-clause-fits
returns-clause-fits c =
    let end : length c.args.circuit.now.regs ≡ c.loop-reg.reg-index = omega (arith, ap length c.as_slice-reg-items.ensures) in
    let numbers : c.loop-reg.regs.items ≡ map (λ (r : Reg). r.init.number) c.args.circuit.now.regs =
    c.loop-reg.invariant.numbers ∙ ap (map (λ (r : Reg). r.init.number)) (take_all c.loop-reg.reg-index c.args.circuit.now.regs (omega arith)) in
    record {
      long = ap length numbers ∙ length-map c.args.circuit.now.regs (λ (r : Reg). r.init.number);
      below = λ k r e.
          let lt = slice_get_within c.args.circuit.now.regs k r e in
          let is : slice_index c.loop-reg.regs.items k ≡ r.init.number =
          ap (λ xs. slice_index xs k) numbers ∙ get_or-map (λ (x : Reg). x.init.number) c.args.circuit.now.regs k r 0 lt ∙ ap (λ (x : Reg). x.init.number) (get_or_from_slice_get c.args.circuit.now.regs k r r e) in
          subst (λ (n : ℕ). n < 2 ^ r.width) (sym is) (c.loop-reg.invariant.below k r (omega (arith, lt)) e);
    }
