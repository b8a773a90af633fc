use Rattle.std.proofs.Common.{◌≡◌, ℕ, zero, [], ◌∷◌, ◌<◌, ◌+◌, suc, ◌∙◌, List, length, map, get_or, sym, ap, arith}
use Rattle.std.proofs.lemmas.List.{length-map}
use Rattle.sim_base.specs.BitValue.{BitValue}
use Rattle.sim_base.specs.Values.{with_number, width_at}
use Rattle.sim_base.proofs.Filled.{filled, filled_all, filled_length, filled_more, filled_none, filled_width}
use Rattle.circuit.specs.declared.register.Reg.{Reg}
use Rattle.circuit.proofs.store.start_regs.Goals as goal

pub loop-n-init : goal.loop-n-init
loop-n-init c = c.in_ok-values.ensures ∙ filled_none (map (λ (r : Reg). r.init) c.args.regs.now)

init_read : (regs : List Reg) (i : ℕ) (r : Reg) (v : BitValue) → i < length regs → r ≡ get_or regs i r → v ≡ r.init → v ≡ get_or (map (λ (x : Reg). x.init) regs) i v
init_read [] i r v lt is e = absurd (omega (arith, lt))
init_read (x ∷ regs) zero r v lt is e = e ∙ ap (λ (y : Reg). y.init) is
init_read (x ∷ regs) (suc i) r v lt is e = init_read regs i r v (omega (arith, lt)) is e

pub put-requires-clause-there : goal.put-requires-clause-there
put-requires-clause-there c =
    let l = filled_length (map (λ (r : Reg). r.init) c.args.regs.now) c.loop-n.n in
    let m = length-map c.args.regs.now (λ (r : Reg). r.init) in
    let e = ap (λ (l : List BitValue). length l) c.loop-n.invariant in
    omega (arith, l, m, e, c.loop-n-test.true)

pub put-requires-clause-width : goal.put-requires-clause-width
put-requires-clause-width c =
    let inits = map (λ (r : Reg). r.init) c.args.regs.now in
    let m : length inits ≡ length c.args.regs.now = length-map c.args.regs.now (λ (r : Reg). r.init) in
    let read : c.view.result ≡ get_or inits c.loop-n.n c.view.result = init_read c.args.regs.now c.loop-n.n c.index-regs-n.result c.view.result c.loop-n-test.true c.index-regs-n.is c.view.ensures in
    filled_width inits c.loop-n.n c.view.result (omega (arith, m, c.loop-n-test.true)) read ∙ ap (λ (l : List BitValue). width_at l c.loop-n.n) (sym c.loop-n.invariant)

pub loop-n-preserved : goal.loop-n-preserved
loop-n-preserved c =
    let inits = map (λ (r : Reg). r.init) c.args.regs.now in
    let m : length inits ≡ length c.args.regs.now = length-map c.args.regs.now (λ (r : Reg). r.init) in
    let read : c.view.result ≡ get_or inits c.loop-n.n c.view.result = init_read c.args.regs.now c.loop-n.n c.index-regs-n.result c.view.result c.loop-n-test.true c.index-regs-n.is c.view.ensures in
    let z : suc c.loop-n.n ≡ c.loop-n.n + 1 = omega arith in
    c.put.ensures.value ∙ ap (λ (l : List BitValue). with_number l c.loop-n.n c.view.result.number) c.loop-n.invariant
    ∙ filled_more inits c.loop-n.n c.view.result (omega (arith, m, c.loop-n-test.true)) read ∙ ap (filled inits) z

pub returns : goal.returns
returns c =
    let inits = map (λ (r : Reg). r.init) c.args.regs.now in
    let m : length inits ≡ length c.args.regs.now = length-map c.args.regs.now (λ (r : Reg). r.init) in
    let end : c.loop-n.n ≡ length inits = omega (arith, m, c.loop-n-test.false, c.loop-n.auto.n-end) in
    c.loop-n.invariant ∙ ap (filled inits) end ∙ filled_all inits
