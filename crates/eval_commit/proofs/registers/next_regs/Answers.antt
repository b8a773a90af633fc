use Rattle.std.proofs.Common.{◌≡◌, ℕ, ◌+◌, ◌<◌, ◌∙◌, ◌||◌, List, Some, length, map, not, refl, sym, ap, subst, arith}
use Rattle.std.specs.Prelude.{slice_get}
use Rattle.sim_base.specs.BitValue.{BitValue, bit_value}
use Rattle.sim_base.specs.Values.{value_at, widths}
use Rattle.sim_base.proofs.Written.{eqb_flip}
use Rattle.circuit.specs.Next.{next_number}
use Rattle.signal_words.specs.Values.{digits_in}
use Rattle.circuit.specs.declared.register.Reg.{Reg}
use Rattle.eval_commit.proofs.PortsOver.{read_as}
use Rattle.eval_commit.proofs.RegsAfter.{RegsMore, reg_wide, regs_long, regs_more, regs_none, regs_told, regs_whole}
use Rattle.eval_commit.proofs.Written.{viewed}
use Rattle.eval_commit.proofs.registers.next_regs.Goals as goal

pub loop-n-init : goal.loop-n-init
loop-n-init c = regs_none (digits_in c.args.before.now.nets) (digits_in c.args.now.now.nets) c.args.circuit.now.regs c.args.regs.now

lies : (rs items : List Reg) (olds regs : List BitValue) (n : ℕ) → n < length items → items ≡ rs → widths olds ≡ map (λ (r : Reg). r.width) rs → widths regs ≡ widths olds → n < length regs
lies rs items olds regs n lt e wide kept = omega (arith, lt, ap (length {A = Reg}) e, regs_long rs olds regs wide kept)

there : (c : goal.After-next-arg-1) → c.loop-n.n < length c.loop-n.regs
there c = lies _ _ _ _ _ c.loop-n-test.true c.as_slice-reg-items.ensures c.requires.widths c.loop-n.invariant.wide

found : (c : goal.After-next-arg-1) → slice_get c.args.circuit.now.regs c.loop-n.n ≡ Some c.reg-item.result
found c = read_as c.args.circuit.now.regs c.as_slice-reg-items.result.now c.loop-n.n c.reg-item.result c.as_slice-reg-items.ensures c.loop-n-test.true c.reg-item.is

pub next-changed-requires-clause-there : goal.next-changed-requires-clause-there
next-changed-requires-clause-there c = there c

pub next-changed-requires-clause-fits : goal.next-changed-requires-clause-fits
next-changed-requires-clause-fits c =
    c.law_of_rounds.ensures.register c.args.circuit.now c.args.before.now c.args.now.now c.loop-n.n c.reg-item.result c.requires.valid c.requires.before c.requires.now
    (read_as c.args.circuit.now.regs c.as_slice-reg-items.result.now c.loop-n.n c.reg-item.result c.as_slice-reg-items.ensures c.loop-n-test.true c.reg-item.is)

pub next-changed-requires-clause-width : goal.next-changed-requires-clause-width
next-changed-requires-clause-width c =
    reg_wide c.args.circuit.now.regs c.args.regs.now c.loop-n.regs c.loop-n.n c.reg-item.result (value_at c.loop-n.regs c.loop-n.n) c.requires.widths c.loop-n.invariant.wide
    (found c) (viewed c.loop-n.regs c.loop-n.n _ (there c) refl)

pub loop-n-preserved : goal.loop-n-preserved
loop-n-preserved c =
    let before = digits_in c.args.before.now.nets in
    let now = digits_in c.args.now.now.nets in
    let regs = c.args.circuit.now.regs in
    let o = value_at c.loop-n.regs c.loop-n.n in
    let number = next_number before now c.reg-item.result o.number in
    let has = viewed c.loop-n.regs c.loop-n.n o (lies _ _ _ _ _ c.loop-n-test.true c.as_slice-reg-items.ensures c.requires.widths c.loop-n.invariant.wide) refl in
    let wide = reg_wide regs c.args.regs.now c.loop-n.regs c.loop-n.n c.reg-item.result o c.requires.widths c.loop-n.invariant.wide (read_as c.args.circuit.now.regs c.as_slice-reg-items.result.now c.loop-n.n c.reg-item.result c.as_slice-reg-items.ensures c.loop-n-test.true c.reg-item.is) has in
    subst (λ (l : List BitValue). RegsMore before now regs c.args.regs.now l (c.loop-n.n + 1) (c.loop-n.changed || c.next-changed.result)) (sym c.next-changed.ensures.value)
    (regs_more before now regs c.args.regs.now c.loop-n.regs c.loop-n.n c.reg-item.result o (bit_value o.width number) c.loop-n.changed c.next-changed.result
    c.requires.widths (read_as c.args.circuit.now.regs c.as_slice-reg-items.result.now c.loop-n.n c.reg-item.result c.as_slice-reg-items.ensures c.loop-n-test.true c.reg-item.is) has c.loop-n.invariant (ap (λ w. bit_value w number) wide) (c.next-changed.ensures.told ∙ ap not (eqb_flip o.number number)))

pub returns-clause-numbers : goal.returns-clause-numbers
returns-clause-numbers c =
    regs_whole (digits_in c.args.before.now.nets) (digits_in c.args.now.now.nets) c.args.circuit.now.regs c.args.regs.now c.loop-n.regs c.loop-n.n c.loop-n.changed c.loop-n.invariant c.requires.widths
    (omega (arith, c.loop-n-test.false, ap (length {A = Reg}) c.as_slice-reg-items.ensures))

pub returns-clause-changed : goal.returns-clause-changed
returns-clause-changed c =
    regs_told (digits_in c.args.before.now.nets) (digits_in c.args.now.now.nets) c.args.circuit.now.regs c.args.regs.now c.loop-n.regs c.loop-n.n c.loop-n.changed c.loop-n.invariant
