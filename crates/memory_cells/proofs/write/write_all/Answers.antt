use Rattle.std.proofs.Common.{◌<◌, ◌+◌, ◌^◌, ◌∙◌, ℕ, List, get_or, length, ap, sym, subst, arith}
use Rattle.circuit.specs.Signal.{sig_number}
use Rattle.circuit.specs.declared.memory.WritePort.{WritePort}
use Rattle.sim_base.specs.BitValue.{BitValue}
use Rattle.signal_words.specs.Values.{digits_in}
use Rattle.memory_cells.specs.Ports.{row_by}
use Rattle.memory_cells.proofs.RowAfter.{row_after_none, row_after_next_of_all}
use Rattle.memory_cells.proofs.write.write_all.Goals as goal

pub loop-port-init : goal.loop-port-init
loop-port-init c =
    let P : ℕ → Type 0 = λ w. c.args.row.now.number < 2 ^ w in
    record {
      width = c.requires.width;
      number = sym (row_after_none _ _ c.args.mem.now.width (c.args.place + c.args.mem.now.offset) c.args.row.now.number (subst P c.requires.width c.width.ensures.below));
    }

pub loop-port-preserved : goal.loop-port-preserved
loop-port-preserved c =
    let p = c.port-item.result in
    let i = c.loop-port.port-index in
    let lt : i < length c.args.mem.now.writes = omega (arith, c.loop-port-test.true, ap (length {A = WritePort}) c.as_slice-port-items.ensures) in
    record {
      width = ap (λ (v : BitValue). v.width) c.write_where.ensures ∙ c.loop-port.invariant.width;
      number =
          row_after_next_of_all (digits_in c.args.before.now) (digits_in c.args.now.now) c.args.mem.now.width (c.args.place + c.args.mem.now.offset) c.args.mem.now.writes i p c.args.row.now.number c.loop-port.row.number c.write_where.new.row.number
          lt (c.port-item.is ∙ ap (λ (xs : List WritePort). get_or xs i p) c.as_slice-port-items.ensures) c.loop-port.invariant.number
          (ap (λ (v : BitValue). v.number) c.write_where.ensures
          ∙ ap (λ w. row_by c.is_written-written.result (sig_number (digits_in c.args.now.now) p.en) (sig_number (digits_in c.args.now.now) p.word) c.loop-port.row.number w) c.loop-port.invariant.width
          ∙ ap (λ b. row_by b (sig_number (digits_in c.args.now.now) p.en) (sig_number (digits_in c.args.now.now) p.word) c.loop-port.row.number c.args.mem.now.width) c.is_written-written.ensures);
    }
