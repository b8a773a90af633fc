-- Slots whose words are the same are passed over, and those of a block behind them are written.
use Rattle.std.proofs.Common.{◌≡◌, ◌+◌, refl, arith}
use Rattle.std.proofs.lemmas.Slice.Eq.{bytes_eq-Decides}
use Rattle.spool_format.specs.Records.{place_of}
use Rattle.spool_format.proofs.Slots.{place_more, place_within}
use Rattle.spool_format.proofs.Upto.{IsWritten-none, IsWritten-block, IsWritten-block_same, begins_on}
use Rattle.spool_format.proofs.write.append_slots.Goals as goal

pub loop-slot-init : goal.loop-slot-init
loop-slot-init c = record { within = omega arith; written = IsWritten-none _ _ _ 0 0 _ refl }

pub room_of-requires : goal.room_of-requires
room_of-requires c =
    let more = place_more c.args.widths.now c.pass_same-reached.result.slot c.block_end-end.result (omega arith) in
    let most = place_within c.args.widths.now c.block_end-end.result in
    omega arith

pub overflow_add-place_end : goal.overflow_add-place_end
overflow_add-place_end c =
    let more = place_more c.args.widths.now c.pass_same-reached.result.slot c.block_end-end.result (omega arith) in
    let most = place_within c.args.widths.now c.block_end-end.result in
    omega arith

pub returns-in_err-count-clause-begins : goal.returns-in_err-count-clause-begins
returns-in_err-count-clause-begins c = begins_on _ _ _ _ c.loop-slot.invariant.written.into c.append_block.ensures.begins

pub loop-slot-preserved : goal.loop-slot-preserved
loop-slot-preserved c =
    let more = place_more c.args.widths.now c.pass_same-reached.result.slot c.block_end-end.result (omega arith) in
    let end : c.pass_same-reached.result.place + c.room_of.result ≡ place_of c.args.widths.now c.block_end-end.result = omega arith in
    let passed = IsWritten-block_same _ _ c.loop-slot.invariant.written c.pass_same-reached.ensures.order c.pass_same-reached.ensures.within c.pass_same-reached.ensures.place ((bytes_eq-Decides _ _).1 c.pass_same-reached.ensures.same) in
    record {
      within = c.block_end-end.ensures.within;
      written = IsWritten-block _ _ _ _ passed (omega arith) end c.in_ok-count.ensures.count (c.in_ok-count.ensures.ok refl);
    }
