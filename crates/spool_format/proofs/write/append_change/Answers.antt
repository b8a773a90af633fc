use Rattle.std.proofs.Common.{◌≡◌, length, refl, arith}
use Rattle.spool_format.proofs.Upto.{begins_on}
use Rattle.spool_format.proofs.Counted.{counted}
use Rattle.spool_format.proofs.write.append_change.Goals as goal

pub returns-in_err-count-clause-begins : goal.returns-in_err-count-clause-begins
returns-in_err-count-clause-begins c = begins_on _ _ _ _ c.in_ok-extend_from_slice.ensures.items c.append_slots.ensures.begins

pub returns-clause-ok : goal.returns-clause-ok
returns-clause-ok c _ =
    let long : c.len-count_at.result ≡ length c.extend_from_slice.new.self.items = omega arith in
    counted _ _ _ _ _ _ _ _ _ c.args.shape.now c.args.old.now c.args.s.now c.widths-widths.ensures c.as_slice.ensures c.as_slice-2.ensures c.time_words.ensures
    c.in_ok-extend_from_slice.ensures.items long (c.in_ok-count.ensures.ok refl) c.in_ok-count.ensures.count
