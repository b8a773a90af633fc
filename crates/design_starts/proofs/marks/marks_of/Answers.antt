use Rattle.std.proofs.Common.{◌≡◌, ◌+◌, List, ◌++◌, drop, length, map, sym, ◌∙◌, ap, arith, append-nil, append_assoc}
use Rattle.std.specs.Prelude.{option_copied}
use Rattle.std.proofs.lemmas.List.{length-map}
use Rattle.driver_check.proofs.Places.{found}
use Rattle.design_starts.specs.Marks.{marks_from, marks_on}
use Rattle.design_starts.specs.declared.marks.Mark.{Mark}
use Rattle.design_starts.proofs.Marked.{marks_end, marks_next}
use Rattle.design_starts.proofs.marks.marks_of.Goals as goal

pub loop-net-preserved : goal.loop-net-preserved
loop-net-preserved c =
    let nets = c.args.nets.now in
    let net = c.loop-net.net in
    let all = map option_copied c.args.inits.now in
    let long : length all ≡ length c.args.inits.now = length-map c.args.inits.now option_copied in
    let x = found nets net (omega arith) in
    let init = found all net (omega (arith, long)) in
    let was = c.loop-net.found.items in
    let rest = marks_from (net + 1) (drop (net + 1) nets) (drop (net + 1) all) in
    c.loop-net.invariant
    ∙ ap (λ (ms : List Mark). was ++ ms) (marks_next nets all net x.0 init.0 x.1 init.1)
    ∙ sym (append_assoc was (marks_on net x.0.width init.0) rest)
    ∙ ap (λ (ms : List Mark). ms ++ rest) (sym (c.in_ok-push_init.ensures x.0 init.0 x.1 init.1))

pub returns : goal.returns
returns c =
    let nets = c.args.nets.now in
    let all = map option_copied c.args.inits.now in
    let net = c.loop-net.net in
    let long : length all ≡ length c.args.inits.now = length-map c.args.inits.now option_copied in
    sym (c.loop-net.invariant ∙ ap (λ (ms : List Mark). c.loop-net.found.items ++ ms) (marks_end nets all net (omega (arith, long))) ∙ append-nil c.loop-net.found.items)
