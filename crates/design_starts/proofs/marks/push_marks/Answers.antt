use Rattle.std.proofs.Common.{List, ◌++◌, sym, ◌∙◌, ap, append-nil, append_assoc}
use Rattle.design_starts.specs.Marks.{marks_at, marks_below}
use Rattle.design_starts.specs.declared.marks.Mark.{Mark}
use Rattle.design_starts.proofs.Marked.{more_below, none_below}
use Rattle.design_starts.proofs.marks.push_marks.Goals as goal

pub loop-bit-init : goal.loop-bit-init
loop-bit-init c = sym (ap (λ (ms : List Mark). c.args.found.now.items ++ ms) (none_below c.args.net c.args.constant.now) ∙ append-nil c.args.found.now.items)

pub loop-bit-preserved : goal.loop-bit-preserved
loop-bit-preserved c =
    let was = c.args.found.now.items in
    let net = c.args.net in
    let k = c.args.constant.now in
    let bit = c.loop-bit.bit in
    c.in_ok-push_mark.ensures
    ∙ ap (λ (ms : List Mark). ms ++ marks_at net k bit) c.loop-bit.invariant
    ∙ append_assoc was (marks_below net k bit) (marks_at net k bit)
    ∙ ap (λ (ms : List Mark). was ++ ms) (sym (more_below net k bit))
