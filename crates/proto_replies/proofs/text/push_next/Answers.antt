use Rattle.std.proofs.Common.{◌++◌, ap, sym, ◌∙◌}
use Rattle.proto_replies.specs.Text.{next_text}
use Rattle.proto_replies.proofs.Pieces.{pieces_3}
use Rattle.proto_replies.proofs.text.push_next.Goals as goal

pub returns-in_ok-push-2 : goal.returns-in_ok-push-2
returns-in_ok-push-2 c =
    pieces_3 _ _ _ _ c.in_ok-push.ensures c.in_ok-push_time.ensures c.in_ok-push-2.ensures ∙ ap (λ next. c.args.text.now.items ++ next_text next) (sym c.in-Some.is)
