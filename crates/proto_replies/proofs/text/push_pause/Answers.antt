use Rattle.proto_replies.proofs.Pieces.{on_ok, pieces_3}
use Rattle.proto_replies.proofs.text.push_pause.Goals as goal

pub returns : goal.returns
returns c = on_ok c.push-2.result (pieces_3 _ _ _ _ c.in_ok-push.ensures c.in_ok-push_time.ensures) c.push-2.ensures
