use Rattle.proto_replies.proofs.Pieces.{on_ok, pieces_5}
use Rattle.proto_replies.proofs.text.push_error.Goals as goal

pub returns : goal.returns
returns c =
    let word = rw c.word_of_error.ensures at c.in_ok-push-2.ensures in
    let message = rw c.message_of.ensures at c.in_ok-push-4.ensures in
    on_ok c.push-5.result (pieces_5 _ _ _ _ _ _ c.in_ok-push.ensures word c.in_ok-push-3.ensures message) c.push-5.ensures
