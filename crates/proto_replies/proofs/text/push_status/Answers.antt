use Rattle.proto_replies.proofs.Pieces.{on_ok, pieces_7}
use Rattle.proto_replies.proofs.text.push_status.Goals as goal

pub returns : goal.returns
returns c =
    let word = rw c.word_of_state.ensures at c.in_ok-push-4.ensures in
    on_ok c.push-5.result
    (pieces_7 _ _ _ _ _ _ _ _ c.in_ok-push.ensures c.in_ok-push_time.ensures c.in_ok-push-2.ensures c.in_ok-push_next.ensures c.in_ok-push-3.ensures word)
    c.push-5.ensures
