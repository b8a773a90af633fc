use Rattle.proto_replies.proofs.Plain.{answer-json}
use Rattle.proto_replies.proofs.laws.law_of_json.Goals as goal

pub returns : goal.returns
returns c = answer-json
