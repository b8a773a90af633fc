use Rattle.std.proofs.Common.{◌≡◌, ◌++◌, ◌∷◌, [], sym, ◌∙◌, ap}
use Rattle.sim_base.specs.TimeText.{time_text}
use Rattle.cxxsim.specs.TraceText.{values_text}
use Rattle.cxxsim.proofs.Shown.{line_is, line_behind}
use Rattle.cxxsim.proofs.print.push_sample.Goals as goal

pub returns : goal.returns
returns c run k same at_time at =
    let a = c.in_ok-push_time.ensures in
    let b = c.in_ok-push_values.ensures in
    let d = c.in_ok-push.ensures.items in
    (let e : c.push.new.self.items ≡ ((c.args.text.now.items ++ time_text c.args.time) ++ values_text c.args.circuit.now c.args.rounds.now) ++ 10 ∷ [] = cc (a, b, d) in e)
    ∙ line_behind c.args.text.now.items (time_text c.args.time) (values_text c.args.circuit.now c.args.rounds.now)
    ∙ ap (λ line. c.args.text.now.items ++ line) (sym (line_is run k c.args.rounds.now c.args.circuit.now c.args.time c.requires.flat same at_time at))
