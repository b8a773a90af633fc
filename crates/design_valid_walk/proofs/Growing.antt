-- Lists that parts are put behind.
use Rattle.std.proofs.Common.{◌≡◌, Ok, ap, ◌∙◌}
use Rattle.design_parts.specs.Parts.{Made, Walk, both_made, run}
use Rattle.design_parts.proofs.Runs.{made_assoc}
use Rattle.design_valid.proofs.Keeping.{run_is}

-- the lists are the same with more behind them
abbrev pub Grew : Made → Made → Type 0
Grew before behind = (more : Made) × (behind ≡ both_made before more)

pub grew_by : (w : Walk) (m n : Made) → run w m ≡ Ok n → Grew m n
grew_by w m n e = ((w m).made, run_is w m n e)

pub grew_twice : (a b c : Made) → Grew a b → Grew b c → Grew a c
grew_twice a b c g h = (both_made g.0 h.0, h.1 ∙ ap (λ (m : Made). both_made m h.0) g.1 ∙ made_assoc a g.0 h.0)
