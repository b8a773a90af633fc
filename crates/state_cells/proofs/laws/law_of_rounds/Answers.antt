use Rattle.state_cells.proofs.Fitting.{register_in, diagnostic_in}
use Rattle.state_cells.proofs.laws.law_of_rounds.Goals as goal

pub returns-clause-register : goal.returns-clause-register
returns-clause-register c = λ k before now n r valid b w at.
    register_in k before now r (λ sig. c.law_of_stores.ensures.signal k before sig b) (λ sig. c.law_of_stores.ensures.signal k now sig w) (c.law_of_parts.ensures.register k n r valid at)

pub returns-clause-diagnostic : goal.returns-clause-diagnostic
returns-clause-diagnostic c = λ k before now n d valid b w at.
    diagnostic_in k before now d (λ sig. c.law_of_stores.ensures.signal k before sig b) (λ sig. c.law_of_stores.ensures.signal k now sig w) (c.law_of_parts.ensures.diagnostic k n d valid at)
