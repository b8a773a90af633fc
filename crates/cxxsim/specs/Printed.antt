-- The lines of the log.
use Rattle.std.specs.Prelude.{ℕ, List, [], ◌∷◌, ◌++◌, codes}
use Rattle.cxxsim.specs.declared.refusal.Refusal.{Refusal}
use Rattle.cxxsim.specs.declared.refusal.Refusal.TheVariants as refusal

abbrev pub usage_line : List ℕ
usage_line = codes "usage: cxxsim trace|solo|serve|replay|demo [NUMBER] [OPTIONS]" ++ 10 ∷ []

abbrev pub refusal_line : Refusal → List ℕ
refusal_line refusal.DesignTooLong = codes "refused 50 FileTooLong design" ++ 10 ∷ []
refusal_line refusal.DesignNotBuilt = codes "refused 60 NotBuilt design" ++ 10 ∷ []
refusal_line refusal.StimulusTooLong = codes "refused 50 FileTooLong stimulus" ++ 10 ∷ []
refusal_line refusal.StimulusNotBuilt = codes "refused 60 NotBuilt stimulus" ++ 10 ∷ []
