-- Options of lists that are put together.
use Rattle.std.proofs.Common.{◌≡◌, List, [], ◌∷◌, ◌++◌, refl, ap, append_assoc, Option, Some, None}
use Rattle.std.specs.Option.{option_map}

-- one more in front of what is left
pub front_onto : {X : Type 0} (xs : List X) (x : X) (rest : Option (List X)) → option_map (λ more. xs ++ more) (option_map (λ more. x ∷ more) rest) ≡ option_map (λ more. (xs ++ x ∷ []) ++ more) rest
front_onto xs x None = refl
front_onto xs x (Some more) = ap (λ ys. Some ys) (simp append_assoc)

pub front_none : {X : Type 0} (rest : Option (List X)) → option_map (λ more. [] ++ more) rest ≡ rest
front_none None = refl
front_none (Some more) = refl
