-- Lists with a wrong number of parts.
use Rattle.std.proofs.Common.{◌≡◌, List, [], ◌∷◌, length, None, refl}
use Rattle.serde_json.specs.View.{items_view}
use Rattle.serde_json.specs.declared.value.Value.{Value}
use Rattle.proto_packets.specs.Kind.{two_times, designation_of}

pub no_two_times : (vs : List Value) → (length vs ≡ 2 → ⊥) → two_times (items_view vs) ≡ None
no_two_times [] h = refl
no_two_times (a ∷ []) h = refl
no_two_times (a ∷ b ∷ []) h = absurd (h refl)
no_two_times (a ∷ b ∷ c ∷ vs) h = refl

pub no_designation : (vs : List Value) → (length vs ≡ 1 → ⊥) → (length vs ≡ 3 → ⊥) → designation_of (items_view vs) ≡ None
no_designation [] one three = refl
no_designation (a ∷ []) one three = absurd (one refl)
no_designation (a ∷ b ∷ []) one three = refl
no_designation (a ∷ b ∷ c ∷ []) one three = absurd (three refl)
no_designation (a ∷ b ∷ c ∷ d ∷ vs) one three = refl
