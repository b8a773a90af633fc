-- Whether a client is greeted, by its packets.
use Rattle.std.proofs.Common.{◌≡◌, ℕ, List, [], ◌∷◌, Bool, true, false, refl, ◌∙◌}
use Rattle.std.specs.Prelude.{◌||◌}
use Rattle.std.specs.List.{fold, list_any}
use Rattle.proto_packets.specs.Asked.{asked}
use Rattle.session_core.specs.Refusals.{Client, client_after, greets, is_greeted, new_client}

or-false : (b : Bool) → (b || false) ≡ b
or-false true = refl
or-false false = refl

-- behind packets that made this of it
greeted_from : (client : Client) (packets : List (List ℕ))
    → (fold (λ (before : Client) (packet : List ℕ). client_after before (asked packet)) client packets).greeted ≡ (list_any (λ packet. greets (asked packet)) packets || client.greeted)
greeted_from client [] = refl
greeted_from client (p ∷ ps) = greeted_from (client_after client (asked p)) ps ∙ turned (list_any (λ packet. greets (asked packet)) ps) client.greeted (greets (asked p))
  where
    turned : (rest before here : Bool) → (rest || (before || here)) ≡ ((here || rest) || before)
    turned true true true = refl
    turned true true false = refl
    turned true false true = refl
    turned true false false = refl
    turned false true true = refl
    turned false true false = refl
    turned false false true = refl
    turned false false false = refl

pub greeted_by_one : (packets : List (List ℕ)) → is_greeted packets ≡ list_any (λ packet. greets (asked packet)) packets
greeted_by_one packets = greeted_from new_client packets ∙ or-false (list_any (λ packet. greets (asked packet)) packets)
