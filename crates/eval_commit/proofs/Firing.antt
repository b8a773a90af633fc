-- Flags of diagnostics, from round to round.
use Rattle.std.proofs.Common.{◌≡◌, ℕ, zero, suc, List, [], ◌∷◌, map, length, refl, sym, ◌∙◌, ap, arith, Bool, true, false, ◌||◌, ◌&&◌, Option, Some, None}
use Rattle.std.specs.Prelude.{slice_get}
use Rattle.std.specs.List.{list_any}
use Rattle.std.proofs.lemmas.List.{length-map}
use Rattle.circuit.specs.Rounds.{Round, nets_after}
use Rattle.circuit.specs.Shown.{fails, fires_by, is_triggered}
use Rattle.circuit.specs.declared.diagnostic.Diag.{Diag}
use Rattle.circuit.specs.declared.diagnostic.Trigger.{Trigger}
use Rattle.state_cells.specs.Diagnostics.{fires_in, fires_where}
use Rattle.eval_commit.specs.Fired.{all_fired_after, fired_after, none_fired}

-- ---- one round

pub fired_length : (ds : List Diag) (fs : List Bool) (r : Round) → length fs ≡ length ds → length (all_fired_after ds fs r) ≡ length fs
unfolding all_fired_after
fired_length [] fs r e = sym e
fired_length (d ∷ ds) [] r e = refl
fired_length (d ∷ ds) (f ∷ fs) r e = ap suc (fired_length ds fs r (omega (arith, e)))

pub fired_at : (ds : List Diag) (fs : List Bool) (r : Round) (i : ℕ) (d : Diag) (f : Bool) → slice_get ds i ≡ Some d → slice_get fs i ≡ Some f
    → slice_get (all_fired_after ds fs r) i ≡ Some (fired_after d.trigger f (fires_in d r))
unfolding all_fired_after
fired_at [] fs r i d f a b = cc a
fired_at (x ∷ ds) [] r i d f a b = cc b
fired_at (x ∷ ds) (y ∷ fs) r zero d f a b =
    let e : x ≡ d = cc a in
    let g : y ≡ f = cc b in
    ap (λ (z : Diag). Some (fired_after z.trigger y (fires_in z r))) e ∙ ap (λ (z : Bool). Some (fired_after d.trigger z (fires_in d r))) g
fired_at (x ∷ ds) (y ∷ fs) r (suc i) d f a b = fired_at ds fs r i d f a b

-- as many flags as there are diagnostics, all taken back
pub all_cleared : (ds : List Diag) (fs : List Bool) → length fs ≡ length ds → map (λ _. false) fs ≡ none_fired ds
all_cleared [] [] e = refl
all_cleared [] (f ∷ fs) e = absurd (omega (arith, e))
all_cleared (d ∷ ds) [] e = absurd (omega (arith, e))
all_cleared (d ∷ ds) (f ∷ fs) e = ap (λ gs. false ∷ gs) (all_cleared ds fs (omega (arith, e)))

pub none_fired_length : (ds : List Diag) → length (none_fired ds) ≡ length ds
none_fired_length ds = length-map ds (λ _. false)

pub cleared_at : {X : Type 0} (xs : List X) (i : ℕ) (x : X) → slice_get xs i ≡ Some x → slice_get (map (λ _. false) xs) i ≡ Some false
cleared_at [] i x at = cc at
cleared_at (y ∷ xs) zero x at = refl
cleared_at (y ∷ xs) (suc i) x at = cleared_at xs i x at

-- ---- all rounds of a sample

abbrev fired_over : Option Trigger → Diag → Bool → List Round → Bool
fired_over t d f [] = f
fired_over t d f (r ∷ rs) = fired_over t d (fired_after t f (fires_where t d r)) rs

abbrev pub all_fired_over : List Diag → List Bool → List Round → List Bool
all_fired_over ds fs [] = fs
all_fired_over ds fs (r ∷ rs) = all_fired_over ds (all_fired_after ds fs r) rs

or_false : (b : Bool) → b ≡ (b || false)
or_false true = refl
or_false false = refl

or_or : (a b d : Bool) → ((a || b) || d) ≡ (a || (b || d))
or_or true b d = refl
or_or false b d = refl

-- with a trigger a flag is set where it was, or where one of the rounds sets it
some_over : (t : Trigger) (d : Diag) (f : Bool) (rs : List Round) → fired_over (Some t) d f rs ≡ (f || list_any (λ r. is_triggered t r && fails d r.now) rs)
some_over t d f [] = or_false f
some_over t d f (r ∷ rs) =
    let now : Bool = is_triggered t r && fails d r.now in
    some_over t d (f || now) rs ∙ or_or f now (list_any (λ r. is_triggered t r && fails d r.now) rs)

-- without one the last round sets it
none_over : (d : Diag) (before : List ℕ) (rs : List Round) → fired_over None d (fails d before) rs ≡ fails d (nets_after before rs)
unfolding nets_after
none_over d before [] = refl
none_over d before (r ∷ rs) = none_over d r.now rs

fires_over : (t : Option Trigger) (d : Diag) (r : Round) (rs : List Round) → fired_over t d false (r ∷ rs) ≡ fires_by t d (r ∷ rs)
unfolding nets_after
fires_over None d r rs = none_over d r.now rs
fires_over (Some t) d r rs = some_over t d false (r ∷ rs)

none_there : (rs : List Round) → all_fired_over [] [] rs ≡ []
unfolding all_fired_after
none_there [] = refl
none_there (r ∷ rs) = none_there rs

first_over : (d : Diag) (ds : List Diag) (f : Bool) (fs : List Bool) (rs : List Round) → all_fired_over (d ∷ ds) (f ∷ fs) rs ≡ fired_over d.trigger d f rs ∷ all_fired_over ds fs rs
unfolding all_fired_after
first_over d ds f fs [] = refl
first_over d ds f fs (r ∷ rs) = first_over d ds (fired_after d.trigger f (fires_in d r)) (all_fired_after ds fs r) rs

-- over the rounds of a sample, of which there is one at least, the flags say what fires
pub all_fire_over : (ds : List Diag) (r : Round) (rs : List Round) → all_fired_over ds (none_fired ds) (r ∷ rs) ≡ map (λ d. fires_by d.trigger d (r ∷ rs)) ds
all_fire_over [] r rs = none_there (r ∷ rs)
all_fire_over (d ∷ ds) r rs =
    first_over d ds false (none_fired ds) (r ∷ rs)
    ∙ ap (λ (b : Bool). b ∷ all_fired_over ds (none_fired ds) (r ∷ rs)) (fires_over d.trigger d r rs)
    ∙ ap (λ (bs : List Bool). fires_by d.trigger d (r ∷ rs) ∷ bs) (all_fire_over ds r rs)
