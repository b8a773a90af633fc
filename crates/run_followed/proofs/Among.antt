-- The kinds of what fires at a sample, diagnostic after diagnostic.
use Rattle.std.proofs.Common.{◌≡◌, ℕ, ◌+◌, List, [], ◌∷◌, ◌++◌, take, Bool, true, false, ◌&&◌, ◌||◌, refl, sym, ap, ◌∙◌, Some}
use Rattle.std.specs.Prelude.{slice_get}
use Rattle.std.specs.List.{list_any}
use Rattle.std.specs.Option.{option_map}
use Rattle.std.proofs.Math.Bool.{or-false}
use Rattle.std.proofs.lemmas.List.{take_more}
use Rattle.std.proofs.lemmas.List.Folds.{list_any-append}
use Rattle.std.proofs.lemmas.Option.{get_or_from_slice_get, slice_get-map, slice_get_within}
use Rattle.sim_base.specs.declared.kinds.Kinds.{Kinds}
use Rattle.circuit.specs.Rounds.{Run}
use Rattle.circuit.specs.Shown.{fires_at, hits, is_among}
use Rattle.circuit.specs.declared.netlist.Circuit.{Circuit}
use Rattle.circuit.specs.declared.diagnostic.Diag.{Diag}
use Rattle.circuit.specs.declared.diagnostic.DiagKind.{DiagKind}
use Rattle.circuit.specs.declared.diagnostic.DiagKind.TheVariants as diag
use Rattle.eval_commit.specs.Machine.{MachineState}
use Rattle.run_core.specs.Cursor.{left_by}
use Rattle.run_followed.specs.Fired.{asserts_alone, assumes_alone, fires_among, kinds_among, kinds_at, with_fired}

any_more : {X : Type 0} (p : X → Bool) (xs : List X) (n : ℕ) (x : X) → slice_get xs n ≡ Some x → list_any p (take (n + 1) xs) ≡ (list_any p (take n xs) || p x)
any_more p xs n x at =
    ap (list_any p) (take_more xs n x (slice_get_within xs n x at) ∙ ap (λ (y : _). take n xs ++ y ∷ []) (get_or_from_slice_get xs n x x at))
    ∙ list_any-append p (take n xs) (x ∷ [])
    ∙ ap (λ b. list_any p (take n xs) || b) (or-false (p x))

-- with one diagnostic more
kinds_more : (run : Run) (k : ℕ) (ds : List Diag) (n : ℕ) (d : Diag) → slice_get ds n ≡ Some d → with_fired (kinds_among run k (take n ds)) d.kind (fires_at run k d) ≡ kinds_among run k (take (n + 1) ds)
kinds_more run k ds n d at =
    let one = any_more (λ (x : Diag). is_among asserts_alone x.kind && fires_at run k x) ds n d at in
    let two = any_more (λ (x : Diag). is_among assumes_alone x.kind && fires_at run k x) ds n d at in
    sym (ap (λ b. record { asserts = b; assumes = fires_among run k (take (n + 1) ds) assumes_alone }) one
    ∙ ap (λ b. record { asserts = fires_among run k (take n ds) asserts_alone || (is_among asserts_alone d.kind && fires_at run k d); assumes = b }) two)

-- what a machine tells of a diagnostic
told : (run : Run) (k : ℕ) (m : MachineState) (n : ℕ) (d : Diag) (fired : Bool) → m ≡ left_by run k → slice_get m.circuit.diags n ≡ Some d → slice_get m.fired n ≡ Some fired → fired ≡ fires_at run k d
told run k m n d fired is at tells =
    let there : slice_get run.circuit.diags n ≡ Some d = ap (λ (x : MachineState). slice_get x.circuit.diags n) (sym is) ∙ at in
    let both : Some fired ≡ Some (fires_at run k d) =
    sym tells ∙ ap (λ (x : MachineState). slice_get x.fired n) is ∙ slice_get-map (fires_at run k) run.circuit.diags n ∙ ap (option_map (fires_at run k)) there in
    cc both

pub kinds_step : (run : Run) (k : ℕ) (m : MachineState) (c : Circuit) (n : ℕ) (d : Diag) (fired : Bool) (before now : Kinds) → m.circuit ≡ c → m ≡ left_by run k → slice_get c.diags n ≡ Some d → slice_get m.fired n ≡ Some fired
    → before ≡ kinds_among run k (take n c.diags) → now ≡ with_fired before d.kind fired → now ≡ kinds_among run k (take (n + 1) c.diags)
kinds_step run k m c n d fired before now same is at tells begun next =
    let fires = told run k m n d fired is (ap (λ (x : Circuit). slice_get x.diags n) same ∙ at) tells in
    next
    ∙ ap (λ (x : Kinds). with_fired x d.kind fired) begun
    ∙ ap (with_fired (kinds_among run k (take n c.diags)) d.kind) fires
    ∙ kinds_more run k c.diags n d at

-- ---- of one or both kinds

one_hits : (kinds : Kinds) (kind : DiagKind) (b : Bool) → (is_among kinds kind && b) ≡ ((kinds.asserts && (is_among asserts_alone kind && b)) || (kinds.assumes && (is_among assumes_alone kind && b)))
one_hits kinds diag.Assert b = by kinds.asserts kinds.assumes b
  where
    by : (x y z : Bool) → (x && z) ≡ ((x && z) || (y && false))
    by true true true = refl
    by true true false = refl
    by true false true = refl
    by true false false = refl
    by false true z = refl
    by false false z = refl
one_hits kinds diag.Assume b = by kinds.asserts kinds.assumes b
  where
    by : (x y z : Bool) → (y && z) ≡ ((x && false) || (y && z))
    by true y z = refl
    by false y z = refl

both_hit : (x y a b c d : Bool) → (((x && a) || (y && b)) || ((x && c) || (y && d))) ≡ ((x && (a || c)) || (y && (b || d)))
both_hit true y true b c d = refl
both_hit true true false true c d = by c
  where
    by : (z : Bool) → true ≡ (z || true)
    by true = refl
    by false = refl
both_hit true true false false c d = refl
both_hit true false false b c d = refl
both_hit false true a true c d = refl
both_hit false true a false c d = refl
both_hit false false a b c d = refl

among_hits : (run : Run) (k : ℕ) (kinds : Kinds) (ds : List Diag)
    → fires_among run k ds kinds ≡ ((kinds.asserts && fires_among run k ds asserts_alone) || (kinds.assumes && fires_among run k ds assumes_alone))
among_hits run k kinds [] = none kinds.asserts kinds.assumes
  where
    none : (x y : Bool) → false ≡ ((x && false) || (y && false))
    none true true = refl
    none true false = refl
    none false true = refl
    none false false = refl
among_hits run k kinds (d ∷ ds) =
    let fires = fires_at run k d in
    ap (λ b. b || fires_among run k ds kinds) (one_hits kinds d.kind fires)
    ∙ ap (λ b. ((kinds.asserts && (is_among asserts_alone d.kind && fires)) || (kinds.assumes && (is_among assumes_alone d.kind && fires))) || b) (among_hits run k kinds ds)
    ∙ both_hit kinds.asserts kinds.assumes (is_among asserts_alone d.kind && fires) (is_among assumes_alone d.kind && fires) (fires_among run k ds asserts_alone) (fires_among run k ds assumes_alone)

pub kinds_hit : (run : Run) (k : ℕ) (kinds fired : Kinds) → fired ≡ kinds_at run k → ((kinds.asserts && fired.asserts) || (kinds.assumes && fired.assumes)) ≡ hits run k kinds
kinds_hit run k kinds fired is =
    ap (λ (x : Kinds). (kinds.asserts && x.asserts) || (kinds.assumes && x.assumes)) is ∙ sym (among_hits run k kinds run.circuit.diags)
