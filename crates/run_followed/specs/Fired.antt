-- The kinds of the diagnostics that fire at a sample.
use Rattle.std.specs.Prelude.{ℕ, List, Bool, true, false, ◌&&◌, ◌||◌}
use Rattle.std.specs.List.{list_any}
use Rattle.sim_base.specs.declared.kinds.Kinds.{Kinds}
use Rattle.circuit.specs.Rounds.{Run}
use Rattle.circuit.specs.Shown.{fires_at, is_among}
use Rattle.circuit.specs.declared.diagnostic.Diag.{Diag}
use Rattle.circuit.specs.declared.diagnostic.DiagKind.{DiagKind}

abbrev pub none : Kinds
none = record { asserts = false; assumes = false }

abbrev pub asserts_alone : Kinds
asserts_alone = record { asserts = true; assumes = false }

abbrev pub assumes_alone : Kinds
assumes_alone = record { asserts = false; assumes = true }

-- among these diagnostics one of these kinds fires at sample k
abbrev pub fires_among : Run → ℕ → List Diag → Kinds → Bool
fires_among run k ds kinds = list_any (λ d. is_among kinds d.kind && fires_at run k d) ds

-- the kinds of which a diagnostic among these fires at sample k
abbrev pub kinds_among : Run → ℕ → List Diag → Kinds
kinds_among run k ds = record { asserts = fires_among run k ds asserts_alone; assumes = fires_among run k ds assumes_alone }

abbrev pub kinds_at : Run → ℕ → Kinds
kinds_at run k = kinds_among run k run.circuit.diags

-- these kinds, and this one where its diagnostic fired
abbrev pub with_fired : Kinds → DiagKind → Bool → Kinds
with_fired kinds kind fired = record { asserts = kinds.asserts || (is_among asserts_alone kind && fired); assumes = kinds.assumes || (is_among assumes_alone kind && fired) }
