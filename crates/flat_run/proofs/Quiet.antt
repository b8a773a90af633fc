-- A flat circuit has no diagnostics, so none fires.
use Rattle.std.proofs.Common.{◌≡◌, ℕ, false, ap}
use Rattle.std.specs.Prelude.{◌&&◌}
use Rattle.std.specs.List.{list_any}
use Rattle.circuit.specs.Shown.{fires_at, hits, is_among}
use Rattle.circuit.specs.declared.netlist.Circuit.{Circuit}
use Rattle.flat_design.specs.Flat.{IsFlat}
use Rattle.flat_stimulus.specs.Block.{Block}
use Rattle.flat_run.specs.Progress.{IsProgress}
use Rattle.flat_run.specs.Run.{run_under}
use Rattle.flat_run.specs.declared.progress.Progress.{Progress}
use Rattle.sim_base.specs.declared.kinds.Kinds.{Kinds}

pub none_hits : (c : Circuit) (b : Block) (p : Progress) (k : ℕ) (kinds : Kinds) → IsProgress c b p → hits (run_under c b) k kinds ≡ false
none_hits c b p k kinds progress = ap (λ ds. list_any (λ d. is_among kinds d.kind && fires_at (run_under c b) k d) ds) progress.flat.diags
