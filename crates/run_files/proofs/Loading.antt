-- What is read from files.
use Rattle.std.proofs.Common.{◌≡◌, ℕ, List, Option, Ok, Err, ap, subst, sym, inr}
use Rattle.std.specs.Prelude.{IsErrOf}
use Rattle.circuit.specs.declared.netlist.Circuit.{Circuit}
use Rattle.design_load.specs.Loaded.{IsLoaded}
use Rattle.design_load.specs.declared.load.Loaded.{Loaded}
use Rattle.outside.specs.Shelf.{File}
use Rattle.run_files.specs.Files.{Files, IsDesign, MayHold}
use Rattle.run_files.specs.Refusals.{IsFault, IsStimulusFault}
use Rattle.run_files.specs.declared.refusal.Refusal.{Refusal}

-- a design that was loaded from a text of a file
pub design_is : (limit : ℕ) (file : File) (top : Option (List ℕ)) (text : List ℕ) (l : Loaded) → MayHold limit file text → IsLoaded text top (Ok l) → IsDesign limit file top l.circuit
design_is limit file top text l held is = record { text = text; held = held; made = is.0; gives = is.1; circuit = is.2; valid = is.3.valid; order = is.3.order }

-- a stimulus that is refused behind a design
pub refused_behind : (limit : ℕ) (files : Files) (c : Circuit) (r : Refusal) (file : File) → IsDesign limit files.design files.top c → files.stimulus ≡ file → IsStimulusFault limit file c r → IsFault limit files r
refused_behind limit files c r file design same fault = inr (c, design, subst (λ (f : File). IsStimulusFault limit f c r) (sym same) fault)

-- what one result tells of a fault another one tells
pub errs_so : {T U E : Type 0} (f e : E) → IsErrOf {T = T} (Err f) e → IsErrOf {T = U} (Err f) e
errs_so f e h = let same : f ≡ e = cc h in ap Err same
