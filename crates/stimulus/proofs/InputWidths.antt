-- The widths of a stimulus' inputs, as the circuit's nets have them.
use Rattle.std.proofs.Common.{◌≡◌, ℕ, zero, suc, List, [], ◌∷◌, get_or, map, refl, ap, ◌∙◌}
use Rattle.std.specs.Prelude.{slice_get}
use Rattle.circuit.specs.declared.netlist.Circuit.{Circuit}
use Rattle.circuit.specs.declared.netlist.Net.{Net}
use Rattle.stimulus_text.specs.Lines.{lines_of}
use Rattle.stimulus_blocks.specs.Courses.{Course, input_widths}
use Rattle.stimulus.specs.Inputs.{width_of, width_where}
use Rattle.stimulus.specs.Runs.{IsStimulusOf}
use Rattle.stimulus.proofs.Kept.{inputs_kept}

width_at : (nets : List Net) (n : ℕ) → width_where (slice_get nets n) ≡ get_or (map (λ x. x.width) nets) n 0
width_at [] n = refl
width_at (x ∷ xs) zero = refl
width_at (x ∷ xs) (suc n) = width_at xs n

mapped : (f g : ℕ → ℕ) (xs : List ℕ) → ((x : ℕ) → f x ≡ g x) → map f xs ≡ map g xs
mapped f g [] same = refl
mapped f g (x ∷ xs) same = ap (λ y. y ∷ map f xs) (same x) ∙ ap (λ ys. g x ∷ ys) (mapped f g xs same)

pub widths_of_inputs : (c : Circuit) (s : Course) → IsStimulusOf c s → input_widths s ≡ map (λ net. get_or (map (λ x. x.width) c.nets) net 0) c.inputs
widths_of_inputs c s read =
    inputs_kept c (lines_of read.0) s read.1 ∙ mapped (width_of c) (λ net. get_or (map (λ x. x.width) c.nets) net 0) c.inputs (width_at c.nets)
