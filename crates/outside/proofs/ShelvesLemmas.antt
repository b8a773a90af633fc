-- Files that have other names.
use Rattle.std.proofs.Common.{◌≡◌, ◌≢◌, ℕ, List, false, ◌∙◌, sym}
use Rattle.std.specs.Ordering.{nat_cmp, is_eq}
use Rattle.std.specs.Cmp.Lexicographic.{slice_cmp}
use Rattle.std.specs.Str.{bytes_eq}
use Rattle.std.proofs.lemmas.Map.Text.{is_eq-slice_cmp}
use Rattle.std.proofs.lemmas.Slice.Eq.{bytes_eq-Decides}
use Rattle.std.proofs.lemmas.Bool.{false_from_ne_true}

-- names that differ are not taken for one another
pub is_eq-slice_cmp-apart : (name other : List ℕ) → other ≢ name → is_eq (slice_cmp nat_cmp name other) ≡ false
is_eq-slice_cmp-apart name other apart =
    is_eq-slice_cmp name other ∙ false_from_ne_true (bytes_eq name other) (λ same. apart (sym ((bytes_eq-Decides name other).0 same)))
