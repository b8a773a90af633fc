-- What a valid circuit asks of what is shown: items, scopes and the texts of diagnostics.
use Rattle.std.specs.Prelude.{◌≡◌, ◌+◌, ◌≤◌, ◌==◌, ◌&&◌, Bool, true, length}
use Rattle.std.specs.List.{list_all, list_any}
use Rattle.std.specs.Str.{is_utf8}
use Rattle.circuit.specs.Built.{slots_of_items}
use Rattle.circuit.specs.Valid.{is_countable, item_fits, scope_fits, text_fits}
use Rattle.circuit.specs.declared.diagnostic.Diag.{Diag}
use Rattle.design_parts.specs.Parts.{Made}
use Rattle.design_valid_counts.specs.Counted.{row_count}

-- the texts of a diagnostic; its signals are another matter
abbrev pub diag_told : Diag → Bool
diag_told d = is_countable (length d.text) && (is_utf8 d.text && text_fits d.src)

-- the lists of one part fit over those of all, and it has no more slots than nets and rows
pub record AreShown (all part : Made) : Type 0 where
  pub items : list_all (item_fits all.nets all.mems all.scopes) part.items ≡ true
  pub slots : slots_of_items all.mems part.items ≤ length part.nets + row_count part
  pub scopes : list_all scope_fits part.scopes ≡ true
  pub diags : list_all diag_told part.diags ≡ true

abbrev pub IsShown : Made → Type 0
IsShown m = AreShown m m

-- one scope is the top
abbrev pub HasTop : Made → Type 0
HasTop m = list_any (λ s. length s.name == 0) m.scopes ≡ true
