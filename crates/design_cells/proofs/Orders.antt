-- Checks one behind the other, and where they stand.
use Rattle.std.proofs.Common.{◌≡◌, Bool, ℕ, List, [], ◌∷◌, ◌++◌, true, false, cond, Option, Some, None, option_map, Result, Ok, Err, refl, ap, ◌∙◌, sym}
use Rattle.circuit.specs.declared.fault.DesignFault.{DesignFault}
use Rattle.circuit.specs.declared.fault.DesignKind.{DesignKind}
use Rattle.circuit.specs.Valid.{widest}
use Rattle.circuit.specs.declared.fault.DesignKind.TheVariants as kind
use Rattle.cell_library.specs.Checks as library
use Rattle.cell_library.specs.Checks.{Check, first_fault}
use Rattle.cell_library.specs.Lines.{TypeLine}
use Rattle.cell_library.specs.declared.written.Setting.{Setting}
use Rattle.design_parts.specs.Parts.{at, Fails, judged, Says}
use Rattle.design_parts.specs.Parts as parts
use Rattle.design_parts.specs.declared.refusal.Refusal.{Refusal}
use Rattle.design_parts.proofs.Runs.{says_fails}
use Rattle.design_cells.specs.Joined.{Joined, connections_of}
use Rattle.design_cells.specs.Rules.{are_inside, are_known, kind_checks, located, narrow_checks}

abbrev or_else : Option DesignKind → Option DesignKind → Option DesignKind
or_else None o = o
or_else (Some k) o = Some k

pub after : (a b : List Check) → first_fault (a ++ b) ≡ or_else (first_fault a) (first_fault b)
after [] b = refl
after (c ∷ cs) b = elim c.holds as (λ h. cond h (first_fault (cs ++ b)) (Some c.kind) ≡ or_else (cond h (first_fault cs) (Some c.kind)) (first_fault b)) [ true ↦ after cs b | false ↦ refl ]

-- the first fault of checks that are located
pub located_fault : (owner item : List ℕ) (cs : List Check) → parts.first_fault (located owner item cs) ≡ option_map (λ k. at k owner item) (first_fault cs)
located_fault owner item [] = refl
located_fault owner item (c ∷ cs) = elim c.holds as (λ h. cond h (parts.first_fault (located owner item cs)) (Some (at c.kind owner item)) ≡ option_map (λ k. at k owner item) (cond h (first_fault cs) (Some c.kind))) [ true ↦ located_fault owner item cs | false ↦ refl ]

pub located_none : (owner item : List ℕ) (cs : List Check) → first_fault cs ≡ None → parts.first_fault (located owner item cs) ≡ None
located_none owner item cs e = located_fault owner item cs ∙ ap (option_map (λ k. at k owner item)) e

pub located_fails : (owner item : List ℕ) (cs : List Check) (k : DesignKind) (e : Refusal) → first_fault cs ≡ Some k → Says e (at k owner item) → Fails e (judged (parts.first_fault (located owner item cs)) (tt {0}))
located_fails owner item cs k e is says =
    says_fails e (at k owner item) (judged (parts.first_fault (located owner item cs)) (tt {0})) (ap (λ o. judged o (tt {0})) (located_fault owner item cs ∙ ap (option_map (λ k. at k owner item)) is)) says

-- ---- what a cell that passes its checks keeps

or_else_none : (o p : Option DesignKind) → or_else o p ≡ None → p ≡ None
or_else_none None p e = e
or_else_none (Some k) p e = cc

or_else_first : (o p : Option DesignKind) → or_else o p ≡ None → o ≡ None
or_else_first None p e = refl
or_else_first (Some k) p e = e

rest_holds : (a b : List Check) → first_fault (a ++ b) ≡ None → first_fault b ≡ None
rest_holds a b e = or_else_none (first_fault a) (first_fault b) (sym (after a b) ∙ e)

first_holds : (a b : List Check) → first_fault (a ++ b) ≡ None → first_fault a ≡ None
first_holds a b e = or_else_first (first_fault a) (first_fault b) (sym (after a b) ∙ e)

module _ (l : TypeLine) (settings : List Setting) (js : List Joined) (room : Bool) where
  abbrev last : List Check
  last = library.check room kind.TooLarge ∷ []

  abbrev from_narrow : List Check
  from_narrow = narrow_checks l settings ++ last

  abbrev from_limits : List Check
  from_limits = library.limit_checks settings widest kind.TooWide l.ports ++ from_narrow

  abbrev from_widths : List Check
  from_widths = library.width_checks settings l.ports (connections_of js) ++ from_limits

  abbrev from_slices : List Check
  from_slices = library.check (are_inside js) kind.Width ∷ [] ++ from_widths

  abbrev from_names : List Check
  from_names = library.check (are_known l.ports js) kind.UnknownName ∷ [] ++ from_slices

  abbrev from_slice : List Check
  from_slice = library.slice_checks l.gives settings ++ from_names

  limits_on : first_fault (kind_checks l settings js room) ≡ None → first_fault from_limits ≡ None
  unfolding kind_checks
  limits_on e =
      rest_holds (library.width_checks settings l.ports (connections_of js)) from_limits (
      rest_holds (library.check (are_inside js) kind.Width ∷ []) from_widths (
      rest_holds (library.check (are_known l.ports js) kind.UnknownName ∷ []) from_slices (
      rest_holds (library.slice_checks l.gives settings) from_names (
      rest_holds (library.parameter_checks settings l.parameters) from_slice e))))

  pub limits_hold : first_fault (kind_checks l settings js room) ≡ None → first_fault (library.limit_checks settings widest kind.TooWide l.ports) ≡ None
  limits_hold e = first_holds (library.limit_checks settings widest kind.TooWide l.ports) from_narrow (limits_on e)

  pub room_holds : first_fault (kind_checks l settings js room) ≡ None → room ≡ true
  room_holds e = by room (rest_holds (narrow_checks l settings) last (rest_holds (library.limit_checks settings widest kind.TooWide l.ports) from_narrow (limits_on e)))
    where
      by : (b : Bool) → first_fault (library.check b kind.TooLarge ∷ []) ≡ None → b ≡ true
      by true h = refl
      by false h = cc
