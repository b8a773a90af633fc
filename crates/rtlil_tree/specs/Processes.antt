-- Processes.
use Rattle.std.specs.Prelude.{ℕ, zero, suc, List, [], ◌∷◌, ◌++◌, length, Bool, codes, if◌then◌else◌}
use Rattle.rtlil_lexer.specs.declared.fault.TextFaultKind.TheVariants as fault
use Rattle.rtlil_tree.specs.declared.cursor.Sign.TheVariants as sign
use Rattle.rtlil_tree.specs.declared.place.Place.{Place}
use Rattle.rtlil_tree.specs.declared.sig.Sig.{Sig}
use Rattle.rtlil_tree.specs.declared.module.Assignment.{Assignment}
use Rattle.rtlil_tree.specs.declared.process.Action.{Action}
use Rattle.rtlil_tree.specs.declared.process.Action.TheVariants as action
use Rattle.rtlil_tree.specs.declared.process.Switch.{Switch, roll-Switch}
use Rattle.rtlil_tree.specs.declared.process.Case.{Case, roll-Case}
use Rattle.rtlil_tree.specs.declared.process.Trigger.{Trigger}
use Rattle.rtlil_tree.specs.declared.process.Trigger.TheVariants as when
use Rattle.rtlil_tree.specs.declared.process.Sync.{Sync}
use Rattle.rtlil_tree.specs.declared.process.Process.{Process}
use Rattle.rtlil_tree.specs.Input.{Rule, ◌>>=◌, ◌>>◌, ◌<$>◌, pure, refuse, fail, on, on_word, expect, expect_word, sees_word, next, identifier, more, stop, many, up_to_end}
use Rattle.rtlil_tree.specs.Sigs.{sig}
use Rattle.rtlil_tree.specs.Statements.{attribute, assignment}

-- ---- bodies and switches, with the rule of a switch from its word on

-- one part of a body, if it is one; an attribute is dropped
unfoldable pub body_part : Rule Switch → List Action → Rule (List Action × Bool)
body_part switch found =
    on sign.EndOfLine (more found) (
    on_word (codes "attribute") (attribute >>= λ _. more found) (
    on_word (codes "assign") (assignment >>= λ a. more (found ++ action.Assign a ∷ [])) (
    λ i. if sees_word (codes "switch") i then (switch >>= λ s. more (found ++ action.Switch s ∷ [])) i else stop found i)))

-- { body }
unfoldable pub body : Rule Switch → Rule (List Action)
body switch = many (body_part switch) []

-- { "," sig }
unfoldable pub further : List Sig → Rule (List Sig × Bool)
further found = on sign.Comma (sig >>= λ s. more (found ++ s ∷ [])) (stop found)

unfoldable pub sigs_from : List Sig → Rule (List Sig)
sigs_from found = many further found

-- [ sig { "," sig } ] eol, from behind `case` on
unfoldable pub compare : Rule (List Sig)
compare = on sign.EndOfLine (pure []) (do
  first ← sig
  all ← sigs_from (first ∷ [])
  expect sign.EndOfLine
  pure all)

-- [ sig { "," sig } ] eol { body }, from behind `case` on
unfoldable pub case : Rule Switch → Rule Case
case switch = do
  fits ← compare
  actions ← body switch
  pure (roll-Case (record { compare = fits; body = actions }))

-- one part of a switch; an attribute is dropped
unfoldable pub switch_part : Rule Switch → List Case → Rule (List Case × Bool)
switch_part switch found =
    on sign.EndOfLine (more found) (
    on_word (codes "attribute") (attribute >>= λ _. more found) (
    on_word (codes "case") (case switch >>= λ c. more (found ++ c ∷ [])) (
    on_word (codes "end") (expect sign.EndOfLine >> stop found)
    refuse)))

-- { eol | attr | case } "end" eol
unfoldable pub cases : Rule Switch → Rule (List Case)
cases switch = up_to_end (switch_part switch) []

-- sig eol { eol | attr | case } "end" eol, from behind `switch` on
unfoldable pub switch_with : Rule Switch → Rule Switch
switch_with inner = do
  chosen ← sig
  expect sign.EndOfLine
  found ← cases inner
  pure (roll-Switch (record { on = chosen; cases = found }))

-- a switch from its word on, where so many may be open at once
unfoldable pub switch_within : ℕ → Rule Switch
switch_within zero = fail fault.Nesting
switch_within (suc depth) = λ i. switch_with (switch_within depth) (next i)

abbrev pub deepest : ℕ
deepest = 256

-- ---- syncs

-- "always" | "init" | when sig
unfoldable pub trigger : Rule Trigger
trigger =
    on_word (codes "always") (pure when.Always) (
    on_word (codes "init") (pure when.Init) (
    on_word (codes "posedge") (when.Posedge <$> sig) (
    on_word (codes "negedge") (when.Negedge <$> sig) (
    on_word (codes "edge") (when.Edge <$> sig) (
    on_word (codes "high") (when.High <$> sig) (
    on_word (codes "low") (when.Low <$> sig) (
    λ i. if sees_word (codes "global") i then fail fault.Process i else refuse i)))))))

-- one line of a sync, if it is one
unfoldable pub sync_line : List Assignment → Rule (List Assignment × Bool)
sync_line found =
    on sign.EndOfLine (more found) (
    on_word (codes "update") (assignment >>= λ a. more (found ++ a ∷ [])) (
    λ i. if sees_word (codes "memwr") i then fail fault.Process i else stop found i))

-- { eol | "update" sig sig eol }
unfoldable pub updates : Rule (List Assignment)
updates = many sync_line []

-- ( "always" | "init" | when sig ) eol { eol | "update" sig sig eol }, from behind `sync` on
unfoldable pub sync : Rule Sync
sync = do
  at ← trigger
  expect sign.EndOfLine
  lines ← updates
  pure (record { when = at; updates = lines })

-- one sync, if it is one
unfoldable pub sync_part : List Sync → Rule (List Sync × Bool)
sync_part found = on_word (codes "sync") (sync >>= λ s. more (found ++ s ∷ [])) (stop found)

-- { sync }
unfoldable pub syncs : Rule (List Sync)
syncs = many sync_part []

-- id eol { body } { sync } "end" eol, from behind `process` on, whose word stands at the place
unfoldable pub process : Place → Rule Process
process place = do
  name ← identifier
  expect sign.EndOfLine
  actions ← body (switch_within deepest)
  found ← syncs
  expect_word (codes "end")
  expect sign.EndOfLine
  pure (record { place = place; name = name; body = actions; syncs = found })
