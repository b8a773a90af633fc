-- What a mode needs is there where its line is met.
use Rattle.std.proofs.Common.{◌≡◌, ◌⊎◌, ◌∷◌, ◌≤◌, ◌&&◌, [], List, ℕ, Bool, true, false, cond, Option, Some, None, option_map, option_and_then, refl, sym, ap, subst, inl, inr, ◌∙◌, codes, leb}
use Rattle.std.proofs.lemmas.Bool.{cases_Bool, cond-true, cond-false, leb-true}
use Rattle.std.specs.Prelude.{IsSome, bytes_eq, find, is_some, nat_le}
use Rattle.sim_base.specs.Digits.{digits_number}
use Rattle.clap.specs.Words.{Kinds, Row, fault_of, first_of, matches_of}
use Rattle.command_words.specs.Asked.{asked_by, command_asked, command_by, command_in, command_of, command_on, in_range, is_alone, is_given, is_met, mode_line, number_given, number_of}
use Rattle.command_words.specs.Complete.{HasFiles, HasNeeded, IsComplete}
use Rattle.command_words.specs.Line.{line}
use Rattle.command_words.specs.Modes.{asks, line_named, meets, table}
use Rattle.command_words.specs.declared.command.Asked.{Asked}
use Rattle.command_words.specs.declared.command.Asked.TheVariants as asked
use Rattle.command_words.specs.declared.command.Command.{Command}
use Rattle.command_words.specs.declared.command.Mode.{Mode}
use Rattle.command_words.specs.declared.command.Mode.TheVariants as mode
use Rattle.command_words.specs.declared.modes.ModeLine.{ModeLine}
use Rattle.command_words.specs.declared.modes.Need.TheVariants.{Needed, Allowed, Excluded}

-- ---- what is there

both : (a b : Bool) → (a && b) ≡ true → (a ≡ true) × (b ≡ true)
both true b e = (refl, e)
both false b e = absurd (let z : false ≡ true = e in cc z)

-- a line that needs both files, where it is met
files_met : (m : Mode) (rows : List Row) → is_met (asks m Excluded Needed Needed Allowed) rows ≡ true → (is_given (codes "design") rows ≡ true) × (is_given (codes "stimulus") rows ≡ true)
files_met m rows e =
    let behind = (both (meets Excluded (is_given (codes "NUMBER") rows)) _ e).1 in
    let design = both (meets Needed (is_given (codes "design") rows)) _ behind in
    let stimulus = both (meets Needed (is_given (codes "stimulus") rows)) _ design.1 in
    (design.0, stimulus.0)

number_met : (m : Mode) (rows : List Row) → is_met (asks m Needed Excluded Excluded Excluded) rows ≡ true → is_given (codes "NUMBER") rows ≡ true
number_met m rows e = (both (meets Needed (is_given (codes "NUMBER") rows)) _ e).0

-- a number that is in the range
range_holds : (b : Bool) (n m : ℕ) → (nat_le 1 n && nat_le n 1000) ≡ b → cond b (Some n) None ≡ Some m → (1 ≤ m) × (m ≤ 1000)
range_holds true n m e at =
    let same : n ≡ m = let z : Some n ≡ Some m = at in cc z in
    let parts = both (nat_le 1 n) (nat_le n 1000) e in
    subst (λ k. (1 ≤ k) × (k ≤ 1000)) same (leb-true 1 n parts.0, leb-true n 1000 parts.1)
range_holds false n m e at = absurd (let z : None ≡ Some m = at in cc z)

in_range_holds : (o : Option ℕ) (m : ℕ) → option_and_then in_range o ≡ Some m → (1 ≤ m) × (m ≤ 1000)
in_range_holds None m e = absurd (let z : None ≡ Some m = e in cc z)
in_range_holds (Some n) m e = range_holds (nat_le 1 n && nat_le n 1000) n m refl e

given_in_range : (o : Option (List ℕ)) (m : ℕ) → is_some o ≡ true → number_given o ≡ Some m → (1 ≤ m) × (m ≤ 1000)
given_in_range None m some e = absurd (let z : false ≡ true = some in cc z)
given_in_range (Some text) m some e = in_range_holds (digits_number 7 text) m e

-- ---- by the line of a mode

abbrev trace : ModeLine
trace = asks mode.Trace Excluded Needed Needed Allowed

abbrev solo : ModeLine
solo = asks mode.Solo Excluded Needed Needed Allowed

abbrev demo : ModeLine
demo = asks mode.Demo Needed Excluded Excluded Excluded

-- a command with this number
command_is : (m : Mode) (rows : List Row) (o : Option ℕ) (c : Command) → option_map (command_of m rows) o ≡ Some c → (n : ℕ) × (o ≡ Some n) × (command_of m rows n ≡ c)
command_is m rows None c e = absurd (let z : None ≡ Some c = e in cc z)
command_is m rows (Some n) c e = (n, refl, (let z : Some (command_of m rows n) ≡ Some c = e in cc z))

met_by : (b : Bool) (l : ModeLine) (rows : List Row) (c : Command) → is_met l rows ≡ b → cond b (option_map (command_of l.mode rows) (number_given (first_of (codes "NUMBER") rows))) None ≡ Some c
    → (is_met l rows ≡ true) × (n : ℕ) × (number_given (first_of (codes "NUMBER") rows) ≡ Some n) × (command_of l.mode rows n ≡ c)
met_by true l rows c met e =
    let given = command_is l.mode rows (number_given (first_of (codes "NUMBER") rows)) c e in
    (met, given.0, given.1, given.2)
met_by false l rows c met e = absurd (let z : None ≡ Some c = e in cc z)

abbrev Completes : ModeLine → Type 0
Completes l = (rows : List Row) (c : Command) → command_on (Some l) rows ≡ Some c → IsComplete c

trace_completes : Completes trace
trace_completes rows c e =
    let met = met_by (is_met trace rows) trace rows c refl e in
    let files = files_met mode.Trace rows met.0 in
    subst IsComplete met.3 (files.0, files.1)

solo_completes : Completes solo
solo_completes rows c e =
    let met = met_by (is_met solo rows) solo rows c refl e in
    let files = files_met mode.Solo rows met.0 in
    subst IsComplete met.3 (files.0, files.1)

demo_completes : Completes demo
demo_completes rows c e =
    let met = met_by (is_met demo rows) demo rows c refl e in
    subst IsComplete met.3 (given_in_range (first_of (codes "NUMBER") rows) met.1 (number_met mode.Demo rows met.0) met.2)

-- ---- the table

-- each line of the table
named_completes : (word : List ℕ) (l : ModeLine) → line_named word ≡ Some l → Completes l
named_completes word l e = by (bytes_eq word (codes "trace")) (bytes_eq word (codes "solo")) (bytes_eq word (codes "demo")) e
  where
    is_one : (k : ModeLine) → Completes k → Some k ≡ Some l → Completes l
    is_one k completes s = subst Completes (let z : Some k ≡ Some l = s in cc z) completes

    by : (x y z : Bool) → option_map (λ (p : List ℕ × ModeLine). p.1) (cond x (Some (codes "trace", trace)) (cond y (Some (codes "solo", solo)) (cond z (Some (codes "demo", demo)) None))) ≡ Some l → Completes l
    by true y z s = is_one trace trace_completes s
    by false true z s = is_one solo solo_completes s
    by false false true s = is_one demo demo_completes s
    by false false false s = absurd (let z : None ≡ Some l = s in cc z)

-- ---- all words

on_completes : (o : Option (List ℕ)) (rows : List Row) (c : Command) → command_on (option_and_then line_named o) rows ≡ Some c → IsComplete c
on_completes None rows c e = absurd (let z : None ≡ Some c = e in cc z)
on_completes (Some word) rows c e = by (line_named word) refl e
  where
    by : (o : Option ModeLine) → line_named word ≡ o → command_on o rows ≡ Some c → IsComplete c
    by None is s = absurd (let z : None ≡ Some c = s in cc z)
    by (Some l) is s = named_completes word l is rows c s

by_completes : (kinds : Kinds) (rows : List Row) (c : Command) → command_by kinds rows ≡ Some c → IsComplete c
by_completes [] rows c e = on_completes (first_of (codes "MODE") rows) rows c e
by_completes (k ∷ ks) rows c e = absurd (let z : None ≡ Some c = e in cc z)

command_completes : (words : List (List ℕ)) (c : Command) → command_asked words ≡ Some c → IsComplete c
unfolding command_asked
command_completes words c e = by_completes (fault_of line words) (matches_of line words) c e

mapped_completes : (words : List (List ℕ)) (o : Option Command) (c : Command) → command_asked words ≡ o → option_map asked.Command o ≡ Some (asked.Command c) → IsComplete c
mapped_completes words None c is e = absurd (let z : None ≡ Some (asked.Command c) = e in cc z)
mapped_completes words (Some d) c is e =
    let same : d ≡ c = let z : Some (asked.Command d) ≡ Some (asked.Command c) = e in cc z in
    subst IsComplete same (command_completes words d is)

pub asked_complete : (words : List (List ℕ)) (c : Command) → asked_by words ≡ Some (asked.Command c) → IsComplete c
asked_complete words c e = by (is_alone (codes "--help") words) (is_alone (codes "--version") words) e
  where
    by : (x y : Bool) → cond x (Some asked.Help) (cond y (Some asked.Version) (option_map asked.Command (command_asked words))) ≡ Some (asked.Command c) → IsComplete c
    by true y s = absurd (let z : Some asked.Help ≡ Some (asked.Command c) = s in cc z)
    by false true s = absurd (let z : Some asked.Version ≡ Some (asked.Command c) = s in cc z)
    by false false s = mapped_completes words (command_asked words) c refl s
