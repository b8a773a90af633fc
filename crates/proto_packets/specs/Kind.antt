-- The kinds of values that a key of a packet has, and whether the key must be there.
use Rattle.std.specs.Prelude.{ℕ, List, [], ◌∷◌, Option, Some, None, option_map, option_and_then, codes}
use Rattle.std.specs.List.{list_any}
use Rattle.std.specs.Str.{bytes_eq}
use Rattle.serde_json.specs.Data.{Data, null, boolean, number, string, array, object, Items, no_items, item}
use Rattle.serde_json.specs.Find.{as_number, as_u64, as_str, as_array}
use Rattle.sim_base.specs.TimeText.{read_time}
use Rattle.sim_base.specs.declared.kinds.Kinds.{Kinds}
use Rattle.proto_packets.specs.declared.request.Designation.{Designation}

-- null is as if the key were absent
abbrev pub given : Option Data → Option Data
given None = None
given (Some null) = None
given (Some (boolean b)) = Some (boolean b)
given (Some (number n)) = Some (number n)
given (Some (string s)) = Some (string s)
given (Some (array ds)) = Some (array ds)
given (Some (object ms)) = Some (object ms)

-- what is given is of the kind
abbrev pub if_given : {A : Type 0} → (Data → Option A) → Option Data → Option (Option A)
if_given kind None = Some None
if_given kind (Some d) = option_map Some (kind d)

-- a key that may be absent, or null with the same meaning
abbrev pub may_be : {A : Type 0} → (Data → Option A) → Option Data → Option (Option A)
may_be kind found = if_given kind (given found)

-- a key that must be there with a value of the kind
abbrev pub must_be : {A : Type 0} → (Data → Option A) → Option Data → Option A
must_be kind found = option_and_then kind found

-- null, or a value of the kind
abbrev pub or_null : {A : Type 0} → (Data → Option A) → Data → Option (Option A)
or_null kind d = may_be kind (Some d)

-- a whole number: one that is read as an unsigned number of 64 bits
abbrev pub whole : Data → Option ℕ
whole d = option_and_then as_u64 (as_number d)

-- a text that is a time
abbrev pub time : Data → Option ℕ
time d = option_and_then read_time (as_str d)

abbrev pub two_times : Items → Option (ℕ × ℕ)
two_times no_items = None
two_times (item begin no_items) = None
two_times (item begin (item end no_items)) = option_and_then (λ b. option_map (λ e. (b, e)) (time end)) (time begin)
two_times (item begin (item end (item other others))) = None

-- a list of two times
abbrev pub interval : Data → Option (ℕ × ℕ)
interval d = option_and_then two_times (as_array d)

unfoldable pub each_text : Items → Option (List (List ℕ))
each_text no_items = Some []
each_text (item d ds) = option_and_then (λ text. option_map (λ texts. text ∷ texts) (each_text ds)) (as_str d)

-- the kinds that the texts name; every other text names none
abbrev pub kinds_named : List (List ℕ) → Kinds
kinds_named texts = record {
  asserts = list_any (λ text. bytes_eq text (codes "assert")) texts;
  assumes = list_any (λ text. bytes_eq text (codes "assume")) texts;
}

-- a list of texts
abbrev pub kinds : Data → Option Kinds
kinds d = option_map kinds_named (option_and_then each_text (as_array d))

-- `[name]` or `[name, first, last]`
abbrev pub designation_of : Items → Option Designation
designation_of no_items = None
designation_of (item name no_items) = option_map (λ n. record { name = n; rows = None }) (as_str name)
designation_of (item name (item first no_items)) = None
designation_of (item name (item first (item last no_items))) =
    option_and_then (λ n. option_and_then (λ f. option_map (λ l. record { name = n; rows = Some (f, l) }) (whole last)) (whole first)) (as_str name)
designation_of (item name (item first (item last (item other others)))) = None

abbrev pub designation : Data → Option Designation
designation d = option_and_then designation_of (as_array d)

unfoldable pub each_designation : Items → Option (List Designation)
each_designation no_items = Some []
each_designation (item d ds) = option_and_then (λ one. option_map (λ more. one ∷ more) (each_designation ds)) (designation d)

-- a list of designations
abbrev pub designations : Data → Option (List Designation)
designations d = option_and_then each_designation (as_array d)
