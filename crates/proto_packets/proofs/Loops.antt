-- Lists of a packet that are read in a loop.
use Rattle.std.proofs.Common.{◌≡◌, ℕ, Bool, true, false, List, [], ◌∷◌, ◌++◌, Option, Some, None, Err, append-nil, option_map, codes, refl, sym, ap, append_assoc, ◌+◌, ◌<◌, length, drop, get_or, ◌∙◌}
use Rattle.std.specs.Prelude.{◌||◌}
use Rattle.std.proofs.lemmas.List.{at_drop_more}
use Rattle.std.specs.List.{list_any}
use Rattle.std.specs.Str.{bytes_eq}
use Rattle.serde_json.specs.Find.{as_str}
use Rattle.serde_json.specs.View.{view, items_view}
use Rattle.serde_json.specs.declared.value.Value.{Value}
use Rattle.sim_base.specs.declared.kinds.Kinds.{Kinds}
use Rattle.proto_packets.specs.declared.request.Designation.{Designation}
use Rattle.proto_packets.specs.declared.fault.PacketFault.{PacketFault}
use Rattle.proto_packets.specs.declared.fault.PacketFault.TheVariants as fault
use Rattle.proto_packets.specs.Answers.{Gives}
use Rattle.proto_packets.specs.Kind.{each_text, designation, each_designation}

-- the kinds found so far, and those that the texts name
abbrev pub with_kinds : Kinds → List (List ℕ) → Kinds
with_kinds found texts = record {
  asserts = found.asserts || list_any (λ text. bytes_eq text (codes "assert")) texts;
  assumes = found.assumes || list_any (λ text. bytes_eq text (codes "assume")) texts;
}

abbrev pub after_text : Kinds → List ℕ → Kinds
after_text found text = record {
  asserts = found.asserts || bytes_eq text (codes "assert");
  assumes = found.assumes || bytes_eq text (codes "assume");
}

or_assoc : (a b c : Bool) → (a || (b || c)) ≡ ((a || b) || c)
or_assoc true b c = refl
or_assoc false b c = refl

with_kinds-cons : (found : Kinds) (text : List ℕ) (texts : List (List ℕ)) → with_kinds found (text ∷ texts) ≡ with_kinds (after_text found text) texts
with_kinds-cons found text texts = simp or_assoc

over_texts : (found : Kinds) (text : List ℕ) (more : Option (List (List ℕ))) → option_map (with_kinds found) (option_map (λ texts. text ∷ texts) more) ≡ option_map (with_kinds (after_text found text)) more
over_texts found text None = refl
over_texts found text (Some texts) = ap Some (with_kinds-cons found text texts)

texts_go_on : (found : Kinds) (v : Value) (vs : List Value) (text : List ℕ) → as_str (view v) ≡ Some text → option_map (with_kinds found) (each_text (items_view (v ∷ vs))) ≡ option_map (with_kinds (after_text found text)) (each_text (items_view vs))
unfolding each_text
texts_go_on found v vs text h = rw h (over_texts found text (each_text (items_view vs)))

texts_end : (found : Kinds) (v : Value) (vs : List Value) → as_str (view v) ≡ None → option_map (with_kinds found) (each_text (items_view (v ∷ vs))) ≡ None
unfolding each_text
texts_end found v vs h = rw h refl

module _ (xs : List Value) (i : ℕ) (v : Value) (inside : i < length xs) (item : v ≡ get_or xs i v) where
  next : {Y : Type 0} (F : List Value → Y) → F (drop i xs) ≡ F (v ∷ drop (i + 1) xs)
  next F = at_drop_more F xs i v inside ∙ ap (λ z. F (z ∷ drop (i + 1) xs)) (sym item)

  pub texts_at : (found : Kinds) (text : List ℕ) → as_str (view v) ≡ Some text → option_map (with_kinds found) (each_text (items_view (drop i xs))) ≡ option_map (with_kinds (after_text found text)) (each_text (items_view (drop (i + 1) xs)))
  texts_at found text h = next (λ z. option_map (with_kinds found) (each_text (items_view z))) ∙ texts_go_on found v (drop (i + 1) xs) text h

  pub no_text_at : (found : Kinds) → as_str (view v) ≡ None → option_map (with_kinds found) (each_text (items_view (drop i xs))) ≡ None
  no_text_at found h = next (λ z. option_map (with_kinds found) (each_text (items_view z))) ∙ texts_end found v (drop (i + 1) xs) h

or_false : (b : Bool) → (b || false) ≡ b
or_false true = refl
or_false false = refl

pub texts_none : (found : Kinds) → option_map (with_kinds found) (each_text (items_view [])) ≡ Some found
unfolding each_text
texts_none found = ap Some (rw (or_false found.asserts, or_false found.assumes) refl)

over_designations : (found : List Designation) (one : Designation) (more : Option (List Designation)) → option_map (λ all. found ++ all) (option_map (λ all. one ∷ all) more) ≡ option_map (λ all. (found ++ one ∷ []) ++ all) more
over_designations found one None = refl
over_designations found one (Some all) = ap Some (simp append_assoc)

designations_go_on : (found : List Designation) (v : Value) (vs : List Value) (one : Designation) → designation (view v) ≡ Some one → option_map (λ all. found ++ all) (each_designation (items_view (v ∷ vs))) ≡ option_map (λ all. (found ++ one ∷ []) ++ all) (each_designation (items_view vs))
unfolding each_designation
designations_go_on found v vs one h = rw h (over_designations found one (each_designation (items_view vs)))

designations_end : (found : List Designation) (v : Value) (vs : List Value) → designation (view v) ≡ None → option_map (λ all. found ++ all) (each_designation (items_view (v ∷ vs))) ≡ None
unfolding each_designation
designations_end found v vs h = rw h refl

module _ (xs : List Value) (i : ℕ) (v : Value) (inside : i < length xs) (item : v ≡ get_or xs i v) where
  pub designations_at : (found : List Designation) (one : Designation) → designation (view v) ≡ Some one → option_map (λ all. found ++ all) (each_designation (items_view (drop i xs))) ≡ option_map (λ all. (found ++ one ∷ []) ++ all) (each_designation (items_view (drop (i + 1) xs)))
  designations_at found one h = next xs i v inside item (λ z. option_map (λ all. found ++ all) (each_designation (items_view z))) ∙ designations_go_on found v (drop (i + 1) xs) one h

  pub no_designation_at : (found : List Designation) → designation (view v) ≡ None → option_map (λ all. found ++ all) (each_designation (items_view (drop i xs))) ≡ None
  no_designation_at found h = next xs i v inside item (λ z. option_map (λ all. found ++ all) (each_designation (items_view z))) ∙ designations_end found v (drop (i + 1) xs) h

pub designations_none : (found : List Designation) → option_map (λ all. found ++ all) (each_designation (items_view [])) ≡ Some found
unfolding each_designation
designations_none found = ap Some (simp append-nil)

pub Gives-fault : (A B : Type 0) (e : PacketFault) (o : Option A) (p : Option B) → Gives (Err e) o → (o ≡ None → p ≡ None) → Gives (Err e) p
Gives-fault A B fault.Json o p h none = h
Gives-fault A B fault.Packet o p h none = h
Gives-fault A B fault.Command o p h none = h
Gives-fault A B fault.Argument o p h none = none h
Gives-fault A B fault.NoMemory o p h none = tt
