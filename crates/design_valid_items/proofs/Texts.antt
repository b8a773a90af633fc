-- Texts in UTF-8, and parts of them.
use Rattle.std.proofs.Common.{◌≡◌, ℕ, ◌+◌, ◌/◌, ◌%◌, ◌<◌, ◌≤◌, ◌==◌, ◌&&◌, ltb, cond, List, [], ◌∷◌, ◌++◌, drop, Bool, true, false, Option, Some, None, option_and_then, refl, sym, ap, ◌∙◌, subst, arith, inl, inr}
use Rattle.std.specs.Str.{IsUtf8, is_utf8}
use Rattle.std.proofs.lemmas.Bool.{and_parts, cases_lt, cond-false, le-ltb}
use Rattle.std.proofs.lemmas.Bool.Decides.{Decides-eqb, eqb_tells}
use Rattle.std.proofs.lemmas.Str.{IsCharBoundary-after_ascii, IsUtf8-append, IsUtf8-drop, IsUtf8-encode, IsUtf8-from_is_utf8, IsUtf8-nil, encode_ascii, is_utf8-from_IsUtf8}
use lib.Utf8.{encode, encodes, scalar, scalars}
use Rattle.circuit.specs.Valid.{text_fits}
use Rattle.rtlil_tree.specs.declared.module.Attribute.{Attribute}
use Rattle.rtlil_tree.specs.declared.sig.Const.{Const}
use Rattle.rtlil_tree.specs.Attributes.{attribute_value}
use Rattle.design_wires.specs.Places.{InstancePlace}
use Rattle.design_wires.specs.Texts.{const_bytes, const_text, if_text, source_text}
use Rattle.design_wires.specs.Wires.{is_public}
use Rattle.design_diagnostics.specs.Readings.{cell_text, shown_byte, shown_path}
use Rattle.design_walk.specs.Instances.{bare_name}

pub text_both : (x y : List ℕ) → is_utf8 x ≡ true → is_utf8 y ≡ true → is_utf8 (x ++ y) ≡ true
text_both x y f g = is_utf8-from_IsUtf8 (x ++ y) (IsUtf8-append x y (IsUtf8-from_is_utf8 x f) (IsUtf8-from_is_utf8 y g))

pub no_text : is_utf8 [] ≡ true
no_text = is_utf8-from_IsUtf8 [] IsUtf8-nil

pub space_text : is_utf8 (32 ∷ []) ≡ true
space_text = let low : 32 < 128 = omega arith in is_utf8-from_IsUtf8 (32 ∷ []) (subst IsUtf8 (encode_ascii 32 low) (IsUtf8-encode 32 refl))

-- an identifier that begins with `\`, without that
pub public_text : (name : List ℕ) → is_public name ≡ true → is_utf8 name ≡ true → is_utf8 (drop 1 name) ≡ true
public_text [] p h = h
public_text (c ∷ name) p h =
    let is : c ≡ 92 = (Decides-eqb c 92).0 p in
    let whole = IsUtf8-from_is_utf8 (c ∷ name) h in
    is_utf8-from_IsUtf8 (drop 1 (c ∷ name)) (IsUtf8-drop (c ∷ name) 1 whole (IsCharBoundary-after_ascii (c ∷ name) 0 whole (omega arith) (omega (arith, is))))

pub bare_text : (name : List ℕ) → is_utf8 name ≡ true → is_utf8 (bare_name name) ≡ true
bare_text name h = by (is_public name) refl
  where
    by : (b : Bool) → is_public name ≡ b → is_utf8 (cond b (drop 1 name) name) ≡ true
    by true p = public_text name p h
    by false p = h

-- ---- sources

if_text_fits : (bytes : List ℕ) → text_fits (if_text bytes) ≡ true
if_text_fits bytes = by (is_utf8 bytes) refl
  where
    by : (b : Bool) → is_utf8 bytes ≡ b → text_fits (cond b (Some bytes) None) ≡ true
    by true e = e
    by false e = refl

bytes_fit : (o : Option (List ℕ)) → text_fits (option_and_then if_text o) ≡ true
bytes_fit None = refl
bytes_fit (Some bytes) = if_text_fits bytes

pub source_fits : (attributes : List Attribute) → text_fits (source_text attributes) ≡ true
source_fits attributes = by (attribute_value _ attributes)
  where
    by : (o : Option Const) → text_fits (option_and_then const_text o) ≡ true
    by None = refl
    by (Some c) = bytes_fit (const_bytes c)

-- ---- texts of cells

abbrev AreHigh : List ℕ → Type 0
AreHigh [] = Unit {0}
AreHigh (b ∷ bs) = (128 ≤ b) × AreHigh bs

byte_stays : (begins : Bool) (b : ℕ) → 128 ≤ b → shown_byte begins b ≡ b ∷ []
byte_stays begins b le = elim (eqb_tells b 92) [
  | inl t ↦ absurd (let is : b ≡ 92 = t.1 in omega (arith, le, is))
  | inr f ↦ elim begins as (λ x. cond (x && (b == 92)) [] (b ∷ []) ≡ b ∷ []) [ true ↦ cond-false (b == 92) [] (b ∷ []) f.0 | false ↦ refl ]
]

no_space : (b : ℕ) → 128 ≤ b → (b == 32) ≡ false
no_space b le = elim (eqb_tells b 32) [
  | inl t ↦ absurd (let is : b ≡ 32 = t.1 in omega (arith, le, is))
  | inr f ↦ f.0
]

high_stays : (begins : Bool) (b : ℕ) (bs rest : List ℕ) → AreHigh (b ∷ bs) → shown_path begins (b ∷ bs ++ rest) ≡ b ∷ bs ++ shown_path false rest
unfolding shown_path
high_stays begins b [] rest h = ap (λ xs. xs ++ shown_path (b == 32) rest) (byte_stays begins b h.0) ∙ ap (λ x. b ∷ shown_path x rest) (no_space b h.0)
high_stays begins b (c ∷ bs) rest h =
    ap (λ xs. xs ++ shown_path (b == 32) (c ∷ bs ++ rest)) (byte_stays begins b h.0) ∙ ap (λ x. b ∷ shown_path x (c ∷ bs ++ rest)) (no_space b h.0) ∙ ap (λ xs. b ∷ xs) (high_stays false c bs rest h.1)

abbrev two : ℕ → List ℕ
two c = (192 + c / 64) ∷ (128 + c % 64) ∷ []

abbrev three : ℕ → List ℕ
three c = (224 + c / 4096) ∷ (128 + c / 64 % 64) ∷ (128 + c % 64) ∷ []

abbrev four : ℕ → List ℕ
four c = (240 + c / 262144) ∷ (128 + c / 4096 % 64) ∷ (128 + c / 64 % 64) ∷ (128 + c % 64) ∷ []

at_least : (more n : ℕ) → 128 ≤ more → 128 ≤ more + n
at_least more n le = omega (arith, le)

-- a character of several bytes stays
long_stays : (begins : Bool) (c : ℕ) (rest : List ℕ) → 128 ≤ c → shown_path begins (encode c ++ rest) ≡ encode c ++ shown_path false rest
unfolding encode
long_stays begins c rest le =
    let is : encode c ≡ cond (ltb c 2048) (two c) (cond (ltb c 65536) (three c) (four c)) = cond-false (ltb c 128) (c ∷ []) (cond (ltb c 2048) (two c) (cond (ltb c 65536) (three c) (four c))) (le-ltb c 128 le) in
    ap (λ (xs : List ℕ). shown_path begins (xs ++ rest)) is ∙ by (ltb c 2048) (ltb c 65536) ∙ sym (ap (λ (xs : List ℕ). xs ++ shown_path false rest) is)
  where
    low : (n : ℕ) → 128 ≤ 128 + n
    low n = omega arith

    by : (x y : Bool) → shown_path begins (cond x (two c) (cond y (three c) (four c)) ++ rest) ≡ cond x (two c) (cond y (three c) (four c)) ++ shown_path false rest
    by true y = high_stays begins (192 + c / 64) ((128 + c % 64) ∷ []) rest (omega arith, (omega arith, tt))
    by false true = high_stays begins (224 + c / 4096) ((128 + c / 64 % 64) ∷ (128 + c % 64) ∷ []) rest (omega arith, (omega arith, (omega arith, tt)))
    by false false = high_stays begins (240 + c / 262144) ((128 + c / 4096 % 64) ∷ (128 + c / 64 % 64) ∷ (128 + c % 64) ∷ []) rest (omega arith, (omega arith, (omega arith, (omega arith, tt))))

byte_text : (begins : Bool) (c : ℕ) → IsUtf8 (c ∷ []) → IsUtf8 (shown_byte begins c)
byte_text begins c one = elim (begins && c == 92) as (λ b. IsUtf8 (cond b [] (c ∷ []))) [ true ↦ IsUtf8-nil | false ↦ one ]

path_text : (begins : Bool) (cs : List ℕ) → scalars cs ≡ true → IsUtf8 (shown_path begins (encodes cs))
unfolding shown_path
path_text begins [] h = IsUtf8-nil
path_text begins (c ∷ cs) h =
    let both = and_parts (scalar c) (scalars cs) h in
    elim (cases_lt c 128) [
      | inl lt ↦
          (let one : encode c ≡ c ∷ [] = encode_ascii c lt in
          let char : IsUtf8 (c ∷ []) = subst IsUtf8 one (IsUtf8-encode c both.0) in
          subst (λ (xs : List ℕ). IsUtf8 (shown_path begins (xs ++ encodes cs))) (sym one)
          (IsUtf8-append (shown_byte begins c) (shown_path (c == 32) (encodes cs)) (byte_text begins c char) (path_text (c == 32) cs both.1)))
      | inr le ↦
          (subst IsUtf8 (sym (long_stays begins c (encodes cs) le)) (IsUtf8-append (encode c) (shown_path false (encodes cs)) (IsUtf8-encode c both.0) (path_text false cs both.1)))
    ]

-- the text of a cell
pub cell_text_fits : (here : InstancePlace) (name : List ℕ) → is_utf8 here.prefix ≡ true → is_utf8 name ≡ true → is_utf8 (cell_text here name) ≡ true
cell_text_fits here name f g =
    let whole = IsUtf8-from_is_utf8 (here.prefix ++ name) (text_both here.prefix name f g) in
    is_utf8-from_IsUtf8 (cell_text here name) (subst (λ (xs : List ℕ). IsUtf8 (shown_path true xs)) whole.1.1 (path_text true whole.0 whole.1.0))
