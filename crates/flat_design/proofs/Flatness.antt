-- The circuit of a module is flat.
use Rattle.std.proofs.Common.{◌≡◌, ℕ, zero, suc, ◌+◌, ◌<◌, ◌≤◌, ◌⊎◌, List, [], ◌∷◌, ◌++◌, length, map, refl, sym, ◌∙◌, ap, subst, arith, inl, inr, Bool, true, false, cond, eqb, leb, not, ◌||◌, Option, Some, None, option_map, length-append, append_assoc, append-nil}
use Rattle.std.proofs.lemmas.List.{length-map}
use Rattle.std.specs.Prelude.{slice_get, option_and_then, find, codes, count_by}
use Rattle.flat_design.specs.Names.{has_backslash, same_name}
use Rattle.std.specs.List.{list_all, list_any}
use Rattle.std.proofs.Math.ListN.{get_or-append}
use Rattle.std.proofs.Math.Seq.{get_or-append_seam}
use Rattle.std.proofs.lemmas.Option.{slice_get_within, slice_get-map, option_and_then_some, cond_some}
use Rattle.std.proofs.lemmas.Bool.{and_parts, or_parts, leb-true, eqb-true, eqb-false, cond_both, false≢true, cond-true, cond-false, cases_Bool}
use Rattle.sim_base.specs.BitValue.{BitValue}
use Rattle.flat_text.specs.declared.module.Module.{Module}
use Rattle.flat_text.specs.declared.module.Wire.{Wire}
use Rattle.flat_text.specs.declared.module.Attribute.{Attribute}
use Rattle.flat_text.specs.declared.module.Constant.{Constant}
use Rattle.flat_text.specs.declared.module.Constant.TheVariants as constant
use Rattle.flat_text.specs.declared.module.Operand.{Operand}
use Rattle.flat_text.specs.declared.module.Operand.TheVariants as operand
use Rattle.flat_text.specs.declared.module.Parameter.{Parameter}
use Rattle.flat_text.specs.declared.module.Connection.{Connection}
use Rattle.flat_text.specs.declared.module.Cell.{Cell}
use Rattle.circuit.specs.declared.netlist.Circuit.{Circuit}
use Rattle.circuit.specs.declared.netlist.Net.{Net}
use Rattle.circuit.specs.declared.netlist.Drive.{Drive}
use Rattle.circuit.specs.declared.netlist.By.TheVariants as by
use Rattle.circuit.specs.declared.cell.Cell.{Cell as Adder}
use Rattle.circuit.specs.declared.register.Reg.{Reg}
use Rattle.circuit.specs.declared.item.Item.{Item}
use Rattle.circuit.specs.declared.netlist.Piece.{Piece}
use Rattle.circuit.specs.declared.netlist.Piece.TheVariants as piece
use Rattle.circuit.specs.Signal.{piece_width}
use Rattle.flat_design.specs.Wires.{is_word_width, is_wire, is_input, is_init, is_digits_of, start_of, start_from, digits_or_zeros, net_of, with_net, with_input, with_wire, with_wires}
use Rattle.flat_design.specs.Ports.{whole_net, wire_piece, piece_of, place_of, joined, sized, joined_with_width, has_parameter, is_parameter, is_number}
use Rattle.flat_design.specs.Cells.{sig_reads, cell_reads, is_driven, whole_drive, adder_of, with_adder_on, with_adder_to, with_adder, has_adder_form, has_register_form, register_of, with_register_on, with_register_to, with_register, of_width, start_at, with_cell, with_cells}
use Rattle.flat_design.specs.Labels.{item_of, is_before, inserted, with_label, with_labels, numbered, items_of}
use Rattle.flat_design.specs.Circuit.{has_known_form, frame_of, with_items, circuit_of}
use Rattle.flat_design.specs.Flat.{HasWidth, IsWordWidth, IsFlatPiece, IsFlatSig, ReadsNet, IsFlatDrive, IsFlatCell, IsFlatReg, IsNodeOf, IsFlat}
use Rattle.flat_design.proofs.Lists.{get_left, get_last, get_push}
use Rattle.flat_design.proofs.Grown.{Extends, Keeps, Adds, flat_kept, flat_more, piece_up}

-- ---- tests
word_width : (width : ℕ) → is_word_width width ≡ true → IsWordWidth width
word_width width e =
    let p = and_parts (leb 1 width) (leb width 64) e in
    (leb-true 1 width p.0, leb-true width 64 p.1)

all_at : {X : Type 0} (p : X → Bool) (xs : List X) (i : ℕ) (x : X) → list_all p xs ≡ true → slice_get xs i ≡ Some x → p x ≡ true
all_at p [] i x h e = cc e
all_at p (y ∷ xs) zero x h e = let s : y ≡ x = cc e in ap p (sym s) ∙ (and_parts (p y) (list_all p xs) h).0
all_at p (y ∷ xs) (suc i) x h e = all_at p xs i x (and_parts (p y) (list_all p xs) h).1 e

none_at : {X : Type 0} (p : X → Bool) (xs : List X) (i : ℕ) (x : X) → list_any p xs ≡ false → slice_get xs i ≡ Some x → p x ≡ false
none_at p [] i x h e = cc e
none_at p (y ∷ xs) zero x h e = let s : y ≡ x = cc e in ap p (sym s) ∙ (or_parts (p y) (list_any p xs) h).0
none_at p (y ∷ xs) (suc i) x h e = none_at p xs i x (or_parts (p y) (list_any p xs) h).1 e

cond_other : {X : Type 0} (b : Bool) (x y : X) → cond b None (Some x) ≡ Some y → (b ≡ false) × (x ≡ y)
cond_other true x y e = cc e
cond_other false x y e = (refl, cc e)

cond_part : {X : Type 0} (b : Bool) (x : Option X) (y : X) → cond b x None ≡ Some y → x ≡ Some y
cond_part true x y e = e
cond_part false x y e = cc e

wire_word : (w : Wire) → is_wire w ≡ true → IsWordWidth w.width
unfolding is_wire
wire_word w e = word_width w.width (and_parts (is_word_width w.width) _ e).0

-- ---- wires
module _ (c : Circuit) (w : Wire) (flat : IsFlat c) (bare : c.items ≡ []) (word : IsWordWidth w.width) where
  net_extends : Extends c (with_net c w)
  net_extends = record {
    nets = λ n x g. get_left c.nets (net_of w ∷ []) n x g;
    inputs = λ n h. (h, refl);
    cells = λ n x g. g;
    regs = λ n x g. g;
  }

  net_new : (n : ℕ) (x : Net) → slice_get (with_net c w).nets n ≡ Some x → (slice_get c.nets n ≡ Some x) ⊎ IsWordWidth x.width
  net_new n x g = elim (get_push c.nets (net_of w) n x g) [
    | inl o ↦ inl o
    | inr h ↦ inr (subst (λ (y : Net). IsWordWidth y.width) (sym h.1) word)
  ]

  bare_items : (d : Circuit) → d.items ≡ [] → (i : ℕ) (x : Item) → slice_get d.items i ≡ Some x → (x.first_slot ≡ i) × IsNodeOf d x.kind
  bare_items d none i x g = let f : None ≡ Some x = sym (ap (λ (xs : List Item). slice_get xs i) none) ∙ g in cc f

  net_keeps : Keeps c (with_net c w)
  net_keeps = record { nets = net_new; drives = refl; cells = refl; regs = refl; mems = refl; diags = refl; items = bare_items (with_net c w) bare }

  flat_net : IsFlat (with_net c w)
  flat_net = flat_kept c (with_net c w) flat net_extends net_keeps

  input_drive : Drive
  input_drive = whole_drive (length c.nets) w.width (by.Input (length c.inputs) 0)

  wired : Circuit
  wired = with_input (with_net c w) (length c.nets) w.width

  input_extends : Extends (with_net c w) wired
  unfolding wired
  input_extends = record {
    nets = λ n x g. g;
    inputs = λ n h. (omega (arith, h, length-append c.inputs (length c.nets ∷ [])), get_or-append c.inputs (length c.nets ∷ []) 0 n h);
    cells = λ n x g. g;
    regs = λ n x g. g;
  }

  input_flat : IsFlatDrive wired input_drive
  unfolding wired input_drive
  input_flat = (refl, (net_of w, get_last c.nets (net_of w), refl), (refl, omega (arith, length-append c.inputs (length c.nets ∷ [])), get_or-append_seam c.inputs (length c.nets) [] 0))

  input_fresh : (i : ℕ) (x : Drive) → slice_get c.drives i ≡ Some x → x.net ≡ length c.nets → ⊥
  input_fresh i x g s =
      let h = (flat.drives i x g).1 in
      let lt : x.net < length c.nets = slice_get_within c.nets x.net h.0 h.1 in omega (arith, lt, s)

  input_adds : Adds (with_net c w) wired input_drive
  unfolding wired input_drive
  input_adds = record {
    nets = λ n x g. inl g;
    drives = refl;
    drive = input_flat;
    fresh = input_fresh;
    cells = λ n x g. inl g;
    regs = λ n x g. inl g;
    last = λ k p s. cc s;
    unread = λ k p s m x g r. cc s;
    items = bare;
    mems = refl;
    diags = refl;
  }

  flat_input : IsFlat (with_input (with_net c w) (length c.nets) w.width)
  unfolding wired
  flat_input = flat_more (with_net c w) wired input_drive flat_net input_extends input_adds

flat_wire : (c : Circuit) (w : Wire) → IsFlat c → c.items ≡ [] → is_wire w ≡ true → IsFlat (with_wire c w)
unfolding with_wire
flat_wire c w flat bare h =
    let word = wire_word w h in
    cond_both (is_input w.port) (with_input (with_net c w) (length c.nets) w.width) (with_net c w) IsFlat (λ _. flat_input c w flat bare word) (λ _. flat_net c w flat bare word)

bare_wire : (c : Circuit) (w : Wire) → c.items ≡ [] → (with_wire c w).items ≡ []
unfolding with_wire
bare_wire c w bare = cond_both (is_input w.port) (with_input (with_net c w) (length c.nets) w.width) (with_net c w) (λ (d : Circuit). d.items ≡ []) (λ _. bare) (λ _. bare)

nets_wire : (c : Circuit) (w : Wire) → (with_wire c w).nets ≡ c.nets ++ net_of w ∷ []
unfolding with_wire
nets_wire c w = cond_both (is_input w.port) (with_input (with_net c w) (length c.nets) w.width) (with_net c w) (λ (d : Circuit). d.nets ≡ c.nets ++ net_of w ∷ []) (λ _. refl) (λ _. refl)

flat_wires : (c : Circuit) (ws : List Wire) → IsFlat c → c.items ≡ [] → list_all is_wire ws ≡ true → IsFlat (with_wires c ws)
unfolding with_wires
flat_wires c [] flat bare h = flat
flat_wires c (w ∷ ws) flat bare h =
    let p = and_parts (is_wire w) (list_all is_wire ws) h in
    flat_wires (with_wire c w) ws (flat_wire c w flat bare p.0) (bare_wire c w bare) p.1

bare_wires : (c : Circuit) (ws : List Wire) → c.items ≡ [] → (with_wires c ws).items ≡ []
unfolding with_wires
bare_wires c [] bare = bare
bare_wires c (w ∷ ws) bare = bare_wires (with_wire c w) ws (bare_wire c w bare)

nets_wires : (c : Circuit) (ws : List Wire) → (with_wires c ws).nets ≡ c.nets ++ map net_of ws
unfolding with_wires
nets_wires c [] = sym (append-nil c.nets)
nets_wires c (w ∷ ws) = nets_wires (with_wire c w) ws ∙ ap (λ (xs : List Net). xs ++ map net_of ws) (nets_wire c w) ∙ append_assoc c.nets (net_of w ∷ []) (map net_of ws)

-- ---- what ports are joined to
abbrev IsGoodPiece : Circuit → Piece → Type 0
IsGoodPiece c p = IsWordWidth (piece_width p) × IsFlatPiece c (piece_width p) p

module _ (wires : List Wire) (c : Circuit) (nets : c.nets ≡ map net_of wires) (valid : list_all is_wire wires ≡ true) where
  good_net : (k : ℕ) (o : Option Wire) (p : Piece) → slice_get wires k ≡ o → whole_net k o ≡ Some p → IsGoodPiece c p
  good_net k None p g e = cc e
  good_net k (Some w) p g e =
      let f : piece.Part k 0 w.width ≡ p = cc e in
      let at : slice_get c.nets k ≡ Some (net_of w) = ap (λ (xs : List Net). slice_get xs k) nets ∙ slice_get-map net_of wires k ∙ ap (option_map net_of) g in
      subst (λ (q : Piece). IsGoodPiece c q) f (wire_word w (all_at is_wire wires k w valid g), (refl, refl, (net_of w, at, refl)))

  good_wire : (name : List ℕ) (p : Piece) → wire_piece wires name ≡ Some p → IsGoodPiece c p
  unfolding wire_piece
  good_wire name p e = option_and_then_some (λ net. whole_net net (slice_get wires net)) (place_of wires name) p e (λ k h f. good_net k (slice_get wires k) p refl f)

  good_piece : (o : Operand) (p : Piece) → piece_of wires o ≡ Some p → IsGoodPiece c p
  good_piece (operand.Wire name) p e = good_wire name p e
  good_piece (operand.Digits v) p e =
      let h = cond_some (is_word_width v.width) (piece.Const v) p e in
      subst (λ (q : Piece). IsGoodPiece c q) h.1 (word_width v.width h.0, refl)

  good_joined : (connections : List Connection) (port : List ℕ) (p : Piece) → joined wires connections port ≡ Some p → IsGoodPiece c p
  unfolding joined
  good_joined connections port p e = option_and_then_some (λ x. piece_of wires x.to) (find _ connections) p e (λ x h f. good_piece x.to p f)

  good_sized : (x : Cell) (port parameter : List ℕ) (p : Piece) → joined_with_width wires x port parameter ≡ Some p → IsGoodPiece c p × (has_parameter x.parameters parameter (piece_width p) ≡ true)
  unfolding joined_with_width
  good_sized x port parameter p e =
      option_and_then_some (sized x.parameters parameter) (joined wires x.connections port) p e
      (λ q h f.
      let s = cond_some (has_parameter x.parameters parameter (piece_width q)) q p f in
      (subst (λ (r : Piece). IsGoodPiece c r) s.1 (good_joined x.connections port q h), ap (λ (r : Piece). has_parameter x.parameters parameter (piece_width r)) (sym s.1) ∙ s.0))

-- ---- what is read
unread_sig : (net : ℕ) (ps : List Piece) → sig_reads net ps ≡ false → ReadsNet ps net → ⊥
unread_sig net [] h r = absurd r
unread_sig net (piece.Const v ∷ ps) h r = unread_sig net ps h r
unread_sig net (piece.Part n at w ∷ ps) h (inl e) = eqb-false n net (or_parts (eqb n net) (sig_reads net ps) h).0 e
unread_sig net (piece.Part n at w ∷ ps) h (inr r) = unread_sig net ps (or_parts (eqb n net) (sig_reads net ps) h).1 r

unread_cell : (net : ℕ) (x : Adder) → cell_reads net x ≡ false → ReadsNet x.a net ⊎ ReadsNet x.b net → ⊥
unread_cell net x h r =
    let p = or_parts (sig_reads net x.a) (sig_reads net x.b) h in
    elim r [ inl a ↦ unread_sig net x.a p.0 a | inr b ↦ unread_sig net x.b p.1 b ]

undriven : (drives : List Drive) (net : ℕ) → is_driven drives net ≡ false → (i : ℕ) (x : Drive) → slice_get drives i ≡ Some x → x.net ≡ net → ⊥
undriven drives net h i x g s = eqb-false x.net net (none_at (λ (d : Drive). eqb d.net net) drives i x h g) s

-- ---- an adder
abbrev IsBareFlat : Circuit → List Net → Type 0
IsBareFlat d nets = IsFlat d × (d.items ≡ []) × (d.nets ≡ nets)

module _ (c : Circuit) (flat : IsFlat c) (bare : c.items ≡ []) (a b : Piece) (net width : ℕ) (good_a : IsGoodPiece c a) (good_b : IsGoodPiece c b) (word : IsWordWidth width) (there : HasWidth c net width) (free : is_driven c.drives net ≡ false) (early : list_any (cell_reads net) c.cells ≡ false) (self : cell_reads net (adder_of a b width) ≡ false) where
  added : Circuit
  added = with_adder_on c (adder_of a b width) net width

  adder_drive : Drive
  adder_drive = whole_drive net width (by.Cell (length c.cells) 0)

  adder_extends : Extends c added
  unfolding added
  adder_extends = record {
    nets = λ n x g. g;
    inputs = λ n h. (h, refl);
    cells = λ n x g. get_left c.cells (adder_of a b width ∷ []) n x g;
    regs = λ n x g. g;
  }

  adder_flat : IsFlatCell added (adder_of a b width)
  adder_flat = record {
    op = refl;
    s = refl;
    a = (piece_width a, (good_a.0, piece_up c added adder_extends (piece_width a) a good_a.1));
    b = (piece_width b, (good_b.0, piece_up c added adder_extends (piece_width b) b good_b.1));
    a_unsigned = refl;
    b_unsigned = refl;
    width = word;
  }

  adder_cells : (n : ℕ) (x : Adder) → slice_get (c.cells ++ adder_of a b width ∷ []) n ≡ Some x → (slice_get c.cells n ≡ Some x) ⊎ ((n ≡ length c.cells) × IsFlatCell added x)
  adder_cells n x g = elim (get_push c.cells (adder_of a b width) n x g) [
    | inl o ↦ inl o
    | inr h ↦ inr (h.0, subst (λ (y : Adder). IsFlatCell added y) (sym h.1) adder_flat)
  ]

  adder_unread : (m : ℕ) (x : Adder) → slice_get (c.cells ++ adder_of a b width ∷ []) m ≡ Some x → ReadsNet x.a net ⊎ ReadsNet x.b net → ⊥
  adder_unread m x g r = elim (get_push c.cells (adder_of a b width) m x g) [
    | inl o ↦ unread_cell net x (none_at (cell_reads net) c.cells m x early o) r
    | inr h ↦ unread_cell net x (ap (cell_reads net) h.1 ∙ self) r
  ]

  adder_adds : Adds c added adder_drive
  unfolding added adder_drive
  adder_adds = record {
    nets = λ n x g. inl g;
    drives = refl;
    drive = (refl, there, (refl, adder_of a b width, get_last c.cells (adder_of a b width), refl));
    fresh = undriven c.drives net free;
    cells = adder_cells;
    regs = λ n x g. inl g;
    last = λ k p s. cc s;
    unread = λ k p s m x g r. adder_unread m x g r;
    items = bare;
    mems = refl;
    diags = refl;
  }

  flat_added : IsBareFlat (with_adder_on c (adder_of a b width) net width) c.nets
  unfolding added
  flat_added = (flat_more c added adder_drive flat adder_extends adder_adds, bare, refl)

flat_adder_to : (c d : Circuit) (a b y : Piece) → IsFlat c → c.items ≡ [] → IsGoodPiece c a → IsGoodPiece c b → IsGoodPiece c y → with_adder_to c a b y ≡ Some d → IsBareFlat d c.nets
unfolding with_adder_to
flat_adder_to c d a b (piece.Const v) flat bare ga gb gy e = cc e
flat_adder_to c d a b (piece.Part net at width) flat bare ga gb gy e =
    let h = cond_other (is_driven c.drives net || (list_any (cell_reads net) c.cells || cell_reads net (adder_of a b width))) (with_adder_on c (adder_of a b width) net width) d e in
    let p = or_parts (is_driven c.drives net) (list_any (cell_reads net) c.cells || cell_reads net (adder_of a b width)) h.0 in
    let q = or_parts (list_any (cell_reads net) c.cells) (cell_reads net (adder_of a b width)) p.1 in
    subst (λ (x : Circuit). IsBareFlat x c.nets) h.1 (flat_added c flat bare a b net width ga gb gy.0 gy.1.2 p.0 q.0 q.1)

-- ---- a register
find_passes : {X : Type 0} (p q : X → Bool) (xs : List X) (x : X) → find p xs ≡ Some x → list_all (λ y. not (p y) || q y) xs ≡ true → q x ≡ true
find_passes p q [] x e h = cc e
find_passes p q (y ∷ xs) x e h =
    let r = and_parts (not (p y) || q y) (list_all (λ z. not (p z) || q z) xs) h in
    elim (cases_Bool (p y)) [
      | inl on ↦
          (let f : Some y ≡ Some x = sym (cond-true (p y) (Some y) (find p xs) on) ∙ e in
          let g : y ≡ x = cc f in
          ap q (sym g) ∙ (sym (ap (λ (b : Bool). not b || q y) on) ∙ r.0))
      | inr off ↦ find_passes p q xs x (sym (cond-false (p y) (Some y) (find p xs) off) ∙ e) r.1
    ]

digits_width : (width : ℕ) (v : Constant) → is_digits_of width v ≡ true → (digits_or_zeros width v).width ≡ width
digits_width width (constant.Number n) h = refl
digits_width width (constant.Digits v) h = eqb-true v.width width h
digits_width width (constant.Text t) h = refl

start_from_width : (width : ℕ) (attributes : List Attribute) (o : Option Attribute) → find is_init attributes ≡ o → list_all (λ a. not (is_init a) || is_digits_of width a.value) attributes ≡ true → (start_from width o).width ≡ width
start_from_width width attributes None e h = refl
start_from_width width attributes (Some a) e h = digits_width width a.value (find_passes is_init (λ x. is_digits_of width x.value) attributes a e h)

start_width : (w : Wire) → is_wire w ≡ true → (start_of w).width ≡ w.width
unfolding start_of is_wire
start_width w h =
    let p = (and_parts (is_word_width w.width) _ h).1 in
    let q = (and_parts (not (is_input w.port) || has_backslash w.name) _ p).1 in
    let r = (and_parts (leb (count_by is_init w.attributes) 1) _ q).1 in
    start_from_width w.width w.attributes (find is_init w.attributes) refl r

one_number : (m n : ℕ) (v : Constant) → is_number m v ≡ true → is_number n v ≡ true → m ≡ n
one_number m n (constant.Number k) a b = sym (eqb-true k m a) ∙ eqb-true k n b
one_number m n (constant.Digits v) a b = sym (eqb-true v.number m a) ∙ eqb-true v.number n b
one_number m n (constant.Text t) a b = absurd (false≢true a)

one_parameter : (m n : ℕ) (o : Option Parameter) → is_parameter m o ≡ true → is_parameter n o ≡ true → m ≡ n
one_parameter m n None a b = absurd (false≢true a)
one_parameter m n (Some p) a b = one_number m n p.value a b

one_width : (parameters : List Parameter) (name : List ℕ) (m n : ℕ) → has_parameter parameters name m ≡ true → has_parameter parameters name n ≡ true → m ≡ n
unfolding has_parameter
one_width parameters name m n a b = one_parameter m n (find _ parameters) a b

module _ (c : Circuit) (flat : IsFlat c) (bare : c.items ≡ []) (clk d : Piece) (net width : ℕ) (init : BitValue) (good_clk : IsGoodPiece c clk) (one : piece_width clk ≡ 1) (good_d : IsGoodPiece c d) (same : piece_width d ≡ width) (there : HasWidth c net width) (free : is_driven c.drives net ≡ false) (fits : init.width ≡ width) where
  latched : Circuit
  latched = with_register_on c (register_of clk d width init) net width

  register_drive : Drive
  register_drive = whole_drive net width (by.Reg (length c.regs) 0)

  register_extends : Extends c latched
  unfolding latched
  register_extends = record {
    nets = λ n x g. g;
    inputs = λ n h. (h, refl);
    cells = λ n x g. g;
    regs = λ n x g. get_left c.regs (register_of clk d width init ∷ []) n x g;
  }

  one_bit : IsFlatSig latched 1 (clk ∷ [])
  one_bit = subst (λ (w : ℕ). IsFlatSig latched w (clk ∷ [])) one (good_clk.0, piece_up c latched register_extends (piece_width clk) clk good_clk.1)

  d_flat : IsFlatSig latched width (d ∷ [])
  d_flat = subst (λ (w : ℕ). IsFlatSig latched w (d ∷ [])) same (good_d.0, piece_up c latched register_extends (piece_width d) d good_d.1)

  register_flat : IsFlatReg latched (register_of clk d width init)
  register_flat = record {
    kind = refl;
    clk = one_bit;
    d = d_flat;
    width = subst (λ (w : ℕ). IsWordWidth w) same good_d.0;
    rising = refl;
    init = fits;
  }

  register_regs : (n : ℕ) (x : Reg) → slice_get (c.regs ++ register_of clk d width init ∷ []) n ≡ Some x → (slice_get c.regs n ≡ Some x) ⊎ IsFlatReg latched x
  register_regs n x g = elim (get_push c.regs (register_of clk d width init) n x g) [
    | inl o ↦ inl o
    | inr h ↦ inr (subst (λ (y : Reg). IsFlatReg latched y) (sym h.1) register_flat)
  ]

  register_adds : Adds c latched register_drive
  unfolding latched register_drive
  register_adds = record {
    nets = λ n x g. inl g;
    drives = refl;
    drive = (refl, there, (refl, register_of clk d width init, get_last c.regs (register_of clk d width init), refl));
    fresh = undriven c.drives net free;
    cells = λ n x g. inl g;
    regs = register_regs;
    last = λ k p s. cc s;
    unread = λ k p s m x g r. cc s;
    items = bare;
    mems = refl;
    diags = refl;
  }

  flat_latched : IsBareFlat (with_register_on c (register_of clk d width init) net width) c.nets
  unfolding latched
  flat_latched = (flat_more c latched register_drive flat register_extends register_adds, bare, refl)

module _ (wires : List Wire) (valid : list_all is_wire wires ≡ true) where
  start_fits : (c : Circuit) → c.nets ≡ map net_of wires → (net width : ℕ) (o : Option Wire) → slice_get wires net ≡ o → HasWidth c net width → (start_at width o).width ≡ width
  start_fits c nets net width None g h = refl
  start_fits c nets net width (Some w) g h =
      let at : slice_get c.nets net ≡ Some (net_of w) = ap (λ (xs : List Net). slice_get xs net) nets ∙ slice_get-map net_of wires net ∙ ap (option_map net_of) g in
      let f : Some h.0 ≡ Some (net_of w) = sym h.1 ∙ at in
      let n : h.0 ≡ net_of w = cc f in
      start_width w (all_at is_wire wires net w valid g) ∙ sym (ap (λ (x : Net). x.width) n) ∙ h.2

  flat_register_to : (c e : Circuit) (clk d q : Piece) → IsFlat c → c.items ≡ [] → c.nets ≡ map net_of wires → IsGoodPiece c clk → piece_width clk ≡ 1 → IsGoodPiece c d → piece_width d ≡ piece_width q → IsGoodPiece c q → with_register_to wires c clk d q ≡ Some e → IsBareFlat e c.nets
  unfolding with_register_to
  flat_register_to c e clk d (piece.Const v) flat bare nets gc one gd same gq is = cc is
  flat_register_to c e clk d (piece.Part net at width) flat bare nets gc one gd same gq is =
      let h = cond_other (is_driven c.drives net) (with_register_on c (register_of clk d width (start_at width (slice_get wires net))) net width) e is in
      subst (λ (x : Circuit). IsBareFlat x c.nets) h.1 (flat_latched c flat bare clk d net width (start_at width (slice_get wires net)) gc one gd same gq.1.2 h.0 (start_fits c nets net width (slice_get wires net) refl gq.1.2))

  flat_adder : (c d : Circuit) (x : Cell) → IsFlat c → c.items ≡ [] → c.nets ≡ map net_of wires → with_adder wires c x ≡ Some d → IsBareFlat d c.nets
  unfolding with_adder
  flat_adder c d x flat bare nets e =
      let h = cond_part (has_adder_form x) _ d e in
      option_and_then_some _ (joined_with_width wires x (codes "\\A") (codes "\\A_WIDTH")) d h (λ a ja f.
      option_and_then_some _ (joined_with_width wires x (codes "\\B") (codes "\\B_WIDTH")) d f (λ b jb g.
      option_and_then_some _ (joined_with_width wires x (codes "\\Y") (codes "\\Y_WIDTH")) d g (λ y jy k.
      flat_adder_to c d a b y flat bare
      (good_sized wires c nets valid x (codes "\\A") (codes "\\A_WIDTH") a ja).0
      (good_sized wires c nets valid x (codes "\\B") (codes "\\B_WIDTH") b jb).0
      (good_sized wires c nets valid x (codes "\\Y") (codes "\\Y_WIDTH") y jy).0 k)))

  good_clock : (c : Circuit) → c.nets ≡ map net_of wires → (x : Cell) (p : Piece) → option_and_then (of_width 1) (joined wires x.connections (codes "\\CLK")) ≡ Some p → IsGoodPiece c p × (piece_width p ≡ 1)
  good_clock c nets x p e =
      option_and_then_some (of_width 1) (joined wires x.connections (codes "\\CLK")) p e
      (λ q h f.
      let s = cond_some (eqb (piece_width q) 1) q p f in
      (subst (λ (r : Piece). IsGoodPiece c r) s.1 (good_joined wires c nets valid x.connections (codes "\\CLK") q h), ap piece_width (sym s.1) ∙ eqb-true (piece_width q) 1 s.0))

  flat_register : (c d : Circuit) (x : Cell) → IsFlat c → c.items ≡ [] → c.nets ≡ map net_of wires → with_register wires c x ≡ Some d → IsBareFlat d c.nets
  unfolding with_register
  flat_register c e x flat bare nets is =
      let h = cond_part (has_register_form x) _ e is in
      option_and_then_some _ (option_and_then (of_width 1) (joined wires x.connections (codes "\\CLK"))) e h (λ clk jc f.
      option_and_then_some _ (joined_with_width wires x (codes "\\D") (codes "\\WIDTH")) e f (λ d jd g.
      option_and_then_some _ (joined_with_width wires x (codes "\\Q") (codes "\\WIDTH")) e g (λ q jq k.
      (let gc = good_clock c nets x clk jc in
      let gd = good_sized wires c nets valid x (codes "\\D") (codes "\\WIDTH") d jd in
      let gq = good_sized wires c nets valid x (codes "\\Q") (codes "\\WIDTH") q jq in
      flat_register_to c e clk d q flat bare nets gc.0 gc.1 gd.0 (one_width x.parameters (codes "\\WIDTH") (piece_width d) (piece_width q) gd.1 gq.1) gq.0 k))))

  flat_cell : (c d : Circuit) (x : Cell) → IsFlat c → c.items ≡ [] → c.nets ≡ map net_of wires → with_cell wires c x ≡ Some d → IsBareFlat d c.nets
  unfolding with_cell
  flat_cell c d x flat bare nets e = by_adder (same_name x.kind (codes "$add")) e
    where
      by_register : (t : Bool) → cond t (with_register wires c x) None ≡ Some d → IsBareFlat d c.nets
      by_register t is = flat_register c d x flat bare nets (cond_part t (with_register wires c x) d is)

      by_adder : (t : Bool) → cond t (with_adder wires c x) (cond (same_name x.kind (codes "$dff")) (with_register wires c x) None) ≡ Some d → IsBareFlat d c.nets
      by_adder true is = flat_adder c d x flat bare nets is
      by_adder false is = by_register (same_name x.kind (codes "$dff")) is

  flat_cells : (c d : Circuit) (xs : List Cell) → IsFlat c → c.items ≡ [] → c.nets ≡ map net_of wires → with_cells wires c xs ≡ Some d → IsBareFlat d c.nets
  unfolding with_cells
  flat_cells c d [] flat bare nets e = let f : c ≡ d = cc e in subst (λ (x : Circuit). IsBareFlat x c.nets) f (flat, bare, refl)
  flat_cells c d (x ∷ xs) flat bare nets e =
      option_and_then_some (λ k. with_cells wires k xs) (with_cell wires c x) d e
      (λ k h f.
      let g = flat_cell c k x flat bare nets h in
      let r = flat_cells k d xs g.0 g.1 (g.2 ∙ nets) f in
      (r.0, r.1, r.2 ∙ g.2))

-- ---- items
numbered_at : (slot : ℕ) (xs : List Item) (i : ℕ) (x : Item) → slice_get (numbered slot xs) i ≡ Some x → (y : Item) × (slice_get xs i ≡ Some y) × (x ≡ record y { first_slot = i + slot })
unfolding numbered
numbered_at slot [] i x e = cc e
numbered_at slot (y ∷ xs) zero x e = (y, refl, (let f : record y { first_slot = slot } ≡ x = cc e in sym f ∙ (let z : slot ≡ 0 + slot = omega arith in ap (λ (n : ℕ). record y { first_slot = n }) z)))
numbered_at slot (y ∷ xs) (suc i) x e =
    let r = numbered_at (suc slot) xs i x e in
    (r.0, r.1, r.2 ∙ (let z : i + suc slot ≡ suc i + slot = omega arith in ap (λ (n : ℕ). record r.0 { first_slot = n }) z))

abbrev AreNodesOf : Circuit → List Item → Type 0
AreNodesOf c xs = (i : ℕ) (x : Item) → slice_get xs i ≡ Some x → IsNodeOf c x.kind

nodes_cons : (c : Circuit) (x : Item) (xs : List Item) → IsNodeOf c x.kind → AreNodesOf c xs → AreNodesOf c (x ∷ xs)
nodes_cons c x xs n h zero y e = let f : x ≡ y = cc e in subst (λ (z : Item). IsNodeOf c z.kind) f n
nodes_cons c x xs n h (suc i) y e = h i y e

nodes_inserted : (c : Circuit) (x : Item) (xs : List Item) → IsNodeOf c x.kind → AreNodesOf c xs → AreNodesOf c (inserted x xs)
unfolding inserted
nodes_inserted c x [] n h = nodes_cons c x [] n h
nodes_inserted c x (y ∷ ys) n h =
    cond_both (is_before x y) (x ∷ y ∷ ys) (y ∷ inserted x ys) (AreNodesOf c) (λ _. nodes_cons c x (y ∷ ys) n h)
    (λ _. nodes_cons c y (inserted x ys) (h 0 y refl) (nodes_inserted c x ys n (λ j k e. h (suc j) k e)))

nodes_labels : (c : Circuit) (xs : List Item) (net : ℕ) (ws : List Wire) → net + length ws ≤ length c.nets → AreNodesOf c xs → AreNodesOf c (with_labels xs net ws)
unfolding with_labels
nodes_labels c xs net [] le h = h
nodes_labels c xs net (w ∷ ws) le h =
    nodes_labels c (with_label xs net w) (suc net) ws (omega (arith, le))
    (cond_both (has_backslash w.name) (inserted (item_of net w) xs) xs (AreNodesOf c) (λ _. nodes_inserted c (item_of net w) xs (omega (arith, le)) h) (λ _. h))

items_flat : (c : Circuit) (wires : List Wire) → length wires ≤ length c.nets → (i : ℕ) (x : Item) → slice_get (items_of wires) i ≡ Some x → (x.first_slot ≡ i) × IsNodeOf c x.kind
items_flat c wires le i x e =
    let r = numbered_at 0 (with_labels [] 0 wires) i x e in
    let nodes = nodes_labels c [] 0 wires (omega (arith, le)) (λ i x e. cc e) in (
      ap (λ (y : Item). y.first_slot) r.2 ∙ (let z : i + 0 ≡ i = omega arith in z),
      subst (λ (y : Item). IsNodeOf c y.kind) (sym r.2) (nodes i r.0 r.1),
    )

-- ---- the circuit
no_items : (m : Module) → (frame_of m).items ≡ []
unfolding frame_of
no_items m = refl

no_nets : (m : Module) → (frame_of m).nets ++ map net_of m.wires ≡ map net_of m.wires
unfolding frame_of
no_nets m = refl

option_map_some : {X Y : Type 0} (f : X → Y) (o : Option X) (y : Y) → option_map f o ≡ Some y → (x : X) × (o ≡ Some x) × (f x ≡ y)
option_map_some f None y e = cc e
option_map_some f (Some x) y e = (x, refl, cc e)

cond_true : {X : Type 0} (b : Bool) (x : Option X) (y : X) → cond b x None ≡ Some y → b ≡ true
cond_true true x y e = refl
cond_true false x y e = cc e

flat_frame : (m : Module) → IsFlat (frame_of m)
unfolding frame_of
flat_frame m = record {
  nets = λ n x g. cc g;
  drives = λ n x g. cc g;
  once = λ i j d e g h s. cc g;
  cells = λ n x g. cc g;
  regs = λ n x g. cc g;
  mems = refl;
  diags = refl;
  rising = λ i j k l p q d e lt g h s t. cc g;
  order = λ m k p i net x d g r h s t. cc g;
  items = λ n x g. cc g;
}

flat_items : (c : Circuit) (wires : List Wire) → IsFlat c → c.nets ≡ map net_of wires → IsFlat (with_items wires c)
flat_items c wires flat nets =
    flat_kept c (with_items wires c) flat
    (record { nets = λ n x g. g; inputs = λ n h. (h, refl); cells = λ n x g. g; regs = λ n x g. g })
    (record {
      nets = λ n x g. inl g;
      drives = refl;
      cells = refl;
      regs = refl;
      mems = refl;
      diags = refl;
      items = items_flat (with_items wires c) wires (omega (arith, ap length nets, length-map wires net_of));
    })

pub flat_circuit : (m : Module) (c : Circuit) → circuit_of m ≡ Some c → IsFlat c
unfolding circuit_of has_known_form
flat_circuit m c e =
    let p = option_map_some (with_items m.wires) (with_cells m.wires (with_wires (frame_of m) m.wires) m.cells) c (cond_part (has_known_form m) _ c e) in
    let valid = (and_parts _ (list_all is_wire m.wires) (and_parts _ _ (cond_true (has_known_form m) _ c e)).1).1 in
    let nets : (with_wires (frame_of m) m.wires).nets ≡ map net_of m.wires = nets_wires (frame_of m) m.wires ∙ no_nets m in
    let flat = flat_wires (frame_of m) m.wires (flat_frame m) (no_items m) valid in
    let r = flat_cells m.wires valid (with_wires (frame_of m) m.wires) p.0 m.cells flat (bare_wires (frame_of m) m.wires (no_items m)) nets p.1 in
    subst IsFlat p.2 (flat_items p.0 m.wires r.0 (r.2 ∙ nets))
