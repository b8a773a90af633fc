-- The words of an item's slots.
use Rattle.std.proofs.Common.{◌≡◌, ℕ, zero, suc, ◌+◌, ◌*◌, ◌<◌, ◌≤◌, List, [], ◌∷◌, length, map, get_or, sym, ap, ◌∙◌, subst, arith, Bool, Some}
use Rattle.std.specs.Prelude.{ℤ, replicate, slice_get, slice_index}
use Rattle.std.proofs.lemmas.List.Folds.{sum_by-replicate}
use Rattle.std.proofs.lemmas.List.Sums.{sum_by-cons}
use Rattle.std.proofs.lemmas.Option.{get_or_from_slice_get}
use Rattle.sim_base.specs.BitValue.{BitValue, bit_value}
use Rattle.sim_base.specs.Parts.{halves_of, parts}
use Rattle.sim_base.specs.Shape.{words_of_width, words_of_widths}
use Rattle.circuit.specs.Built.{ShowsWhatIsThere}
use Rattle.circuit.specs.Rounds.{Standing}
use Rattle.circuit.specs.Shown.{item_number, stored_row}
use Rattle.circuit.specs.Slots.{item_widths, net_width, row_widths}
use Rattle.circuit.specs.declared.netlist.Circuit.{Circuit}
use Rattle.circuit.specs.declared.netlist.Net.{Net}
use Rattle.circuit.specs.declared.memory.Mem.{Mem}
use Rattle.circuit.specs.declared.item.ItemKind.{ItemKind}
use Rattle.circuit.specs.declared.item.ItemKind.TheVariants as item
use Rattle.sim_base.proofs.Parts.{length-parts}
use Rattle.spool_format.specs.Reading.{written_at}
use Rattle.spool_format.proofs.Placed.{written_length}
use Rattle.run_core.specs.Words.{kind_words, words_of_slots}
use Rattle.run_core.proofs.Writing.{slots_one}

-- an element of a list that is mapped to what another one is
pub mapped_at : {X Y Z : Type 0} (f : X → Z) (g : Y → Z) (xs : List X) (ys : List Y) (n : ℕ) (d : X) (y : Y) → map f xs ≡ map g ys → slice_get ys n ≡ Some y → f (get_or xs n d) ≡ g y
mapped_at f g [] [] n d y e at = cc at
mapped_at f g [] (z ∷ ys) n d y e at = cc e
mapped_at f g (x ∷ xs) [] n d y e at = cc at
mapped_at f g (x ∷ xs) (z ∷ ys) zero d y e at = let h : f x ≡ g z = cc e in let i : z ≡ y = cc at in h ∙ ap g i
mapped_at f g (x ∷ xs) (z ∷ ys) (suc n) d y e at = mapped_at f g xs ys n d y (let t : map f xs ≡ map g ys = cc e in t) at

-- it is there
pub mapped_there : {X Y Z : Type 0} (f : X → Z) (g : Y → Z) (xs : List X) (ys : List Y) (n : ℕ) (y : Y) → map f xs ≡ map g ys → slice_get ys n ≡ Some y → n < length xs
mapped_there f g [] [] n y e at = cc at
mapped_there f g [] (z ∷ ys) n y e at = cc e
mapped_there f g (x ∷ xs) [] n y e at = cc at
mapped_there f g (x ∷ xs) (z ∷ ys) zero y e at = omega arith
mapped_there f g (x ∷ xs) (z ∷ ys) (suc n) y e at = (let lt = mapped_there f g xs ys n y (let t : map f xs ≡ map g ys = cc e in t) at in omega (arith, lt))

pub memory_read : (xs ys : List Mem) (n : ℕ) (d x : Mem) → ys ≡ xs → slice_get xs n ≡ Some x → get_or ys n d ≡ x
memory_read xs ys n d x same at = get_or_from_slice_get ys n x d (ap (λ (zs : List Mem). slice_get zs n) same ∙ at)

module _ (c : Circuit) (kind : ItemKind) where
  -- ---- a memory

  pub memory_there : (n : ℕ) → ShowsWhatIsThere c kind → kind ≡ item.Memory n → (x : Mem) × (slice_get c.mems n ≡ Some x)
  memory_there n there is = subst (λ (k : ItemKind). ShowsWhatIsThere c k) is there

  pub memory_room : (n : ℕ) (x : Mem) → kind ≡ item.Memory n → slice_get c.mems n ≡ Some x → words_of_widths (item_widths c.nets c.mems kind) ≡ x.size * words_of_width x.width
  memory_room n x is at =
      ap (λ (k : ItemKind). words_of_widths (item_widths c.nets c.mems k)) is ∙ ap (λ m. words_of_widths (row_widths m)) at ∙ sum_by-replicate words_of_width x.size x.width

  pub memory_words : (n : ℕ) (x : Mem) (s : Standing) (size width : ℕ) → kind ≡ item.Memory n → slice_get c.mems n ≡ Some x → size ≡ x.size → width ≡ x.width
      → words_of_slots (replicate size width) (λ row. stored_row (slice_get s.state.mems n) row) ≡ kind_words c s kind
  memory_words n x s size width is at sized wide =
      ap (λ k. words_of_slots (replicate k width) (λ row. stored_row (slice_get s.state.mems n) row)) sized
      ∙ ap (λ w. words_of_slots (replicate x.size w) (λ row. stored_row (slice_get s.state.mems n) row)) wide
      ∙ ap (λ m. words_of_slots (row_widths m) (λ row. stored_row (slice_get s.state.mems n) row)) (sym at)
      ∙ ap (kind_words c s) (sym is)

  -- ---- a node

  module _ (net : ℕ) (lsb_at : ℤ) (input output : Bool) (is : kind ≡ item.Node net lsb_at input output) where
    pub node_there : ShowsWhatIsThere c kind → (x : Net) × (slice_get c.nets net ≡ Some x)
    node_there there = subst (λ (k : ItemKind). ShowsWhatIsThere c k) is there

    module _ (x : Net) (at : slice_get c.nets net ≡ Some x) where
      pub node_room : words_of_widths (item_widths c.nets c.mems kind) ≡ words_of_width x.width
      node_room = ap (λ (k : ItemKind). words_of_widths (item_widths c.nets c.mems k)) is ∙ ap (λ o. words_of_widths (net_width o ∷ [])) at ∙ one
        where
          one : words_of_widths (x.width ∷ []) ≡ words_of_width x.width
          one = omega (arith, sum_by-cons words_of_width x.width [])

      pub node_words : (s : Standing) (v : BitValue) → v.width ≡ x.width → v.number ≡ slice_index s.nets net → halves_of v ≡ kind_words c s kind
      node_words s v wide number =
          ap (λ w. parts 32 (words_of_width w) v.number) wide
          ∙ ap (parts 32 (words_of_width x.width)) number
          ∙ ap (λ o. halves_of (bit_value (net_width o) (slice_index s.nets net))) (sym at)
          ∙ sym (slots_one (net_width (slice_get c.nets net)) (item_number s (item.Node net lsb_at input output)))
          ∙ ap (kind_words c s) (sym is)

      pub node_fits : (words : List ℕ) (place : ℕ) (v : BitValue) → v.width ≡ x.width → place + words_of_widths (item_widths c.nets c.mems kind) ≤ length words → place + words_of_width v.width ≤ length words
      node_fits words place v wide fits = omega (arith, fits, node_room, ap words_of_width wide)

      pub node_long : (words : List ℕ) (place : ℕ) (v : BitValue) → v.width ≡ x.width → place + words_of_widths (item_widths c.nets c.mems kind) ≤ length words → length (written_at words place (halves_of v)) ≡ length words
      node_long words place v wide fits =
          let room = node_fits words place v wide fits in
          written_length words (halves_of v) place (omega (arith, room, length-parts 32 (words_of_width v.width) v.number))
