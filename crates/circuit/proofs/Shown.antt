-- What a slot shows has the slot's width.
use Rattle.std.proofs.Common.{◌≡◌, ℕ, zero, suc, ◌-◌, ◌^◌, ◌<◌, ltb, List, [], ◌∷◌, ◌++◌, length, map, refl, sym, ◌∙◌, ap, subst, arith, inl, inr, Option, Some, None}
use Rattle.std.specs.Prelude.{slice_get, slice_index}
use Rattle.std.specs.List.{flat_map}
use Rattle.std.proofs.lemmas.Nat.{pow_pos}
use Rattle.std.proofs.lemmas.Bool.{cases_Bool, cond-true, cond-false, ltb-true, ltb-false}
use Rattle.std.proofs.lemmas.List.{append_assoc, length-replicate, get_or_append_left, get_or-append_right, get_or-replicate}
use Rattle.std.proofs.lemmas.List.Concat.{flat_map-cons}
use Rattle.std.proofs.lemmas.Option.{option_and_then_some}
use Rattle.circuit.specs.Signal.{Digits}
use Rattle.circuit.specs.State.{Stored}
use Rattle.circuit.specs.Valuation.{valuation, numbers_from, digit_at, bits_of}
use Rattle.circuit.specs.Rounds.{Run, Standing, settled, standing_after, standing_at}
use Rattle.circuit.specs.Shown.{diag_number, fires_at, item_number, stored_row, shown, shown_in, slot_number, slots_of}
use Rattle.circuit.specs.Slots.{item_widths, net_width, row_widths, slot_widths}
use Rattle.circuit.specs.Below.{AreRowsBelow}
use Rattle.circuit.specs.declared.netlist.Net.{Net}
use Rattle.circuit.specs.declared.memory.Mem.{Mem}
use Rattle.circuit.specs.declared.diagnostic.Diag.{Diag}
use Rattle.circuit.specs.declared.item.Item.{Item}
use Rattle.circuit.specs.declared.item.ItemKind.{ItemKind}
use Rattle.circuit.specs.declared.item.ItemKind.TheVariants as item
use Rattle.circuit.proofs.Gathered.{gathered_below}
use Rattle.circuit.proofs.Widths.{digit_small}
use Rattle.circuit.proofs.Slots.{item_count}
use Rattle.circuit.proofs.Still.{cond_below, settles}
use Rattle.circuit.proofs.Below.{rows_below}

-- the number of each net, and 0 behind the last
nets_below : (digits : Digits) → ((net bit : ℕ) → digits net bit < 2) → (n : ℕ) (xs : List Net) (k : ℕ) → slice_index (numbers_from digits n xs) k < 2 ^ net_width (slice_get xs k)
unfolding numbers_from
nets_below digits small n [] k = omega arith
nets_below digits small n (x ∷ xs) zero = gathered_below x.width (digits n) (small n)
nets_below digits small n (x ∷ xs) (suc k) = nets_below digits small (suc n) xs k

module _ (run : Run) (k : ℕ) (s : Standing) (nets : (n : ℕ) → slice_index s.nets n < 2 ^ net_width (slice_get run.circuit.nets n)) (rows : AreRowsBelow run.circuit s.state) where
  diags_below : (ds : List Diag) (slot : ℕ) → diag_number run k (slice_get ds slot) < 2 ^ slice_index (map {B = ℕ} (λ _. 1) ds) slot
  diags_below [] slot = omega arith
  diags_below (d ∷ ds) zero = cond_below 2 (fires_at run k d) 1 0 (omega arith) (omega arith)
  diags_below (d ∷ ds) (suc slot) = diags_below ds slot

  rows_at : (n row : ℕ) (m : Option Mem) (kept : Option Stored) → slice_get run.circuit.mems n ≡ m → slice_get s.state.mems n ≡ kept → row < length (row_widths m) → stored_row kept row < 2 ^ slice_index (row_widths m) row
  rows_at n row None kept is stored within = absurd (omega (arith, within))
  rows_at n row (Some m) None is stored within = pow_pos (slice_index (row_widths (Some m)) row)
  rows_at n row (Some m) (Some kept) is stored within =
      subst (λ w. slice_index kept.rows row < 2 ^ w) (sym (get_or-replicate m.size row m.width 0 (subst (λ v. row < v) (length-replicate m.size m.width) within))) (rows n row m kept is stored)

  item_below : (kind : ItemKind) (slot : ℕ) → slot < length (item_widths run.circuit.nets run.circuit.mems kind) → item_number s kind slot < 2 ^ slice_index (item_widths run.circuit.nets run.circuit.mems kind) slot
  item_below (item.Node net lsb_at input output) zero within = nets net
  item_below (item.Node net lsb_at input output) (suc slot) within = absurd (omega (arith, within))
  item_below (item.Memory n) slot within = rows_at n slot (slice_get run.circuit.mems n) (slice_get s.state.mems n) refl refl within

  abbrev widths_from : List Item → List ℕ
  widths_from xs = flat_map (λ (x : Item). item_widths run.circuit.nets run.circuit.mems x.kind) xs ++ map (λ _. 1) run.circuit.diags

  slots_below : (xs : List Item) (slot : ℕ) → slot_number run k s xs slot < 2 ^ slice_index (widths_from xs) slot
  unfolding slot_number
  slots_below [] slot = diags_below run.circuit.diags slot
  slots_below (x ∷ xs) slot =
      let first = item_widths run.circuit.nets run.circuit.mems x.kind in
      let joined : widths_from (x ∷ xs) ≡ first ++ widths_from xs =
      ap (λ (ws : List ℕ). ws ++ map (λ _. 1) run.circuit.diags) (flat_map-cons (λ (y : Item). item_widths run.circuit.nets run.circuit.mems y.kind) x xs)
      ∙ append_assoc first (flat_map (λ (y : Item). item_widths run.circuit.nets run.circuit.mems y.kind) xs) (map (λ _. 1) run.circuit.diags) in
      subst (λ (ws : List ℕ). slot_number run k s (x ∷ xs) slot < 2 ^ slice_index ws slot) (sym joined) (elim (cases_Bool (ltb slot (slots_of run.circuit.mems x.kind))) [
        | inl here ↦
            (let within : slot < length first = subst (λ n. slot < n) (sym (item_count run.circuit.nets run.circuit.mems x.kind)) (ltb-true slot (slots_of run.circuit.mems x.kind) here) in
            subst (λ n. n < 2 ^ slice_index (first ++ widths_from xs) slot) (sym (cond-true (ltb slot (slots_of run.circuit.mems x.kind)) _ _ here))
            (subst (λ w. item_number s x.kind slot < 2 ^ w) (sym (get_or_append_left first (widths_from xs) 0 slot within)) (item_below x.kind slot within)))
        | inr behind ↦
            (subst (λ n. n < 2 ^ slice_index (first ++ widths_from xs) slot) (sym (cond-false (ltb slot (slots_of run.circuit.mems x.kind)) _ _ behind))
            (subst (λ w. slot_number run k s xs (slot - slots_of run.circuit.mems x.kind) < 2 ^ w)
            (sym (get_or-append_right first (widths_from xs) (slots_of run.circuit.mems x.kind) slot 0 (item_count run.circuit.nets run.circuit.mems x.kind) (ltb-false slot (slots_of run.circuit.mems x.kind) behind)))
            (slots_below xs (slot - slots_of run.circuit.mems x.kind))))
      ])

nets_at : (run : Run) (k : ℕ) (s : Standing) → standing_at run k ≡ Some s → s.nets ≡ valuation run.circuit s.state (run.row k).inputs
unfolding standing_after
nets_at run k s is =
    option_and_then_some (λ t. settled run.circuit t (run.row k).inputs) (standing_after run k) s is
    (λ t before here. (settles 256 run.circuit t.state t.nets (run.row k).inputs s here).nets)

pub shown_below : (run : Run) (k slot : ℕ) → shown run k slot < 2 ^ slice_index (slot_widths run.circuit) slot
shown_below run k slot = by (standing_at run k) refl
  where
    by : (o : Option Standing) → standing_at run k ≡ o → shown_in run k o slot < 2 ^ slice_index (slot_widths run.circuit) slot
    by None is = pow_pos (slice_index (slot_widths run.circuit) slot)
    by (Some s) is =
        slots_below run k s
        (λ n. subst (λ (ns : List ℕ). slice_index ns n < 2 ^ net_width (slice_get run.circuit.nets n)) (sym (nets_at run k s is))
        (nets_below (digit_at run.circuit s.state (run.row k).inputs) (digit_small run.circuit s.state (run.row k).inputs (suc (bits_of run.circuit))) 0 run.circuit.nets n))
        (rows_below run (suc k) s is) run.circuit.items slot
