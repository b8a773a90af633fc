-- What is shown at the samples of a run. When a diagnostic fires is this project's own choice.
use Rattle.std.specs.Prelude.{ℕ, suc, ◌-◌, ◌==◌, List, [], ◌∷◌, Bool, false, not, ◌&&◌, ◌||◌, nat_lt, Option, Some, None, is_some, slice_get, slice_index, if◌then◌else◌}
use Rattle.std.specs.List.{list_any}
use Rattle.sim_base.specs.declared.kinds.Kinds.{Kinds}
use Rattle.circuit.specs.Signal.{Digits, digits_of_nets, sig_number}
use Rattle.circuit.specs.State.{Stored}
use Rattle.circuit.specs.Next.{is_active_at}
use Rattle.circuit.specs.declared.netlist.Piece.{Piece}
use Rattle.circuit.specs.declared.memory.Mem.{Mem}
use Rattle.circuit.specs.declared.item.Item.{Item}
use Rattle.circuit.specs.declared.item.ItemKind.{ItemKind}
use Rattle.circuit.specs.declared.item.ItemKind.TheVariants as item
use Rattle.circuit.specs.declared.diagnostic.Diag.{Diag}
use Rattle.circuit.specs.declared.diagnostic.DiagKind.{DiagKind}
use Rattle.circuit.specs.declared.diagnostic.DiagKind.TheVariants as diag
use Rattle.circuit.specs.declared.diagnostic.Trigger.{Trigger}
use Rattle.circuit.specs.Rounds.{Run, Standing, standing_at, Round, rounds_at, nets_after}

-- a diagnostic is enabled and does not hold
abbrev pub fails : Diag → List ℕ → Bool
fails d nets = sig_number (digits_of_nets nets) d.en == 1 && sig_number (digits_of_nets nets) d.a == 0

-- some bit, from a place on, has its edge
unfoldable pub some_edge : Digits → Digits → List Piece → ℕ → List Bool → Bool
some_edge before now on i [] = false
some_edge before now on i (rising ∷ rest) = (not (is_active_at rising before on i) && is_active_at rising now on i) || some_edge before now on (suc i) rest

abbrev pub is_triggered : Trigger → Round → Bool
is_triggered t r = some_edge (digits_of_nets r.before) (digits_of_nets r.now) t.on 0 t.rising

-- without a trigger a diagnostic is looked at in the nets in which the rounds end, with one in each round in which it is
-- triggered
abbrev pub fires_by : Option Trigger → Diag → List Round → Bool
fires_by None d rounds = fails d (nets_after [] rounds)
fires_by (Some t) d rounds = list_any (λ r. is_triggered t r && fails d r.now) rounds

abbrev pub fires_at : Run → ℕ → Diag → Bool
fires_at run k d = is_some (standing_at run k) && fires_by d.trigger d (rounds_at run k)

-- a node has one slot, a memory one for each row
abbrev pub rows_of : Option Mem → ℕ
rows_of None = 0
rows_of (Some m) = m.size

abbrev pub slots_of : List Mem → ItemKind → ℕ
slots_of mems (item.Node net lsb_at input output) = 1
slots_of mems (item.Memory m) = rows_of (slice_get mems m)

abbrev pub stored_row : Option Stored → ℕ → ℕ
stored_row None place = 0
stored_row (Some kept) place = slice_index kept.rows place

-- the number in one of an item's slots: of a node that of its net, of a memory that of the row
abbrev pub item_number : Standing → ItemKind → ℕ → ℕ
item_number s (item.Node net lsb_at input output) place = slice_index s.nets net
item_number s (item.Memory m) place = stored_row (slice_get s.state.mems m) place

abbrev pub flag : Bool → ℕ
flag b = if b then 1 else 0

abbrev pub diag_number : Run → ℕ → Option Diag → ℕ
diag_number run k None = 0
diag_number run k (Some d) = flag (fires_at run k d)

-- the number in a slot, of which those of the items come first, and then one for each diagnostic
unfoldable pub slot_number : Run → ℕ → Standing → List Item → ℕ → ℕ
slot_number run k s [] slot = diag_number run k (slice_get run.circuit.diags slot)
slot_number run k s (i ∷ is) slot =
    let slots = slots_of run.circuit.mems i.kind in
    if nat_lt slot slots then item_number s i.kind slot else slot_number run k s is (slot - slots)

abbrev pub shown_in : Run → ℕ → Option Standing → ℕ → ℕ
shown_in run k None slot = 0
shown_in run k (Some s) slot = slot_number run k s run.circuit.items slot

-- what is shown in a slot at sample k
abbrev pub shown : Run → ℕ → ℕ → ℕ
shown run k slot = shown_in run k (standing_at run k) slot

abbrev pub is_among : Kinds → DiagKind → Bool
is_among kinds diag.Assert = kinds.asserts
is_among kinds diag.Assume = kinds.assumes

-- a diagnostic of one of these kinds fires at sample k
abbrev pub hits : Run → ℕ → Kinds → Bool
hits run k kinds = list_any (λ d. is_among kinds d.kind && fires_at run k d) run.circuit.diags
