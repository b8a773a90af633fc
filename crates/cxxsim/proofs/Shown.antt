-- What a sample shows is what its nets hold.
use Rattle.std.proofs.Common.{◌≡◌, ℕ, zero, suc, List, [], ◌∷◌, ◌++◌, ◌-◌, ◌<◌, Option, Some, false, cond, ltb, refl, sym, ◌∙◌, ap, subst, arith, inl, inr, append_assoc}
use Rattle.std.proofs.lemmas.Bool.{cases_Bool, cond-false, ltb-true}
use Rattle.std.specs.Prelude.{slice_get}
use Rattle.std.specs.List.{flat_map}
use Rattle.circuit.specs.Rounds.{Run, Standing, standing_at}
use Rattle.circuit.specs.Shown.{item_number, shown_in, slot_number, slots_of}
use Rattle.circuit.specs.declared.netlist.Circuit.{Circuit}
use Rattle.circuit.specs.declared.item.Item.{Item}
use Rattle.circuit.specs.declared.item.ItemKind.{ItemKind}
use Rattle.circuit.specs.declared.item.ItemKind.TheVariants as item
use Rattle.flat_design.specs.Flat.{IsFlat, IsNodeOf}
use Rattle.sim_base.specs.TimeText.{time_text}
use Rattle.cxxsim.specs.TraceText.{item_value_text, item_width, sample_line, value_text, values_text}

slots_one : (c : Circuit) (k : ItemKind) → IsNodeOf c k → slots_of c.mems k ≡ 1
slots_one c (item.Node net lsb_at input output) h = refl
slots_one c (item.Memory m) h = absurd h

behind_one : (i : ℕ) → ltb (suc i) 1 ≡ false
behind_one i = elim (cases_Bool (ltb (suc i) 1)) [
  | inl on ↦ (let lt : suc i < 1 = ltb-true (suc i) 1 on in absurd (omega (arith, lt)))
  | inr off ↦ off
]

-- the slot of a node's place is that of its net
slot_is : (run : Run) (k : ℕ) (s : Standing) (items : List Item) → ((i : ℕ) (x : Item) → slice_get items i ≡ Some x → IsNodeOf run.circuit x.kind)
    → (i : ℕ) (x : Item) → slice_get items i ≡ Some x → slot_number run k s items i ≡ item_number s x.kind 0
unfolding slot_number
slot_is run k s [] nodes i x e = cc e
slot_is run k s (y ∷ ys) nodes zero x e =
    let same : y ≡ x = cc e in
    ap (λ n. cond (ltb 0 n) (item_number s y.kind 0) (slot_number run k s ys (0 - n))) (slots_one run.circuit y.kind (nodes 0 y refl))
    ∙ ap (λ (z : Item). item_number s z.kind 0) same
slot_is run k s (y ∷ ys) nodes (suc i) x e =
    let place : suc i - 1 ≡ i = omega arith in
    ap (λ n. cond (ltb (suc i) n) (item_number s y.kind (suc i)) (slot_number run k s ys (suc i - n))) (slots_one run.circuit y.kind (nodes 0 y refl))
    ∙ cond-false (ltb (suc i) 1) (item_number s y.kind (suc i)) (slot_number run k s ys (suc i - 1)) (behind_one i)
    ∙ ap (slot_number run k s ys) place
    ∙ slot_is run k s ys (λ j z f. nodes (suc j) z f) i x e

flat_map_same : {X : Type 0} (f g : X → List ℕ) (xs : List X) → ((i : ℕ) (x : X) → slice_get xs i ≡ Some x → f x ≡ g x) → flat_map f xs ≡ flat_map g xs
flat_map_same f g [] h = refl
flat_map_same f g (x ∷ xs) h =
    let here : f x ≡ g x = h zero x refl in
    let rest : flat_map f xs ≡ flat_map g xs = flat_map_same f g xs (λ i y e. h (suc i) y e) in cc (here, rest)

item_shown : (run : Run) (k : ℕ) (s : Standing) → IsFlat run.circuit → standing_at run k ≡ Some s → (i : ℕ) (x : Item) → slice_get run.circuit.items i ≡ Some x → item_value_text run k x ≡ value_text (item_width run.circuit x) (item_number s x.kind 0)
item_shown run k s flat at i x e =
    ap (value_text (item_width run.circuit x))
    (ap (λ (o : Option Standing). shown_in run k o x.first_slot) at ∙ ap (slot_number run k s run.circuit.items) (flat.items i x e).0
    ∙ slot_is run k s run.circuit.items (λ j y f. (flat.items j y f).1) i x e)

-- the line of a sample, from the numbers of the nets
line_here : (run : Run) (k : ℕ) (s : Standing) → IsFlat run.circuit → standing_at run k ≡ Some s → sample_line run k ≡ time_text (run.row k).time ++ values_text run.circuit s ++ 10 ∷ []
line_here run k s flat at =
    ap (λ values. time_text (run.row k).time ++ values ++ 10 ∷ [])
    (flat_map_same (item_value_text run k) (λ i. value_text (item_width run.circuit i) (item_number s i.kind 0)) run.circuit.items (item_shown run k s flat at))

pub line_is : (run : Run) (k : ℕ) (s : Standing) (c : Circuit) (time : ℕ) → IsFlat c → run.circuit ≡ c → (run.row k).time ≡ time → standing_at run k ≡ Some s → sample_line run k ≡ time_text time ++ values_text c s ++ 10 ∷ []
line_is run k s c time flat same at_time at =
    line_here run k s (subst (λ (d : Circuit). IsFlat d) (sym same) flat) at
    ∙ ap (λ (d : Circuit). time_text (run.row k).time ++ values_text d s ++ 10 ∷ []) same
    ∙ ap (λ t. time_text t ++ values_text c s ++ 10 ∷ []) at_time

pub line_behind : (text time values : List ℕ) → ((text ++ time) ++ values) ++ 10 ∷ [] ≡ text ++ (time ++ values ++ 10 ∷ [])
line_behind text time values = simp append_assoc
