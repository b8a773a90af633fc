-- The inputs of the top are shown once.
use Rattle.std.proofs.Common.{◌≡◌, ℕ, ◌+◌, ◌≤◌, ◌<◌, ◌==◌, ◌&&◌, not, cond, List, [], ◌∷◌, ◌++◌, length, length-append, append-nil, append_assoc, Bool, true, false, Option, Some, None, Ok, refl, sym, ap, ◌∙◌, subst, arith, inl, inr, bytes_eq}
use Rattle.std.specs.Prelude.{nat_lt}
use Rattle.std.specs.List.{list_all}
use Rattle.std.specs.Option.{is_some}
use Rattle.std.proofs.lemmas.Bool.{and_from, and_parts, eq-eqb, lt-ltb, ltb-true}
use Rattle.std.proofs.lemmas.Bool.Decides.{eqb_tells}
use Rattle.std.proofs.lemmas.List.Sums.{sum_by-cons}
use Rattle.std.proofs.lemmas.Slice.Eq.{bytes_eq-Decides}
use Rattle.sim_base.specs.BitValue.{zeros}
use Rattle.circuit.specs.Valid.{inputs_fit, is_node_of, is_shown_once, numbers_differ}
use Rattle.circuit.specs.declared.item.Item.{Item}
use Rattle.circuit.specs.declared.netlist.By.TheVariants as by
use Rattle.circuit.proofs.Grown.{all_mono}
use Rattle.rtlil_signals.specs.Signals.{Scope, net_named}
use Rattle.rtlil_signals.specs.declared.scope.NamedNet.{NamedNet}
use Rattle.rtlil_tree.specs.declared.module.Module.{Module}
use Rattle.rtlil_tree.specs.declared.module.Statement.{Statement}
use Rattle.rtlil_tree.specs.declared.module.Statement.TheVariants as statement
use Rattle.rtlil_tree.specs.declared.module.Wire.{Wire}
use Rattle.design_parts.specs.Parts.{Made, both_made, give, none_made, nothing, run}
use Rattle.design_parts.proofs.Runs.{nothing_ok}
use Rattle.design_wires.specs.Places.{InstancePlace, ShownPlace}
use Rattle.design_wires.specs.Wires.{is_public, named, named_net, node_item, scope_of, wire, wire_checks, wire_in, wire_items, wire_made, wire_net, wires}
use Rattle.design_top.specs.Inputs.{input_in, input_made, inputs, net_input, whole_driven}
use Rattle.design_walk.specs.Instances.{scope_of_instance, top_entered, top_place}
use Rattle.design_walk.specs.Walks.{top_wires}
use Rattle.design_valid.proofs.Keeping.{holds_at, keeps_nothing, run_given, run_guarded, run_parts}
use Rattle.design_valid.proofs.Lists.{all_both}
use Rattle.design_valid_inputs.proofs.Counts.{InputsFit, differ_more, each_stays, inputs_stay, shows, shows_both}
use Rattle.design_valid_inputs.proofs.Staying.{one_if, other_net}

-- ---- names

unnamed : (o : Option NamedNet) → not (is_some o) ≡ true → o ≡ None
unnamed None h = refl
unnamed (Some n) h = cc h

behind_others : (earlier rest : Scope) (name : List ℕ) → net_named earlier name ≡ None → net_named (earlier ++ rest) name ≡ net_named rest name
behind_others [] rest name h = refl
behind_others (x ∷ xs) rest name h = by (bytes_eq name x.0) h (behind_others xs rest name)
  where
    by : (b : Bool) → cond b (Some x.1) (net_named xs name) ≡ None → (net_named xs name ≡ None → net_named (xs ++ rest) name ≡ net_named rest name) → cond b (Some x.1) (net_named (xs ++ rest) name) ≡ net_named rest name
    by true g next = cc g
    by false g next = next g

found_first : (name : List ℕ) (n : NamedNet) (rest : Scope) → net_named ((name, n) ∷ rest) name ≡ Some n
found_first name n rest = ap (λ b. cond b (Some n) (net_named rest name)) ((bytes_eq-Decides name name).1 refl)

-- ---- what the wires leave

-- no item shows a net that is not there
abbrev Fresh : Made → Type 0
Fresh m = (net : ℕ) → length m.nets ≤ net → shows net m.items ≡ 0

-- the net of a wire is there, and is shown once where the wire is public
record IsListed (whole : Scope) (m : Made) (k : ℕ) (w : Wire) : Type 0 where
  pub there : k < length m.nets
  pub once : is_public w.name ≡ true → shows k m.items ≡ 1
  pub found : net_named whole w.name ≡ Some (named_net k w)

abbrev ListedAt : Scope → Made → ℕ → Statement → Type 0
ListedAt whole m k (statement.Wire w) = IsListed whole m k w
ListedAt whole m k _ = Unit {0}

abbrev Listed : Scope → Made → ℕ → List Statement → Type 0
Listed whole m k [] = Unit {0}
Listed whole m k (s ∷ ss) = ListedAt whole m k s × Listed whole m (k + length (named k s)) ss

-- more nets, and those that were there are shown as before
record Later (m n : Made) : Type 0 where
  pub nets : length m.nets ≤ length n.nets
  pub same : (net : ℕ) → net < length m.nets → shows net n.items ≡ shows net m.items

later_same : (m : Made) → Later m m
later_same m = record { nets = omega arith; same = λ net lt. refl }

later_both : (a b c : Made) → Later a b → Later b c → Later a c
later_both a b c f g = record { nets = omega (arith, f.nets, g.nets); same = λ net lt. g.same net (omega (arith, lt, f.nets)) ∙ f.same net lt }

listed_later : (whole : Scope) (m n : Made) (k : ℕ) (s : Statement) → Later m n → ListedAt whole m k s → ListedAt whole n k s
listed_later whole m n k (statement.Wire w) l h = record { there = omega (arith, h.there, l.nets); once = λ p. l.same k h.there ∙ h.once p; found = h.found }
listed_later whole m n k (statement.Parameter _) l h = tt
listed_later whole m n k (statement.Memory _) l h = tt
listed_later whole m n k (statement.Cell _) l h = tt
listed_later whole m n k (statement.Connect _) l h = tt
listed_later whole m n k (statement.Process _) l h = tt

-- one statement
record Steps (whole rest : Scope) (s : Statement) (m n : Made) : Type 0 where
  pub count : length n.nets ≡ length m.nets + length (named (length m.nets) s)
  pub later : Later m n
  pub fresh : Fresh n
  pub listed : ListedAt whole n (length m.nets) s

module _ (here : InstancePlace) (place : ShownPlace) (shown : here.shown ≡ Some place) where
  abbrev node : ℕ → Wire → List Item
  node k w = wire_items (Some place) k w

  -- a public wire's item shows its net once
  own_net : (k : ℕ) (w : Wire) → is_public w.name ≡ true → shows k (node k w) ≡ 1
  own_net k w p =
      let sum = sum_by-cons (λ (i : Item). cond (is_node_of k i.kind) 1 0) (node_item place k w) [] in
      let self : one_if (k == k) ≡ 1 = ap one_if (eq-eqb k k refl) in
      let one : shows k (node_item place k w ∷ []) ≡ 1 = omega (arith, sum, self) in
      ap (λ b. shows k (cond b (node_item place k w ∷ []) [])) p ∙ one

  above_net : (k net : ℕ) (w : Wire) → k < net → shows net (node k w) ≡ 0
  above_net k net w lt = elim (is_public w.name) as (λ b. shows net (cond b (node_item place k w ∷ []) []) ≡ 0) [
    | true ↦
        (let other : (k == net) ≡ false = elim (eqb_tells k net) [ inl t ↦ absurd (let same : k ≡ net = t.1 in omega (arith, lt, same)) | inr f ↦ f.0 ] in
        let sum = sum_by-cons (λ (i : Item). cond (is_node_of net i.kind) 1 0) (node_item place k w) [] in
        let none : one_if (k == net) ≡ 0 = ap one_if other in
        omega (arith, sum, none))
    | false ↦ refl
  ]

  wire_steps : (earlier rest whole : Scope) (w : Wire) (m n : Made) → Fresh m → whole ≡ earlier ++ (named (length m.nets) (statement.Wire w) ++ rest) → run (wire here earlier w) m ≡ Ok n → Steps whole rest (statement.Wire w) m n
  unfolding wire wire_checks
  wire_steps earlier rest whole w m n fresh is e =
      let k : ℕ = length m.nets in
      let parts = run_guarded (wire_checks here earlier w) (give (wire_made here w)) m n e in
      let free = holds_at (wire_checks here earlier w m) 0 _ parts.0 refl in
      let made = run_given (wire_made here w) m n parts.1 in
      let count : length n.nets ≡ k + 1 = ap (λ (x : Made). length x.nets) made ∙ length-append m.nets (wire_net here w ∷ []) in
      let items : (net : ℕ) → shows net n.items ≡ shows net m.items + shows net (node k w) = λ net. ap (λ (x : Made). shows net x.items) made ∙ shows_both net m.items (wire_items here.shown k w) ∙ ap (λ (o : Option ShownPlace). shows net m.items + shows net (wire_items o k w)) shown in
      let none = fresh k (omega arith) in
      record {
        count = count;
        later = record { nets = omega (arith, count); same = λ net lt. (let old = items net in let no = other_net (Some place) k net w lt in omega (arith, old, no)) };
        fresh = λ net le. (let old = items net in let no = above_net k net w (omega (arith, count, le)) in let was = fresh net (omega (arith, count, le)) in omega (arith, old, no, was));
        listed = record {
          there = omega (arith, count);
          once = λ p. (let old = items k in let one = own_net k w p in omega (arith, old, one, none));
          found = ap (λ (x : Scope). net_named x w.name) is ∙ behind_others earlier ((w.name, named_net k w) ∷ rest) w.name (unnamed (net_named earlier w.name) free) ∙ found_first w.name (named_net k w) rest;
        };
      }

  no_steps : (m n : Made) → Fresh m → run nothing m ≡ Ok n → (length n.nets ≡ length m.nets + 0) × Later m n × Fresh n
  no_steps m n fresh e =
      let okay : Ok n ≡ Ok m = sym e ∙ nothing_ok m in
      let same : n ≡ m = cc okay in
      (omega (arith, ap (λ (x : Made). length x.nets) same), subst (Later m) (sym same) (later_same m), subst Fresh (sym same) fresh)

  one_steps : (earlier rest whole : Scope) (s : Statement) (m n : Made) → Fresh m → whole ≡ earlier ++ (named (length m.nets) s ++ rest) → run (wire_in here earlier s) m ≡ Ok n → Steps whole rest s m n
  unfolding wire_in
  one_steps earlier rest whole (statement.Wire w) m n fresh is e = wire_steps earlier rest whole w m n fresh is e
  one_steps earlier rest whole (statement.Parameter _) m n fresh is e = let no = no_steps m n fresh e in record { count = no.0; later = no.1; fresh = no.2; listed = tt }
  one_steps earlier rest whole (statement.Memory _) m n fresh is e = let no = no_steps m n fresh e in record { count = no.0; later = no.1; fresh = no.2; listed = tt }
  one_steps earlier rest whole (statement.Cell _) m n fresh is e = let no = no_steps m n fresh e in record { count = no.0; later = no.1; fresh = no.2; listed = tt }
  one_steps earlier rest whole (statement.Connect _) m n fresh is e = let no = no_steps m n fresh e in record { count = no.0; later = no.1; fresh = no.2; listed = tt }
  one_steps earlier rest whole (statement.Process _) m n fresh is e = let no = no_steps m n fresh e in record { count = no.0; later = no.1; fresh = no.2; listed = tt }

  all_listed : (earlier whole : Scope) (ss : List Statement) (m n : Made) → Fresh m → whole ≡ earlier ++ scope_of (length m.nets) ss → run (wires here earlier ss) m ≡ Ok n → Later m n × Listed whole n (length m.nets) ss
  unfolding wires run
  all_listed earlier whole [] m n fresh is e = let no = no_steps m n fresh e in (no.1, tt)
  all_listed earlier whole (s ∷ ss) m n fresh is e =
      let k : ℕ = length m.nets in
      let next : Scope = earlier ++ named k s in
      let parts = run_parts (wire_in here earlier s) (wires here next ss) m n e in
      let one = one_steps earlier (scope_of (k + length (named k s)) ss) whole s m parts.0 fresh is parts.1 in
      let counted = one.count in
      let into : whole ≡ next ++ scope_of (length parts.0.nets) ss = is ∙ sym (append_assoc earlier (named k s) (scope_of (k + length (named k s)) ss)) ∙ sym (ap (λ (j : ℕ). next ++ scope_of j ss) counted) in
      let more = all_listed next whole ss parts.0 n one.fresh into parts.2 in
      (later_both m parts.0 n one.later more.0, (listed_later whole parts.0 n k s more.0 one.listed, subst (λ (j : ℕ). Listed whole n j ss) counted more.1))

-- ---- the inputs behind them

-- wires are no inputs
no_input : (here : InstancePlace) (earlier : Scope) (s : Statement) (m n : Made) → run (wire_in here earlier s) m ≡ Ok n → n.inputs ≡ m.inputs
unfolding wire_in wire
no_input here earlier (statement.Wire w) m n e = ap (λ (x : Made). x.inputs) (run_given (wire_made here w) m n (run_guarded (wire_checks here earlier w) (give (wire_made here w)) m n e).1) ∙ append-nil m.inputs
no_input here earlier (statement.Parameter _) m n e = keeps_nothing (λ x. x.inputs ≡ m.inputs) m n e refl
no_input here earlier (statement.Memory _) m n e = keeps_nothing (λ x. x.inputs ≡ m.inputs) m n e refl
no_input here earlier (statement.Cell _) m n e = keeps_nothing (λ x. x.inputs ≡ m.inputs) m n e refl
no_input here earlier (statement.Connect _) m n e = keeps_nothing (λ x. x.inputs ≡ m.inputs) m n e refl
no_input here earlier (statement.Process _) m n e = keeps_nothing (λ x. x.inputs ≡ m.inputs) m n e refl

no_inputs : (here : InstancePlace) (earlier : Scope) (ss : List Statement) (m n : Made) → run (wires here earlier ss) m ≡ Ok n → n.inputs ≡ m.inputs
unfolding wires run
no_inputs here earlier [] m n e = keeps_nothing (λ x. x.inputs ≡ m.inputs) m n e refl
no_inputs here earlier (s ∷ ss) m n e =
    let next : Scope = earlier ++ named (length m.nets) s in
    let parts = run_parts (wire_in here earlier s) (wires here next ss) m n e in
    no_inputs here next ss parts.0 n parts.2 ∙ no_input here earlier s m parts.0 parts.1

-- the inputs so far are below a number, and nothing else changed
record Given (last : Made) (k : ℕ) (m : Made) : Type 0 where
  pub nets : length m.nets ≡ length last.nets
  pub items : (net : ℕ) → shows net m.items ≡ shows net last.items
  pub fit : InputsFit m
  pub below : list_all (λ x. nat_lt x k) m.inputs ≡ true

given_more : (last m : Made) (k more : ℕ) → Given last k m → Given last (k + more) m
given_more last m k more h = record {
  nets = h.nets;
  items = h.items;
  fit = h.fit;
  below = all_mono (λ x. nat_lt x k) (λ x. nat_lt x (k + more)) m.inputs (λ x b. (let lt : x < k = ltb-true x k b in lt-ltb x (k + more) (omega (arith, lt)))) h.below;
}

module _ (whole : Scope) (last : Made) (k : ℕ) (w : Wire) (listed : IsListed whole last k w) (m : Made) (h : Given last k m) where
  input_given : is_public w.name ≡ true → Given last (k + 1) (both_made m (record none_made { drives = whole_driven (named_net k w) (by.Input (length m.inputs) 0); inputs = k ∷ [] }))
  input_given p =
      let made : Made = record none_made { drives = whole_driven (named_net k w) (by.Input (length m.inputs) 0); inputs = k ∷ [] } in
      let all : Made = both_made m made in
      let nets = length-append m.nets made.nets in
      let items : (net : ℕ) → shows net all.items ≡ shows net m.items = λ net. (let both = shows_both net m.items made.items in omega (arith, both)) in
      let wider = given_more last m k 1 h in
      let known = h.nets in
      let shown = items k ∙ h.items k ∙ listed.once p in
      let test : ℕ → Bool = λ net. nat_lt net (length all.nets) && is_shown_once all.items net in
      let was : Bool = list_all (λ net. nat_lt net (length m.nets) && is_shown_once m.items net) m.inputs in
      let parts = and_parts was (numbers_differ m.inputs) h.fit in
      let own : test k ≡ true = and_from (nat_lt k (length all.nets)) (is_shown_once all.items k) (lt-ltb k (length all.nets) (omega (arith, nets, known, listed.there))) (eq-eqb (shows k all.items) 1 shown) in
      let self : nat_lt k (k + 1) ≡ true = lt-ltb k (k + 1) (omega arith) in
      record {
        nets = omega (arith, nets, known);
        items = λ net. items net ∙ h.items net;
        fit = and_from (list_all test (m.inputs ++ k ∷ [])) (numbers_differ (m.inputs ++ k ∷ []))
            (all_both test m.inputs (k ∷ []) (each_stays m made (λ net lt. refl) m.inputs parts.0) (and_from (test k) true own refl)) (differ_more m.inputs k h.below parts.1);
        below = all_both (λ x. nat_lt x (k + 1)) m.inputs (k ∷ []) wider.below (and_from (nat_lt k (k + 1)) true self refl);
      }

  private_given : Given last (k + 1) (both_made m (record none_made { drives = whole_driven (named_net k w) (by.Const (zeros (named_net k w).width)) }))
  private_given =
      let made : Made = record none_made { drives = whole_driven (named_net k w) (by.Const (zeros (named_net k w).width)) } in
      let all : Made = both_made m made in
      let wider = given_more last m k 1 h in
      let same : m.inputs ++ [] ≡ m.inputs = append-nil m.inputs in
      record {
        nets = omega (arith, length-append m.nets made.nets, h.nets);
        items = λ net. (let both = shows_both net m.items made.items in let old = h.items net in omega (arith, both, old));
        fit = inputs_stay m made (λ net lt. refl) refl h.fit;
        below = ap (list_all (λ x. nat_lt x (k + 1))) same ∙ wider.below;
      }

  either_given : Given last (k + 1) (both_made m (input_made (named_net k w) w m))
  either_given = it (is_public w.name) refl
    where
      it : (b : Bool) → is_public w.name ≡ b
          → Given last (k + 1) (both_made m (cond b (record none_made { drives = whole_driven (named_net k w) (by.Input (length m.inputs) 0); inputs = k ∷ [] }) (record none_made { drives = whole_driven (named_net k w) (by.Const (zeros (named_net k w).width)) })))
      it true p = input_given p
      it false p = private_given

  wire_given : (n : Made) → run (net_input (Some (named_net k w)) w) m ≡ Ok n → Given last (k + 1) n
  wire_given n ran = by (is_some w.options.input) ran
    where
      by : (b : Bool) → run (cond b (give (input_made (named_net k w) w)) nothing) m ≡ Ok n → Given last (k + 1) n
      by true e = subst (Given last (k + 1)) (sym (run_given (input_made (named_net k w) w) m n e)) either_given
      by false e = keeps_nothing (Given last (k + 1)) m n e (given_more last m k 1 h)

statement_given : (whole : Scope) (last : Made) (k : ℕ) (s : Statement) (m n : Made) → ListedAt whole last k s → Given last k m → run (input_in whole s) m ≡ Ok n → Given last (k + length (named k s)) n
statement_given whole last k (statement.Wire w) m n listed h e = wire_given whole last k w listed m h n (ap (λ (o : Option NamedNet). run (net_input o w) m) (sym listed.found) ∙ e)
statement_given whole last k (statement.Parameter _) m n listed h e = keeps_nothing (Given last (k + 0)) m n e (given_more last m k 0 h)
statement_given whole last k (statement.Memory _) m n listed h e = keeps_nothing (Given last (k + 0)) m n e (given_more last m k 0 h)
statement_given whole last k (statement.Cell _) m n listed h e = keeps_nothing (Given last (k + 0)) m n e (given_more last m k 0 h)
statement_given whole last k (statement.Connect _) m n listed h e = keeps_nothing (Given last (k + 0)) m n e (given_more last m k 0 h)
statement_given whole last k (statement.Process _) m n listed h e = keeps_nothing (Given last (k + 0)) m n e (given_more last m k 0 h)

inputs_given : (whole : Scope) (last : Made) (k : ℕ) (ss : List Statement) (m n : Made) → Listed whole last k ss → Given last k m → run (inputs whole ss) m ≡ Ok n → InputsFit n
unfolding inputs
inputs_given whole last k [] m n listed h e = keeps_nothing InputsFit m n e h.fit
inputs_given whole last k (s ∷ ss) m n listed h e =
    let parts = run_parts (input_in whole s) (inputs whole ss) m n e in
    inputs_given whole last (k + length (named k s)) ss parts.0 n listed.1 (statement_given whole last k s m parts.0 listed.0 h parts.1) parts.2

-- ---- the top

pub top_inputs : (md : Module) (between behind : Made) → run (top_wires md) none_made ≡ Ok between → run (inputs (scope_of 0 md.statements) md.statements) between ≡ Ok behind → InputsFit behind
unfolding top_wires top_entered run numbers_differ
top_inputs md between behind ran given =
    let here : InstancePlace = top_place md 0 in
    let place : ShownPlace = record { prefix = []; scope = 0 } in
    let made : Made = record none_made { scopes = scope_of_instance [] md None ∷ [] } in
    let parts = run_parts (top_entered md) (wires here [] md.statements) none_made between ran in
    let is : parts.0 ≡ both_made none_made made = run_given (λ _. made) none_made parts.0 parts.1 in
    let wired : run (wires here [] md.statements) (both_made none_made made) ≡ Ok between = ap (λ (x : Made). run (wires here [] md.statements) x) (sym is) ∙ parts.2 in
    let listed = all_listed here place refl [] (scope_of 0 md.statements) md.statements (both_made none_made made) between (λ net le. refl) refl wired in
    let none = no_inputs here [] md.statements (both_made none_made made) between wired in
    inputs_given (scope_of 0 md.statements) between 0 md.statements between behind listed.1
    (record { nets = refl; items = λ net. refl; fit = ap (λ (xs : List ℕ). inputs_fit between.nets between.items xs) none; below = ap (list_all (λ x. nat_lt x 0)) none }) given
