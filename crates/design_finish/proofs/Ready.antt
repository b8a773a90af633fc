-- What fits together when it is made still does when it is finished.
use Rattle.std.proofs.Common.{◌≡◌, ℕ, zero, suc, ◌+◌, ◌<◌, ◌&&◌, List, [], ◌∷◌, length, Bool, true, refl, sym, ap, subst, ◌∙◌}
use Rattle.std.specs.Prelude.{◌^◌, ◌==◌, nat_le, nat_lt, slice_get}
use Rattle.std.specs.List.{list_all}
use Rattle.std.proofs.lemmas.Bool.{and_from, and_parts, eq-eqb, eqb-true}
use Rattle.std.proofs.lemmas.List.Sums.{sum_by-cons}
use Rattle.sim_base.specs.Values.{words_of}
use Rattle.circuit.specs.Built.{AreCountable, AreFitting, slots_of_items}
use Rattle.circuit.specs.Valid.{Drivers, drive_fits, driver_fits, drivers_of, inputs_fit, is_shown_once, item_fits, names_rise, numbers_differ, ports_of_kind, register_fits, register_has, register_holds, register_words, slots_run, widest}
use Rattle.circuit.specs.declared.item.Item.{Item}
use Rattle.circuit.specs.declared.netlist.By.{By}
use Rattle.circuit.specs.declared.netlist.By.TheVariants as by
use Rattle.circuit.specs.declared.netlist.Circuit.{Circuit}
use Rattle.circuit.specs.declared.netlist.Drive.{Drive}
use Rattle.circuit.specs.declared.netlist.Net.{Net}
use Rattle.circuit.specs.declared.register.Reg.{Reg}
use Rattle.circuit.proofs.Grown.{all_mono}
use Rattle.design_starts.specs.Starts.{start_value, started_from}
use Rattle.design_finish.specs.Finished.{AreReady}

-- ---- registers that are started

module _ (digits : ℕ → ℕ → ℕ) where
  pub started_length : (n : ℕ) (rs : List Reg) → length (started_from digits n rs) ≡ length rs
  unfolding started_from
  started_length n [] = refl
  started_length n (r ∷ rs) = ap suc (started_length (suc n) rs)

  started_holds : (end n k : ℕ) (rs : List Reg) → register_holds end (slice_get (started_from digits n rs) k) ≡ register_holds end (slice_get rs k)
  unfolding started_from
  started_holds end n k [] = refl
  started_holds end n zero (r ∷ rs) = refl
  started_holds end n (suc k) (r ∷ rs) = started_holds end (suc n) k rs

  one_fits : (nets : List Net) (n : ℕ) (r : Reg) → register_fits nets r ≡ true → register_fits nets (record r { init = start_value (digits n) r.width }) ≡ true
  one_fits nets n r h =
      let wide = and_parts (nat_le r.width widest) (register_has nets (ports_of_kind r.kind) r && (r.value.width == r.width && r.init.width == r.width)) h in
      let has = and_parts (register_has nets (ports_of_kind r.kind) r) (r.value.width == r.width && r.init.width == r.width) wide.1 in
      let value = and_parts (r.value.width == r.width) (r.init.width == r.width) has.1 in
      and_from (nat_le r.width widest) (register_has nets (ports_of_kind r.kind) r && (r.value.width == r.width && r.width == r.width)) wide.0
      (and_from (register_has nets (ports_of_kind r.kind) r) (r.value.width == r.width && r.width == r.width) has.0
      (and_from (r.value.width == r.width) (r.width == r.width) value.0 (eq-eqb r.width r.width refl)))

  pub started_fit : (nets : List Net) (n : ℕ) (rs : List Reg) → list_all (register_fits nets) rs ≡ true → list_all (register_fits nets) (started_from digits n rs) ≡ true
  unfolding started_from
  started_fit nets n [] h = refl
  started_fit nets n (r ∷ rs) h =
      let both = and_parts (register_fits nets r) (list_all (register_fits nets) rs) h in
      and_from (register_fits nets (record r { init = start_value (digits n) r.width })) (list_all (register_fits nets) (started_from digits (suc n) rs)) (one_fits nets n r both.0) (started_fit nets (suc n) rs both.1)

  init_width : (nets : List Net) (r : Reg) → register_fits nets r ≡ true → r.init.width ≡ r.width
  init_width nets r h =
      let wide = and_parts (nat_le r.width widest) (register_has nets (ports_of_kind r.kind) r && (r.value.width == r.width && r.init.width == r.width)) h in
      let has = and_parts (register_has nets (ports_of_kind r.kind) r) (r.value.width == r.width && r.init.width == r.width) wide.1 in
      eqb-true r.init.width r.width (and_parts (r.value.width == r.width) (r.init.width == r.width) has.1).1

  pub started_words : (nets : List Net) (n : ℕ) (rs : List Reg) → list_all (register_fits nets) rs ≡ true → register_words (started_from digits n rs) ≡ register_words rs
  unfolding started_from
  started_words nets n [] h = refl
  started_words nets n (r ∷ rs) h =
      let both = and_parts (register_fits nets r) (list_all (register_fits nets) rs) h in
      let begun : Reg = record r { init = start_value (digits n) r.width } in
      sum_by-cons (λ (x : Reg). words_of x.init.width) begun (started_from digits (suc n) rs)
      ∙ ap (λ (w : ℕ). words_of w + register_words (started_from digits (suc n) rs)) (sym (init_width nets r both.0))
      ∙ ap (λ (w : ℕ). words_of r.init.width + w) (started_words nets (suc n) rs both.1)
      ∙ sym (sum_by-cons (λ (x : Reg). words_of x.init.width) r rs)

  -- a drive by a register looks at its width alone
  driver_same : (from : Drivers) (width : ℕ) (b : By) → driver_fits (record from { regs = started_from digits 0 from.regs }) width b ≡ driver_fits from width b
  driver_same from width (by.Const v) = refl
  driver_same from width (by.Input n at) = refl
  driver_same from width (by.Wire n at) = refl
  driver_same from width (by.Cell n at) = refl
  driver_same from width (by.Reg n at) = started_holds (at + width) 0 n from.regs
  driver_same from width (by.Read m n at) = refl

  pub started_drives : (from : Drivers) (ds : List Drive) → list_all (drive_fits from) ds ≡ true → list_all (drive_fits (record from { regs = started_from digits 0 from.regs })) ds ≡ true
  started_drives from ds h = all_mono (drive_fits from) (drive_fits (record from { regs = started_from digits 0 from.regs })) ds (λ d fits. let both = and_parts _ (driver_fits from d.width d.by) fits in and_from _ (driver_fits (record from { regs = started_from digits 0 from.regs }) d.width d.by) both.0 (driver_same from d.width d.by ∙ both.1)) h

-- ---- inputs, which show once what they showed once before

pub inputs_still : (nets : List Net) (made items : List Item) (inputs : List ℕ) → ((net : ℕ) → is_shown_once items net ≡ is_shown_once made net) → inputs_fit nets made inputs ≡ true → inputs_fit nets items inputs ≡ true
inputs_still nets made items inputs same h =
    let shown : List Item → ℕ → Bool = λ is net. nat_lt net (length nets) && is_shown_once is net in
    let both = and_parts (list_all (shown made) inputs) (numbers_differ inputs) h in
    and_from (list_all (shown items) inputs) (numbers_differ inputs)
    (all_mono (shown made) (shown items) inputs (λ net fits. let f = and_parts (nat_lt net (length nets)) (is_shown_once made net) fits in and_from (nat_lt net (length nets)) (is_shown_once items net) f.0 (same net ∙ f.1)) both.0) both.1

-- ---- the whole

module _ (digits : ℕ → ℕ → ℕ) (made : Circuit) (items : List Item) (ready : AreReady made) where
  abbrev finished : Circuit
  finished = record made { items = items; regs = started_from digits 0 made.regs }

  counted : slots_of_items made.mems items ≡ slots_of_items made.mems made.items → AreCountable finished
  counted same = record {
    nets = ready.counts.nets;
    cells = ready.counts.cells;
    regs = subst (λ (n : ℕ). n < 2 ^ 32) (sym (started_length digits 0 made.regs)) ready.counts.regs;
    mems = ready.counts.mems;
    inputs = ready.counts.inputs;
    scopes = ready.counts.scopes;
    slots = subst (λ (n : ℕ). n + length made.diags < 2 ^ 32) (sym same) ready.counts.slots;
    nodes = ready.counts.nodes;
    bits = ready.counts.bits;
    net_words = ready.counts.net_words;
    output_words = ready.counts.output_words;
    register_words = subst (λ (n : ℕ). n < 2 ^ 32) (sym (started_words digits made.nets 0 made.regs ready.regs)) ready.counts.register_words;
  }

  pub ready_fits : slots_of_items made.mems items ≡ slots_of_items made.mems made.items
      → ((net : ℕ) → is_shown_once items net ≡ is_shown_once made.items net)
      → list_all (item_fits made.nets made.mems made.scopes) items ≡ true
      → slots_run made.mems 0 items ≡ true
      → names_rise items ≡ true
      → AreFitting (record made { items = items; regs = started_from digits 0 made.regs })
  ready_fits same once fit run rise = record {
    counts = counted same;
    nets = ready.nets;
    drives = started_drives digits (drivers_of made) made.drives ready.drives;
    cells = ready.cells;
    regs = started_fit digits made.nets 0 made.regs ready.regs;
    mems = ready.mems;
    inputs = inputs_still made.nets made.items items made.inputs once ready.inputs;
    items = fit;
    slots = run;
    rise = rise;
    scopes = ready.scopes;
    names = ready.names;
    top = ready.top;
    diags = ready.diags;
  }
