-- How many words the values of fitting lists take, and diagnostics by their signals and their texts.
use Rattle.std.proofs.Common.{◌≡◌, ℕ, ◌+◌, ◌*◌, ◌≤◌, ◌==◌, ◌&&◌, List, [], ◌∷◌, length, Bool, true, refl, arith, sum_by}
use Rattle.std.specs.Prelude.{nat_le}
use Rattle.std.specs.List.{list_all}
use Rattle.std.specs.Str.{is_utf8}
use Rattle.std.proofs.lemmas.Bool.{and_from, and_parts, leb-true}
use Rattle.std.proofs.lemmas.Bool.Decides.{Decides-eqb}
use Rattle.std.proofs.lemmas.List.Sums.{sum_by-cons}
use Rattle.sim_base.specs.Values.{words_of}
use Rattle.circuit.specs.Valid.{cell_fits, diag_fits, is_countable, net_words, output_words, ports_of_kind, register_fits, register_has, register_words, sig_fits, sig_of, text_fits, trigger_fits, widest, widths_fit, widths_of}
use Rattle.circuit.specs.declared.cell.Cell.{Cell}
use Rattle.circuit.specs.declared.diagnostic.Diag.{Diag}
use Rattle.circuit.specs.declared.netlist.Net.{Net}
use Rattle.circuit.specs.declared.register.Reg.{Reg}
use Rattle.design_valid.specs.Wired.{diag_wired}
use Rattle.design_valid_items.specs.Shown.{diag_told}

few_words : (width : ℕ) → width ≤ widest → words_of width ≤ 1024
few_words width le = omega (arith, le)

words_within : (width : ℕ) → words_of width ≤ width + 1
words_within width = omega arith

pub nets_few : (nets : List Net) → net_words nets ≤ sum_by (λ n. n.width) nets + length nets
nets_few [] = omega arith
nets_few (x ∷ xs) =
    let words : net_words (x ∷ xs) ≡ words_of x.width + net_words xs = sum_by-cons (λ (n : Net). words_of n.width) x xs in
    let bits : sum_by (λ (n : Net). n.width) (x ∷ xs) ≡ x.width + sum_by (λ (n : Net). n.width) xs = sum_by-cons (λ (n : Net). n.width) x xs in
    omega (arith, words, bits, words_within x.width, nets_few xs)

module _ (nets : List Net) where
  cell_narrow : (x : Cell) → cell_fits nets x ≡ true → x.width ≤ widest
  cell_narrow x h =
      let a = and_parts (sig_fits nets x.a) _ h in
      let b = and_parts (sig_fits nets x.b) _ a.1 in
      let s = and_parts (sig_fits nets x.s) _ b.1 in
      leb-true x.width widest (and_parts (nat_le x.width widest) (widths_fit x.op (widths_of x)) s.1).0

  pub cells_few : (xs : List Cell) → list_all (cell_fits nets) xs ≡ true → output_words xs ≤ 1024 * length xs
  cells_few [] h = omega arith
  cells_few (x ∷ xs) h =
      let both = and_parts (cell_fits nets x) (list_all (cell_fits nets) xs) h in
      let words : output_words (x ∷ xs) ≡ words_of x.width + output_words xs = sum_by-cons (λ (y : Cell). words_of y.width) x xs in
      omega (arith, words, few_words x.width (cell_narrow x both.0), cells_few xs both.1)

  register_narrow : (r : Reg) → register_fits nets r ≡ true → r.init.width ≤ widest
  register_narrow r h =
      let a = and_parts (nat_le r.width widest) _ h in
      let b = and_parts (register_has nets (ports_of_kind r.kind) r) _ a.1 in
      let d = and_parts (r.value.width == r.width) (r.init.width == r.width) b.1 in
      let is : r.init.width ≡ r.width = (Decides-eqb r.init.width r.width).0 d.1 in
      let le : r.width ≤ widest = leb-true r.width widest a.0 in
      omega (arith, is, le)

  pub registers_few : (rs : List Reg) → list_all (register_fits nets) rs ≡ true → register_words rs ≤ 1024 * length rs
  registers_few [] h = omega arith
  registers_few (r ∷ rs) h =
      let both = and_parts (register_fits nets r) (list_all (register_fits nets) rs) h in
      let words : register_words (r ∷ rs) ≡ words_of r.init.width + register_words rs = sum_by-cons (λ (x : Reg). words_of x.init.width) r rs in
      omega (arith, words, few_words r.init.width (register_narrow r both.0), registers_few rs both.1)

  -- signals and texts together
  diag_whole : (d : Diag) → diag_wired nets d ≡ true → diag_told d ≡ true → diag_fits nets d ≡ true
  diag_whole d w t =
      let a = and_parts (sig_of nets 1 d.a) _ w in
      let b = and_parts (sig_of nets 1 d.en) (trigger_fits nets d.trigger) a.1 in
      let texts : Bool = is_countable (length d.text) && (is_utf8 d.text && text_fits d.src) in
      and_from (sig_of nets 1 d.a) _ a.0 (and_from (sig_of nets 1 d.en) _ b.0 (and_from (trigger_fits nets d.trigger) texts b.1 t))

  pub diags_whole : (ds : List Diag) → list_all (diag_wired nets) ds ≡ true → list_all diag_told ds ≡ true → list_all (diag_fits nets) ds ≡ true
  diags_whole [] w t = refl
  diags_whole (d ∷ ds) w t =
      let wired = and_parts (diag_wired nets d) (list_all (diag_wired nets) ds) w in
      let told = and_parts (diag_told d) (list_all diag_told ds) t in
      and_from (diag_fits nets d) (list_all (diag_fits nets) ds) (diag_whole d wired.0 told.0) (diags_whole ds wired.1 told.1)
