use Rattle.std.proofs.Common.{◌≡◌, ◌+◌, ◌*◌, List, ℕ, [], ◌∷◌, ◌++◌, map, sym, ap, subst, ◌∙◌, length, arith}
use Rattle.std.proofs.lemmas.List.{length-map, map-append, length-append}
use Rattle.stimulus_text.specs.Numbers.{number_of}
use Rattle.stimulus_text.specs.declared.value.Value.{Value}
use Rattle.stimulus_blocks.specs.Rows.{AreOfLength, BlockRow, rows_from}
use Rattle.stimulus_blocks.proofs.RowTables.{rows_like, rows_push}
use Rattle.stimulus_blocks.proofs.rows.Rows.push.Goals as goal

-- the same rows, counted by the new row's length
like : (n : ℕ) (os : List ℕ) (vs row : List Value) (rows : List BlockRow) → rows_from n os (map number_of vs) ≡ rows → length vs ≡ length os * n → AreOfLength (length row) rows → (rows ≡ rows_from (length row) os (map number_of vs)) × (length vs ≡ length os * length row)
like n os vs row rows e f same =
    let r = rows_like (length row) n os (map number_of vs) (length-map vs number_of ∙ f) (subst (λ (rs : List BlockRow). AreOfLength (length row) rs) (sym e) same) in
    (sym e ∙ r.0, sym (length-map vs number_of) ∙ r.1)

grown : (columns o : ℕ) (os os' : List ℕ) (vs vs' row : List Value) (rows : List BlockRow) → columns ≡ length row → os' ≡ os ++ o ∷ [] → vs' ≡ vs ++ row → (rows ≡ rows_from (length row) os (map number_of vs)) × (length vs ≡ length os * length row) → rows_from columns os' (map number_of vs') ≡ rows ++ (record { offset = o; values = map number_of row }) ∷ []
grown columns o os os' vs vs' row rows ce oe ve l =
    ap (λ n. rows_from n os' (map number_of vs')) ce ∙ ap (λ xs. rows_from (length row) xs (map number_of vs')) oe
    ∙ ap (λ (xs : List Value). rows_from (length row) (os ++ o ∷ []) (map number_of xs)) ve
    ∙ ap (rows_from (length row) (os ++ o ∷ [])) (map-append number_of vs row)
    ∙ rows_push (length row) o os (map number_of vs) (map number_of row) (length-map vs number_of ∙ l.1) (length-map row number_of)
    ∙ ap (λ (rs : List BlockRow). rs ++ (record { offset = o; values = map number_of row }) ∷ []) (sym l.0)

kept : (columns o : ℕ) (os os' : List ℕ) (vs vs' row : List Value) → columns ≡ length row → os' ≡ os ++ o ∷ [] → vs' ≡ vs ++ row → length vs ≡ length os * length row → length vs' ≡ length os' * columns
kept columns o os os' vs vs' row ce oe ve l =
    ap (λ (xs : List Value). length xs) ve ∙ length-append vs row ∙ ap (λ n. n + length row) l
    ∙ (let e : length os * length row + length row ≡ (length os + 1) * length row = grind arith in e)
    ∙ sym (ap (λ n. length os' * n) ce ∙ ap (λ (xs : List ℕ). length xs * length row) oe ∙ ap (λ n. n * length row) (length-append os (o ∷ [])))

pub invariant_of-result : goal.invariant_of-result
invariant_of-result c =
    let n = c.len-columns.ensures in
    let l = c.args.row.ok.0 in
    kept c.len-columns.result c.args.offset c.self.inside.offsets.items c.push.new.self.items c.self.inside.values.items c.append.new.self.items c.args.row.items (omega arith) c.in_ok-push.ensures.items c.in_ok-append.ensures.items
    (like c.self.inside.columns c.self.inside.offsets.items c.self.inside.values.items c.args.row.items c.args.self c.self.view_is c.self.invariant c.requires).1

pub returns : goal.returns
returns c =
    let n = c.len-columns.ensures in
    let l = c.args.row.ok.0 in
    grown c.len-columns.result c.args.offset c.self.inside.offsets.items c.push.new.self.items c.self.inside.values.items c.append.new.self.items c.args.row.items c.args.self (omega arith) c.in_ok-push.ensures.items c.in_ok-append.ensures.items
    (like c.self.inside.columns c.self.inside.offsets.items c.self.inside.values.items c.args.row.items c.args.self c.self.view_is c.self.invariant c.requires)
