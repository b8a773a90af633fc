-- In a valuation each drive is followed, where no bit has two of them.
use Rattle.std.proofs.Common.{◌≡◌, ℕ, zero, suc, ◌+◌, ◌-◌, ◌<◌, ◌&&◌, Bool, true, false, cond, nat_eq, nat_le, nat_lt, List, [], ◌∷◌, Some, find, refl, ap, ◌∙◌, arith}
use Rattle.std.specs.List.{slice_get}
use Rattle.std.proofs.lemmas.Bool.{and_from, eq-eqb, le-leb, lt-ltb}
use Rattle.std.proofs.lemmas.Option.{same_Some}
use Rattle.circuit.specs.Acyclic.{IsDrivenOnce}
use Rattle.circuit.specs.Valuation.{IsValuation, covers, drive_of, driven, given}
use Rattle.circuit.specs.declared.netlist.Drive.{Drive}
use Rattle.design_values.specs.Follows.{AllFollow, Follows, Values}

-- the only one that passes a test is the first
found : (test : Drive → Bool) (ds : List Drive) (k : ℕ) (d : Drive) → slice_get ds k ≡ Some d → test d ≡ true → ((j : ℕ) (e : Drive) → slice_get ds j ≡ Some e → test e ≡ true → k ≡ j) → find test ds ≡ Some d
found test [] k d at passes only = cc
found test (x ∷ xs) zero d at passes only =
    let same : x ≡ d = same_Some x d at in
    ap (λ (b : Bool). cond b (Some x) (find test xs)) (ap test same ∙ passes) ∙ ap Some same
found test (x ∷ xs) (suc k) d at passes only = by (test x) refl (found test xs k d at passes (λ j e there h. let z : suc k ≡ suc j = only (suc j) e there h in omega arith))
  where
    by : (b : Bool) → test x ≡ b → find test xs ≡ Some d → cond b (Some x) (find test xs) ≡ Some d
    by true h rest = let z : suc k ≡ 0 = only 0 x refl h in absurd (omega arith)
    by false h rest = rest

covers_own : (d : Drive) (i : ℕ) → i < d.width → covers d.net (d.at + i) d ≡ true
covers_own d i lt =
    and_from (nat_eq d.net d.net) (nat_le d.at (d.at + i) && nat_lt (d.at + i) (d.at + d.width)) (eq-eqb d.net d.net refl)
    (and_from (nat_le d.at (d.at + i)) (nat_lt (d.at + i) (d.at + d.width)) (le-leb d.at (d.at + i) (omega arith)) (lt-ltb (d.at + i) (d.at + d.width) (omega arith)))

follows : (v : Values) → IsDrivenOnce v.circuit → IsValuation v.circuit v.state v.inputs v.digits → (k : ℕ) (d : Drive) → slice_get v.circuit.drives k ≡ Some d → Follows v d
follows v once is k d at i lt =
    let own : covers d.net (d.at + i) d ≡ true = covers_own d i lt in
    let drives : drive_of v.circuit d.net (d.at + i) ≡ Some d = found (covers d.net (d.at + i)) v.circuit.drives k d at own (λ j e there h. once k j d.net (d.at + i) d e at there own h) in
    let same : d.at + i - d.at ≡ i = omega arith in
    is d.net (d.at + i) ∙ ap (driven v.circuit v.state v.inputs v.digits (d.at + i)) drives ∙ ap (given v.circuit v.state v.inputs v.digits d.by) same

all_follow : (v : Values) (ds : List Drive) → ((k : ℕ) (d : Drive) → slice_get ds k ≡ Some d → Follows v d) → AllFollow v ds
all_follow v [] h = tt
all_follow v (d ∷ ds) h = (h 0 d refl, all_follow v ds (λ k e. h (suc k) e))

pub all_followed : (v : Values) → IsDrivenOnce v.circuit → IsValuation v.circuit v.state v.inputs v.digits → AllFollow v v.circuit.drives
all_followed v once is = all_follow v v.circuit.drives (follows v once is)
