-- What parts keep, from the parts that they are made of.
use Rattle.std.proofs.Common.{◌≡◌, List, Option, Some, None, Result, Ok, Err, refl, sym, ap, subst, ◌∙◌, Bool, true, false, cond, [], ◌∷◌, ℕ, zero, suc}
use Rattle.std.specs.Prelude.{slice_get}
use Rattle.circuit.specs.declared.fault.DesignFault.{DesignFault}
use Rattle.design_parts.specs.Parts.{Check, Made, Walk, bind, both_made, first_fault, give, guard, judged, nothing, ◌>>◌, run}
use Rattle.design_parts.proofs.Runs.{give_ok, guard_ok, nothing_ok, run_then, guard_fails}
use Rattle.design_parts.specs.declared.refusal.Refusal.TheVariants.{At}
use Rattle.design_valid.specs.Keeps.{Keeps}

-- ---- runs without a fault

same_made : (a b : Made) → ◌≡◌ {A = Result Made DesignFault} (Ok a) (Ok b) → a ≡ b
same_made a b e = cc e

pub run_is : (w : Walk) (m n : Made) → run w m ≡ Ok n → n ≡ both_made m (w m).made
unfolding run
run_is w m n e = by (first_fault (w m).checks) e
  where
    by : (o : Option DesignFault) → judged o (both_made m (w m).made) ≡ Ok n → n ≡ both_made m (w m).made
    by None e = cc e
    by (Some f) e = cc e

-- a run of one part behind another stops between them
pub run_parts : (p q : Walk) (m n : Made) → run (p >> q) m ≡ Ok n → (between : Made) × (run p m ≡ Ok between) × (run q between ≡ Ok n)
run_parts p q m n e = by (run p m) refl (sym (run_then p q m) ∙ e)
  where
    by : (r : Result Made DesignFault) → run p m ≡ r → bind r (run q) ≡ Ok n → (between : Made) × (run p m ≡ Ok between) × (run q between ≡ Ok n)
    by (Ok k) h e = (k, h, e)
    by (Err f) h e = cc e

-- checks hold where what they guard is run
pub run_guarded : (checks : Made → List Check) (p : Walk) (m n : Made) → run (guard checks p) m ≡ Ok n → (first_fault (checks m) ≡ None) × (run p m ≡ Ok n)
run_guarded checks p m n e = by (first_fault (checks m)) refl
  where
    by : (o : Option DesignFault) → first_fault (checks m) ≡ o → (first_fault (checks m) ≡ None) × (run p m ≡ Ok n)
    by None h = (h, sym (guard_ok checks p m h) ∙ e)
    by (Some f) h =
        let bad : run (guard checks p) m ≡ Err f = guard_fails checks p m (At f) (ap (λ o. judged o (tt {0})) h) in
        absurd (let z : ◌≡◌ {A = Result Made DesignFault} (Err f) (Ok n) = sym bad ∙ e in cc z)

pub run_given : (made : Made → Made) (m n : Made) → run (give made) m ≡ Ok n → n ≡ both_made m (made m)
run_given made m n e = same_made n (both_made m (made m)) (sym e ∙ give_ok made m)

-- the first of some checks holds, and so do the others
pub check_holds : (c : Check) (cs : List Check) → first_fault (c ∷ cs) ≡ None → (c.holds ≡ true) × (first_fault cs ≡ None)
check_holds c cs h = by c.holds refl h
  where
    by : (b : Bool) → c.holds ≡ b → cond b (first_fault cs) (Some c.fault) ≡ None → (c.holds ≡ true) × (first_fault cs ≡ None)
    by true e k = (e, k)
    by false e k = absurd (let z : Some c.fault ≡ None = k in cc z)

-- each of some checks holds where none fails
pub holds_at : (cs : List Check) (i : ℕ) (c : Check) → first_fault cs ≡ None → slice_get cs i ≡ Some c → c.holds ≡ true
holds_at [] i c h e = cc e
holds_at (d ∷ ds) zero c h e = let same : d ≡ c = cc e in subst (λ (x : Check). x.holds ≡ true) same (check_holds d ds h).0
holds_at (d ∷ ds) (suc i) c h e = holds_at ds i c (check_holds d ds h).1 e

-- ---- what is kept

pub keeps_nothing : (P : Made → Type 0) → Keeps P nothing
keeps_nothing P m n e h = subst P (same_made m n (sym (nothing_ok m) ∙ e)) h

pub keeps_both : (P : Made → Type 0) (p q : Walk) → Keeps P p → Keeps P q → Keeps P (p >> q)
keeps_both P p q f g m n e h = let k = run_parts p q m n e in g k.0 n k.2 (f m k.0 k.1 h)
