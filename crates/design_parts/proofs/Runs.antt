-- A part that is run, and the parts that it is made of.
use Rattle.std.proofs.Common.{◌≡◌, ℕ, ◌+◌, List, [], ◌∷◌, ◌++◌, true, false, cond, Option, Some, None, Result, Ok, Err, refl, sym, ap, ◌∙◌, subst, append_assoc, append-nil, arith}
use Rattle.circuit.specs.declared.fault.DesignFault.{DesignFault}
use Rattle.design_parts.specs.declared.refusal.Refusal.{Refusal}
use Rattle.design_parts.specs.declared.refusal.Refusal.TheVariants.{At, NoMemory as OutOfMemory}
use Rattle.design_parts.specs.Parts.{Check, Made, Part, Walk, first_fault, none_made, both_made, nothing, ◌>>◌, allowed, guard, give, judged, run, bind, Fails, Runs, Says}

abbrev pub or_else : Option DesignFault → Option DesignFault → Option DesignFault
or_else None o = o
or_else (Some f) o = Some f

pub first_of_both : (a b : List Check) → first_fault (a ++ b) ≡ or_else (first_fault a) (first_fault b)
first_of_both [] b = refl
first_of_both (c ∷ cs) b = elim c.holds as (λ h. cond h (first_fault (cs ++ b)) (Some c.fault) ≡ or_else (cond h (first_fault cs) (Some c.fault)) (first_fault b)) [ true ↦ first_of_both cs b | false ↦ refl ]

add_assoc : (a b c : ℕ) → (a + b) + c ≡ a + (b + c)
add_assoc a b c = omega arith

add_none : (a : ℕ) → a + 0 ≡ a
add_none a = omega arith

pub made_assoc : (a b c : Made) → both_made (both_made a b) c ≡ both_made a (both_made b c)
made_assoc a b c = simp (append_assoc, add_assoc)

pub made_none : (a : Made) → both_made a none_made ≡ a
made_none a = simp (append-nil, add_none)

run_both : (q : Walk) (c m : Made) (o : Option DesignFault) → let second = q (both_made c m) in judged (or_else o (first_fault second.checks)) (both_made (both_made c m) second.made) ≡ bind (judged o (both_made c m)) (run q)
unfolding run
run_both q c m None = refl
run_both q c m (Some f) = refl

-- running one behind the other
pub run_then : (p q : Walk) (c : Made) → run (p >> q) c ≡ bind (run p c) (run q)
unfolding run ◌>>◌
run_then p q c =
    let second : Part = q (both_made c (p c).made) in
    ap (λ o. judged o (both_made c (both_made (p c).made second.made))) (first_of_both (p c).checks second.checks)
    ∙ ap (judged (or_else (first_fault (p c).checks) (first_fault second.checks))) (sym (made_assoc c (p c).made second.made))
    ∙ run_both q c (p c).made (first_fault (p c).checks)

-- ---- for the code: one step and the rest

pub then_ok : (p q : Walk) (c d : Made) → run p c ≡ Ok d → run (p >> q) c ≡ run q d
then_ok p q c d e = run_then p q c ∙ ap (λ r. bind r (run q)) e

pub then_err : (p q : Walk) (c : Made) (f : DesignFault) → run p c ≡ Err f → run (p >> q) c ≡ Err f
then_err p q c f e = run_then p q c ∙ ap (λ r. bind r (run q)) e

pub then_fails : (p q : Walk) (c : Made) (e : Refusal) → Fails e (run p c) → Fails e (run (p >> q) c)
then_fails p q c (At f) h = then_err p q c f h
then_fails p q c OutOfMemory h = tt

pub nothing_ok : (c : Made) → run nothing c ≡ Ok c
unfolding run nothing
nothing_ok c = ap Ok (made_none c)

pub give_ok : (made : Made → Made) (c : Made) → run (give made) c ≡ Ok (both_made c (made c))
unfolding run give
give_ok made c = refl

guarded : (checks : Made → List Check) (p : Walk) (c : Made) (o : Option DesignFault) → first_fault (checks c) ≡ o → run (guard checks p) c ≡ bind (judged o c) (run p)
unfolding run guard
guarded checks p c None e =
    ap (λ o. judged (first_fault (allowed o (checks c) (p c)).checks) (both_made c (allowed o (checks c) (p c)).made)) e
    ∙ ap (λ o. judged o (both_made c (p c).made)) (first_of_both (checks c) (p c).checks ∙ ap (λ o. or_else o (first_fault (p c).checks)) e)
guarded checks p c (Some f) e =
    ap (λ o. judged (first_fault (allowed o (checks c) (p c)).checks) (both_made c (allowed o (checks c) (p c)).made)) e
    ∙ ap (λ o. judged o (both_made c none_made)) e

-- checks, and what comes where all of them hold
pub guard_ok : (checks : Made → List Check) (p : Walk) (c : Made) → first_fault (checks c) ≡ None → run (guard checks p) c ≡ run p c
guard_ok checks p c e = guarded checks p c None e

pub guard_fails : (checks : Made → List Check) (p : Walk) (c : Made) (e : Refusal) → Fails e (judged (first_fault (checks c)) (tt {0})) → Fails e (run (guard checks p) c)
guard_fails checks p c OutOfMemory h = tt
guard_fails checks p c (At f) h = by (first_fault (checks c)) refl h
  where
    by : (o : Option DesignFault) → first_fault (checks c) ≡ o → ◌≡◌ {A = Result (Unit {0}) DesignFault} (judged o (tt {0})) (Err f) → run (guard checks p) c ≡ Err f
    by None e h = cc
    by (Some g) e h = guarded checks p c (Some g) e ∙ cc

pub says_fails : {X : Type 0} (e : Refusal) (f : DesignFault) (r : Result X DesignFault) → r ≡ Err f → Says e f → Fails e r
says_fails OutOfMemory f r h s = tt
says_fails (At g) f r h s = cc

-- ---- checks one behind the other

pub checks_ok : (a b : List Check) → first_fault a ≡ None → first_fault (a ++ b) ≡ first_fault b
checks_ok a b e = first_of_both a b ∙ ap (λ o. or_else o (first_fault b)) e

pub checks_fail : (a b : List Check) (e : Refusal) → Fails e (judged (first_fault a) (tt {0})) → Fails e (judged (first_fault (a ++ b)) (tt {0}))
checks_fail a b OutOfMemory h = tt
checks_fail a b (At f) h = ap (λ o. judged o (tt {0})) (first_of_both a b) ∙ by (first_fault a) h
  where
    by : (o : Option DesignFault) → ◌≡◌ {A = Result (Unit {0}) DesignFault} (judged o (tt {0})) (Err f) → ◌≡◌ {A = Result (Unit {0}) DesignFault} (judged (or_else o (first_fault b)) (tt {0})) (Err f)
    by None h = cc
    by (Some g) h = h

-- a result that is handed on
pub runs_as : {X : Type 0} (p q : Walk) (c : Made) (r : Result X Refusal) (d : Made) → run p c ≡ run q c → Runs q c r d → Runs p c r d
runs_as p q c (Ok _) d e h = e ∙ h
runs_as p q c (Err f) d e h = subst (Fails f) (sym e) h
