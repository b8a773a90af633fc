-- A turn of the walk, by what it takes.
use Rattle.std.proofs.Common.{◌≡◌, ℕ, suc, ◌+◌, ◌-◌, ◌<◌, Bool, true, false, List, [], ◌∷◌, ◌++◌, length, reverse, set, Some, None, Result, Ok, Err, sym, subst, ◌∙◌, arith, length-set}
use Rattle.std.specs.List.{slice_get}
use Rattle.std.proofs.lemmas.List.{reverse-append}
use Rattle.rtlil_tree.specs.declared.module.Module.{Module}
use Rattle.rtlil_tree.specs.declared.module.Statement.{Statement}
use Rattle.design_parts.specs.Parts.{Fails, Made, Runs, Walk, nothing, run}
use Rattle.design_parts.specs.declared.refusal.Refusal.{Refusal}
use Rattle.design_descent.specs.Frames.{IsDescent, IsInside, left, names_of, pending}
use Rattle.design_descent.specs.Turns.{IsGoneInto, IsTurn, Turns}
use Rattle.design_descent.specs.declared.frame.Frame.{Frame}
use Rattle.design_descent.proofs.Flags.{closed, opened}
use Rattle.design_descent.proofs.Names.{number_below}
use Rattle.design_descent.proofs.Pending.{left_flagless, left_last, past, pending_done, pending_fails, pending_into, pending_next, step_of}
use Rattle.design_descent.proofs.Works.{work_done, work_into, work_next}

-- the last of the list is the innermost
pub on_top : (fs : List Frame) (f : Frame) → reverse (fs ++ f ∷ []) ≡ f ∷ reverse fs
on_top fs f = reverse-append fs (f ∷ [])

pub number_inside : (ms : List Module) (flags : List Bool) (f : Frame) (fs : List Frame) → IsDescent ms flags (f ∷ fs) → f.number < length flags
number_inside ms flags f fs is = let h = number_below ms f.unit.now.name f.number is.nested.0.number in omega (arith, h, is.sized)

module _ (ms : List Module) (flags : List Bool) (f : Frame) (fs : List Frame) (is : IsDescent ms flags (f ∷ fs)) (old : Made) where
  abbrev names : List (List ℕ)
  names = names_of (f ∷ fs)

  abbrev within : ℕ
  within = length ms - suc (length fs)

  inside : IsInside ms (names_of fs) (past f)
  inside = record { number = is.nested.0.number; apart = is.nested.0.apart }

  leaves : left (suc within) ms names f ≡ nothing → IsTurn ms (f ∷ fs) old (set flags f.number false) fs old
  leaves e = record {
    descent = record {
      nested = is.nested.1;
      flagged = closed ms flags (names_of fs) f.unit.now.name f.number is.sized is.nested.0.number is.nested.0.apart is.flagged;
      sized = length-set flags f.number false ∙ is.sized;
    };
    gives = pending_done ms f fs is.nested e old;
    less = work_done ms f fs is.nested;
  }

  pub leaves_last : slice_get f.unit.now.statements f.next ≡ None → IsTurn ms (f ∷ fs) old (set flags f.number false) fs old
  leaves_last e = leaves (left_last (suc within) ms names f e)

  pub leaves_flagless : slice_get f.clashes f.next ≡ None → IsTurn ms (f ∷ fs) old (set flags f.number false) fs old
  leaves_flagless e = leaves (left_flagless (suc within) ms names f e)

  module _ (b : Bool) (s : Statement) (at_b : slice_get f.clashes f.next ≡ Some b) (at_s : slice_get f.unit.now.statements f.next ≡ Some s) where
    pub turn_fails : (e : Refusal) → ((depth : ℕ) → Fails e (run (step_of (suc depth) ms (names_of (f ∷ fs)) f b s) old)) → Fails e (run (pending ms (f ∷ fs)) old)
    turn_fails e h = pending_fails ms f fs is.nested b s at_b at_s old e (h within)

    pub turn_next : (new : Made) → ((depth : ℕ) → run (step_of (suc depth) ms (names_of (f ∷ fs)) f b s) old ≡ Ok new) → IsTurn ms (f ∷ fs) old flags (past f ∷ fs) new
    turn_next new h = record {
      descent = record {
        nested = (inside, is.nested.1);
        flagged = is.flagged;
        sized = is.sized;
      };
      gives = pending_next ms f fs is.nested b s at_b at_s old new (h within);
      less = work_next ms f fs is.nested s at_s;
    }

    pub turn_into : (g : Frame) (new : Made) → IsGoneInto ms (names_of (f ∷ fs)) (λ depth. step_of (suc depth) ms (names_of (f ∷ fs)) f b s) s old g new → IsTurn ms (f ∷ fs) old (set flags g.number true) (g ∷ past f ∷ fs) new
    turn_into g new h = record {
      descent = record {
        nested = (h.inside, (inside, is.nested.1));
        flagged = opened ms flags names g.unit.now.name g.number is.sized h.inside.number is.flagged;
        sized = length-set flags g.number true ∙ is.sized;
      };
      gives = pending_into ms f fs is.nested b s at_b at_s g old new (h.gives within);
      less = work_into ms f fs is.nested s at_s g h.leads h.first;
    }

-- the same turn, by what it leaves
pub turn_as : (ms : List Module) (fs : List Frame) (old : Made) (flags was : List Bool) (gs hs : List Frame) (new : Made) → was ≡ flags → hs ≡ gs → IsTurn ms fs old flags gs new → IsTurn ms fs old was hs new
turn_as ms fs old flags was gs hs new e f h = subst (λ (xs : List Bool). IsTurn ms fs old xs hs new) (sym e) (subst (λ (ys : List Frame). IsTurn ms fs old flags ys new) (sym f) h)

-- the same turn, by what is there before
pub turns_of : {X : Type 0} (ms : List Module) (fs gs : List Frame) (old : Made) (r : Result X Refusal) (flags : List Bool) (hs : List Frame) (new : Made) → fs ≡ gs → Turns ms gs old r flags hs new → Turns ms fs old r flags hs new
turns_of ms fs gs old r flags hs new e h = subst (λ (xs : List Frame). Turns ms xs old r flags hs new) (sym e) h

-- a part that is run from what another one left
pub runs_from : {X : Type 0} (p q : Walk) (old mid : Made) (r : Result X Refusal) (new : Made) → run p old ≡ run q mid → Runs q mid r new → Runs p old r new
runs_from p q old mid (Ok _) new e h = e ∙ h
runs_from p q old mid (Err f) new e h = subst (Fails f) (sym e) h
