-- What the open instances still give, as it is taken.
use Rattle.std.proofs.Common.{◌≡◌, ℕ, zero, suc, ◌+◌, ◌-◌, ◌≤◌, Bool, List, [], ◌∷◌, ◌++◌, length, drop, drop-cons, add-one, Some, None, Result, Ok, Err, refl, sym, ap, subst, ◌∙◌, arith}
use Rattle.std.specs.List.{slice_get}
use Rattle.std.proofs.lemmas.List.{drop_all}
use Rattle.std.proofs.lemmas.Option.{get_or_from_slice_get, slice_get_within}
use Rattle.circuit.specs.declared.fault.DesignFault.{DesignFault}
use Rattle.rtlil_tree.specs.declared.module.Module.{Module}
use Rattle.rtlil_tree.specs.declared.module.Statement.{Statement}
use Rattle.design_parts.specs.Parts.{Fails, Made, Walk, bind, nothing, run, ◌>>◌}
use Rattle.design_parts.specs.declared.refusal.Refusal.{Refusal}
use Rattle.design_parts.proofs.Runs.{nothing_ok, run_then, then_fails, then_ok}
use Rattle.design_walk.specs.Walks.{Down, Standing, step, steps, walk}
use Rattle.design_descent.specs.Frames.{AreNested, left, names_of, pending, standing}
use Rattle.design_descent.specs.declared.frame.Frame.{Frame}
use Rattle.design_descent.proofs.Depth.{fuel}

pub dropped : {X : Type 0} (xs : List X) (i : ℕ) (x : X) → slice_get xs i ≡ Some x → drop i xs ≡ x ∷ drop (i + 1) xs
dropped xs i x e =
    let below = slice_get_within xs i x e in
    rw (add-one, drop-cons xs i x) (ap (λ y. y ∷ drop (suc i) xs) (get_or_from_slice_get xs i x x e))

all_past : {X : Type 0} (xs : List X) (i : ℕ) → slice_get xs i ≡ None → length xs ≤ i
all_past [] i e = omega arith
all_past (x ∷ xs) zero e = cc
all_past (x ∷ xs) (suc i) e = let h = all_past xs i e in omega (arith, h)

none_left : {X : Type 0} (xs : List X) (i : ℕ) → slice_get xs i ≡ None → drop i xs ≡ []
none_left xs i e = drop_all i xs (all_past xs i e)

-- past the statement that was taken
abbrev pub past : Frame → Frame
past f = record f { next = f.next + 1 }

abbrev pub step_of : ℕ → List Module → List (List ℕ) → Frame → Bool → Statement → Walk
step_of depth ms names f b s = step (walk depth ms) ms (standing names f) b s

no_statements : (down : Down) (ms : List Module) (here : Standing) (bs : List Bool) → steps down ms here bs [] ≡ nothing
unfolding steps
no_statements down ms here [] = refl
no_statements down ms here (b ∷ bs) = refl

module _ (depth : ℕ) (ms : List Module) (names : List (List ℕ)) (f : Frame) where
  abbrev statements : List Statement
  statements = f.unit.now.statements

  pub left_last : slice_get f.unit.now.statements f.next ≡ None → left depth ms names f ≡ nothing
  left_last e =
      ap (λ (ss : List Statement). steps (walk depth ms) ms (standing names f) (drop f.next f.clashes) ss) (none_left statements f.next e)
      ∙ no_statements (walk depth ms) ms (standing names f) (drop f.next f.clashes)

  pub left_flagless : slice_get f.clashes f.next ≡ None → left depth ms names f ≡ nothing
  unfolding steps
  left_flagless e = ap (λ (bs : List Bool). steps (walk depth ms) ms (standing names f) bs (drop f.next statements)) (none_left f.clashes f.next e)

  pub left_more : (b : Bool) (s : Statement) → slice_get f.clashes f.next ≡ Some b → slice_get f.unit.now.statements f.next ≡ Some s → left depth ms names f ≡ (step_of depth ms names f b s >> left depth ms names (past f))
  unfolding steps
  left_more b s at_b at_s =
      ap (λ (bs : List Bool). steps (walk depth ms) ms (standing names f) bs (drop f.next statements)) (dropped f.clashes f.next b at_b)
      ∙ ap (λ (ss : List Statement). steps (walk depth ms) ms (standing names f) (b ∷ drop (f.next + 1) f.clashes) ss) (dropped statements f.next s at_s)

pub pending_none : (ms : List Module) (c : Made) → run (pending ms []) c ≡ Ok c
unfolding pending
pending_none ms c = nothing_ok c

bind_twice : (r : Result Made DesignFault) (f g h : Made → Result Made DesignFault) → ((x : Made) → h x ≡ bind (f x) g) → bind (bind r f) g ≡ bind r h
bind_twice (Ok x) f g h e = sym (e x)
bind_twice (Err d) f g h e = refl

module _ (ms : List Module) (f : Frame) (fs : List Frame) (nested : AreNested ms (f ∷ fs)) where
  abbrev names : List (List ℕ)
  names = names_of (f ∷ fs)

  -- how many may stand within it
  abbrev within : ℕ
  within = length ms - suc (length fs)

  pending_is : (next : ℕ) → pending ms ((record f { next = next }) ∷ fs) ≡ (left (suc within) ms names (record f { next = next }) >> pending ms fs)
  unfolding pending
  pending_is next = ap (λ (d : ℕ). left d ms names (record f { next = next }) >> pending ms fs) (fuel ms f fs nested)

  pub pending_done : left (suc within) ms names f ≡ nothing → (old : Made) → run (pending ms (f ∷ fs)) old ≡ run (pending ms fs) old
  pending_done e old =
      ap (λ (p : Walk). run p old) (pending_is f.next ∙ ap (λ (p : Walk). p >> pending ms fs) e)
      ∙ then_ok nothing (pending ms fs) old old (nothing_ok old)

  module _ (b : Bool) (s : Statement) (at_b : slice_get f.clashes f.next ≡ Some b) (at_s : slice_get f.unit.now.statements f.next ≡ Some s) where
    abbrev first : Walk
    first = step_of (suc within) ms names f b s

    abbrev rest : Walk
    rest = left (suc within) ms names (past f)

    pending_more : pending ms (f ∷ fs) ≡ ((first >> rest) >> pending ms fs)
    pending_more = pending_is f.next ∙ ap (λ (p : Walk). p >> pending ms fs) (left_more (suc within) ms names f b s at_b at_s)

    pub pending_fails : (old : Made) (e : Refusal) → Fails e (run (step_of (suc within) ms names f b s) old) → Fails e (run (pending ms (f ∷ fs)) old)
    pending_fails old e h = subst (λ (p : Walk). Fails e (run p old)) (sym pending_more) (then_fails (first >> rest) (pending ms fs) old e (then_fails first rest old e h))

    pub pending_next : (old new : Made) → run (step_of (suc within) ms names f b s) old ≡ Ok new → run (pending ms (f ∷ fs)) old ≡ run (pending ms (past f ∷ fs)) new
    pending_next old new h =
        ap (λ (p : Walk). run p old) pending_more
        ∙ run_then (first >> rest) (pending ms fs) old
        ∙ ap (λ r. bind r (run (pending ms fs))) (then_ok first rest old new h)
        ∙ sym (run_then rest (pending ms fs) new)
        ∙ ap (λ (p : Walk). run p new) (sym (pending_is (f.next + 1)))

    -- an instance that is gone into stands before the rest
    pub pending_into : (g : Frame) (old new : Made) → run (step_of (suc within) ms names f b s) old ≡ run (left within ms (names ++ g.unit.now.name ∷ []) g) new → run (pending ms (f ∷ fs)) old ≡ run (pending ms (g ∷ past f ∷ fs)) new
    unfolding pending
    pending_into g old new h =
        let inner = left within ms (names ++ g.unit.now.name ∷ []) g in
        let others = pending ms fs in
        ap (λ (p : Walk). run p old) pending_more
        ∙ run_then (first >> rest) others old
        ∙ ap (λ r. bind r (run others)) (run_then first rest old ∙ ap (λ r. bind r (run rest)) h)
        ∙ bind_twice (run inner new) (run rest) (run others) (run (rest >> others)) (λ x. run_then rest others x)
        ∙ sym (run_then inner (rest >> others) new)
        ∙ ap (λ (p : Walk). run (inner >> p) new) (sym (pending_is (f.next + 1)))
