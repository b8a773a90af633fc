-- Files that have a run have no fault.
use Rattle.std.proofs.Common.{◌≡◌, ◌⊎◌, ℕ, ◌≤◌, List, length, true, Option, Some, None, Result, Ok, Err, refl, sym, ap, subst, ◌∙◌, arith, inl, inr}
use Rattle.circuit.specs.Valid.{is_valid}
use Rattle.circuit.specs.declared.fault.DesignFault.{DesignFault}
use Rattle.circuit.specs.declared.netlist.Circuit.{Circuit}
use Rattle.design_load.specs.Loaded.{RefusesDesign, made_in}
use Rattle.design_load.specs.declared.fault.LoadFault.{LoadFault}
use Rattle.design_load.specs.declared.fault.LoadFault.TheVariants as load
use Rattle.design_finish.specs.Finished.{IsFinished}
use Rattle.design_parts.specs.Parts.{Made}
use Rattle.driver_check.specs.Faults.{SaysFault}
use Rattle.elaborate.specs.Elaborated.{IsCircuitOf}
use Rattle.rtlil_tree.specs.declared.sig.Const.{Const}
use Rattle.outside.specs.Shelf.{File, Holds, IsKnown, IsLonger, IsOf, Missing, Unknown}
use Rattle.rtlil_lexer.specs.declared.fault.TextFault.{TextFault}
use Rattle.stimulus.specs.Reading.{course_of}
use Rattle.stimulus_blocks.specs.Courses.{Course}
use Rattle.stimulus_text.specs.declared.fault.StimFault.{StimFault}
use Rattle.stimulus_text.specs.declared.fault.StimFault.TheVariants as stim
use Rattle.run_files.specs.Files.{Files, IsDesign, IsFilesOf, IsStimulus}
use Rattle.run_files.specs.Refusals.{HasDesignFault, HasStimulusFault, HasTextFault, IsDesignFault, IsKnownFault, IsStimulusFault}
use Rattle.run_files.specs.declared.refusal.Refusal.{Refusal}
use Rattle.run_files.specs.declared.refusal.Refusal.TheVariants as refusal
use Rattle.run_files.proofs.Circuits.{in_order}

-- ---- a file that is known has one text

one_text : (f : File) (a b : List ℕ) → IsKnown f → IsOf f a → IsOf f b → a ≡ b
one_text Unknown a b known p q = absurd known
one_text Missing a b known p q = absurd p
one_text (Holds held) a b known p q = p ∙ sym q

within_limit : (f : File) (a : List ℕ) (limit : ℕ) → IsKnown f → IsOf f a → length a ≤ limit → IsLonger f limit → ⊥
within_limit Unknown a limit known p le longer = absurd known
within_limit Missing a limit known p le longer = absurd p
within_limit (Holds held) a limit known p le longer = omega (arith, ap length p, le, longer)

module _ {X E : Type 0} where
  ok_err : (x : X) (e : E) (r : Result X E) → r ≡ Ok x → r ≡ Err e → ⊥
  ok_err x e (Ok y) p q = cc q
  ok_err x e (Err f) p q = cc p

  one_ok : (x y : X) (r : Result X E) → r ≡ Ok x → r ≡ Ok y → x ≡ y
  one_ok x y (Ok z) p q = cc (p, q)
  one_ok x y (Err f) p q = cc p

module _ (only : (made one other : Circuit) (inits : List (Option Const)) → is_valid one ≡ true → IsFinished made inits one → IsFinished made inits other → one ≡ other) where
  -- ---- the design's file

  module _ (limit : ℕ) (file : File) (top : Option (List ℕ)) (known : IsKnown file) (c : Circuit) (is : IsDesign limit file top c) where
    -- what another text of the file gives
    gives_too : (text : List ℕ) → IsOf file text → made_in text top ≡ Ok is.made
    gives_too text of = ap (λ t. made_in t top) (one_text file text is.text known of is.held.0) ∙ is.gives

    same_circuit : (d : Circuit) → IsCircuitOf is.made d → c ≡ d
    same_circuit d other = only _ c d _ is.valid is.circuit other

    pub same_design : (d : Circuit) → IsDesign limit file top d → c ≡ d
    same_design d other =
        let made : is.made ≡ other.made = one_ok is.made other.made (made_in other.text top) (gives_too other.text other.held.0) other.gives in
        same_circuit d (subst (λ (m : Made). IsCircuitOf m d) (sym made) other.circuit)

    no_design_fault : (f : DesignFault) (r : Result Made LoadFault) → r ≡ Ok is.made → RefusesDesign f r → ⊥
    no_design_fault f (Err g) e h = absurd (let z : Err g ≡ Ok is.made = e in cc z)
    no_design_fault f (Ok m) e h =
        let made : m ≡ is.made = one_ok m is.made (Ok m) refl e in
        let same : c ≡ h.0 = same_circuit h.0 (subst (λ (n : Made). IsCircuitOf n h.0) made h.1) in
        in_order c f is.order (subst (λ (d : Circuit). SaysFault d f) (sym same) h.2)

    no_fault_here : (r : Refusal) → IsDesignFault limit file top r → ⊥
    no_fault_here refusal.DesignTooLong h = within_limit file is.text limit known is.held.0 is.held.1 h
    no_fault_here (refusal.Text f) h = ok_err is.made (load.Text f) (made_in h.text top) (gives_too h.text h.held.0) h.first
    no_fault_here (refusal.Design f) h = no_design_fault f (made_in h.text top) (gives_too h.text h.held.0) h.first
    no_fault_here refusal.StimulusTooLong h = h
    no_fault_here (refusal.Stimulus kind line) h = h

  -- ---- the stimulus' file

  no_stimulus_fault : (limit : ℕ) (file : File) (c : Circuit) (s : Course) → IsKnown file → IsStimulus limit file c s → (r : Refusal) → IsStimulusFault limit file c r → ⊥
  no_stimulus_fault limit file c s known is refusal.DesignTooLong h = h
  no_stimulus_fault limit file c s known is (refusal.Text f) h = h
  no_stimulus_fault limit file c s known is (refusal.Design f) h = h
  no_stimulus_fault limit file c s known is refusal.StimulusTooLong h = within_limit file is.text limit known is.held.0 is.held.1 h
  no_stimulus_fault limit file c s known is (refusal.Stimulus kind line) h =
      ok_err s (stim.At kind line) (course_of h.text c) (ap (λ t. course_of t c) (one_text file h.text is.text known h.held.0 is.held.0) ∙ is.read) h.first

  -- ---- both

  pub no_known_fault : (limit : ℕ) (files : Files) (c : Circuit) (s : Course) (r : Refusal) → IsFilesOf limit files c s → IsKnownFault limit files r → ⊥
  no_known_fault limit files c s r is (inl fault) = no_fault_here limit files.design files.top fault.0 c is.design r fault.1
  no_known_fault limit files c s r is (inr fault) =
      let same : c ≡ fault.2.0 = same_design limit files.design files.top fault.0 c is.design fault.2.0 fault.2.1 in
      no_stimulus_fault limit files.stimulus c s fault.1 is.stimulus r (subst (λ (d : Circuit). IsStimulusFault limit files.stimulus d r) (sym same) fault.2.2)
