-- A text step by step: where one step has a fault, the whole has it.
use Rattle.std.proofs.Common.{◌≡◌, ◌⊎◌, ℕ, List, Option, Result, Ok, Err, inl, inr, refl, sym, ap, subst, ◌∙◌}
use Rattle.circuit.specs.Acyclic.{IsDrivenOnce}
use Rattle.circuit.specs.Fault.{fault_number}
use Rattle.circuit.specs.declared.fault.DesignFault.{DesignFault}
use Rattle.circuit.specs.declared.fault.DesignKind.{DesignKind}
use Rattle.circuit.specs.declared.fault.DesignKind.TheVariants as kind
use Rattle.circuit.specs.declared.netlist.Circuit.{Circuit}
use Rattle.driver_check.specs.Faults.{SaysLoop, SaysTwoDrivers}
use Rattle.design_parts.specs.Parts.{Made}
use Rattle.eval_plan.specs.Plans.{IsPlanOf}
use Rattle.design_parts.specs.declared.refusal.Refusal.{Refusal}
use Rattle.design_parts.specs.declared.refusal.Refusal.TheVariants.{At, NoMemory as OutOfMemory}
use Rattle.elaborate.specs.Elaborated.{IsCircuitOf, IsElaborated, whole_made}
use Rattle.process_check.specs.Processes.{processes_refused}
use Rattle.rtlil_lexer.specs.Tokens as lexer
use Rattle.rtlil_lexer.specs.declared.fault.TextFault.{TextFault}
use Rattle.rtlil_lexer.specs.declared.fault.TextFault.TheVariants as text
use Rattle.rtlil_lexer.specs.declared.token.Token.{Token}
use Rattle.rtlil_tree.specs.declared.module.File.{File}
use Rattle.rtlil_tree.specs.declared.module.Module.{Module}
use Rattle.design_load.specs.Loaded.{IsBuilt, IsLoaded, IsOrdered, Refuses, RefusesDesign, allowed, checked, design_refused, file_of, made_in, made_of, numbered_refused, text_refused, without_processes}
use Rattle.design_load.specs.declared.fault.LoadFault.{LoadFault}
use Rattle.design_load.specs.declared.fault.LoadFault.TheVariants as fault
use Rattle.design_load.specs.declared.load.Loaded.{Loaded}

-- ---- faults of the text

pub tokens_fail : (f : TextFault) (r : Result (List Token) TextFault) → lexer.Fails f r → lexer.Fails f (file_of r)
tokens_fail text.NoMemory r h = tt
tokens_fail (text.At k l c) r h = ap file_of h

pub tree_fails : (f : TextFault) (r : Result File TextFault) → lexer.Fails f r → lexer.Fails f (without_processes r)
tree_fails text.NoMemory r h = tt
tree_fails (text.At k l c) r h = ap without_processes h

pub process_fails : (f : TextFault) (file : File) (r : Result File TextFault) → r ≡ Ok file → processes_refused file ≡ Err f → lexer.Fails f (without_processes r)
process_fails text.NoMemory file r tree h = tt
process_fails (text.At k l c) file r tree h = ap without_processes tree ∙ ap (λ p. allowed p file) h

pub process_free : (file : File) (r : Result File TextFault) → r ≡ Ok file → processes_refused file ≡ Ok (tt {0}) → without_processes r ≡ Ok file
process_free file r tree h = ap without_processes tree ∙ ap (λ p. allowed p file) h

pub file_fails : (name : Option (List ℕ)) (f : TextFault) (r : Result File TextFault) → lexer.Fails f r → Refuses (text_refused f) (made_of r name)
file_fails name text.NoMemory r h = tt
file_fails name (text.At k l c) r h = ap (λ (q : Result File TextFault). made_of q name) h

-- ---- faults of the design

checks_fail : (f : DesignFault) (r : Result Made DesignFault) → r ≡ Err f → RefusesDesign f (checked r)
checks_fail f r h = subst (λ (q : Result Made DesignFault). RefusesDesign f (checked q)) (sym h) refl

pub design_built : (ms : List Module) (name : Option (List ℕ)) (c : Circuit) → IsElaborated ms name (Ok c) → IsBuilt (checked (whole_made ms name)) (Ok c)
design_built ms name c h = (h.0, ap checked h.1, h.2)

pub design_fails : (ms : List Module) (name : Option (List ℕ)) (e : Refusal) → IsElaborated ms name (Err e) → IsBuilt (checked (whole_made ms name)) (Err (design_refused e))
design_fails ms name OutOfMemory h = tt
design_fails ms name (At f) h = checks_fail f (whole_made ms name) h

-- ---- faults of drives

pub drives_fail : (c : Circuit) (f : DesignFault) → (f.kind ≡ kind.TwoDrivers → SaysTwoDrivers c f) → (f.kind ≡ kind.CombLoop → IsDrivenOnce c × SaysLoop c f)
    → (f.kind ≡ kind.TwoDrivers) ⊎ ((f.kind ≡ kind.CombLoop) ⊎ (f.kind ≡ kind.NoMemory)) → IsOrdered c (Err (numbered_refused (fault_number f.kind) f))
drives_fail c f two loop (inl k) = subst (λ (q : DesignKind). IsOrdered c (Err (numbered_refused (fault_number q) f))) (sym k) (inl (two k))
drives_fail c f two loop (inr (inl k)) = subst (λ (q : DesignKind). IsOrdered c (Err (numbered_refused (fault_number q) f))) (sym k) (inr (loop k))
drives_fail c f two loop (inr (inr k)) = subst (λ (q : DesignKind). IsOrdered c (Err (numbered_refused (fault_number q) f))) (sym k) tt

-- ---- the whole

pub loaded : (bytes : List ℕ) (name : Option (List ℕ)) (c : Circuit) (r : Result Loaded LoadFault) → IsBuilt (made_in bytes name) (Ok c) → IsOrdered c r → IsLoaded bytes name r
loaded bytes name c (Ok l) built h = (built.0, built.1, subst (IsCircuitOf built.0) (sym h.0) built.2, subst (λ (d : Circuit). IsPlanOf d l.plan) (sym h.0) h.1)
loaded bytes name c (Err fault.NoMemory) built h = tt
loaded bytes name c (Err (fault.Text f)) built h = absurd h
loaded bytes name c (Err (fault.Design f)) built h = subst (RefusesDesign f) (sym built.1) (c, built.2, h)
