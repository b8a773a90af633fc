use Rattle.std.proofs.Common.{◌≡◌, Result, Ok, Err, arith}
use Rattle.rtlil_lexer.specs.declared.fault.TextFault.{TextFault}
use Rattle.rtlil_tree.specs.declared.module.File.{File}
use Rattle.rtlil_tree.proofs.laws.law_of_one_tree.Goals as goal

same_tree : (file other : File) (r : Result File TextFault) → r ≡ Ok file → r ≡ Ok other → file ≡ other
same_tree file other r one again = grind arith

same_fault : (fault other : TextFault) (r : Result File TextFault) → r ≡ Err fault → r ≡ Err other → fault ≡ other
same_fault fault other r one again = grind arith

not_both : (file : File) (fault : TextFault) (r : Result File TextFault) → r ≡ Ok file → r ≡ Err fault → ⊥
not_both file fault r one again = grind arith

pub returns : goal.returns
returns c = record {
  trees = λ tokens file other. same_tree file other _;
  faults = λ tokens fault other. same_fault fault other _;
  never_both = λ tokens file fault. not_both file fault _;
}
