-- What a memory whose ports are narrow keeps.
use Rattle.std.proofs.Common.{◌≡◌, ◌*◌, ◌≤◌, Bool, true, false, ◌&&◌, drop, nat_le, refl, arith}
use Rattle.std.proofs.lemmas.Bool.Decides.{nat_tests}
use Rattle.circuit.specs.Valid.{widest}
use Rattle.design_memory.specs.Names.{ports}
use Rattle.design_memory.specs.Rules.{within}
use Rattle.design_memory.specs.declared.settings.Shape.{Shape}

left : (a b : Bool) → (a && b) ≡ true → a ≡ true
left true b e = refl
left false b e = e

right : (a b : Bool) → (a && b) ≡ true → b ≡ true
right true b e = e
right false b e = cc

pub narrow_reads : (s : Shape) → within s ports ≡ true → s.reads ≤ widest
unfolding ports
narrow_reads s e = let one : nat_le (s.reads * 1) widest ≡ true = left (nat_le (s.reads * 1) widest) (within s (drop 1 ports)) e in grind (arith, nat_tests)

pub narrow_writes : (s : Shape) → within s ports ≡ true → s.writes ≤ widest
unfolding ports
narrow_writes s e = let one : nat_le (s.writes * 1) widest ≡ true = left (nat_le (s.writes * 1) widest) (within s (drop 2 ports)) (right (nat_le (s.reads * 1) widest) (within s (drop 1 ports)) e) in grind (arith, nat_tests)
