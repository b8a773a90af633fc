-- Memories of a valid circuit.
use Rattle.std.proofs.Common.{◌≡◌, ℕ, zero, suc, ◌*◌, ◌<◌, List, [], ◌∷◌, length, get_or, map, arith, sym, ◌∙◌, ap, Bool, true}
use Rattle.std.specs.Prelude.{All, Some, nat_le, slice_get, ◌==◌}
use Rattle.std.specs.List.{list_all}
use Rattle.std.proofs.lemmas.Bool.{and_parts}
use Rattle.circuit.specs.Valid.{address_width, is_countable, mem_fits, read_fits, sig_of, widest, write_fits}
use Rattle.circuit.specs.declared.netlist.Circuit.{Circuit}
use Rattle.circuit.specs.declared.memory.Mem.{Mem}
use Rattle.circuit.specs.declared.memory.ReadPort.{ReadPort}
use Rattle.circuit.specs.declared.memory.WritePort.{WritePort}
use Rattle.circuit.specs.declared.store.Store.{Store}
use Rattle.state_cells.proofs.Fitting.{LieIn, eq_from, le_from, sig_there}
use Rattle.memory_cells.specs.Ports.{IsMemoryOf, IsReadPortOf, IsWritePortOf}

read_in : (c : Circuit) (before now : Store) (m : Mem) (abits : ℕ) (p : ReadPort) → LieIn c before → LieIn c now → read_fits c.nets m abits p ≡ true → IsReadPortOf before.nets now.nets m p
read_in c before now m abits p b w e =
    let t = and_parts (sig_of c.nets 1 p.clk) _ e in
    let u = and_parts (sig_of c.nets 1 p.en) _ t.1 in
    let v = and_parts (sig_of c.nets abits p.addr) _ u.1 in
    let x = and_parts (length p.see == length m.writes) _ v.1 in
    record {
      clk_before = (b p.clk (sig_there c 1 p.clk t.0).0).inside;
      clk = (w p.clk (sig_there c 1 p.clk t.0).0).inside;
      clk_width = (sig_there c 1 p.clk t.0).1;
      en = (w p.en (sig_there c 1 p.en u.0).0).inside;
      en_width = (sig_there c 1 p.en u.0).1;
      addr = (w p.addr (sig_there c abits p.addr v.0).0).inside;
      addr_width = (w p.addr (sig_there c abits p.addr v.0).0).width;
      see = eq_from (length p.see) (length m.writes) x.0;
    }

write_in : (c : Circuit) (before now : Store) (m : Mem) (abits : ℕ) (p : WritePort) → LieIn c before → LieIn c now → write_fits c.nets m abits p ≡ true → IsWritePortOf before.nets now.nets m p
write_in c before now m abits p b w e =
    let t = and_parts (sig_of c.nets 1 p.clk) _ e in
    let u = and_parts (sig_of c.nets m.width p.en) _ t.1 in
    let v = and_parts (sig_of c.nets abits p.addr) _ u.1 in
    record {
      clk_before = (b p.clk (sig_there c 1 p.clk t.0).0).inside;
      clk = (w p.clk (sig_there c 1 p.clk t.0).0).inside;
      clk_width = (sig_there c 1 p.clk t.0).1;
      en = (w p.en (sig_there c m.width p.en u.0).0).inside;
      en_width = (sig_there c m.width p.en u.0).1;
      addr = (w p.addr (sig_there c abits p.addr v.0).0).inside;
      addr_width = (w p.addr (sig_there c abits p.addr v.0).0).width;
      word = (w p.word (sig_there c m.width p.word v.1).0).inside;
      word_width = (sig_there c m.width p.word v.1).1;
    }

passes : {X : Type 0} (test : X → Bool) (xs : List X) (k : ℕ) (d : X) → list_all test xs ≡ true → k < length xs → test (get_or xs k d) ≡ true
passes test [] k d e lt = absurd (omega arith)
passes test (x ∷ xs) zero d e lt = (and_parts (test x) (list_all test xs) e).0
passes test (x ∷ xs) (suc k) d e lt = passes test xs k d (and_parts (test x) (list_all test xs) e).1 (omega arith)

all_from : {X : Type 0} (test : X → Bool) (P : X → Type 0) → ((x : X) → test x ≡ true → P x) → (xs : List X) → list_all test xs ≡ true → All P xs
all_from test P each xs e = λ k d lt. each (get_or xs k d) (passes test xs k d e lt)

pub memory_in : (c : Circuit) (before now : Store) (m : Mem) → LieIn c before → LieIn c now → mem_fits c.nets m ≡ true → IsMemoryOf before.nets now.nets m
memory_in c before now m b w e =
    let abits = address_width m.reads m.writes in
    let t = and_parts (nat_le m.width widest) _ e in
    let u = and_parts (m.init.width == m.size * m.width) _ t.1 in
    let v = and_parts (is_countable (length m.reads)) _ u.1 in
    let x = and_parts (list_all (read_fits c.nets m abits) m.reads) _ v.1 in
    record {
      width = le_from m.width widest t.0;
      init = eq_from m.init.width (m.size * m.width) u.0;
      reads = all_from (read_fits c.nets m abits) (IsReadPortOf before.nets now.nets m) (λ p. read_in c before now m abits p b w) m.reads x.0;
      writes = all_from (write_fits c.nets m abits) (IsWritePortOf before.nets now.nets m) (λ p. write_in c before now m abits p b w) m.writes x.1;
    }

pub init_in : (c : Circuit) (m : Mem) → mem_fits c.nets m ≡ true → m.init.width ≡ m.size * m.width
init_in c m e =
    let t = and_parts (nat_le m.width widest) _ e in
    let u = and_parts (m.init.width == m.size * m.width) _ t.1 in
    eq_from m.init.width (m.size * m.width) u.0

-- what lists that are mapped to the same have at a place
pub same_there : {X Y Z : Type 0} (f : X → Z) (g : Y → Z) (xs : List X) (ys : List Y) (n : ℕ) (x : X) (y : Y) → map f xs ≡ map g ys → slice_get xs n ≡ Some x → slice_get ys n ≡ Some y → f x ≡ g y
same_there f g [] ys n x y e a b = cc a
same_there f g (u ∷ xs) [] n x y e a b = cc b
same_there f g (u ∷ xs) (v ∷ ys) zero x y e a b = let p : u ≡ x = cc a in let q : v ≡ y = cc b in let r : f u ≡ g v = cc e in ap f (sym p) ∙ r ∙ ap g q
same_there f g (u ∷ xs) (v ∷ ys) (suc n) x y e a b = let r : map f xs ≡ map g ys = cc e in same_there f g xs ys n x y r a b
