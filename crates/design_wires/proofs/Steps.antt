-- What each rule gives, for the functions that follow it.
use Rattle.std.proofs.Common.{◌≡◌, ℕ, suc, ◌+◌, ◌<◌, List, [], ◌∷◌, ◌++◌, length, get_or, drop, drop-cons, add-one, Ok, Option, None, sym, ap, subst, ◌∙◌, append-nil, arith}
use Rattle.circuit.specs.declared.item.Item.{Item}
use Rattle.circuit.specs.declared.netlist.Drive.{Drive}
use Rattle.circuit.specs.declared.netlist.Net.{Net}
use Rattle.rtlil_tree.specs.declared.module.Assignment.{Assignment}
use Rattle.rtlil_tree.specs.declared.module.Statement.{Statement}
use Rattle.rtlil_tree.specs.declared.module.Wire.{Wire}
use Rattle.rtlil_tree.specs.declared.sig.Const.{Const}
use Rattle.rtlil_signals.specs.Signals.{Scope}
use Rattle.design_parts.specs.Parts.{Fails, Made, both_made, first_fault, give, judged, none_made, run}
use Rattle.design_parts.specs.declared.refusal.Refusal.{Refusal}
use Rattle.design_parts.proofs.Runs.{give_ok, guard_fails, guard_ok, nothing_ok, then_fails, then_ok}
use Rattle.design_wires.specs.Places.{InstancePlace}
use Rattle.design_wires.specs.Wires.{init_of, named, scope_of, wire, wire_checks, wire_in, wire_items, wire_made, wire_net, wires}
use Rattle.design_wires.specs.Connects.{connect, connect_checks, connect_made}

drop_item : {X : Type 0} (xs : List X) (i : ℕ) (x : X) → i < length xs → x ≡ get_or xs i x → drop i xs ≡ x ∷ drop (i + 1) xs
drop_item xs i x below e = rw (add-one, drop-cons xs i x) (ap (λ y. y ∷ drop (suc i) xs) (sym e))

add_none : (a : ℕ) → a + 0 ≡ a
add_none a = omega arith

-- ---- a wire

made_wire : (m : Made) (ns : List Net) (ks : List (Option Const)) (is : List Item) → both_made m (record none_made { nets = ns; inits = ks; items = is }) ≡ (record m { nets = m.nets ++ ns; inits = m.inits ++ ks; items = m.items ++ is })
made_wire m ns ks is = simp (append-nil, add_none)

pub wire_ok : (here : InstancePlace) (earlier : Scope) (w : Wire) (m : Made) → first_fault (wire_checks here earlier w m) ≡ None
    → run (wire here earlier w) m ≡ Ok (record m { nets = m.nets ++ wire_net here w ∷ []; inits = m.inits ++ init_of w ∷ []; items = m.items ++ wire_items here.shown (length m.nets) w })
unfolding wire
wire_ok here earlier w m h =
    guard_ok (wire_checks here earlier w) (give (wire_made here w)) m h ∙ give_ok (wire_made here w) m
    ∙ ap Ok (made_wire m (wire_net here w ∷ []) (init_of w ∷ []) (wire_items here.shown (length m.nets) w))

pub wire_fails : (here : InstancePlace) (earlier : Scope) (w : Wire) (m : Made) (e : Refusal) → Fails e (judged (first_fault (wire_checks here earlier w m)) (tt {0})) → Fails e (run (wire here earlier w) m)
unfolding wire
wire_fails here earlier w m e h = guard_fails (wire_checks here earlier w) (give (wire_made here w)) m e h

-- ---- the wires among statements

module _ (here : InstancePlace) (earlier : Scope) (s : Statement) (ss : List Statement) (c : Made) where
  wires_ok : (d : Made) → run (wire_in here earlier s) c ≡ Ok d → run (wires here earlier (s ∷ ss)) c ≡ run (wires here (earlier ++ named (length c.nets) s) ss) d
  unfolding wires run
  wires_ok d h = then_ok (wire_in here earlier s) (wires here (earlier ++ named (length c.nets) s) ss) c d h

  wires_fail : (e : Refusal) → Fails e (run (wire_in here earlier s) c) → Fails e (run (wires here earlier (s ∷ ss)) c)
  unfolding wires run
  wires_fail e h = then_fails (wire_in here earlier s) (wires here (earlier ++ named (length c.nets) s) ss) c e h

-- a loop over statements, at the one at i
module _ (here : InstancePlace) (earlier : Scope) (all : List Statement) (i : ℕ) (s : Statement) (c : Made) (below : i < length all) (is : s ≡ get_or all i s) where
  pub wires_more : (d : Made) → run (wire_in here earlier s) c ≡ Ok d → run (wires here earlier (drop i all)) c ≡ run (wires here (earlier ++ named (length c.nets) s) (drop (i + 1) all)) d
  wires_more d h = ap (λ ss. run (wires here earlier ss) c) (drop_item all i s below is) ∙ wires_ok here earlier s (drop (i + 1) all) c d h

  pub wires_stop : (e : Refusal) → Fails e (run (wire_in here earlier s) c) → Fails e (run (wires here earlier (drop i all)) c)
  wires_stop e h = subst (λ ss. Fails e (run (wires here earlier ss) c)) (sym (drop_item all i s below is)) (wires_fail here earlier s (drop (i + 1) all) c e h)

pub scope_more : (n : ℕ) (all : List Statement) (i : ℕ) (s : Statement) → i < length all → s ≡ get_or all i s → scope_of n (drop i all) ≡ named n s ++ scope_of (n + length (named n s)) (drop (i + 1) all)
scope_more n all i s below is = ap (scope_of n) (drop_item all i s below is)

pub wires_none : (here : InstancePlace) (earlier : Scope) (c : Made) → run (wires here earlier []) c ≡ Ok c
unfolding wires
wires_none here earlier c = nothing_ok c

-- ---- a connection

made_drives : (m : Made) (ds : List Drive) → both_made m (record none_made { drives = ds }) ≡ (record m { drives = m.drives ++ ds })
made_drives m ds = simp (append-nil, add_none)

pub connect_ok : (owner : List ℕ) (scope : Scope) (a : Assignment) (m : Made) → first_fault (connect_checks owner scope a) ≡ None
    → run (connect owner scope a) m ≡ Ok (record m { drives = m.drives ++ (connect_made scope a).drives })
unfolding connect
connect_ok owner scope a m h =
    guard_ok (λ _. connect_checks owner scope a) (give (λ _. connect_made scope a)) m h ∙ give_ok (λ _. connect_made scope a) m ∙ ap Ok (made_drives m (connect_made scope a).drives)

pub connect_fails : (owner : List ℕ) (scope : Scope) (a : Assignment) (m : Made) (e : Refusal) → Fails e (judged (first_fault (connect_checks owner scope a)) (tt {0})) → Fails e (run (connect owner scope a) m)
unfolding connect
connect_fails owner scope a m e h = guard_fails (λ _. connect_checks owner scope a) (give (λ _. connect_made scope a)) m e h
