-- The tests' log in a turn: what a call adds, the seat may leave, and knows afterwards.
use Rattle.std.proofs.Common.{◌≡◌, ℕ, ◌+◌, ◌<◌, ◌≤◌, eqb, eq-eqb, ne_eqb, List, [], ◌∷◌, ◌++◌, Some, Result, Ok, Err, IfOk, IfErr, false, refl, sym, ap, ◌∙◌, subst, arith}
use Rattle.std.specs.Prelude.{All}
use Rattle.std.proofs.lemmas.List.{append-nil}
use Rattle.std.proofs.lemmas.List.Sums.{sum_by-cons}
use Rattle.std.proofs.lemmas.List.Elements.{All-nil, All-head, All-tail, All-append, All-cons}
use Rattle.std.proofs.lemmas.Grind.{flat_map-append}
use mathlib.Core.Logic.{dite}
use native.Mathlib.Decide.{ℕ_discrete}
use Rattle.stage_turn.specs.declared.known.Known.{Known}
use Rattle.stage_turn.specs.Kept.{Owner, writer, client, nobody, count_of, opened_by}
use Rattle.stage_turn.specs.Known.{MayAdd, IsClerk, grown, holding, appended, resting}
use Rattle.stage_turn.specs.Turn.{Finds, Leaves}
use Rattle.stage_turn.specs.Rule.{one_if}
use Rattle.stage_turn.specs.TestLog.{Noted, Logged, opening_of, clients_of, OpensOnce, log_reading, Adds, Opens}
use Rattle.stage_turn.proofs.Sums.{count_of-append}
use Rattle.stage_turn.proofs.Lists.{All_map}

opens_none : (o : Owner) → opened_by o false ≡ []
opens_none writer = refl
opens_none (client c) = refl
opens_none nobody = refl

clients_of-push : (es : List Noted) (e : Noted) → clients_of (es ++ e ∷ []) ≡ clients_of es ++ opened_by e.owner e.opens
clients_of-push es e = flat_map-append (λ (e : Noted). opened_by e.owner e.opens) es (e ∷ []) ∙ ap (λ l. clients_of es ++ l) (append-nil (opened_by e.owner e.opens))

clients_of-plain : (es : List Noted) (e : Noted) → e.opens ≡ false → clients_of (es ++ e ∷ []) ≡ clients_of es
clients_of-plain es e none = clients_of-push es e ∙ ap (λ l. clients_of es ++ l) (ap (opened_by e.owner) none ∙ opens_none e.owner) ∙ append-nil (clients_of es)

pub below_plain : (es fs : List Noted) (e : Noted) (n : ℕ) → fs ≡ es ++ e ∷ [] → e.opens ≡ false → All (λ c. c < n) (clients_of es) → All (λ c. c < n) (clients_of fs)
below_plain es fs e n is none h = subst (All (λ c. c < n)) (sym (ap clients_of is ∙ clients_of-plain es e none)) h

pub below_opened : (es fs : List Noted) (n : ℕ) → fs ≡ es ++ opening_of n ∷ [] → All (λ c. c < n) (clients_of es) → All (λ c. c < n + 1) (clients_of fs)
below_opened es fs n is h = subst (All (λ c. c < n + 1)) (sym (ap clients_of is ∙ clients_of-push es (opening_of n)))
    (All-append (λ c. c < n + 1) (clients_of es) (n ∷ []) (All_map (λ c. c < n) (λ c. c < n + 1) (clients_of es) (λ c lt. omega arith) h) (All-cons (λ c. c < n + 1) n [] (omega arith) (All-nil (λ c. c < n + 1))))

pub none_so_far : (n : ℕ) (cs : List ℕ) → All (λ c. c < n) cs → count_of n cs ≡ 0
none_so_far n [] h = refl
none_so_far n (c ∷ cs) h = omega (arith, sum_by-cons (λ d. one_if (eqb d n)) c cs, ap one_if (ne_eqb c n (λ e. let lt = All-head (λ c. c < n) c cs h in omega arith)), none_so_far n cs (All-tail (λ c. c < n) c cs h))

once_opened : (es : List Noted) (c : ℕ) → OpensOnce es → count_of c (clients_of es) ≡ 0 → OpensOnce (es ++ opening_of c ∷ [])
once_opened es c once none d =
    let a = ap (count_of d) (clients_of-push es (opening_of c)) ∙ count_of-append d (clients_of es) (c ∷ []) in
    dite (ℕ_discrete c d)
    (λ e. let b = subst (λ x. count_of x (clients_of es) ≡ 0) e none in let f = ap one_if (eq-eqb c d e) in omega arith)
    (λ n. let b = once d in let f = ap one_if (ne_eqb c d n) in omega arith)

once_plain : (es : List Noted) (e : Noted) → e.opens ≡ false → OpensOnce es → OpensOnce (es ++ e ∷ [])
once_plain es e none once = subst (λ l. (c : ℕ) → count_of c l ≤ 1) (sym (clients_of-plain es e none)) once

has_last : (c : ℕ) (cs : List ℕ) → 0 < count_of c (cs ++ c ∷ [])
has_last c cs = let a = count_of-append c cs (c ∷ []) in let b = ap one_if (eq-eqb c c refl) in omega arith

leaves_opened : (u : Known ℕ Noted) (h g : Logged) (c : ℕ) → Finds log_reading u h → Opens h c g → IsClerk u → Leaves log_reading (holding h.entries u) g (opening_of c ∷ [])
leaves_opened u h g c f o clerk = record {
  order = subst OpensOnce (sym o.0.1) (once_opened h.entries c f.order o.1);
  run = f.run ∙ ap Some (sym o.0.0);
  entries = o.0.1;
  own = All-cons (λ (x : Noted). MayAdd (grown log_reading (opening_of c ∷ []) (holding h.entries u).own) x.owner) (opening_of c) [] (has_last c u.own.clients) (All-nil _);
  clerk = λ z. absurd (omega arith);
}

still_may : (u : Known ℕ Noted) (l : List Noted) (cs : List ℕ) (o : Owner) → cs ≡ [] → MayAdd u.own o → MayAdd (record { pen = u.own.pen; share = u.own.share; seen = l; clients = u.own.clients ++ cs }) o
still_may u l cs writer none may = may
still_may u l cs (client c) none may = let a = count_of-append c u.own.clients cs in omega arith
still_may u l cs nobody none may = may

plain_opens_none : (e : Noted) → e.opens ≡ false → clients_of (e ∷ []) ≡ []
plain_opens_none e none = append-nil (opened_by e.owner e.opens) ∙ ap (opened_by e.owner) none ∙ opens_none e.owner

leaves_added : (u : Known ℕ Noted) (h g : Logged) (e : Noted) → Finds log_reading u h → Adds h e g → MayAdd u.own e.owner → e.opens ≡ false → Leaves log_reading (holding h.entries u) g (e ∷ [])
leaves_added u h g e f o may none = record {
  order = subst OpensOnce (sym o.1) (once_plain h.entries e none f.order);
  run = f.run ∙ ap Some (sym o.0);
  entries = o.1;
  own = All-cons (λ (x : Noted). MayAdd (grown log_reading (e ∷ []) (holding h.entries u).own) x.owner) e [] (still_may u (h.entries ++ e ∷ []) (clients_of (e ∷ [])) e.owner (plain_opens_none e none) may) (All-nil _);
  clerk = λ z. plain_opens_none e none;
}

leaves_same : (u : Known ℕ Noted) (h g : Logged) → Finds log_reading u h → g ≡ h → Leaves log_reading (holding h.entries u) g []
leaves_same u h g f same = record {
  order = subst (λ (x : Logged). OpensOnce x.entries) (sym same) f.order;
  run = f.run ∙ ap (λ (x : Logged). Some x.run) (sym same);
  entries = ap (λ (x : Logged). x.entries) same ∙ sym (append-nil h.entries);
  own = All-nil _;
  clerk = λ z. refl;
}

pub may_leave_opened : {X : Type 0} (r : Result ℕ X) (u w : Known ℕ Noted) (h g : Logged) → Finds log_reading u h → w ≡ holding h.entries u → IsClerk u → IfOk r (λ c. Opens h c g) → IfErr r (λ _. g ≡ h) → (more : List Noted) × Leaves log_reading w g more
may_leave_opened (Ok c) u w h g f e clerk a b = (opening_of c ∷ [], subst (λ x. Leaves log_reading x g (opening_of c ∷ [])) (sym e) (leaves_opened u h g c f a clerk))
may_leave_opened (Err x) u w h g f e clerk a b = ([], subst (λ x. Leaves log_reading x g []) (sym e) (leaves_same u h g f b))

pub may_leave_added : {Y X : Type 0} (r : Result Y X) (u w : Known ℕ Noted) (h g : Logged) (e : Noted) → Finds log_reading u h → w ≡ holding h.entries u → MayAdd u.own e.owner → e.opens ≡ false → IfOk r (λ _. Adds h e g) → IfErr r (λ _. g ≡ h) → (more : List Noted) × Leaves log_reading w g more
may_leave_added (Ok y) u w h g e f is may none a b = (e ∷ [], subst (λ x. Leaves log_reading x g (e ∷ [])) (sym is) (leaves_added u h g e f a may none))
may_leave_added (Err x) u w h g e f is may none a b = ([], subst (λ x. Leaves log_reading x g []) (sym is) (leaves_same u h g f b))

pub has_opened : {X : Type 0} (r : Result ℕ X) (u w v : Known ℕ Noted) (h g : Logged) → w ≡ holding h.entries u → IfOk r (λ c. Opens h c g)
    → ((more : List Noted) → g.entries ≡ w.own.seen ++ more → v ≡ resting (appended log_reading more w)) → IfOk r (λ c. v.own.clients ≡ u.own.clients ++ c ∷ [])
has_opened (Ok c) u w v h g e a left = ap (λ (x : Known ℕ Noted). x.own.clients) (left (opening_of c ∷ []) (a.0.1 ∙ ap (λ (x : Known ℕ Noted). x.own.seen ++ opening_of c ∷ []) (sym e)) ∙ ap (λ x. resting (appended log_reading (opening_of c ∷ []) x)) e)
has_opened (Err x) u w v h g e a left = tt

pub has_same_clients : {Y X : Type 0} (r : Result Y X) (u w v : Known ℕ Noted) (h g : Logged) (e : Noted) → w ≡ holding h.entries u → e.opens ≡ false → IfOk r (λ _. Adds h e g) → IfErr r (λ _. g ≡ h)
    → ((more : List Noted) → g.entries ≡ w.own.seen ++ more → v ≡ resting (appended log_reading more w)) → v.own.clients ≡ u.own.clients
has_same_clients (Ok y) u w v h g e is none a b left =
    ap (λ (x : Known ℕ Noted). x.own.clients) (left (e ∷ []) (a.1 ∙ ap (λ (x : Known ℕ Noted). x.own.seen ++ e ∷ []) (sym is)) ∙ ap (λ x. resting (appended log_reading (e ∷ []) x)) is)
    ∙ ap (λ l. u.own.clients ++ l) (plain_opens_none e none) ∙ append-nil u.own.clients
has_same_clients (Err x) u w v h g e is none a b left =
    ap (λ (x : Known ℕ Noted). x.own.clients) (left [] (ap (λ (x : Logged). x.entries) b ∙ sym (append-nil h.entries) ∙ ap (λ (x : Known ℕ Noted). x.own.seen ++ []) (sym is)) ∙ ap (λ x. resting (appended log_reading [] x)) is)
    ∙ append-nil u.own.clients
