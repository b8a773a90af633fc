-- Loops over the parts of signals that drive and are driven.
use Rattle.std.proofs.Common.{◌≡◌, ℕ, suc, zero, ◌+◌, ◌-◌, ◌<◌, ◌≤◌, List, [], ◌∷◌, ◌++◌, length, get_or, drop, take, min, map, refl, sym, ap, ◌∙◌, arith, append_assoc, cond, false, nat_eq}
use Rattle.std.proofs.lemmas.Bool.Decides.{nat_tests}
use Rattle.std.proofs.lemmas.List.{take_more}
use Rattle.std.proofs.lemmas.List.Sums.{sum_by-append}
use Rattle.circuit.specs.declared.netlist.By.{By}
use Rattle.circuit.specs.declared.netlist.Drive.{Drive}
use Rattle.circuit.specs.declared.netlist.Piece.{Piece}
use Rattle.circuit.specs.declared.netlist.Piece.TheVariants as piece
use Rattle.circuit.specs.Signal.{piece_part, piece_width, sig_part, sig_width}
use Rattle.rtlil_signals.specs.Drives.{by_of, connected_from, driven, driven_from, onto}
use Rattle.rtlil_signals.specs.Spans.{piece_of, pieces_of, some_part}
use Rattle.rtlil_signals.specs.declared.span.Span.{Span}
use Rattle.rtlil_signals.proofs.Cuts.{part_cons}
use Rattle.rtlil_signals.proofs.Loops.{drop_item}

-- ---- widths

pub width_cons : (p : Piece) (ps : List Piece) → sig_width (p ∷ ps) ≡ piece_width p + sig_width ps
width_cons p ps = omega (arith, sum_by-append piece_width (p ∷ []) ps)

pub width_left : (all : List Span) (i : ℕ) (s : Span) → i < length all → s ≡ get_or all i s → sig_width (pieces_of (drop i all)) ≡ piece_width (piece_of s) + sig_width (pieces_of (drop (i + 1) all))
width_left all i s below is = ap (λ ss. sig_width (pieces_of ss)) (drop_item all i s below is) ∙ width_cons (piece_of s) (pieces_of (drop (i + 1) all))

pieces_both : (xs ys : List Span) → pieces_of (xs ++ ys) ≡ pieces_of xs ++ pieces_of ys
pieces_both [] ys = refl
pieces_both (x ∷ xs) ys = ap (λ ps. piece_of x ∷ ps) (pieces_both xs ys)

pub width_taken : (all : List Span) (i : ℕ) (s : Span) → i < length all → s ≡ get_or all i s → sig_width (pieces_of (take (i + 1) all)) ≡ sig_width (pieces_of (take i all)) + piece_width (piece_of s)
width_taken all i s below is =
    let more : sig_width (pieces_of (take (i + 1) all)) ≡ sig_width (pieces_of (take i all) ++ piece_of s ∷ []) =
    ap (λ ss. sig_width (pieces_of ss)) (take_more all i s below ∙ ap (λ x. take i all ++ x ∷ []) (sym is)) ∙ ap sig_width (pieces_both (take i all) (s ∷ [])) in
    omega (arith, more, sum_by-append piece_width (pieces_of (take i all)) (piece_of s ∷ []))

one_width : (at width : ℕ) (p : Piece) → sig_width (piece_part at width p ∷ []) ≡ width
one_width at width (piece.Const v) = omega arith
one_width at width (piece.Part net from all) = omega arith

some_width : (at width : ℕ) (p : Piece) → sig_width (some_part at width p) ≡ width
some_width at zero p = refl
some_width at (suc width) p =
    let some : nat_eq (suc width) 0 ≡ false = grind (arith, nat_tests) in
    ap (λ b. sig_width (cond b [] (piece_part at (suc width) p ∷ []))) some ∙ one_width at (suc width) p

-- a part has no more bits than it is to have
pub part_width : (at width : ℕ) (ps : List Piece) → sig_width (sig_part at width ps) ≤ width
unfolding sig_part
part_width at width [] = omega arith
part_width at width (p ∷ ps) =
    let taken = min (piece_width p - at) width in
    let few : taken ≤ width = omega arith in
    omega (arith, ap sig_width (part_cons at width p ps), sum_by-append piece_width (some_part at taken p) (sig_part (at - piece_width p) (width - taken) ps), some_width at taken p, part_width (at - piece_width p) (width - taken) ps)

-- ---- a place in a signal

-- what is cut behind whole parts
pub skip_parts : (k skipped width : ℕ) (all : List Span) → sig_part (sig_width (pieces_of (take k all)) + skipped) width (pieces_of all) ≡ sig_part skipped width (pieces_of (drop k all))
unfolding sig_part
skip_parts zero skipped width all = let z : 0 + skipped ≡ skipped = omega arith in ap (λ a. sig_part a width (pieces_of all)) z
skip_parts (suc k) skipped width [] = refl
skip_parts (suc k) skipped width (s ∷ ss) =
    let p = piece_of s in
    let before = sig_width (pieces_of (take k ss)) in
    let total = sig_width (p ∷ pieces_of (take k ss)) + skipped in
    let cons = width_cons p (pieces_of (take k ss)) in
    let gone : min (piece_width p - total) width ≡ 0 = omega (arith, cons) in
    let begin : total - piece_width p ≡ before + skipped = omega (arith, cons) in
    let all_left : width - 0 ≡ width = omega arith in
    part_cons total width p (pieces_of ss)
    ∙ ap (λ t. some_part total t p ++ sig_part (total - piece_width p) (width - t) (pieces_of ss)) gone
    ∙ ap (λ a. sig_part a (width - 0) (pieces_of ss)) begin
    ∙ ap (λ w. sig_part (before + skipped) w (pieces_of ss)) all_left
    ∙ skip_parts k skipped width ss

-- ---- loops

pub onto_more : (net next w : ℕ) (by : By) (all : List Span) (i : ℕ) (s : Span) (drives made : List Drive) → i < length all → s ≡ get_or all i s → w ≡ piece_width (piece_of s) → by ≡ by_of (piece_of s)
    → made ≡ drives ++ (record { net = net; at = next; width = w; by = by }) ∷ [] → drives ++ onto net next (pieces_of (drop i all)) ≡ made ++ onto net (next + w) (pieces_of (drop (i + 1) all))
unfolding onto
onto_more net next w by all i s drives made below is wide driver e =
    let rest = λ (k : ℕ). onto net (next + k) (pieces_of (drop (i + 1) all)) in
    ap (λ ss. drives ++ onto net next (pieces_of ss)) (drop_item all i s below is)
    ∙ ap (λ b. drives ++ (record { net = net; at = next; width = piece_width (piece_of s); by = b }) ∷ rest (piece_width (piece_of s))) (sym driver)
    ∙ ap (λ k. drives ++ (record { net = net; at = next; width = k; by = by }) ∷ rest k) (sym wide)
    ∙ sym (append_assoc drives ((record { net = net; at = next; width = w; by = by }) ∷ []) (rest w))
    ∙ ap (λ m. m ++ rest w) (sym e)

pub onto_none : (net next : ℕ) → onto net next [] ≡ []
unfolding onto
onto_none net next = refl

driven_cons : (source : ℕ → By) (at : ℕ) (p : Piece) (ps : List Piece) → driven_from source at (p ∷ ps) ≡ driven_from source at (p ∷ []) ++ driven_from source (at + piece_width p) ps
unfolding driven_from
driven_cons source at (piece.Const v) ps = refl
driven_cons source at (piece.Part net from width) ps = refl

pub driven_more : (source : ℕ → By) (at w : ℕ) (all : List Span) (i : ℕ) (s : Span) (drives made : List Drive) → i < length all → s ≡ get_or all i s → w ≡ piece_width (piece_of s)
    → made ≡ drives ++ driven_from source at (piece_of s ∷ []) → drives ++ driven_from source at (pieces_of (drop i all)) ≡ made ++ driven_from source (at + w) (pieces_of (drop (i + 1) all))
driven_more source at w all i s drives made below is wide e =
    let rest = λ (k : ℕ). driven_from source (at + k) (pieces_of (drop (i + 1) all)) in
    ap (λ ss. drives ++ driven_from source at (pieces_of ss)) (drop_item all i s below is)
    ∙ ap (λ ds. drives ++ ds) (driven_cons source at (piece_of s) (pieces_of (drop (i + 1) all)))
    ∙ sym (append_assoc drives (driven_from source at (piece_of s ∷ [])) (rest (piece_width (piece_of s))))
    ∙ ap (λ m. m ++ rest (piece_width (piece_of s))) (sym e)
    ∙ ap (λ k. made ++ rest k) (sym wide)

pub driven_none : (source : ℕ → By) (at : ℕ) → driven_from source at [] ≡ []
unfolding driven_from
driven_none source at = refl

pub connected_more : (done w : ℕ) (left right : List Span) (cut : List Piece) (i : ℕ) (s : Span) (drives made : List Drive) → i < length left → s ≡ get_or left i s → w ≡ piece_width (piece_of s)
    → cut ≡ sig_part done w (pieces_of right) → made ≡ drives ++ driven (piece_of s) cut
    → drives ++ connected_from done (pieces_of (drop i left)) (pieces_of right) ≡ made ++ connected_from (done + w) (pieces_of (drop (i + 1) left)) (pieces_of right)
unfolding connected_from
connected_more done w left right cut i s drives made below is wide same e =
    let rest = λ (k : ℕ). connected_from (done + k) (pieces_of (drop (i + 1) left)) (pieces_of right) in
    let p = piece_of s in
    ap (λ ss. drives ++ connected_from done (pieces_of ss) (pieces_of right)) (drop_item left i s below is)
    ∙ ap (λ k. drives ++ (driven p (sig_part done k (pieces_of right)) ++ rest k)) (sym wide)
    ∙ ap (λ c. drives ++ (driven p c ++ rest w)) (sym same)
    ∙ sym (append_assoc drives (driven p cut) (rest w))
    ∙ ap (λ m. m ++ rest w) (sym e)

pub connected_none : (done : ℕ) (right : List Piece) → connected_from done [] right ≡ []
unfolding connected_from
connected_none done right = refl
