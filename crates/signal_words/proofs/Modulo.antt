-- Whole numbers modulo a power of 2.
use Rattle.std.proofs.Common.{◌≡◌, ℕ, ◌+◌, ◌-◌, ◌*◌, ◌/◌, ◌%◌, ◌^◌, ◌<◌, ◌≤◌, sym, ◌∙◌, ap, arith}
use Rattle.std.proofs.lemmas.Nat.{mod_below, pow_pos, pow-add, div-add-mod', same_from_place}
use Rattle.std.proofs.Math.Nat.{add-mul-mod_self_right, mod-eq_of_lt}
use Rattle.std.specs.Prelude.{ℤ, pos, negsuc, ◌+ℤ◌, ◌-ℤ◌, ◌*ℤ◌, neg_ℤ}
use borrow.Author.Differences.{up, down, sum_is_lem, neg_is, product_is}
use Rattle.circuit.specs.Output.{modulo}

-- a whole number is this number but for multiples of m
abbrev pub Is : ℕ → ℤ → ℕ → Type 0
Is m z n = (i : ℕ) × (j : ℕ) × (up z + i * m ≡ n + down z + j * m)

pub is_only : (w : ℕ) (z : ℤ) (n : ℕ) → n < 2 ^ w → Is (2 ^ w) z n → n ≡ modulo w z
is_only w (pos a) n lt (i, j, e) =
    let f : n + j * 2 ^ w ≡ a + i * 2 ^ w = omega arith in
    sym (add-mul-mod_self_right n j (2 ^ w) ∙ mod-eq_of_lt lt) ∙ ap (λ x. x % 2 ^ w) f ∙ add-mul-mod_self_right a i (2 ^ w)
is_only w (negsuc a) n lt (i, j, e) =
    let p : 0 < 2 ^ w = pow_pos w in
    let below : a % 2 ^ w < 2 ^ w = mod_below a (2 ^ w) p in
    let split : a / 2 ^ w * 2 ^ w + a % 2 ^ w ≡ a = div-add-mod' a (2 ^ w) in
    let f : i * 2 ^ w + (2 ^ w - 1 - a % 2 ^ w) ≡ (a / 2 ^ w + j + 1) * 2 ^ w + n = omega arith in
    let g : (i ≡ a / 2 ^ w + j + 1) × (2 ^ w - 1 - a % 2 ^ w ≡ n) = same_from_place i (2 ^ w - 1 - a % 2 ^ w) (a / 2 ^ w + j + 1) n (2 ^ w) (omega arith) lt f in
    sym g.1

pub modulo_is : (w : ℕ) (z : ℤ) → Is (2 ^ w) z (modulo w z)
modulo_is w (pos a) = (0, a / 2 ^ w, omega (arith, div-add-mod' a (2 ^ w)))
modulo_is w (negsuc a) =
    let below : a % 2 ^ w < 2 ^ w = mod_below a (2 ^ w) (pow_pos w) in
    (a / 2 ^ w + 1, 0, omega (arith, div-add-mod' a (2 ^ w)))

pub modulo_below : (w : ℕ) (z : ℤ) → modulo w z < 2 ^ w
modulo_below w (pos a) = mod_below a (2 ^ w) (pow_pos w)
modulo_below w (negsuc a) = omega (arith, pow_pos w)

pub is_sum : (m : ℕ) (a b : ℤ) (x y : ℕ) → Is m a x → Is m b y → Is m (a +ℤ b) (x + y)
is_sum m a b x y (i, j, e) (k, l, f) = (i + k, j + l, omega (arith, sum_is_lem a b))

pub is_negation : (m : ℕ) (a : ℤ) (x : ℕ) → x ≤ m → Is m a x → Is m (neg_ℤ a) (m - x)
is_negation m a x le (i, j, e) = let n = neg_is a in (j + 1, i, omega (arith, n.0, n.1))

pub is_difference : (m : ℕ) (a b : ℤ) (x y : ℕ) → y ≤ m → Is m a x → Is m b y → Is m (a -ℤ b) (x + (m - y))
is_difference m a b x y le p q = is_sum m a (neg_ℤ b) x (m - y) p (is_negation m b y le q)

pub is_product : (m : ℕ) (a b : ℤ) (x y : ℕ) → Is m a x → Is m b y → Is m (a *ℤ b) (x * y)
is_product m a b x y (i, j, e) (k, l, f) =
    let p = product_is a b in (
      k * up a + l * down a + i * y,
      l * up a + k * down a + j * y,
      omega (arith, p.0, p.1, ap (λ t. t * y) e, ap (λ t. up a * t) f, ap (λ t. down a * t) f),
    )

pub is_rest : (m : ℕ) (a : ℤ) (x : ℕ) → Is m a x → Is m a (x % m)
is_rest m a x (i, j, e) = (i, j + x / m, omega (arith, div-add-mod' x m))

-- a power that is not larger
pub is_lower : (w v : ℕ) (a : ℤ) (x : ℕ) → w ≤ v → Is (2 ^ v) a x → Is (2 ^ w) a x
is_lower w v a x le (i, j, e) =
    let s : w + (v - w) ≡ v = omega arith in
    let p : 2 ^ v ≡ 2 ^ w * 2 ^ (v - w) = ap (λ k. 2 ^ k) (sym s) ∙ pow-add 2 w (v - w) in
    (i * 2 ^ (v - w), j * 2 ^ (v - w), omega (arith, ap (λ t. i * t) p, ap (λ t. j * t) p))

pub modulo_of : (w : ℕ) (z : ℤ) (x : ℕ) → Is (2 ^ w) z x → x % 2 ^ w ≡ modulo w z
modulo_of w z x is = is_only w z (x % 2 ^ w) (mod_below x (2 ^ w) (pow_pos w)) (is_rest (2 ^ w) z x is)

-- fewer digits of the same number
pub modulo_lower : (w v : ℕ) (z : ℤ) → w ≤ v → modulo v z % 2 ^ w ≡ modulo w z
modulo_lower w v z le = modulo_of w z (modulo v z) (is_lower w v z (modulo v z) le (modulo_is v z))

pub modulo_product : (w : ℕ) (a b : ℤ) (x y : ℕ) → x ≡ modulo w a → y ≡ modulo w b → x * y % 2 ^ w ≡ modulo w (a *ℤ b)
modulo_product w a b x y e f = rw (e, f) (modulo_of w (a *ℤ b) (modulo w a * modulo w b) (is_product (2 ^ w) a b (modulo w a) (modulo w b) (modulo_is w a) (modulo_is w b)))

pub modulo_difference : (w : ℕ) (a b : ℤ) (x y : ℕ) → x ≡ modulo w a → y ≡ modulo w b → (x + (2 ^ w - y)) % 2 ^ w ≡ modulo w (a -ℤ b)
modulo_difference w a b x y e f =
    let below : modulo w b < 2 ^ w = modulo_below w b in
    rw (e, f) (modulo_of w (a -ℤ b) (modulo w a + (2 ^ w - modulo w b)) (is_difference (2 ^ w) a b (modulo w a) (modulo w b) (omega arith) (modulo_is w a) (modulo_is w b)))
