use Rattle.std.proofs.Common.{◌≡◌, ℕ, ◌+◌, ◌-◌, ◌*◌, ◌/◌, ◌%◌, ◌<◌, ◌≤◌, ℤ, pos, negsuc, ◌+ℤ◌, ◌*ℤ◌, sym, ap, ◌∙◌, mul-le-mul_left, div-add-mod', arith}
use native.Mathlib.Nat.{add-mul-div_right}
use borrow.Author.Differences.{up, down, same_in, same_out, sum_is_lem, product_is}
use Rattle.std.proofs.lemmas.Nat.{mod_below, div-mul-add, div_below}
use Rattle.exact.specs.Mixing.{floor_div}
use Rattle.points.specs.Points.{mixed}

-- a shift by a multiple of the divisor
pub floor_div-shift : (z : ℤ) (k m n : ℕ) → 0 < m → z +ℤ pos (k * m) ≡ pos n → floor_div z m +ℤ pos k ≡ pos (n / m)
floor_div-shift (pos a) k m n h e =
    let e1 : a + k * m ≡ n = ap up e in
    let e2 : (a + k * m) / m ≡ a / m + k = add-mul-div_right a k h in
    ap pos (sym e2 ∙ ap (λ x. x / m) e1)
floor_div-shift (negsuc a) k m n h e =
    let s = sum_is_lem (negsuc a) (pos (k * m)) in
    let so = same_out _ _ e in
    let e1 : n + a + 1 ≡ k * m = omega (arith, s, so) in
    let q = a / m in
    let r = a % m in
    let dm : q * m + r ≡ a = div-add-mod' a m in
    let rl : r < m = mod_below a m h in
    let lt : q * m + r < k * m = omega arith in
    let ql : q < k = div_below a m k h (omega arith) in
    let nn : (k - q - 1) * m + (m - 1 - r) ≡ n = below k q m r n ql rl (omega arith) in
    let dn : n / m ≡ k - q - 1 = ap (λ x. x / m) (sym nn) ∙ div-mul-add (k - q - 1) m (m - 1 - r) (omega arith) in
    same_in _ _ (omega (arith, sum_is_lem (negsuc q) (pos k), dn))
  where
    below : (k q m r n : ℕ) → q < k → r < m → n + (q * m + r) + 1 ≡ k * m → (k - q - 1) * m + (m - 1 - r) ≡ n
    below k q m r n ql rl e =
        let j = k - q - 1 in
        let ke : k ≡ j + q + 1 = omega arith in
        let ke2 : k * m ≡ (j + q + 1) * m = ap (λ x. x * m) ke in
        omega arith

-- one axis value counted from the least one, mixed there
pub mixed-shifted : (w d u v : ℕ) (p q r : ℤ) → 1 ≤ d → w ≤ d → pos u ≡ p +ℤ pos 2147483648 → pos v ≡ q +ℤ pos 2147483648 → r +ℤ pos 2147483648 ≡ pos ((2 * ((d - w) * u + w * v) + d) / (2 * d)) → r ≡ mixed w d p q
unfolding mixed
mixed-shifted w d u v p q r dl wd eu ev er =
    let E = d - w in
    let su : u + down p ≡ up p + 2147483648 = omega (arith, same_out _ _ eu, sum_is_lem p (pos 2147483648)) in
    let sv : v + down q ≡ up q + 2147483648 = omega (arith, same_out _ _ ev, sum_is_lem q (pos 2147483648)) in
    let mu = ap (λ x. E * x) su in
    let mv = ap (λ x. w * x) sv in
    let N = pos E *ℤ p +ℤ pos w *ℤ q in
    let Z = pos 2 *ℤ N +ℤ pos d in
    let M = 2 * (E * u + w * v) + d in
    let z : Z +ℤ pos (2147483648 * (2 * d)) ≡ pos M = same_in _ _ (omega (arith, product_is (pos E) p, product_is (pos w) q, sum_is_lem (pos E *ℤ p) (pos w *ℤ q), product_is (pos 2) N, sum_is_lem (pos 2 *ℤ N) (pos d), sum_is_lem Z (pos (2147483648 * (2 * d))), mu, mv)) in
    let f = floor_div-shift Z 2147483648 (2 * d) M (omega arith) z in
    same_in _ _ (omega (arith, same_out _ _ f, same_out _ _ er, sum_is_lem (floor_div Z (2 * d)) (pos 2147483648), sum_is_lem r (pos 2147483648)))

-- the sum and its quotient are within their bounds
pub weighed-below : (w d u v : ℕ) → w ≤ d → u < 4294967296 → v < 4294967296 → (d - w) * u + w * v ≤ d * 4294967295
weighed-below w d u v wd ul vl =
    let E = d - w in
    let a : E * u ≤ E * 4294967295 = mul-le-mul_left E (omega arith) in
    let b : w * v ≤ w * 4294967295 = mul-le-mul_left w (omega arith) in
    omega arith

pub weighed-quot : (w d u v : ℕ) → 1 ≤ d → w ≤ d → u < 4294967296 → v < 4294967296 → (2 * ((d - w) * u + w * v) + d) / (2 * d) < 4294967296
weighed-quot w d u v dl wd ul vl =
    let b = weighed-below w d u v wd ul vl in
    div_below _ (2 * d) 4294967296 (omega arith) (omega (arith, b))
