use Rattle.std.proofs.Common.{◌≡◌, ℕ, suc, ◌*◌, ◌^◌, ◌<◌, Bool, true, false, ℤ, pos, negsuc, sym, refl, ap, ◌∙◌, subst, lt_trans, mul_assoc, mul_comm, mul-pos, mul-one, arith, lit<, pow_pos, shl_lt, w32, SFits}
use borrow.Author.Differences.{fits_out}
use lib.Ieee.{Float, nan, inf, fin, binary64, up, down, round, div, of_int, of_bits, of_fields}
use lib.Ieee.Exact.{HasValue, round_exact}
use lib.Ieee.Scale.{round_same}
use Rattle.strokes.specs.Strokes.{InMillimetres}

-- the float 256.0
pub two-fifty-six : of_bits binary64 4643211215818981376 ≡ fin false 1 (pos 8)
unfolding of_bits of_fields
two-fifty-six = refl

-- a whole number below 2 ^ 53 is a float
whole : (s : Bool) (n : ℕ) → n < 2 ^ 53 → HasValue (round binary64 s n 1) s n 1
whole s n h = round_exact binary64 s n 1 n 1074 (lit< tt) h (lt_trans (shl_lt {a = n} 53 1074 h) (lit< tt)) (sym (mul-one (n * 2 ^ 1074)))

-- and so is its 256th
part : (s : Bool) (n : ℕ) → n < 2 ^ 53 → HasValue (round binary64 s n 256) s n 256
part s n h = round_exact binary64 s n 256 n 1066 (lit< tt) h (lt_trans (shl_lt {a = n} 53 1066 h) (lit< tt)) (sym (mul_assoc n (2 ^ 1066) 256))

down_pos : (e : ℤ) → 0 < down e
down_pos (pos k) = lit< tt
down_pos (negsuc k) = pow_pos (suc k)

-- the quotient of fractions, as round has it
across : (a n d : ℕ) → a * 1 ≡ n * d → a * 1 * 256 ≡ n * (1 * 256 * d)
across a n d e = ap (λ k. k * 256) e ∙ mul_assoc n d 256 ∙ ap (λ k. n * k) (mul_comm d 256)

quotient : (s : Bool) (n : ℕ) (x : Float) → n < 2 ^ 53 → HasValue x s n 1 → HasValue (div binary64 x (fin false 1 (pos 8))) s n 256
unfolding div
quotient s n nan h v = absurd v
quotient s n (inf t) h v = absurd v
quotient s n (fin true m e) h v =
    subst (λ y. HasValue y s n 256) (sym (round_same binary64 true (m * up e * 1) (1 * 256 * down e) n 256 (mul-pos (lit< tt) (down_pos e)) (lit< tt) (across (m * up e) n (down e) v.1)))
    (subst (λ b. HasValue (round binary64 true n 256) b n 256) v.0 (part true n h))
quotient s n (fin false m e) h v =
    subst (λ y. HasValue y s n 256) (sym (round_same binary64 false (m * up e * 1) (1 * 256 * down e) n 256 (mul-pos (lit< tt) (down_pos e)) (lit< tt) (across (m * up e) n (down e) v.1)))
    (subst (λ b. HasValue (round binary64 false n 256) b n 256) v.0 (part false n h))

-- for every 32-bit number the quotient is exact
pub exact : (x : ℤ) → SFits w32 x → InMillimetres x (div binary64 (of_int binary64 x) (of_bits binary64 4643211215818981376))
unfolding of_int
exact (pos n) f =
    let h = fits_out w32 (pos n) f in
    subst (λ d. HasValue (div binary64 (round binary64 false n 1) d) false n 256) (sym two-fifty-six) (quotient false n (round binary64 false n 1) (omega arith) (whole false n (omega arith)))
exact (negsuc n) f =
    let h = fits_out w32 (negsuc n) f in
    subst (λ d. HasValue (div binary64 (round binary64 true (suc n) 1) d) true (suc n) 256) (sym two-fifty-six) (quotient true (suc n) (round binary64 true (suc n) 1) (omega arith) (whole true (suc n) (omega arith)))
