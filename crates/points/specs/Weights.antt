-- Weights.
use Rattle.std.specs.Prelude.{ℕ, ◌≤◌}

-- w/d is a weight
abbrev pub IsWeight : ℕ → ℕ → Type 0
IsWeight w d = (1 ≤ d) × (d ≤ 32768) × (w ≤ d)
