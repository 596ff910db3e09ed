-- What the accuracy statements say by themselves, without the clauses that pin the answers.
use Rattle.std.specs.Prelude.{ℕ, List, [], ◌∷◌, map, pos, Ok}
use Rattle.exact.specs.Fractions.{whole}
use Rattle.points.specs.declared.parameter.Parameter.{Parameter}
use Rattle.points.specs.Points.{Point}
use Rattle.workings.specs.declared.working.Working.TheVariants.{Left}
use Rattle.sources.specs.Meaning.{Meaning, holds, Held}
use Rattle.sources.specs.Accuracy.{Drawing, Stands, AccurateOver, AccurateFor}
use Rattle.flattening.specs.Bites.{ChordsBite}

-- the held points themselves, as a drawing
abbrev pub itself : List Point → Drawing
itself ps = map (λ p a. whole (p a)) ps

abbrev pub height : ℕ → Point
height n = λ _. pos n

abbrev pub half : Parameter
half = record { a = 1; k = 1 }

abbrev pub one : Parameter
one = record { a = 1; k = 0 }

-- heights 0 and 100, and heights 0, 0, 0, 1, both with allowance 0
abbrev pub rise : Meaning
rise = holds (record { points = height 0 ∷ (height 100 ∷ []); allowance = 0; reach = 2 })

abbrev pub step : Meaning
step = holds (record { points = height 0 ∷ (height 0 ∷ (height 0 ∷ (height 1 ∷ []))); allowance = 0; reach = 4 })

pub record Bites : Type 0 where
  -- one chord for a hill, an invented vertex, an end before the last: refuted from the chord bound alone
  pub chords : ChordsBite
  -- a source stands for its own polygon, so no promise is about nothing
  pub stands : (width : ℕ) (h : Held) → Stands width (holds h) (itself h.points)
  -- the answer P(0) at 1/2
  pub not_the_first : AccurateOver 1 rise half (Ok (height 0, 1)) → ⊥
  -- the right point, but with the source's allowance alone
  pub not_without_degree : AccurateOver 1 step half (Ok (height 1, 0)) → ⊥
  -- a left part at 1/2 that moved nothing, seen at 1
  pub not_untrimmed : AccurateFor 1 rise (Left half ∷ []) one (Ok (height 100, 2)) → ⊥
  -- a second left part at 1/2 that was only pretended, seen at 1
  pub not_pretended : AccurateFor 1 rise (Left half ∷ (Left half ∷ [])) one (Ok (height 50, 3)) → ⊥
  -- a point that no pile draws from below, however large its allowance
  pub not_from_elsewhere : AccurateFor 1 rise [] half (Ok (height 101, 65535)) → ⊥
