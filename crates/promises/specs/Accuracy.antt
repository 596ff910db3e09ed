-- The accuracy of the kernel in one place, over the definitions that the calls' own clauses use: for points of any kind, which has so many axes and reads its points by c, and for every source
-- (by what it means).
use Rattle.std.specs.Prelude.{ℕ}
use Rattle.points.specs.declared.parameter.Parameter.{Parameter}
use Rattle.points.specs.Points.{Point}
use Rattle.sources.specs.Meaning.{Meaning, Sound}
use Rattle.sources.specs.Points.{point_of}
use Rattle.sources.specs.Accuracy.{AccurateOver}
use Rattle.strands.specs.States.{State, strand_point}
use Rattle.strands.specs.Histories.{AccurateAfter}
use Rattle.flattening.specs.Chords.{ChordBound}
use Rattle.flattening.specs.Flattening.{flatten_of, vertices_of, parameters_of}

pub record Accuracy {X : Type 0} (c : X → Point) (width : ℕ) : Type 0 where
  -- a point of any pile over any bottom is near every drawing that the bottom stands for, and in the box
  pub point : (m : Meaning) (t : Parameter) (places : ℕ) → Sound m → AccurateOver width m t (point_of t m places)
  -- the vertices of an accepted flattening rise from 0 to 4,096, and each chord between two of them is near every such drawing
  pub chords : (tolerance : ℕ → ℕ) (m : Meaning) (working points parameters : ℕ) → Sound m → ChordBound width tolerance m (flatten_of width tolerance m working points parameters) (vertices_of width tolerance m) (parameters_of width tolerance m)
  -- a strand's point is near them after every list of calls since its load
  pub strand : (s : State X) (t : Parameter) (places : ℕ) → AccurateAfter c width s t (strand_point c t s places)
