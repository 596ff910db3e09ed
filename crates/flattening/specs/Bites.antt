-- What the chord bound refuses by itself, without the clauses that pin the answer and the vertices.
use Rattle.std.specs.Prelude.{[], ◌∷◌, Ok}
use Rattle.sources.specs.Meaning.{in_memory}
use Rattle.flattening.specs.Chords.{ChordBound}
use Rattle.flattening.specs.Values.{heights}

pub record ChordsBite : Type 0 where
  -- heights 0, 100, 0 to tolerance 1 are not one chord
  pub not_unhalved : ChordBound 1 (λ _. 1) (in_memory (heights (0 ∷ (100 ∷ (0 ∷ [])))) 0) (Ok 2) (heights (0 ∷ (0 ∷ []))) (0 ∷ (4096 ∷ [])) → ⊥
  -- heights 0, 0 to tolerance 0 have no vertex of height 100 in between
  pub not_invented : ChordBound 1 (λ _. 0) (in_memory (heights (0 ∷ (0 ∷ []))) 0) (Ok 3) (heights (0 ∷ (100 ∷ (0 ∷ [])))) (0 ∷ (2048 ∷ (4096 ∷ []))) → ⊥
  -- nor do they end at 2,048
  pub not_cut_off : ChordBound 1 (λ _. 0) (in_memory (heights (0 ∷ (0 ∷ []))) 0) (Ok 2) (heights (0 ∷ (0 ∷ []))) (0 ∷ (2048 ∷ [])) → ⊥
