-- The same path is an equivalence.
use Rattle.std.proofs.Common.{List, [], ◌∷◌, sym, refl, ◌∙◌}
use Rattle.samepath.specs.Same.{SameWorking, parameter, Pairwise, SamePath, Equivalence}
use Rattle.samepath.proofs.Shifts.{number-trans}
use Rattle.samepath.proofs.Pairs.{pairs-same}

same-workings : Equivalence SameWorking
same-workings = record {
  reflexive = λ v. (refl, refl);
  symmetric = λ v w h. (sym h.0, sym h.1);
  transitive = λ u v w h k. (h.0 ∙ k.0, number-trans (parameter u) (parameter v) (parameter w) h.1 k.1);
}

-- one by one, an equivalence stays one
pairs : {X : Type 0} (R : X → X → Type 0) → Equivalence R → Equivalence (Pairwise R)
pairs {X = X} R e = record { reflexive = pairs-same R e.reflexive; symmetric = turn; transitive = through }
  where
    turn : (xs ys : List X) → Pairwise R xs ys → Pairwise R ys xs
    turn [] [] h = tt
    turn [] (y ∷ ys) h = h
    turn (x ∷ xs) [] h = h
    turn (x ∷ xs) (y ∷ ys) h = (e.symmetric x y h.0, turn xs ys h.1)

    through : (xs ys zs : List X) → Pairwise R xs ys → Pairwise R ys zs → Pairwise R xs zs
    through [] [] zs h k = k
    through [] (y ∷ ys) zs h k = absurd h
    through (x ∷ xs) [] zs h k = absurd h
    through (x ∷ xs) (y ∷ ys) [] h k = k
    through (x ∷ xs) (y ∷ ys) (z ∷ zs) h k = (e.transitive x y z h.0 k.0, through xs ys zs h.1 k.1)

pub same-path : Equivalence SamePath
same-path =
    let w = pairs SameWorking same-workings in
    record {
      reflexive = λ f. record { points = refl; workings = w.reflexive f.workings };
      symmetric = λ f g h. record { points = sym h.points; workings = w.symmetric f.workings g.workings h.workings };
      transitive = λ f g h p q. record { points = p.points ∙ q.points; workings = w.transitive f.workings g.workings h.workings p.workings q.workings };
    }
