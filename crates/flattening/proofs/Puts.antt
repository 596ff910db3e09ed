-- Values put on a buffer from a place on.
use Rattle.std.proofs.Common.{◌≡◌, ℕ, suc, ◌+◌, List, [], ◌∷◌, ◌++◌, map, length, drop, set, sym, refl, ap, ◌∙◌, subst, arith}
use Rattle.std.proofs.lemmas.List.{length-append, length-map, map-set, drop-set-lt}
use Rattle.std.proofs.Math.Seq.{length-sets}
use Rattle.std.proofs.lemmas.List.Edits.{sets}
use Rattle.sources.proofs.Meanings.{drop-further}
use Rattle.points.specs.Points.{Point}
use Rattle.flattening.specs.declared.vertices.Vertices.{Vertices}
use Rattle.flattening.specs.Walks.{PutFrom, Adds}

sets-append : {Y : Type 0} (l : List Y) (i : ℕ) (xs ys : List Y) → sets l i (xs ++ ys) ≡ sets (sets l i xs) (i + length xs) ys
sets-append l i [] ys = ap (λ n. sets l n ys) (omega arith)
sets-append l i (x ∷ xs) ys = sets-append (set l i x) (suc i) xs ys ∙ ap (λ n. sets (sets (set l i x) (suc i) xs) n ys) (omega arith)

module _ {X Y : Type 0} (c : X → Y) where
  pub put_one : (i : ℕ) (y : Y) (x : X) (before after : List X) → after ≡ set before i x → c x ≡ y → PutFrom c i (y ∷ []) before after
  put_one i y x before after e ex = record {
    puts = ap (map c) e ∙ map-set c before i x ∙ ap (set (map c before) i) ex;
    rest = ap (drop (i + 1)) e ∙ drop-set-lt (i + 1) before i x (omega arith);
  }

  pub put-more : (i j : ℕ) (ys zs : List Y) (before mid after : List X) → j ≡ i + length ys → PutFrom c i ys before mid → PutFrom c j zs mid after → PutFrom c i (ys ++ zs) before after
  put-more i j ys zs before mid after e p q = record {
    puts = q.puts ∙ ap (λ l. sets l j zs) p.puts ∙ ap (λ n. sets (sets (map c before) i ys) n zs) e ∙ sym (sets-append (map c before) i ys zs);
    rest = subst (λ n. drop n after ≡ drop n mid) (let k : j + length zs ≡ i + length (ys ++ zs) = omega (arith, length-append ys zs) in k) q.rest ∙ drop-further mid before (i + length ys) (i + length (ys ++ zs)) (omega (arith, length-append ys zs)) p.rest;
  }

pub put-length : {X Y : Type 0} (c : X → Y) (i : ℕ) (ys : List Y) (before after : List X) → PutFrom c i ys before after → length after ≡ length before
put-length c i ys before after p = sym (length-map after c) ∙ ap length p.puts ∙ length-sets (map c before) i ys ∙ length-map before c

module _ {K : Type 0} (c : K → Point) where
  -- one vertex
  pub adds_one : (v w : Vertices K) (x : K) (p : Point) (m k : ℕ) → w.count ≡ v.count + 1 → w.points.now ≡ set v.points.now v.count x → w.parameters.now ≡ set v.parameters.now v.count k → c x ≡ p → k ≡ m → Adds c (p ∷ []) (m ∷ []) v w
  adds_one v w x p m k count xs ms ep em = record { even = refl; count = count; points = put_one c v.count p x _ _ xs ep; parameters = put_one (λ m. m) v.count m k _ _ ms em }

  -- and others after them
  pub adds-more : (ps qs : List Point) (ms ns : List ℕ) (u v w : Vertices K) → Adds c ps ms u v → Adds c qs ns v w → Adds c (ps ++ qs) (ms ++ ns) u w
  adds-more ps qs ms ns u v w a b = record {
    even = omega (arith, a.even, b.even, length-append ps qs, length-append ms ns);
    count = omega (arith, a.count, b.count, length-append ps qs);
    points = put-more c u.count v.count ps qs _ _ _ a.count a.points b.points;
    parameters = put-more (λ m. m) u.count v.count ms ns _ _ _ (omega (arith, a.count, a.even)) a.parameters b.parameters;
  }
