-- What an opened file says, part by part.
use Rattle.std.proofs.Common.{◌≡◌, ℕ, true, List, [], length, ap, ◌∙◌}
use Rattle.std.specs.List.{slice_get}
use Rattle.pathformat.specs.declared.kind.FileKind.{FileKind}
use Rattle.pathformat.specs.Reading.{took, values, Ends}
use Rattle.pathformat.specs.File.{File, point_at, working_at}
use Rattle.pathformat.proofs.Fields.{taken-after, at_after}
use Rattle.pathfiles.specs.declared.opened.Opened.{Opened}
use Rattle.pathfiles.specs.Opened.{points_of, workings_of, says}
use Rattle.pathreading.specs.Sections.{item_at, went_through, all_read}
use Rattle.pathreading.proofs.Sections.{count-read, item-read}

-- the parts of the file f that o says
pub record Parts {K : Type 0} (k : FileKind) (o : Opened K) (f : File) : Type 0 where
  pub kind : k ≡ f.kind
  pub allowance : o.allowance ≡ f.allowance
  pub name : o.name.now ≡ f.name
  pub after_points : List ℕ
  pub points : points_of k o ≡ took f.points after_points
  pub after_workings : List ℕ
  pub workings : workings_of o ≡ took f.workings after_workings

module _ {K : Type 0} (k : FileKind) (o : Opened K) where
  pub parts : (f : File) → says k o ≡ took f [] → Parts k o f
  parts f e =
      let t = taken-after (points_of k o) _ f [] e in
      let v = taken-after (workings_of o) _ f [] t.3 in
      let g : File = record { kind = k; allowance = o.allowance; name = o.name.now; points = t.0; workings = v.0 } in
      let same : g ≡ f = let h = v.3 in cc in
      record {
        kind = ap (λ x. x.kind) same;
        allowance = ap (λ x. x.allowance) same;
        name = ap (λ x. x.name) same;
        after_points = t.1;
        points = t.2 ∙ ap (λ x. took x.points t.1) same;
        after_workings = v.1;
        workings = v.2 ∙ ap (λ x. took x.workings v.1) same;
      }

  -- where the points and the workings read, it says their file
  pub both_read : (r s : List ℕ) → Ends (points_of k o) r → Ends (workings_of o) s → says k o ≡ took (record { kind = k; allowance = o.allowance; name = o.name.now; points = values (points_of k o); workings = values (workings_of o) }) []
  both_read r s e f = at_after (points_of k o) _ _ r e ∙ at_after (workings_of o) _ _ s f

  -- where it says a file, all of them read
  pub points-read : (f : File) → says k o ≡ took f [] → all_read (point_at k) o.points ≡ true
  points-read f e = ap went_through (parts f e).points

  pub workings-read : (f : File) → says k o ≡ took f [] → all_read working_at o.workings ≡ true
  workings-read f e = ap went_through (parts f e).workings

  -- they are as many as those of the file
  pub point-count-said : (f : File) → says k o ≡ took f [] → o.points.count ≡ length f.points
  point-count-said f e = count-read (point_at k) o.points (points-read f e) ∙ ap (λ q. length (values q)) (parts f e).points

  pub working-count-said : (f : File) → says k o ≡ took f [] → o.workings.count ≡ length f.workings
  working-count-said f e = count-read working_at o.workings (workings-read f e) ∙ ap (λ q. length (values q)) (parts f e).workings

  -- the items at an index are those of the file
  pub point-said : (i : ℕ) (f : File) → says k o ≡ took f [] → item_at (point_at k) o.points i ≡ slice_get f.points i
  point-said i f e = item-read (point_at k) o.points (points-read f e) i ∙ ap (λ q. slice_get (values q) i) (parts f e).points

  pub working-said : (i : ℕ) (f : File) → says k o ≡ took f [] → item_at working_at o.workings i ≡ slice_get f.workings i
  working-said i f e = item-read working_at o.workings (workings-read f e) i ∙ ap (λ q. slice_get (values q) i) (parts f e).workings
