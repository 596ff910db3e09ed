use Rattle.std.proofs.Common.{◌≡◌, ◌+◌, ◌-◌, ◌≤◌, ◌++◌, length, take, drop, refl, ap, ◌∙◌, sym, subst, arith}
use Rattle.std.specs.List.{flat_map}
use Rattle.std.proofs.lemmas.Grind.{common_steps}
use Rattle.std.proofs.lemmas.List.Folds.{length-flat_map-take}
use Rattle.pathwriting.specs.Puts.{put}
use Rattle.pathwriting.proofs.Puts.{then-put, rest_put}
use Rattle.pathwriting.proofs.Items.{each_more}
use Rattle.pathwriting.proofs.section.put_items.Goals as goal

pub unwrap-to-requires : goal.unwrap-to-requires
unwrap-to-requires g c =
    let f = g.I.Encode.bytes in
    let x = c.item-item.result in
    let room : c.loop-item.to + length (f x) ≤ length c.loop-item.buffer = omega (arith, length-flat_map-take f c.args.items.now c.loop-item.item-index x c.loop-item-test.true, ap (λ y. length (f y)) c.item-item.is) in
    grind (arith, common_steps)

pub loop-item-preserved : goal.loop-item-preserved
loop-item-preserved g c =
    let f = g.I.Encode.bytes in
    let xs = c.args.items.now in
    let i = c.loop-item.item-index in
    let x = c.item-item.result in
    let to = c.loop-item.to in
    let b = c.loop-item.buffer in
    let is = c.item-item.is in
    let room : to + length (f x) ≤ length b = omega (arith, length-flat_map-take f xs i x c.loop-item-test.true, ap (λ y. length (f y)) is) in
    let more : flat_map f (take (i + 1) xs) ≡ flat_map f (take i xs) ++ f x = grind (arith, common_steps) in
    let size : c.unwrap-to.result ≡ length (f x) = grind (arith, common_steps) in
    let part : c.write.new.buffer ≡ put 0 (f x) (drop to b) = grind (arith, common_steps) in
    let sound : g.I.Encode.sound x = grind (arith, common_steps) in
    let mid = rest_put to (f x) b c.write.new.buffer (length b - to) (omega arith) refl part room in (
      grind (arith, common_steps),
      then-put 0 to (flat_map f (take i xs)) (f x) c.args.buffer.now b _ c.loop-item.invariant.1 mid (omega arith) (omega arith) ∙ ap (λ s. put 0 s c.args.buffer.now) (sym more),
      each_more g.I.Encode.sound xs i x c.loop-item-test.true c.loop-item.invariant.2 (subst g.I.Encode.sound is sound),
    )
