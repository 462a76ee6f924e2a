use Rattle.std.proofs.Common.{rules, ◌≡◌, ℕ, ◌+◌, ◌-◌, ◌≤◌, List, ◌++◌, Option, length, take, drop, sym, ap, ◌∙◌, subst, le_refl, drop_at, length-take-le}
use Rattle.std.proofs.lemmas.Slice.{take-put_mid_below}
use Rattle.std.specs.Io.KnownBytes.{Consumes}
use Rattle.std.proofs.KnownBytes.{Consumes-trans}
use borrow.Rule.Slice.PartMut.{put_mid, post_of}
use lib.Seq.{take-add, take-append-le}
use Rattle.dl_files.proofs.Telling.{Reads-trans}
use Rattle.dl_files.proofs.streams.fill.Goals as goal

-- what is in front once n more bytes were read after the first a
front-read : (a k n : ℕ) (xs ys : List ℕ) → a ≤ length xs → n ≤ length ys → take (a + n) (put_mid a k xs ys) ≡ take a xs ++ take n ys
front-read a k n xs ys within fits =
    let after = post_of a k xs in
    take-add a n (put_mid a k xs ys)
    ∙ ap (λ l. l ++ take n (drop a (put_mid a k xs ys))) (take-put_mid_below a k xs ys a (le_refl a) within)
    ∙ ap (λ l. take a xs ++ take n l) (drop_at (take a xs) (ys ++ after) a (length-take-le a xs within))
    ∙ ap (λ l. take a xs ++ l) (take-append-le n ys after fits)

-- one read more
read-more : (old mid new : Option (List ℕ)) (a k n : ℕ) (xs ys : List ℕ) → a ≤ length xs → n ≤ length ys
    → Consumes old mid (take a xs) → Consumes mid new (take n ys) → Consumes old new (take (a + n) (put_mid a k xs ys))
read-more old mid new a k n xs ys within fits first second =
    subst (Consumes old new) (sym (front-read a k n xs ys within fits)) (Consumes-trans old mid new _ _ first second)

pub loop-filled-preserved : goal.loop-filled-preserved
loop-filled-preserved g c =
    let from = c.loop-filled.filled in
    let room = length c.loop-filled.into - from in (
      search rules,
      read-more _ _ _ from room c.in_ok-n.n c.loop-filled.into c.read_some.new.into c.loop-filled.invariant.0 (search rules) c.loop-filled.invariant.1 c.in_ok-n.ensures.bytes.0,
      Reads-trans _ _ _ c.loop-filled.invariant.2 c.in_ok-n.ensures.ok,
    )
