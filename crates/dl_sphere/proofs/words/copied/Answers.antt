use Rattle.std.proofs.Common.{◌<◌, ◌≤◌, ◌∙◌, sym, ap, length, None, arith}
use Rattle.std.proofs.lemmas.List.{take_all}
use Rattle.std.proofs.lemmas.Option.{slice_get-get_or}
use Rattle.spec_isa.specs.Words.{Stored, put}
use Rattle.dl_sphere.proofs.Lists.Words.{put_taken}
use Rattle.dl_sphere.proofs.words.copied.Goals as goal

no-word : Stored
no-word = record { number = 0; b0 = None; b1 = None; b2 = None; b3 = None }

pub unreachable-requires : goal.unreachable-requires
unreachable-requires c =
    let words = c.args.words.now.words in
    let i = c.loop-i.i in
    let within : i < length words = let n = c.len-count.ensures.value in let t = c.loop-i-test.true in omega arith in
    c.in_default.not-Some _ (c.nth.ensures.value ∙ slice_get-get_or words i no-word within)

pub loop-i-preserved : goal.loop-i-preserved
loop-i-preserved c =
    let words = c.args.words.now.words in
    let i = c.loop-i.i in
    let s = c.in-Some.stored in
    record {
      words =
          c.put.ensures.words ∙ ap (λ ws. put ws s) c.loop-i.invariant.words ∙ put_taken words i s c.len-count.ensures.apart (sym c.nth.ensures.value ∙ c.in-Some.is);
      room = rw c.put.ensures.capacity c.loop-i.invariant.room;
    }

pub returns : goal.returns
returns c =
    let words = c.args.words.now.words in
    let i = c.loop-i.i in
    let past : length words ≤ i = let n = c.len-count.ensures.value in let t = c.loop-i-test.false in omega arith in
    c.loop-i.invariant.words ∙ take_all i words past
