use Rattle.std.proofs.Common.{◌≡◌, ℕ, ◌+◌, List, sym, ap, ◌∙◌, subst}
use Rattle.std.specs.Prelude.{slice_set}
use Rattle.spec_isa.specs.declared.thread.Parts.{Parts}
use Rattle.spec_tail.specs.Playing.{begun}
use Rattle.spec_tail.specs.Tails.{Tail}
use Rattle.dl_serial.proofs.Recounted.{AreCounted, next-counted}
use Rattle.dl_serial.proofs.tails.add_begun.Goals as goal

pub loop-number-preserved : goal.loop-number-preserved
loop-number-preserved c =
    let t = c.args.tail.now in
    let now = c.loop-number in
    let p = c.thread_at.result in
    let own = c.parts-thread.ensures.value in
    let threads : c.as_slice-begun_threads.result.now ≡ t.threads =
    c.as_slice-begun_threads.ensures ∙ ap (λ (x : Tail). x.threads) c.parts-parts.ensures.parts
    in
    let before : c.begun.result ≡ begun t.threads now.number = c.begun.ensures ∙ ap (λ (ps : List Parts). begun ps now.number) threads in
    let is : c.set.new.self ≡ slice_set now.threads now.number (record p { commits = begun t.threads now.number + p.commits }) =
    c.set.ensures
    ∙ ap (slice_set now.threads now.number) (c.with_commits.ensures
    ∙ ap (λ (q : Parts). record q { commits = c.begun.result + q.commits }) own
    ∙ ap (λ (n : ℕ). record p { commits = n + p.commits }) before)
    in
    subst (λ (ts : List Parts). AreCounted (begun t.threads) c.args.threads.now ts (now.number + 1)) (sym is)
    (next-counted (begun t.threads) c.args.threads.now now.threads now.number p now.invariant c.thread_at.ensures.thread)
