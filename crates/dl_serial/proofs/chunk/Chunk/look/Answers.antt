use Rattle.std.proofs.Common.{◌≡◌, ◌||◌, ◌∙◌, ◌<◌, ◌≤◌, length, sym, ap, subst, arith}
use Rattle.std.specs.Prelude.{IsSome}
use Rattle.spec_isa.specs.Words.{lays}
use Rattle.spec_isa.specs.Runs.{Run, more, run}
use Rattle.spec_kernel.specs.Needs.{next_kind}
use Rattle.spec_strata.specs.Footprints.{looks_at}
use Rattle.dl_serial.specs.Chunks.{chunk_of}
use Rattle.dl_serial.specs.declared.chunk.Chunk.{Chunk}
use Rattle.dl_serial.proofs.Runs.{run-few, stopped-run}
use Rattle.dl_serial.proofs.Looks.{stopped-looks}
use Rattle.dl_serial.proofs.chunk.Chunk.look.Goals as goal

pub look_step-requires-clause-few : goal.look_step-requires-clause-few
look_step-requires-clause-few c =
    let now = c.loop-self in
    let m = c.args.memory.now in
    let t = c.args.self.now.thread in
    let words : length now.words.words ≡ length (run m t now.self.n).words = ap length now.invariant.words in
    let few : length (run m t now.self.n).words ≤ (run m t now.self.n).n = run-few m t now.self.n in
    let n : now.self.n ≡ (run m t now.self.n).n = ap (λ (x : Chunk). x.n) now.invariant.chunk in
    let below : now.self.n < c.args.limit = c.loop-self-test.true in
    let most : c.args.limit ≤ c.args.words.now.capacity = c.requires.most in
    omega (arith, words, few, n, below, most, now.invariant.room)

pub returns-then-not-branch-clause-ran : goal.returns-then-not-branch-clause-ran
returns-then-not-branch-clause-ran c =
    let now = c.loop-self in
    let m = c.args.memory.now in
    let t = c.args.self.now.thread in
    let r : Run = run m t now.self.n in
    let said = c.in_ok-look_step.ensures in
    let size : r.n ≡ now.self.n = sym (ap (λ (x : Chunk). x.n) now.invariant.chunk) in
    let serial : IsSome (next_kind r.thread (lays m r.words)) =
    subst IsSome (λ i. next_kind (now.invariant.chunk i).thread (lays m (now.invariant.words i))) (said.serial c.if-not-branch.true)
    in
    let chunk : c.look_step.new.self ≡ chunk_of (more m r) = said.chunk r now.invariant.chunk now.invariant.words in
    let words = said.words r now.invariant.chunk now.invariant.words in
    let below : now.self.n < c.args.limit = c.loop-self-test.true in
    let some : 1 ≤ c.args.limit = c.requires.least in
    stopped-run m t now.self.n c.args.limit c.look_step.new.self c.look_step.new.words.words (omega arith) (omega arith) size serial chunk words

pub returns-then-not-branch-clause-looked : goal.returns-then-not-branch-clause-looked
returns-then-not-branch-clause-looked c a =
    let now = c.loop-self in
    let m = c.args.memory.now in
    let t = c.args.self.now.thread in
    let r : Run = run m t now.self.n in
    let said = c.in_ok-look_step.ensures in
    let serial : IsSome (next_kind r.thread (lays m r.words)) =
    subst IsSome (λ i. next_kind (now.invariant.chunk i).thread (lays m (now.invariant.words i))) (said.serial c.if-not-branch.true)
    in
    said.looked a
    ∙ (λ i. now.invariant.looked a i || looks_at (now.invariant.chunk i).thread (lays m (now.invariant.words i)) a)
    ∙ sym (stopped-looks m t now.self.n c.args.limit a c.loop-self-test.true serial)
