use Rattle.std.proofs.Common.{◌≡◌, suc, ◌+◌, sym, ap, ◌∙◌, arith}
use Rattle.spec_isa.specs.Runs.{Run}
use Rattle.dl_serial.specs.Chunks.{chunk_of}
use Rattle.dl_serial.specs.declared.chunk.Chunk.{Chunk}
use Rattle.dl_serial.proofs.Running.{next-more, serial-found, serial-more}
use Rattle.dl_serial.proofs.chunk.Chunk.step.Goals as goal

pub returns-in_ok-note_load-in-Next-clause-chunk : goal.returns-in_ok-note_load-in-Next-clause-chunk
returns-in_ok-note_load-in-Next-clause-chunk c r is same =
    let said = c.in-Next.ensures in
    let loads = c.in_ok-note_load-in-Next.ensures r.loads (ap (λ (x : Chunk). x.loads) is) in
    let next =
    next-more c.args.memory.now c.args.words.now c.run_one.new.words r c.args.self.now.thread c.run_one.new.thread c.in-Next.load (ap (λ (x : Chunk). x.thread) is) same said.did said.thread said.words
    in
    let size : c.args.self.now.n + 1 ≡ suc r.n = (let same : c.args.self.now.n ≡ r.n = ap (λ (x : Chunk). x.n) is in omega (arith, same)) in
    (λ i. record { thread = c.run_one.new.thread; loads = loads i; n = size i }) ∙ ap chunk_of (sym next)

pub returns-in_ok-note_load-in-Next-clause-words : goal.returns-in_ok-note_load-in-Next-clause-words
returns-in_ok-note_load-in-Next-clause-words c r is same =
    let said = c.in-Next.ensures in
    sym (ap (λ (x : Run). x.words)
    (next-more c.args.memory.now c.args.words.now c.run_one.new.words r c.args.self.now.thread c.run_one.new.thread c.in-Next.load (ap (λ (x : Chunk). x.thread) is) same said.did said.thread said.words))

pub returns-in-Serial-clause-chunk : goal.returns-in-Serial-clause-chunk
returns-in-Serial-clause-chunk c r is same =
    let was = c.args.self.now in
    let said = c.in-Serial.ensures in
    (λ i. record { thread = said.thread i; loads = was.loads; n = was.n }) ∙ is
    ∙ ap chunk_of (sym (serial-more c.args.memory.now c.args.words.now r was.thread c.in-Serial.field-0 (ap (λ (x : Chunk). x.thread) is) same said.did))

pub returns-in-Serial-clause-words : goal.returns-in-Serial-clause-words
returns-in-Serial-clause-words c r is same =
    let said = c.in-Serial.ensures in
    ap (λ w. w.words) said.words ∙ same
    ∙ ap (λ (x : Run). x.words) (sym (serial-more c.args.memory.now c.args.words.now r c.args.self.now.thread c.in-Serial.field-0 (ap (λ (x : Chunk). x.thread) is) same said.did))

pub returns-in-Serial-clause-serial : goal.returns-in-Serial-clause-serial
returns-in-Serial-clause-serial c _ = serial-found c.args.memory.now c.args.words.now c.args.self.now.thread c.in-Serial.field-0 c.in-Serial.ensures.did
