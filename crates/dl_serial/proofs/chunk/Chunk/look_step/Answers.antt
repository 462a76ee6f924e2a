use Rattle.std.proofs.Common.{◌≡◌, ℕ, suc, ◌+◌, List, sym, ap, ◌∙◌, arith}
use Rattle.spec_isa.specs.declared.thread.Parts.{Parts}
use Rattle.spec_isa.specs.declared.thread.Load.{Load}
use Rattle.spec_isa.specs.declared.thread.Kind.{Kind}
use Rattle.spec_isa.specs.Runs.{Run}
use Rattle.dl_wbuf.specs.Buffers.{Words}
use Rattle.dl_thread.specs.declared.answer.Did.{Did}
use Rattle.dl_thread.specs.Answer.{after, did, store_laid, store_made, thread_next}
use Rattle.dl_serial.specs.Overlays.{sight_of, with_store}
use Rattle.dl_serial.specs.Chunks.{chunk_of}
use Rattle.dl_serial.specs.declared.chunk.Chunk.{Chunk}
use Rattle.dl_serial.proofs.Running.{next-more, next-room, serial-found, serial-more}
use Rattle.dl_serial.proofs.chunk.Chunk.look_step.Goals as goal

-- what is said of the instruction's outcome is said of this one
record Says (m : List ℕ) (ws new : Words) (t next : Parts) (d : Did) : Type 0 where
  did_is : d ≡ did (sight_of m ws) t
  thread_is : next ≡ after d t (thread_next (sight_of m ws) t)
  words_are : new ≡ with_store ws (store_laid d (store_made (sight_of m ws) t))

says : (m : List ℕ) (ws new : Words) (t next : Parts) (d e : Did) → d ≡ e → d ≡ did (sight_of m ws) t → next ≡ after d t (thread_next (sight_of m ws) t)
    → new ≡ with_store ws (store_laid d (store_made (sight_of m ws) t)) → Says m ws new t next e
says m ws new t next d e is a b c =
    record {
      did_is = sym is ∙ a;
      thread_is = b ∙ ap (λ (x : Did). after x t (thread_next (sight_of m ws) t)) is;
      words_are = c ∙ ap (λ (x : Did). with_store ws (store_laid x (store_made (sight_of m ws) t))) is;
    }

pub returns-in_ok-note_load-in-Next-clause-chunk : goal.returns-in_ok-note_load-in-Next-clause-chunk
returns-in_ok-note_load-in-Next-clause-chunk c r is same =
    let t = c.args.self.now.thread in
    let next = c.look_one-look.new.thread in
    let e = c.look_one-look.ensures in
    let said = says c.args.memory.now c.args.words.now c.look_one-look.new.words t next c.look_one-look.result.did (Did.Next c.in-Next.load) c.in-Next.is e.did e.thread e.words in
    let loads = c.in_ok-note_load-in-Next.ensures r.loads (ap (λ (x : Chunk). x.loads) is) in
    let more_ =
    next-more c.args.memory.now c.args.words.now c.look_one-look.new.words r t next c.in-Next.load (ap (λ (x : Chunk). x.thread) is) same said.did_is said.thread_is said.words_are
    in
    let size : c.args.self.now.n + 1 ≡ suc r.n = (let same : c.args.self.now.n ≡ r.n = ap (λ (x : Chunk). x.n) is in omega (arith, same)) in
    (λ i. record { thread = next; loads = loads i; n = size i }) ∙ ap chunk_of (sym more_)

pub returns-in_ok-note_load-in-Next-clause-words : goal.returns-in_ok-note_load-in-Next-clause-words
returns-in_ok-note_load-in-Next-clause-words c r is same =
    let t = c.args.self.now.thread in
    let next = c.look_one-look.new.thread in
    let e = c.look_one-look.ensures in
    let said = says c.args.memory.now c.args.words.now c.look_one-look.new.words t next c.look_one-look.result.did (Did.Next c.in-Next.load) c.in-Next.is e.did e.thread e.words in
    sym (ap (λ (x : Run). x.words)
    (next-more c.args.memory.now c.args.words.now c.look_one-look.new.words r t next c.in-Next.load (ap (λ (x : Chunk). x.thread) is) same said.did_is said.thread_is said.words_are))

pub returns-in-Serial-clause-chunk : goal.returns-in-Serial-clause-chunk
returns-in-Serial-clause-chunk c r is same =
    let was = c.args.self.now in
    let e = c.look_one-look.ensures in
    let said = says c.args.memory.now c.args.words.now c.look_one-look.new.words was.thread c.look_one-look.new.thread c.look_one-look.result.did (Did.Serial c.in-Serial.field-0) c.in-Serial.is e.did e.thread e.words in
    (λ i. record { thread = said.thread_is i; loads = was.loads; n = was.n }) ∙ is
    ∙ ap chunk_of (sym (serial-more c.args.memory.now c.args.words.now r was.thread c.in-Serial.field-0 (ap (λ (x : Chunk). x.thread) is) same said.did_is))

pub returns-in-Serial-clause-words : goal.returns-in-Serial-clause-words
returns-in-Serial-clause-words c r is same =
    let was = c.args.self.now in
    let e = c.look_one-look.ensures in
    let said = says c.args.memory.now c.args.words.now c.look_one-look.new.words was.thread c.look_one-look.new.thread c.look_one-look.result.did (Did.Serial c.in-Serial.field-0) c.in-Serial.is e.did e.thread e.words in
    ap (λ (w : Words). w.words) said.words_are ∙ same
    ∙ ap (λ (x : Run). x.words) (sym (serial-more c.args.memory.now c.args.words.now r was.thread c.in-Serial.field-0 (ap (λ (x : Chunk). x.thread) is) same said.did_is))

pub returns-in-Serial-clause-serial : goal.returns-in-Serial-clause-serial
returns-in-Serial-clause-serial c _ =
    serial-found c.args.memory.now c.args.words.now c.args.self.now.thread c.in-Serial.field-0 (sym c.in-Serial.is ∙ c.look_one-look.ensures.did)
