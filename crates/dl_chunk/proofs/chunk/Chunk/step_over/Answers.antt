use Rattle.std.proofs.Common.{refl}
use Rattle.dl_thread.specs.declared.answer.Did.{Did}
use Rattle.spec_engine.specs.declared.answers.How.{How}
use Rattle.spec_engine.specs.declared.answers.Stepped.{Stepped}
use Rattle.spec_engine.specs.Chunks.{Stepping, at_limit, closes}
use Rattle.dl_chunk.specs.Engines.{Terms, Executed, chunk_of, with_ran}
use Rattle.dl_chunk.proofs.Stepping.{step_next, step_serial, step_full, step_bounced, reply_is, engine_is}
use Rattle.dl_chunk.proofs.chunk.Chunk.step_over.Goals as goal

pub returns-in-Next-clause-reply : goal.returns-in-Next-clause-reply
returns-in-Next-clause-reply g c =
    let x = c.self.inside in
    let m = g.B.Base.bytes c.args.base.now in
    let slots = c.args.flights.now.slots in
    let core = c.args.core in
    let t : Terms = record { start = x.start; limit = x.limit; halves = x.halves; squashes = x.squashes } in
    let p : Executed = record { thread = x.state; loads = x.loads.items; n = x.n; closed = x.closed } in
    let n = x.store in
    let thread = c.run_one.new.state in
    let after = c.run_one.new.store in
    let here = chunk_of t (record p { thread = thread }) after in
    let to : Stepping = at_limit (with_ran here c.in-Next.load) in
    reply_is m slots core t p n x.most to c.args.self.now (c.ran.result) c.self.view_is
    (step_next m slots core t p n c.in-Next.load thread after c.in-Next.ensures.did c.in-Next.ensures.thread c.in-Next.ensures.store)
    c.ran.ensures.reply

pub returns-in-Next-clause-chunk : goal.returns-in-Next-clause-chunk
returns-in-Next-clause-chunk g c =
    let x = c.self.inside in
    let m = g.B.Base.bytes c.args.base.now in
    let slots = c.args.flights.now.slots in
    let core = c.args.core in
    let t : Terms = record { start = x.start; limit = x.limit; halves = x.halves; squashes = x.squashes } in
    let p : Executed = record { thread = x.state; loads = x.loads.items; n = x.n; closed = x.closed } in
    let n = x.store in
    let thread = c.run_one.new.state in
    let after = c.run_one.new.store in
    let here = chunk_of t (record p { thread = thread }) after in
    let to : Stepping = at_limit (with_ran here c.in-Next.load) in
    engine_is m slots core t p n x.most to c.args.self.now c.ran.new.self (Did.Next c.in-Next.load) after c.self.view_is
    (step_next m slots core t p n c.in-Next.load thread after c.in-Next.ensures.did c.in-Next.ensures.thread c.in-Next.ensures.store)
    c.in-Next.ensures.store c.ran.ensures.chunk

pub returns-in-Serial-clause-reply : goal.returns-in-Serial-clause-reply
returns-in-Serial-clause-reply g c =
    let x = c.self.inside in
    let m = g.B.Base.bytes c.args.base.now in
    let slots = c.args.flights.now.slots in
    let core = c.args.core in
    let t : Terms = record { start = x.start; limit = x.limit; halves = x.halves; squashes = x.squashes } in
    let p : Executed = record { thread = x.state; loads = x.loads.items; n = x.n; closed = x.closed } in
    let n = x.store in
    let thread = c.run_one.new.state in
    let after = c.run_one.new.store in
    let here = chunk_of t (record p { thread = thread }) after in
    let to : Stepping = closes How.Serial here in
    reply_is m slots core t p n x.most to c.args.self.now (c.close.result) c.self.view_is
    (step_serial m slots core t p n c.in-Serial.field-0 thread after c.in-Serial.ensures.did c.in-Serial.ensures.thread c.in-Serial.ensures.store)
    c.close.ensures.reply

pub returns-in-Serial-clause-chunk : goal.returns-in-Serial-clause-chunk
returns-in-Serial-clause-chunk g c =
    let x = c.self.inside in
    let m = g.B.Base.bytes c.args.base.now in
    let slots = c.args.flights.now.slots in
    let core = c.args.core in
    let t : Terms = record { start = x.start; limit = x.limit; halves = x.halves; squashes = x.squashes } in
    let p : Executed = record { thread = x.state; loads = x.loads.items; n = x.n; closed = x.closed } in
    let n = x.store in
    let thread = c.run_one.new.state in
    let after = c.run_one.new.store in
    let here = chunk_of t (record p { thread = thread }) after in
    let to : Stepping = closes How.Serial here in
    engine_is m slots core t p n x.most to c.args.self.now c.close.new.self (Did.Serial c.in-Serial.field-0) after c.self.view_is
    (step_serial m slots core t p n c.in-Serial.field-0 thread after c.in-Serial.ensures.did c.in-Serial.ensures.thread c.in-Serial.ensures.store)
    c.in-Serial.ensures.store c.close.ensures.chunk

pub returns-in-NoRoom-clause-reply : goal.returns-in-NoRoom-clause-reply
returns-in-NoRoom-clause-reply g c =
    let x = c.self.inside in
    let m = g.B.Base.bytes c.args.base.now in
    let slots = c.args.flights.now.slots in
    let core = c.args.core in
    let t : Terms = record { start = x.start; limit = x.limit; halves = x.halves; squashes = x.squashes } in
    let p : Executed = record { thread = x.state; loads = x.loads.items; n = x.n; closed = x.closed } in
    let n = x.store in
    let thread = c.run_one.new.state in
    let after = c.run_one.new.store in
    let here = chunk_of t (record p { thread = thread }) after in
    let to : Stepping = closes How.Overflow here in
    reply_is m slots core t p n x.most to c.args.self.now (c.close-in-NoRoom.result) c.self.view_is
    (step_full m slots core t p n thread after c.in-NoRoom.ensures.did c.in-NoRoom.ensures.thread c.in-NoRoom.ensures.store)
    c.close-in-NoRoom.ensures.reply

pub returns-in-NoRoom-clause-chunk : goal.returns-in-NoRoom-clause-chunk
returns-in-NoRoom-clause-chunk g c =
    let x = c.self.inside in
    let m = g.B.Base.bytes c.args.base.now in
    let slots = c.args.flights.now.slots in
    let core = c.args.core in
    let t : Terms = record { start = x.start; limit = x.limit; halves = x.halves; squashes = x.squashes } in
    let p : Executed = record { thread = x.state; loads = x.loads.items; n = x.n; closed = x.closed } in
    let n = x.store in
    let thread = c.run_one.new.state in
    let after = c.run_one.new.store in
    let here = chunk_of t (record p { thread = thread }) after in
    let to : Stepping = closes How.Overflow here in
    engine_is m slots core t p n x.most to c.args.self.now c.close-in-NoRoom.new.self (Did.NoRoom) after c.self.view_is
    (step_full m slots core t p n thread after c.in-NoRoom.ensures.did c.in-NoRoom.ensures.thread c.in-NoRoom.ensures.store)
    c.in-NoRoom.ensures.store c.close-in-NoRoom.ensures.chunk

pub returns-in-Bounced-clause-reply : goal.returns-in-Bounced-clause-reply
returns-in-Bounced-clause-reply g c =
    let x = c.self.inside in
    let m = g.B.Base.bytes c.args.base.now in
    let slots = c.args.flights.now.slots in
    let core = c.args.core in
    let t : Terms = record { start = x.start; limit = x.limit; halves = x.halves; squashes = x.squashes } in
    let p : Executed = record { thread = x.state; loads = x.loads.items; n = x.n; closed = x.closed } in
    let n = x.store in
    let thread = c.run_one.new.state in
    let after = c.run_one.new.store in
    let here = chunk_of t (record p { thread = thread }) after in
    let to : Stepping = record { reply = Stepped.Bounced c.in-Bounced.flight; chunk = here } in
    reply_is m slots core t p n x.most to c.args.self.now (Stepped.Bounced c.in-Bounced.flight) c.self.view_is
    (step_bounced m slots core t p n c.in-Bounced.flight thread after c.in-Bounced.ensures.did c.in-Bounced.ensures.thread c.in-Bounced.ensures.store)
    refl

pub returns-in-Bounced-clause-chunk : goal.returns-in-Bounced-clause-chunk
returns-in-Bounced-clause-chunk g c =
    let x = c.self.inside in
    let m = g.B.Base.bytes c.args.base.now in
    let slots = c.args.flights.now.slots in
    let core = c.args.core in
    let t : Terms = record { start = x.start; limit = x.limit; halves = x.halves; squashes = x.squashes } in
    let p : Executed = record { thread = x.state; loads = x.loads.items; n = x.n; closed = x.closed } in
    let n = x.store in
    let thread = c.run_one.new.state in
    let after = c.run_one.new.store in
    let here = chunk_of t (record p { thread = thread }) after in
    let to : Stepping = record { reply = Stepped.Bounced c.in-Bounced.flight; chunk = here } in
    engine_is m slots core t p n x.most to c.args.self.now (record { most = x.most; capacity = after.words.capacity; chunk = here }) (Did.Bounced c.in-Bounced.flight) after c.self.view_is
    (step_bounced m slots core t p n c.in-Bounced.flight thread after c.in-Bounced.ensures.did c.in-Bounced.ensures.thread c.in-Bounced.ensures.store)
    c.in-Bounced.ensures.store refl
