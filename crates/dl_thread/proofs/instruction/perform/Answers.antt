-- Each kind of operation changes the view by its load and its store.
use Rattle.std.proofs.Common.{refl}
use Rattle.dl_thread.proofs.instruction.perform.Goals as goal

pub returns-in-Go-clause-view : goal.returns-in-Go-clause-view
returns-in-Go-clause-view g c =
    rw c.in-Go.is
    (record { fetched = c.args.v.now; loaded = c.args.v.now; fetches = refl; loads = refl; stores = refl })

pub returns-in-Ok-clause-view : goal.returns-in-Ok-clause-view
returns-in-Ok-clause-view g c =
    rw (c.in-Load.is, c.finish_load.ensures.did)
    (record { fetched = c.args.v.now; loaded = c.load_word.new.v; fetches = refl; loads = c.in-Ok.ensures.read; stores = refl })

pub returns-in-Ok-store_part-clause-view : goal.returns-in-Ok-store_part-clause-view
returns-in-Ok-store_part-clause-view g c =
    rw (c.in-Store.is, c.finish.ensures.did)
    (record { fetched = c.args.v.now; loaded = c.args.v.now; fetches = refl; loads = refl; stores = c.in-Ok-store_part.ensures.wrote })

pub returns-in-Ok-load_word-clause-view : goal.returns-in-Ok-load_word-clause-view
returns-in-Ok-load_word-clause-view g c =
    rw (c.in-LoadReserved.is, c.finish_load-in-Ok-load_word.ensures.did)
    (record { fetched = c.args.v.now; loaded = c.load_word-in-LoadReserved.new.v; fetches = refl; loads = c.in-Ok-load_word.ensures.read; stores = refl })

pub returns-in-Ok-store_part-2-clause-view : goal.returns-in-Ok-store_part-2-clause-view
returns-in-Ok-store_part-2-clause-view g c =
    rw (c.in-StoreConditional.is, c.finish_conditional.ensures.did, ← c.reserves.ensures, c.if-reserves.true)
    (record { fetched = c.args.v.now; loaded = c.args.v.now; fetches = refl; loads = refl; stores = c.in-Ok-store_part-2.ensures.wrote })

pub returns-else-reserves-clause-view : goal.returns-else-reserves-clause-view
returns-else-reserves-clause-view g c =
    rw (c.in-StoreConditional.is, c.finish_conditional-else-reserves.ensures.did, ← c.reserves.ensures, c.if-reserves.false)
    (record { fetched = c.args.v.now; loaded = c.args.v.now; fetches = refl; loads = refl; stores = refl })

pub returns-in-Ok-store_part-3-clause-view : goal.returns-in-Ok-store_part-3-clause-view
returns-in-Ok-store_part-3-clause-view g c =
    rw (c.in-Amo.is, c.finish_load-in-Ok-store_part-3.ensures.did, ← c.in-Ok-load_word-2.ensures.value.1, ← c.combined.ensures)
    (record {
      fetched = c.args.v.now;
      loaded = c.load_word-in-Amo.new.v;
      fetches = refl;
      loads = c.in-Ok-load_word-2.ensures.read;
      stores = c.in-Ok-store_part-3.ensures.wrote;
    })
