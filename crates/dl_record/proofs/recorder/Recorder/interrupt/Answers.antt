use Rattle.std.proofs.Common.{◌<◌, ◌^◌, length, map, ap, inl, inr, ◌∙◌}
use Rattle.std.proofs.lemmas.List.{length-map}
use Rattle.std.proofs.lemmas.Result.{on_ok_weaker}
use Rattle.spec_log.specs.Versions.{new_threads}
use Rattle.dl_input.specs.Tracked.{interrupt_of, insert_tracked, new_tracked}
use Rattle.dl_input.proofs.TrackedLists.{insert-map}
use Rattle.dl_record.specs.Recording.{Recording, interrupt}
use Rattle.dl_record.proofs.Recordings.{IsRecording-interrupt, fresh, either}
use Rattle.dl_record.proofs.recorder.Recorder.interrupt.Goals as goal

pub note-requires-clause-fresh : goal.note-requires-clause-fresh
note-requires-clause-fresh g c =
    fresh c.self.inside.interrupts.entries c.args.thread c.args.index
    (rw (ap (λ (r : Recording). r.interrupts) c.self.view_is) c.requires.fresh)

pub invariant_of-self : goal.invariant_of-self
invariant_of-self g c =
    let entries = c.self.inside.interrupts.entries in
    let new = new_tracked c.args.thread c.args.index c.args.value in
    let within : c.args.thread < new_threads c.self.inside.version = rw (ap (λ (r : Recording). r.version) c.self.view_is) c.requires.thread in
    let i = c.self.invariant in (
      elim (either c.note.result c.note.ensures.ok c.note.ensures.err) [
        | inl e ↦ let few : length (insert_tracked new entries) < 2 ^ 32 = rw e at c.note.ensures.few in
            rw (e, insert-map new entries)
            (IsRecording-interrupt c.self.inside.version g.M.Mode.mode _ _ (g.M.Mode.logged c.self.inside.log).kept (map interrupt_of entries) c.self.inside.inputs.inputs c.self.inside.dmas.dmas
            (interrupt c.args.thread c.args.index c.args.value) i.0 (within, c.ranges.index.fits, c.ranges.value.fits)
            (rw (← insert-map new entries, length-map (insert_tracked new entries) interrupt_of) few))
        | inr e ↦ rw e i.0
      ],
      i.1,
      i.2,
    )

pub returns-clause-ok : goal.returns-clause-ok
returns-clause-ok g c =
    let entries = c.self.inside.interrupts.entries in
    rw (← c.self.view_is)
    (on_ok_weaker c.note.result
    (λ e. ap (map interrupt_of) e ∙ insert-map (new_tracked c.args.thread c.args.index c.args.value) entries) c.note.ensures.ok)
