-- A recording in some mode: what is kept of the commits, the records, and the epochs if it is in epochs.
use Rattle.std.specs.Prelude.{ℕ, ◌+◌, ◌<◌, ◌^◌, Bool, List, Option}
use Rattle.dl_entry.specs.declared.Commit.{Commit}
use Rattle.dl_entry.specs.declared.Input.{Input}
use Rattle.spec_log.specs.declared.ModeName.{ModeName}
use Rattle.spec_log.specs.Noting.{noted}
use Rattle.spec_log.specs.Versions.{new_threads}
use Rattle.spec_play.specs.Recording.{note_of}
use Rattle.spec_play.specs.Noted.{interrupt_kept}
use Rattle.dl_record.specs.Epochs.{InEpochs, IsBegun, base}
use Rattle.dl_record.specs.Recording as recorder
use Rattle.dl_record.specs.Recording.{in_epochs, with_input, with_dma}
use Rattle.dl_sphere.specs.declared.recording.Recorders.{Recorders}

-- a recording, and whether there is room for one commit with its records, for one interrupt and for one epoch
pub record Recording : Type 0 where
  pub in_epochs : InEpochs
  pub room : Bool
  pub interrupt_room : Bool
  pub epoch_room : Bool

abbrev pub recorded_by : ModeName → recorder.Recording → Recording
recorded_by mode r =
    record {
      in_epochs = in_epochs mode r;
      room = r.room;
      interrupt_room = r.interrupt_room;
      epoch_room = r.epoch_room;
    }

abbrev pub recording_of : Recorders → Recording
recording_of (Recorders.OrderSize r) = recorded_by ModeName.OrderSize r
recording_of (Recorders.OrderOnly r) = recorded_by ModeName.OrderOnly r
recording_of (Recorders.Picolog r) = recorded_by ModeName.Picolog r

-- how many commits were noted, those that were given up among them
abbrev pub commits_of : InEpochs → ℕ
commits_of r = base r.epochs + r.recorded.kept.count

-- with a commit more, and its record or its data
abbrev pub with_commit : Commit → (short : Bool) → Option Input → Option (List ℕ) → InEpochs → InEpochs
with_commit c short input dma r =
    let x = r.recorded in
    record r {
      recorded = record x {
        kept = noted x.mode x.kept (note_of c short);
        inputs = with_input x.inputs input;
        dmas = with_dma x.dmas (commits_of r) dma;
      };
    }

-- with an interrupt more
abbrev pub with_interrupt : (thread index value : ℕ) → InEpochs → InEpochs
with_interrupt thread index value r = record r { recorded = interrupt_kept thread index value r.recorded }

-- ---- what can be noted

-- a commit that the recorder can note, with fewer than 2^24 before it, if no epoch is due
pub record CanRecord (r : InEpochs) (c : Commit) (short : Bool) : Type 0 where
  pub commit : recorder.CanCommit r.recorded.version r.recorded.kept c short
  pub few : commits_of r < 2 ^ 24
  pub begun : IsBegun r.epochs (commits_of r)

-- an interrupt of a thread of its log, at a moment that is new, if no epoch is due
pub record CanInterrupt (r : InEpochs) (k i : ℕ) : Type 0 where
  pub thread : k < new_threads r.recorded.version
  pub fresh : recorder.IsFresh r.recorded.interrupts k i
  pub begun : IsBegun r.epochs (commits_of r)
