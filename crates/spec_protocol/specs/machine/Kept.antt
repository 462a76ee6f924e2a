-- What a sphere keeps that is recorded in epochs, told by the points: the state in which each kept epoch begins, and the log
-- since the earliest.
use Rattle.std.specs.Prelude.{ℕ, zero, suc, ◌+◌, List, [], ◌∷◌, length}
use Rattle.dl_entry.specs.declared.Point.{Point}
use Rattle.spec_log.specs.declared.LogParts.{LogParts}
use Rattle.spec_play.specs.Epochs.{Epoch}
use Rattle.spec_sphere.specs.sphere.Setups.{RecordSetup}
use Rattle.spec_protocol.specs.machine.Machine.{Setup}
use Rattle.spec_protocol.specs.machine.Serial.{SerialState, serial_start, do_points}
use Rattle.spec_sphere.specs.sphere.Logged.{Supplied, inputs_of}
use Rattle.spec_protocol.specs.machine.Logged.{sphere_in, supplied, logged_since}
use Rattle.spec_sphere.specs.sphere.Epochs.{state_in}
use Rattle.spec_sphere.specs.sphere.Kept.{points_until, points_since}

-- ---- the states there

-- right after the n-th commit of sphere i, before any interrupt that follows
abbrev pub serial_until : Setup → List Point → (i n : ℕ) → SerialState
serial_until s ps i n = do_points (serial_start s) (points_until i n ps)

-- the epoch of sphere i that begins there
abbrev pub epoch_of : Setup → List Point → (i n : ℕ) → Epoch
epoch_of s ps i n =
    let p = sphere_in (serial_until s ps i n) i in
    record {
      state = state_in p.memory p;
      inputs = length (inputs_of (supplied i (serial_start s) (points_until i n ps)));
    }

-- so many epochs of as many commits each, the first after n commits
abbrev pub epochs_of : Setup → List Point → (i size n epochs : ℕ) → List Epoch
epochs_of s ps i size n zero = []
epochs_of s ps i size n (suc m) = epoch_of s ps i n ∷ epochs_of s ps i size (n + size) m

-- ---- the log

-- the points of sphere i after n commits, with what came from outside at each
abbrev pub supplied_since : Setup → List Point → (i n : ℕ) → List Supplied
supplied_since s ps i n = supplied i (serial_until s ps i n) (points_since i n ps)

-- their log
abbrev pub tail_log : Setup → List Point → (i : ℕ) → RecordSetup → (n : ℕ) → LogParts
tail_log s ps i asked n =
    logged_since asked.version asked.mode s.numbers.s (serial_until s ps i n) i (supplied_since s ps i n)
