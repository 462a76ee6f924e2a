-- A sixteenth thread: a sphere that is recorded in version 2 may have it, and so may a replay of such a log. A plain sphere
-- and one of version 1 refuse it, and so does the replay of a log that was migrated, which may have 15 threads as before.
use Rattle.std.proofs.Common.{◌≡◌, ℕ, [], ◌∷◌, length, None, refl, replicate}
use Rattle.std.specs.Prelude.{slice_set}
use Rattle.dl_entry.specs.declared.Actor.{Actor}
use Rattle.spec_isa.specs.Instruction.{serial_of}
use Rattle.spec_isa.specs.Numbers.{register_a7}
use Rattle.spec_isa.specs.Threads.{started}
use Rattle.spec_isa.specs.Words.{read}
use Rattle.spec_isa.specs.declared.thread.Parts.{Parts}
use Rattle.spec_log.specs.declared.ModeName.{ModeName}
use Rattle.spec_log.specs.declared.LogParts.{LogParts}
use Rattle.spec_log.specs.Migration.{migrated}
use Rattle.spec_kernel.specs.Calls.{called}
use Rattle.spec_kernel.specs.Devices.{devices_of}
use Rattle.spec_kernel.specs.Needs.{next_kind, need}
use Rattle.spec_kernel.specs.Numbers.{call_spawn}
use Rattle.spec_kernel.specs.Serving.{serve}
use Rattle.spec_play.specs.Progress.{no_progress, nothing_used}
use Rattle.spec_play.specs.Recording.{new_log}
use Rattle.spec_play.specs.Turns.{Turn}
use Rattle.spec_play.specs.Verdicts.{serial_verdict}
use Rattle.spec_play.proofs.Programs.{bytes_of}
use Rattle.spec_sphere.specs.sphere.Spheres.{Role, Plain, Record, Replay, Sphere}
use Rattle.spec_sphere.specs.sphere.Commits.{serial_moved}

-- thread 0 is at a call, and asks for a thread at 0
abbrev asks : Parts
asks = let t = started 0 in record t { x = slice_set t.x register_a7 call_spawn }

-- it is one of 15
abbrev full : Role → Sphere
full role =
    record {
      memory = bytes_of (0x00000073 ∷ []);
      threads = asks ∷ replicate 14 (started 0);
      progress = no_progress;
      role = role;
    }

-- how many threads there are after the call
abbrev threads_after : Role → ℕ
threads_after role = length (serial_moved 0 0 asks (devices_of [] 0) (full role)).sphere.threads

abbrev recorded_in : (version : ℕ) → Role
recorded_in version = Record (record { log = new_log version ModeName.OrderOnly 100; epochs = None })

-- a log of the call alone
abbrev call_log : (version : ℕ) → LogParts
call_log version = record (new_log version ModeName.OrderOnly 100) { count = 1; order = Actor.Thread 0 ∷ [] }

abbrev replay_of : LogParts → Role
replay_of log = Replay (record { log = log; interval = None; strata = None; used = nothing_used; now = Turn 0; total = 0; loads = [] })

pub record AreSpawned : Type 0 where
  pub plain : threads_after Plain ≡ 15
  pub recorded : threads_after (recorded_in 1) ≡ 15
  pub recorded_more : threads_after (recorded_in 2) ≡ 16
  pub replayed : threads_after (replay_of (call_log 1)) ≡ 15
  pub replayed_migrated : threads_after (replay_of (migrated (call_log 1))) ≡ 15
  pub replayed_more : threads_after (replay_of (call_log 2)) ≡ 16

-- only a recording in version 2 and a replay of its log get the sixteenth thread
pub threads_spawned : AreSpawned
unfolding serial_of read called next_kind need serve serial_verdict serial_moved
threads_spawned =
    record {
      plain = refl;
      recorded = refl;
      recorded_more = refl;
      replayed = refl;
      replayed_migrated = refl;
      replayed_more = refl;
    }
