-- Two threads in turn, with a DMA: the log that the points tell, and its play. A request stands until its DMA, which moves no
-- turn: after thread 0's commit and the DMA it is thread 1's. The spawned thread has its turn; short chunks of both stand
-- thread by thread; and a reservation ends with its commit, so that the store after it fails.
use Rattle.std.proofs.Common.{◌≡◌, ℕ, true, false, List, [], ◌∷◌, map, Option, None, Some, refl}
use Rattle.std.specs.Prelude.{slice_get}
use Rattle.dl_entry.specs.declared.Actor.{Actor}
use Rattle.dl_entry.specs.declared.CommitKind.{CommitKind}
use Rattle.dl_entry.specs.declared.End.{End}
use Rattle.dl_entry.specs.declared.Point.{Point}
use Rattle.spec_log.specs.declared.ModeName.{ModeName}
use Rattle.spec_log.specs.declared.LogParts.{LogParts}
use Rattle.spec_log.specs.Bytes.{log_bytes}
use Rattle.spec_isa.specs.Instruction.{serial_of, loads_of, next_of, load_of, store_of, one}
use Rattle.spec_isa.specs.Words.{lay, read, merged}
use Rattle.spec_kernel.specs.Answers.{answer}
use Rattle.spec_kernel.specs.Calls.{called}
use Rattle.spec_kernel.specs.Copies.{bytes_put}
use Rattle.spec_kernel.specs.Needs.{next_kind, next_operation, need}
use Rattle.spec_kernel.specs.Records.{fits}
use Rattle.spec_kernel.specs.Serving.{serve, console_written}
use Rattle.spec_play.specs.Plays.{Played, play_one, play}
use Rattle.spec_play.specs.Transfers.{dma_verdict}
use Rattle.spec_play.specs.Turns.{Ended, has_left_over, now_at}
use Rattle.spec_play.specs.Verdicts.{chunk_verdict, serial_verdict}
use Rattle.spec_sphere.specs.sphere.Commits.{chunk_moved, serial_moved, dma_moved}
use Rattle.spec_sphere.specs.sphere.Setups.{IsRecorded}
use Rattle.spec_protocol.specs.machine.Machine.{Setup}
use Rattle.spec_protocol.specs.machine.Serial.{serial_start, do_point}
use Rattle.spec_protocol.specs.machine.Logged.{supplied}
use Rattle.spec_sphere.specs.sphere.Logged.{logged}
use Rattle.spec_play.proofs.Programs.{image}
use Rattle.spec_protocol.proofs.Examples.Scenes.{alone}

abbrev code : List ℕ
code =
    0x00800893 ∷ 0x03000513 ∷ 0x00400593 ∷ 0x00000073 ∷ 0x00100893
    ∷ 0x02400513 ∷ 0x00000073 ∷ 0x1006A2AF ∷ 0x1876A32F ∷ 0x00100293
    ∷ 0x00200293 ∷ 0x00300293 ∷ []

abbrev two_threads : ModeName → Setup
two_threads mode = record (alone 2 (IsRecorded (record { version = 1; mode = mode; epochs = None })) 60 code) { input = 0x41 ∷ 0x42 ∷ 0x43 ∷ [] }

abbrev points : List Point
points =
    Point.Commit 4 0 (Actor.Thread 0) CommitKind.Chunk 3 false ∷ Point.Commit 6 0 (Actor.Thread 0) CommitKind.Serial 0 false
    ∷ Point.Commit 10 0 (Actor.Thread 0) CommitKind.Chunk 2 false ∷ Point.Commit 12 0 (Actor.Thread 0) CommitKind.Serial 0 false
    ∷ Point.Commit 16 0 (Actor.Thread 1) CommitKind.Chunk 1 true ∷ Point.Commit 25 0 (Actor.Thread 0) CommitKind.Chunk 1 true
    ∷ Point.Commit 26 0 Actor.Dma CommitKind.Dma 0 false ∷ Point.Commit 28 0 (Actor.Thread 1) CommitKind.Chunk 1 true
    ∷ Point.Commit 31 0 (Actor.Thread 0) CommitKind.Chunk 1 true ∷ []

abbrev noted_log : ModeName → LogParts
noted_log mode = logged 1 mode 100 (supplied 0 (serial_start (two_threads mode)) points)

abbrev played : ModeName → Played
played mode = play (noted_log mode) (image 60 code) 0

abbrev actors : Played → List Actor
actors y = map (λ c. c.actor) y.progress.commits

-- what the store conditional gave to x6, in each thread
abbrev given : Played → List (Option ℕ)
given y = map (λ t. slice_get t.x 6) y.threads

pub record AreNoted : Type 0 where
  pub sized : log_bytes (noted_log ModeName.OrderSize)
      ≡ 0x44 ∷ 0x4C ∷ 0x52 ∷ 0x4E ∷ 0x01 ∷ 0x00 ∷ 0x00 ∷ 0x00 ∷ 0x64 ∷ 0x00 ∷ 0x00 ∷ 0x00 ∷ 0x09 ∷ 0x00 ∷ 0x00 ∷ 0x00
      ∷ 0x09 ∷ 0x00 ∷ 0x00 ∷ 0x00 ∷ 0x00 ∷ 0x00 ∷ 0x01 ∷ 0x1F ∷ 0x00 ∷ 0x09 ∷ 0x00 ∷ 0x00 ∷ 0x00 ∷ 0x03 ∷ 0x00 ∷ 0x00
      ∷ 0x00 ∷ 0x02 ∷ 0x00 ∷ 0x00 ∷ 0x00 ∷ 0x01 ∷ 0x00 ∷ 0x01 ∷ 0x00 ∷ 0x00 ∷ 0x00 ∷ 0x01 ∷ 0x00 ∷ 0x01 ∷ 0x00 ∷ 0x00
      ∷ 0x00 ∷ 0x00 ∷ 0x00 ∷ 0x00 ∷ 0x00 ∷ 0x00 ∷ 0x00 ∷ 0x01 ∷ 0x00 ∷ 0x00 ∷ 0x00 ∷ 0x06 ∷ 0x00 ∷ 0x00 ∷ 0x00 ∷ 0x03
      ∷ 0x00 ∷ 0x41 ∷ 0x42 ∷ 0x43 ∷ []
  pub unsized : log_bytes (noted_log ModeName.OrderOnly)
      ≡ 0x44 ∷ 0x4C ∷ 0x52 ∷ 0x4E ∷ 0x01 ∷ 0x01 ∷ 0x00 ∷ 0x00 ∷ 0x64 ∷ 0x00 ∷ 0x00 ∷ 0x00 ∷ 0x09 ∷ 0x00 ∷ 0x00 ∷ 0x00
      ∷ 0x09 ∷ 0x00 ∷ 0x00 ∷ 0x00 ∷ 0x00 ∷ 0x00 ∷ 0x01 ∷ 0x1F ∷ 0x00 ∷ 0x04 ∷ 0x00 ∷ 0x00 ∷ 0x00 ∷ 0x00 ∷ 0x04 ∷ 0x00
      ∷ 0x00 ∷ 0x00 ∷ 0x01 ∷ 0x00 ∷ 0x00 ∷ 0x05 ∷ 0x00 ∷ 0x00 ∷ 0x00 ∷ 0x01 ∷ 0x00 ∷ 0x01 ∷ 0x00 ∷ 0x00 ∷ 0x00 ∷ 0x00
      ∷ 0x01 ∷ 0x00 ∷ 0x01 ∷ 0x01 ∷ 0x00 ∷ 0x00 ∷ 0x00 ∷ 0x01 ∷ 0x00 ∷ 0x00 ∷ 0x00 ∷ 0x00 ∷ 0x00 ∷ 0x00 ∷ 0x00 ∷ 0x00
      ∷ 0x00 ∷ 0x01 ∷ 0x00 ∷ 0x00 ∷ 0x00 ∷ 0x06 ∷ 0x00 ∷ 0x00 ∷ 0x00 ∷ 0x03 ∷ 0x00 ∷ 0x41 ∷ 0x42 ∷ 0x43 ∷ []
  pub in_turn : log_bytes (noted_log ModeName.Picolog)
      ≡ 0x44 ∷ 0x4C ∷ 0x52 ∷ 0x4E ∷ 0x01 ∷ 0x02 ∷ 0x00 ∷ 0x00 ∷ 0x64 ∷ 0x00 ∷ 0x00 ∷ 0x00 ∷ 0x09 ∷ 0x00 ∷ 0x00 ∷ 0x00
      ∷ 0x00 ∷ 0x00 ∷ 0x00 ∷ 0x00 ∷ 0x04 ∷ 0x00 ∷ 0x00 ∷ 0x00 ∷ 0x00 ∷ 0x04 ∷ 0x00 ∷ 0x00 ∷ 0x00 ∷ 0x01 ∷ 0x00 ∷ 0x00
      ∷ 0x05 ∷ 0x00 ∷ 0x00 ∷ 0x00 ∷ 0x01 ∷ 0x00 ∷ 0x01 ∷ 0x00 ∷ 0x00 ∷ 0x00 ∷ 0x00 ∷ 0x01 ∷ 0x00 ∷ 0x01 ∷ 0x01 ∷ 0x00
      ∷ 0x00 ∷ 0x00 ∷ 0x01 ∷ 0x00 ∷ 0x00 ∷ 0x00 ∷ 0x00 ∷ 0x00 ∷ 0x00 ∷ 0x00 ∷ 0x00 ∷ 0x00 ∷ 0x01 ∷ 0x00 ∷ 0x00 ∷ 0x00
      ∷ 0x06 ∷ 0x00 ∷ 0x00 ∷ 0x00 ∷ 0x03 ∷ 0x00 ∷ 0x41 ∷ 0x42 ∷ 0x43 ∷ []
  pub complete : (played ModeName.Picolog).now ≡ Ended (End.Complete 9)
  pub turns : actors (played ModeName.Picolog)
      ≡ Actor.Thread 0 ∷ Actor.Thread 0 ∷ Actor.Thread 0 ∷ Actor.Thread 0 ∷ Actor.Thread 1 ∷ Actor.Thread 0
      ∷ Actor.Dma ∷ Actor.Thread 1 ∷ Actor.Thread 0 ∷ []
  pub fails : given (played ModeName.Picolog) ≡ Some 1 ∷ Some 0 ∷ []

-- in each mode the points tell a log of these bytes, and in picolog its play is complete
pub logs_noted : AreNoted
unfolding serial_of loads_of next_of load_of store_of one lay read merged answer called bytes_put next_kind next_operation need fits serve console_written play_one dma_verdict has_left_over now_at chunk_verdict serial_verdict chunk_moved serial_moved dma_moved do_point
logs_noted = record { sized = refl; unsized = refl; in_turn = refl; complete = refl; turns = refl; fails = refl }
