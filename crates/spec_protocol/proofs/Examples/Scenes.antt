-- Small machines for worked examples.
use Rattle.std.proofs.Common.{ℕ, List, [], ◌∷◌}
use Rattle.spec_log.specs.Bytes.{log_bytes}
use Rattle.spec_sphere.specs.sphere.Spheres.{Role, Plain, Record, Replay}
use Rattle.spec_play.proofs.Programs.{image}
use Rattle.spec_protocol.specs.declared.event.Event.{Event}
use Rattle.spec_protocol.specs.declared.reply.Reply.{Reply}
use Rattle.spec_protocol.specs.machine.World.{World, sphere_at}
use Rattle.spec_sphere.specs.sphere.Setups.{RoleSetup}
use Rattle.spec_protocol.specs.machine.Machine.{Setup, happens}

-- one sphere on so many cores, with chunks of 100, buffers of 16, a window of 2 and signatures of 64
abbrev pub alone : (cores : ℕ) → RoleSetup → (size : ℕ) → List ℕ → Setup
alone cores role size ws =
    record {
      cores = cores;
      window = 2;
      numbers = record { s = 100; capacity = 16; bits = 64; depth = 1 };
      seed = 0;
      input = [];
      spheres = record { memory = image size ws; entry = 0; role = role } ∷ [];
    }

-- with so many chunks of a core
abbrev pub deep : (depth : ℕ) → Setup → Setup
deep n s = record s { numbers = record s.numbers { depth = n } }

-- what a list of events answers, one reply for each
abbrev pub replies : World → List Event → List Reply
replies w [] = []
replies w (e ∷ es) = let a = happens w e in a.reply ∷ replies a.world es

abbrev log_of : Role → List ℕ
log_of Plain = []
log_of (Record recording) = log_bytes recording.log
log_of (Replay b) = log_bytes b.log

-- the bytes of sphere i's log
abbrev pub log_in : World → (i : ℕ) → List ℕ
log_in w i = log_of (sphere_at w i).role
