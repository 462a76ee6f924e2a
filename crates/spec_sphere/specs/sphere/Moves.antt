-- Whether a serial step or an interrupt can be done in a sphere as it is said.
use Rattle.std.specs.Prelude.{◌≡◌, ℕ, true, false, Option, Some, None, IsSome}
use Rattle.dl_entry.specs.declared.Actor.{Actor}
use Rattle.spec_isa.specs.declared.thread.Parts.{Parts}
use Rattle.spec_kernel.specs.Needs.{next_kind}
use Rattle.spec_kernel.specs.Interrupts.{is_live, takes_interrupt}
use Rattle.spec_sphere.specs.sphere.Spheres.{turn_against, Sphere, is_stopped, is_in_pieces, replays}

-- a serial step of thread k, which is t
pub record SerialFits (p : Sphere) (k : ℕ) (t : Parts) : Type 0 where
  pub going : is_stopped p.role ≡ false
  pub turn : turn_against p (Actor.Thread k) ≡ None
  pub live : is_live t ≡ true
  -- no piece stands before it, and the next instruction is serial
  pub whole : is_in_pieces p.role ≡ false
  pub serial : IsSome (next_kind t p.memory)

-- an interrupt
pub record RaiseFits (p : Sphere) (t : Parts) : Type 0 where
  pub live : replays p.role ≡ false
  pub takes : takes_interrupt t ≡ true

abbrev pub FitsRaise : Sphere → Option Parts → Type 0
FitsRaise p None = ⊥
FitsRaise p (Some t) = RaiseFits p t
