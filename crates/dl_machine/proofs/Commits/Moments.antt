-- A serial step sees its moment modulo 2^32.
use Rattle.std.proofs.Common.{◌≡◌, ℕ, ◌%◌, ◌^◌, [], Option, Some, None, refl, ap, arith}
use Rattle.spec_isa.specs.declared.thread.Parts.{Parts}
use Rattle.spec_kernel.specs.Devices.{Devices}
use Rattle.spec_kernel.specs.Needs.{Need, Write, Read, Random, Clock, MomentWord, InputWord, need}
use Rattle.spec_kernel.specs.Answers.{Answered, Taken, answer, answer_moment, taken}
use Rattle.spec_sphere.specs.sphere.Spheres.{Role, Plain, Record, Replay, Sphere}
use Rattle.spec_sphere.specs.sphere.Commits.{served_as, serial_noted, serial_in, serial_moved}

moment_cut : (d : Devices) (kind moment : ℕ) → answer_moment d kind (moment % 2 ^ 32) ≡ answer_moment d kind moment
moment_cut d kind moment =
    let twice : moment % 2 ^ 32 % 2 ^ 32 ≡ moment % 2 ^ 32 = omega arith in
    ap (λ (r : ℕ). record { input = record { kind = kind; result = r; bytes = [] }; devices = d }) twice

answer_cut : (d : Devices) (n : Need) (moment : ℕ) → answer d n (moment % 2 ^ 32) ≡ answer d n moment
unfolding answer
answer_cut d (Write channel bytes) moment = refl
answer_cut d (Read channel buf len) moment = refl
answer_cut d (Random buf len) moment = refl
answer_cut d Clock moment = moment_cut d 5 moment
answer_cut d MomentWord moment = moment_cut d 16 moment
answer_cut d InputWord moment = refl

taken_cut : (o : Option Need) (d : Devices) (moment : ℕ) → taken o d (moment % 2 ^ 32) ≡ taken o d moment
taken_cut None d moment = refl
taken_cut (Some n) d moment = ap (λ (a : Answered). record { input = Some a.input; devices = a.devices }) (answer_cut d n moment)

serial_in_cut : (role : Role) (k moment : ℕ) (t : Parts) (d : Devices) (p : Sphere) → serial_in role k (moment % 2 ^ 32) t d p ≡ serial_in role k moment t d p
serial_in_cut Plain k moment t d p = ap (λ (g : Taken). served_as Plain k t g p) (taken_cut (need t p.memory) d moment)
serial_in_cut (Record recording) k moment t d p = ap (λ (g : Taken). served_as (Record (record recording { log = serial_noted k t g recording.log p })) k t g p) (taken_cut (need t p.memory) d moment)
serial_in_cut (Replay b) k moment t d p = refl

-- a serial step sees its moment modulo 2^32
pub serial_cut : (k moment : ℕ) (t : Parts) (d : Devices) (p : Sphere) → serial_moved k (moment % 2 ^ 32) t d p ≡ serial_moved k moment t d p
unfolding serial_moved
serial_cut k moment t d p = serial_in_cut p.role k moment t d p
