-- What devices hold and answer are bytes: of the input, of pipes, and of what is written to them out of a memory.
use Rattle.std.proofs.Common.{◌≡◌, ℕ, zero, suc, ◌+◌, ◌-◌, ◌^◌, ◌<◌, ◌≤◌, inl, inr, eqb, cond, List, [], ◌∷◌, ◌++◌, length, Option, Some, None, refl, sym, ap, ◌∙◌, subst, arith, get_or, set, take, drop, get_or-set_same, get_or-set_other}
use Rattle.std.specs.Prelude.{nat_le, nat_lt, replicate, Contains}
use Rattle.std.proofs.Math.ListN.{length-set}
use Rattle.std.proofs.lemmas.Bool.{cases_eq, cases_lt}
use Rattle.std.proofs.lemmas.List.{get_or_past, length-take}
use Rattle.std.proofs.lemmas.List.Elements.{All-append, All-drop, All-from_get_or, All-take}
use Rattle.dl_entry.specs.declared.Request.{Request}
use Rattle.rand_pcg.specs.Lcg.{Lcg}
use Rattle.rand_pcg.specs.Pcg.{pcg32}
use Rattle.spec_isa.specs.declared.thread.Parts.{Parts}
use Rattle.spec_isa.specs.declared.thread.Kind.{Kind}
use Rattle.spec_isa.specs.declared.operation.Operation.{Operation}
use Rattle.spec_isa.specs.Words.{IsBytes}
use Rattle.spec_log.specs.Log.{IsInput, AreFewBytes, input_kinds}
use Rattle.spec_kernel.specs.Devices.{Devices, devices_of, input_taken, console_put, pipe_at, with_pipe, pipe_fitting, pipe_put, pipe_first, pipe_taken, random_bytes, AreBytes, HaveByteInput}
use Rattle.spec_kernel.specs.Needs.{Need, Write, Read, Random, Clock, MomentWord, InputWord, a0, a1, a2, cut, number_of, if_inside, need_of_write, need_of_read, need_of_random, need_of_call, need_of_load, need_of, next_kind, next_operation, need}
use Rattle.spec_kernel.specs.Answers.{went, write_answer, answer_write, read_answer, answer_read, answer_random, first_byte, Answered, answer, Taken, taken, dma_bytes, dma_taken, refused, nothing_now}
use Rattle.spec_kernel.specs.Serving.{store_written, console_written}
use Rattle.dl_entry.specs.declared.Output.{Output}
use Rattle.spec_sphere.specs.promises.Notable.{IsInputIf}
use Rattle.spec_play.proofs.Threads.{branch}
use Rattle.spec_sphere.proofs.Sound.Threads.{Brings, BringsIf}

-- ---- bytes

-- the first n of a list of bytes are bytes
pub take-bytes : (n : ℕ) (bs : List ℕ) → AreBytes bs → AreBytes (take n bs)
take-bytes n bs h = All-take (λ byte. byte < 2 ^ 8) n bs h

-- what comes after the first n of a list of bytes is bytes
pub drop-bytes : (n : ℕ) (bs : List ℕ) → AreBytes bs → AreBytes (drop n bs)
drop-bytes n bs h = All-drop (λ byte. byte < 2 ^ 8) n bs h

append-bytes : (bs cs : List ℕ) → AreBytes bs → AreBytes cs → AreBytes (bs ++ cs)
append-bytes bs cs h k = All-append (λ byte. byte < 2 ^ 8) bs cs h k

-- an empty list is a list of bytes
pub no-byte : AreBytes []
no-byte k d l = absurd (omega arith)

-- a memory of bytes is, taken as a list, a list of bytes
pub memory-bytes : (m : List ℕ) → IsBytes m → AreBytes m
memory-bytes m h = All-from_get_or (λ byte. byte < 2 ^ 8) m 0 (λ i _. h.each i)

random-are : (n : ℕ) (g : Lcg) → AreBytes (random_bytes n g)
unfolding random_bytes
random-are zero g k d l = absurd (omega arith)
random-are (suc n) g zero d l = omega arith
random-are (suc n) g (suc k) d l = random-are n (pcg32 g).1 k d (omega arith)

-- there are as many random bytes as are asked for
pub random-length : (n : ℕ) (g : Lcg) → length (random_bytes n g) ≡ n
unfolding random_bytes
random-length zero g = refl
random-length (suc n) g = ap suc (random-length n (pcg32 g).1)

take-most : (n : ℕ) (bs : List ℕ) → length (take n bs) ≤ n
take-most n bs = let e = length-take n bs in omega (arith, e)

-- ---- devices

empty-pipes : (n k : ℕ) → AreBytes (get_or (replicate n []) k [])
empty-pipes zero k = no-byte
empty-pipes (suc n) zero = no-byte
empty-pipes (suc n) (suc k) = empty-pipes n k

-- devices that start with an input of bytes hold bytes
pub start-bytes : (input : List ℕ) (seed : ℕ) → AreBytes input → HaveByteInput (devices_of input seed)
start-bytes input seed h = record { input = take-bytes (2 ^ 24) input h; pipes = empty-pipes 8 }

input-taken : (n : ℕ) (d : Devices) → HaveByteInput d → HaveByteInput (input_taken n d)
input-taken n d h = record { input = drop-bytes n d.input h.input; pipes = h.pipes }

pipe-set : (d : Devices) (pipe : ℕ) (bytes : List ℕ) → AreBytes bytes → HaveByteInput d → HaveByteInput (with_pipe d pipe bytes)
pipe-set d pipe bytes new h =
    record {
      input = h.input;
      pipes = λ k. elim (cases_eq k pipe) [
        | inl e ↦ elim (cases_lt pipe (length d.pipes)) [
          | inl l ↦ subst AreBytes (sym (ap (λ (j : ℕ). get_or (set d.pipes pipe bytes) j []) e ∙ get_or-set_same d.pipes pipe bytes [] l)) new
          | inr past ↦ subst AreBytes (sym (get_or_past (set d.pipes pipe bytes) k [] (let q = length-set d.pipes pipe bytes in omega arith))) no-byte
        ]
        | inr ne ↦ subst AreBytes (sym (get_or-set_other d.pipes pipe k bytes [] ne)) (h.pipes k)
      ];
    }

-- what is written out of a memory leaves devices that hold bytes
pub written-devices : (t : Parts) (m : List ℕ) (outputs : List Output) (d : Devices) → HaveByteInput d → HaveByteInput (console_written t m outputs d)
unfolding console_written
written-devices t m outputs d h = by_kind (next_kind t m)
  where
    by_kind : (o : Option Kind) → HaveByteInput (store_written o outputs d)
    by_kind None = h
    by_kind (Some Kind.Call) = h
    by_kind (Some Kind.Break) = h
    by_kind (Some Kind.DeviceLoad) = h
    by_kind (Some Kind.DeviceStore) = record { input = h.input; pipes = h.pipes }
    by_kind (Some (Kind.Fault cause)) = h

-- ---- what is wanted

-- what goes out are bytes, and no more than 4,096; nor do more come in
abbrev IsFewNeed : Option Need → Type 0
IsFewNeed None = Unit {0}
IsFewNeed (Some (Write channel bytes)) = AreBytes bytes × (length bytes ≤ 4096)
IsFewNeed (Some (Read channel buf len)) = len ≤ 4096
IsFewNeed (Some (Random buf len)) = len ≤ 4096
IsFewNeed (Some Clock) = Unit {0}
IsFewNeed (Some MomentWord) = Unit {0}
IsFewNeed (Some InputWord) = Unit {0}

if-few : (size buf len : ℕ) (n : Need) → IsFewNeed (Some n) → IsFewNeed (if_inside size buf len n)
if-few size buf len n few = branch IsFewNeed (nat_le (buf + len) size) (Some n) None (λ _. few) (λ _. tt)

cut-few : (len : ℕ) → cut len ≤ 4096
cut-few len = omega arith

call-few : (t : Parts) (m : List ℕ) → IsBytes m → IsFewNeed (need_of_call t m)
call-few t m bytes =
    let n = number_of t in
    let n5 = cond (eqb n 5) (Some Clock) None in
    let n4 = cond (eqb n 4) (need_of_random t m) n5 in
    let n3 = cond (eqb n 3) (need_of_read t m) n4 in
    let out = take (cut (a2 t)) (drop (a1 t) m) in
    branch IsFewNeed (eqb n 2) (need_of_write t m) n3
    (λ _. if-few (length m) (a1 t) (cut (a2 t)) (Write (a0 t) out) (
      take-bytes (cut (a2 t)) (drop (a1 t) m) (drop-bytes (a1 t) m (memory-bytes m bytes)),
      (let l = take-most (cut (a2 t)) (drop (a1 t) m) in let k = cut-few (a2 t) in omega (arith, l, k)),
    ))
    (λ _. branch IsFewNeed (eqb n 3) (need_of_read t m) n4
    (λ _. if-few (length m) (a1 t) (cut (a2 t)) (Read (a0 t) (a1 t) (cut (a2 t))) (cut-few (a2 t)))
    (λ _. branch IsFewNeed (eqb n 4) (need_of_random t m) n5
    (λ _. if-few (length m) (a0 t) (cut (a1 t)) (Random (a0 t) (cut (a1 t))) (cut-few (a1 t)))
    (λ _. branch IsFewNeed (eqb n 5) (Some Clock) None (λ _. tt) (λ _. tt))))

load-few : (p : Operation) → IsFewNeed (need_of_load p)
load-few (Operation.Load op rd a) = branch (λ (n : Need). IsFewNeed (Some n)) (eqb a 0xF0000000) MomentWord InputWord (λ _. tt) (λ _. tt)
load-few (Operation.Go rd value pc) = tt
load-few (Operation.Stop kind) = tt
load-few (Operation.Store op a v) = tt
load-few (Operation.LoadReserved rd a) = tt
load-few (Operation.StoreConditional rd a v) = tt
load-few (Operation.Amo op rd a v) = tt

kind-few : (o : Option Kind) (t : Parts) (m : List ℕ) → IsBytes m → IsFewNeed (need_of o t m)
kind-few None t m bytes = tt
kind-few (Some Kind.Call) t m bytes = call-few t m bytes
kind-few (Some Kind.Break) t m bytes = tt
kind-few (Some Kind.DeviceLoad) t m bytes = load-few (next_operation t m)
kind-few (Some Kind.DeviceStore) t m bytes = tt
kind-few (Some (Kind.Fault cause)) t m bytes = tt

need-few : (t : Parts) (m : List ℕ) → IsBytes m → IsFewNeed (need t m)
unfolding need
need-few t m bytes = kind-few (next_kind t m) t m bytes

-- ---- what devices answer

-- the answer is an input of a log, no longer than what was wanted, and the devices hold bytes still
record IsSoundAnswer (n : Need) (a : Answered) : Type 0 where
  input : IsInput a.input
  brings : Brings (Some n) a.input
  devices : HaveByteInput a.devices

went-few : (count len : ℕ) → count ≤ 4096 → went count len < 2 ^ 32
went-few count len few =
    branch (λ (n : ℕ). n < 2 ^ 32) (eqb count 0) (cond (eqb len 0) 0 nothing_now) count
    (λ _. branch (λ (n : ℕ). n < 2 ^ 32) (eqb len 0) 0 nothing_now (λ _. omega arith) (λ _. omega arith))
    (λ _. omega (arith, few))

no-bytes : AreFewBytes []
no-bytes = (omega arith, no-byte)

few-bytes : (bs : List ℕ) → length bs ≤ 4096 → AreBytes bs → AreFewBytes bs
few-bytes bs few h = (few, h)

kind-2 : Contains input_kinds 2
kind-2 = (0, (omega arith), refl)

kind-3 : Contains input_kinds 3
kind-3 = (1, (omega arith), refl)

kind-4 : Contains input_kinds 4
kind-4 = (2, (omega arith), refl)

kind-5 : Contains input_kinds 5
kind-5 = (3, (omega arith), refl)

kind-16 : Contains input_kinds 16
kind-16 = (4, (omega arith), refl)

kind-17 : Contains input_kinds 17
kind-17 = (5, (omega arith), refl)

write-sound : (d : Devices) (channel : ℕ) (bytes : List ℕ) → AreBytes bytes → length bytes ≤ 4096 → HaveByteInput d → IsSoundAnswer (Write channel bytes) (answer_write d channel bytes)
write-sound d channel bytes are few h =
    let fitting = pipe_fitting d channel bytes in
    let l = take-most (256 - length (pipe_at d channel)) bytes in
    branch (IsSoundAnswer (Write channel bytes)) (nat_lt channel 8) (write_answer (went (length fitting) (length bytes)) (pipe_put d channel bytes))
    (cond (eqb channel 8) (write_answer (length bytes) (console_put bytes d)) (write_answer refused d))
    (λ _. record {
      input = (kind-2, went-few (length fitting) (length bytes) (omega (arith, l)), no-bytes);
      brings = tt;
      devices = pipe-set d channel (pipe_at d channel ++ fitting) (append-bytes (pipe_at d channel) fitting (h.pipes channel) (take-bytes (256 - length (pipe_at d channel)) bytes are)) h;
    })
    (λ _. branch (IsSoundAnswer (Write channel bytes)) (eqb channel 8) (write_answer (length bytes) (console_put bytes d)) (write_answer refused d)
    (λ _. record { input = (kind-2, omega (arith, few), no-bytes); brings = tt; devices = record { input = h.input; pipes = h.pipes } })
    (λ _. record { input = (kind-2, omega arith, no-bytes); brings = tt; devices = h }))

read-sound : (d : Devices) (channel buf len : ℕ) → len ≤ 4096 → HaveByteInput d → IsSoundAnswer (Read channel buf len) (answer_read d channel len)
read-sound d channel buf len few h =
    let first = pipe_first d channel len in
    let rest = take len d.input in
    let l : length first ≤ len = take-most len (pipe_at d channel) in
    let k : length rest ≤ len = take-most len d.input in
    branch (IsSoundAnswer (Read channel buf len)) (nat_lt channel 8) (read_answer (went (length first) len) first (pipe_taken d channel len))
    (cond (eqb channel 9) (read_answer (went (length rest) len) rest (input_taken len d)) (read_answer refused [] d))
    (λ _. record {
      input = (kind-3, went-few (length first) len (omega (arith, l, few)), few-bytes first (omega (arith, l, few)) (take-bytes len (pipe_at d channel) (h.pipes channel)));
      brings = l;
      devices = pipe-set d channel (drop len (pipe_at d channel)) (drop-bytes len (pipe_at d channel) (h.pipes channel)) h;
    })
    (λ _. branch (IsSoundAnswer (Read channel buf len)) (eqb channel 9) (read_answer (went (length rest) len) rest (input_taken len d)) (read_answer refused [] d)
    (λ _. record {
      input = (kind-3, went-few (length rest) len (omega (arith, k, few)), few-bytes rest (omega (arith, k, few)) (take-bytes len d.input h.input));
      brings = k;
      devices = input-taken len d h;
    })
    (λ _. record { input = (kind-3, omega arith, no-bytes); brings = omega arith; devices = h }))

random-sound : (d : Devices) (buf len : ℕ) → len ≤ 4096 → HaveByteInput d → IsSoundAnswer (Random buf len) (answer_random d len)
random-sound d buf len few h =
    let e = random-length len d.random in
    record {
      input = (kind-4, omega (arith, few), few-bytes (random_bytes len d.random) (omega (arith, e, few)) (random-are len d.random));
      brings = omega (arith, e);
      devices = record { input = h.input; pipes = h.pipes };
    }

first-few : (bs : List ℕ) → AreBytes bs → first_byte bs < 2 ^ 32
first-few [] h = omega arith
first-few (b ∷ bs) h = let l : b < 2 ^ 8 = h 0 0 (omega arith) in omega (arith, l)

answer-sound : (d : Devices) (n : Need) (moment : ℕ) → IsFewNeed (Some n) → HaveByteInput d → IsSoundAnswer n (answer d n moment)
unfolding answer
answer-sound d (Write channel bytes) moment few h = write-sound d channel bytes few.0 few.1 h
answer-sound d (Read channel buf len) moment few h = read-sound d channel buf len few h
answer-sound d (Random buf len) moment few h = random-sound d buf len few h
answer-sound d Clock moment few h = record { input = (kind-5, omega arith, no-bytes); brings = tt; devices = h }
answer-sound d MomentWord moment few h = record { input = (kind-16, omega arith, no-bytes); brings = tt; devices = h }
answer-sound d InputWord moment few h = record { input = (kind-17, first-few d.input h.input, no-bytes); brings = tt; devices = input-taken 1 d h }

-- ---- what is taken for a step

-- what was taken fits an input of a log, brings no more than was needed, and leaves devices that hold bytes
pub record IsSoundTaken (o : Option Need) (g : Taken) : Type 0 where
  pub input : IsInputIf g.input
  pub brings : BringsIf o g.input
  pub devices : HaveByteInput g.devices

taken-by : (o : Option Need) (d : Devices) (moment : ℕ) → IsFewNeed o → HaveByteInput d → IsSoundTaken o (taken o d moment)
taken-by None d moment few h = record { input = tt; brings = tt; devices = h }
taken-by (Some n) d moment few h =
    let a = answer-sound d n moment few h in record { input = a.input; brings = a.brings; devices = a.devices }

-- what a serial step takes from the devices is so
pub taken-sound : (t : Parts) (m : List ℕ) (d : Devices) (moment : ℕ) → IsBytes m → HaveByteInput d → IsSoundTaken (need t m) (taken (need t m) d moment)
taken-sound t m d moment bytes h = taken-by (need t m) d moment (need-few t m bytes) h

-- ---- DMAs

-- a DMA takes no more bytes than its request has
pub dma-few : (d : Devices) (request : Request) → length (dma_bytes d request) ≤ request.len
dma-few d request = take-most request.len d.input

-- a DMA takes at most 4,096, all of them bytes
pub dma-bytes : (d : Devices) (request : Request) → request.len ≤ 4096 → HaveByteInput d → AreFewBytes (dma_bytes d request)
dma-bytes d request few h =
    let l = dma-few d request in few-bytes (dma_bytes d request) (omega (arith, l, few)) (take-bytes request.len d.input h.input)

-- a DMA leaves devices that hold bytes
pub dma-devices : (d : Devices) (request : Request) → HaveByteInput d → HaveByteInput (dma_taken d request)
dma-devices d request h = input-taken request.len d h
