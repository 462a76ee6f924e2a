-- What the devices answer fits what was wanted.
use Rattle.std.proofs.Common.{◌≡◌, ℕ, zero, suc, ◌≤◌, Bool, true, false, ◌&&◌, ◌||◌, eqb, leb, cond, List, [], length, take, refl, ap, arith}
use Rattle.std.proofs.lemmas.Bool.{eq-eqb, le-leb, and_from, or_left}
use Rattle.std.specs.Prelude.{nat_lt}
use Rattle.std.proofs.lemmas.List.{length-take}
use Rattle.rand_pcg.specs.Lcg.{Lcg}
use Rattle.rand_pcg.specs.Pcg.{pcg32}
use Rattle.dl_entry.specs.declared.Request.{Request}
use Rattle.spec_kernel.specs.Devices.{Devices, pipe_at, pipe_fitting, pipe_first, pipe_put, pipe_taken, input_taken, console_put, random_bytes}
use Rattle.spec_kernel.specs.Needs.{Need, Write, Read, Random, Clock, MomentWord, InputWord}
use Rattle.spec_kernel.specs.Answers.{nothing_now, refused, Answered, went, write_answer, answer_write, read_answer, answer_read, answer, dma_bytes}
use Rattle.spec_kernel.specs.Records.{fits_write, fits_read, fits}

-- one of two tests holds if the second does
pub or_second : (x y : Bool) → y ≡ true → (x || y) ≡ true
or_second true y e = refl
or_second false y e = e

or_first : (x y : Bool) → x ≡ true → (x || y) ≡ true
or_first x y e = or_left x y e

take_most : (n : ℕ) (bytes : List ℕ) → length (take n bytes) ≤ n
take_most n bytes = let e = length-take n bytes in omega (arith, e)

take_fewer : (n : ℕ) (bytes : List ℕ) → length (take n bytes) ≤ length bytes
take_fewer n bytes = let e = length-take n bytes in omega (arith, e)

either_answer : (P : Answered → Type 0) (b : Bool) (x y : Answered) → P x → P y → P (cond b x y)
either_answer P true x y p q = p
either_answer P false x y p q = q

-- ---- write

abbrev writes : ℕ → ℕ → Bool
writes len result = (leb result len || (eqb result nothing_now || eqb result refused)) && true

went_writes : (count len : ℕ) (b c : Bool) → count ≤ len → eqb count 0 ≡ b → writes len (cond b (cond c 0 nothing_now) count) ≡ true
went_writes count len true true l e = and_from _ true (or_first (leb 0 len) _ (le-leb 0 len (omega arith))) refl
went_writes count len true false l e = and_from _ true (or_second (leb nothing_now len) _ refl) refl
went_writes count len false c l e = and_from _ true (or_first (leb count len) _ (le-leb count len l)) refl

write_fits : (d : Devices) (channel : ℕ) (bytes : List ℕ) → fits_write (length bytes) (answer_write d channel bytes).input ≡ true
write_fits d channel bytes =
    let other = cond (eqb channel 8) (write_answer (length bytes) (console_put bytes d)) (write_answer refused d) in
    either_answer (λ (a : Answered). fits_write (length bytes) a.input ≡ true) (nat_lt channel 8)
    (write_answer (went (length (pipe_fitting d channel bytes)) (length bytes)) (pipe_put d channel bytes)) other
    (went_writes (length (pipe_fitting d channel bytes)) (length bytes) _ (eqb (length bytes) 0) (take_fewer _ bytes) refl)
    (either_answer (λ (a : Answered). fits_write (length bytes) a.input ≡ true) (eqb channel 8) (write_answer (length bytes) (console_put bytes d)) (write_answer refused d)
    (and_from _ true (or_first (leb (length bytes) (length bytes)) _ (le-leb (length bytes) (length bytes) (omega arith))) refl)
    (and_from _ true (or_second (leb refused (length bytes)) _ refl) refl))

-- ---- read

abbrev reads : ℕ → ℕ → ℕ → Bool
reads len result count = leb result len && eqb count result || (eqb result nothing_now || eqb result refused) && eqb count 0

went_reads : (count len : ℕ) (b c : Bool) → count ≤ len → eqb count 0 ≡ b → reads len (cond b (cond c 0 nothing_now) count) count ≡ true
went_reads count len true true l e = or_first (leb 0 len && eqb count 0) _ (and_from (leb 0 len) (eqb count 0) (le-leb 0 len (omega arith)) e)
went_reads count len true false l e = or_second (leb nothing_now len && eqb count nothing_now) _ e
went_reads count len false c l e = or_first (leb count len && eqb count count) _ (and_from (leb count len) (eqb count count) (le-leb count len l) (eq-eqb count count refl))

read_fits : (d : Devices) (channel len : ℕ) → fits_read len (answer_read d channel len).input ≡ true
read_fits d channel len =
    let first = pipe_first d channel len in
    let rest = take len d.input in
    let other = cond (eqb channel 9) (read_answer (went (length rest) len) rest (input_taken len d)) (read_answer refused [] d) in
    either_answer (λ (a : Answered). fits_read len a.input ≡ true) (nat_lt channel 8)
    (read_answer (went (length first) len) first (pipe_taken d channel len)) other
    (went_reads (length first) len _ (eqb len 0) (take_most len (pipe_at d channel)) refl)
    (either_answer (λ (a : Answered). fits_read len a.input ≡ true) (eqb channel 9)
    (read_answer (went (length rest) len) rest (input_taken len d)) (read_answer refused [] d)
    (went_reads (length rest) len _ (eqb len 0) (take_most len d.input) refl)
    (or_second (leb refused len && eqb 0 refused) _ refl))

-- ---- random

length_random : (n : ℕ) (g : Lcg) → length (random_bytes n g) ≡ n
unfolding random_bytes
length_random zero g = refl
length_random (suc n) g = ap suc (length_random n (pcg32 g).1)

-- ---- all of them

kind_write : (d : Devices) (channel : ℕ) (bytes : List ℕ) → eqb (answer_write d channel bytes).input.kind 2 ≡ true
kind_write d channel bytes =
    either_answer (λ (a : Answered). eqb a.input.kind 2 ≡ true) (nat_lt channel 8) (write_answer (went (length (pipe_fitting d channel bytes)) (length bytes)) (pipe_put d channel bytes))
    (cond (eqb channel 8) (write_answer (length bytes) (console_put bytes d)) (write_answer refused d)) refl
    (either_answer (λ (a : Answered). eqb a.input.kind 2 ≡ true) (eqb channel 8) (write_answer (length bytes) (console_put bytes d)) (write_answer refused d) refl refl)

kind_read : (d : Devices) (channel len : ℕ) → eqb (answer_read d channel len).input.kind 3 ≡ true
kind_read d channel len =
    let first = pipe_first d channel len in
    let rest = take len d.input in
    let other = cond (eqb channel 9) (read_answer (went (length rest) len) rest (input_taken len d)) (read_answer refused [] d) in
    either_answer (λ (a : Answered). eqb a.input.kind 3 ≡ true) (nat_lt channel 8) (read_answer (went (length first) len) first (pipe_taken d channel len)) other refl
    (either_answer (λ (a : Answered). eqb a.input.kind 3 ≡ true) (eqb channel 9) (read_answer (went (length rest) len) rest (input_taken len d)) (read_answer refused [] d) refl refl)

-- what the devices answer to a need fits it
pub answer-fits : (d : Devices) (n : Need) (moment : ℕ) → fits n (answer d n moment).input ≡ true
unfolding answer fits
answer-fits d (Write channel bytes) moment = and_from _ _ (kind_write d channel bytes) (write_fits d channel bytes)
answer-fits d (Read channel buf len) moment = and_from _ _ (kind_read d channel len) (read_fits d channel len)
answer-fits d (Random buf len) moment = and_from _ _ (eq-eqb len len refl) (eq-eqb _ len (length_random len d.random))
answer-fits d Clock moment = refl
answer-fits d MomentWord moment = refl
answer-fits d InputWord moment = refl

-- a DMA takes no more than was asked for
pub dma-most : (d : Devices) (q : Request) → length (dma_bytes d q) ≤ q.len
dma-most d q = take_most q.len d.input
