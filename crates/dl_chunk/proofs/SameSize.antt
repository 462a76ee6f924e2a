-- A chunk keeps the size of its signatures.
use Rattle.std.proofs.Common.{◌≡◌, ℕ, ◌/◌, List, Option, refl}
use Rattle.spec_isa.specs.Words.{lays, read}
use Rattle.spec_engine.specs.Flights.{Flight}
use Rattle.spec_engine.specs.Chunks.{Chunk, Stepping, marked, at_limit, reading, storing, loading, running, step}
use Rattle.spec_engine.proofs.Choosing.{keep_option, keep_choose}

Has : ℕ → Stepping → Type 0
Has bits s = s.chunk.reads.bits ≡ bits

storing_bits : (bits capacity f w : ℕ) (ch : Chunk) → ch.reads.bits ≡ bits → Has bits (storing capacity f w ch)
unfolding Has storing at_limit
storing_bits bits capacity f w ch e = keep_choose (Has bits) _ _ _ (λ _. keep_choose (Has bits) _ _ _ (λ _. e) (λ _. e)) (λ _. e)

reading_bits : (bits : ℕ) (slots : List (Option Flight)) (c : ℕ) (ch : Chunk) (a : ℕ) (then_ : Chunk → Stepping) → ch.reads.bits ≡ bits → Has bits (then_ (marked ch a)) → Has bits (reading slots c ch a then_)
unfolding Has reading
reading_bits bits slots c ch a then_ e next = keep_option (Has bits) _ _ _ (λ _. next) (λ k _. e)

loading_bits : (bits capacity : ℕ) (shown : List ℕ) (slots : List (Option Flight)) (c f : ℕ) (ch : Chunk) → ch.reads.bits ≡ bits → Has bits (loading capacity shown slots c f ch)
unfolding loading
loading_bits bits capacity shown slots c f ch e =
    keep_option (Has bits) _ _ _
    (λ _. storing_bits bits capacity f 0 ch e)
    (λ a _. reading_bits bits slots c ch a (storing capacity f (read shown a)) e (storing_bits bits capacity f (read shown a) (marked ch a) e))

running_bits : (bits capacity : ℕ) (shown : List ℕ) (slots : List (Option Flight)) (c f : ℕ) (ch : Chunk) → ch.reads.bits ≡ bits → Has bits (running capacity shown slots c f ch)
unfolding Has running
running_bits bits capacity shown slots c f ch e = keep_option (Has bits) _ _ _ (λ _. loading_bits bits capacity shown slots c f ch e) (λ kind _. e)

step_has : (bits capacity : ℕ) (m : List ℕ) (slots : List (Option Flight)) (c : ℕ) (ch : Chunk) → ch.reads.bits ≡ bits → Has bits (step capacity m slots c ch)
unfolding Has step
step_has bits capacity m slots c ch e =
    let pc = ch.done.thread.pc in
    let shown = lays m ch.done.words in
    keep_choose (Has bits) _ _ _
    (λ _. reading_bits bits slots c ch (pc / 4) (running capacity shown slots c (read shown (pc / 4))) e (running_bits bits capacity shown slots c (read shown (pc / 4)) (marked ch (pc / 4)) e))
    (λ _. e)

has_is : (bits : ℕ) (s : Stepping) → Has bits s → s.chunk.reads.bits ≡ bits
unfolding Has
has_is bits s e = e

-- a step keeps the size of a chunk's signature of reads
pub step_bits : (capacity : ℕ) (m : List ℕ) (slots : List (Option Flight)) (c : ℕ) (ch : Chunk) → (step capacity m slots c ch).chunk.reads.bits ≡ ch.reads.bits
step_bits capacity m slots c ch = has_is ch.reads.bits _ (step_has ch.reads.bits capacity m slots c ch refl)
