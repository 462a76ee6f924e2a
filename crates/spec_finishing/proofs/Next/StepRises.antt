-- With no flight left, a step of an open chunk is never held up: it runs an instruction or closes the chunk.
use Rattle.std.proofs.Common.{◌≡◌, ℕ, suc, ◌+◌, ◌/◌, ◌<◌, Bool, true, eqb, cond, List, length, Option, Some, None, refl, sym, ap, ◌∙◌, arith}
use Rattle.std.proofs.lemmas.Option.{none-some}
use Rattle.spec_isa.specs.Words.{lays, read, is_inside}
use Rattle.spec_isa.specs.Instruction.{serial_of, loads_of, next_of, load_of, store_of}
use Rattle.spec_engine.specs.declared.answers.How.{How}
use Rattle.spec_engine.specs.declared.answers.Stepped.{Stepped}
use Rattle.spec_engine.specs.Signatures.{line}
use Rattle.spec_engine.specs.Flights.{Flight, at, first_slot, bounces}
use Rattle.spec_engine.specs.Chunks.{Chunk, Stepping, closes, marked, ran, at_limit, has_room, reading, storing, loading, running, step, is_open}
use Rattle.spec_engine.proofs.Choosing.{keep_option, keep_choose}
use Rattle.spec_engine.proofs.Searches.{first_some}
use Rattle.spec_protocol.specs.machine.Stepping.{reply_of_step}
use Rattle.spec_finishing.specs.Ending.{furthers_finishing}

-- the chunk, which had run n instructions, has run one more or is closed
pub record Rises (i n : ℕ) (s : Stepping) : Type 0 where
  pub sphere : s.chunk.sphere ≡ i
  pub done : furthers_finishing (reply_of_step s.reply) ≡ true
  pub more : n < s.chunk.done.n + cond (is_open s.chunk) 0 1

-- if every slot is free, none is found
pub none_found : (p : Flight → Bool) (xs : List (Option Flight)) (o : Option ℕ) → first_slot p xs ≡ o → ((k : ℕ) → at xs k ≡ None) → o ≡ None
none_found p xs None e none = refl
none_found p xs (Some k) e none = let f = first_some p xs k e in absurd (none-some f.0 (sym (none k) ∙ f.1))

closes_rises : (i n : ℕ) (how : How) (ch : Chunk) → ch.sphere ≡ i → ch.done.n ≡ n → Rises i n (closes how ch)
closes_rises i n how ch sphere e = record { sphere = sphere; done = refl; more = omega (arith, e) }

ran_on : (i n : ℕ) (ch : Chunk) → ch.sphere ≡ i → ch.done.n ≡ suc n → Rises i n (record { reply = Stepped.Ran; chunk = ch })
ran_on i n ch sphere e = record { sphere = sphere; done = refl; more = omega (arith, e) }

limit_rises : (i n : ℕ) (ch : Chunk) → ch.sphere ≡ i → ch.done.n ≡ suc n → Rises i n (at_limit ch)
unfolding at_limit
limit_rises i n ch sphere e =
    keep_choose (Rises i n) (eqb ch.done.n ch.limit) (closes How.Limit ch) (record { reply = Stepped.Ran; chunk = ch })
    (λ _. record { sphere = sphere; done = refl; more = omega (arith, e) })
    (λ _. ran_on i n ch sphere e)

reading_rises : (i n : ℕ) (xs : List (Option Flight)) (c : ℕ) (ch : Chunk) (a : ℕ) (then_ : Chunk → Stepping) → ((k : ℕ) → at xs k ≡ None) → Rises i n (then_ (marked ch a)) → Rises i n (reading xs c ch a then_)
unfolding reading
reading_rises i n xs c ch a then_ none rises =
    keep_option (Rises i n) (first_slot (bounces c (line ch.sphere a)) xs) (then_ (marked ch a)) (λ k. record { reply = Stepped.Bounced k; chunk = ch })
    (λ _. rises)
    (λ k e. absurd (none-some k (sym (none_found (bounces c (line ch.sphere a)) xs (Some k) e none))))

storing_rises : (i n capacity f w : ℕ) (ch : Chunk) → ch.sphere ≡ i → ch.done.n ≡ n → Rises i n (storing capacity f w ch)
unfolding storing
storing_rises i n capacity f w ch sphere e =
    let t = ch.done.thread in
    let next = ran ch (next_of t f w) (load_of t f w) (store_of t f w) in
    keep_choose (Rises i n) (has_room capacity ch.done.words (store_of t f w)) (at_limit next) (closes How.Overflow ch)
    (λ _. limit_rises i n next sphere (ap suc e))
    (λ _. closes_rises i n How.Overflow ch sphere e)

loading_rises : (i n capacity : ℕ) (shown : List ℕ) (xs : List (Option Flight)) (c f : ℕ) (ch : Chunk) → ((k : ℕ) → at xs k ≡ None) → ch.sphere ≡ i → ch.done.n ≡ n → Rises i n (loading capacity shown xs c f ch)
unfolding loading
loading_rises i n capacity shown xs c f ch none sphere e =
    keep_option (Rises i n) (loads_of ch.done.thread f) (storing capacity f 0 ch) (λ a. reading xs c ch a (storing capacity f (read shown a)))
    (λ _. storing_rises i n capacity f 0 ch sphere e)
    (λ a _. reading_rises i n xs c ch a (storing capacity f (read shown a)) none (storing_rises i n capacity f (read shown a) (marked ch a) sphere e))

running_rises : (i n capacity : ℕ) (shown : List ℕ) (xs : List (Option Flight)) (c f : ℕ) (ch : Chunk) → ((k : ℕ) → at xs k ≡ None) → ch.sphere ≡ i → ch.done.n ≡ n → Rises i n (running capacity shown xs c f ch)
unfolding running
running_rises i n capacity shown xs c f ch none sphere e =
    keep_option (Rises i n) (serial_of ch.done.thread f (length shown)) (loading capacity shown xs c f ch) (λ kind. closes How.Serial ch)
    (λ _. loading_rises i n capacity shown xs c f ch none sphere e)
    (λ kind _. closes_rises i n How.Serial ch sphere e)

-- with every slot free a step of an open chunk runs an instruction or closes the chunk
pub step-rises : (capacity : ℕ) (m : List ℕ) (xs : List (Option Flight)) (c : ℕ) (ch : Chunk) → ((k : ℕ) → at xs k ≡ None) → Rises ch.sphere ch.done.n (step capacity m xs c ch)
unfolding step
step-rises capacity m xs c ch none =
    let shown = lays m ch.done.words in
    let a = ch.done.thread.pc / 4 in
    keep_choose (Rises ch.sphere ch.done.n) (is_inside (length shown) ch.done.thread.pc) (reading xs c ch a (running capacity shown xs c (read shown a))) (closes How.Serial ch)
    (λ _. reading_rises ch.sphere ch.done.n xs c ch a (running capacity shown xs c (read shown a)) none (running_rises ch.sphere ch.done.n capacity shown xs c (read shown a) (marked ch a) none refl refl))
    (λ _. closes_rises ch.sphere ch.done.n How.Serial ch refl refl)
