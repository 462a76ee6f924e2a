-- Reading the order of a log undoes writing it.
use Rattle.std.proofs.Common.{◌≡◌, ℕ, ◌+◌, ◌/◌, ◌%◌, ◌<◌, ◌≤◌, ◌^◌, ◌==◌, Bool, true, false, List, [], ◌∷◌, ◌++◌, All, Option, Some, None, Result, Ok, Err, map, length, if◌then◌else◌, refl, ap, ◌∙◌, arith, ◌⊎◌, inl, inr, eq-eqb}
use Rattle.std.specs.List.{flat_map}
use Rattle.std.proofs.lemmas.Bool.{eqb-true}
use Rattle.std.proofs.lemmas.Bool.Decides.{Decides-or, Decides-ltb, Decides-eqb}
use Rattle.std.proofs.lemmas.List.{nil_from_length}
use Rattle.std.proofs.lemmas.List.Elements.{All-nil, All-from_recursion, recursion_from_All}
use Rattle.std.specs.Bool.{Decides}
use Rattle.dl_entry.specs.Actor.{code}
use Rattle.dl_entry.specs.declared.actor.Actor.{Actor}
use Rattle.dl_entry.specs.declared.actor.Actor.TheVariants.{Thread, Dma}
use Rattle.spec_log.specs.declared.mode_name.ModeName.{ModeName}
use Rattle.spec_log.specs.declared.mode_name.ModeName.TheVariants.{OrderSize, OrderOnly, Picolog}
use Rattle.spec_log.specs.Bytes.{u8, u32, actor_bytes, order_bytes}
use Rattle.spec_log.specs.Log.{IsActor, IsOrder}
use Rattle.spec_log.specs.Versions.{IsVersion, by_version}
use Rattle.spec_log.specs.declared.fault.Fault.{Fault}
use Rattle.spec_log.specs.declared.shape.Shape.{Shape}
use Rattle.spec_log.specs.Fields.{Read, Reader, continues, read, gives, passes, raw, field, comes_after, last, one_more, repeated}
use Rattle.spec_log.specs.Reading.{actor_of, actors_by_halves, is_actor, more_actors, one_actor, order_len, ordered}
use Rattle.dl_logfmt.proofs.Streams.{number-passed}
use Rattle.dl_logfmt.proofs.Codes.{Codes, Codes-as, Codes-read, Codes-then, Codes-gives}
use Rattle.dl_logfmt.proofs.EntryLaws.{Codes-field, few-threads}
use Rattle.dl_logfmt.proofs.SectionLaws.{AreEntries, Codes-entries, Rises-any, entries, staged-entries}
use Rattle.dl_logfmt.proofs.HalvesLaws.{AreActors, Codes-halved, actor_of-thread, counted-halves, halved}

-- ---- version 2, a byte for each actor: they are entries in any order

-- one of so many threads, or a DMA
abbrev byte_actor : (threads : ℕ) → Reader Actor
byte_actor threads = read (field 1 (is_actor threads)) (λ byte. gives (actor_of 63 byte))

abbrev byte_actors : (threads n : ℕ) → Reader (List Actor)
byte_actors threads n = entries (λ x y. true) (byte_actor threads) None n

abbrev one_byte : Actor → List ℕ
one_byte actor = code actor ∷ []

Decides-actor : (threads x : ℕ) → Decides (is_actor threads x) ((x < threads) ⊎ (x ≡ 63))
Decides-actor threads x = Decides-or _ _ (Decides-ltb x threads) (Decides-eqb x 63)

Codes-byte : (threads : ℕ) → threads ≤ 63 → Codes (byte_actor threads) one_byte (IsActor threads)
Codes-byte threads few =
    Codes-then (field 1 (is_actor threads)) (λ byte. gives (actor_of 63 byte)) u8 (λ x. (x < threads) ⊎ (x ≡ 63))
    (λ byte y. []) (λ byte y. y ≡ actor_of 63 byte) one_byte (IsActor threads)
    (Codes-field 1 5 (is_actor threads) (λ x. (x < threads) ⊎ (x ≡ 63)) (λ x h l. (Decides-actor threads x).0 h) (λ x h. (small x h, (Decides-actor threads x).1 h)))
    (λ byte g. Codes-gives (actor_of 63 byte) (λ y. y ≡ actor_of 63 byte) refl (λ y e. e))
    byte_split byte_join where
      small : (x : ℕ) → (x < threads) ⊎ (x ≡ 63) → x < 256
      small x (inl below) = omega (arith, below, few)
      small x (inr is) = omega (arith, is)

      byte_split : (y : Actor) → IsActor threads y
          → (byte : ℕ) × ((byte < threads) ⊎ (byte ≡ 63)) × (y ≡ actor_of 63 byte) × (one_byte y ≡ u8 byte ++ [])
      byte_split (Thread number) g =
          let low : number % 256 ≡ number = omega (arith, g, few) in
          (number, inl g, rw (actor_of-thread 63 number (λ e. omega (arith, g, few, e))) refl, rw low refl)
      byte_split Dma g = (63, inr refl, refl, refl)

      byte_join : (byte : ℕ) (y : Actor) → (byte < threads) ⊎ (byte ≡ 63) → y ≡ actor_of 63 byte
          → IsActor threads y × (one_byte y ≡ u8 byte ++ [])
      byte_join byte y (inl below) e =
          let low : byte % 256 ≡ byte = omega (arith, below, few) in
          rw (e, actor_of-thread 63 byte (λ k. omega (arith, below, few, k)), low) (below, refl)
      byte_join byte y (inr is) e = rw (e, is) (tt, refl)

each-byte : (xs : List Actor) → flat_map one_byte xs ≡ map code xs
each-byte [] = refl
each-byte (x ∷ xs) = rw (each-byte xs) refl

Codes-bytes : (threads n : ℕ) → threads ≤ 63 → Codes (byte_actors threads n) (map code) (AreActors threads n)
Codes-bytes threads n few =
    Codes-as (byte_actors threads n) (flat_map one_byte) (map code) (AreEntries (λ x y. true) (IsActor threads) None n) (AreActors threads n)
    (Codes-entries n (λ x y. true) (byte_actor threads) one_byte (IsActor threads) None (Codes-byte threads few))
    (λ xs g. each-byte xs)
    (λ xs g. (g.0, All-from_recursion (IsActor threads) xs g.1))
    (λ xs g. (g.0, recursion_from_All (IsActor threads) xs g.1, Rises-any xs None))

-- ---- both versions

-- so many actors
abbrev pub actors : Shape → ℕ → Reader (List Actor)
actors shape n = by_version shape.version (halved n) (byte_actors shape.threads n)

-- the order of a log: the number of actors that its mode asks for, then so many actors
abbrev pub order_of : Shape → ModeName → ℕ → Reader (List Actor)
order_of shape mode count = read (field 4 (λ n. n == ordered mode count)) (actors shape)

Codes-actors : (version threads n : ℕ) → IsVersion version threads
    → Codes (by_version version (halved n) (byte_actors threads n)) (actor_bytes version) (AreActors threads n)
Codes-actors version threads n (inl first) = rw (first.0, first.1) (Codes-halved n)
Codes-actors version threads n (inr second) =
    let few = few-threads version threads (inr second) in rw second.0 (Codes-bytes threads n few)

order_good : (mode : ModeName) (threads count : ℕ) (order : List Actor) → AreActors threads (ordered mode count) order → IsOrder mode threads count order
order_good OrderSize threads count order h = h
order_good OrderOnly threads count order h = h
order_good Picolog threads count order h = nil_from_length order h.0

order_parts : (mode : ModeName) (threads count : ℕ) (order : List Actor) → IsOrder mode threads count order → AreActors threads (ordered mode count) order
order_parts OrderSize threads count order h = h
order_parts OrderOnly threads count order h = h
order_parts Picolog threads count order h = rw h (refl, All-nil (IsActor threads))

ordered-small : (mode : ModeName) (count : ℕ) → count ≤ 2 ^ 24 → ordered mode count < 2 ^ 32
ordered-small OrderSize count h = omega arith
ordered-small OrderOnly count h = omega arith
ordered-small Picolog count h = omega arith

-- reading an order undoes writing it
pub Codes-order : (shape : Shape) (mode : ModeName) (count : ℕ) → IsVersion shape.version shape.threads → count ≤ 2 ^ 24
    → Codes (order_of shape mode count) (order_bytes shape.version) (IsOrder mode shape.threads count)
Codes-order shape mode count good small =
    Codes-as (order_of shape mode count) (order_bytes shape.version) (order_bytes shape.version) _ (IsOrder mode shape.threads count)
    (Codes-read (field 4 (λ n. n == ordered mode count)) (actors shape) length u32 (λ n. n ≡ ordered mode count) (actor_bytes shape.version) (All (IsActor shape.threads))
    (Codes-field 4 5 (λ n. n == ordered mode count) (λ n. n ≡ ordered mode count) (λ n h l. eqb-true n (ordered mode count) h)
    (λ n h. (rw h (ordered-small mode count small), eq-eqb n (ordered mode count) h)))
    (λ n g. Codes-actors shape.version shape.threads n good))
    (λ order h. refl) (order_good mode shape.threads count) (order_parts mode shape.threads count)

-- ---- the stage of a file, which reads one byte of actors each time

comes_after-any : (o : Option Actor) (x : Actor) → comes_after (λ x y. true) o x ≡ true
comes_after-any None x = refl
comes_after-any (Some y) x = refl

one_byte-entry : (xs : List Actor) (start : ℕ) (bytes : List ℕ) (r : Result (Read ℕ) Fault)
    → continues r (λ byte. gives (xs ++ actor_of 63 byte ∷ []) bytes)
    ≡ continues (continues (continues r (λ byte. gives (actor_of 63 byte) bytes)) (λ x. passes (comes_after (λ x y. true) (last xs) x) 6 start x bytes)) (λ x. gives (xs ++ x ∷ []) bytes)
one_byte-entry xs start bytes (Ok r) = rw (comes_after-any (last xs) (actor_of 63 r.value)) refl
one_byte-entry xs start bytes (Err fault) = refl

-- one actor more is one entry more
one_actor-more : (threads : ℕ) (xs : List Actor) (bytes : List ℕ) (at : ℕ)
    → one_actor threads xs bytes at ≡ one_more (λ x y. true) (byte_actor threads) xs bytes at
one_actor-more threads xs bytes at = one_byte-entry xs at bytes (field 1 (is_actor threads) bytes at)

as-many : {X : Type 0} (bytes : List ℕ) (r : Result (Read ℕ) Fault) (next : ℕ → Reader X)
    → continues (continues r (λ n. gives n bytes)) (λ n. next n bytes) ≡ continues r (λ n. next n bytes)
as-many bytes (Ok r) next = refl
as-many bytes (Err fault) next = refl

ordered-all : (mode : ModeName) (count : ℕ) → 0 < ordered mode count → ordered mode count ≡ count
ordered-all OrderSize count h = refl
ordered-all OrderOnly count h = refl
ordered-all Picolog count h = absurd (omega arith)

staged-by : {D : Type 0} (first : Bool) (one : D → Reader D) (set : List Actor → D) (mode : ModeName) (threads count : ℕ)
    → ((xs : List Actor) (bytes : List ℕ) (at : ℕ)
    → one (set xs) bytes at ≡ read (if first then actors_by_halves count xs else one_actor threads xs) (λ ys. gives (set ys)) bytes at)
    → (bytes : List ℕ) (at : ℕ)
    → read (read (field 4 (λ n. n == ordered mode count)) (λ n. gives (if first then n / 2 + n % 2 else n))) (λ k. repeated one k (set [])) bytes at
    ≡ read (read (field 4 (λ n. n == ordered mode count)) (λ n. if first then halved n else byte_actors threads n)) (λ xs. gives (set xs)) bytes at
staged-by true one set mode threads count on bytes at =
    counted-halves one set count on bytes (field 4 (λ n. n == ordered mode count) bytes at)
    (λ x e h.
    let same : x.value ≡ ordered mode count = eqb-true x.value (ordered mode count) (number-passed 5 at (λ n. n == ordered mode count) (raw 4 bytes at) bytes x e) in
    same ∙ ordered-all mode count (omega arith))
staged-by false one set mode threads count on bytes at =
    as-many bytes (field 4 (λ n. n == ordered mode count) bytes at) (λ n. repeated one n (set []))
    ∙ staged-entries one set (λ x y. true) (byte_actor threads)
    (λ xs bytes at. on xs bytes at ∙ ap (λ r. continues r (λ ys. gives (set ys) bytes)) (one_actor-more threads xs bytes at))
    (field 4 (λ n. n == ordered mode count)) bytes at

-- the stage reads the actors after their number
pub staged-actors : {D : Type 0} (one : D → Reader D) (set : List Actor → D) (shape : Shape) (mode : ModeName) (count : ℕ)
    → ((xs : List Actor) (bytes : List ℕ) (at : ℕ) → one (set xs) bytes at ≡ read (more_actors shape count xs) (λ ys. gives (set ys)) bytes at)
    → (bytes : List ℕ) (at : ℕ)
    → read (read (field 4 (λ n. n == ordered mode count)) (λ n. gives (order_len shape.version n))) (λ k. repeated one k (set [])) bytes at
    ≡ read (order_of shape mode count) (λ xs. gives (set xs)) bytes at
staged-actors one set shape mode count on bytes at =
    staged-by (shape.version == 1) one set mode shape.threads count on bytes at
