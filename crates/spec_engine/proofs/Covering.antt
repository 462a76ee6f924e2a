-- A chunk's signatures cover what it stores and loads.
use Rattle.std.proofs.Common.{◌≡◌, ℕ, ◌/◌, Bool, true, false, List, [], ◌∷◌, ◌++◌, Option, Some, None, if◌then◌else◌, nat_eq, refl, sym, subst}
use Rattle.spec_isa.specs.declared.thread.Load.{Load}
use Rattle.spec_isa.specs.declared.thread.Parts.{Parts}
use Rattle.spec_isa.specs.declared.operation.Operation.{Operation}
use Rattle.spec_isa.specs.Words.{Stored, lays, merged, put, read}
use Rattle.spec_isa.specs.Instruction.{operation_of, loads_of, next_of, load_of, store_of}
use Rattle.spec_isa.specs.Operations.{word_loaded, load_then}
use Rattle.spec_isa.specs.Runs.{with_load, with_store}
use Rattle.spec_isa.proofs.BufferLaws.{merged_number}
use Rattle.spec_engine.specs.Flights.{Flight}
use Rattle.spec_engine.specs.Signatures.{Signature, line, insert, covers}
use Rattle.spec_engine.specs.Chunks.{Chunk, Stepping, marked, ran, with_line, at_limit, reading, storing, loading, running, step}
use Rattle.spec_engine.specs.Laws.{CoversWords, CoversLoads, IsCovered, ChunksAreCovered}
use Rattle.spec_engine.proofs.Marking.{covers_insert, covers_more}
use Rattle.spec_engine.proofs.Choosing.{keep_option, keep_choose}

-- ---- one more line

words_more : (i l : ℕ) (g : Signature) (ws : List Stored) → CoversWords i g ws → CoversWords i (insert l g) ws
words_more i l g [] all = tt
words_more i l g (s ∷ ss) all = (covers_more l (line i s.number) g all.0, words_more i l g ss all.1)

loads_more : (i l : ℕ) (g : Signature) (ls : List Load) → CoversLoads i g ls → CoversLoads i (insert l g) ls
loads_more i l g [] all = tt
loads_more i l g (x ∷ xs) all = (covers_more l (line i (x.addr / 4)) g all.0, loads_more i l g xs all.1)

-- ---- one more word or load

put_by : (i : ℕ) (g : Signature) (r : Stored) (rs : List Stored) (s : Stored) (b : Bool) → covers g (line i r.number) ≡ true → CoversWords i g rs → CoversWords i g (put rs s)
    → CoversWords i g (if b then merged r s ∷ rs else r ∷ put rs s)
put_by i g r rs s true one rest after = (subst (λ (a : ℕ). covers g (line i a) ≡ true) (sym (merged_number r s)) one, rest)
put_by i g r rs s false one rest after = (one, after)

words_put : (i : ℕ) (g : Signature) (ws : List Stored) (s : Stored) → CoversWords i g ws → covers g (line i s.number) ≡ true → CoversWords i g (put ws s)
words_put i g [] s all one = (one, tt)
words_put i g (r ∷ rs) s all one = put_by i g r rs s (nat_eq r.number s.number) all.0 all.1 (words_put i g rs s all.1 one)

loads_push : (i : ℕ) (g : Signature) (ls : List Load) (l : Load) → CoversLoads i g ls → covers g (line i (l.addr / 4)) ≡ true → CoversLoads i g (ls ++ l ∷ [])
loads_push i g [] l all one = (one, tt)
loads_push i g (x ∷ xs) l all one = (all.0, loads_push i g xs l all.1 one)

words_stored : (i : ℕ) (g : Signature) (ws : List Stored) (store : Option Stored) → CoversWords i g ws → CoversWords i (with_line i store g) (with_store ws store)
words_stored i g ws None all = all
words_stored i g ws (Some s) all = words_put i (insert (line i s.number) g) ws s (words_more i (line i s.number) g ws all) (covers_insert (line i s.number) g)

-- ---- the load is of the word that was read

abbrev LoadedFrom : Option ℕ → Option Load → Type 0
LoadedFrom o None = Unit {0}
LoadedFrom o (Some l) = o ≡ Some (l.addr / 4)

operation_loads : (p : Operation) (w : ℕ) → LoadedFrom (word_loaded p) (load_then p w)
operation_loads (Operation.Go rd value pc) w = tt
operation_loads (Operation.Stop kind) w = tt
operation_loads (Operation.Load op rd a) w = refl
operation_loads (Operation.Store op a v) w = tt
operation_loads (Operation.LoadReserved rd a) w = refl
operation_loads (Operation.StoreConditional rd a v) w = tt
operation_loads (Operation.Amo op rd a v) w = refl

loaded_from : (t : Parts) (f w : ℕ) → LoadedFrom (loads_of t f) (load_of t f w)
unfolding loads_of load_of
loaded_from t f w = operation_loads (operation_of t f) w

-- the signature covers the word, if there is one
abbrev CoversRead : (sphere : ℕ) → Signature → Option ℕ → Type 0
CoversRead i g None = Unit {0}
CoversRead i g (Some a) = covers g (line i a) ≡ true

loads_loaded : (i : ℕ) (g : Signature) (ls : List Load) (o : Option ℕ) (load : Option Load) → CoversLoads i g ls → CoversRead i g o → LoadedFrom o load → CoversLoads i g (with_load ls load)
loads_loaded i g ls o None all one from = all
loads_loaded i g ls o (Some l) all one from = loads_push i g ls l all (subst (CoversRead i g) from one)

-- ---- the stages of a step

Covered : Stepping → Type 0
Covered s = IsCovered s.chunk

storing_covers : (capacity f w : ℕ) (ch : Chunk) → IsCovered ch → CoversRead ch.sphere ch.reads (loads_of ch.done.thread f) → Covered (storing capacity f w ch)
unfolding Covered storing at_limit
storing_covers capacity f w ch all one =
    let t = ch.done.thread in
    let after : IsCovered (ran ch (next_of t f w) (load_of t f w) (store_of t f w)) = record {
      words = words_stored ch.sphere ch.writes ch.done.words (store_of t f w) all.words;
      loads = loads_loaded ch.sphere ch.reads ch.done.loads (loads_of t f) (load_of t f w) all.loads one (loaded_from t f w);
    } in
    keep_choose Covered _ _ _ (λ _. keep_choose Covered _ _ _ (λ _. record { words = after.words; loads = after.loads }) (λ _. after)) (λ _. record { words = all.words; loads = all.loads })

marked_covers : (ch : Chunk) (a : ℕ) → IsCovered ch → IsCovered (marked ch a)
marked_covers ch a all = record { words = all.words; loads = loads_more ch.sphere (line ch.sphere a) ch.reads ch.done.loads all.loads }

reading_covers : (slots : List (Option Flight)) (c : ℕ) (ch : Chunk) (a : ℕ) (then_ : Chunk → Stepping) → IsCovered ch → Covered (then_ (marked ch a)) → Covered (reading slots c ch a then_)
unfolding Covered reading
reading_covers slots c ch a then_ all next = keep_option Covered _ _ _ (λ _. next) (λ k _. all)

loading_covers : (capacity : ℕ) (shown : List ℕ) (slots : List (Option Flight)) (c f : ℕ) (ch : Chunk) → IsCovered ch → Covered (loading capacity shown slots c f ch)
unfolding loading
loading_covers capacity shown slots c f ch all =
    let t = ch.done.thread in
    keep_option Covered _ _ _
    (λ none. storing_covers capacity f 0 ch all (subst (CoversRead ch.sphere ch.reads) (sym none) tt))
    (λ a some. reading_covers slots c ch a (storing capacity f (read shown a)) all
    (storing_covers capacity f (read shown a) (marked ch a) (marked_covers ch a all)
    (subst (CoversRead ch.sphere (insert (line ch.sphere a) ch.reads)) (sym some) (covers_insert (line ch.sphere a) ch.reads))))

running_covers : (capacity : ℕ) (shown : List ℕ) (slots : List (Option Flight)) (c f : ℕ) (ch : Chunk) → IsCovered ch → Covered (running capacity shown slots c f ch)
unfolding Covered running
running_covers capacity shown slots c f ch all =
    keep_option Covered _ _ _ (λ _. loading_covers capacity shown slots c f ch all) (λ kind _. record { words = all.words; loads = all.loads })

step_covers : (capacity : ℕ) (m : List ℕ) (slots : List (Option Flight)) (c : ℕ) (ch : Chunk) → IsCovered ch → Covered (step capacity m slots c ch)
unfolding Covered step
step_covers capacity m slots c ch all =
    let pc = ch.done.thread.pc in
    let shown = lays m ch.done.words in
    keep_choose Covered _ _ _
    (λ _. reading_covers slots c ch (pc / 4) (running capacity shown slots c (read shown (pc / 4))) all (running_covers capacity shown slots c (read shown (pc / 4)) (marked ch (pc / 4)) (marked_covers ch (pc / 4) all)))
    (λ _. record { words = all.words; loads = all.loads })

covered_is : (s : Stepping) → Covered s → IsCovered s.chunk
unfolding Covered
covered_is s all = all

-- the signatures of a fresh or squashed chunk cover its words and loads, and a step keeps that
pub chunks_covered : ChunksAreCovered
chunks_covered = record {
  begun = λ bits i t limit halves. record { words = tt; loads = tt };
  squashed = λ ch. record { words = tt; loads = tt };
  stepped = λ capacity m slots c ch all. covered_is (step capacity m slots c ch) (step_covers capacity m slots c ch all);
}
