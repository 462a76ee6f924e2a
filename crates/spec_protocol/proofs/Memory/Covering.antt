-- What signatures cover: the lines of stored words, and when a word is no word of a flight.
use Rattle.std.proofs.Common.{◌++◌, ◌/◌, ◌≡◌, ℕ, zero, suc, ◌≤◌, inl, inr, Bool, true, false, eqb, cond, ◌&&◌, List, [], ◌∷◌, length, Option, Some, None, refl, sym, ap, ◌∙◌, subst, arith}
use Rattle.std.proofs.lemmas.Bool.{true≢false, and_parts, and_from, cases_Bool, false_from_ne_true}
use Rattle.std.proofs.lemmas.Bool.Decides.{eqb_tells}
use Rattle.spec_isa.specs.Words.{Stored, merged, put, Lacks}
use Rattle.std.proofs.lemmas.Option.{none-some}
use Rattle.std.proofs.lemmas.List.{length-append}
use Rattle.spec_isa.specs.declared.thread.Parts.{Parts}
use Rattle.spec_isa.specs.declared.thread.Load.{Load}
use Rattle.spec_isa.specs.declared.operation.Operation.{Operation}
use Rattle.spec_isa.specs.Operations.{loaded, word_loaded, load_then}
use Rattle.spec_isa.specs.Instruction.{operation_of, loads_of, load_of}
use Rattle.spec_isa.specs.Runs.{with_load, with_store}
use Rattle.spec_engine.specs.Signatures.{Signature, insert, covers, hits, line, signed}
use Rattle.spec_engine.specs.Flights.{Flight, at, is_none, first_slot, told_at, bounces}
use Rattle.spec_engine.specs.Chunks.{Chunk, with_line}
use Rattle.spec_engine.specs.Laws.{CoversLoads, CoversWords}
use Rattle.spec_engine.proofs.Marking.{covers_insert, covers_more, covers_hit}
use Rattle.spec_engine.proofs.Searches.{first_none}
use Rattle.spec_engine.specs.Flying.{words_of, flying}
use Rattle.spec_sphere.proofs.Memory.Laying.{Lacks-append}
use Rattle.spec_play.specs.Touching.{Unseen, AllLack}
use Rattle.spec_protocol.specs.promises.Currency.{seen_by, IsQuiet}
use Rattle.spec_protocol.specs.promises.Invariants.{IsFlightCovered, AreCovered}

pub CoversWords_more : (i l : ℕ) (g : Signature) (ws : List Stored) → CoversWords i g ws → CoversWords i (insert l g) ws
CoversWords_more i l g [] c = tt
CoversWords_more i l g (w ∷ ws) c = (covers_more l (line i w.number) g c.0, CoversWords_more i l g ws c.1)

put_covered : (i : ℕ) (g : Signature) (s : Stored) (ws : List Stored) → covers g (line i s.number) ≡ true → CoversWords i g ws → CoversWords i g (put ws s)
unfolding merged
put_covered i g s [] h c = (h, tt)
put_covered i g s (w ∷ ws) h c =
    elim (eqb w.number s.number) as (λ b. CoversWords i g (cond b (merged w s ∷ ws) (w ∷ put ws s))) [
      | true ↦ (c.0, c.1)
      | false ↦ (c.0, put_covered i g s ws h c.1)
    ]

-- a store's line is marked with it
pub CoversWords-store : (i : ℕ) (g : Signature) (ws : List Stored) (store : Option Stored) → CoversWords i g ws → CoversWords i (with_line i store g) (with_store ws store)
CoversWords-store i g ws None c = c
CoversWords-store i g ws (Some s) c =
    put_covered i (insert (line i s.number) g) s ws (covers_insert (line i s.number) g) (CoversWords_more i (line i s.number) g ws c)

put_length : (ws : List Stored) (s : Stored) → length (put ws s) ≤ suc (length ws)
unfolding merged
put_length [] s = omega arith
put_length (w ∷ ws) s =
    elim (eqb w.number s.number) as (λ b. length (cond b (merged w s ∷ ws) (w ∷ put ws s)) ≤ suc (suc (length ws))) [
      | true ↦ omega arith
      | false ↦ let h = put_length ws s in omega arith
    ]

-- a store makes at most one word more
pub length-store : (ws : List Stored) (store : Option Stored) → length (with_store ws store) ≤ suc (length ws)
length-store ws None = omega arith
length-store ws (Some s) = put_length ws s

-- loads that one signature covers and another, which covers more
pub CoversLoads_more : (i : ℕ) (g h : Signature) (ls : List Load) → ((a : ℕ) → covers g (line i a) ≡ true → covers h (line i a) ≡ true) → CoversLoads i g ls → CoversLoads i h ls
CoversLoads_more i g h [] more_ c = tt
CoversLoads_more i g h (l ∷ ls) more_ c = (more_ (l.addr / 4) c.0, CoversLoads_more i g h ls more_ c.1)

loads_push : (i : ℕ) (g : Signature) (ls : List Load) (l : Load) → covers g (line i (l.addr / 4)) ≡ true → CoversLoads i g ls → CoversLoads i g (ls ++ l ∷ [])
loads_push i g [] l e c = (e, tt)
loads_push i g (k ∷ ls) l e c = (c.0, loads_push i g ls l e c.1)

-- a signature covers one load more, if it covers the load's line
pub CoversLoads-load : (i : ℕ) (g : Signature) (ls : List Load) (load : Option Load) → ((l : Load) → load ≡ Some l → covers g (line i (l.addr / 4)) ≡ true) → CoversLoads i g ls → CoversLoads i g (with_load ls load)
CoversLoads-load i g ls None e c = c
CoversLoads-load i g ls (Some l) e c = loads_push i g ls l (e l refl) c

-- an instruction makes at most one load more
pub length-load : (ls : List Load) (load : Option Load) → length (with_load ls load) ≤ suc (length ls)
length-load ls None = omega arith
length-load ls (Some l) = let h = length-append ls (l ∷ []) in omega arith

-- the word that an operation's load is of
operation_load : (p : Operation) (w : ℕ) (l : Load) → load_then p w ≡ Some l → word_loaded p ≡ Some (l.addr / 4)
operation_load (Operation.Go rd value pc) w l e = absurd (none-some l e)
operation_load (Operation.Stop kind) w l e = absurd (none-some l e)
operation_load (Operation.Load op rd a) w l e = let h : record { addr = a; value = loaded op w a } ≡ l = cc in ap (λ (k : Load). Some (k.addr / 4)) h
operation_load (Operation.Store op a v) w l e = absurd (none-some l e)
operation_load (Operation.LoadReserved rd a) w l e = let h : record { addr = a; value = w } ≡ l = cc in ap (λ (k : Load). Some (k.addr / 4)) h
operation_load (Operation.StoreConditional rd a v) w l e = absurd (none-some l e)
operation_load (Operation.Amo op rd a v) w l e = let h : record { addr = a; value = w } ≡ l = cc in ap (λ (k : Load). Some (k.addr / 4)) h

-- an instruction's load is of the word that it loads
pub load-word : (t : Parts) (f w : ℕ) (l : Load) → load_of t f w ≡ Some l → loads_of t f ≡ Some (l.addr / 4)
unfolding load_of loads_of
load-word t f w l e = operation_load (operation_of t f) w l e

-- a signature keeps its size when a store's line is put in
pub bits-with_line : (i : ℕ) (store : Option Stored) (g : Signature) → (with_line i store g).bits ≡ g.bits
bits-with_line i None g = refl
bits-with_line i (Some s) g = refl

-- marking the lines of words in a signature leaves its size
pub bits-signed : (i : ℕ) (ws : List Stored) (g : Signature) → (signed i ws g).bits ≡ g.bits
bits-signed i [] g = refl
bits-signed i (w ∷ ws) g = bits-signed i ws (insert (line i w.number) g)

signed_more : (i l : ℕ) (ws : List Stored) (g : Signature) → covers g l ≡ true → covers (signed i ws g) l ≡ true
signed_more i l [] g e = e
signed_more i l (w ∷ ws) g e = signed_more i l ws (insert (line i w.number) g) (covers_more (line i w.number) l g e)

-- a signature that the words were signed into covers them
pub CoversWords-signed : (i : ℕ) (ws : List Stored) (g : Signature) → CoversWords i (signed i ws g) ws
CoversWords-signed i [] g = tt
CoversWords-signed i (w ∷ ws) g =
    (signed_more i (line i w.number) ws (insert (line i w.number) g) (covers_insert (line i w.number) g), CoversWords-signed i ws (insert (line i w.number) g))

-- ---- words that are not among those covered

-- a word whose line the signature doesn't cover is none of the covered ones
pub uncovered-lacks : (i a : ℕ) (g : Signature) (ws : List Stored) → CoversWords i g ws → covers g (line i a) ≡ false → Lacks a ws
uncovered-lacks i a g [] c e = tt
uncovered-lacks i a g (w ∷ ws) c e =
    ((λ same. true≢false (sym c.0 ∙ ap (λ (b : ℕ). covers g (line i b)) same ∙ e)), uncovered-lacks i a g ws c.1 e)

-- two signatures of one size that do not hit: no word of the one is a word of the other
pub apart-covered : (i : ℕ) (g h : Signature) (xs ys : List Stored) → h.bits ≡ g.bits → CoversWords i g xs → CoversWords i h ys → hits g h ≡ false → AllLack xs ys
apart-covered i g h [] ys size cx cy e = tt
apart-covered i g h (x ∷ xs) ys size cx cy e = (
  uncovered-lacks i x.number h ys cy (false_from_ne_true (covers h (line i x.number)) (λ c. true≢false (sym (covers_hit g h (line i x.number) size cx.0 c) ∙ e))),
  apart-covered i g h xs ys size cx.1 cy e,
)

-- the flying words of sphere i lack a word that no flight of the sphere has
pub flying-lacks : (i a : ℕ) (xs : List (Option Flight)) → ((k : ℕ) (f : Flight) → at xs k ≡ Some f → f.sphere ≡ i → Lacks a f.words) → Lacks a (flying i xs)
flying-lacks i a [] each = tt
flying-lacks i a (None ∷ xs) each = flying-lacks i a xs (λ k f e. each (suc k) f e)
flying-lacks i a (Some f ∷ xs) each =
    elim (eqb_tells f.sphere i) [
      | inl h ↦ Lacks-append a (words_of i (Some f)) (flying i xs) (rw h.0 (each zero f refl h.1)) (flying-lacks i a xs (λ k g e. each (suc k) g e))
      | inr h ↦ Lacks-append a (words_of i (Some f)) (flying i xs) (rw h.0 tt) (flying-lacks i a xs (λ k g e. each (suc k) g e))
    ]

-- these words are none of the flying ones, where they are none of each flight of the sphere
pub flying-all_lack : (i : ℕ) (ws : List Stored) (xs : List (Option Flight)) → ((k : ℕ) (f : Flight) → at xs k ≡ Some f → f.sphere ≡ i → AllLack ws f.words) → AllLack ws (flying i xs)
flying-all_lack i [] xs each = tt
flying-all_lack i (w ∷ ws) xs each =
    (flying-lacks i w.number xs (λ k f e s. (each k f e s).0), flying-all_lack i ws xs (λ k f e s. (each k f e s).1))

-- ---- flights that are told, and those that are not

-- a word that the chunk's reads cover, and that no told flight holds up
abbrev pub clear : List (Option Flight) → (core : ℕ) → Chunk → (number : ℕ) → Bool
clear xs c ch a = seen_by ch a && is_none (first_slot (bounces c (line ch.sphere a)) xs)

unbounced : (xs : List (Option Flight)) (c l : ℕ) → is_none (first_slot (bounces c l) xs) ≡ true → first_slot (bounces c l) xs ≡ None
unbounced xs c l e =
    elim (first_slot (bounces c l) xs) as (λ (o : Option ℕ). is_none o ≡ true → o ≡ None) [
      | None ↦ λ h. refl
      | Some k ↦ λ h. absurd (let g : false ≡ true = h in grind arith)
    ] e

lacking : (bits : ℕ) (xs : List (Option Flight)) (c : ℕ) (ch : Chunk) (a : ℕ) (f : Flight) → IsFlightCovered bits f → ch.reads.bits ≡ bits → covers ch.reads (line ch.sphere a) ≡ true
    → bounces c (line ch.sphere a) f ≡ false → f.sphere ≡ ch.sphere → (told_at f.told c ≡ false → hits f.writes ch.reads ≡ false) → covers f.writes (line ch.sphere a) ≡ false
lacking bits xs c ch a f cov size seen free same misses =
    elim (cases_Bool (told_at f.told c)) [
      | inl t ↦ false_from_ne_true (covers f.writes (line ch.sphere a)) (λ h. true≢false (sym (and_from (told_at f.told c) (covers f.writes (line ch.sphere a)) t h) ∙ free))
      | inr u ↦ false_from_ne_true (covers f.writes (line ch.sphere a)) (λ h. true≢false (sym (covers_hit f.writes ch.reads (line ch.sphere a) (size ∙ sym cov.size) h seen) ∙ misses u))
    ]

-- where no untold flight of the sphere hits the reads, a clear word is no flying word
pub clear-lacks : (bits : ℕ) (xs : List (Option Flight)) (c : ℕ) (ch : Chunk) (a : ℕ) → AreCovered bits xs → ch.reads.bits ≡ bits → IsQuiet xs ch.sphere c ch.reads → clear xs c ch a ≡ true → Lacks a (flying ch.sphere xs)
clear-lacks bits xs c ch a cov size quiet e =
    let p = and_parts (seen_by ch a) (is_none (first_slot (bounces c (line ch.sphere a)) xs)) e in
    let none = unbounced xs c (line ch.sphere a) p.1 in
    flying-lacks ch.sphere a xs
    (λ k f is same.
    let cf = cov k f is in
    uncovered-lacks ch.sphere a f.writes f.words (subst (λ (j : ℕ). CoversWords j f.writes f.words) same cf.words)
    (lacking bits xs c ch a f cf size p.0 (first_none (bounces c (line ch.sphere a)) xs none k f is) same (quiet.misses k f is same)))

-- words of a list, each of which is not clear where it is among them
pub unseen_from : (seen : ℕ → Bool) (ws : List Stored) → ((a : ℕ) → seen a ≡ true → Lacks a ws) → Unseen seen ws
unseen_from seen [] each = tt
unseen_from seen (w ∷ ws) each =
    (false_from_ne_true (seen w.number) (λ h. (each w.number h).0 refl), unseen_from seen ws (λ a h. (each a h).1))
