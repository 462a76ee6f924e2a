-- What a store makes of a buffer: a word that is there is stored again in its place, and a new one comes last.
use Rattle.std.proofs.Common.{◌≡◌, ℕ, ◌<◌, true, List, [], ◌∷◌, ◌++◌, length, get_or, Option, Some, None, refl, sym, ap, ◌∙◌, arith, length-append, nat_lt}
use Rattle.std.specs.Prelude.{slice_set}
use Rattle.std.specs.List.{position}
use Rattle.std.proofs.Math.ListN.{length-set}
use Rattle.spec_isa.specs.Words.{Stored, later, merged, put}
use Rattle.spec_isa.specs.Masks.{bytes_of}
use Rattle.spec_isa.proofs.BufferLaws.{Apart-put}
use Rattle.dl_wbuf.specs.Buffers.{has_room}
use Rattle.dl_wbuf.specs.Invariant.{IsBuffer}
use Rattle.dl_wbuf.proofs.Places.{is_of, IsFound-place, IsMissing-place}

word_of : (a m v : ℕ) → (bytes_of a m v).number ≡ a
unfolding bytes_of
word_of a m v = refl

later_none : (b : Option ℕ) → later None b ≡ b
later_none None = refl
later_none (Some b) = refl

-- the first store of a word
pub merged-none : (a m v : ℕ) → merged (bytes_of a 0 0) (bytes_of (bytes_of a 0 0).number m v) ≡ bytes_of a m v
unfolding merged bytes_of
merged-none a m v = simp later_none

-- a store of a word that is there is put by merging the two at its place
pub put_found : (ws : List Stored) (a i m v : ℕ) (old new : Stored) → position (is_of a) ws ≡ Some i → old ≡ get_or ws i old → new ≡ merged old (bytes_of old.number m v) → slice_set ws i new ≡ put ws (bytes_of a m v)
put_found ws a i m v old new place was is =
    let found = IsFound-place ws a i place in
    let word : old.number ≡ a = ap (λ s. s.number) was ∙ found.number old in
    let e : new ≡ merged (get_or ws i old) (bytes_of a m v) = rw (← was, ← word) is in
    rw e (sym (found.puts (bytes_of a m v) old (word_of a m v)))

-- a store of a word that isn't there is put by adding it after the others
pub put_missing : (ws : List Stored) (a m v : ℕ) (none new : Stored) → position (is_of a) ws ≡ None → none ≡ bytes_of a 0 0 → new ≡ merged none (bytes_of none.number m v) → ws ++ new ∷ [] ≡ put ws (bytes_of a m v)
put_missing ws a m v none new place empty is =
    let e : new ≡ bytes_of a m v = (rw empty at is) ∙ merged-none a m v in
    rw e (sym ((IsMissing-place ws a place).puts (bytes_of a m v) (word_of a m v)))

-- each word is still there once, and within the capacity, after one that is there is stored again
pub IsBuffer-found : (capacity room : ℕ) (ws : List Stored) (i : ℕ) (new s : Stored) → slice_set ws i new ≡ put ws s → IsBuffer capacity room ws → IsBuffer capacity room (slice_set ws i new)
IsBuffer-found c r ws i new s e h =
    record {
      apart = rw e (Apart-put ws s h.apart);
      within = rw (length-set ws i new) h.within;
      least = h.least;
      most = h.most;
      made = h.made;
    }

-- each word is still there once, and within the capacity, after a new one is added if there were fewer
pub IsBuffer-missing : (capacity room : ℕ) (ws : List Stored) (new s : Stored) → ws ++ new ∷ [] ≡ put ws s → length ws < capacity → IsBuffer capacity room ws → IsBuffer capacity room (ws ++ new ∷ [])
IsBuffer-missing c r ws new s e lt h =
    record {
      apart = rw e (Apart-put ws s h.apart);
      within = rw length-append (omega arith);
      least = h.least;
      most = h.most;
      made = h.made;
    }

-- each word is still there once, and within the capacity, after the first is taken out
pub IsBuffer-drained : (capacity room left : ℕ) (ws : List Stored) (s : Stored) (ss : List Stored) → ws ≡ s ∷ ss → left ≡ room → IsBuffer capacity room ws → IsBuffer capacity left ss
IsBuffer-drained c r l ws s ss e same h =
    let was = rw e at h in
    record {
      apart = was.apart.1;
      within = omega (arith, was.within);
      least = was.least;
      most = was.most;
      made = rw same was.made;
    }

-- there is always room for a word that is there
pub room_found : (capacity : ℕ) (ws : List Stored) (a i : ℕ) → position (is_of a) ws ≡ Some i → has_room (record { capacity = capacity; words = ws }) a ≡ true
room_found c ws a i place = rw ((IsFound-place ws a i place).held) refl

-- there is room for a word that isn't there exactly if there are fewer words than the capacity
pub room_missing : (capacity : ℕ) (ws : List Stored) (a : ℕ) → position (is_of a) ws ≡ None → has_room (record { capacity = capacity; words = ws }) a ≡ nat_lt (length ws) capacity
room_missing c ws a place = rw ((IsMissing-place ws a place).held) refl

-- what is at a place is of the same word after a store is merged into it
pub same_word : (ws : List Stored) (i : ℕ) (old new s : Stored) → old ≡ get_or ws i old → new ≡ merged old s → new.number ≡ (get_or ws i old).number
unfolding merged
same_word ws i old new s was is = ap (λ w. w.number) is ∙ ap (λ w. w.number) was

-- a store merged into the empty one of a word is of that word
pub new_word : (a m v : ℕ) (none new : Stored) → none ≡ bytes_of a 0 0 → new ≡ merged none (bytes_of none.number m v) → new.number ≡ a
unfolding merged bytes_of
new_word a m v none new empty is = ap (λ w. w.number) is ∙ ap (λ w. w.number) empty
