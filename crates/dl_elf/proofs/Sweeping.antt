-- Segments in the order of their addresses overlap exactly if one begins before all before it have ended.
use Rattle.std.proofs.Common.{◌≡◌, ℕ, ◌+◌, ◌<◌, ◌≤◌, inl, inr, true, false, List, length, get_or, take, ap, ◌∙◌, subst, leb-true, take_all, arith}
use Rattle.std.proofs.lemmas.List.Sums.{count_by_more_yes, count_by_more_no, sum_by-take-le, AllPass-from_list_all}
use Rattle.std.proofs.lemmas.List.{get_or_default}
use Rattle.std.specs.List.{slice_index_or, list_all}
use Rattle.std.specs.List.Sorted.{IsNonDecreasingBy}
use Rattle.dl_elf.specs.declared.segment.Segment.{Segment}
use Rattle.dl_elf.specs.Segments.{has_address}
use Rattle.dl_elf.specs.Rules.{is_in_memory, overlap}
use Rattle.dl_elf.proofs.Sharing.{sharers, Has, Lacks, has_or_lacks, overlap-found, overlap-none}

-- the first n share no address and lie before `end`, and what lies before it from the last of them on is taken
pub record Swept (sorted : List Segment) (n end : ℕ) : Type 0 where
  pub apart : (a : ℕ) → sharers (take n sorted) a ≤ 1
  pub past : (a : ℕ) → end ≤ a → sharers (take n sorted) a ≡ 0
  pub taken : (a : ℕ) → a < end → ((k : ℕ) (d : Segment) → k < n → (slice_index_or sorted k d).address ≤ a) → 0 < sharers (take n sorted) a

more_yes : (sorted : List Segment) (n : ℕ) (d : Segment) → n < length sorted → (a : ℕ) → Has (get_or sorted n d) a → sharers (take (n + 1) sorted) a ≡ sharers (take n sorted) a + 1
more_yes sorted n d inside a h = count_by_more_yes (has_address a) sorted n d inside h.test

more_no : (sorted : List Segment) (n : ℕ) (d : Segment) → n < length sorted → (a : ℕ) → Lacks (get_or sorted n d) a → sharers (take (n + 1) sorted) a ≡ sharers (take n sorted) a
more_no sorted n d inside a h = count_by_more_no (has_address a) sorted n d inside h.test

-- after a segment without bytes the sweep is where it was
pub swept-empty : (sorted : List Segment) (n end : ℕ) (d : Segment) → n < length sorted → (get_or sorted n d).memory_size ≡ 0 → Swept sorted n end → Swept sorted (n + 1) end
swept-empty sorted n end d inside empty s =
    let same : (a : ℕ) → sharers (take (n + 1) sorted) a ≡ sharers (take n sorted) a =
    λ a. elim (has_or_lacks (get_or sorted n d) a) [ inl h ↦ absurd (omega (arith, h.from, h.below)) | inr h ↦ more_no sorted n d inside a h ] in
    record {
      apart = λ a. omega (arith, same a, s.apart a);
      past = λ a h. same a ∙ s.past a h;
      taken = λ a h before. omega (arith, same a, s.taken a h (λ k e lt. before k e (omega arith)));
    }

-- a segment that begins after all before it
pub swept-next : (sorted : List Segment) (n end : ℕ) (d : Segment) → n < length sorted → end ≤ (get_or sorted n d).address → ((get_or sorted n d).memory_size ≡ 0 → ⊥) → (next : ℕ) → next ≡ (get_or sorted n d).address + (get_or sorted n d).memory_size → Swept sorted n end → Swept sorted (n + 1) next
swept-next sorted n end d inside after some next is s =
    record {
      apart = λ a. elim (has_or_lacks (get_or sorted n d) a) [
        | inl h ↦ omega (arith, more_yes sorted n d inside a h, h.from, s.past a (omega (arith, h.from)))
        | inr h ↦ omega (arith, more_no sorted n d inside a h, s.apart a)
      ];
      past = λ a h. elim (has_or_lacks (get_or sorted n d) a) [
        | inl has ↦ absurd (omega (arith, has.below))
        | inr lacks ↦ more_no sorted n d inside a lacks ∙ s.past a (omega arith)
      ];
      taken = λ a h before. elim (has_or_lacks (get_or sorted n d) a) [
        | inl has ↦ omega (arith, more_yes sorted n d inside a has)
        | inr lacks ↦ elim lacks.outside [ inl low ↦ absurd (omega (arith, before n d (omega arith))) | inr high ↦ absurd (omega arith) ]
      ];
    }

-- a segment that begins before that
pub swept-hit : (sorted : List Segment) (n end : ℕ) (d : Segment) → n < length sorted → (get_or sorted n d).address < end → ((get_or sorted n d).memory_size ≡ 0 → ⊥) → IsNonDecreasingBy (λ s. s.address) sorted → Swept sorted n end → 1 < sharers sorted (get_or sorted n d).address
swept-hit sorted n end d inside before some rising s =
    let first = get_or sorted n d in
    let one : 0 < sharers (take n sorted) first.address =
    s.taken first.address before (λ k e lt. let here = ap (λ (x : Segment). x.address) (get_or_default sorted n d e inside) in omega (arith, here, rising k n e (omega arith) inside)) in
    elim (has_or_lacks first first.address) [
      | inl has ↦ omega (arith, more_yes sorted n d inside first.address has, one, sum_by-take-le {X = Segment})
      | inr lacks ↦ elim lacks.outside [ inl low ↦ absurd (omega arith) | inr high ↦ absurd (omega arith) ]
    ]

-- what a whole sweep shows
pub swept-all : (sorted : List Segment) (n end size : ℕ) → length sorted ≤ n → Swept sorted n end → overlap size sorted ≡ false
swept-all sorted n end size all s =
    overlap-none size sorted (λ a. let whole : take n sorted ≡ sorted = take_all n sorted all in let P : List Segment → Type 0 = λ xs. sharers xs a ≤ 1 in subst P whole (s.apart a))

-- what a hit shows, if each segment lies in the memory
pub hit-overlaps : (sorted : List Segment) (n end size : ℕ) (d : Segment) → n < length sorted → (get_or sorted n d).address < end → ((get_or sorted n d).memory_size ≡ 0 → ⊥) → IsNonDecreasingBy (λ s. s.address) sorted → list_all (is_in_memory size) sorted ≡ true → Swept sorted n end → overlap size sorted ≡ true
hit-overlaps sorted n end size d inside before some rising fit s =
    let first = get_or sorted n d in
    let fits : first.address + first.memory_size ≤ size = leb-true _ _ (AllPass-from_list_all (is_in_memory size) sorted fit n d inside) in
    overlap-found size first.address sorted (omega arith) (swept-hit sorted n end d inside before some rising s)
