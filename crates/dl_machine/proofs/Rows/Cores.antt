-- The cores of a row stay alike, whatever one of them holds.
use Rattle.std.proofs.Common.{◌≡◌, ℕ, ◌+◌, ◌<◌, cond, List, [], ◌∷◌, length, get_or, map, slice_set, refl, sym, ap, ◌∙◌, subst, arith, Option, None, Bool, not}
use Rattle.std.proofs.lemmas.List.{map-set, length-set, get_or-map}
use Rattle.std.proofs.lemmas.Grind.{common_steps}
use Rattle.std.proofs.lemmas.List.Elements.{All-set, All-get_or}
use Rattle.std.specs.List.{position, position_or_len}
use Rattle.spec_engine.specs.Flights.{at}
use Rattle.spec_protocol.specs.machine.World.{Occupant}
use Rattle.dl_machine.specs.Cores.{Core, holding}
use Rattle.dl_machine.specs.Rows.{AreCores, IsAlike, Cores, core_in, held_by, with_held}

same_core : (c : Core) (most words lines depth : ℕ) (held : Option Occupant) → c.most ≡ most → c.capacity ≡ words → c.bits ≡ lines → c.depth ≡ depth → c.held ≡ held → c ≡ record { most = most; capacity = words; bits = lines; depth = depth; held = held }
same_core c most words lines depth held e f g d h = λ i. record { most = e i; capacity = f i; bits = g i; depth = d i; held = h i }

alike_at : (most words lines depth : ℕ) (row : List Core) (i : ℕ) (c : Core) → AreCores most words lines depth row → i < length row → c ≡ get_or row i c → IsAlike most words lines depth c
alike_at most words lines depth row i c are within is =
    subst (λ (d : Core). IsAlike most words lines depth d) (sym is) (All-get_or (IsAlike most words lines depth) row i c within are.each)

alike_holding : (most words lines depth : ℕ) (c d : Core) (held : Option Occupant) → IsAlike most words lines depth c → d ≡ holding held c → IsAlike most words lines depth d
alike_holding most words lines depth c d held are is =
    subst (λ (e : Core). IsAlike most words lines depth e) (sym is) (record { most = are.most; capacity = are.capacity; bits = are.bits; depth = are.depth })

-- the cores of a row stay alike where one of them has come to hold something else
pub cores_set : (most words lines depth : ℕ) (row : List Core) (i : ℕ) (c d : Core) (held : Option Occupant) → AreCores most words lines depth row → i < length row → c ≡ get_or row i c → d ≡ holding held c → AreCores most words lines depth (slice_set row i d)
cores_set most words lines depth row i c d held are within at is =
    let n : length (slice_set row i d) ≡ length row = length-set row i d in
    record {
      some_core = omega (arith, are.some_core);
      most_cores = omega (arith, are.most_cores);
      least = are.least;
      most = are.most;
      size = are.size;
      each = All-set (IsAlike most words lines depth) row i d (alike_holding most words lines depth c d held (alike_at most words lines depth row i c are within at) is) are.each;
    }

-- a row of cores, seen as the sizes that they share and what each holds
abbrev pub cores_of : (most words lines depth : ℕ) → List Core → Cores
cores_of most words lines depth row = record { most = most; capacity = words; bits = lines; depth = depth; held = map held_by row }

-- what a core is asked for, as the row has it
pub core_at : (most words lines depth : ℕ) (row : List Core) (i : ℕ) (c : Core) (r : Cores) → AreCores most words lines depth row → cores_of most words lines depth row ≡ r → i < length row → c ≡ get_or row i c → c ≡ core_in r i
core_at most words lines depth row i c r are view within is =
    let a = alike_at most words lines depth row i c are within is in
    let h : c.held ≡ at (map held_by row) i = ap held_by is ∙ sym (get_or-map held_by row i c None within) in
    subst (λ (v : Cores). c ≡ core_in v i) view
    (same_core c most words lines depth (at (map held_by row) i) a.most a.capacity a.bits a.depth h)

-- where one core has come to hold something else, the row is seen with that alone changed
pub row_left : (most words lines depth : ℕ) (row : List Core) (i : ℕ) (c d : Core) (f : Core → Option Occupant) (r : Cores) → AreCores most words lines depth row → cores_of most words lines depth row ≡ r → i < length row → c ≡ get_or row i c → d ≡ holding (f c) c
    → cores_of most words lines depth (slice_set row i d) ≡ with_held i (f (core_in r i)) r
row_left most words lines depth row i c d f r are view within is left =
    let held : d.held ≡ f (core_in r i) = ap held_by left ∙ ap f (core_at most words lines depth row i c r are view within is) in
    let then_ : map held_by (slice_set row i d) ≡ slice_set (map held_by row) i (f (core_in r i)) = map-set held_by row i d ∙ ap (slice_set (map held_by row) i) held in
    ap (λ (hs : List (Option Occupant)). record { most = most; capacity = words; bits = lines; depth = depth; held = hs }) then_
    ∙ ap (with_held i (f (core_in r i))) view

-- the first core that holds what is looked for
length_held : (row : List Core) → length (map held_by row) ≡ length row
length_held row = grind (arith, common_steps)

place_held : (p : Option Occupant → Bool) (row : List Core) → position_or_len p (map held_by row) ≡ position_or_len (λ c. p c.held) row
place_held p [] = refl
place_held p (c ∷ cs) = ap (λ (n : ℕ). cond (not (p c.held)) (1 + n) 0) (place_held p cs)

-- a core is found by what it holds, among cores as among what they hold
pub position_held : (p : Option Occupant → Bool) (row : List Core) → position p (map held_by row) ≡ position (λ c. p c.held) row
position_held p row = rw (place_held p row, length_held row) refl
