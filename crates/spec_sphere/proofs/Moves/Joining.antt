-- A thread that may commit in a replay: it has the turn, or it has chunks left in the present stratum and no piece is done.
use Rattle.std.proofs.Common.{◌≡◌, ◌≢◌, ℕ, ◌-◌, Bool, true, false, eqb, cond, Option, Some, None, refl, sym, ap, ◌∙◌, ◌⊎◌, inl, inr, not}
use Rattle.std.specs.Prelude.{nat_eq, option_map}
use Rattle.std.proofs.lemmas.Bool.{true≢false, eqb-true, ne_eqb, eq-eqb, and_parts}
use Rattle.std.proofs.lemmas.Option.{none-some}
use Rattle.dl_entry.specs.declared.Actor.{Actor}
use Rattle.spec_play.specs.Turns.{TurnOrEnd, Turn, TurnOfDma, Ended}
use Rattle.spec_strata.specs.Standing.{Standing, has_chunks_left}
use Rattle.spec_sphere.specs.sphere.Spheres.{other_than, turn_in, joins_in, Cursor, Replay, Sphere, is_over, actor_of, pieces_of}

-- ---- pieces

abbrev pieces_if : Bool → ℕ → ℕ
pieces_if b n = cond b n 0

either_none : (b : Bool) → pieces_if b 0 ≡ 0
either_none true = refl
either_none false = refl

-- where no piece was done there is none of any thread
pub pieces_none : (now : TurnOrEnd) (j : ℕ) → pieces_of now j 0 ≡ 0
pieces_none (Turn k) j = either_none (eqb k j)
pieces_none TurnOfDma j = refl
pieces_none (Ended how) j = refl

-- a thread without the turn has no pieces of the present commit
pub pieces_other : (k j total : ℕ) → j ≢ k → pieces_of (Turn k) j total ≡ 0
pieces_other k j total ne = ap (λ (b : Bool). pieces_if b total) (ne_eqb k j (λ e. ne (sym e)))

-- the thread that has the turn has all pieces of the present commit
pub pieces_own : (k total : ℕ) → pieces_of (Turn k) k total ≡ total
pieces_own k total = ap (λ (b : Bool). pieces_if b total) (eq-eqb k k refl)

-- ---- who may commit

-- the thread has the turn in a replay that hasn't stopped
pub turn-is : (now : TurnOrEnd) (k : ℕ) → is_over now ≡ false → other_than (Actor.Thread k) (actor_of now) ≡ None → now ≡ Turn k
turn-is (Turn j) k going e =
    ap Turn (eqb-true j k (elim (eqb j k) as (λ b. cond b None (Some (Actor.Thread j)) ≡ None → b ≡ true) [
      | true ↦ λ h. refl
      | false ↦ λ h. absurd (none-some (Actor.Thread j) (sym h))
    ] e))
turn-is TurnOfDma k going e = absurd (none-some Actor.Dma (sym e))
turn-is (Ended how) k going e = absurd (true≢false going)

pub record MayGo (b : Cursor) (k : ℕ) : Type 0 where
  pub going : is_over b.now ≡ false
  pub turn : (b.now ≡ Turn k) ⊎ (joins_in b.strata k b.total ≡ true)

-- the thread isn't kept from committing
pub may_go : (b : Cursor) (k : ℕ) (p : Sphere) → is_over b.now ≡ false → turn_in (Replay b) p (Actor.Thread k) ≡ None → MayGo b k
may_go b k p going free =
    record {
      going = going;
      turn = elim (joins_in b.strata k b.total) as (λ j. cond (not j) (other_than (Actor.Thread k) (actor_of b.now)) None ≡ None → (b.now ≡ Turn k) ⊎ (j ≡ true)) [
        | true ↦ λ h. inr refl
        | false ↦ λ h. inl (turn-is b.now k going h)
      ] free;
    }

-- a thread that has the turn may
pub its_turn : (b : Cursor) (k : ℕ) → b.now ≡ Turn k → MayGo b k
its_turn b k turn = record { going = ap is_over turn; turn = inl turn }

-- where a map gives nothing there was nothing
pub none-mapped : {A B : Type 0} (f : A → B) (o : Option A) → option_map f o ≡ None → o ≡ None
none-mapped f None e = refl
none-mapped f (Some x) e = absurd (none-some (f x) (sym e))

-- without strata it has the turn
joins-none : (o : Option Standing) (k total : ℕ) → o ≡ None → joins_in o k total ≡ true → ⊥
joins-none None k total e j = true≢false (sym j)
joins-none (Some x) k total e j = absurd (none-some x (sym e))

-- in a replay without strata a thread that may commit has the turn
pub turn_in_order : (b : Cursor) (k : ℕ) → MayGo b k → b.strata ≡ None → b.now ≡ Turn k
turn_in_order b k may none = elim may.turn [
  | inl turn ↦ turn
  | inr joins ↦ absurd (joins-none b.strata k b.total none joins)
]

-- a thread joins in where no piece is done
pub joins-whole : (o : Option Standing) (k total : ℕ) → joins_in o k total ≡ true → total ≡ 0
joins-whole None k total j = absurd (true≢false (sym j))
joins-whole (Some x) k total j = eqb-true total 0 (and_parts (nat_eq total 0) (has_chunks_left x.strata x.done k) j).0

-- so the pieces are its own
pub own_pieces : (b : Cursor) (k : ℕ) → MayGo b k → pieces_of b.now k b.total ≡ b.total
own_pieces b k may = elim may.turn [
  | inl turn ↦ ap (λ (now : TurnOrEnd). pieces_of now k b.total) turn ∙ pieces_own k b.total
  | inr joins ↦ (let e = joins-whole b.strata k b.total joins in ap (pieces_of b.now k) e ∙ pieces_none b.now k ∙ sym e)
]

-- and no other thread's
pub no_others : (b : Cursor) (k j : ℕ) → MayGo b k → j ≢ k → pieces_of b.now j b.total ≡ 0
no_others b k j may ne = elim may.turn [
  | inl turn ↦ ap (λ (now : TurnOrEnd). pieces_of now j b.total) turn ∙ pieces_other k j b.total ne
  | inr joins ↦ ap (pieces_of b.now j) (joins-whole b.strata k b.total joins) ∙ pieces_none b.now j
]
