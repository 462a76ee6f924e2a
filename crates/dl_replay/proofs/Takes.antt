-- An actor may commit in a replay that goes on if it has the turn or joins in.
use Rattle.std.proofs.Common.{◌≡◌, ℕ, Bool, true, false, not, cond, ◌||◌, ◌&&◌, List, Option, Some, None, inl, inr, refl, sym, ap, ◌∙◌}
use Rattle.std.specs.Prelude.{nat_eq}
use Rattle.std.proofs.lemmas.Bool.{true≢false, cases_Bool, eq-eqb, eqb-true}
use Rattle.std.proofs.lemmas.Option.{none-some}
use Rattle.dl_entry.specs.declared.Actor.{Actor}
use Rattle.spec_isa.specs.declared.thread.Load.{Load}
use Rattle.spec_play.specs.declared.used.Used.{Used}
use Rattle.spec_play.specs.Turns.{TurnOrEnd, Turn, TurnOfDma, Ended}
use Rattle.spec_sphere.specs.sphere.Spheres.{Replay, Sphere, actor_of, is_over, joins_in, other_than, turn_in}
use Rattle.spec_sphere.proofs.Moves.Joining.{turn-is}
use Rattle.spec_strata.specs.Standing.{Standing}
use Rattle.dl_mode.specs.Strata.{has_left, is_head, takes_at}
use Rattle.dl_replay.specs.Following.{Following, cursor_of}

-- whether an actor may commit although it isn't its turn
abbrev joins : Following → Actor → Bool
joins r (Actor.Thread k) = joins_in r.strata k r.total
joins r Actor.Dma = false

-- the one that has the turn isn't kept from committing
its-own : (actor : Actor) → other_than actor (Some actor) ≡ None
its-own (Actor.Thread k) = ap (λ (b : Bool). cond b None (Some (Actor.Thread k))) (eq-eqb k k refl)
its-own Actor.Dma = refl

-- and only that one
dma-turn : (now : TurnOrEnd) → is_over now ≡ false → other_than Actor.Dma (actor_of now) ≡ None → actor_of now ≡ Some Actor.Dma
dma-turn (Turn j) going free = absurd (none-some (Actor.Thread j) (sym free))
dma-turn TurnOfDma going free = refl
dma-turn (Ended how) going free = absurd (true≢false going)

has-turn : (now : TurnOrEnd) (actor : Actor) → is_over now ≡ false → other_than actor (actor_of now) ≡ None → actor_of now ≡ Some actor
has-turn now (Actor.Thread k) going free = ap actor_of (turn-is now k going free)
has-turn now Actor.Dma going free = dma-turn now going free

-- one that doesn't join in has to wait
waits : (r : Following) (used : Used) (loads : List Load) (p : Sphere) (actor : Actor) → joins r actor ≡ false
    → turn_in (Replay (cursor_of r used loads)) p actor ≡ other_than actor (actor_of r.now)
waits r used loads p (Actor.Thread k) out = ap (λ (j : Bool). cond (not j) (other_than (Actor.Thread k) (actor_of r.now)) None) out
waits r used loads p Actor.Dma out = refl

-- one that joins in doesn't
joins-free : (r : Following) (used : Used) (loads : List Load) (p : Sphere) (actor : Actor) → joins r actor ≡ true
    → turn_in (Replay (cursor_of r used loads)) p actor ≡ None
joins-free r used loads p (Actor.Thread k) is = ap (λ (j : Bool). cond (not j) (other_than (Actor.Thread k) (actor_of r.now)) None) is
joins-free r used loads p Actor.Dma is = absurd (true≢false (sym is))

head-free : (r : Following) (used : Used) (loads : List Load) (p : Sphere) (actor : Actor) → joins r actor ≡ false → actor_of r.now ≡ Some actor
    → turn_in (Replay (cursor_of r used loads)) p actor ≡ None
head-free r used loads p actor out head = waits r used loads p actor out ∙ ap (other_than actor) head ∙ its-own actor

free-head : (r : Following) (used : Used) (loads : List Load) (p : Sphere) (actor : Actor) → is_over r.now ≡ false → joins r actor ≡ false
    → turn_in (Replay (cursor_of r used loads)) p actor ≡ None → actor_of r.now ≡ Some actor
free-head r used loads p actor going out free = has-turn r.now actor going (sym (waits r used loads p actor out) ∙ free)

-- ---- told the head

-- an actor that passes the test for the head is the head
pub is-head : (o : Option Actor) (a : Actor) → is_head o a ≡ true → o ≡ Some a
is-head None a e = absurd (true≢false (sym e))
is-head (Some (Actor.Thread j)) (Actor.Thread k) e = ap (λ (n : ℕ). Some (Actor.Thread n)) (eqb-true j k e)
is-head (Some (Actor.Thread j)) Actor.Dma e = absurd (true≢false (sym e))
is-head (Some Actor.Dma) (Actor.Thread k) e = absurd (true≢false (sym e))
is-head (Some Actor.Dma) Actor.Dma e = refl

-- the head passes the test for the head
pub own-head : (a : Actor) → is_head (Some a) a ≡ true
own-head (Actor.Thread k) = eq-eqb k k refl
own-head Actor.Dma = refl

head-is : (o : Option Actor) (a : Actor) → o ≡ Some a → is_head o a ≡ true
head-is o a e = ap (λ (h : Option Actor). is_head h a) e ∙ own-head a

-- between two commits those that have chunks left join in
left-in : (o : Option Standing) (total k : ℕ) → total ≡ 0 → joins_in o k total ≡ has_left o (Actor.Thread k)
left-in None total k e = refl
left-in (Some x) total k e = ap (λ (n : ℕ). nat_eq n 0 && has_left (Some x) (Actor.Thread k)) e

left-dma : (o : Option Standing) → has_left o Actor.Dma ≡ false
left-dma None = refl
left-dma (Some x) = refl

left-is : (r : Following) (a : Actor) → r.total ≡ 0 → joins r a ≡ has_left r.strata a
left-is r (Actor.Thread k) e = left-in r.strata r.total k e
left-is r Actor.Dma e = sym (left-dma r.strata)

-- and between two pieces none does
none-in : (o : Option Standing) (total k : ℕ) → nat_eq total 0 ≡ false → joins_in o k total ≡ false
none-in None total k e = refl
none-in (Some x) total k e = ap (λ (b : Bool). b && has_left (Some x) (Actor.Thread k)) e

none-joins : (r : Following) (a : Actor) → nat_eq r.total 0 ≡ false → joins r a ≡ false
none-joins r (Actor.Thread k) e = none-in r.strata r.total k e
none-joins r Actor.Dma e = refl

-- a number that isn't 0 fails the test for 0
pub not-zero : (n : ℕ) → (n ≡ 0 → ⊥) → nat_eq n 0 ≡ false
not-zero n some = elim (cases_Bool (nat_eq n 0)) [ inl e ↦ absurd (some (eqb-true n 0 e)) | inr e ↦ e ]

or-false : (b : Bool) → b || false ≡ b
or-false true = refl
or-false false = refl

-- either of two tests passes if the second one does
pub or-right : (b c : Bool) → c ≡ true → b || c ≡ true
or-right true c e = refl
or-right false c e = e

pub record Takes (result : Bool) (r : Following) (used : Used) (loads : List Load) (p : Sphere) (a : Actor) : Type 0 where
  pub free : result ≡ true → turn_in (Replay (cursor_of r used loads)) p a ≡ None
  pub takes : turn_in (Replay (cursor_of r used loads)) p a ≡ None → result ≡ true

-- between two commits
pub takes-now : (r : Following) (used : Used) (loads : List Load) (p : Sphere) (a : Actor) → is_over r.now ≡ false → r.total ≡ 0
    → Takes (takes_at r.strata (actor_of r.now) a) r used loads p a
takes-now r used loads p a going e =
    let left = left-is r a e in
    elim (cases_Bool (joins r a)) [
      | inl is ↦
          record {
            free = λ _. joins-free r used loads p a is;
            takes = λ _. or-right (is_head (actor_of r.now) a) (has_left r.strata a) (sym left ∙ is);
          }
      | inr out ↦
          let same : takes_at r.strata (actor_of r.now) a ≡ is_head (actor_of r.now) a =
          ap (λ (b : Bool). is_head (actor_of r.now) a || b) (sym left ∙ out) ∙ or-false (is_head (actor_of r.now) a) in
          record {
            free = λ is. head-free r used loads p a out (is-head (actor_of r.now) a (sym same ∙ is));
            takes = λ free. same ∙ head-is (actor_of r.now) a (free-head r used loads p a going out free);
          }
    ]

-- between two pieces
pub takes-head : (r : Following) (used : Used) (loads : List Load) (p : Sphere) (a : Actor) → is_over r.now ≡ false → nat_eq r.total 0 ≡ false
    → Takes (is_head (actor_of r.now) a) r used loads p a
takes-head r used loads p a going e =
    let out = none-joins r a e in
    record {
      free = λ is. head-free r used loads p a out (is-head (actor_of r.now) a is);
      takes = λ free. head-is (actor_of r.now) a (free-head r used loads p a going out free);
    }
