-- A word that no store changed has had its value all along, and the other way round.
use Rattle.std.proofs.Common.{◌≡◌, ℕ, zero, suc, ◌*◌, ◌/◌, ◌⊎◌, inl, inr, Bool, true, false, cond, not, eqb, List, [], ◌∷◌, ◌++◌, Option, Some, None, refl, sym, ap, ◌∙◌, arith}
use Rattle.std.specs.Prelude.{find}
use Rattle.std.specs.List.{AllByRecursion}
use Rattle.std.proofs.lemmas.Bool.Decides.{eqb_tells, leb_tells}
use Rattle.std.proofs.lemmas.Option.{none-some}
use Rattle.spec_isa.specs.Words.{read}
use Rattle.spec_log.specs.declared.LogParts.{LogParts}
use Rattle.spec_play.specs.Plays.{Played, opened, play_one, plays}
use Rattle.spec_query.specs.declared.store.Store.{Store}
use Rattle.spec_query.specs.declared.line.Line.{Line}
use Rattle.spec_query.specs.declared.when.When.{When}
use Rattle.spec_query.specs.Stores.{next_stores, stores_in}
use Rattle.spec_query.specs.Queries.{line_of, watch, change, at_change, when_changed}
use Rattle.spec_query.specs.Promise.{IsOfCommit, Spares, TellCommit, IsAlways, NoChangeIsAlways}
use Rattle.spec_query.proofs.Told.{stores_are_told}

-- ---- lists

watch-append : (xs ys : List Store) (a : ℕ) → watch (xs ++ ys) a ≡ watch xs a ++ watch ys a
watch-append [] ys a = refl
watch-append (x ∷ xs) ys a =
    elim (eqb_tells x.address a) [
      | inl h ↦ rw h.0 (ap (λ (ls : List Line). line_of x ∷ ls) (watch-append xs ys a))
      | inr h ↦ rw h.0 (watch-append xs ys a)
    ]

-- if a search of two lists finds nothing, one of each finds nothing, and the other way round
none_each : (t : Line → Bool) (ls ms : List Line) → find t (ls ++ ms) ≡ None → (find t ls ≡ None) × (find t ms ≡ None)
none_each t [] ms e = (refl, e)
none_each t (l ∷ ls) ms e =
    (elim (t l) as (λ b. cond b (Some l) (find t (ls ++ ms)) ≡ None → (cond b (Some l) (find t ls) ≡ None) × (find t ms ≡ None)) [
      | true ↦ λ h. absurd (none-some l (sym h))
      | false ↦ none_each t ls ms
    ]) e

none_both : (t : Line → Bool) (ls ms : List Line) → find t ls ≡ None → find t ms ≡ None → find t (ls ++ ms) ≡ None
none_both t [] ms e f = f
none_both t (l ∷ ls) ms e f =
    (elim (t l) as (λ b. cond b (Some l) (find t ls) ≡ None → cond b (Some l) (find t (ls ++ ms)) ≡ None) [
      | true ↦ λ h. absurd (none-some l (sym h))
      | false ↦ λ h. none_both t ls ms h f
    ]) e

-- ---- the stores of one commit

abbrev differs : (value : ℕ) → Line → Bool
differs v l = not (eqb l.value v)

-- no store changes the word from this value
abbrev IsUnchanged : List Store → (addr value : ℕ) → Type 0
IsUnchanged ss a v = change ss a v ≡ None

-- if no store changes the word, either none is to it, or the commit leaves it the value
stored_or_spared : (y z : Played) (ss : List Store) (n v : ℕ) → AllByRecursion (IsOfCommit y z) ss → IsUnchanged ss (4 * n) v → Spares (4 * n) ss ⊎ (read z.memory n ≡ v)
stored_or_spared y z [] n v each e = inl tt
stored_or_spared y z (s ∷ ss) n v each e =
    elim (eqb_tells s.address (4 * n)) [
      | inl h ↦
          let place : n ≡ s.address / 4 = let at = h.1 in omega arith in
          elim (eqb_tells s.value v) [
            | inl g ↦ inr (ap (read z.memory) place ∙ sym each.0.value ∙ g.1)
            | inr g ↦ absurd (none-some (line_of s) (sym (rw g.0 at (rw h.0 at e))))
          ]
      | inr h ↦
          elim (stored_or_spared y z ss n v each.1 (rw h.0 at e)) [
            | inl spared ↦ inl (h.1, spared)
            | inr is ↦ inr is
          ]
    ]

-- if the commit leaves the word the value, no store changes it
kept_unchanged : (y z : Played) (ss : List Store) (n v : ℕ) → AllByRecursion (IsOfCommit y z) ss → read z.memory n ≡ v → IsUnchanged ss (4 * n) v
kept_unchanged y z [] n v each is = refl
kept_unchanged y z (s ∷ ss) n v each is =
    let rest = kept_unchanged y z ss n v each.1 is in
    elim (eqb_tells s.address (4 * n)) [
      | inl h ↦
          let place : s.address / 4 ≡ n = let at = h.1 in omega arith in
          elim (eqb_tells s.value v) [
            | inl g ↦ rw (h.0, g.0) rest
            | inr g ↦ absurd (g.1 (each.0.value ∙ ap (read z.memory) place ∙ is))
          ]
      | inr h ↦ rw h.0 rest
    ]

-- the value stays, over a commit whose stores don't change it
stays : (y z : Played) (ss : List Store) (n v : ℕ) → TellCommit y z ss → read y.memory n ≡ v → IsUnchanged ss (4 * n) v → read z.memory n ≡ v
stays y z ss n v tell was e =
    elim (stored_or_spared y z ss n v tell.each e) [
      | inl spared ↦ tell.others n spared ∙ was
      | inr is ↦ is
    ]

-- ---- the stores of a play

unchanged_each : (xs ys : List Store) (a v : ℕ) → IsUnchanged (xs ++ ys) a v → IsUnchanged xs a v × IsUnchanged ys a v
unchanged_each xs ys a v e =
    none_each (differs v) (watch xs a) (watch ys a) (ap (find (differs v)) (sym (watch-append xs ys a)) ∙ e)

unchanged_both : (xs ys : List Store) (a v : ℕ) → IsUnchanged xs a v → IsUnchanged ys a v → IsUnchanged (xs ++ ys) a v
unchanged_both xs ys a v e f =
    ap (find (differs v)) (watch-append xs ys a) ∙ none_both (differs v) (watch xs a) (watch ys a) e f

module _ (log : LogParts) (memory : List ℕ) (entry n v : ℕ) where
  abbrev played : (i : ℕ) → Played
  played i = plays log (opened log memory entry) i

  always : (to : ℕ) → read memory n ≡ v → IsUnchanged (stores_in log memory entry to) (4 * n) v → IsAlways log memory entry to n v
  always zero first e i most = let none : i ≡ 0 = omega arith in ap (λ (j : ℕ). read (played j).memory n) none ∙ first
  always (suc to) first e i most =
      let parts = unchanged_each (stores_in log memory entry to) (next_stores log (played to)) (4 * n) v e in
      let before = always to first parts.0 in
      elim (leb_tells i to) [
        | inl h ↦ before i h.1
        | inr h ↦
            let all : i ≡ suc to = let more = h.1 in omega arith in
            ap (λ (j : ℕ). read (played j).memory n) all
            ∙ stays (played to) (play_one log (played to)) (next_stores log (played to)) n v (stores_are_told log (played to)) (before to (omega arith)) parts.1
      ]

  unchanged : (to : ℕ) → IsAlways log memory entry to n v → IsUnchanged (stores_in log memory entry to) (4 * n) v
  unchanged zero is = refl
  unchanged (suc to) is =
      unchanged_both (stores_in log memory entry to) (next_stores log (played to)) (4 * n) v
      (unchanged to (λ i most. is i (omega arith)))
      (kept_unchanged (played to) (play_one log (played to)) (next_stores log (played to)) n v (stores_are_told log (played to)).each (is (suc to) (omega arith)))

no_line : (o : Option Line) → at_change o ≡ When.None → o ≡ None
no_line None e = refl
no_line (Some l) e = cc

-- where the answer is that the word never changed, it has the value in the image and no store changes it
never : (ss : List Store) (first a v : ℕ) → when_changed ss first a v ≡ When.None → (first ≡ v) × IsUnchanged ss a v
never ss first a v e =
    elim (eqb_tells first v) [
      | inl h ↦ (h.1, no_line (change ss a v) (rw h.0 at e))
      | inr h ↦ let other : When.Start ≡ When.None = rw h.0 at e in cc
    ]

still : (ss : List Store) (first a v : ℕ) → first ≡ v → IsUnchanged ss a v → when_changed ss first a v ≡ When.None
still ss first a v is e =
    elim (eqb_tells first v) [
      | inl h ↦ rw h.0 (ap at_change e)
      | inr h ↦ absurd (h.1 is)
    ]

-- that a word never changed is answered exactly if it always has the value
pub no_change_is_always : NoChangeIsAlways
no_change_is_always log memory entry to n v = (
  λ e. let is = never (stores_in log memory entry to) (read memory n) (4 * n) v e in always log memory entry n v to is.0 is.1,
  λ is. still (stores_in log memory entry to) (read memory n) (4 * n) v (is 0 (omega arith)) (unchanged log memory entry n v to is),
)
