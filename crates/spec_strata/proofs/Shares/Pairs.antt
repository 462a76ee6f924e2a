-- Parallel commits, two by two.
use Rattle.std.proofs.Common.{ℕ, zero, suc, ◌<◌, Bool, false, List, [], ◌∷◌, refl, arith}
use Rattle.std.proofs.lemmas.Bool.{or_right}
use Rattle.spec_isa.specs.declared.thread.Parts.{Parts}
use Rattle.spec_isa.specs.Words.{Stored}
use Rattle.spec_play.specs.Touching.{Unseen}
use Rattle.spec_strata.specs.Shares.{Rule, share_more, alone}
use Rattle.spec_strata.specs.Parallel.{seen_at, words_at, ParallelByPairs}
use Rattle.spec_strata.proofs.Local.Footprints.{meets-unseen, Unseen-less}
use Rattle.spec_strata.proofs.Shares.Steps.{Unseen-append, Unseen-or, seen_more, words_fewer}
use Rattle.spec_strata.proofs.Shares.Checking.{Unseen_right}
use Rattle.spec_strata.proofs.Shares.Testing.{unseen-meets}

-- what a thread stores in all its commits is unseen, if what it stores in each is
words-all : (q : Rule) (m : List ℕ) (t : Parts) (seen : ℕ → Bool) (n : ℕ) → ((i : ℕ) → i < n → Unseen seen (words_at q m t i)) → Unseen seen (alone q m t n).words
unfolding share_more
words-all q m t seen zero each = tt
words-all q m t seen (suc n) each =
    Unseen-append seen (alone q m t n).words (words_at q m t n) (words-all q m t seen n (λ i l. each i (omega arith))) (each n (omega arith))

none-seen : (ws : List Stored) → Unseen (λ a. false) ws
none-seen [] = tt
none-seen (w ∷ ws) = (refl, none-seen ws)

-- what a thread has seen in all its commits has none of these words, if what it saw in each has none
seen-all : (q : Rule) (m : List ℕ) (t : Parts) (ws : List Stored) (n : ℕ) → ((l : ℕ) → l < n → Unseen (seen_at q m t l) ws) → Unseen (alone q m t n).seen ws
unfolding share_more
seen-all q m t ws zero each = none-seen ws
seen-all q m t ws (suc n) each =
    Unseen-or (alone q m t n).seen (seen_at q m t n) ws (seen-all q m t ws n (λ l h. each l (omega arith))) (each n (omega arith))

-- and the other way round
words-one : (q : Rule) (m : List ℕ) (t : Parts) (seen : ℕ → Bool) (i n : ℕ) → i < n → Unseen seen (alone q m t n).words → Unseen seen (words_at q m t i)
unfolding share_more
words-one q m t seen i n l u = Unseen_right seen (alone q m t i).words (words_at q m t i) (words_fewer q m t seen (suc i) n (omega arith) u)

seen-one : (q : Rule) (m : List ℕ) (t : Parts) (ws : List Stored) (l n : ℕ) → l < n → Unseen (alone q m t n).seen ws → Unseen (seen_at q m t l) ws
unfolding share_more
seen-one q m t ws l n h u =
    Unseen-less (alone q m t n).seen (seen_at q m t l) ws (λ a e. seen_more q m t (suc l) n a (omega arith) (or_right ((alone q m t l).seen a) _ e)) u

-- commits are parallel exactly if no two of them, of different threads, conflict
pub parallel_by_pairs : ParallelByPairs
parallel_by_pairs q m ts done = (
  (λ p. record {
    apart = λ j k t u ne t_is u_is.
        words-all (q j) m t (alone (q k) m u (done k)).seen (done j)
        (λ i h. seen-all (q k) m u (words_at (q j) m t i) (done k)
        (λ l g. meets-unseen (seen_at (q k) m u l) (words_at (q j) m t i) (p.apart j k t u i l ne t_is u_is h g)));
  }),
  (λ p. record {
    apart = λ j k t u i l ne t_is u_is h g.
        unseen-meets (seen_at (q k) m u l) (words_at (q j) m t i)
        (seen-one (q k) m u (words_at (q j) m t i) l (done k) g
        (words-one (q j) m t (alone (q k) m u (done k)).seen i (done j) h (p.apart j k t u ne t_is u_is)));
  }),
)
