-- What a chunk looked at is its commit's footprint.
use Rattle.std.proofs.Common.{◌≡◌, ℕ, ◌<◌, inl, inr, List, length, Option, Some, None, Result, Ok, Err, OnOk, refl, sym, ap, ◌∙◌, subst, arith}
use Rattle.std.specs.Prelude.{slice_get}
use Rattle.std.proofs.lemmas.Bool.{or_cases}
use Rattle.dl_entry.specs.declared.Actor.{Actor}
use Rattle.spec_isa.specs.declared.thread.Parts.{Parts}
use Rattle.spec_isa.specs.Words.{Stored, holds}
use Rattle.spec_isa.specs.Runs.{run}
use Rattle.spec_log.specs.declared.LogParts.{LogParts}
use Rattle.spec_log.specs.Size.{size_in}
use Rattle.spec_play.specs.Turns.{Turn}
use Rattle.spec_play.specs.Plays.{Played, size_or_standard}
use Rattle.spec_sphere.specs.sphere.Spheres.{whole_limit}
use Rattle.spec_sphere.proofs.PlayingBack.Sizes.{size_by, size-is, limit_by, limit-is}
use Rattle.spec_query.specs.declared.Store.{Store}
use Rattle.spec_isa.specs.Inside.{AreInside}
use Rattle.spec_strata.specs.Footprints.{looks}
use Rattle.dl_serial.specs.declared.footprint.Footprint.{Footprint}
use Rattle.dl_serial.specs.Looks.{has, IsFootprint}
use Rattle.dl_serial.specs.Playing.{Playing, HasLooked}
use Rattle.dl_serial.proofs.Inside.{looks-inside, holds-inside}

by-some : (o : Option ℕ) (s : ℕ) → 0 < size_by o s → limit_by o s ≡ size_by o s
by-some None s l = refl
by-some (Some z) s l = omega arith

-- a size that isn't 0 is the limit of the whole commit
whole-size : (log : LogParts) (k c : ℕ) → 0 < size_or_standard log k c → whole_limit log k c ≡ size_or_standard log k c
whole-size log k c some =
    limit-is log k c ∙ by-some (size_in log (Actor.Thread k) c) log.s (subst (λ (n : ℕ). 0 < n) (size-is log k c) some) ∙ sym (size-is log k c)

same-turn : (j k : ℕ) → Turn j ≡ Turn k → k ≡ j
same-turn j k e = cc

same-part : (t u : Parts) → Some t ≡ Some u → t ≡ u
same-part t u e = cc

-- it is a run of the whole commit by the thread whose turn it is
pub record IsLook (log : LogParts) (y : Played) (k : ℕ) (t : Parts) (limit : ℕ) (f : Footprint) : Type 0 where
  pub turn : y.now ≡ Turn k
  pub there : slice_get y.threads k ≡ Some t
  pub whole : limit ≡ whole_limit log k t.commits
  pub looked : (a : ℕ) → has f.looked.items a ≡ looks y.memory t limit a
  pub stored : (a : ℕ) → has f.stored.items a ≡ holds (run y.memory t limit).words a
  pub inside : AreInside (length y.memory) (run y.memory t limit).words

-- what a run of the whole commit looks at is the footprint of the next chunk
pub has-looked : (log : LogParts) (y : Played) (ss : List Store) (v : Playing) (k : ℕ) (t : Parts) (limit : ℕ) (f : Footprint)
    → (let w : Playing = record { log = log; played = y; stores = ss } in w ≡ v) → IsLook log y k t limit f → HasLooked v f
has-looked log y ss v k t limit f is l =
    subst (λ (p : Playing). HasLooked p f) is
    (record {
      chunk = λ j u now there some.
          let at_ : k ≡ j = same-turn j k (sym now ∙ l.turn) in
          let thread : t ≡ u = same-part t u (sym l.there ∙ ap (slice_get y.threads) at_ ∙ there) in
          let all : limit ≡ size_or_standard log j u.commits =
          l.whole ∙ (λ i. whole_limit log (at_ i) (thread i).commits) ∙ whole-size log j u.commits some in
          record {
            looked = λ a. l.looked a ∙ (λ i. looks y.memory (thread i) (all i) a);
            stored = λ a. l.stored a ∙ (λ i. holds (run y.memory (thread i) (all i)).words a);
            inside = λ a seen. elim (or_cases (has f.looked.items a) (has f.stored.items a) seen) [
              | inl e ↦ looks-inside y.memory t limit a (sym (l.looked a) ∙ e)
              | inr e ↦ holds-inside (length y.memory) (run y.memory t limit).words a l.inside (sym (l.stored a) ∙ e)
            ];
          };
    })

-- what is so is so of an Ok
pub ok-of : {A E : Type 0} (r : Result A E) (P : Type 0) → P → OnOk r P
ok-of (Ok x) P p = p
ok-of (Err e) P p = tt
