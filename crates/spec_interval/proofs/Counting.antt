-- A number over the count stands for the count.
use Rattle.std.proofs.Common.{◌≡◌, ℕ, ◌+◌, ◌-◌, ◌≤◌, inl, inr, List, length, sym, ap, ◌∙◌, arith}
use Rattle.std.specs.Prelude.{min, take, drop}
use Rattle.std.proofs.lemmas.Bool.{cases_lt}
use Rattle.std.proofs.lemmas.List.{drop_all, length-take}
use Rattle.dl_entry.specs.declared.Commit.{Commit}
use Rattle.spec_log.specs.declared.LogParts.{LogParts}
use Rattle.spec_play.specs.declared.walk_end.WalkEnd.{WalkEnd}
use Rattle.spec_play.specs.Progress.{position}
use Rattle.spec_play.specs.Plays.{Played, opened, plays, play}
use Rattle.spec_play.specs.Walks.{Walked, walked_at, walked}
use Rattle.spec_play.proofs.Going.{plays-most, plays-stay, play-over}
use Rattle.spec_play.proofs.Walking.{walks_are_plays}
use Rattle.spec_interval.specs.Slices.{slice_of, slice}
use Rattle.spec_interval.specs.Promise.{SlicesStopAtCount}
use Rattle.spec_interval.proofs.Joining.{ends_at_count}

-- a walk past the count is the walk to the count
walked_past : (log : LogParts) (memory : List ℕ) (entry j : ℕ) → log.count ≤ j → walked log memory entry log.count ≡ walked log memory entry j
walked_past log memory entry j past =
    let y : Played = play log memory entry in
    let over = play-over log memory entry in
    let far : (j - log.count) + log.count ≡ j = omega (arith, past) in
    let stays : plays log (opened log memory entry) j ≡ y =
    ap (plays log (opened log memory entry)) (sym far)
    ∙ plays-stay log (opened log memory entry) log.count (j - log.count) over.0 over.1
    in
    let here = ends_at_count log log.count (position y.progress) y.now over.0 (omega arith) over.1 in
    let there = ends_at_count log j (position y.progress) y.now over.0 past over.1 in
    ap (λ (end : WalkEnd). record (walked_at log j y) { end = end }) (here ∙ sym there) ∙ ap (walked_at log j) (sym stays)

walked_min : (log : LogParts) (memory : List ℕ) (entry j : ℕ) → walked log memory entry (min j log.count) ≡ walked log memory entry j
walked_min log memory entry j =
    elim (cases_lt j log.count) [
      | inl l ↦ let h : min j log.count ≡ j = omega (arith, l) in ap (walked log memory entry) h
      | inr past ↦ let h : min j log.count ≡ log.count = omega (arith, past) in ap (walked log memory entry) h ∙ walked_past log memory entry j past
    ]

few : (log : LogParts) (memory : List ℕ) (entry j : ℕ) → length (walked log memory entry j).commits ≤ log.count
few log memory entry j =
    let all : List Commit = (play log memory entry).progress.commits in
    let most : (play log memory entry).progress.first + length all ≤ log.count = plays-most log memory entry log.count in
    let of_j : length (walked log memory entry j).commits ≡ length (take j all) =
    ap (λ (cs : List Commit). length cs) (walks_are_plays log memory entry j).commits
    in
    let some = length-take j all in
    omega (arith, most, of_j, some)

-- past the count no commit is left
from_min : (log : LogParts) (memory : List ℕ) (entry i j : ℕ) → slice log memory entry (min i log.count) j ≡ slice log memory entry i j
from_min log memory entry i j =
    let v : Walked = walked log memory entry j in
    let c : ℕ = log.count in
    let least : length v.commits ≤ c = few log memory entry j in
    elim (cases_lt i c) [
      | inl l ↦ let h : min i c ≡ i = omega (arith, l) in ap (λ (n : ℕ). slice log memory entry n j) h
      | inr past ↦
          ap (λ (cs : List Commit). slice_of (min i c) cs v) (drop_all (min i c) v.commits (omega (arith, past, least)))
          ∙ ap (λ (cs : List Commit). slice_of i cs v) (sym (drop_all i v.commits (omega (arith, past, least))))
    ]

-- numbers past a log's count give the same slice as the count itself
pub slices_stop_at_count : SlicesStopAtCount
slices_stop_at_count log memory entry i j =
    ap (λ (v : Walked). slice_of (min i log.count) (drop (min i log.count) v.commits) v) (walked_min log memory entry j)
    ∙ from_min log memory entry i j
