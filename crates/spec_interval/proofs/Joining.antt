-- Slices that meet are one slice, and the slice of all commits is the account.
use Rattle.std.proofs.Common.{◌≡◌, ℕ, zero, suc, ◌+◌, ◌≤◌, Bool, true, cond, List, [], ◌∷◌, ◌++◌, refl, sym, ap, ◌∙◌, arith}
use Rattle.std.specs.Prelude.{take, drop, codes}
use Rattle.std.proofs.lemmas.Bool.{le-leb, or_right}
use Rattle.std.proofs.lemmas.List.{append_assoc}
use Rattle.dl_account.specs.Account.{end_fields, final_lines, account_of}
use Rattle.dl_account.specs.Commits.{commit_lines}
use Rattle.dl_account.specs.Lines.{line, numbered}
use Rattle.dl_account.specs.States.{state_lines}
use Rattle.dl_entry.specs.declared.Commit.{Commit}
use Rattle.dl_entry.specs.declared.End.{End}
use Rattle.spec_log.specs.declared.LogParts.{LogParts}
use Rattle.spec_play.specs.declared.walk_end.WalkEnd.{WalkEnd}
use Rattle.spec_play.specs.Progress.{position}
use Rattle.spec_play.specs.Turns.{TurnOrEnd, Ended}
use Rattle.spec_play.specs.Plays.{Played, play}
use Rattle.spec_play.specs.Walks.{is_looked_at, walk_end, walked}
use Rattle.spec_play.proofs.Walking.{walks_are_plays}
use Rattle.spec_interval.specs.Slices.{slice_end, lines_between}
use Rattle.spec_interval.specs.Promise.{SlicesAreAccounts, SlicesJoin}

-- ---- joining

module _ {X : Type 0} (text : ℕ → X → List ℕ) where
  -- entries are numbered from n on: those from i to j, and those from j to k
  joined : (n i j k : ℕ) (xs : List X) → i ≤ j → j ≤ k → numbered text (n + i) (drop i (take k xs)) ≡ numbered text (n + i) (drop i (take j xs)) ++ numbered text (n + j) (drop j (take k xs))
  joined n zero zero k xs low high = refl
  joined n (suc i) zero k xs low high = absurd (omega (arith, low))
  joined n i (suc j) zero xs low high = absurd (omega (arith, high))
  joined n zero (suc j) (suc k) [] low high = refl
  joined n (suc i) (suc j) (suc k) [] low high = refl
  joined n zero (suc j) (suc k) (x ∷ xs) low high =
      let first : n + 0 + 1 ≡ n + 1 + 0 = omega arith in
      let last : n + 1 + j ≡ n + suc j = omega arith in
      ap (λ (m : ℕ). text (n + 0) x ++ numbered text m (take k xs)) first
      ∙ ap (λ (t : List ℕ). text (n + 0) x ++ t) (joined (n + 1) zero j k xs (omega arith) (omega (arith, high)))
      ∙ ap (λ (m : ℕ). text (n + 0) x ++ (numbered text m (take j xs) ++ numbered text (n + 1 + j) (drop j (take k xs)))) (sym first)
      ∙ ap (λ (m : ℕ). text (n + 0) x ++ (numbered text (n + 0 + 1) (take j xs) ++ numbered text m (drop j (take k xs)))) last
      ∙ sym (append_assoc (text (n + 0) x) (numbered text (n + 0 + 1) (take j xs)) (numbered text (n + suc j) (drop j (take k xs))))
  joined n (suc i) (suc j) (suc k) (x ∷ xs) low high =
      let first : n + suc i ≡ n + 1 + i = omega arith in
      let last : n + 1 + j ≡ n + suc j = omega arith in
      ap (λ (m : ℕ). numbered text m (drop i (take k xs))) first
      ∙ joined (n + 1) i j k xs (omega (arith, low)) (omega (arith, high))
      ∙ ap (λ (m : ℕ). numbered text m (drop i (take j xs)) ++ numbered text (n + 1 + j) (drop j (take k xs))) (sym first)
      ∙ ap (λ (m : ℕ). numbered text (n + suc i) (drop i (take j xs)) ++ numbered text m (drop j (take k xs))) last

-- the commits of a slice are those of two slices that meet
lines_join : (log : LogParts) (memory : List ℕ) (entry i j k : ℕ) → i ≤ j → j ≤ k → lines_between log memory entry i k ≡ lines_between log memory entry i j ++ lines_between log memory entry j k
lines_join log memory entry i j k low high =
    let all : List Commit = (play log memory entry).progress.commits in
    let of_j = (walks_are_plays log memory entry j).commits in
    let of_k = (walks_are_plays log memory entry k).commits in
    let from : (n : ℕ) → 0 + n ≡ n = (λ n. omega arith) in
    let of_all : (n m : ℕ) → List ℕ = (λ n m. numbered commit_lines n (drop i (take j all)) ++ numbered commit_lines m (drop j (take k all))) in
    ap (λ (cs : List Commit). numbered commit_lines i (drop i cs)) of_k
    ∙ ap (λ (n : ℕ). numbered commit_lines n (drop i (take k all))) (sym (from i))
    ∙ joined commit_lines 0 i j k all low high
    ∙ ap (λ (n : ℕ). of_all n (0 + j)) (from i)
    ∙ ap (of_all i) (from j)
    ∙ ap (λ (cs : List Commit). numbered commit_lines i (drop i cs) ++ numbered commit_lines j (drop j (take k all))) (sym of_j)
    ∙ ap (λ (cs : List Commit). lines_between log memory entry i j ++ numbered commit_lines j (drop j cs)) (sym of_k)

-- a slice is the lines of its first commits and the slice of the others
pub slices_join : SlicesJoin
slices_join log memory entry i j k low high =
    let v = walked log memory entry k in
    let end : End = slice_end v.end in
    let state : List ℕ = final_lines v.threads v.request v.memory end in
    let last : List ℕ = line (codes "end") (end_fields end) in
    let before : List ℕ = lines_between log memory entry i j in
    let after : List ℕ = lines_between log memory entry j k in
    ap (λ (t : List ℕ). t ++ state ++ last) (lines_join log memory entry i j k low high)
    ∙ ap (λ (t : List ℕ). t ++ last) (append_assoc before after state)
    ∙ append_assoc before (after ++ state) last

-- ---- all commits

-- a walk to the count or past it ends as the play does
pub ends_at_count : (log : LogParts) (to i : ℕ) (now : TurnOrEnd) (how : End) → log.count ≤ to → now ≡ Ended how → walk_end log to i now ≡ WalkEnd.Ended how
ends_at_count log to i now how past e =
    let looked : is_looked_at log to i ≡ true = or_right _ _ (le-leb log.count to past) in
    ap (walk_end log to i) e ∙ ap (λ (b : Bool). cond b (WalkEnd.Ended how) (WalkEnd.Reached i)) looked

-- the slice of all commits is the log's account, except for the last line of a complete one
pub slices_are_accounts : SlicesAreAccounts
slices_are_accounts log memory entry =
    let y : Played = play log memory entry in
    let commits : List ℕ = numbered commit_lines 0 y.progress.commits in
    let state : List ℕ = state_lines y.threads y.progress.request y.memory in
    let text : WalkEnd → List ℕ = (λ end. account_of 0 y.progress.commits y.threads y.progress.request y.memory (slice_end end)) in
    let ends : (how : End) → y.now ≡ Ended how → walk_end log log.count (position y.progress) y.now ≡ WalkEnd.Ended how =
    (λ how e. ends_at_count log log.count (position y.progress) y.now how (omega arith) e)
    in
    record {
      complete = λ count e. record {
        body = commits ++ state;
        slice_is = ap text (ends (End.Complete count) e);
        account_is = refl;
      };
      diverged = λ i why e. ap text (ends (End.Diverged i why) e);
    }
