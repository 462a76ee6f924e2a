-- A walk is the beginning of its log's play.
use Rattle.std.proofs.Common.{◌≡◌, ℕ, zero, suc, ◌+◌, ◌-◌, ◌<◌, ◌≤◌, ◌⊎◌, inl, inr, Bool, true, false, cond, List, [], ◌∷◌, ◌++◌, length, refl, sym, ap, ◌∙◌, arith}
use Rattle.std.specs.Prelude.{take}
use Rattle.std.proofs.lemmas.Bool.{true≢false, cases_Bool, cases_lt, lt-ltb, le-leb, or_left, or_right}
use Rattle.std.proofs.lemmas.List.{length-append}
use Rattle.std.proofs.Math.Seq.{take-append_seam}
use Rattle.dl_entry.specs.declared.Commit.{Commit}
use Rattle.dl_entry.specs.declared.End.{End}
use Rattle.spec_log.specs.declared.LogParts.{LogParts}
use Rattle.spec_play.specs.declared.walk_end.WalkEnd.{WalkEnd}
use Rattle.spec_play.specs.Progress.{position}
use Rattle.spec_play.specs.Turns.{TurnOrEnd, Turn, TurnOfDma, Ended}
use Rattle.spec_play.specs.Plays.{Played, opened, plays, play}
use Rattle.spec_play.specs.Walks.{is_looked_at, walk_end, walked, IsWalk, WalksArePlays}
use Rattle.spec_play.proofs.Going.{plays-first, GoesOn, IsBehind, plays-behind, plays-most, plays-go, over-at, last-is}

-- ---- whether the end is looked at

looked : (log : LogParts) (to i : ℕ) → (i < to) ⊎ (log.count ≤ to) → is_looked_at log to i ≡ true
looked log to i (inl l) = or_left _ _ (lt-ltb i to l)
looked log to i (inr l) = or_right _ _ (le-leb log.count to l)

unlooked : (log : LogParts) (to i : ℕ) → is_looked_at log to i ≡ false → (to ≤ i) × (to < log.count)
unlooked log to i e =
    let not_so : (i < to) ⊎ (log.count ≤ to) → ⊥ = (λ o. true≢false (sym (looked log to i o) ∙ e)) in
    elim (cases_lt i to) [
      | inl l ↦ absurd (not_so (inl l))
      | inr past ↦ elim (cases_lt to log.count) [
        | inl l ↦ (past, l)
        | inr over ↦ absurd (not_so (inr over))
      ]
    ]

take_all : (n : ℕ) (cs : List Commit) → length cs ≤ n → take n cs ≡ cs
take_all zero [] l = refl
take_all zero (c ∷ cs) l = absurd (omega arith)
take_all (suc n) [] l = refl
take_all (suc n) (c ∷ cs) l = ap (λ (ds : List Commit). c ∷ ds) (take_all n cs (omega arith))

same_how : (a b : End) → Ended a ≡ Ended b → a ≡ b
same_how a b e = cc

same_end : (a b : End) → WalkEnd.Ended a ≡ WalkEnd.Ended b → a ≡ b
same_end a b e = cc

same_stop : (m n : ℕ) → WalkEnd.Reached m ≡ WalkEnd.Reached n → m ≡ n
same_stop m n e = cc

no_end : (n : ℕ) (how : End) → WalkEnd.Reached n ≡ WalkEnd.Ended how → ⊥
no_end n how e = cc

no_stop : (n : ℕ) (how : End) → WalkEnd.Ended how ≡ WalkEnd.Reached n → ⊥
no_stop n how e = cc

-- ---- if the play has ended by then

over_walk : (log : LogParts) (memory : List ℕ) (entry to : ℕ) (how : End) → (plays log (opened log memory entry) to).now ≡ Ended how → IsWalk log (walked log memory entry to) (play log memory entry) to
over_walk log memory entry to how is =
    let y : Played = plays log (opened log memory entry) to in
    let z : Played = play log memory entry in
    let i : ℕ = position y.progress in
    let last : y ≡ z = last-is log memory entry to how is in
    let most : i ≤ to = plays-most log memory entry to in
    let end : walk_end log to i y.now ≡ cond (is_looked_at log to i) (WalkEnd.Ended how) (WalkEnd.Reached i) = ap (walk_end log to i) is in
    let over : z.now ≡ Ended how = ap (λ (x : Played). x.now) (sym last) ∙ is in
    let by : (b : Bool) → is_looked_at log to i ≡ b → walk_end log to i y.now ≡ cond b (WalkEnd.Ended how) (WalkEnd.Reached i) =
    (λ b e. end ∙ ap (λ (c : Bool). cond c (WalkEnd.Ended how) (WalkEnd.Reached i)) e) in
    record {
      commits = ap (λ (x : Played). x.progress.commits) last ∙ sym (take_all to z.progress.commits (let h = ap (λ (x : Played). position x.progress) last in omega arith));
      ended = λ other e. elim (cases_Bool (is_looked_at log to i)) [
        | inl so ↦ record {
          now = over ∙ ap Ended (same_end how other (sym (by true so) ∙ e));
          threads = ap (λ (x : Played). x.threads) last;
          memory = ap (λ (x : Played). x.memory) last;
          request = ap (λ (x : Played). x.progress.request) last;
        }
        | inr not_so ↦ absurd (no_end i other (sym (by false not_so) ∙ e))
      ];
      reached = λ n e. elim (cases_Bool (is_looked_at log to i)) [
        | inl so ↦ absurd (no_stop n how (sym (by true so) ∙ e))
        | inr not_so ↦ (
            let u = unlooked log to i not_so in
            let first : y.progress.first ≡ 0 = plays-first log (opened log memory entry) to in
            let same = same_stop i n (sym (by false not_so) ∙ e) in
            record { all = (let l = u.0 in omega arith); commits = (let l = u.0 in omega arith); more = u.1 }
            )
      ];
      ends = λ other e where_.
          let at_ : (i < to) ⊎ (log.count ≤ to) = elim where_ [
            | inl l ↦ inl (let h = ap (λ (x : Played). position x.progress) last in omega arith)
            | inr l ↦ inr l
          ]
          in
          by true (looked log to i at_) ∙ ap WalkEnd.Ended (same_how how other (sym over ∙ e));
    }

-- ---- if it goes on

going_walk : (log : LogParts) (memory : List ℕ) (entry to : ℕ) → let y = plays log (opened log memory entry) to in GoesOn log y to → ((how : End) → y.now ≡ Ended how → ⊥) → walk_end log to (position y.progress) y.now ≡ WalkEnd.Reached (position y.progress)
    → IsWalk log (walked log memory entry to) (play log memory entry) to
going_walk log memory entry to g going stops =
    let start : Played = opened log memory entry in
    let y : Played = plays log start to in
    let z : Played = play log memory entry in
    let first : y.progress.first ≡ 0 = plays-first log start to in
    let done : length y.progress.commits ≡ to = (let d = g.done in omega arith) in
    let more : to < log.count = elim (cases_lt to log.count) [
      | inl l ↦ l
      | inr past ↦ (let o = over-at log y.progress y.used y.threads (omega arith) in absurd (going o.0 (sym g.now ∙ o.1)))
    ]
    in
    let all : (log.count - to) + to ≡ log.count = omega arith in
    let b : IsBehind y.progress.commits (plays log start ((log.count - to) + to)).progress.commits = plays-behind log start to (log.count - to) in
    let same : z.progress.commits ≡ y.progress.commits ++ b.rest = ap (λ (n : ℕ). (plays log start n).progress.commits) (sym all) ∙ b.same in
    record {
      commits = sym (ap (take to) same ∙ ap (λ (n : ℕ). take n (y.progress.commits ++ b.rest)) (sym done) ∙ take-append_seam y.progress.commits b.rest);
      ended = λ how e. absurd (no_end (position y.progress) how (sym stops ∙ e));
      reached = λ n e. record { all = sym (same_stop (position y.progress) n (sym stops ∙ e)) ∙ g.done; commits = done; more = more };
      ends = λ how e where_. elim where_ [
        | inl l ↦ absurd (let h = ap (λ (cs : List Commit). length cs) same in let a = length-append y.progress.commits b.rest in omega arith)
        | inr l ↦ absurd (omega arith)
      ];
    }

-- ---- both

turn_walk : (log : LogParts) (memory : List ℕ) (entry to : ℕ) (now : TurnOrEnd) → (plays log (opened log memory entry) to).now ≡ now → IsWalk log (walked log memory entry to) (play log memory entry) to
turn_walk log memory entry to (Ended how) is = over_walk log memory entry to how is
turn_walk log memory entry to (Turn k) is =
    let y : Played = plays log (opened log memory entry) to in
    let going : (how : End) → y.now ≡ Ended how → ⊥ = (λ how e. let h : Turn k ≡ Ended how = sym is ∙ e in cc) in
    elim (plays-go log memory entry to) [
      | inl over ↦ absurd (going over.0 over.1)
      | inr g ↦ going_walk log memory entry to g going (ap (walk_end log to (position y.progress)) is)
    ]
turn_walk log memory entry to TurnOfDma is =
    let y : Played = plays log (opened log memory entry) to in
    let going : (how : End) → y.now ≡ Ended how → ⊥ = (λ how e. let h : TurnOfDma ≡ Ended how = sym is ∙ e in cc) in
    elim (plays-go log memory entry to) [
      | inl over ↦ absurd (going over.0 over.1)
      | inr g ↦ going_walk log memory entry to g going (ap (walk_end log to (position y.progress)) is)
    ]

-- a walk has the first commits of its log's play, as many as it goes to, and ends if the play has ended by then
pub walks_are_plays : WalksArePlays
walks_are_plays log memory entry to = turn_walk log memory entry to (plays log (opened log memory entry) to).now refl
