-- A play from a state is the play that the state is of, without the commits that were done before.
use Rattle.std.proofs.Common.{◌≡◌, ℕ, zero, suc, ◌+◌, ◌≤◌, List, [], ◌∷◌, ◌++◌, length, Option, Some, None, refl, sym, ap, ◌∙◌, subst, arith}
use Rattle.std.specs.Prelude.{slice_get, nat_lt, map, if◌then◌else◌}
use Rattle.std.proofs.lemmas.List.{append-nil, append_assoc, length-append}
use Rattle.dl_entry.specs.declared.Actor.{Actor}
use Rattle.dl_entry.specs.declared.Commit.{Commit}
use Rattle.dl_entry.specs.declared.End.{End}
use Rattle.dl_entry.specs.declared.Request.{Request}
use Rattle.spec_isa.specs.declared.thread.Parts.{Parts}
use Rattle.spec_isa.specs.declared.thread.Kind.{Kind}
use Rattle.spec_log.specs.declared.LogParts.{LogParts}
use Rattle.spec_log.specs.Head.{head}
use Rattle.spec_log.specs.Size.{size_in}
use Rattle.spec_kernel.specs.Interrupts.{is_live}
use Rattle.spec_kernel.specs.Needs.{next_kind}
use Rattle.spec_play.specs.Effects.{dma_commit}
use Rattle.spec_play.specs.Progress.{Progress, position}
use Rattle.spec_play.specs.declared.used.Used.{Used}
use Rattle.spec_play.specs.Turns.{TurnOrEnd, Turn, TurnOfDma, Ended, has_left_over, at_end, turn_of, now_at}
use Rattle.spec_play.specs.Verdicts.{LogVerdict, Goes, Fails, serial_why, chunk_verdict, serial_verdict}
use Rattle.spec_play.specs.Transfers.{DmaVerdict, DmaGoes, DmaFails, transferred, dma_unless, dma_verdict}
use Rattle.spec_play.specs.Plays.{Played, opened, settled, thread_verdict, play_thread, dma_settled, play_turn, play_one, plays}
use Rattle.spec_play.proofs.Going.{plays-first, plays-most}
use Rattle.spec_play.specs.States.{state_of, resumed}
use Rattle.spec_play.specs.Resuming.{PlaysGoOn, HasDone, IsResumed, PlaysResume}

-- to play on from a play is to play longer
pub plays_go_on : PlaysGoOn
plays_go_on log y i zero = let h : i ≡ i + 0 = omega arith in ap (plays log y) h
plays_go_on log y i (suc j) =
    let h : suc (i + j) ≡ i + suc j = omega arith in
    ap (play_one log) (plays_go_on log y i j) ∙ ap (plays log y) h

-- ---- commits put before those of a play

abbrev with_before : (first : ℕ) → List Commit → Progress → Progress
with_before f b p = record p { first = f; commits = b ++ p.commits }

abbrev shifted : (first : ℕ) → List Commit → Played → Played
shifted f b w = record w { progress = with_before f b w.progress }

-- as many as are counted before the play's first
abbrev Meets : (first : ℕ) → List Commit → Progress → Type 0
Meets f b p = f + length b ≡ p.first

same_position : (f : ℕ) (b : List Commit) (p : Progress) → Meets f b p → position (with_before f b p) ≡ position p
same_position f b p meets = let h = length-append b p.commits in omega (arith, meets, h)

abbrev now_by : LogParts → Used → List Parts → (position : ℕ) → (last : Option ℕ) → TurnOrEnd
now_by log u ts i last =
    if nat_lt i log.count then turn_of i ts (head log i last (map is_live ts)) else at_end i (has_left_over log u ts)

same_now : (log : LogParts) (f : ℕ) (b : List Commit) (p : Progress) (u : Used) (ts : List Parts) → Meets f b p → now_at log (with_before f b p) u ts ≡ now_at log p u ts
unfolding now_at
same_now log f b p u ts meets = ap (λ (i : ℕ). now_by log u ts i p.last) (same_position f b p meets)

same_transfer : (log : LogParts) (f : ℕ) (b : List Commit) (p : Progress) (u : Used) → Meets f b p → dma_verdict log (with_before f b p) u ≡ dma_verdict log p u
unfolding dma_verdict
same_transfer log f b p u meets =
    ap (λ (i : ℕ). dma_unless (serial_why (size_in log Actor.Dma i)) (transferred i p.request (slice_get log.dmas u.dmas)))
    (same_position f b p meets)

same_verdict : (log : LogParts) (f : ℕ) (b : List Commit) (w : Played) (k : ℕ) (t : Parts) (o : Option Kind) → thread_verdict log (shifted f b w) k t o ≡ thread_verdict log w k t o
unfolding chunk_verdict serial_verdict
same_verdict log f b w k t None = refl
same_verdict log f b w k t (Some kind) = refl

-- ---- one more commit

abbrev held : List ℕ → List Parts → Used → Progress → TurnOrEnd → Played
held m ts u p now = record { memory = m; threads = ts; progress = p; used = u; now = now }

abbrev at_progress : LogParts → List ℕ → List Parts → Used → Progress → Played
at_progress log m ts u p = held m ts u p (now_at log p u ts)

abbrev pushed : Progress → Commit → Option ℕ → Option Request → Progress
pushed p c last request = record { first = p.first; commits = p.commits ++ c ∷ []; last = last; request = request }

committed : (log : LogParts) (f : ℕ) (b : List Commit) (p : Progress) (c : Commit) (last : Option ℕ) (request : Option Request) (m : List ℕ) (ts : List Parts) (u : Used) → Meets f b p
    → at_progress log m ts u (pushed (with_before f b p) c last request) ≡ shifted f b (at_progress log m ts u (pushed p c last request))
committed log f b p c last request m ts u meets =
    let q : Progress = pushed p c last request in
    ap (λ (cs : List Commit). at_progress log m ts u (record { first = f; commits = cs; last = last; request = request })) (append_assoc b p.commits (c ∷ []))
    ∙ ap (held m ts u (with_before f b q)) (same_now log f b q u ts meets)

failed : (f : ℕ) (b : List Commit) (w : Played) (h : ℕ → End) → Meets f b w.progress → record (shifted f b w) { now = Ended (h (position (with_before f b w.progress))) } ≡ shifted f b (record w { now = Ended (h (position w.progress)) })
failed f b w h meets = ap (λ (i : ℕ). record (shifted f b w) { now = Ended (h i) }) (same_position f b w.progress meets)

settled_shifted : (log : LogParts) (f : ℕ) (b : List Commit) (w : Played) (k : ℕ) (v : LogVerdict) → Meets f b w.progress → settled log (shifted f b w) k v ≡ shifted f b (settled log w k v)
settled_shifted log f b w k (Goes e u) meets =
    let after = settled log w k (Goes e u) in
    committed log f b w.progress e.commit (Some k) e.request after.memory after.threads u meets
settled_shifted log f b w k (Fails why) meets = failed f b w (λ i. End.Diverged i why) meets

thread_shifted : (log : LogParts) (f : ℕ) (b : List Commit) (w : Played) (k : ℕ) (o : Option Parts) → Meets f b w.progress → play_thread log (shifted f b w) k o ≡ shifted f b (play_thread log w k o)
thread_shifted log f b w k None meets = refl
thread_shifted log f b w k (Some t) meets =
    let kind = next_kind t w.memory in
    ap (settled log (shifted f b w) k) (same_verdict log f b w k t kind)
    ∙ settled_shifted log f b w k (thread_verdict log w k t kind) meets

dma_shifted : (log : LogParts) (f : ℕ) (b : List Commit) (w : Played) (v : DmaVerdict) → Meets f b w.progress → dma_settled log (shifted f b w) v ≡ shifted f b (dma_settled log w v)
dma_shifted log f b w (DmaGoes words) meets =
    let after = dma_settled log w (DmaGoes words) in
    committed log f b w.progress dma_commit w.progress.last None after.memory w.threads after.used meets
dma_shifted log f b w (DmaFails why) meets = failed f b w (λ i. End.Diverged i why) meets

now_shifted : (log : LogParts) (f : ℕ) (b : List Commit) (w : Played) (now : TurnOrEnd) → Meets f b w.progress → play_turn log (shifted f b w) now ≡ shifted f b (play_turn log w now)
now_shifted log f b w (Ended how) meets = refl
now_shifted log f b w TurnOfDma meets =
    ap (dma_settled log (shifted f b w)) (same_transfer log f b w.progress w.used meets)
    ∙ dma_shifted log f b w (dma_verdict log w.progress w.used) meets
now_shifted log f b w (Turn k) meets = thread_shifted log f b w k (slice_get w.threads k) meets

one_shifted : (log : LogParts) (f : ℕ) (b : List Commit) (w : Played) → Meets f b w.progress → play_one log (shifted f b w) ≡ shifted f b (play_one log w)
unfolding play_one
one_shifted log f b w meets = now_shifted log f b w w.now meets

-- commits that are put before a play's stay there
plays_shifted : (log : LogParts) (f : ℕ) (b : List Commit) (w : Played) (j : ℕ) → Meets f b w.progress → plays log (shifted f b w) j ≡ shifted f b (plays log w j)
plays_shifted log f b w zero meets = refl
plays_shifted log f b w (suc j) meets =
    ap (play_one log) (plays_shifted log f b w j meets)
    ∙ one_shifted log f b (plays log w j) (meets ∙ sym (plays-first log w j))

-- ---- the turn of a play that hasn't diverged is the log's

abbrev IsAtTurn : LogParts → Played → Type 0
IsAtTurn log y = now_at log y.progress y.used y.threads ≡ y.now

settled_turn : (log : LogParts) (y : Played) (k : ℕ) (v : LogVerdict) → suc (position y.progress) ≤ position (settled log y k v).progress → IsAtTurn log (settled log y k v)
settled_turn log y k (Goes e u) more = refl
settled_turn log y k (Fails why) more = absurd (omega (arith, more))

thread_turn : (log : LogParts) (y : Played) (k : ℕ) (o : Option Parts) → suc (position y.progress) ≤ position (play_thread log y k o).progress → IsAtTurn log (play_thread log y k o)
thread_turn log y k None more = absurd (omega (arith, more))
thread_turn log y k (Some t) more = settled_turn log y k (thread_verdict log y k t (next_kind t y.memory)) more

dma_turn : (log : LogParts) (y : Played) (v : DmaVerdict) → suc (position y.progress) ≤ position (dma_settled log y v).progress → IsAtTurn log (dma_settled log y v)
dma_turn log y (DmaGoes words) more = refl
dma_turn log y (DmaFails why) more = absurd (omega (arith, more))

now_turn : (log : LogParts) (y : Played) (now : TurnOrEnd) → suc (position y.progress) ≤ position (play_turn log y now).progress → IsAtTurn log (play_turn log y now)
now_turn log y (Ended how) more = absurd (omega (arith, more))
now_turn log y TurnOfDma more = dma_turn log y (dma_verdict log y.progress y.used) more
now_turn log y (Turn k) more = thread_turn log y k (slice_get y.threads k) more

one_turn : (log : LogParts) (y : Played) → suc (position y.progress) ≤ position (play_one log y).progress → IsAtTurn log (play_one log y)
unfolding play_one
one_turn log y more = now_turn log y y.now more

turn_after : (log : LogParts) (memory : List ℕ) (entry i : ℕ) → HasDone log memory entry i → IsAtTurn log (plays log (opened log memory entry) i)
turn_after log memory entry zero done = refl
turn_after log memory entry (suc i) done =
    let y = plays log (opened log memory entry) i in
    one_turn log y (let most = plays-most log memory entry i in omega (arith, most, done))

-- ---- a play from a state

-- with the commits before it, it's the play itself
whole_again : (log : LogParts) (y : Played) → IsAtTurn log y → shifted y.progress.first y.progress.commits (resumed log (state_of y)) ≡ y
whole_again log y turn =
    let p = y.progress in
    let f = p.first in
    let s = state_of y in
    let w = resumed log s in
    let now : w.now ≡ y.now = sym (same_now log f p.commits w.progress y.used y.threads refl) ∙ ap (λ (cs : List Commit). now_at log (record p { commits = cs }) y.used y.threads) (append-nil p.commits) ∙ turn in
    ap (λ (cs : List Commit). record w { progress = record p { commits = cs } }) (append-nil p.commits)
    ∙ ap (λ (n : TurnOrEnd). record y { now = n }) now

of_shifted : (f : ℕ) (b : List Commit) (y w : Played) → y.progress.commits ≡ b → Meets f b w.progress → IsResumed y (shifted f b w) w
of_shifted f b y w e meets =
    record {
      state = ap (λ (i : ℕ). record (state_of w) { commits = i }) (sym (same_position f b w.progress meets));
      now = refl;
      commits = ap (λ (cs : List Commit). cs ++ w.progress.commits) (sym e);
    }

-- the play from the state after i commits is the play that goes on
pub plays_resume : PlaysResume
plays_resume log memory entry i j done =
    let start : Played = opened log memory entry in
    let y : Played = plays log start i in
    let f : ℕ = y.progress.first in
    let b : List Commit = y.progress.commits in
    let w : Played = resumed log (state_of y) in
    let z : Played = plays log w j in
    let on : shifted f b z ≡ plays log start (i + j) =
    sym (plays_shifted log f b w j refl)
    ∙ ap (λ (x : Played). plays log x j) (whole_again log y (turn_after log memory entry i done))
    ∙ plays_go_on log start i j
    in
    subst (λ (x : Played). IsResumed y x z) on (of_shifted f b y z refl (sym (plays-first log w j)))
