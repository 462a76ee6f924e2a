-- What a granted request leaves alone in its sphere, whatever its role: the memory, the other threads and their limits.
use Rattle.std.proofs.Common.{◌≡◌, ◌≢◌, ℕ, zero, suc, ◌+◌, ◌-◌, Bool, true, false, cond, List, [], ◌∷◌, ◌++◌, length, Option, Some, None, refl, sym, ap, ◌∙◌, subst, ◌⊎◌, inl, inr, not, arith}
use Rattle.std.specs.Prelude.{slice_get, slice_set, max}
use Rattle.std.proofs.lemmas.Bool.{true≢false, and_parts, not-true}
use Rattle.std.proofs.lemmas.Option.{none-some}
use Rattle.dl_entry.specs.Numbers.{plain_threads}
use Rattle.dl_entry.specs.declared.Actor.{Actor}
use Rattle.dl_entry.specs.declared.Input.{Input}
use Rattle.dl_entry.specs.declared.Request.{Request}
use Rattle.dl_entry.specs.declared.Why.{Why}
use Rattle.spec_isa.specs.declared.thread.Parts.{Parts}
use Rattle.spec_isa.specs.declared.thread.Kind.{Kind}
use Rattle.spec_isa.specs.declared.operation.Operation.{Operation}
use Rattle.spec_isa.specs.Words.{Stored, put, Apart}
use Rattle.spec_isa.specs.Operations.{stored}
use Rattle.spec_isa.specs.Runs.{Run}
use Rattle.spec_isa.proofs.BufferLaws.{Apart-put}
use Rattle.spec_log.specs.declared.LogParts.{LogParts}
use Rattle.spec_log.specs.Size.{size_in}
use Rattle.spec_kernel.specs.Devices.{Devices}
use Rattle.spec_kernel.specs.Copies.{bytes_put}
use Rattle.spec_kernel.specs.Needs.{Need, Write, Read, Random, Clock, MomentWord, InputWord, need}
use Rattle.spec_kernel.specs.Interrupts.{takes_interrupt, interrupted}
use Rattle.spec_kernel.specs.Serving.{StepResult, copy_of, outside_called, is_outside, inside_called, device_loaded, device_stored, serve_kind, serve, console_written}
use Rattle.spec_kernel.specs.Calls.{called}
use Rattle.spec_play.specs.Effects.{Effect, chunk_effect, serial_effect, counted}
use Rattle.spec_play.specs.Progress.{Progress, with_interrupt}
use Rattle.spec_play.specs.declared.used.Used.{Used}
use Rattle.spec_play.specs.Verdicts.{LogVerdict, Goes, Fails, unless, interrupt_at, with_interrupted, chunk_why, chunk_verdict, TakenRecord, given, serial_why, served_verdict, serial_verdict}
use Rattle.spec_play.specs.Plays.{with_threads}
use Rattle.spec_strata.specs.Standing.{Standing}
use Rattle.spec_sphere.specs.sphere.Spheres.{turn_in, Cursor, Role, Plain, Record, Replay, Sphere, is_stopped, whole_limit, limit_in, limit_of, halves, limit_after_in, limit_after, replays}
use Rattle.spec_sphere.specs.sphere.Commits.{CommitOutcome, Granted, Piece, Diverged, MovedSphere, granted_as, granted_in, by_verdict, joined, piece_moved, replayed_chunk, chunk_in, chunk_moved, serial_in, serial_moved, serial_noted}
use Rattle.spec_sphere.proofs.Moves.Joining.{pieces_none, pieces_other, MayGo, may_go, no_others}
use Rattle.spec_kernel.specs.Answers.{taken}
use Rattle.spec_strata.proofs.Shares.Steps.{get-set_other, get-set_same}

-- ---- threads

-- what is found in a list is found with others after it
pub get-append : {A : Type 0} (xs ys : List A) (j : ℕ) (x : A) → slice_get xs j ≡ Some x → slice_get (xs ++ ys) j ≡ Some x
get-append [] ys j x e = absurd (none-some x e)
get-append (y ∷ xs) ys zero x e = e
get-append (y ∷ xs) ys (suc j) x e = get-append xs ys j x e

-- ---- what a commit of thread k keeps of its sphere

pub record KeepsOthers (k : ℕ) (p q : Sphere) : Type 0 where
  pub memory : q.memory ≡ p.memory
  pub threads : (j : ℕ) (t : Parts) → j ≢ k → slice_get p.threads j ≡ Some t → slice_get q.threads j ≡ Some t
  pub halving : halves q.role ≡ halves p.role
  pub replaying : replays q.role ≡ replays p.role
  pub limits : (s j : ℕ) (t : Parts) → j ≢ k → is_stopped q.role ≡ false → limit_of s q.role j t ≡ limit_of s p.role j t
  pub after : (s j : ℕ) (t : Parts) → limit_after s q.role j t ≡ limit_after s p.role j t

-- a divergence stores nothing, changes no thread and no device, and stops the sphere
abbrev pub Divergence : Devices → Sphere → MovedSphere → CommitOutcome → Type 0
Divergence devices p v Granted = Unit {0}
Divergence devices p v Piece = Unit {0}
Divergence devices p v (Diverged i why) = (v.words ≡ []) × (v.devices ≡ devices) × (v.sphere.threads ≡ p.threads) × (is_stopped v.sphere.role ≡ true)

-- a move of thread k leaves the other threads, stores no word twice, and stores nothing where it diverges
pub record MovesOnly (k : ℕ) (devices : Devices) (p : Sphere) (v : MovedSphere) : Type 0 where
  pub keeps : KeepsOthers k p v.sphere
  pub apart : Apart v.words
  pub divergence : Divergence devices p v v.outcome

-- the thread of a replay that goes on has the turn
pub record HasTurn (k : ℕ) (role : Role) (p : Sphere) : Type 0 where
  pub going : is_stopped role ≡ false
  pub turn : turn_in role p (Actor.Thread k) ≡ None

threads_kept : (k : ℕ) (e : Effect) (ts : List Parts) (j : ℕ) (t : Parts) → j ≢ k → slice_get ts j ≡ Some t → slice_get (with_threads k e ts) j ≡ Some t
threads_kept k e ts j t ne is = get-append (slice_set ts k e.thread) e.spawned j t (get-set_other ts k j e.thread ne ∙ is)

verdict_moves : (k : ℕ) (b : Cursor) (verdict : LogVerdict) (devices : Devices) (p : Sphere) → p.role ≡ Replay b → MayGo b k → ((e : Effect) (u : Used) → verdict ≡ Goes e u → Apart e.words) → MovesOnly k devices p (by_verdict b k verdict devices p)
unfolding limit_of limit_after
verdict_moves k b (Fails why) devices p is turn apart =
    record {
      keeps = record {
        memory = refl;
        threads = λ j t ne h. h;
        halving = ap halves (sym is);
        replaying = ap replays (sym is);
        limits = λ s j t ne going. absurd (true≢false going);
        after = λ s j t. ap (λ (q : Role). limit_after_in q s j t.commits) (sym is);
      };
      apart = tt;
      divergence = (refl, refl, refl, refl);
    }
verdict_moves k b (Goes e u) devices p is turn apart =
    record {
      keeps = record {
        memory = refl;
        threads = λ j t ne h. threads_kept k e p.threads j t ne h;
        halving = ap halves (sym is);
        replaying = ap replays (sym is);
        limits = λ s j t ne going.
            ap (λ (n : ℕ). max 1 (whole_limit b.log j t.commits - n)) (pieces_none _ j ∙ sym (no_others b k j turn ne))
            ∙ ap (λ (r : Role). limit_in r s j t.commits) (sym is);
        after = λ s j t. ap (λ (q : Role). limit_after_in q s j t.commits) (sym is);
      };
      apart = apart e u refl;
      divergence = tt;
    }

-- ---- chunks

by_taken : (b : Bool) (d e f : Effect) (u v : Used) → d.words ≡ e.words → cond b (Goes d u) (Fails Why.Interrupt) ≡ Goes f v → f.words ≡ e.words
by_taken true d e f u v same is = let g : d ≡ f = cc in ap (λ (x : Effect). x.words) (sym g) ∙ same
by_taken false d e f u v same is = cc

interrupted_words : (o : Option ℕ) (e : Effect) (u : Used) (f : Effect) (v : Used) → with_interrupted o e u ≡ Goes f v → f.words ≡ e.words
interrupted_words None e u f v is = let g : e ≡ f = cc in ap (λ (x : Effect). x.words) (sym g)
interrupted_words (Some value) e u f v is =
    by_taken (takes_interrupt e.thread) (record e { thread = interrupted value e.thread }) e f _ v refl is

unless_words : (o : Option Why) (x : LogVerdict) (ws : List Stored) → ((e : Effect) (u : Used) → x ≡ Goes e u → e.words ≡ ws) → (e : Effect) (u : Used) → unless o x ≡ Goes e u → e.words ≡ ws
unless_words None x ws each e u is = each e u is
unless_words (Some why) x ws each e u is = cc

chunk_words : (log : LogParts) (p : Progress) (u : Used) (k : ℕ) (r : Run) (e : Effect) (v : Used) → chunk_verdict log p u k r ≡ Goes e v → e.words ≡ r.words
unfolding chunk_verdict
chunk_words log p u k r e v is =
    let x = chunk_effect k p.request r in
    unless_words (chunk_why (size_in log (Actor.Thread k) r.thread.commits) r.n) (with_interrupted (interrupt_at log.interrupts k x.thread.commits) x u) r.words
    (λ f w h. interrupted_words (interrupt_at log.interrupts k x.thread.commits) x u f w h) e v is

granted_moves : (k : ℕ) (role : Role) (e : Effect) (ds devices : Devices) (p : Sphere) → halves role ≡ halves p.role → replays role ≡ replays p.role → ((s j : ℕ) (t : Parts) → limit_of s role j t ≡ limit_of s p.role j t) → ((s j : ℕ) (t : Parts) → limit_after s role j t ≡ limit_after s p.role j t) → Apart e.words
    → MovesOnly k ds p (granted_as role k e devices p)
granted_moves k role e ds devices p halving replaying limits after apart =
    record {
      keeps = record {
        memory = refl;
        threads = λ j t ne h. threads_kept k e p.threads j t ne h;
        halving = halving;
        replaying = replaying;
        limits = λ s j t ne going. limits s j t;
        after = after;
      };
      apart = apart;
      divergence = tt;
    }

piece_moves : (k : ℕ) (b : Cursor) (r : Run) (devices : Devices) (p : Sphere) → p.role ≡ Replay b → MayGo b k → Apart r.words → MovesOnly k devices p (piece_moved b k r devices p)
unfolding limit_of limit_after
piece_moves k b r devices p is turn apart =
    record {
      keeps = record {
        memory = refl;
        threads = λ j t ne h. get-set_other p.threads k j r.thread ne ∙ h;
        halving = ap halves (sym is);
        replaying = ap replays (sym is);
        limits = λ s j t ne going.
            ap (λ (n : ℕ). max 1 (whole_limit b.log j t.commits - n))
            (pieces_other k j (b.total + r.n) ne ∙ sym (no_others b k j turn ne))
            ∙ ap (λ (q : Role). limit_in q s j t.commits) (sym is);
        after = λ s j t. ap (λ (q : Role). limit_after_in q s j t.commits) (sym is);
      };
      apart = apart;
      divergence = tt;
    }

replayed_moves : (k : ℕ) (b : Cursor) (piece : Bool) (r : Run) (devices : Devices) (p : Sphere) → p.role ≡ Replay b → MayGo b k → Apart r.words → MovesOnly k devices p (replayed_chunk piece b k r devices p)
replayed_moves k b true r devices p is turn apart = piece_moves k b r devices p is turn apart
replayed_moves k b false r devices p is turn apart =
    verdict_moves k b (chunk_verdict b.log p.progress b.used k (joined b r)) devices p is turn
    (λ e u h. subst Apart (sym (chunk_words b.log p.progress b.used k (joined b r) e u h)) apart)

chunk_in_moves : (k : ℕ) (role : Role) (piece short : Bool) (r : Run) (devices : Devices) (p : Sphere) → p.role ≡ role → HasTurn k role p → Apart r.words → MovesOnly k devices p (chunk_in role k piece short r devices p)
unfolding limit_of limit_after
chunk_in_moves k Plain piece short r devices p is turn apart =
    granted_moves k Plain (chunk_effect k p.progress.request r) devices devices p (ap halves (sym is)) (ap replays (sym is)) (λ s j t. ap (λ (q : Role). limit_in q s j t.commits) (sym is)) (λ s j t. ap (λ (q : Role). limit_after_in q s j t.commits) (sym is)) apart
chunk_in_moves k (Record recording) piece short r devices p is turn apart =
    granted_moves k (Record _) (chunk_effect k p.progress.request r) devices devices p (ap halves (sym is)) (ap replays (sym is)) (λ s j t. ap (λ (q : Role). limit_in q s j t.commits) (sym is)) (λ s j t. ap (λ (q : Role). limit_after_in q s j t.commits) (sym is)) apart
chunk_in_moves k (Replay b) piece short r devices p is turn apart =
    replayed_moves k b piece r devices p is (may_go b k p turn.going turn.turn) apart

-- a granted chunk moves its own thread only
pub chunk-moves : (k : ℕ) (piece short : Bool) (r : Run) (devices : Devices) (p : Sphere) → HasTurn k p.role p → Apart r.words → MovesOnly k devices p (chunk_moved k piece short r devices p)
unfolding chunk_moved
chunk-moves k piece short r devices p turn apart = chunk_in_moves k p.role piece short r devices p refl turn apart

-- it stores the run's words, or none
verdict_stores : (P : List Stored → Type 0) (b : Cursor) (k : ℕ) (verdict : LogVerdict) (devices : Devices) (p : Sphere) (ws : List Stored) → P [] → P ws → ((e : Effect) (u : Used) → verdict ≡ Goes e u → e.words ≡ ws) → P (by_verdict b k verdict devices p).words
verdict_stores P b k (Fails why) devices p ws none some each = none
verdict_stores P b k (Goes e u) devices p ws none some each = subst P (sym (each e u refl)) some

replayed_stores : (P : List Stored → Type 0) (b : Cursor) (k : ℕ) (piece : Bool) (r : Run) (devices : Devices) (p : Sphere) → P [] → P r.words → P (replayed_chunk piece b k r devices p).words
replayed_stores P b k true r devices p none some = some
replayed_stores P b k false r devices p none some =
    verdict_stores P b k (chunk_verdict b.log p.progress b.used k (joined b r)) devices p r.words none some
    (λ e u h. chunk_words b.log p.progress b.used k (joined b r) e u h)

stores_in : (P : List Stored → Type 0) (role : Role) (k : ℕ) (piece short : Bool) (r : Run) (devices : Devices) (p : Sphere) → P [] → P r.words → P (chunk_in role k piece short r devices p).words
stores_in P Plain k piece short r devices p none some = some
stores_in P (Record recording) k piece short r devices p none some = some
stores_in P (Replay b) k piece short r devices p none some = replayed_stores P b k piece r devices p none some

-- a granted chunk stores the words of its run, or nothing
pub chunk-stores : (P : List Stored → Type 0) (k : ℕ) (piece short : Bool) (r : Run) (devices : Devices) (p : Sphere) → P [] → P r.words → P (chunk_moved k piece short r devices p).words
unfolding chunk_moved
chunk-stores P k piece short r devices p none some = stores_in P p.role k piece short r devices p none some

-- ---- serial steps

-- bytes that are put over words leave no word twice
pub bytes_apart : (ws : List Stored) (a : ℕ) (bytes : List ℕ) → Apart ws → Apart (bytes_put ws a bytes)
unfolding bytes_put
bytes_apart ws a [] apart = apart
bytes_apart ws a (b ∷ bytes) apart = bytes_apart (put ws (stored 1 a b)) _ bytes (Apart-put ws (stored 1 a b) apart)

copy_apart : (o : Option Need) (r : Input) → Apart (copy_of o r)
copy_apart None r = tt
copy_apart (Some (Write channel bytes)) r = tt
copy_apart (Some (Read channel buf len)) r = bytes_apart [] buf r.bytes tt
copy_apart (Some (Random buf len)) r = bytes_apart [] buf r.bytes tt
copy_apart (Some Clock) r = tt
copy_apart (Some MomentWord) r = tt
copy_apart (Some InputWord) r = tt

outside_apart : (o : Option Need) (request : Option Request) (t : Parts) (input : Option Input) → Apart (outside_called o request t input).words
outside_apart o request t None = tt
outside_apart o request t (Some r) = copy_apart o r

loaded_apart : (request : Option Request) (t : Parts) (p : Operation) (input : Option Input) → Apart (device_loaded request t p input).words
loaded_apart request t (Operation.Load op rd a) (Some r) = tt
loaded_apart request t (Operation.Load op rd a) None = tt
loaded_apart request t (Operation.Go rd value pc) input = tt
loaded_apart request t (Operation.Stop kind) input = tt
loaded_apart request t (Operation.Store op a v) input = tt
loaded_apart request t (Operation.LoadReserved rd a) input = tt
loaded_apart request t (Operation.StoreConditional rd a v) input = tt
loaded_apart request t (Operation.Amo op rd a v) input = tt

stored_apart : (request : Option Request) (t : Parts) (p : Operation) → Apart (device_stored request t p).words
stored_apart request t (Operation.Load op rd a) = tt
stored_apart request t (Operation.Go rd value pc) = tt
stored_apart request t (Operation.Stop kind) = tt
stored_apart request t (Operation.Store op a v) = tt
stored_apart request t (Operation.LoadReserved rd a) = tt
stored_apart request t (Operation.StoreConditional rd a v) = tt
stored_apart request t (Operation.Amo op rd a v) = tt

-- what holds of both ways to serve holds of the choice
pub either_serve : (P : StepResult → Type 0) (b : Bool) (x y : StepResult) → P x → P y → P (cond b x y)
either_serve P true x y p q = p
either_serve P false x y p q = q

kind_apart : (o : Option Kind) (most k : ℕ) (ts : List Parts) (request : Option Request) (t : Parts) (m : List ℕ) (input : Option Input) → Apart (serve_kind most o k ts request t m input).words
kind_apart None most k ts request t m input = tt
kind_apart (Some Kind.Call) most k ts request t m input =
    either_serve (λ (v : StepResult). Apart v.words) (is_outside t) (outside_called (need t m) request t input) (inside_called (called most (length m) k ts request t)) (outside_apart (need t m) request t input) tt
kind_apart (Some Kind.Break) most k ts request t m input = tt
kind_apart (Some Kind.DeviceLoad) most k ts request t m input = loaded_apart request t _ input
kind_apart (Some Kind.DeviceStore) most k ts request t m input = stored_apart request t _
kind_apart (Some (Kind.Fault cause)) most k ts request t m input = tt

-- a kernel copy stores no word twice
pub serve-apart : (most k : ℕ) (ts : List Parts) (request : Option Request) (t : Parts) (m : List ℕ) (input : Option Input) → Apart (serve most k ts request t m input).words
unfolding serve
serve-apart most k ts request t m input = kind_apart _ most k ts request t m input

served_apart : (log : LogParts) (p : Progress) (k : ℕ) (ts : List Parts) (t : Parts) (m : List ℕ) (o : Option TakenRecord) (e : Effect) (u : Used) → served_verdict log p k ts t m o ≡ Goes e u → Apart e.words
served_apart log p k ts t m None e u is = cc
served_apart log p k ts t m (Some g) e u is =
    subst Apart (sym (interrupted_words _ (serial_effect k (serve log.threads k ts p.request t m g.input)) g.used e u is)) (serve-apart log.threads k ts p.request t m g.input)

unless_apart : (o : Option Why) (x : LogVerdict) → ((e : Effect) (u : Used) → x ≡ Goes e u → Apart e.words) → (e : Effect) (u : Used) → unless o x ≡ Goes e u → Apart e.words
unless_apart None x each e u is = each e u is
unless_apart (Some why) x each e u is = cc

serial_apart : (log : LogParts) (p : Progress) (u : Used) (k : ℕ) (ts : List Parts) (t : Parts) (m : List ℕ) (e : Effect) (v : Used) → serial_verdict log p u k ts t m ≡ Goes e v → Apart e.words
unfolding serial_verdict
serial_apart log p u k ts t m e v is =
    let g = given (need t m) (slice_get log.inputs u.inputs) u in
    unless_apart (serial_why (size_in log (Actor.Thread k) t.commits)) (served_verdict log p k ts t m g) (λ f w h. served_apart log p k ts t m g f w h) e v is

serial_in_moves : (k moment : ℕ) (role : Role) (t : Parts) (devices : Devices) (p : Sphere) → p.role ≡ role → HasTurn k role p → MovesOnly k devices p (serial_in role k moment t devices p)
unfolding limit_of limit_after
serial_in_moves k moment Plain t devices p is turn =
    let g = taken (need t p.memory) devices moment in
    let v = serve plain_threads k p.threads p.progress.request t p.memory g.input in
    granted_moves k Plain (serial_effect k v) devices (console_written t p.memory v.outputs g.devices) p (ap halves (sym is)) (ap replays (sym is)) (λ s j u. ap (λ (q : Role). limit_in q s j u.commits) (sym is)) (λ s j u. ap (λ (q : Role). limit_after_in q s j u.commits) (sym is)) (serve-apart plain_threads k p.threads p.progress.request t p.memory g.input)
serial_in_moves k moment (Record recording) t devices p is turn =
    let g = taken (need t p.memory) devices moment in
    let v = serve recording.log.threads k p.threads p.progress.request t p.memory g.input in
    granted_moves k (Record (record recording { log = serial_noted k t g recording.log p })) (serial_effect k v) devices (console_written t p.memory v.outputs g.devices) p (ap halves (sym is)) (ap replays (sym is)) (λ s j u. ap (λ (q : Role). limit_in q s j u.commits) (sym is)) (λ s j u. ap (λ (q : Role). limit_after_in q s j u.commits) (sym is)) (serve-apart recording.log.threads k p.threads p.progress.request t p.memory g.input)
serial_in_moves k moment (Replay b) t devices p is turn =
    verdict_moves k b (serial_verdict b.log p.progress b.used k p.threads t p.memory) devices p is (may_go b k p turn.going turn.turn)
    (λ e u h. serial_apart b.log p.progress b.used k p.threads t p.memory e u h)

-- a granted serial step moves its own thread only
pub serial-moves : (k moment : ℕ) (t : Parts) (devices : Devices) (p : Sphere) → HasTurn k p.role p → MovesOnly k devices p (serial_moved k moment t devices p)
unfolding serial_moved
serial-moves k moment t devices p turn = serial_in_moves k moment p.role t devices p refl turn

-- ---- plain and recorded spheres grant every request

chunk_in_lives : (role : Role) (k : ℕ) (piece short : Bool) (r : Run) (devices : Devices) (p : Sphere) → replays role ≡ false → (chunk_in role k piece short r devices p).outcome ≡ Granted
chunk_in_lives Plain k piece short r devices p live = refl
chunk_in_lives (Record recording) k piece short r devices p live = refl
chunk_in_lives (Replay b) k piece short r devices p live = absurd (true≢false live)

-- outside replays the answer to a granted chunk is Granted
pub chunk-lives : (k : ℕ) (piece short : Bool) (r : Run) (devices : Devices) (p : Sphere) → replays p.role ≡ false → (chunk_moved k piece short r devices p).outcome ≡ Granted
unfolding chunk_moved
chunk-lives k piece short r devices p live = chunk_in_lives p.role k piece short r devices p live

serial_in_lives : (role : Role) (k moment : ℕ) (t : Parts) (devices : Devices) (p : Sphere) → replays role ≡ false → (serial_in role k moment t devices p).outcome ≡ Granted
serial_in_lives Plain k moment t devices p live = refl
serial_in_lives (Record recording) k moment t devices p live = refl
serial_in_lives (Replay b) k moment t devices p live = absurd (true≢false live)

-- outside replays the answer to a granted serial step is Granted
pub serial-lives : (k moment : ℕ) (t : Parts) (devices : Devices) (p : Sphere) → replays p.role ≡ false → (serial_moved k moment t devices p).outcome ≡ Granted
unfolding serial_moved
serial-lives k moment t devices p live = serial_in_lives p.role k moment t devices p live

-- ---- what a whole commit of a chunk leaves for the thread's next chunk

-- it stores the run's words and counts its thread, which may have taken an interrupt; the next commit has the limit that it
-- had after this one
pub record Leaves (k : ℕ) (p : Sphere) (r : Run) (v : MovedSphere) : Type 0 where
  pub words : v.words ≡ r.words
  pub thread : (t : Parts) → slice_get v.sphere.threads k ≡ Some t → (t ≡ counted r.thread) ⊎ ((t.mask ≡ true) × ((counted r.thread).mask ≡ false))
  pub limits : (s : ℕ) (t : Parts) → limit_of s v.sphere.role k t ≡ limit_after s p.role k t

-- the thread of an effect is this one, or this one after an interrupt
abbrev IsLeft : Parts → Parts → Type 0
IsLeft u t = (t ≡ u) ⊎ ((t.mask ≡ true) × (u.mask ≡ false))

put_there : (k : ℕ) (e : Effect) (ts : List Parts) (u t : Parts) → slice_get ts k ≡ Some u → slice_get (with_threads k e ts) k ≡ Some t → e.thread ≡ t
put_there k e ts u t is there =
    let h : Some e.thread ≡ Some t = sym (get-append (slice_set ts k e.thread) e.spawned k e.thread (get-set_same ts k e.thread u is)) ∙ there in cc

left_by : (value : ℕ) (e f : Effect) (u v : Used) (b : Bool) → takes_interrupt e.thread ≡ b → cond b (Goes (record e { thread = interrupted value e.thread }) u) (Fails Why.Interrupt) ≡ Goes f v → IsLeft e.thread f.thread
left_by value e f u v true takes is =
    let g : record e { thread = interrupted value e.thread } ≡ f = cc in
    inr (ap (λ (x : Effect). x.thread.mask) (sym g), not-true e.thread.mask (and_parts _ (not e.thread.mask) takes).1)
left_by value e f u v false takes is = cc

interrupted_thread : (o : Option ℕ) (e : Effect) (u : Used) (f : Effect) (v : Used) → with_interrupted o e u ≡ Goes f v → IsLeft e.thread f.thread
interrupted_thread None e u f v is = let g : e ≡ f = cc in inl (ap (λ (x : Effect). x.thread) (sym g))
interrupted_thread (Some value) e u f v is = left_by value e f (with_interrupt u) v (takes_interrupt e.thread) refl is

unless_thread : (o : Option Why) (x : LogVerdict) (t : Parts) → ((e : Effect) (u : Used) → x ≡ Goes e u → IsLeft t e.thread) → (e : Effect) (u : Used) → unless o x ≡ Goes e u → IsLeft t e.thread
unless_thread None x t each e u is = each e u is
unless_thread (Some why) x t each e u is = cc

chunk_thread : (log : LogParts) (p : Progress) (u : Used) (k : ℕ) (r : Run) (e : Effect) (v : Used) → chunk_verdict log p u k r ≡ Goes e v → IsLeft (counted r.thread) e.thread
unfolding chunk_verdict
chunk_thread log p u k r e v is =
    let x = chunk_effect k p.request r in
    unless_thread (chunk_why (size_in log (Actor.Thread k) r.thread.commits) r.n) (with_interrupted (interrupt_at log.interrupts k x.thread.commits) x u) (counted r.thread)
    (λ f w h. interrupted_thread (interrupt_at log.interrupts k x.thread.commits) x u f w h) e v is

effect_leaves : (k : ℕ) (strata : Option Standing) (role : Role) (e : Effect) (devices : Devices) (p : Sphere) (r : Run) (u : Parts) → slice_get p.threads k ≡ Some u → e.words ≡ r.words → IsLeft (counted r.thread) e.thread → ((s : ℕ) (t : Parts) → limit_of s role k t ≡ limit_after s p.role k t)
    → Leaves k p r (granted_in strata role k e devices p)
effect_leaves k strata role e devices p r u is words thread limits =
    record {
      words = words;
      thread = λ t there. subst (IsLeft (counted r.thread)) (put_there k e p.threads u t is there) thread;
      limits = limits;
    }

none_taken : (n : ℕ) → max 1 (n - 0) ≡ max 1 n
none_taken n = omega arith

verdict_leaves : (k : ℕ) (b : Cursor) (verdict : LogVerdict) (devices : Devices) (p : Sphere) (r : Run) (u : Parts) → p.role ≡ Replay b → slice_get p.threads k ≡ Some u → ((e : Effect) (x : Used) → verdict ≡ Goes e x → (e.words ≡ r.words) × IsLeft (counted r.thread) e.thread)
    → (by_verdict b k verdict devices p).outcome ≡ Granted → Leaves k p r (by_verdict b k verdict devices p)
unfolding limit_of limit_after
verdict_leaves k b (Fails why) devices p r u role is each granted = absurd (let h : Diverged _ why ≡ Granted = granted in cc)
verdict_leaves k b (Goes e x) devices p r u role is each granted =
    let g = each e x refl in
    effect_leaves k b.strata _ e devices p r u is g.0 g.1
    (λ s t. ap (λ (n : ℕ). max 1 (whole_limit b.log k t.commits - n)) (pieces_none _ k) ∙ none_taken (whole_limit b.log k t.commits) ∙ ap (λ (q : Role). limit_after_in q s k t.commits) (sym role))

leaves_in : (role : Role) (k : ℕ) (piece short : Bool) (r : Run) (devices : Devices) (p : Sphere) (u : Parts) → p.role ≡ role → slice_get p.threads k ≡ Some u → (chunk_in role k piece short r devices p).outcome ≡ Granted → Leaves k p r (chunk_in role k piece short r devices p)
unfolding limit_of limit_after
leaves_in Plain k piece short r devices p u role is granted =
    effect_leaves k None Plain (chunk_effect k p.progress.request r) devices p r u is refl (inl refl) (λ s t. ap (λ (q : Role). limit_after_in q s k t.commits) (sym role))
leaves_in (Record log) k piece short r devices p u role is granted =
    effect_leaves k None (Record _) (chunk_effect k p.progress.request r) devices p r u is refl (inl refl) (λ s t. ap (λ (q : Role). limit_after_in q s k t.commits) (sym role))
leaves_in (Replay b) k true short r devices p u role is granted = absurd (let h : Piece ≡ Granted = granted in cc)
leaves_in (Replay b) k false short r devices p u role is granted =
    verdict_leaves k b (chunk_verdict b.log p.progress b.used k (joined b r)) devices p r u role is
    (λ e x h. (chunk_words b.log p.progress b.used k (joined b r) e x h, chunk_thread b.log p.progress b.used k (joined b r) e x h)) granted

-- what a chunk leaves that is granted whole
pub chunk-leaves : (k : ℕ) (piece short : Bool) (r : Run) (devices : Devices) (p : Sphere) (u : Parts) → slice_get p.threads k ≡ Some u → (chunk_moved k piece short r devices p).outcome ≡ Granted → Leaves k p r (chunk_moved k piece short r devices p)
unfolding chunk_moved
chunk-leaves k piece short r devices p u is granted = leaves_in p.role k piece short r devices p u refl is granted

-- a plain or recorded sphere has no pieces, nor has one whose chunk was closed by its limit or before a serial instruction
piece_in : (role : Role) (k : ℕ) (piece short : Bool) (r : Run) (devices : Devices) (p : Sphere) → (chunk_in role k piece short r devices p).outcome ≡ Piece → (replays role ≡ true) × (piece ≡ true)
piece_in Plain k piece short r devices p e = absurd (let h : Granted ≡ Piece = e in cc)
piece_in (Record log) k piece short r devices p e = absurd (let h : Granted ≡ Piece = e in cc)
piece_in (Replay b) k true short r devices p e = (refl, refl)
piece_in (Replay b) k false short r devices p e = absurd (no_piece b k (chunk_verdict b.log p.progress b.used k (joined b r)) devices p e)
  where
    no_piece : (b : Cursor) (k : ℕ) (verdict : LogVerdict) (devices : Devices) (p : Sphere) → (by_verdict b k verdict devices p).outcome ≡ Piece → ⊥
    no_piece b k (Fails why) devices p e = let h : Diverged _ why ≡ Piece = e in cc
    no_piece b k (Goes f u) devices p e = let h : Granted ≡ Piece = e in cc

-- only a replay commits in pieces, of chunks that may be pieces
pub piece-replayed : (k : ℕ) (piece short : Bool) (r : Run) (devices : Devices) (p : Sphere) → (chunk_moved k piece short r devices p).outcome ≡ Piece → (replays p.role ≡ true) × (piece ≡ true)
unfolding chunk_moved
piece-replayed k piece short r devices p e = piece_in p.role k piece short r devices p e
