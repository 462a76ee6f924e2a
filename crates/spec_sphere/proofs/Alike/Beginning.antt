-- An epoch that begins, and one that is given up, leave a sphere that is alike.
use Rattle.std.proofs.Common.{◌≡◌, ℕ, ◌+◌, ◌-◌, ◌≤◌, Bool, true, false, cond, List, [], ◌∷◌, ◌++◌, length, drop, Option, Some, None, refl, arith}
use Rattle.std.proofs.lemmas.List.{length-drop}
use Rattle.std.proofs.lemmas.List.Elements.{All-head, All-tail}
use Rattle.spec_isa.specs.declared.thread.Parts.{Parts}
use Rattle.spec_log.specs.declared.LogParts.{LogParts}
use Rattle.spec_log.specs.Noting.{no_sizes}
use Rattle.spec_play.specs.Progress.{Progress, position}
use Rattle.spec_play.specs.Epochs.{Epoch, Epochs, with_epoch, given_up, is_due}
use Rattle.spec_sphere.specs.sphere.Spheres.{Role, Plain, Record, Replay, Sphere}
use Rattle.spec_sphere.specs.sphere.Epochs.{epoch_at, trimmed_by, trimmed, begun_if, begun_in, epoch_begun}
use Rattle.spec_sphere.specs.promises.Alike.{epochs_in, forgotten, HaveBegun, HaveBegunIf}

-- ---- what is given up

-- between these two epochs are no more commits than are kept
abbrev AreFewBetween : (kept : ℕ) → Option (Epoch × Epoch) → Type 0
AreFewBetween n None = Unit {0}
AreFewBetween n (Some (a, b)) = b.state.commits - a.state.commits ≤ n

few_of : (n : ℕ) (c : Bool) (a b : Epoch) → b.state.commits - a.state.commits ≤ n → AreFewBetween n (cond c (Some (a, b)) None)
few_of n true a b l = l
few_of n false a b l = tt

-- if the epochs have begun in the sphere, and one more begins now
given_few : (g : Progress) (keep : ℕ) (begun : List Epoch) (e : Epoch) → HaveBegun g begun → e.state.commits ≡ position g → AreFewBetween (length g.commits) (given_up keep (begun ++ e ∷ []))
given_few g keep [] e h at_ = tt
given_few g keep (a ∷ []) e h at_ =
    few_of (length g.commits) _ a e (let f = h.first a [] refl in omega arith)
given_few g keep (a ∷ b ∷ es) e h at_ =
    few_of (length g.commits) _ a b
    (let f = h.first a (b ∷ es) refl in let l = All-head (λ (x : Epoch). x.state.commits ≤ position g) b es (All-tail (λ (x : Epoch). x.state.commits ≤ position g) a (b ∷ es) h.done) in omega (arith, f, l))

-- n commits given up are counted as before
still_counted : (g : Progress) (n : ℕ) → n ≤ length g.commits → (g.first + n) + length (drop n g.commits) ≡ position g
still_counted g n l = let e = length-drop n g.commits in omega arith

trimmed_alike : (o : Option (Epoch × Epoch)) (log : LogParts) (x : Epochs) (begun : List Epoch) (m : List ℕ) (ts : List Parts) (g : Progress) → AreFewBetween (length g.commits) o → let p : Sphere = record { memory = m; threads = ts; progress = g; role = Record (record { log = log; epochs = Some x }) } in forgotten (trimmed_by o log (record x { begun = begun }) p) ≡ forgotten p
trimmed_alike None log x begun m ts g few = refl
trimmed_alike (Some (a, b)) log x begun m ts g few =
    let e = still_counted g (b.state.commits - a.state.commits) few in
    (λ j. record {
      memory = m;
      threads = ts;
      progress = record g { first = e j; commits = [] };
      role = Record (record {
        log = record {
          version = log.version;
          threads = log.threads;
          mode = log.mode;
          s = log.s;
          count = e j;
          order = [];
          sizes = no_sizes log.mode;
          interrupts = [];
          inputs = [];
          dmas = [];
        };
        epochs = Some (record x { begun = [] });
      });
    })

-- ---- in a sphere

due_alike : (due : Bool) (log : LogParts) (x : Epochs) (m n : List ℕ) (ts : List Parts) (g : Progress) → HaveBegun g x.begun → let p : Sphere = record { memory = m; threads = ts; progress = g; role = Record (record { log = log; epochs = Some x }) } in
    forgotten (cond due (trimmed log (with_epoch (epoch_at n log x p) x) p) p) ≡ forgotten p
due_alike false log x m n ts g h = refl
due_alike true log x m n ts g h =
    let p : Sphere = record { memory = m; threads = ts; progress = g; role = Record (record { log = log; epochs = Some x }) } in
    let y = with_epoch (epoch_at n log x p) x in
    trimmed_alike (given_up x.keep y.begun) log x y.begun m ts g (given_few g x.keep x.begun (epoch_at n log x p) h refl)

begun_alike : (m n : List ℕ) (ts : List Parts) (g : Progress) (log : LogParts) (o : Option Epochs) → HaveBegunIf g o → let p : Sphere = record { memory = m; threads = ts; progress = g; role = Record (record { log = log; epochs = o }) } in forgotten (begun_if log o n p) ≡ forgotten p
begun_alike m n ts g log None h = refl
begun_alike m n ts g log (Some x) h = due_alike (is_due (position g) x) log x m n ts g h

by_role : (m n : List ℕ) (ts : List Parts) (g : Progress) (r : Role) → HaveBegunIf g (epochs_in r) → let p : Sphere = record { memory = m; threads = ts; progress = g; role = r } in forgotten (begun_in r n p) ≡ forgotten p
by_role m n ts g Plain h = refl
by_role m n ts g (Record r) h = begun_alike m n ts g r.log r.epochs h
by_role m n ts g (Replay b) h = refl

-- an epoch that begins leaves a sphere that is alike, if its epochs have begun
pub epoch-alike : (n : List ℕ) (p : Sphere) → HaveBegunIf p.progress (epochs_in p.role) → forgotten (epoch_begun n p) ≡ forgotten p
unfolding epoch_begun
epoch-alike n p h = by_role p.memory n p.threads p.progress p.role h

-- ---- whether an epoch has begun

abbrev pub HasBegun : Sphere → Type 0
HasBegun p = HaveBegunIf p.progress (epochs_in p.role)
