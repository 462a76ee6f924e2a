-- The strata that a log is cut into. Each chunk joins the present chunks, unless it conflicts with one of another thread
-- there, or its thread has 255 there; then it begins new ones. A serial step or a DMA is alone.
use Rattle.std.specs.Prelude.{ℕ, suc, nat_eq, Bool, ◌||◌, List, [], ◌∷◌, ◌++◌, length, map, Option, Some, None, if◌then◌else◌}
use Rattle.std.specs.List.{flat_map, range_with_len}
use Rattle.dl_entry.specs.declared.Commit.{Commit}
use Rattle.dl_entry.specs.declared.CommitKind.{CommitKind}
use Rattle.dl_entry.specs.declared.Actor.{Actor}
use Rattle.spec_log.specs.declared.ShortSize.{ShortSize}
use Rattle.spec_log.specs.declared.Sizes.{Sizes}
use Rattle.spec_log.specs.declared.LogParts.{LogParts}
use Rattle.spec_log.specs.Size.{is_thread}
use Rattle.spec_log.specs.Log.{IsLog}
use Rattle.spec_play.specs.Plays.{Played, opened, play_one, play, FitsImage}
use Rattle.spec_strata.specs.declared.stratum.Stratum.{Stratum}
use Rattle.spec_strata.specs.declared.stratum.Stratum.TheVariants.{Chunks, Serial, Dma}
use Rattle.spec_strata.specs.declared.strata.StrataParts.{StrataParts}
use Rattle.spec_strata.specs.Shares.{StratumState, stratum_start, commit_more, counts_of}
use Rattle.spec_strata.specs.Parallel.{clashes_next}
use Rattle.spec_strata.specs.InPlay.{rule_of, IsLike}
use Rattle.spec_strata.specs.Strata.{AreStrata}
use Rattle.spec_strata.specs.Canonical.{canonical}
use Rattle.spec_strata.specs.OnImages.{IsParallelOn}

-- ---- chunks

-- chunks that others may join: their threads, in the order of the log, and the state that they have come to
pub record Present : Type 0 where
  pub threads : List ℕ
  pub state : StratumState

-- the most of one thread
abbrev pub most_chunks : ℕ
most_chunks = 255

-- no chunks yet, where the play is
abbrev pub no_chunks : Played → Present
no_chunks y = record { threads = []; state = stratum_start y.memory y.threads }

-- with the next chunk of thread k
abbrev pub with_chunk : LogParts → Present → (thread : ℕ) → Present
with_chunk log p k = record { threads = p.threads ++ k ∷ []; state = commit_more (rule_of log) p.state k }

-- whether thread k's next chunk can't join these
abbrev pub is_apart : LogParts → Present → (thread : ℕ) → Bool
is_apart log p k = nat_eq (counts_of p.threads k) most_chunks || clashes_next (rule_of log) p.state k

-- as a stratum, which counts them for so many threads
abbrev pub stratum_of : (counted : ℕ) → Present → Stratum
stratum_of counted p = Chunks (map (counts_of p.threads) (range_with_len 0 counted))

-- ---- cuts

-- a log's first commits: strata to which nothing comes any more, and the present chunks, if the last commit was one
pub record Cuts : Type 0 where
  pub strata : List Stratum
  pub present : Option Present

abbrev pub no_cuts : Cuts
no_cuts = record { strata = []; present = None }

-- the strata, with the present chunks as one
abbrev pub cut_off : (counted : ℕ) → Cuts → List Stratum
cut_off counted x = elim x.present [ None ↦ x.strata | Some p ↦ x.strata ++ stratum_of counted p ∷ [] ]

-- with a chunk of thread k, which comes where the play is
abbrev pub chunk_begins : (counted : ℕ) → LogParts → Played → (thread : ℕ) → Cuts → Cuts
chunk_begins counted log y k x =
    record { strata = cut_off counted x; present = Some (with_chunk log (no_chunks y) k) }

abbrev pub chunk_cut : (counted : ℕ) → LogParts → Played → (thread : ℕ) → Cuts → Cuts
chunk_cut counted log y k x =
    elim x.present [
      | None ↦ chunk_begins counted log y k x
      | Some p ↦ if is_apart log p k
          then chunk_begins counted log y k x
          else record x { present = Some (with_chunk log p k) }
    ]

-- with a stratum of one commit
abbrev pub alone_cut : (counted : ℕ) → Stratum → Cuts → Cuts
alone_cut counted one x = record { strata = cut_off counted x ++ one ∷ []; present = None }

-- with a thread's commit, by its kind, and with that of an actor
abbrev pub thread_cut : (counted : ℕ) → LogParts → Played → (thread : ℕ) → CommitKind → Cuts → Cuts
thread_cut counted log y k CommitKind.Chunk x = chunk_cut counted log y k x
thread_cut counted log y k CommitKind.Serial x = alone_cut counted (Serial k) x
thread_cut counted log y k CommitKind.Dma x = x
thread_cut counted log y k CommitKind.Piece x = x

abbrev pub actor_cut : (counted : ℕ) → LogParts → Played → Actor → CommitKind → Cuts → Cuts
actor_cut counted log y (Actor.Thread k) kind x = thread_cut counted log y k kind x
actor_cut counted log y Actor.Dma kind x = alone_cut counted Dma x

-- with these commits, the first of which the play does next
abbrev pub cut_on : (counted : ℕ) → LogParts → Played → List Commit → Cuts → Cuts
cut_on counted log y [] x = x
cut_on counted log y (c ∷ cs) x = cut_on counted log (play_one log y) cs (actor_cut counted log y c.actor c.kind x)

-- ---- sizes

-- a chunk's commit gives its size; of thread k, with so many of its commits before
abbrev pub chunk_size : (thread index : ℕ) → Commit → List ShortSize
chunk_size k i c = elim c.kind [
  | CommitKind.Chunk ↦ record { thread = k; index = i; size = c.size } ∷ []
  | CommitKind.Serial ↦ []
  | CommitKind.Dma ↦ []
  | CommitKind.Piece ↦ []
]

abbrev pub chunk_sizes : (thread index : ℕ) → List Commit → List ShortSize
chunk_sizes k i [] = []
chunk_sizes k i (c ∷ cs) =
    if is_thread k c.actor then chunk_size k i c ++ chunk_sizes k (suc i) cs else chunk_sizes k i cs

-- where each commit has a size, each chunk gets its own; else the sizes of short chunks stay
abbrev pub sizes_made : (counted : ℕ) → List Commit → Sizes → List ShortSize
sizes_made counted cs (Sizes.Each sizes) = flat_map (λ k. chunk_sizes k 0 cs) (range_with_len 0 counted)
sizes_made counted cs (Sizes.Short sizes) = sizes

-- ---- strata

-- of a log that fits an image; its threads are counted as they are at the end
abbrev pub made : LogParts → (memory : List ℕ) → (entry : ℕ) → StrataParts
made log memory entry =
    let y : Played = play log memory entry in
    let counted : ℕ = length y.threads in
    record {
      counted = counted;
      threads = log.threads;
      s = log.s;
      strata = cut_off counted (cut_on counted log (opened log memory entry) y.progress.commits no_cuts);
      sizes = sizes_made counted y.progress.commits log.sizes;
      interrupts = log.interrupts;
      inputs = log.inputs;
      dmas = log.dmas;
    }

-- ---- what is promised

-- they are parallel, and their log's play leaves what the log's play leaves, with each thread's commits in its order
pub record MadeGoes (log : LogParts) (v : StrataParts) (memory : List ℕ) (entry : ℕ) : Type 0 where
  pub parallel : IsParallelOn v memory entry
  pub like : IsLike (play log memory entry) (play (canonical v) memory entry)

-- So it is with the strata that a log is cut into, on each image that it fits.
abbrev pub MadeAreParallel : Type 0
MadeAreParallel =
    (log : LogParts) (memory : List ℕ) (entry : ℕ) → IsLog log → FitsImage log memory entry
    → MadeGoes log (made log memory entry) memory entry

-- They are strata: within their ranges, and in order.
abbrev pub MadeAreStrata : Type 0
MadeAreStrata =
    (log : LogParts) (memory : List ℕ) (entry : ℕ) → IsLog log → FitsImage log memory entry
    → AreStrata (made log memory entry)
