-- What makes parts a tail: the last part of a recording, and the state in which it begins.
use Rattle.std.specs.Prelude.{◌≡◌, ℕ, ◌+◌, ◌^◌, ◌%◌, ◌<◌, ◌≤◌, Bool, true, false}
use Rattle.std.specs.Prelude.{List, ◌∷◌, length, All, Option, Some, None}
use Rattle.dl_entry.specs.declared.Request.{Request}
use Rattle.dl_entry.specs.Numbers.{most_bytes}
use Rattle.spec_isa.specs.declared.thread.Parts.{Parts}
use Rattle.spec_isa.specs.declared.thread.ThreadStatus.{ThreadStatus}
use Rattle.spec_isa.specs.Threads.{IsThread}
use Rattle.spec_log.specs.declared.LogParts.{LogParts}
use Rattle.spec_log.specs.Log.{IsLog}
use Rattle.spec_play.specs.Progress.{nothing_used}
use Rattle.spec_play.specs.States.{State}

-- the base, which is the number of commits before the tail; the threads, the memory, the outstanding request and the thread
-- that committed last, as they were there; and a log of the commits from the base on. Its moments of threads and its slots
-- of DMAs are counted from the recording's start
pub record Tail : Type 0 where
  pub base : ℕ
  pub threads : List Parts
  pub memory : List ℕ
  pub request : Option Request
  pub last : Option ℕ
  pub log : LogParts

-- the state at the base: of the tail's log no record is used yet
abbrev pub state_of : Tail → State
state_of t =
    record {
      memory = t.memory;
      threads = t.threads;
      request = t.request;
      last = t.last;
      commits = t.base;
      used = nothing_used;
    }

-- a code fits in 32 bits, and there are eight causes of faults
abbrev pub IsStatus : ThreadStatus → Type 0
IsStatus ThreadStatus.Live = Unit {0}
IsStatus (ThreadStatus.Ended code) = code < 2 ^ 32
IsStatus (ThreadStatus.Fault cause) = cause ≤ 7

-- the numbers of 32 bits that a thread is made of, except for its count of commits
abbrev pub words_of : Parts → List ℕ
words_of p = p.pc ∷ p.handler ∷ p.saved_pc ∷ p.saved_a0 ∷ p.saved_a1 ∷ p.x

-- outside an interrupt's handler nothing is saved
abbrev pub IsSaved : (mask : Bool) → (value : ℕ) → Type 0
IsSaved true value = Unit {0}
IsSaved false value = value ≡ 0

-- a thread between two commits, which has no reservation, and no more commits than there are before the base
pub record IsThreadAt (base : ℕ) (p : Parts) : Type 0 where
  pub thread : IsThread p
  pub words : All (λ word. word < 2 ^ 32) (words_of p)
  pub status : IsStatus p.status
  pub saved_pc : IsSaved p.mask p.saved_pc
  pub saved_a0 : IsSaved p.mask p.saved_a0
  pub saved_a1 : IsSaved p.mask p.saved_a1
  pub reservation : p.reservation ≡ None
  pub commits : p.commits ≤ base

-- the sizes of a memory: whole pages of 4,096 bytes, from one to 4,096 of them
pub record IsSize (size : ℕ) : Type 0 where
  pub pages : size % 4096 ≡ 0
  pub least : 4096 ≤ size
  pub most : size ≤ 2 ^ 24

-- a request's buffer is a word, for the count, and the bytes after it, all of them inside the memory
pub record IsBuffer (size : ℕ) (request : Request) : Type 0 where
  pub aligned : request.buf % 4 ≡ 0
  pub few : request.len ≤ most_bytes
  pub inside : request.buf + 4 + request.len ≤ size

abbrev pub IsRequest : (size : ℕ) → Option Request → Type 0
IsRequest size None = Unit {0}
IsRequest size (Some request) = IsBuffer size request

-- a thread has committed last, if any has, and it is still there
abbrev pub IsLast : (present : ℕ) → Option ℕ → Type 0
IsLast present None = Unit {0}
IsLast present (Some thread) = thread < present

-- the parts are a tail's
pub record IsTail (t : Tail) : Type 0 where
  pub some : 1 ≤ length t.threads
  pub threads : All (IsThreadAt t.base) t.threads
  pub size : IsSize (length t.memory)
  pub bytes : All (λ byte. byte < 256) t.memory
  pub request : IsRequest (length t.memory) t.request
  pub last : IsLast (length t.threads) t.last
  pub log : IsLog t.log
  pub version : t.log.version ≡ 2
  -- the log may have the threads that there are, and a recording has at most 2^24 commits
  pub most : length t.threads ≤ t.log.threads
  pub commits : t.base + t.log.count ≤ 2 ^ 24
