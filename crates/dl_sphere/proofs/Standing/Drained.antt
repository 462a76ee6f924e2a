-- A word that is laid into a sphere's memory leaves what is true of every sphere.
use Rattle.std.proofs.Common.{◌≡◌, ℕ, List, [], ◌∷◌, length, Option, Some, None, refl, sym, subst}
use Rattle.spec_isa.specs.Words.{Stored}
use Rattle.spec_isa.proofs.MemoryLaws.{length_lay}
use Rattle.spec_engine.specs.Flights.{Flight, drain, drain_words}
use Rattle.dl_kernel.specs.declared.past.Past.{Past}
use Rattle.spec_sphere.specs.promises.Sound.{IsSoundIf}
use Rattle.dl_sphere.specs.Roles.{Keeping, Plain, Recording, Replaying, IsKeepingOf, IsSphere}

words_length : (m : List ℕ) (f : Flight) (ws : List Stored) → length (drain_words m f ws).memory ≡ length m
words_length m f [] = refl
words_length m f (w ∷ ws) = length_lay m w

-- draining a slot keeps the memory's length
pub drain_length : (m : List ℕ) (o : Option Flight) → length (drain m o).memory ≡ length m
drain_length m None = refl
drain_length m (Some f) = words_length m f f.words

kept-drained : (s : ℕ) (past : Past) (m : List ℕ) (x : Keeping) → length m ≡ length past.state.memory → IsKeepingOf s past x → IsKeepingOf s (record past { state = record past.state { memory = m } }) x
kept-drained s past m Plain same h = record { few = h.few }
kept-drained s past m (Recording r) same h =
    record {
      few = record { few = h.few.few };
      s = h.s;
      threads = h.threads;
      all = h.all;
      done = h.done;
      first = h.first;
      count = h.count;
      fresh = h.fresh;
    }
kept-drained s past m (Replaying r loads) same h =
    let at = h.0 in (
      record {
        is_log = at.is_log;
        bounded = record { commits = at.bounded.commits; threads = at.bounded.threads; interrupts = at.bounded.interrupts };
        left = at.left;
        request = subst (λ n. IsSoundIf n past.state.request) (sym same) at.request;
        strata = at.strata;
      },
      h.1,
    )

-- a memory of the same length leaves the sphere standing
pub drained_stands : (s : ℕ) (past : Past) (m : List ℕ) (x : Keeping) → length m ≡ length past.state.memory → IsSphere s past x → IsSphere s (record past { state = record past.state { memory = m } }) x
drained_stands s past m x same h =
    record {
      size = h.size;
      counted = h.counted;
      request = subst (λ n. IsSoundIf n past.state.request) (sym same) h.request;
      kept = kept-drained s past m x same h.kept;
    }
