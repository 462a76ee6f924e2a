-- Threads that look alike to a serial step; and of `spec_play`, what instructions and serial steps keep of a thread.
use Rattle.std.proofs.Common.{◌≡◌, ℕ, ◌&&◌, eqb, cond, List, [], ◌∷◌, length, Option, Some, None, refl, ap}
use Rattle.std.specs.Prelude.{slice_get, nat_lt, ◌%◌}
use Rattle.dl_entry.specs.declared.Input.{Input}
use Rattle.dl_entry.specs.declared.Request.{Request}
use Rattle.spec_isa.specs.declared.thread.Parts.{Parts}
use Rattle.spec_isa.specs.declared.thread.Kind.{Kind}
use Rattle.spec_kernel.specs.Needs.{number_of, a0, a1, a2, need}
use Rattle.spec_kernel.specs.Answers.{refused, unknown_call}
use Rattle.spec_kernel.specs.Calls.{Called, gives, exit, spawned, set_handler, iret, request_dma, has_ended, called, with_result}
use Rattle.spec_kernel.specs.Serving.{outside_called, is_outside, inside_called, serve_kind, serve}
pub use Rattle.spec_play.specs.Spawned.{IsNew, AreNew}
pub use Rattle.spec_play.proofs.Threads.{Kept, next-kept, run-keeps, run-status, KeepsCommits, any-call, serve-keeps}

-- ---- threads that look alike to a serial step: as many, and the same ones live

-- there are as many threads, and the same ones have ended
pub record LookAlike (ts us : List Parts) : Type 0 where
  pub size : length us ≡ length ts
  pub ended : (j : ℕ) → has_ended (slice_get us j) ≡ has_ended (slice_get ts j)

called_alike : (most size k : ℕ) (ts us : List Parts) (request : Option Request) (t : Parts) → LookAlike ts us → called most size k us request t ≡ called most size k ts request t
unfolding called
called_alike most size k ts us request t a =
    (λ i.
    cond (eqb (number_of t) 0) (exit request t)
    (cond (eqb (number_of t) 1)
    (cond (nat_lt (a.size i) most && eqb (a0 t % 4) 0)
    (record { thread = with_result (a.size i) t; spawned = spawned (a0 t) (a1 t) (a2 t) ∷ []; request = request })
    (gives request t refused))
    (cond (eqb (number_of t) 6) (set_handler request t)
    (cond (eqb (number_of t) 7) (iret request t)
    (cond (eqb (number_of t) 8) (request_dma size request t)
    (cond (eqb (number_of t) 9) (gives request t k)
    (cond (eqb (number_of t) 10) (gives request t 0)
    (cond (eqb (number_of t) 11) (gives request t (a.ended (a0 t) i)) (gives request t unknown_call)))))))))

kind_alike : (o : Option Kind) (most k : ℕ) (ts us : List Parts) (request : Option Request) (t : Parts) (m : List ℕ) (input : Option Input) → LookAlike ts us → serve_kind most o k us request t m input ≡ serve_kind most o k ts request t m input
kind_alike None most k ts us request t m input a = refl
kind_alike (Some Kind.Call) most k ts us request t m input a =
    ap (λ (c : Called). cond (is_outside t) (outside_called (need t m) request t input) (inside_called c)) (called_alike most (length m) k ts us request t a)
kind_alike (Some Kind.Break) most k ts us request t m input a = refl
kind_alike (Some Kind.DeviceLoad) most k ts us request t m input a = refl
kind_alike (Some Kind.DeviceStore) most k ts us request t m input a = refl
kind_alike (Some (Kind.Fault cause)) most k ts us request t m input a = refl

-- a serial step looks at the other threads by their number and their ends alone
pub serve-alike : (most k : ℕ) (ts us : List Parts) (request : Option Request) (t : Parts) (m : List ℕ) (input : Option Input) → LookAlike ts us → serve most k us request t m input ≡ serve most k ts request t m input
unfolding serve
serve-alike most k ts us request t m input a = kind_alike _ most k ts us request t m input a
