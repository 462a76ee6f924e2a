-- The play of a recorded log begins where the recording does.
use Rattle.std.proofs.Common.{◌≡◌, ℕ, zero, suc, ◌+◌, inl, inr, [], ◌∷◌, Some, None, refl, sym, ap, ◌∙◌, arith}
use Rattle.std.specs.Prelude.{slice_get}
use Rattle.std.proofs.lemmas.Bool.{true≢false}
use Rattle.std.proofs.lemmas.Option.{none-some}
use Rattle.spec_isa.specs.declared.thread.Parts.{Parts}
use Rattle.spec_isa.specs.Threads.{started}
use Rattle.spec_log.specs.declared.ModeName.{ModeName}
use Rattle.spec_log.specs.declared.LogParts.{LogParts}
use Rattle.spec_kernel.specs.Interrupts.{takes_interrupt}
use Rattle.spec_play.specs.Verdicts.{interrupt_at}
use Rattle.spec_log.specs.Noting.{no_sizes}
use Rattle.spec_play.specs.Recording.{new_log}
use Rattle.spec_sphere.specs.sphere.Spheres.{Role}
use Rattle.spec_sphere.specs.sphere.Setups.{first_threads, all_of, first_played, SphereSetup, live_sphere}
use Rattle.spec_sphere.specs.promises.Sound.{commits_in}
use Rattle.spec_sphere.specs.promises.Standing.{OrderStands, SizesStand, Stands}
use Rattle.spec_sphere.proofs.Logs.Growing.{Ahead}
use Rattle.spec_sphere.proofs.PlayingBack.Following.{early_same, pending, pending_same, sum-zero}
use Rattle.spec_sphere.proofs.PlayingBack.Moves.{Reaches}

no_commits : (entry k : ℕ) → commits_in (started entry ∷ []) k ≡ 0
no_commits entry zero = refl
no_commits entry (suc k) = refl

start_order : (mode : ModeName) (entry : ℕ) → OrderStands mode [] 0 (started entry ∷ [])
start_order ModeName.OrderSize entry = (refl, λ k. sym (no_commits entry k))
start_order ModeName.OrderOnly entry = (refl, λ k. sym (no_commits entry k))
start_order ModeName.Picolog entry = tt

start_sizes : (mode : ModeName) (entry : ℕ) → SizesStand mode (no_sizes mode) 0 (started entry ∷ [])
start_sizes ModeName.OrderSize entry = refl
start_sizes ModeName.OrderOnly entry = λ k i l. refl
start_sizes ModeName.Picolog entry = λ k i l. refl

-- a new log stands by a sphere that starts on the image
pub start-stands : (s : ℕ) (image : SphereSetup) (role : Role) (version : ℕ) (mode : ModeName) → Stands (live_sphere image role) (new_log version mode s)
start-stands s image role version mode =
    record {
      count = refl;
      order = start_order mode image.entry;
      sizes = start_sizes mode image.entry;
      past = λ k i l. refl;
      absent = λ k i e. refl;
      unmasked = λ k t e m. refl;
      dmas = tt;
    }

start_none : (L : LogParts) (s : ℕ) (image : SphereSetup) (role : Role) (version : ℕ) (mode : ModeName) → Ahead L (live_sphere image role) (new_log version mode s) → (j : ℕ) (t : Parts) → slice_get (first_threads image) j ≡ Some t → interrupt_at L.interrupts j t.commits ≡ None
start_none L s image role version mode a zero t e = elim (a.next zero t e) [
  | inl h ↦ h
  | inr takes ↦ absurd (true≢false (sym takes ∙ ap takes_interrupt (let g : started image.entry ≡ t = cc in sym g)))
]
start_none L s image role version mode a (suc j) t e = absurd (none-some t e)

-- a play reaches the start
pub start_reaches : (L : LogParts) (s : ℕ) (image : SphereSetup) (role : Role) (version : ℕ) (mode : ModeName) → Ahead L (live_sphere image role) (new_log version mode s) → Reaches L (first_played image (all_of L)) (live_sphere image role) (new_log version mode s)
start_reaches L s image role version mode a =
    record {
      memory = refl;
      size = refl;
      threads = λ j t e. e ∙ ap Some (sym (early_same None (interrupt_at L.interrupts j t.commits) t (start_none L s image role version mode a j t e)));
      progress = refl;
      inputs = refl;
      dmas = refl;
      interrupts = (let h = sum-zero (pending L.interrupts []) 0 (first_threads image) (λ j t e.
          let k : 0 + j ≡ j = omega arith in
          ap (λ (n : ℕ). pending L.interrupts [] n t) k ∙ pending_same None (interrupt_at L.interrupts j t.commits) (start_none L s image role version mode a j t e)) in omega arith);
      now = refl;
    }
