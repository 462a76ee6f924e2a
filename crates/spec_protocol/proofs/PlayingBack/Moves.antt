-- What a chunk that the machine has run makes of a recorded sphere and of its log.
use Rattle.std.proofs.Common.{◌≡◌, ℕ, ◌<◌, inl, inr, false, length, Some, None, refl, sym, ap, ◌∙◌, arith}
use Rattle.std.specs.Prelude.{slice_get}
use Rattle.std.proofs.lemmas.Bool.{true≢false, cases_eq}
use Rattle.spec_isa.specs.declared.thread.Parts.{Parts}
use Rattle.spec_isa.specs.Runs.{run}
use Rattle.spec_log.specs.declared.LogParts.{LogParts}
use Rattle.spec_kernel.specs.Devices.{Devices}
use Rattle.spec_play.specs.Effects.{chunk_effect}
use Rattle.spec_play.specs.Recording.{noted}
use Rattle.spec_engine.specs.declared.answers.How.{How}
use Rattle.spec_sphere.specs.sphere.Spheres.{Recording, Role, Record, Sphere, limit_in, limit_of, is_in_pieces}
use Rattle.spec_sphere.specs.sphere.Commits.{MovedSphere, chunk_in, laid}
use Rattle.spec_engine.specs.Closing.{is_piece, is_short}
use Rattle.spec_protocol.specs.machine.World.{Numbers}
use Rattle.spec_protocol.specs.machine.Moves.{ChunkFits}
use Rattle.spec_sphere.proofs.Logs.Growing.{commit_of}
use Rattle.spec_sphere.proofs.PlayingBack.Commits.{commit-size}
use Rattle.spec_sphere.proofs.PlayingBack.Verdicts.{run-stops, chunk-goes}
use Rattle.spec_sphere.proofs.PlayingBack.Moves.{Grown, commit_grown, taken_turn, not_less, chunk-committed}

some_ran : (z : Numbers) (recording : Recording) (p : Sphere) (k : ℕ) (t : Parts) (how : How) (n limit : ℕ) → p.role ≡ Record recording → 0 < z.capacity → ChunkFits z p k t how n limit → 0 < n
some_ran z recording p k t How.Limit n limit role buffer f = let a = f.full refl in let b = f.positive in omega arith
some_ran z recording p k t How.Serial n limit role buffer f =
    elim (cases_eq n 0) [
      | inl e ↦ absurd (true≢false (sym (f.some refl e) ∙ ap is_in_pieces role))
      | inr ne ↦ omega arith
    ]
some_ran z recording p k t How.Overflow n limit role buffer f = let a = f.room refl in omega arith
some_ran z recording p k t How.Cut n limit role buffer f = f.cut refl

limit_is : (z : Numbers) (recording : Recording) (p : Sphere) (k : ℕ) (t : Parts) → p.role ≡ Record recording → limit_of z.s p.role k t ≡ z.s
unfolding limit_of
limit_is z recording p k t role = ap (λ (r : Role). limit_in r z.s k t.commits) role

-- a chunk that is not short is as long as a run of the standard size
whole_run : (z : Numbers) (recording : Recording) (p : Sphere) (k : ℕ) (t : Parts) (how : How) (n limit : ℕ) → p.role ≡ Record recording → ChunkFits z p k t how n limit → is_short z.s how limit ≡ false → run p.memory t z.s ≡ run p.memory t n
whole_run z recording p k t How.Limit n limit role f short =
    let a = f.full refl in let b = f.limited in let c = limit_is z recording p k t role in let d = not_less limit z.s short in
    let e : z.s ≡ n = omega arith in
    ap (run p.memory t) e
whole_run z recording p k t How.Serial n limit role f short =
    let a = f.early (λ h. let g : How.Serial ≡ How.Limit = h in cc) in let b = f.limited in let c = limit_is z recording p k t role in
    run-stops p.memory t n z.s (omega arith) (f.serial refl)
whole_run z recording p k t How.Overflow n limit role f short = absurd (true≢false short)
whole_run z recording p k t How.Cut n limit role f short = absurd (true≢false short)

abbrev recorded_chunk : Numbers → Recording → Sphere → ℕ → Parts → How → (n limit : ℕ) → Devices → MovedSphere
recorded_chunk z recording p k t how n limit devices = chunk_in (Record recording) k (is_piece how) (is_short z.s how limit) (run p.memory t n) devices p

abbrev chunk_log : Numbers → LogParts → Sphere → ℕ → Parts → How → (n limit : ℕ) → LogParts
chunk_log z log p k t how n limit =
    let r = run p.memory t n in noted (chunk_effect k p.progress.request r).commit r.thread.commits (is_short z.s how limit) log

-- a recorded sphere and its log have grown after a chunk
pub chunk-grown : (z : Numbers) (recording : Recording) (p : Sphere) (k : ℕ) (t : Parts) (how : How) (n limit : ℕ) (devices : Devices) → p.role ≡ Record recording → recording.log.s ≡ z.s → 0 < z.capacity → slice_get p.threads k ≡ Some t → ChunkFits z p k t how n limit
    → Grown p (laid (recorded_chunk z recording p k t how n limit devices)) recording.log (chunk_log z recording.log p k t how n limit)
chunk-grown z recording p k t how n limit devices role s buffer is fits =
    let r = run p.memory t n in
    let e = chunk_effect k p.progress.request r in
    let short = is_short z.s how limit in
    let q = laid (recorded_chunk z recording p k t how n limit devices) in
    let qlog = chunk_log z recording.log p k t how n limit in
    let c = commit_of k short t e None in
    let d = chunk-committed recording p k t (is_piece how) short n devices is in
    let some = some_ran z recording p k t how n limit role buffer fits in
    commit_grown c p q recording.log qlog e d
    (λ L y sp ap_ aq f.
    let size = commit-size L c p q recording.log qlog d sp aq in
    record {
      thread = refl;
      spawned = refl;
      memory = refl;
      progress = refl;
      live = fits.live;
      turn_ = taken_turn L recording p k t role ap_.mode is fits.live fits.turn;
      verdict = chunk-goes L y k n p.memory t p.progress (record y.used { inputs = length qlog.inputs }) some fits.ran f.memory f.progress (λ i. record y.used { inputs = f.inputs i })
          (elim size [
            | inl h ↦ inl (h ∙ ap (λ (m : ℕ). Some m) fits.ran)
            | inr h ↦ inr (h.0, ap (run p.memory t) (ap_.s ∙ s) ∙ whole_run z recording p k t how n limit role fits h.1)
          ]);
    })
