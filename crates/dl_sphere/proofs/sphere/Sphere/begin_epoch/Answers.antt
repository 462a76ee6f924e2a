use Rattle.std.proofs.Common.{◌≡◌, ◌-◌, ◌∙◌, drop, refl, sym, ap, subst}
use Rattle.std.proofs.lemmas.Bool.{true≢false}
use Rattle.spec_isa.specs.Words.{lays}
use Rattle.spec_play.specs.Progress.{nothing_used}
use Rattle.spec_sphere.specs.sphere.Epochs.{epoch_begun, state_in}
use Rattle.spec_engine.specs.Flying.{flying}
use Rattle.spec_sphere.specs.sphere.Spheres.{Sphere, Record}
use Rattle.dl_kernel.specs.States.{state_in as seen_in}
use Rattle.dl_kernel.specs.InOrder.{listed}
use Rattle.dl_record.specs.Epochs as recorder
use Rattle.dl_record.specs.Epochs.{InEpochs, base, due_in}
use Rattle.dl_sphere.specs.Inside.{sphere_in}
use Rattle.dl_sphere.specs.Pasts.{sphere_at, sphere_with}
use Rattle.dl_sphere.specs.Recorded.{commits_of}
use Rattle.dl_sphere.specs.Roles.{keeping_of, recording_of, role_in, HasRecorded, IsKeepingOf}
use Rattle.dl_sphere.specs.SizedSpheres.{SizedSphere, with_sphere}
use Rattle.dl_sphere.specs.declared.part.Part.{Part}
use Rattle.dl_sphere.proofs.Begins.Begun.{Begins, begins, none_begins, unrecorded}
use Rattle.dl_sphere.proofs.Begins.Due.{none_due}
use Rattle.dl_sphere.proofs.sphere.Sphere.begin_epoch.Goals as goal

pub returns-in_default : goal.returns-in_default
returns-in_default g c =
    let a = c.self.inside in
    let words = flying c.args.number c.args.flights.now.slots in
    let none = unrecorded a.past a.past.state.used (lays a.past.state.memory words) a.part c.in_default.not-Recorded in
    record {
      ok =
          sym (ap (λ (p : Sphere). with_sphere p (record { s = a.s; sphere = sphere_in a })) none)
          ∙ ap (λ (v : SizedSphere). with_sphere (epoch_begun (lays v.sphere.memory words) v.sphere) v) c.self.view_is;
      err = tt;
      needless = λ none. refl;
    }

pub returns-then-not-is_due-clause-ok : goal.returns-then-not-is_due-clause-ok
returns-then-not-is_due-clause-ok g c =
    let a = c.self.inside in
    let words = flying c.args.number c.args.flights.now.slots in
    let memory = lays a.past.state.memory words in
    let r : InEpochs = c.in-Recorded.recording.in_epochs in
    let p : Sphere = sphere_at a.past (Record (recording_of r)) in
    let stands : HasRecorded a.s p r = subst (λ (x : Part). IsKeepingOf a.s a.past (keeping_of x)) c.in-Recorded.is c.self.invariant.kept in
    let none : epoch_begun memory p ≡ p =
    none_begins a.past.first a.past.state.memory a.past.state.threads (listed a.past.commits) a.past.state.last a.past.state.request a.s memory r stands (sym c.is_due.ensures ∙ c.if-not-is_due.true)
    in
    sym (ap (λ (x : Sphere). with_sphere x (record { s = a.s; sphere = p })) none)
    ∙ sym (ap (λ (x : Part). let y : Sphere = sphere_at a.past (role_in a.past.state.used x) in with_sphere (epoch_begun memory y) (record { s = a.s; sphere = y })) c.in-Recorded.is)
    ∙ ap (λ (v : SizedSphere). with_sphere (epoch_begun (lays v.sphere.memory words) v.sphere) v) c.self.view_is

pub invariant_of-self-2 : goal.invariant_of-self-2
invariant_of-self-2 g c =
    let a = c.self.inside in
    let cs = (listed a.past.commits) in
    let memory = lays a.past.state.memory (flying c.args.number c.args.flights.now.slots) in
    let r : InEpochs = c.in-Recorded.recording.in_epochs in
    let p : Sphere = sphere_at a.past (Record (recording_of r)) in
    let stands : HasRecorded a.s p r = subst (λ (x : Part). IsKeepingOf a.s a.past (keeping_of x)) c.in-Recorded.is c.self.invariant.kept in
    let here : seen_in c.in_ok-state.state ≡ state_in memory p =
    ap seen_in c.in_ok-state.ensures.now
    ∙ (λ i. record { memory = memory; threads = a.past.state.threads; request = a.past.state.request; last = a.past.state.last; commits = sym c.self.invariant.counted i; used = nothing_used })
    in
    let w : InEpochs = recorder.epoch_begun (state_in memory p) r in
    let begun : c.begin_epoch.new.self.in_epochs ≡ w = c.in_ok-begin_epoch.ensures.ok ∙ ap (λ t. recorder.epoch_begun t r) here in
    let same : commits_of w ≡ commits_of r = sym (ap commits_of begun) ∙ c.in_ok-begin_epoch.ensures.commits in
    let b : Begins a.past.first a.past.state.memory a.past.state.threads cs a.past.state.last a.past.state.request a.s memory r w =
    begins a.past.first a.past.state.memory a.past.state.threads cs a.past.state.last a.past.state.request a.s memory r stands (sym c.is_due.ensures ∙ c.if-not-is_due.false) same
    in
    let first : c.first-first.result ≡ base w.epochs = c.first-first.ensures ∙ ap (λ (x : InEpochs). base x.epochs) begun in
    let commits : (listed c.drop_first.new.self) ≡ drop (base w.epochs - a.past.first) cs =
    c.drop_first.ensures ∙ ap (λ n. drop (n - a.past.first) cs) first
    in
    let unchanged = c.in_ok-state.ensures.unchanged in
    record {
      size = c.self.invariant.size;
      counted = rw (first, commits, unchanged) (b.counted ∙ c.self.invariant.counted);
      request = rw unchanged c.self.invariant.request;
      kept = rw (first, commits, unchanged, begun) b.stands;
    }

pub returns-clause-ok : goal.returns-clause-ok
returns-clause-ok g c =
    let a = c.self.inside in
    let cs = (listed a.past.commits) in
    let words = flying c.args.number c.args.flights.now.slots in
    let memory = lays a.past.state.memory words in
    let r : InEpochs = c.in-Recorded.recording.in_epochs in
    let p : Sphere = sphere_at a.past (Record (recording_of r)) in
    let stands : HasRecorded a.s p r = subst (λ (x : Part). IsKeepingOf a.s a.past (keeping_of x)) c.in-Recorded.is c.self.invariant.kept in
    let here : seen_in c.in_ok-state.state ≡ state_in memory p =
    ap seen_in c.in_ok-state.ensures.now
    ∙ (λ i. record { memory = memory; threads = a.past.state.threads; request = a.past.state.request; last = a.past.state.last; commits = sym c.self.invariant.counted i; used = nothing_used })
    in
    let w : InEpochs = recorder.epoch_begun (state_in memory p) r in
    let begun : c.begin_epoch.new.self.in_epochs ≡ w = c.in_ok-begin_epoch.ensures.ok ∙ ap (λ t. recorder.epoch_begun t r) here in
    let same : commits_of w ≡ commits_of r = sym (ap commits_of begun) ∙ c.in_ok-begin_epoch.ensures.commits in
    let b : Begins a.past.first a.past.state.memory a.past.state.threads cs a.past.state.last a.past.state.request a.s memory r w =
    begins a.past.first a.past.state.memory a.past.state.threads cs a.past.state.last a.past.state.request a.s memory r stands (sym c.is_due.ensures ∙ c.if-not-is_due.false) same
    in
    let first : c.first-first.result ≡ base w.epochs = c.first-first.ensures ∙ ap (λ (x : InEpochs). base x.epochs) begun in
    let commits : (listed c.drop_first.new.self) ≡ drop (base w.epochs - a.past.first) cs =
    c.drop_first.ensures ∙ ap (λ n. drop (n - a.past.first) cs) first
    in
    let s = c.in_ok-state.ensures.unchanged in
    (λ i. record {
      s = a.s;
      sphere = sphere_with (first i) (s i).memory (s i).threads (commits i) (s i).last (s i).request (Record (recording_of (begun i)));
    })
    ∙ ap (λ (x : Sphere). with_sphere x (record { s = a.s; sphere = p })) b.sphere
    ∙ sym (ap (λ (x : Part). let y : Sphere = sphere_at a.past (role_in a.past.state.used x) in with_sphere (epoch_begun memory y) (record { s = a.s; sphere = y })) c.in-Recorded.is)
    ∙ ap (λ (v : SizedSphere). with_sphere (epoch_begun (lays v.sphere.memory words) v.sphere) v) c.self.view_is

pub returns-in_err-state-clause-needless : goal.returns-in_err-state-clause-needless
returns-in_err-state-clause-needless g c none =
    let not = c.is_due.ensures ∙ none_due c.self.inside _ c.in-Recorded.recording c.in-Recorded.is c.self.invariant c.self.view_is none in
    absurd (true≢false (sym c.if-not-is_due.false ∙ not))

pub returns-in_err-begin_epoch-clause-needless : goal.returns-in_err-begin_epoch-clause-needless
returns-in_err-begin_epoch-clause-needless g c none =
    let not = c.is_due.ensures ∙ none_due c.self.inside _ c.in-Recorded.recording c.in-Recorded.is c.self.invariant c.self.view_is none in
    absurd (true≢false (sym c.if-not-is_due.false ∙ not))
