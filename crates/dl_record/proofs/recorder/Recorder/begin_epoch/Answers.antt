use Rattle.std.proofs.Common.{◌≡◌, ℕ, ◌+◌, ◌-◌, ◌≤◌, ◌^◌, ◌++◌, [], ◌∷◌, Option, Some, None, length, drop, slice_get, slice_index, map, refl, ap, sym, subst, ◌∙◌, arith}
use Rattle.std.proofs.lemmas.List.{length-drop}
use Rattle.dl_kernel.specs.States.{state_in}
use Rattle.dl_input.specs.Tracked.{interrupt_of}
use Rattle.spec_play.specs.Epochs.{Epoch, Epochs, commits_before, inputs_before, kept_from, with_epoch, given_up, without_first}
use Rattle.spec_play.specs.Noted.{Recorded}
use Rattle.dl_record.specs.Epochs.{AreEpochs, EpochList, IsCounted, epochs_in, epoch_begun}
use Rattle.dl_record.specs.Recording.{Recording, commits_in, in_epochs}
use Rattle.dl_record.proofs.Beginning.{begun_in, gives_up, epoch_begun-up}
use Rattle.dl_record.proofs.Cut.{IsRecording-cut, kept-since, interrupts-since}
use Rattle.dl_record.proofs.recorder.Recorder.begin_epoch.Goals as goal

pub unraised_of-requires : goal.unraised_of-requires
unraised_of-requires g c = λ t.
    let i = rw c.in-Some.is at c.self.invariant in
    let r = i.0 in
    let x = c.in-Some.epochs.epochs in
    let kept = (g.M.Mode.logged c.self.inside.log).kept in
    let n : ℕ = c.self.inside.count in
    let commits : c.args.state.commits ≡ n = c.requires.commits ∙ (sym (ap commits_in c.self.view_is) ∙ (rw c.in-Some.is (sym i.1))) in
    let counted : IsCounted (state_in c.args.state) =
    λ t. omega (arith, c.requires.done t, ap (λ (q : Recording). slice_index q.kept.done t) c.self.view_is, r.done t, i.1, commits) in
    let m : ℕ = inputs_before x.begun + length c.self.inside.inputs.inputs in
    let inputs : c.inputs_before.result + c.len.result ≡ m = omega (arith, c.inputs_before.ensures, c.len.ensures) in
    let e : Epoch = record { state = state_in c.args.state; inputs = m } in
    let begun : c.begin.new.self.epochs ≡ with_epoch e x =
    c.in_ok-begin.ensures.ok ∙ ap (λ (k : ℕ). with_epoch (record { state = state_in c.args.state; inputs = k }) x) inputs in
    let a = c.in-Some-given_up.first.now in
    let b = c.in-Some-given_up.next.now in
    let up : given_up x.keep (x.begun ++ e ∷ []) ≡ Some (a, b) =
    ap (λ (y : Epochs). given_up y.keep y.begun) (sym begun) ∙ rw c.in-Some-given_up.is at (sym c.given_up.ensures) in
    let given = gives_up x e n m a b i.2 counted commits refl up in
    rw (ap (λ (y : Epoch). y.state.threads) c.next.view_is)
    (omega (arith, given.counted t, given.within, r.few, i.1))

pub invariant_of-self-in-Some-given_up : goal.invariant_of-self-in-Some-given_up
invariant_of-self-in-Some-given_up g c =
    let i = rw c.in-Some.is at c.self.invariant in
    let r = i.0 in
    let x = c.in-Some.epochs.epochs in
    let kept = (g.M.Mode.logged c.self.inside.log).kept in
    let n : ℕ = c.self.inside.count in
    let commits : c.args.state.commits ≡ n = c.requires.commits ∙ (sym (ap commits_in c.self.view_is) ∙ (rw c.in-Some.is (sym i.1))) in
    let counted : IsCounted (state_in c.args.state) =
    λ t. omega (arith, c.requires.done t, ap (λ (q : Recording). slice_index q.kept.done t) c.self.view_is, r.done t, i.1, commits) in
    let m : ℕ = inputs_before x.begun + length c.self.inside.inputs.inputs in
    let inputs : c.inputs_before.result + c.len.result ≡ m = omega (arith, c.inputs_before.ensures, c.len.ensures) in
    let e : Epoch = record { state = state_in c.args.state; inputs = m } in
    let begun : c.begin.new.self.epochs ≡ with_epoch e x =
    c.in_ok-begin.ensures.ok ∙ ap (λ (k : ℕ). with_epoch (record { state = state_in c.args.state; inputs = k }) x) inputs in
    let a = c.in-Some-given_up.first.now in
    let b = c.in-Some-given_up.next.now in
    let up : given_up x.keep (x.begun ++ e ∷ []) ≡ Some (a, b) =
    ap (λ (y : Epochs). given_up y.keep y.begun) (sym begun) ∙ rw c.in-Some-given_up.is at (sym c.given_up.ensures) in
    let given = gives_up x e n m a b i.2 counted commits refl up in
    let before : c.first.inside.state.commits ≡ a.state.commits = ap (λ (y : Epoch). y.state.commits) c.first.view_is in
    let at : c.next.inside.state.commits ≡ b.state.commits = ap (λ (y : Epoch). y.state.commits) c.next.view_is in
    let inputs_before_it : c.first.inside.inputs ≡ a.inputs = ap (λ (y : Epoch). y.inputs) c.first.view_is in
    let inputs_at : c.next.inside.inputs ≡ b.inputs = ap (λ (y : Epoch). y.inputs) c.next.view_is in
    let threads : c.next.inside.state.threads ≡ b.state.threads = ap (λ (y : Epoch). y.state.threads) c.next.view_is in
    let gone : ℕ = b.state.commits - a.state.commits in
    let new_kept : (g.M.Mode.logged c.forget.new.log).kept ≡ kept_from gone b.state.threads kept =
    c.forget.ensures.kept ∙ rw (before, at) (kept-since gone c.done_of.result b.state.threads kept (λ t. rw threads at (c.done_of.ensures t))) in
    let new_interrupts = ap (map interrupt_of) c.forget-in-Some-given_up.ensures.entries
    ∙ interrupts-since c.unraised_of.result b.state.threads c.self.inside.interrupts.entries (λ t. rw threads at (c.unraised_of.ensures t)) in
    let new_inputs : c.forget-in-Some-given_up-2.new.self.inputs ≡ drop (b.inputs - a.inputs) c.self.inside.inputs.inputs =
    rw (inputs_before_it, inputs_at) at c.forget-in-Some-given_up-2.ensures.inputs in
    let new_dmas = rw at at c.forget-in-Some-given_up-3.ensures.dmas in
    let left : c.drop_first.new.self.epochs ≡ without_first (with_epoch e x) = c.drop_first.ensures ∙ ap without_first begun in
    let long = length-drop (b.inputs - a.inputs) c.self.inside.inputs.inputs in
    let cut = IsRecording-cut c.self.inside.version g.M.Mode.mode (commits_before x.begun) (inputs_before x.begun) kept (map interrupt_of c.self.inside.interrupts.entries)
    c.self.inside.inputs.inputs c.self.inside.dmas.dmas gone (b.inputs - a.inputs) b.state r (omega (arith, i.1, given.commits, given.within))
    (omega (arith, given.inputs, given.within_inputs)) in
    let base : commits_before x.begun + gone ≡ b.state.commits = omega (arith, given.commits, given.later) in
    let base_inputs : inputs_before x.begun + (b.inputs - a.inputs) ≡ b.inputs = omega (arith, given.inputs, given.later_inputs) in
    let same : m ≡ b.inputs + length (drop (b.inputs - a.inputs) c.self.inside.inputs.inputs) = omega (arith, long, given.inputs, given.later_inputs, given.within_inputs) in
    rw (left, given.base, given.base_inputs, new_kept, new_interrupts, new_inputs, new_dmas) (
      rw (base, base_inputs) at cut,
      omega (arith, i.1, given.commits, given.later, given.within),
      subst (λ (k : ℕ). AreEpochs (without_first (with_epoch e x)) n k) same given.are,
    )

pub invariant_of-self-in_default-given_up : goal.invariant_of-self-in_default-given_up
invariant_of-self-in_default-given_up g c =
    let i = rw c.in-Some.is at c.self.invariant in
    let r = i.0 in
    let x = c.in-Some.epochs.epochs in
    let kept = (g.M.Mode.logged c.self.inside.log).kept in
    let n : ℕ = c.self.inside.count in
    let commits : c.args.state.commits ≡ n = c.requires.commits ∙ (sym (ap commits_in c.self.view_is) ∙ (rw c.in-Some.is (sym i.1))) in
    let counted : IsCounted (state_in c.args.state) =
    λ t. omega (arith, c.requires.done t, ap (λ (q : Recording). slice_index q.kept.done t) c.self.view_is, r.done t, i.1, commits) in
    let e : Epoch = record { state = state_in c.args.state; inputs = c.inputs_before.result + c.len.result } in
    let m : ℕ = inputs_before x.begun + length c.self.inside.inputs.inputs in
    let inputs : c.inputs_before.result + c.len.result ≡ m = omega (arith, c.inputs_before.ensures, c.len.ensures) in
    let begun : c.begin.new.self.epochs ≡ with_epoch e x = c.in_ok-begin.ensures.ok in
    let none : given_up x.keep (x.begun ++ e ∷ []) ≡ None =
    ap (λ (y : Epochs). given_up y.keep y.begun) (sym begun) ∙ rw c.in_default-given_up.is at (sym c.given_up.ensures) in
    let b = begun_in x e n m i.2 counted commits inputs (omega (arith, r.few_inputs, i.1)) none in
    rw (begun, b.commits, b.inputs) (r, i.1, b.are)

pub returns-in-Some-given_up-clause-ok : goal.returns-in-Some-given_up-clause-ok
returns-in-Some-given_up-clause-ok g c =
    let i = rw c.in-Some.is at c.self.invariant in
    let r = i.0 in
    let x = c.in-Some.epochs.epochs in
    let kept = (g.M.Mode.logged c.self.inside.log).kept in
    let n : ℕ = c.self.inside.count in
    let commits : c.args.state.commits ≡ n = c.requires.commits ∙ (sym (ap commits_in c.self.view_is) ∙ (rw c.in-Some.is (sym i.1))) in
    let counted : IsCounted (state_in c.args.state) =
    λ t. omega (arith, c.requires.done t, ap (λ (q : Recording). slice_index q.kept.done t) c.self.view_is, r.done t, i.1, commits) in
    let m : ℕ = inputs_before x.begun + length c.self.inside.inputs.inputs in
    let inputs : c.inputs_before.result + c.len.result ≡ m = omega (arith, c.inputs_before.ensures, c.len.ensures) in
    let e : Epoch = record { state = state_in c.args.state; inputs = m } in
    let begun : c.begin.new.self.epochs ≡ with_epoch e x =
    c.in_ok-begin.ensures.ok ∙ ap (λ (k : ℕ). with_epoch (record { state = state_in c.args.state; inputs = k }) x) inputs in
    let a = c.in-Some-given_up.first.now in
    let b = c.in-Some-given_up.next.now in
    let up : given_up x.keep (x.begun ++ e ∷ []) ≡ Some (a, b) =
    ap (λ (y : Epochs). given_up y.keep y.begun) (sym begun) ∙ rw c.in-Some-given_up.is at (sym c.given_up.ensures) in
    let given = gives_up x e n m a b i.2 counted commits refl up in
    let before : c.first.inside.state.commits ≡ a.state.commits = ap (λ (y : Epoch). y.state.commits) c.first.view_is in
    let at : c.next.inside.state.commits ≡ b.state.commits = ap (λ (y : Epoch). y.state.commits) c.next.view_is in
    let inputs_before_it : c.first.inside.inputs ≡ a.inputs = ap (λ (y : Epoch). y.inputs) c.first.view_is in
    let inputs_at : c.next.inside.inputs ≡ b.inputs = ap (λ (y : Epoch). y.inputs) c.next.view_is in
    let threads : c.next.inside.state.threads ≡ b.state.threads = ap (λ (y : Epoch). y.state.threads) c.next.view_is in
    let gone : ℕ = b.state.commits - a.state.commits in
    let new_kept : (g.M.Mode.logged c.forget.new.log).kept ≡ kept_from gone b.state.threads kept =
    c.forget.ensures.kept ∙ rw (before, at) (kept-since gone c.done_of.result b.state.threads kept (λ t. rw threads at (c.done_of.ensures t))) in
    let new_interrupts = ap (map interrupt_of) c.forget-in-Some-given_up.ensures.entries
    ∙ interrupts-since c.unraised_of.result b.state.threads c.self.inside.interrupts.entries (λ t. rw threads at (c.unraised_of.ensures t)) in
    let new_inputs : c.forget-in-Some-given_up-2.new.self.inputs ≡ drop (b.inputs - a.inputs) c.self.inside.inputs.inputs =
    rw (inputs_before_it, inputs_at) at c.forget-in-Some-given_up-2.ensures.inputs in
    let new_dmas = rw at at c.forget-in-Some-given_up-3.ensures.dmas in
    let left : c.drop_first.new.self.epochs ≡ without_first (with_epoch e x) = c.drop_first.ensures ∙ ap without_first begun in
    let r : Recorded = record {
      version = c.self.inside.version;
      mode = g.M.Mode.mode;
      kept = kept;
      interrupts = map interrupt_of c.self.inside.interrupts.entries;
      inputs = c.self.inside.inputs.inputs;
      dmas = c.self.inside.dmas.dmas;
    } in
    let was = ap (λ (q : Option EpochList). epoch_begun (state_in c.args.state) (record { recorded = r; epochs = epochs_in q })) c.in-Some.is
    ∙ epoch_begun-up (state_in c.args.state) r x a b up in
    rw (left, new_kept, new_interrupts, new_inputs, new_dmas) refl
    ∙ (sym was ∙ ap (λ (q : Recording). epoch_begun (state_in c.args.state) (in_epochs g.M.Mode.mode q)) c.self.view_is)

pub returns-in-Some-given_up-clause-commits : goal.returns-in-Some-given_up-clause-commits
returns-in-Some-given_up-clause-commits g c =
    let i = rw c.in-Some.is at c.self.invariant in
    let r = i.0 in
    let x = c.in-Some.epochs.epochs in
    let kept = (g.M.Mode.logged c.self.inside.log).kept in
    let n : ℕ = c.self.inside.count in
    let commits : c.args.state.commits ≡ n = c.requires.commits ∙ (sym (ap commits_in c.self.view_is) ∙ (rw c.in-Some.is (sym i.1))) in
    let counted : IsCounted (state_in c.args.state) =
    λ t. omega (arith, c.requires.done t, ap (λ (q : Recording). slice_index q.kept.done t) c.self.view_is, r.done t, i.1, commits) in
    let m : ℕ = inputs_before x.begun + length c.self.inside.inputs.inputs in
    let inputs : c.inputs_before.result + c.len.result ≡ m = omega (arith, c.inputs_before.ensures, c.len.ensures) in
    let e : Epoch = record { state = state_in c.args.state; inputs = m } in
    let begun : c.begin.new.self.epochs ≡ with_epoch e x =
    c.in_ok-begin.ensures.ok ∙ ap (λ (k : ℕ). with_epoch (record { state = state_in c.args.state; inputs = k }) x) inputs in
    let a = c.in-Some-given_up.first.now in
    let b = c.in-Some-given_up.next.now in
    let up : given_up x.keep (x.begun ++ e ∷ []) ≡ Some (a, b) =
    ap (λ (y : Epochs). given_up y.keep y.begun) (sym begun) ∙ rw c.in-Some-given_up.is at (sym c.given_up.ensures) in
    let given = gives_up x e n m a b i.2 counted commits refl up in
    let before : c.first.inside.state.commits ≡ a.state.commits = ap (λ (y : Epoch). y.state.commits) c.first.view_is in
    let at : c.next.inside.state.commits ≡ b.state.commits = ap (λ (y : Epoch). y.state.commits) c.next.view_is in
    let threads : c.next.inside.state.threads ≡ b.state.threads = ap (λ (y : Epoch). y.state.threads) c.next.view_is in
    let gone : ℕ = b.state.commits - a.state.commits in
    let new_kept : (g.M.Mode.logged c.forget.new.log).kept ≡ kept_from gone b.state.threads kept =
    c.forget.ensures.kept ∙ rw (before, at) (kept-since gone c.done_of.result b.state.threads kept (λ t. rw threads at (c.done_of.ensures t))) in
    let left : c.drop_first.new.self.epochs ≡ without_first (with_epoch e x) = c.drop_first.ensures ∙ ap without_first begun in
    let all : n ≡ commits_in c.args.self.now = sym commits ∙ c.requires.commits in
    rw (left, given.base, new_kept) (omega (arith, i.1, given.commits, given.later, given.within, all))
