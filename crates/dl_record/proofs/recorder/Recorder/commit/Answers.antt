use Rattle.std.proofs.Common.{◌≡◌, ℕ, ◌+◌, ◌<◌, ◌≤◌, ◌^◌, length, ap, ◌∙◌, option_map, arith}
use Rattle.spec_log.specs.Log.{IsInput, AreFewBytes}
use Rattle.dl_record.specs.Epochs.{IsBegun, due_in, base, base_inputs, epochs_in}
use Rattle.dl_record.specs.Recording.{Recording, CanCommit, commits_in, with_input}
use Rattle.dl_record.proofs.Beginning.{AreEpochs-commit}
use Rattle.dl_record.proofs.Recordings.{IsRecording-commit, if_there, with_input-more}
use Rattle.dl_record.proofs.recorder.Recorder.commit.Goals as goal

pub invariant_of-self-2 : goal.invariant_of-self-2
invariant_of-self-2 g c =
    let kept = (g.M.Mode.logged c.self.inside.log).kept in
    let i = c.self.invariant in
    let epochs = epochs_in c.self.inside.epochs in
    let inputs = c.self.inside.inputs.inputs in
    let past = base epochs in
    let can : CanCommit c.self.inside.version kept c.args.commit.now c.args.closed_short =
    rw (ap (λ (r : Recording). r.version) c.self.view_is, ap (λ (r : Recording). r.kept) c.self.view_is) c.requires.commit in
    let below : past + kept.count < 2 ^ 24 = omega (arith, c.requires.few, ap commits_in c.self.view_is) in
    let begun : IsBegun epochs c.self.inside.count = rw i.1 (ap (λ (r : Recording). due_in r.epochs (commits_in r)) c.self.view_is ∙ c.requires.begun) in
    let input = if_there (λ i. i.now) IsInput c.args.input c.requires.input in
    let bytes = if_there (λ b. b.now) AreFewBytes c.args.dma c.requires.dma in
    let more = with_input-more inputs (option_map (λ i. i.now) c.args.input) in
    rw (c.in_ok-note.ensures.ok, c.in_ok-note_input.ensures.ok, c.in_ok-note_dma.ensures.ok, c.reserve.ensures.inputs, c.reserve-2.ensures.dmas, i.1) (
      IsRecording-commit c.self.inside.version g.M.Mode.mode past (base_inputs epochs) kept _ inputs c.self.inside.dmas.dmas c.args.commit.now c.args.closed_short
          (option_map (λ i. i.now) c.args.input) (option_map (λ b. b.now) c.args.dma) i.0 can below input bytes,
      omega arith,
      rw i.1 at (AreEpochs-commit epochs c.self.inside.count _ (base_inputs epochs + length (with_input inputs (option_map (λ i. i.now) c.args.input))) i.2 begun (omega (arith, more))),
    )
