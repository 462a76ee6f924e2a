use Rattle.std.proofs.Common.{◌≡◌, ℕ, List, Some, None, sym, ap, ◌∙◌, arith}
use Rattle.std.specs.List.{flat_map}
use Rattle.dl_entry.specs.declared.Commit.{Commit}
use Rattle.dl_entry.specs.declared.CommitKind.{CommitKind}
use Rattle.dl_entry.specs.declared.End.{End}
use Rattle.spec_log.specs.declared.LogParts.{LogParts}
use Rattle.spec_play.specs.declared.walk_end.WalkEnd.{WalkEnd}
use Rattle.spec_play.specs.Plays.{opened, play, plays}
use Rattle.spec_play.specs.Walks as play
use Rattle.spec_strata.specs.declared.strata.StrataParts.{StrataParts}
use Rattle.spec_strata.specs.OnImages.{kinds_of}
use Rattle.spec_strata.proofs.Images.Ending.{walk-ended, never-reached, ends-as}
use Rattle.dl_strata.proofs.Fitting.{HasPlayed, held-by, other-unfit, complete-fits}
use Rattle.dl_strata.proofs.checking.check_fit.Goals as goal

pub returns-in-Some : goal.returns-in-Some
returns-in-Some c =
    let v = c.args.v.now in
    let log = c.args.log.now in
    let i = c.args.image.now in
    let all : c.parts.result.now.count ≡ log.count = ap (λ (l : LogParts). l.count) c.parts.ensures.parts in
    let cs : List Commit = c.as_slice-2.result.now in
    let ks : List CommitKind = c.as_slice-3.result.now in
    let played : HasPlayed v i.bytes i.entry cs ks = record {
      commits = c.as_slice-2.ensures ∙ ap (λ (w : play.Walked). w.commits) c.in_ok-walked.ensures.walked
          ∙ (λ j. (plays log (opened log i.bytes i.entry) (all j)).progress.commits)
          ∙ ap (λ (l : LogParts). (play l i.bytes i.entry).progress.commits) c.requires;
      kinds = c.as_slice-3.ensures ∙ c.in_ok-kinds.ensures ∙ ap (flat_map kinds_of) (c.as_slice.ensures ∙ ap (λ (p : StrataParts). p.strata) c.parts-2.ensures.parts);
    } in
    other-unfit v i.bytes i.entry c.in-Some.index (held-by v i.bytes i.entry cs ks (Some c.in-Some.index) played c.in-Some.ensures)

pub unreachable-requires : goal.unreachable-requires
unreachable-requires c =
    let log = c.args.log.now in
    let i = c.args.image.now in
    let all = ap (λ (l : LogParts). l.count) c.parts.ensures.parts in
    never-reached log i.bytes i.entry c.parts.result.now.count c.in_default-end.field-0 (omega (arith, all))
    (sym (ap (λ (w : play.Walked). w.end) c.in_ok-walked.ensures.walked) ∙ c.in_default-end.is)

pub returns-in-Complete : goal.returns-in-Complete
returns-in-Complete c =
    let v = c.args.v.now in
    let log = c.args.log.now in
    let i = c.args.image.now in
    let n : ℕ = c.in-Complete.field-0 in
    let all : c.parts.result.now.count ≡ log.count = ap (λ (l : LogParts). l.count) c.parts.ensures.parts in
    let cs : List Commit = c.as_slice-2.result.now in
    let ks : List CommitKind = c.as_slice-3.result.now in
    let played : HasPlayed v i.bytes i.entry cs ks = record {
      commits = c.as_slice-2.ensures ∙ ap (λ (w : play.Walked). w.commits) c.in_ok-walked.ensures.walked
          ∙ (λ j. (plays log (opened log i.bytes i.entry) (all j)).progress.commits)
          ∙ ap (λ (l : LogParts). (play l i.bytes i.entry).progress.commits) c.requires;
      kinds = c.as_slice-3.ensures ∙ c.in_ok-kinds.ensures ∙ ap (flat_map kinds_of) (c.as_slice.ensures ∙ ap (λ (p : StrataParts). p.strata) c.parts-2.ensures.parts);
    } in
    let ended = walk-ended log i.bytes i.entry c.parts.result.now.count (End.Complete n)
    (sym (ap (λ (w : play.Walked). w.end) c.in_ok-walked.ensures.walked) ∙ c.in-Ended.is ∙ ap WalkEnd.Ended c.in-Complete.is) in
    complete-fits v i.bytes i.entry n (held-by v i.bytes i.entry cs ks None played c.in_default.ensures)
    (ap (λ (l : LogParts). (play l i.bytes i.entry).now) (sym c.requires) ∙ ended)

pub unreachable-requires-in-At : goal.unreachable-requires-in-At
unreachable-requires-in-At c =
    let log = c.args.log.now in
    let i = c.args.image.now in
    ends-as log i.bytes i.entry (End.At c.in-At.field-0)
    (walk-ended log i.bytes i.entry c.parts.result.now.count (End.At c.in-At.field-0)
    (sym (ap (λ (w : play.Walked). w.end) c.in_ok-walked.ensures.walked) ∙ c.in-Ended.is ∙ ap WalkEnd.Ended c.in-At.is))
