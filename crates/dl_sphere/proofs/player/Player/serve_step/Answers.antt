use Rattle.std.proofs.Common.{◌≡◌, ℕ, Some, sym, ap, subst, ◌∙◌}
use Rattle.std.specs.Prelude.{IfOk, Result, slice_get}
use Rattle.dl_entry.specs.declared.OutOfMemory.{OutOfMemory}
use Rattle.dl_entry.specs.declared.Why.{Why}
use Rattle.spec_isa.specs.declared.thread.Parts.{Parts}
use Rattle.spec_play.specs.Progress.{Progress}
use Rattle.spec_play.specs.Verdicts.{serial_verdict}
use Rattle.dl_kernel.specs.declared.serving.StepResult.{StepResult}
use Rattle.dl_kernel.specs.States.{PlayState as State}
use Rattle.dl_replay.specs.Following.{Following}
use Rattle.dl_replay.specs.Judged.{judged}
use Rattle.dl_replay.specs.Left.{served_by, served_left, verdict_left}
use Rattle.dl_replay.specs.Replays.{Agrees}
use Rattle.dl_sphere.specs.Played.{following_of}
use Rattle.dl_sphere.specs.declared.player.Player.TheInside.{Inside}
use Rattle.dl_sphere.proofs.player.Player.serve_step.Goals as goal
use Rattle.dl_sphere.proofs.player.Player.serve_step.Goals.{in-OrderSize, in-OrderOnly, in-Picolog, in-Strata}

-- the answer of a replayer of any mode
abbrev Answer : Type 0
Answer = Result (Result StepResult Why) OutOfMemory

-- Thread k of the sphere, whose state was s, did a serial step.
module _ (k : ℕ) (s : State) where
  abbrev Judges : (old new : Following) → State → Answer → Type 0
  Judges old new t a =
      (p : Progress) (thread : Parts) → Agrees s p → slice_get s.threads k ≡ Some thread
      → IfOk a (λ r. record { verdict = verdict_left r; replay = new; state = t } ≡ judged old s p k (serial_verdict old.log p s.used k s.threads thread s.memory))

  abbrev Serves : Following → Answer → Type 0
  Serves old a =
      (p : Progress) (thread : Parts) → Agrees s p → slice_get s.threads k ≡ Some thread
      → IfOk a (λ r. served_left r ≡ served_by (serial_verdict old.log p s.used k s.threads thread s.memory))

  judges : (a b x y : Following) (t u : State) (q r : Answer) → a ≡ b → y ≡ x → u ≡ t → r ≡ q → Judges a x t q → Judges b y u r
  judges a b x y t u q r old new state is h =
      subst (λ o. Judges o y u r) old (subst (λ n. Judges a n u r) (sym new) (subst (λ v. Judges a x v r) (sym state) (subst (Judges a x t) (sym is) h)))

  serves : (a b : Following) (q r : Answer) → a ≡ b → r ≡ q → Serves a q → Serves b r
  serves a b q r old is h = subst (λ o. Serves o r) old (subst (Serves a) (sym is) h)

pub returns-clause-judged : goal.returns-clause-judged
returns-clause-judged c =
    let k = c.args.number in
    let s = c.args.state.now in
    let seen = λ (i : Inside). following_of i.players in
    elim c.match-self.branch [
      | in-OrderSize w ↦ judges k s _ _ _ _ _ _ _ _ (sym (ap following_of w.in-OrderSize.is) ∙ c.self.view_is) (ap seen w.self-inside-is) w.state-is w.left-is w.serve_step-left.ensures.judged
      | in-OrderOnly w ↦ judges k s _ _ _ _ _ _ _ _ (sym (ap following_of w.in-OrderOnly.is) ∙ c.self.view_is) (ap seen w.self-inside-is) w.state-is w.left-is w.serve_step-left-in-OrderOnly.ensures.judged
      | in-Picolog w ↦ judges k s _ _ _ _ _ _ _ _ (sym (ap following_of w.in-Picolog.is) ∙ c.self.view_is) (ap seen w.self-inside-is) w.state-is w.left-is w.serve_step-left-in-Picolog.ensures.judged
      | in-Strata w ↦ judges k s _ _ _ _ _ _ _ _ (sym (ap following_of w.in-Strata.is) ∙ c.self.view_is) (ap seen w.self-inside-is) w.state-is w.left-is w.serve_step-left-in-Strata.ensures.judged
    ]

pub returns-clause-served : goal.returns-clause-served
returns-clause-served c =
    let k = c.args.number in
    let s = c.args.state.now in
    elim c.match-self.branch [
      | in-OrderSize w ↦ serves k s _ _ _ _ (sym (ap following_of w.in-OrderSize.is) ∙ c.self.view_is) w.left-is w.serve_step-left.ensures.served
      | in-OrderOnly w ↦ serves k s _ _ _ _ (sym (ap following_of w.in-OrderOnly.is) ∙ c.self.view_is) w.left-is w.serve_step-left-in-OrderOnly.ensures.served
      | in-Picolog w ↦ serves k s _ _ _ _ (sym (ap following_of w.in-Picolog.is) ∙ c.self.view_is) w.left-is w.serve_step-left-in-Picolog.ensures.served
      | in-Strata w ↦ serves k s _ _ _ _ (sym (ap following_of w.in-Strata.is) ∙ c.self.view_is) w.left-is w.serve_step-left-in-Strata.ensures.served
    ]
