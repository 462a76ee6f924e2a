use Rattle.std.proofs.Common.{◌≡◌, ◌≤◌, ℕ, List, length, sym, ◌∙◌, inl, inr, Some, None, slice_get, arith}
use Rattle.std.proofs.lemmas.List.{append_assoc}
use Rattle.std.proofs.lemmas.Option.{get_or_from_slice_get, slice_get_cases, slice_get_within}
use Rattle.dl_account.specs.States.{saved_line, thread_line, thread_lines}
use Rattle.dl_account.proofs.Numbered.{numbered_read}
use Rattle.dl_account.proofs.threads.put_threads.Goals as goal
use Rattle.dl_account.proofs.threads.put_threads.Goals.{in-Some+in_ok-put_thread+in_ok-put_saved, in_default}

is_past : {X : Type 0} (xs : List X) (i : ℕ) → slice_get xs i ≡ None → length xs ≤ i
is_past xs i none = elim (slice_get_cases xs i).1 [ inl there ↦ cc (there.2, none) | inr past ↦ past.0 ]

pub loop-number-preserved : goal.loop-number-preserved
loop-number-preserved c =
    let number = c.loop-number.number in
    let threads = c.args.threads.now in
    elim c.match-get.branch [
      | in-Some+in_ok-put_thread+in_ok-put_saved w ↦
          let there : slice_get threads number ≡ Some w.in-Some.thread.now = sym (rw w.in-Some.is at c.get.ensures) in
          rw (w.text-is, w.in_ok-put_saved.ensures, w.in_ok-put_thread.ensures, c.loop-number.invariant) (
          append_assoc _ (thread_line number w.in-Some.thread.now) (saved_line number w.in-Some.thread.now)
          ∙ numbered_read thread_lines _ threads number w.in-Some.thread.now (slice_get_within threads number _ there)
          (sym (get_or_from_slice_get threads number _ _ there))
          )
      | in_default w ↦
          let none : slice_get threads number ≡ None = sym (rw w.in_default.is at c.get.ensures) in
          let past : length threads ≤ number = is_past threads number none in
          absurd (omega arith)
    ]
