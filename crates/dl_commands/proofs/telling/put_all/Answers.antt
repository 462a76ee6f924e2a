use Rattle.std.proofs.Common.{ℕ, List, length, ap, ◌∙◌, arith, length-drop}
use Rattle.std.proofs.lemmas.List.{take_rest}
use Rattle.dl_files.specs.Taken.{with_taken}
use Rattle.dl_commands.proofs.Putting.{with_taken_more}
use Rattle.dl_commands.proofs.telling.put_all.Goals as goal

pub loop-done-preserved : goal.loop-done-preserved
loop-done-preserved g c = record {
  within = omega (arith, c.in-Ok.ensures.within, ap length (take_rest c.args.text.now c.loop-done.done), length-drop c.loop-done.done c.args.text.now);
  taken =
      c.in-Ok.ensures.took ∙ ap (λ (piece : List ℕ). with_taken c.in-Ok.n piece (g.O.Sink.taken c.loop-done.out)) (take_rest c.args.text.now c.loop-done.done)
      ∙ ap (with_taken c.in-Ok.n _) c.loop-done.invariant.taken
      ∙ with_taken_more c.in-Ok.n c.loop-done.done c.args.text.now (g.O.Sink.taken c.args.out.now);
  steady = c.in-Ok.ensures.ok_steady ∙ c.loop-done.invariant.steady;
}
