use Rattle.std.proofs.Common.{arith}
use Rattle.std.proofs.lemmas.List.Elements.{All-drop, All-take}
use Rattle.std.proofs.lemmas.List.{length-take, length-drop}
use Rattle.spec_log.specs.Log.{IsActor}
use Rattle.spec_log.specs.Versions.{new_threads}
use Rattle.dl_logfmt.proofs.order_left.OrderLeft.begin.Goals as goal

pub invariant_of-self-in-1-this-2 : goal.invariant_of-self-in-1-this-2
invariant_of-self-in-1-this-2 c =
    (simp (length-take, length-drop) (omega arith), All-take (IsActor (new_threads c.self.inside.version)) _ _ (All-drop (IsActor (new_threads c.self.inside.version)) 2 _ c.self.invariant.1))

pub invariant_of-self-in_default-len1-up : goal.invariant_of-self-in_default-len1-up
invariant_of-self-in_default-len1-up c =
    (simp (length-take, length-drop) (omega arith), All-take (IsActor (new_threads c.self.inside.version)) _ _ (All-drop (IsActor (new_threads c.self.inside.version)) 1 _ c.self.invariant.1))
