use Rattle.std.proofs.Common.{ℕ, List, subst}
use Rattle.std.specs.Array.{IsFirstChunk}
use Rattle.std.proofs.lemmas.List.{take_rest}
use Rattle.dl_event.proofs.Alike.{eight_are}
use Rattle.dl_event.proofs.script.eight_at.Goals as goal

pub returns : goal.returns
returns c =
    let first = subst (λ (xs : List ℕ). IsFirstChunk xs c.in_ok-bytes.bytes.now 8) (take_rest c.args.text.now c.args.at) c.in_ok-bytes.ensures.cases in
    eight_are c.args.text.now c.in_ok-bytes.bytes.now c.args.at c.from_le_bytes.result
    (λ i l. (c.type_inv.text i).fits) c.requires first c.from_le_bytes.ensures
