use Rattle.std.proofs.Common.{◌≡◌, ◌<◌, ◌++◌, ◌∙◌, take, drop, ap, sym, subst, length, length-append, arith}
use Rattle.std.proofs.lemmas.List.{take_at}
use Rattle.std.proofs.lemmas.List.Elements.{All-append, All-from_get_or}
use Rattle.std.proofs.lemmas.Grind.{common_steps}
use Rattle.dl_logfmt.specs.Parsing.{cut}
use Rattle.dl_logfmt.specs.Feeding.{HasFed}
use Rattle.dl_logfmt.proofs.Parsing.{cut-grew}
use Rattle.dl_logfmt.proofs.Feeding.Pieces.{holding, fed-on, fed-refused, held-fed, refused-fed, start-low}
use Rattle.dl_logfmt.proofs.reader.LogReader.feed.Goals as goal

pub invariant_of-self-in-Ok : goal.invariant_of-self-in-Ok
invariant_of-self-in-Ok c =
    let (bytes, are, fed) = c.self.invariant in
    let all : c.deref.result.now ≡ c.self.inside.pending.items ++ c.args.piece.now = grind (arith, common_steps) in
    let left : c.drop_front.new.bytes.items ≡ drop c.feed.new.at c.deref.result.now = c.drop_front.ensures.rest ∙ cc in (
      bytes ++ c.args.piece.now,
      All-append (λ byte. byte < 256) bytes c.args.piece.now are (All-from_get_or (λ byte. byte < 256) c.args.piece.now 0 (λ i h. (c.type_inv.piece i).fits)),
      fed-on bytes c.args.piece.now c.deref.result.now _ _ c.feed.new.self c.feed.new.at c.in_default.is fed all left c.in-Ok.ensures.reads,
    )

pub invariant_of-self-in-Err-Malformed : goal.invariant_of-self-in-Err-Malformed
invariant_of-self-in-Err-Malformed c =
    let (bytes, are, fed) = c.self.invariant in
    let all : c.deref.result.now ≡ c.self.inside.pending.items ++ c.args.piece.now = grind (arith, common_steps) in
    let reads = rw c.in-Err-Malformed.field-0-is at c.in-Err-Malformed.ensures.reads in (
      bytes ++ c.args.piece.now,
      All-append (λ byte. byte < 256) bytes c.args.piece.now are (All-from_get_or (λ byte. byte < 256) c.args.piece.now 0 (λ i h. (c.type_inv.piece i).fits)),
      fed-refused bytes c.args.piece.now c.deref.result.now _ c.feed.new.self c.feed.new.at c.in-Err-Malformed.fault c.in_default.is fed all reads,
    )

pub invariant_of-self-in-Err-OutOfMemory : goal.invariant_of-self-in-Err-OutOfMemory
invariant_of-self-in-Err-OutOfMemory c =
    let back : c.cut.new.self ≡ c.self.inside.parser =
    c.cut.ensures ∙ (ap (λ m. cut m c.feed.new.self) c.mark-mark.ensures ∙ cut-grew c.self.inside.parser c.feed.new.self c.feed.ensures.grown) in
    let all : c.extend_from_slice.new.self.items ≡ c.self.inside.pending.items ++ c.args.piece.now = grind (arith, common_steps) in
    let held : length c.self.inside.pending.items ≡ c.len-held.result = omega arith in
    let items : c.truncate.new.self.items ≡ c.self.inside.pending.items =
    c.truncate.ensures.items ∙ (ap (take c.len-held.result) all ∙ take_at c.self.inside.pending.items c.args.piece.now c.len-held.result held) in
    rw (back, items) c.self.invariant

pub returns-in-Ok-clause-answer : goal.returns-in-Ok-clause-answer
returns-in-Ok-clause-answer c bytes fed =
    let inside = subst (HasFed bytes) (sym c.self.view_is) fed in
    let all : c.deref.result.now ≡ c.self.inside.pending.items ++ c.args.piece.now = grind (arith, common_steps) in
    let left : c.drop_front.new.bytes.items ≡ drop c.feed.new.at c.deref.result.now = c.drop_front.ensures.rest ∙ cc in
    let held = fed-on bytes c.args.piece.now c.deref.result.now c.drop_front.new.bytes.items _ c.feed.new.self c.feed.new.at c.in_default.is inside all left c.in-Ok.ensures.reads in
    held-fed (bytes ++ c.args.piece.now) _ (holding (bytes ++ c.args.piece.now) _ c.in_default.is held)

pub returns-in-Ok-clause-fed : goal.returns-in-Ok-clause-fed
returns-in-Ok-clause-fed c bytes fed some =
    let inside = subst (HasFed bytes) (sym c.self.view_is) fed in
    let all : c.deref.result.now ≡ c.self.inside.pending.items ++ c.args.piece.now = grind (arith, common_steps) in
    let left : c.drop_front.new.bytes.items ≡ drop c.feed.new.at c.deref.result.now = c.drop_front.ensures.rest ∙ cc in
    fed-on bytes c.args.piece.now c.deref.result.now _ _ c.feed.new.self c.feed.new.at c.in_default.is inside all left c.in-Ok.ensures.reads

pub returns-in-Err-Malformed-clause-answer : goal.returns-in-Err-Malformed-clause-answer
returns-in-Err-Malformed-clause-answer c bytes fed =
    let inside = subst (HasFed bytes) (sym c.self.view_is) fed in
    let all : c.deref.result.now ≡ c.self.inside.pending.items ++ c.args.piece.now = grind (arith, common_steps) in
    let reads = rw c.in-Err-Malformed.field-0-is at c.in-Err-Malformed.ensures.reads in
    refused-fed (bytes ++ c.args.piece.now) _
    (fed-refused bytes c.args.piece.now c.deref.result.now _ c.feed.new.self c.feed.new.at c.in-Err-Malformed.fault c.in_default.is inside all reads)

pub returns-in-Err-Malformed-clause-fed : goal.returns-in-Err-Malformed-clause-fed
returns-in-Err-Malformed-clause-fed c bytes fed some =
    let inside = subst (HasFed bytes) (sym c.self.view_is) fed in
    let all : c.deref.result.now ≡ c.self.inside.pending.items ++ c.args.piece.now = grind (arith, common_steps) in
    let reads = rw c.in-Err-Malformed.field-0-is at c.in-Err-Malformed.ensures.reads in
    fed-refused bytes c.args.piece.now c.deref.result.now _ c.feed.new.self c.feed.new.at c.in-Err-Malformed.fault c.in_default.is inside all reads

pub returns-in-Ok-clause-few : goal.returns-in-Ok-clause-few
returns-in-Ok-clause-few c bytes fed =
    let inside = subst (HasFed bytes) (sym c.self.view_is) fed in
    let all : c.deref.result.now ≡ c.self.inside.pending.items ++ c.args.piece.now = grind (arith, common_steps) in
    let left : c.drop_front.new.bytes.items ≡ drop c.feed.new.at c.deref.result.now = c.drop_front.ensures.rest ∙ cc in
    let held = fed-on bytes c.args.piece.now c.deref.result.now c.drop_front.new.bytes.items _ c.feed.new.self c.feed.new.at c.in_default.is inside all left c.in-Ok.ensures.reads in
    let h = holding (bytes ++ c.args.piece.now) _ c.in_default.is held in
    let low = start-low (bytes ++ c.args.piece.now) _ h in
    omega (arith, low, c.drop_front.ensures.few, ap length h.split, length-append h.used c.drop_front.new.bytes.items, h.start)
