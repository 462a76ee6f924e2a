-- A new word is taken if there is room, and one that is there always.
use Rattle.std.proofs.Common.{◌≡◌, ◌/◌, ◌||◌, true, false, Bool, length, nat_lt, refl, sym, ap, ◌∙◌, rules}
use Rattle.std.specs.Option.{is_some}
use Rattle.std.proofs.lemmas.Bool.{lt-ltb, or_right}
use Rattle.spec_isa.specs.Words.{holds}
use Rattle.dl_wbuf.proofs.Places.{holds-place}
use Rattle.dl_wbuf.proofs.buffer.Buffer.has_room.Goals as goal

or_false : (b : Bool) → (b || false) ≡ b
or_false true = refl
or_false false = refl

pub returns-then-len-self : goal.returns-then-len-self
returns-then-len-self c =
    let room : nat_lt (length c.self.inside.words.items) c.self.inside.capacity ≡ true = search rules in
    rw (← c.self.view_is) (lt-ltb _ _ c.if-len-self.true ∙ sym (or_right (holds c.self.inside.words.items (c.args.word / 4)) _ room))

pub returns-else-len-self : goal.returns-else-len-self
returns-else-len-self c =
    let words = c.args.self.now.words in
    let full : nat_lt (length c.self.inside.words.items) c.self.inside.capacity ≡ false = search rules in
    let stands : c.is_some.result ≡ holds words (c.args.word / 4) = c.is_some.ensures ∙ ap is_some c.place.ensures.value ∙ sym (holds-place words (c.args.word / 4)) in
    rw (← c.self.view_is, full) (rw (← c.self.view_is) at stands ∙ sym (or_false _))
