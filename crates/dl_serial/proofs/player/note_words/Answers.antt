use Rattle.std.proofs.Common.{◌≡◌, ℕ, ◌/◌, Bool, ◌||◌, List, [], ◌∷◌, ◌++◌, Vec, Global, refl, sym, ap, ◌∙◌, arith}
use Rattle.std.specs.Prelude.{nat_eq}
use Rattle.spec_isa.specs.Words.{Stored}
use Rattle.spec_isa.specs.Masks.{bytes_of}
use Rattle.dl_serial.specs.Looks.{has}
use Rattle.dl_serial.proofs.Buffered.{is_there}
use Rattle.dl_serial.proofs.Looks.{has-push, holds-more}
use Rattle.dl_serial.proofs.player.note_words.Goals as goal
use Rattle.dl_serial.proofs.player.note_words.Goals.{in-Some+in_ok-push, in_default}

number-of : (word mask value : ℕ) → word / 4 ≡ (bytes_of (word / 4) mask value).number
unfolding bytes_of
number-of word mask value = refl

pub loop-i-preserved : goal.loop-i-preserved
loop-i-preserved c a =
    let ws = c.args.words.now.words in
    elim c.match-nth.branch [
      | in-Some+in_ok-push w ↦
          ap (λ (v : Vec ℕ Global). has v.items a) w.numbers-is ∙ ap (λ (xs : List ℕ). has xs a) w.in_ok-push.ensures.items
          ∙ ap (λ (n : ℕ). has (c.loop-i.numbers.items ++ n ∷ []) a) (number-of w.stored.inside.word w.stored.inside.mask w.stored.inside.value ∙ ap (λ (s : Stored). s.number) w.stored.view_is)
          ∙ has-push c.loop-i.numbers.items w.in-Some.stored.number a
          ∙ ap (λ (b : Bool). b || nat_eq w.in-Some.stored.number a) (c.loop-i.invariant a)
          ∙ sym (holds-more ws c.loop-i.i w.in-Some.stored a (sym w.in-Some.ensures.value))
      | in_default w ↦ absurd (is_there ws c.loop-i.i (omega (arith, c.loop-i-test.true, c.len-i-end.ensures.value)) (sym w.in_default.ensures.value))
    ]
