use Rattle.std.proofs.Common.{◌≡◌, ◌*◌, ◌/◌, sym, ap, ◌∙◌, arith}
use Rattle.spec_isa.specs.Words.{Stored, lay, read}
use Rattle.spec_isa.specs.Masks.{word_over}
use Rattle.dl_serial.proofs.Laying.{alone_shown}
use Rattle.dl_serial.proofs.storing.store_of.Goals as goal

pub word-requires-clause-aligned : goal.word-requires-clause-aligned
word-requires-clause-aligned c =
    let address : c.stored.inside.word ≡ 4 * c.args.stored.number = sym c.stored.invariant.place ∙ ap (λ (s : Stored). 4 * s.number) c.stored.view_is in
    omega (arith, address)

pub word-requires-clause-inside : goal.word-requires-clause-inside
word-requires-clause-inside c =
    let address : c.stored.inside.word ≡ 4 * c.args.stored.number = sym c.stored.invariant.place ∙ ap (λ (s : Stored). 4 * s.number) c.stored.view_is in
    omega (arith, address, c.requires)

pub returns-clause-store : goal.returns-clause-store
returns-clause-store c =
    let address = c.stored.inside.word in
    let s = c.args.stored in
    let m = c.args.memory.now in
    let at : address ≡ 4 * s.number = sym c.stored.invariant.place ∙ ap (λ (q : Stored). 4 * q.number) c.stored.view_is in
    let number : address / 4 ≡ s.number = omega (arith, at) in
    let value : c.over.result ≡ read (lay m s) s.number =
    c.over.ensures ∙ ap (word_over s) (c.word.ensures.value ∙ ap (read m) number)
    ∙ sym (alone_shown m s c.word.ensures.memory.bytes (omega (arith, c.requires)))
    in
    λ i. record { commit = c.args.by.commit; actor = c.args.by.actor; address = at i; value = value i }

pub returns-clause-bytes : goal.returns-clause-bytes
returns-clause-bytes c = c.word.ensures.memory.bytes
