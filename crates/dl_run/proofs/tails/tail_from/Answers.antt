use Rattle.std.proofs.Common.{◌≡◌, ℕ, ◌^◌, ◌<◌, List, All, ap, sym, subst}
use Rattle.spec_isa.specs.declared.thread.Parts.{Parts}
use Rattle.spec_run.specs.Promise.{HasWords, IsCode}
use Rattle.spec_tail.specs.Tails.{Tail, IsTail, words_of}
use Rattle.dl_run.specs.Tails.{AreWords}
use Rattle.dl_run.proofs.Words.{all-so, bytes-so}
use Rattle.dl_run.proofs.tails.tail_from.Goals as goal

pub new-requires : goal.new-requires
new-requires c =
    let parts = c.in_ok-parts_of.ensures.parts in
    let memory = c.in_ok-bytes_of.ensures.bytes in
    let words = c.in_ok-parts_of.ensures.words in
    let bytes = c.in_ok-bytes_of.ensures.memory in
    let made : Tail =
    record {
      base = c.args.base;
      threads = c.in_ok-parts_of.field-0;
      memory = c.in_ok-bytes_of.field-0;
      request = c.args.state.now.request;
      last = c.args.state.now.last;
      log = c.args.log;
    } in
    let has : HasWords made =
    record {
      words = all-so AreWords (λ (p : Parts). All (λ word. word < 2 ^ 32) (words_of p)) made.threads (λ p w. w.words) words;
      codes = all-so AreWords (λ (p : Parts). IsCode p.status) made.threads (λ p w. w.code) words;
      bytes = bytes-so made.memory bytes.bytes.each;
    } in
    subst (λ (t : Tail). HasWords t → IsTail t) (λ j. record made { threads = sym parts j; memory = sym memory j }) (λ words. c.requires words c.parts.ensures.good) has
