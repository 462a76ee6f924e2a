use Rattle.std.proofs.Common.{◌≡◌, ◌<◌, ◌≤◌, Ok, length, rules, arith}
use Rattle.std.proofs.lemmas.List.Elements.{All-from_get_or}
use Rattle.spec_log.specs.Fields.{all_of}
use Rattle.spec_tail.specs.Reading.{stages, blank}
use Rattle.dl_tail.proofs.TailLaws.{rows-read, tail-read, whole-read}
use Rattle.dl_tail.proofs.reading.read_tail.Goals as goal

pub tail_of-requires-clause-tail : goal.tail_of-requires-clause-tail
tail_of-requires-clause-tail c =
    tail-read c.args.bytes.now c.read_stages.new.draft c.read_stages.new.at (search rules)
    (All-from_get_or (λ byte. byte < 256) c.args.bytes.now 0 (λ i h. (c.type_inv.bytes i).fits))

pub tail_of-requires-clause-rows : goal.tail_of-requires-clause-rows
tail_of-requires-clause-rows c =
    rows-read c.args.bytes.now c.read_stages.new.draft c.read_stages.new.at (search rules)
    (All-from_get_or (λ byte. byte < 256) c.args.bytes.now 0 (λ i h. (c.type_inv.bytes i).fits))

pub returns : goal.returns
returns c =
    let e : all_of stages blank c.args.bytes.now 0 ≡ Ok (record { value = c.read_stages.new.draft; after = c.read_stages.new.at }) = search rules in
    let all : length c.args.bytes.now ≤ c.read_stages.new.at = first_of (omega arith, search rules, grind arith) in
    let w = whole-read c.args.bytes.now c.read_stages.new.draft c.read_stages.new.at e all in
    first_of (cc, grind (arith, w))
