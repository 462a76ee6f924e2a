-- Each return, by the rules that are kept until then.
use Rattle.std.proofs.Common.{length, ap, ◌∙◌}
use Rattle.std.proofs.lemmas.List.FromFn.{length-map-range_with_len}
use Rattle.dl_elf.specs.Loading.{byte_at}
use Rattle.dl_elf.proofs.Keeping.{late_rule, keeps_there}
use Rattle.dl_elf.proofs.loading.load.Goals as goal

pub returns-in_default : goal.returns-in_default
returns-in_default c = λ rule refused. late_rule c.args.bytes.now c.args.size rule c.in-Ok.ensures.0 refused

pub returns-in-Err-broken_rule : goal.returns-in-Err-broken_rule
returns-in-Err-broken_rule c = λ rule refused. late_rule c.args.bytes.now c.args.size rule c.in-Ok.ensures.0 refused

pub memory-requires-clause-memory : goal.memory-requires-clause-memory
memory-requires-clause-memory c =
    (keeps_there c.args.bytes.now c.args.size c.in-Ok.header.entry _ _ _ _ c.in-Ok-None.field-0-is c.in-Ok-None.ensures c.deref.ensures.value c.deref-2.ensures.value).in_memory

pub memory-requires-clause-apart : goal.memory-requires-clause-apart
memory-requires-clause-apart c =
    (keeps_there c.args.bytes.now c.args.size c.in-Ok.header.entry _ _ _ _ c.in-Ok-None.field-0-is c.in-Ok-None.ensures c.deref.ensures.value c.deref-2.ensures.value).apart

pub from_parts-requires : goal.from_parts-requires
from_parts-requires c =
    let k = keeps_there c.args.bytes.now c.args.size c.in-Ok.header.entry _ _ _ _ c.in-Ok-None.field-0-is c.in-Ok-None.ensures c.deref.ensures.value c.deref-2.ensures.value in
    record {
      size = c.requires;
      whole = ap length c.in-Ok-memory.ensures ∙ length-map-range_with_len (byte_at c.args.bytes.now c.deref-2.result.now) 0 c.args.size;
      aligned = k.aligned;
      inside = k.inside;
    }
