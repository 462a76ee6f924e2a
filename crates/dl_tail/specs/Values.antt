-- A tail's parts, as the definitions have them.
use Rattle.spec_tail.specs.Tails.{Tail}
use Rattle.dl_tail.specs.declared.tail.TailParts.{TailParts}

abbrev pub value_of : TailParts → Tail
value_of p =
    record { base = p.base; threads = p.threads; memory = p.memory; request = p.request; last = p.last; log = p.log }
