use Rattle.dl_logfmt.proofs.Written.{Gave-slice}
use Rattle.dl_logfmt.proofs.unit.Unit.give.Goals as goal

pub returns-clause-bytes : goal.returns-clause-bytes
returns-clause-bytes c =
    let first = c.fill-fixed.ensures in
    let second = c.fill-counted.ensures in
    (Gave-slice c.self.inside.taken c.self.inside.fixed c.self.inside.counted.now c.as_slice.ensures c.self.view_is
    (record { most = first.count; bytes = first.bytes }) (record { most = second.count; bytes = second.bytes })).bytes

pub returns-clause-left : goal.returns-clause-left
returns-clause-left c =
    let first = c.fill-fixed.ensures in
    let second = c.fill-counted.ensures in
    (Gave-slice c.self.inside.taken c.self.inside.fixed c.self.inside.counted.now c.as_slice.ensures c.self.view_is
    (record { most = first.count; bytes = first.bytes }) (record { most = second.count; bytes = second.bytes })).others
