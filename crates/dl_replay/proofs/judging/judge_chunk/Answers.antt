use Rattle.std.proofs.Common.{◌≡◌, Option, Some, None, ap, sym, ◌∙◌}
use Rattle.dl_entry.specs.declared.actor.Actor.{Actor}
use Rattle.dl_entry.specs.declared.end.Why.{Why}
use Rattle.spec_log.specs.Size.{size_in}
use Rattle.spec_play.specs.Effects.{counted, chunk_effect}
use Rattle.spec_play.specs.Verdicts.{chunk_why}
use Rattle.dl_replay.proofs.Verdicts.{chunk-is}
use Rattle.dl_replay.proofs.judging.judge_chunk.Goals as goal

pub returns-in-Some-clause-verdict : goal.returns-in-Some-clause-verdict
returns-in-Some-clause-verdict g c p r h l =
    let why : Some c.in-Some.why ≡ chunk_why (size_in c.args.log.now.log (Actor.Thread c.args.number) c.args.thread.now.commits) c.args.total = cc in
    sym (chunk-is c.args.log.now.log p c.args.used c.args.number r c.args.thread.now c.args.total (Some c.in-Some.why) h l why)

pub returns-in-None-clause-verdict : goal.returns-in-None-clause-verdict
returns-in-None-clause-verdict g c p r h l =
    let none : Option Why = None in
    let why : none ≡ chunk_why (size_in c.args.log.now.log (Actor.Thread c.args.number) c.args.thread.now.commits) c.args.total = cc in
    c.ended.ensures.verdict (chunk_effect c.args.number p.request r) (ap counted h ∙ sym c.counted.ensures)
    ∙ sym (chunk-is c.args.log.now.log p c.args.used c.args.number r c.args.thread.now c.args.total None h l why)
