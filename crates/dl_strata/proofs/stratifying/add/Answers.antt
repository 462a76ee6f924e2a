use Rattle.std.proofs.Common.{◌≡◌, sym, subst}
use Rattle.dl_entry.specs.declared.Actor.{Actor}
use Rattle.dl_entry.specs.declared.CommitKind.{CommitKind}
use Rattle.spec_play.specs.Turns.{Turn}
use Rattle.spec_play.specs.Plays.{Played, play_turn}
use Rattle.spec_strata.specs.Making.{Cuts, actor_cut}
use Rattle.dl_strata.specs.Cutting.{HasCut}
use Rattle.dl_strata.proofs.Cuts.{on-ok}
use Rattle.dl_strata.proofs.stratifying.add.Goals as goal

pub returns-in-Thread-Chunk-clause-cut : goal.returns-in-Thread-Chunk-clause-cut
returns-in-Thread-Chunk-clause-cut c log y x next cut =
    let k = c.in-Thread-Chunk.thread in
    let n = c.args.cutter.now.counted in
    let a : c.args.commit.now.actor ≡ Actor.Thread k = c.in-Thread-Chunk.is-0 in
    let b : c.args.commit.now.kind ≡ CommitKind.Chunk = c.in-Thread-Chunk.is-1 in
    let step = next.chunk k a b in
    on-ok c.add_chunk.result _ _
    (λ h. subst (λ (z : Played). HasCut c.add_chunk.new.self z (actor_cut n log y c.args.commit.now.actor c.args.commit.now.kind x)) (sym step.1)
    (subst (λ (w : Cuts). HasCut c.add_chunk.new.self (play_turn log y (Turn k)) w) (sym (λ i. actor_cut n log y (a i) (b i) x)) h))
    (c.add_chunk.ensures.cut log y x step.0 cut)
