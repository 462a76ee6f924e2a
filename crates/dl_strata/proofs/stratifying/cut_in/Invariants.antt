use Rattle.std.proofs.Common.{◌≡◌, ◌*◌, ◌≤◌, length, drop}
use Rattle.spec_play.specs.Plays.{opened, plays}
use Rattle.spec_strata.specs.Making.{Cuts, cut_on, no_cuts}
use Rattle.spec_strata.proofs.Images.Following.{Follows}
use Rattle.dl_strata.specs.Cutting.{HasCut}
use Rattle.dl_strata.proofs.stratifying.cut_in.Given as goal

abbrev pub invariant-loop-commit : goal.invariant-loop-commit
invariant-loop-commit g l = record {
  log : l.player.log ≡ l.fn.log;
  follows : Follows l.fn.log l.player.played (drop l.commit-index l.fn.commits);
  most : length (plays l.fn.log l.player.played (length (drop l.commit-index l.fn.commits))).threads ≤ l.fn.counted;
  counted : l.cutter.counted ≡ l.fn.counted;
  words : 4 * length l.cutter.table.touches ≡ length l.player.played.memory;
  strata : l.cutter.table.stratum ≤ l.commit-index;
  cut : (x : Cuts) × (HasCut l.cutter l.player.played x
      × (cut_on l.fn.counted l.fn.log l.player.played (drop l.commit-index l.fn.commits) x
      ≡ cut_on l.fn.counted l.fn.log (opened l.fn.log l.fn.image.bytes l.fn.image.entry) l.fn.commits no_cuts));
}
