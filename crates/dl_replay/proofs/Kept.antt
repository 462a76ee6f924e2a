-- The lists of a log are those that its mode can keep.
use Rattle.std.proofs.Common.{◌≡◌, sym, subst}
use Rattle.dl_entry.specs.Numbers.{most_threads}
use Rattle.spec_log.specs.declared.mode_name.ModeName.{ModeName}
use Rattle.spec_log.specs.declared.log.LogParts.{LogParts}
use Rattle.spec_log.specs.Log.{IsLog, IsOrder, IsSizes}
use Rattle.spec_log.proofs.Threads.{log-among}
use Rattle.dl_mode.specs.declared.lists.Lists.{Lists}
use Rattle.dl_mode.specs.Lists.{AreLists}
use Rattle.dl_replay.specs.Lists.{lists_in}

-- the lists taken from a log are lists of its mode, in the ranges of a log
pub lists-are : (mode : ModeName) (log : LogParts) (lists : Lists) → IsLog log → log.mode ≡ mode → lists ≡ lists_in log → AreLists mode lists
lists-are mode log lists is named same =
    let among = log-among log is in
    subst (AreLists mode) (sym same)
    (record {
      is_mode = named;
      least = among.least;
      most = among.most;
      count = is.count;
      order = subst (λ (m : ModeName). IsOrder m most_threads log.count log.order) named among.order;
      sizes = subst (λ (m : ModeName). IsSizes m most_threads log.s log.count log.sizes) named among.sizes;
    })
