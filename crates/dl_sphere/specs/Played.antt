-- A replay in some mode.
use Rattle.dl_replay.specs.Following.{Following}
use Rattle.dl_sphere.specs.declared.player.Players.{Players}

abbrev pub following_of : Players → Following
following_of (Players.OrderSize r) = r
following_of (Players.OrderOnly r) = r
following_of (Players.Picolog r) = r
following_of (Players.Strata r) = r
