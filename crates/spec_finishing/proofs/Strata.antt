-- What a replay in strata has left: each stratum costs what its commits work, and each commit takes its part off.
pub mod Costing
pub mod Tasks
pub mod GoingOn
