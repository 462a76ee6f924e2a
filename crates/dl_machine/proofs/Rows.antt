-- One core or sphere is seen in its row as it is, and a change of it leaves the rest of the row.
pub mod Cores
pub mod Spheres
pub mod FirstCores
