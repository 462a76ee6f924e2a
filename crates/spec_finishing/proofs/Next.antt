-- The next event of finishing is done, and reduces what is left.
pub mod Flights
pub mod Turns
pub mod UnderWay
pub mod StepRises
pub mod Cores
pub mod Commits
pub mod Events
pub mod All
pub mod Again
