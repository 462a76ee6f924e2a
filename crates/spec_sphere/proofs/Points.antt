-- What points tell of one sphere: its log and what it puts on the console.
pub mod OneMore
pub mod Noted
pub mod KeptLogs
pub mod Outputs
pub mod Rising
pub mod Kept
