-- Points done one at a time leave what the machine leaves: its spheres, its logs and its console.
pub mod Counts
pub mod Serial
pub mod OneByOne
pub mod Logs
pub mod Console
pub mod Rising
