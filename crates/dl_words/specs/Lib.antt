pub mod Numbers
pub mod Apps
pub mod Commands
