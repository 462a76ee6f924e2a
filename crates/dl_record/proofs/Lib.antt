mod Beginning
mod ByThread
mod Cut
mod Inserted
mod Recordings
