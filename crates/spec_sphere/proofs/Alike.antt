-- What a recording in epochs has of earlier commits makes no difference to its sphere.
pub mod Forgetting
pub mod Beginning
pub mod Sound
pub mod Shown
