-- What a program's file is loaded to: the memory's size, where the first thread starts, and every byte of the memory.
use Rattle.std.specs.Prelude.{◌≡◌, ℕ, ◌^◌, ◌%◌, ◌<◌, ◌≤◌, List, length}

-- the sizes of a memory: whole pages of 4,096 bytes, from one to 4,096 of them
pub record IsSize (size : ℕ) : Type 0 where
  pub pages : size % 4096 ≡ 0
  pub least : 4096 ≤ size
  pub most : size ≤ 2 ^ 24

pub record Image : Type 0 where
  pub size : ℕ
  pub entry : ℕ
  pub bytes : List ℕ

-- what is true of every image: it fills its memory, and its entry is the address of a word inside
pub record IsImage (image : Image) : Type 0 where
  pub size : IsSize image.size
  pub whole : length image.bytes ≡ image.size
  pub aligned : image.entry % 4 ≡ 0
  pub inside : image.entry < image.size
