-- The lines of a commit: itself, its loads and its outputs.
use Rattle.std.specs.Prelude.{ℕ, nat_eq, if◌then◌else◌, List, [], ◌∷◌, ◌++◌, length, codes, decimal, flat_map}
use Rattle.dl_entry.specs.declared.commit.Commit.{Commit}
use Rattle.dl_entry.specs.declared.commit.Load.{Load}
use Rattle.dl_entry.specs.declared.commit.Output.{Output}
use Rattle.dl_entry.specs.Actor.{code}
use Rattle.dl_account.specs.Lines.{hex_bytes, hex_word, line}

-- `l ADDR VALUE`
abbrev pub load_line : Load → List ℕ
load_line load = line (codes "l") (hex_word load.address ∷ hex_word load.value ∷ [])

-- `o CHANNEL HEX`; an output of no bytes has no line
abbrev pub output_line : Output → List ℕ
output_line output =
    if nat_eq (length output.bytes) 0 then [] else line (codes "o") (decimal output.channel ∷ hex_bytes output.bytes ∷ [])

-- `c I ACTOR SIZE`, then its loads, then its outputs
abbrev pub commit_lines : ℕ → Commit → List ℕ
commit_lines index commit =
    line (codes "c") (decimal index ∷ decimal (code commit.actor) ∷ decimal commit.size ∷ [])
    ++ flat_map load_line commit.loads
    ++ flat_map output_line commit.outputs
