-- The report: the serialisation points, the replies that were given, and the summary.
use Rattle.std.specs.Prelude.{ℕ, List, [], ◌∷◌, ◌++◌, codes, decimal, flat_map}
use Rattle.dl_entry.specs.declared.commit.CommitKind.{CommitKind}
use Rattle.dl_entry.specs.declared.commit.CommitKind.TheVariants.{Chunk, Serial, Dma, Piece}
use Rattle.dl_entry.specs.declared.counts.Counts.{Counts}
use Rattle.dl_entry.specs.declared.end.SphereLine.{SphereLine}
use Rattle.dl_entry.specs.declared.point.Point.{Point}
use Rattle.dl_entry.specs.declared.point.Point.TheVariants.{Commit, Raise}
use Rattle.dl_entry.specs.Actor.{code}
use Rattle.dl_account.specs.Lines.{hex_word, line}
use Rattle.dl_account.specs.Replies.{reply_lines}
use Rattle.dl_account.specs.Summary.{summary_of}

-- what was committed
abbrev pub kind_word : CommitKind → List ℕ
kind_word Chunk = codes "chunk"
kind_word Serial = codes "serial"
kind_word Dma = codes "dma"
kind_word Piece = codes "piece"

-- `g MOMENT SPHERE ACTOR KIND SIZE`, or `g MOMENT SPHERE THREAD raise VALUE`
abbrev pub point_fields : Point → List (List ℕ)
point_fields (Commit moment sphere actor kind size short) =
    decimal moment ∷ decimal sphere ∷ decimal (code actor) ∷ kind_word kind ∷ decimal size ∷ []
point_fields (Raise moment sphere thread value) =
    decimal moment ∷ decimal sphere ∷ decimal thread ∷ codes "raise" ∷ hex_word value ∷ []

abbrev pub point_line : Point → List ℕ
point_line point = line (codes "g") (point_fields point)

-- the points in order, the replies, and the summary
abbrev pub report_of : List Point → Counts → List SphereLine → List ℕ
report_of points counts spheres = flat_map point_line points ++ reply_lines counts ++ summary_of counts spheres
