-- How often each reply was given.
use Rattle.std.specs.Prelude.{ℕ, ◌+◌, slice_index, slice_set, replicate}
use Rattle.dl_entry.specs.declared.counts.Counts.{Counts}
use Rattle.dl_entry.specs.declared.reply_name.ReplyName.{ReplyName}
use Rattle.dl_entry.specs.ReplyName.{place}

-- no event, and no reply of any of the 33 names
abbrev pub no_counts : Counts
no_counts = record { events = 0; replies = replicate 33 0 }

-- how often a reply of this name was given
abbrev pub count_of : Counts → ReplyName → ℕ
count_of counts name = slice_index counts.replies (place name)

-- an event more, answered by this name
abbrev pub counted : Counts → ReplyName → Counts
counted counts name =
    record {
      events = counts.events + 1;
      replies = slice_set counts.replies (place name) (count_of counts name + 1);
    }
