use Rattle.std.proofs.Common.{◌≡◌, ℕ, ◌+◌, ◌<◌, List, [], length, take, Some, refl, ap, sym, ◌∙◌, subst, arith}
use Rattle.std.proofs.lemmas.List.{length-map, length-take-le}
use Rattle.dl_files.specs.Contents.{IsLast}
use Rattle.dl_files.specs.Count.{Rose}
use Rattle.dl_commands.specs.Jobs.{write_of, writes_of}
use Rattle.dl_commands.specs.declared.writing.NamedContent.{NamedContent}
use Rattle.dl_commands.specs.Stops.{ContentStops}
use Rattle.dl_commands.proofs.Failing.{none_failed, write_failed}
use Rattle.dl_commands.proofs.Storing.{cut_short, write_at, written_more, with_file_same, same_but_at}
use Rattle.dl_commands.proofs.written.write_all.Goals as goal

-- where a write is left, there are some
some_left : (xs : List NamedContent) (i : ℕ) → i < length xs → writes_of xs ≡ [] → ⊥
some_left xs i within none = omega (arith, within, length-map xs write_of, ap length none)

-- and the first of them, and one more, are some
one_more : (xs : List NamedContent) (i : ℕ) → i < length xs → take (i + 1) (writes_of xs) ≡ [] → ⊥
one_more xs i within none = omega (arith, ap length none, length-take-le (i + 1) (writes_of xs) (omega (arith, within, length-map xs write_of)))

pub returns-in-Err-Failed-clause-stop : goal.returns-in-Err-Failed-clause-stop
returns-in-Err-Failed-clause-stop g c =
    let within : c.loop-i.i < length c.args.writes.now = omega arith in
    let done = c.loop-i.invariant.written in
    let failed = subst (ContentStops _ _ (g.F.Files.seen c.loop-i.files) (g.F.Files.seen c.write_content.new.files)) c.in-Err-Failed.field-0-is c.in-Err-Failed.ensures.err in
    record {
      write = write_of c.index-writes-i.result;
      at = write_at c.args.writes.now c.loop-i.i c.index-writes-i.result within c.index-writes-i.is;
      counted = subst (λ (n : ℕ). Rose n (g.F.Files.seen c.write_content.new.files).faults) done.faults failed.counted;
      named = subst (IsLast (g.F.Files.seen c.write_content.new.files).last) c.as_str.ensures.value failed.named;
      known = λ m e. same_but_at _ _ _ _ _ c.as_str.ensures.value (done.known m e) failed.others;
      unread = failed.unread ∙ done.unread;
    }

pub loop-i-preserved : goal.loop-i-preserved
loop-i-preserved g c =
    let within : c.loop-i.i < length c.args.writes.now = omega arith in
    let done = c.loop-i.invariant.written in
    let wrote = c.in-Ok.ensures.written in
    record {
      written = record {
        known =
            λ m e.
            wrote.known
            ∙ with_file_same c.as_str.ensures.value refl (done.known m e)
            ∙ ap Some (sym (written_more c.args.writes.now c.loop-i.i c.index-writes-i.result m within c.index-writes-i.is));
        faults = wrote.faults ∙ done.faults;
        unread = wrote.unread ∙ done.unread;
        none = λ none. absurd (one_more c.args.writes.now c.loop-i.i within none);
      };
    }

pub returns-in-Err-OutOfMemory-clause-stop : goal.returns-in-Err-OutOfMemory-clause-stop
returns-in-Err-OutOfMemory-clause-stop g c =
    let within : c.loop-i.i < length c.args.writes.now = omega arith in
    let done = c.loop-i.invariant.written in
    let short = subst (ContentStops _ _ (g.F.Files.seen c.loop-i.files) (g.F.Files.seen c.write_content.new.files)) c.in-Err-OutOfMemory.field-0-is c.in-Err-OutOfMemory.ensures.err in
    record {
      known = λ m e. cut_short c.args.writes.now c.loop-i.i c.index-writes-i.result m _ _ _ within c.index-writes-i.is c.as_str.ensures.value (done.known m e) short;
      faults = short.faults ∙ done.faults;
      unread = short.unread ∙ done.unread;
      some = some_left c.args.writes.now c.loop-i.i within;
    }

-- ---- at most one fails

pub returns-in-Err-Failed-clause-once : goal.returns-in-Err-Failed-clause-once
returns-in-Err-Failed-clause-once g c =
    write_failed _ _ _ _ c.loop-i.invariant.written.faults
    (subst (ContentStops _ _ (g.F.Files.seen c.loop-i.files) (g.F.Files.seen c.write_content.new.files)) c.in-Err-Failed.field-0-is c.in-Err-Failed.ensures.err)

pub returns-in-Err-OutOfMemory-clause-once : goal.returns-in-Err-OutOfMemory-clause-once
returns-in-Err-OutOfMemory-clause-once g c =
    let short = subst (ContentStops _ _ (g.F.Files.seen c.loop-i.files) (g.F.Files.seen c.write_content.new.files)) c.in-Err-OutOfMemory.field-0-is c.in-Err-OutOfMemory.ensures.err in
    none_failed _ _ (short.faults ∙ c.loop-i.invariant.written.faults)

pub returns-clause-once : goal.returns-clause-once
returns-clause-once g c = none_failed _ _ c.loop-i.invariant.written.faults
