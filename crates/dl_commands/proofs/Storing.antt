-- Writes that are done one after another leave what all of them leave, and where memory ran out the first of them.
use Rattle.std.proofs.Common.{◌≡◌, ℕ, zero, suc, ◌+◌, ◌<◌, List, [], ◌∷◌, length, take, get_or, slice_get, Option, Some, inl, inr, sym, ◌∙◌, ap, subst, arith, add-one}
use Rattle.std.specs.Prelude.{string_bytes}
use Rattle.std.specs.FinMap.{insert}
use Rattle.std.specs.Option.{option_map}
use Rattle.std.proofs.lemmas.List.{length-map}
use Rattle.std.proofs.lemmas.Option.{slice_get-map}
use Rattle.dl_files.specs.Contents.{Contents, with_file, SameBut}
use Rattle.dl_files.specs.Seen.{Seen}
use Rattle.spec_program.specs.Ends.{IsBegun, Partly}
use Rattle.spec_program.specs.Writes.{Write, written}
use Rattle.dl_commands.specs.declared.writing.NamedContent.{NamedContent}
use Rattle.dl_commands.specs.Jobs.{bytes_in, write_of, writes_of}
use Rattle.dl_commands.specs.Stops.{IsCutShort}

slice_get_at : (xs : List NamedContent) (i : ℕ) (x : NamedContent) → i < length xs → x ≡ get_or xs i x → slice_get xs i ≡ Some x
slice_get_at [] i x h e = absurd (omega arith)
slice_get_at (y ∷ xs) zero x h e = ap Some (sym e)
slice_get_at (y ∷ xs) (suc i) x h e = slice_get_at xs i x (omega arith) e

-- the i-th of the writes is what the i-th file takes
pub write_at : (xs : List NamedContent) (i : ℕ) (x : NamedContent) → i < length xs → x ≡ get_or xs i x → slice_get (writes_of xs) i ≡ Some (write_of x)
write_at xs i x h e = slice_get-map write_of xs i ∙ ap (option_map write_of) (slice_get_at xs i x h e)

next_written : (ws : List Write) (i : ℕ) (w : Write) (m : Contents) → slice_get ws i ≡ Some w → written (take (suc i) ws) m ≡ insert (written (take i ws) m) w.name w.bytes
next_written [] i w m e = cc
next_written (v ∷ ws) zero w m e = let h : v ≡ w = cc in ap (λ (u : Write). insert m u.name u.bytes) h
next_written (v ∷ ws) (suc i) w m e = next_written ws i w (insert m v.name v.bytes) e

-- with one write more, the files are what they were before it, with that file put in
pub written_more : (xs : List NamedContent) (i : ℕ) (x : NamedContent) (m : Contents) → i < length xs → x ≡ get_or xs i x
    → written (take (i + 1) (writes_of xs)) m ≡ insert (written (take i (writes_of xs)) m) (write_of x).name (write_of x).bytes
written_more xs i x m h e = rw add-one (next_written (writes_of xs) i (write_of x) m (write_at xs i x h e))

-- the same name, bytes and files give the same files with that file put in
pub with_file_same : {n k b d : List ℕ} {t u : Option Contents} → n ≡ k → b ≡ d → t ≡ u → with_file n b t ≡ with_file k d u
with_file_same p q r = λ i. with_file (p i) (q i) (r i)

-- files that are the same but at a name stay so, whatever the name and the files are called
pub same_but_at : (name shown : List ℕ) (old known new : Option Contents) → shown ≡ name → known ≡ old → SameBut shown known new → SameBut name old new
same_but_at name shown old known new named same s =
    subst (λ (n : List ℕ). SameBut n old new) named (subst (λ (t : Option Contents). SameBut shown t new) same s)

-- where memory ran out in write i, the first i are done, and of that one a part or nothing
pub cut_short : (xs : List NamedContent) (i : ℕ) (x : NamedContent) (m : Contents) (shown : List ℕ) (mid new : Seen) → i < length xs → x ≡ get_or xs i x → shown ≡ string_bytes x.name
    → mid.known ≡ Some (written (take i (writes_of xs)) m) → IsCutShort x.content shown mid new → Partly (writes_of xs) m new.known
cut_short xs i x m shown mid new h e named are short = elim short.known [
  | inl same ↦ (i, omega (arith, h, length-map xs write_of), inl (same ∙ are))
  | inr part ↦ (
    i,
    omega (arith, h, length-map xs write_of),
    inr (subst (λ (o : Option Write). IsBegun o (written (take i (writes_of xs)) m) new.known) (sym (write_at xs i x h e))
        (part.0, part.1, part.2 ∙ (λ j. with_file (named j) (take part.1 (bytes_in x.content)) (are j)))),
  )
]
