-- A file that could not be read stops what is read of it.
use Rattle.std.proofs.Common.{◌≡◌, ℕ, List, [], ◌∷◌, Contains, Option, Some, None, IsSome, Result, Ok, Err, ok_or, inl, inr, refl, sym, ◌∙◌, ap, subst}
use Rattle.std.specs.Prelude.{IfSome, IfNone}
use Rattle.std.specs.FinMap.{get}
use Rattle.dl_event.specs.Script.{script_of}
use Rattle.dl_files.specs.Contents.{Contents, IsThere}
use Rattle.dl_files.specs.declared.FileError.{FileError}
use Rattle.dl_files.specs.Seen.{Seen, IsAbsent, IsUnread, ReadStops}
use Rattle.spec_log.specs.Reading.{read_of}
use Rattle.spec_program.specs.Files.{read_at, log_at, script_at}
use Rattle.spec_program.specs.Stages.{◌>>◌}
use Rattle.dl_gather.specs.declared.halt.Halt.{Halt}
use Rattle.dl_gather.specs.Halts.{HaltsAt, IsFault, IsMissing, IsStarved, Unread}
use Rattle.dl_gather.specs.Names.{IsNamed}
use Rattle.dl_gather.proofs.Names.{holds_always, itself}

if_some : (known : Option Contents) (P : Contents → Type 0) (m : Contents) → IfSome known P → known ≡ Some m → P m
if_some None P m h e = absurd cc
if_some (Some k) P m h e = let same : k ≡ m = cc in subst P same h

if_none : (known : Option Contents) (P : Type 0) → IfNone known P → known ≡ None → P
if_none None P h e = h
if_none (Some k) P h e = absurd cc

missing : {A : Type 0} (part : Contents → Result A (List ℕ)) (name : List ℕ) (old new : Seen) → ((m : Contents) → get m name ≡ None → part m ≡ Err name) → IsAbsent name old new → IsMissing part name old new
missing part name old new absent a = record {
  known = λ m e. let gone = if_some old.known (λ (x : Contents). (get x name ≡ None) × (new ≡ old)) m a.known e in (absent m gone.0, gone.1);
  unknown = λ e. if_none old.known (IsUnread name old new) a.unknown e;
}

own_name : (known : Option Contents) (name : List ℕ) → IsNamed known (λ _. name ∷ []) name
own_name known name = holds_always known (λ _. Contains (name ∷ []) name) (λ _. itself name [])

fault_at : (name : List ℕ) (old new : Seen) → IsThere old.known name → IsUnread name old new → IsFault (λ _. name ∷ []) name old new
fault_at name old new there u = record {
  unread = u;
  named = own_name old.known name;
  next = λ m e. (if_some old.known (λ (x : Contents). IsSome (get x name)) m there e, inl refl);
}

-- memory ran out over the line on a file that is absent
starved_absent : (known : Option Contents) (name : List ℕ) (old new : Seen) → old.known ≡ known → IsAbsent name old new → IsStarved (λ _. name ∷ []) old new
starved_absent (Some m) name old new is a = inl (if_some old.known (λ (x : Contents). (get x name ≡ None) × (new ≡ old)) m a.known is).1
starved_absent None name old new is a = inr (
  name,
  record {
    unread = if_none old.known (IsUnread name old new) a.unknown is;
    named = own_name old.known name;
    next = λ m e. let no : None ≡ Some m = sym is ∙ e in absurd cc;
  },
)

-- of a part that is absent with its file
pub unread_file : {A : Type 0} (name : List ℕ) (part : Contents → Result A (List ℕ)) (old new : Seen) (error : FileError) (halt : Halt)
    → ((m : Contents) → get m name ≡ None → part m ≡ Err name) → ReadStops name old new error → HaltsAt name error halt → Unread (name ∷ []) part old new halt
unread_file name part old new error (Halt.Refused why text) absent stops h =
    (h.1, name, h.2, itself name [], missing part name old new absent (subst (ReadStops name old new) h.0 stops))
unread_file name part old new error (Halt.Fault text) absent stops h =
    let failed : ReadStops name old new FileError.Failed = subst (ReadStops name old new) h.0 stops in
    (name, h.1, fault_at name old new failed.0 failed.1)
unread_file name part old new FileError.Absent Halt.OutOfMemory absent stops h = starved_absent old.known name old new refl stops
unread_file name part old new FileError.Failed Halt.OutOfMemory absent stops h = inr (name, fault_at name old new stops.0 stops.1)
unread_file name part old new FileError.OutOfMemory Halt.OutOfMemory absent stops h = inl stops.1

-- bytes, logs and scripts are absent with their file
pub no_bytes : (m : Contents) (name : List ℕ) → get m name ≡ None → read_at m name ≡ Err name
no_bytes m name e = ap (λ (o : Option (List ℕ)). ok_or o name) e

-- what an absent file says as a log is its name, as of bytes
pub no_log : (m : Contents) (name : List ℕ) → get m name ≡ None → log_at m name ≡ Err name
no_log m name e = ap (λ (o : Option (List ℕ)). ok_or o name >> λ bytes. Ok (read_of bytes)) e

-- what an absent file says as a script is its name, as of bytes
pub no_script : (m : Contents) (name : List ℕ) → get m name ≡ None → script_at m name ≡ Err name
no_script m name e = ap (λ (o : Option (List ℕ)). ok_or o name >> λ bytes. Ok (script_of bytes)) e
