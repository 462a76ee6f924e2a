-- The pieces of a file that are read one after another are its bytes.
use Rattle.std.proofs.Common.{◌≡◌, ℕ, zero, suc, ◌<◌, ◌≤◌, List, [], ◌∷◌, ◌++◌, length, take, drop, Option, Some, None, Result, Ok, Err, refl, sym, ap, ◌∙◌, subst, arith, append-nil}
use Rattle.std.proofs.Math.ListN.{drop_of_length-le}
use Rattle.std.proofs.Math.Seq.{take-add}
use Rattle.std.proofs.lemmas.List.{length-append, length-drop, take-append-drop}
use Rattle.std.specs.FinMap.{get}
use Rattle.std.specs.Option.{option_map}
use Rattle.dl_files.specs.Contents.{Contents, HoldsAt, part_of}
use Rattle.dl_logio.specs.Files.{SaysLog}
use Rattle.dl_logfmt.specs.declared.error.LogError.{LogError}
use Rattle.spec_log.specs.declared.fault.Fault.{Fault}
use Rattle.spec_log.specs.Reading.{read_of}
use Rattle.spec_log.specs.declared.log.LogParts.{LogParts}

-- the name, where it is known and there, begins with these bytes
abbrev pub IsFront : Option Contents → (name bytes : List ℕ) → Type 0
IsFront known name bytes = (m : Contents) → known ≡ Some m → (content : List ℕ) → get m name ≡ Some content → take (length bytes) content ≡ bytes

-- where known, the name has bytes of which this is the part from an offset on
there : (known : Option Contents) (m : Contents) (name : List ℕ) (offset room : ℕ) (piece : List ℕ) → HoldsAt known name offset room piece → known ≡ Some m → part_of m name offset room ≡ Some piece
there (Some k) m name offset room piece held e = let same : k ≡ m = cc in subst (λ (x : Contents). part_of x name offset room ≡ Some piece) same held
there None m name offset room piece held e = absurd cc

part_at : (m : Contents) (name : List ℕ) (offset room : ℕ) (piece : List ℕ) (o : Option (List ℕ)) → option_map (λ bytes. take room (drop offset bytes)) o ≡ Some piece → (content : List ℕ) × (o ≡ Some content) × (take room (drop offset content) ≡ piece)
part_at m name offset room piece None e = absurd cc
part_at m name offset room piece (Some content) e = (content, refl, cc)

-- what is shown by files that tell the same
pub held_by : (known seen : Option Contents) (name : List ℕ) (offset room : ℕ) (piece : List ℕ) → seen ≡ known → HoldsAt seen name offset room piece → HoldsAt known name offset room piece
held_by known seen name offset room piece same = subst (λ (t : Option Contents). HoldsAt t name offset room piece) same

-- a front is its own beginning
pub front_of : (room : ℕ) (ys piece : List ℕ) → take room ys ≡ piece → take (length piece) ys ≡ piece
front_of zero [] piece e = subst (λ (xs : List ℕ). take (length xs) [] ≡ xs) e refl
front_of (suc room) [] piece e = subst (λ (xs : List ℕ). take (length xs) [] ≡ xs) e refl
front_of zero (y ∷ ys) piece e = subst (λ (xs : List ℕ). take (length xs) (y ∷ ys) ≡ xs) e refl
front_of (suc room) (y ∷ ys) piece e = subst (λ (xs : List ℕ). take (length xs) (y ∷ ys) ≡ xs) e (ap (λ (xs : List ℕ). y ∷ xs) (front_of room ys (take room ys) refl))

-- no byte is a front of any file
pub none_read : (known : Option Contents) (name : List ℕ) → IsFront known name []
none_read known name m e content there = refl

-- a front, and the piece that the file holds after it, are a front
pub more_read : (known : Option Contents) (name bytes : List ℕ) (offset room : ℕ) (piece : List ℕ) → length bytes ≡ offset → IsFront known name bytes → HoldsAt known name offset room piece → IsFront known name (bytes ++ piece)
more_read known name bytes offset room piece at front held m e content is =
    let part = part_at m name offset room piece (get m name) (there known m name offset room piece held e) in
    let same : part.0 ≡ content = cc in
    let rest : take room (drop (length bytes) content) ≡ piece = ap (λ (o : ℕ). take room (drop o content)) at ∙ ap (λ (c : List ℕ). take room (drop offset c)) (sym same) ∙ part.2 in
    ap (λ (n : ℕ). take n content) (length-append bytes piece)
    ∙ take-add (length bytes) (length piece) content
    ∙ ap (λ (xs : List ℕ). xs ++ take (length piece) (drop (length bytes) content)) (front m e content is)
    ∙ ap (λ (xs : List ℕ). bytes ++ xs) (front_of room (drop (length bytes) content) piece rest)

none_left : (room : ℕ) (xs : List ℕ) → 0 < room → take room xs ≡ [] → length xs ≡ 0
none_left room [] h e = refl
none_left zero (x ∷ xs) h e = absurd (omega arith)
none_left (suc room) (x ∷ xs) h e = absurd cc

-- at the end of the name, all of it is read
pub all_read : (known : Option Contents) (name bytes : List ℕ) (offset room : ℕ) (read : Result LogParts Fault) → 0 < room → length bytes ≡ offset → IsFront known name bytes → HoldsAt known name offset room [] → read_of bytes ≡ read → SaysLog known name read
all_read None name bytes offset room read some at front held is = tt
all_read (Some m) name bytes offset room read some at front held is =
    let part = part_at m name offset room [] (get m name) held in
    let left = none_left room (drop offset part.0) some part.2 in
    let few : length part.0 ≤ length bytes = omega (arith, left, at, length-drop offset part.0) in
    let whole = sym (ap (λ (xs : List ℕ). take (length bytes) part.0 ++ xs) (drop_of_length-le part.0 few) ∙ append-nil (take (length bytes) part.0)) ∙ take-append-drop (length bytes) part.0 in
    ap (option_map read_of) part.1 ∙ ap (λ (b : List ℕ). Some (read_of b)) (sym whole ∙ front m refl part.0 part.1) ∙ ap Some is

-- a fault of the first bytes is one of the whole
pub fault_read : (known : Option Contents) (name bytes : List ℕ) (offset room : ℕ) (piece : List ℕ) (fault : Fault) → length bytes ≡ offset → IsFront known name bytes → HoldsAt known name offset room piece → ((rest : List ℕ) → read_of ((bytes ++ piece) ++ rest) ≡ Err fault) → SaysLog known name (Err fault)
fault_read None name bytes offset room piece fault at front held stays = tt
fault_read (Some m) name bytes offset room piece fault at front held stays =
    let part = part_at m name offset room piece (get m name) held in
    let first = more_read (Some m) name bytes offset room piece at front held m refl part.0 part.1 in
    let whole : (bytes ++ piece) ++ drop (length (bytes ++ piece)) part.0 ≡ part.0 = ap (λ (xs : List ℕ). xs ++ drop (length (bytes ++ piece)) part.0) (sym first) ∙ take-append-drop (length (bytes ++ piece)) part.0 in
    ap (option_map read_of) part.1 ∙ ap (λ (b : List ℕ). Some (read_of b)) (sym whole) ∙ ap Some (stays (drop (length (bytes ++ piece)) part.0))

-- ---- answers that are no want of memory

-- an answer that is well is no want of memory
pub ok_is_none : {u : Unit {0}} → ◌≡◌ {A = Result (Unit {0}) LogError} (Ok u) (Err LogError.OutOfMemory) → ⊥
ok_is_none e = absurd cc

-- a malformed log is no want of memory
pub malformed_is_none : (error : LogError) (fault : Fault) → error ≡ LogError.Malformed fault → ◌≡◌ {A = Result (Unit {0}) LogError} (Err error) (Err LogError.OutOfMemory) → ⊥
malformed_is_none error fault is e = absurd cc
