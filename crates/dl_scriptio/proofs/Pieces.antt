-- The whole lines of a script, read from one piece of its file after another, are the script's.
use Rattle.std.proofs.Common.{◌≡◌, ℕ, zero, suc, ◌+◌, ◌-◌, ◌<◌, ◌≤◌, List, [], ◌∷◌, ◌++◌, length, take, drop, Option, Some, None, Result, Ok, Err, IfOk, IfErr, refl, sym, ap, ◌∙◌, subst, arith}
use Rattle.std.proofs.Math.ListN.{drop_of_length-le}
use Rattle.std.proofs.lemmas.List.{drop-drop, length-append, length-drop, take-append-drop}
use Rattle.std.specs.FinMap.{get}
use Rattle.std.specs.Option.{option_map}
use Rattle.dl_event.specs.Reading.{SoFar, IsReadTo, IsBehind}
use Rattle.dl_event.specs.Script.{script_of, Refuses}
use Rattle.dl_event.specs.declared.error.ScriptError.{ScriptError}
use Rattle.dl_files.specs.Contents.{Contents, Holds, HoldsAt, part_of}
use Rattle.spec_protocol.specs.declared.event.Event.{Event}
use Rattle.dl_scriptio.specs.Files.{SaysScript, IsReadAs}

-- if the name is known and there, its script is read up to the offset
abbrev pub IsReadFrom : Option Contents → (name : List ℕ) → (offset : ℕ) → SoFar → Type 0
IsReadFrom known name offset r = (m : Contents) → known ≡ Some m → (content : List ℕ) → get m name ≡ Some content → IsReadTo content (drop offset content) r

-- what is shown by files that tell the same
pub held_by : (known seen : Option Contents) (name : List ℕ) (offset room : ℕ) (piece : List ℕ) → seen ≡ known → HoldsAt seen name offset room piece → HoldsAt known name offset room piece
held_by known seen name offset room piece same = subst (λ (t : Option Contents). HoldsAt t name offset room piece) same

-- the bytes after the offset are the piece, and what comes after it
abbrev pub IsSplit : (offset room : ℕ) (piece content : List ℕ) → Type 0
IsSplit offset room piece content = drop offset content ≡ piece ++ drop room (drop offset content)

split_at : (offset room : ℕ) (piece content : List ℕ) → take room (drop offset content) ≡ piece → IsSplit offset room piece content
split_at offset room piece content part =
    sym (take-append-drop room (drop offset content)) ∙ ap (λ (xs : List ℕ). xs ++ drop room (drop offset content)) part

part_at : (offset room : ℕ) (piece : List ℕ) (o : Option (List ℕ)) (content : List ℕ) → option_map (λ bytes. take room (drop offset bytes)) o ≡ Some piece → o ≡ Some content → take room (drop offset content) ≡ piece
part_at offset room piece None content e is = absurd cc
part_at offset room piece (Some bytes) content e is = let same : bytes ≡ content = cc in subst (λ (x : List ℕ). take room (drop offset x) ≡ piece) same cc

-- if the piece is the name's bytes from the offset on, the content is split in this way
pub held_split : (known : Option Contents) (m : Contents) (name content : List ℕ) (offset room : ℕ) (piece : List ℕ) → HoldsAt known name offset room piece → known ≡ Some m → get m name ≡ Some content → IsSplit offset room piece content
held_split None m name content offset room piece held e is = absurd cc
held_split (Some k) m name content offset room piece held e is =
    let same : k ≡ m = cc in
    let here : part_of m name offset room ≡ Some piece = subst (λ (x : Contents). part_of x name offset room ≡ Some piece) same held in
    split_at offset room piece content (part_at offset room piece (get m name) content here is)

drop-within : (n : ℕ) (xs ys : List ℕ) → n ≤ length xs → drop n (xs ++ ys) ≡ drop n xs ++ ys
drop-within zero xs ys l = refl
drop-within (suc n) [] ys l = absurd (omega arith)
drop-within (suc n) (x ∷ xs) ys l = drop-within n xs ys (omega arith)

-- what is read to the end of a piece's whole lines is read from their end on
pub read_on : (script rest piece last : List ℕ) (r : SoFar) (offset : ℕ) → drop offset script ≡ piece ++ rest → IsBehind piece last → IsReadTo script (last ++ rest) r → IsReadTo script (drop (offset + (length piece - length last)) script) r
read_on script rest piece last r offset is behind to =
    let l : length piece - length last ≤ length piece = omega arith in
    let left : last ++ rest ≡ drop (offset + (length piece - length last)) script =
    ap (λ (xs : List ℕ). xs ++ rest) behind.same
    ∙ sym (drop-within (length piece - length last) piece rest l)
    ∙ ap (drop (length piece - length last)) (sym is)
    ∙ drop-drop (length piece - length last) offset script
    in
    subst (λ (text : List ℕ). IsReadTo script text r) left to

-- after a piece that isn't full there is nothing
pub no_rest : (room : ℕ) (bytes piece : List ℕ) → bytes ≡ piece ++ drop room bytes → length piece < room → drop room bytes ≡ []
no_rest room bytes piece is short = drop_of_length-le bytes (
    let count = ap length is ∙ length-append piece (drop room bytes) in
    let left = length-drop room bytes in
    omega arith
    )

-- an answer that tells what the script means if it is good, and else why it is refused, is what the script means
pub read_as : (meant : Result (List Event) ℕ) (read : Result (List Event) ScriptError) → IfOk read (λ events. meant ≡ Ok events) → IfErr read (λ e. Refuses meant e) → IsReadAs meant read
read_as meant (Ok events) ok err = ok
read_as meant (Err error) ok err = err

says_of : (o : Option (List ℕ)) (content : List ℕ) (read : Result (List Event) ℕ) → o ≡ Some content → script_of content ≡ read → option_map script_of o ≡ Some read
says_of o content read is said = ap (option_map script_of) is ∙ ap Some said

content_says : (offset room : ℕ) (piece : List ℕ) (o : Option (List ℕ)) (read : Result (List Event) ℕ) → option_map (λ bytes. take room (drop offset bytes)) o ≡ Some piece → ((content : List ℕ) → o ≡ Some content → script_of content ≡ read) → option_map script_of o ≡ Some read
content_says offset room piece None read e h = absurd cc
content_says offset room piece (Some content) read e h = ap Some (h content refl)

-- a name of which a part was read says what each content that it may have is read as
pub says : (known : Option Contents) (name : List ℕ) (offset room : ℕ) (piece : List ℕ) (read : Result (List Event) ℕ) → HoldsAt known name offset room piece → ((m : Contents) → known ≡ Some m → (content : List ℕ) → get m name ≡ Some content → script_of content ≡ read) → SaysScript known name read
says None name offset room piece read held h = tt
says (Some m) name offset room piece read held h = content_says offset room piece (get m name) read held (h m refl)

-- a name that holds bytes that read so says so
pub says_held : (known : Option Contents) (name bytes : List ℕ) (read : Result (List Event) ℕ) → Holds known name bytes → script_of bytes ≡ read → SaysScript known name read
says_held None name bytes read held is = tt
says_held (Some m) name bytes read held is = says_of (get m name) bytes read held is
