-- Reading the header of a tail undoes writing it.
use Rattle.std.proofs.Common.{◌≡◌, ℕ, zero, suc, ◌+◌, ◌%◌, ◌<◌, ◌≤◌, ◌^◌, ◌==◌, ◌||◌, ◌&&◌, nat_le, nat_lt, Bool, true, false, ◌⊎◌, inl, inr, if◌then◌else◌, List, [], ◌++◌, Option, Some, None, refl, ap, sym, subst, ◌∙◌, append-nil, arith, eq-eqb}
use Rattle.std.proofs.lemmas.Bool.{leb-true, le-leb, eqb-true, and_parts, and_from, ne_eqb, eqb-false}
use Rattle.std.specs.Bool.{Decides}
use Rattle.std.proofs.lemmas.Bool.Decides.{Decides-or, Decides-ltb, Decides-eqb}
use Rattle.dl_entry.specs.Numbers.{most_bytes, most_threads}
use Rattle.dl_entry.specs.declared.Request.{Request}
use Rattle.spec_log.specs.Bytes.{u8, u16, u32}
use Rattle.spec_log.specs.Fields.{Reader, read, gives, number, field, at_most, from_to}
use Rattle.spec_tail.specs.declared.draft.TailHeader.{TailHeader}
use Rattle.spec_tail.specs.Bytes.{magic, last_code, request_bytes}
use Rattle.spec_tail.specs.Reading.{zeros, is_aligned, last, no_request, some_request, request, has_buffer, is_size, made, header_fields}
use Rattle.spec_tail.specs.Tails.{IsLast, IsRequest, IsSize}
use Rattle.dl_logfmt.proofs.Codes.{Codes, Codes-as, Codes-then, Codes-gives, Codes-number, Codes-skip, Codes-part}
use Rattle.dl_logfmt.proofs.EntryLaws.{Codes-field}
use Rattle.dl_logfmt.proofs.LogLaws.{Codes-constant}

-- ---- the thread that committed last

abbrev IsLastCode : (present code : ℕ) → Type 0
IsLastCode present code = (code ≡ 255) ⊎ (code < present)

abbrev last_of : (code : ℕ) → Option ℕ
last_of code = if code == 255 then None else Some code

last_code-of : (code : ℕ) → last_code (last_of code) ≡ code
last_code-of code = by (code == 255) refl where
  by : (b : Bool) → (code == 255) ≡ b → last_code (if b then None else Some code) ≡ code
  by true e = sym (eqb-true code 255 e)
  by false e = refl

is-last : (present code : ℕ) → IsLastCode present code → IsLast present (last_of code)
is-last present code is = by (code == 255) refl is where
  by : (b : Bool) → (code == 255) ≡ b → IsLastCode present code → IsLast present (if b then None else Some code)
  by true e is = tt
  by false e (inl none) = absurd (eqb-false code 255 e none)
  by false e (inr there) = there

last-code : (present : ℕ) (o : Option ℕ) → IsLast present o → IsLastCode present (last_code o)
last-code present None is = inl refl
last-code present (Some k) is = inr is

same-last : (present : ℕ) → present ≤ 63 → (o : Option ℕ) → IsLast present o → o ≡ last_of (last_code o)
same-last present few None is = refl
same-last present few (Some k) is =
    let other : (k == 255) ≡ false = ne_eqb k 255 (λ e. absurd (omega (arith, e, is, few))) in
    rw other refl

Codes-last : (present : ℕ) → present ≤ 63 → Codes (last present) (λ o. u8 (last_code o)) (IsLast present)
Codes-last present few =
    let test : ℕ → Bool = λ (x : ℕ). (x == 255) || nat_lt x present in
    Codes-then (field 1 test) (λ x. gives (last_of x)) u8 (IsLastCode present) (λ x o. []) (λ x o. o ≡ last_of x) (λ o. u8 (last_code o)) (IsLast present)
    (Codes-field 1 5 test (IsLastCode present) (λ x h l. (decides x).0 h) (λ x h. (small x h, (decides x).1 h)))
    (λ x g. Codes-gives (last_of x) (λ o. o ≡ last_of x) refl (λ o e. e))
    (λ o g. (last_code o, last-code present o g, same-last present few o g, sym (append-nil (u8 (last_code o)))))
    (λ x o g e. rw (e, last_code-of x) (is-last present x g, sym (append-nil (u8 x)))) where
      decides : (x : ℕ) → Decides ((x == 255) || nat_lt x present) (IsLastCode present x)
      decides x = Decides-or _ _ (Decides-eqb x 255) (Decides-ltb x present)

      small : (x : ℕ) → IsLastCode present x → x < 256 ^ 1
      small x (inl none) = omega (arith, none)
      small x (inr there) = omega (arith, there, few)

-- ---- the request

abbrev flag_of : Option Request → ℕ
flag_of None = 0
flag_of (Some r) = 1

abbrev buf_of : Option Request → ℕ
buf_of None = 0
buf_of (Some r) = r.buf

abbrev len_of : Option Request → ℕ
len_of None = 0
len_of (Some r) = r.len

abbrev bytes-asked : Option Request → List ℕ
bytes-asked o = u32 (buf_of o) ++ u32 (len_of o)

-- its buffer and its length are in their ranges
abbrev IsAsked : Option Request → Type 0
IsAsked None = Unit {0}
IsAsked (Some r) = ((r.buf < 256 ^ 4) × (is_aligned r.buf ≡ true)) × ((r.len < 256 ^ 4) × (at_most most_bytes r.len ≡ true))

abbrev IsFlagged : (flag : ℕ) → Option Request → Type 0
IsFlagged flag o = (flag_of o ≡ flag) × IsAsked o

Codes-none : Codes no_request bytes-asked (IsFlagged 0)
Codes-none =
    Codes-as no_request (λ o. u32 0 ++ (u32 0 ++ [])) bytes-asked (λ o. o ≡ None) (IsFlagged 0)
    (Codes-skip (zeros 4) (read (zeros 4) (λ len. gives None)) 0 u32 (λ o. u32 0 ++ []) (λ o. o ≡ None) (Codes-constant 4 5 0 (omega arith))
    (Codes-skip (zeros 4) (gives None) 0 u32 (λ o. []) (λ o. o ≡ None) (Codes-constant 4 5 0 (omega arith)) (Codes-gives None (λ o. o ≡ None) refl (λ o e. e))))
    (λ o e. rw e refl) (λ o e. rw e (refl, tt)) only where
      only : (o : Option Request) → IsFlagged 0 o → o ≡ None
      only None g = refl
      only (Some r) g = absurd (omega (arith, g.0))

abbrev Known-len : (buf : ℕ) → Option Request → Type 0
Known-len buf o = (len : ℕ) × ((len < 256 ^ 4) × (at_most most_bytes len ≡ true)) × (o ≡ Some (record { buf = buf; len = len }))

abbrev Known-buf : Option Request → Type 0
Known-buf o = (buf : ℕ) × ((buf < 256 ^ 4) × (is_aligned buf ≡ true)) × Known-len buf o

Codes-some : Codes some_request bytes-asked (IsFlagged 1)
Codes-some =
    Codes-as some_request (λ o. u32 (buf_of o) ++ (u32 (len_of o) ++ [])) bytes-asked Known-buf (IsFlagged 1)
    (Codes-part (field 4 is_aligned) (λ buf. read (field 4 (at_most most_bytes)) (λ len. gives (Some (record { buf = buf; len = len }))))
    buf_of u32 (λ x. (x < 256 ^ 4) × (is_aligned x ≡ true)) (λ o. u32 (len_of o) ++ []) Known-len (Codes-number 4 5 is_aligned)
    (λ buf g. Codes-part (field 4 (at_most most_bytes)) (λ len. gives (Some (record { buf = buf; len = len })))
    len_of u32 (λ x. (x < 256 ^ 4) × (at_most most_bytes x ≡ true)) (λ o. []) (λ len o. o ≡ Some (record { buf = buf; len = len })) (Codes-number 4 5 (at_most most_bytes))
    (λ len h. Codes-gives (Some (record { buf = buf; len = len })) (λ o. o ≡ Some (record { buf = buf; len = len })) refl (λ o e. e))
    (λ len o e. ap len_of e))
    (λ buf o r. ap buf_of r.2))
    (λ o g. rw (append-nil (u32 (len_of o))) refl) to known where
      to : (o : Option Request) → Known-buf o → IsFlagged 1 o
      to o (buf, gb, (len, gl, e)) = rw e (refl, (gb, gl))

      known : (o : Option Request) → IsFlagged 1 o → Known-buf o
      known None g = absurd (omega (arith, g.0))
      known (Some r) g = (r.buf, g.1.0, (r.len, g.1.1, refl))

Codes-flagged : (flag : ℕ) → flag ≤ 1 → Codes (if flag == 1 then some_request else no_request) bytes-asked (IsFlagged flag)
Codes-flagged zero l = Codes-none
Codes-flagged (suc zero) l = Codes-some
Codes-flagged (suc (suc n)) l = absurd (omega (arith, l))

flag-small : (o : Option Request) → flag_of o ≤ 1
flag-small None = omega arith
flag-small (Some r) = omega arith

flag-bytes : (o : Option Request) → request_bytes o ≡ u8 (flag_of o) ++ (u16 0 ++ bytes-asked o)
flag-bytes None = refl
flag-bytes (Some r) = refl

Codes-request : Codes request request_bytes IsAsked
Codes-request =
    Codes-then (field 1 (at_most 1)) (λ flag. read (zeros 2) (λ spare. if flag == 1 then some_request else no_request)) u8 (λ flag. flag ≤ 1)
    (λ flag o. u16 0 ++ bytes-asked o) IsFlagged request_bytes IsAsked
    (Codes-field 1 5 (at_most 1) (λ flag. flag ≤ 1) (λ flag h l. leb-true flag 1 h) (λ flag h. (omega (arith, h), le-leb flag 1 h)))
    (λ flag g. Codes-skip (zeros 2) (if flag == 1 then some_request else no_request) 0 u16 bytes-asked (IsFlagged flag) (Codes-constant 2 5 0 (omega arith)) (Codes-flagged flag g))
    (λ o g. (flag_of o, flag-small o, (refl, g), flag-bytes o))
    (λ flag o l g. (g.1, flag-bytes o ∙ ap (λ (n : ℕ). u8 n ++ (u16 0 ++ bytes-asked o)) g.0))

-- ---- all of it

abbrev IsPresent : ℕ → Type 0
IsPresent p = (p < 256 ^ 2) × (from_to 1 most_threads p ≡ true)

abbrev IsBase : ℕ → Type 0
IsBase b = (b < 256 ^ 4) × (at_most (2 ^ 24) b ≡ true)

abbrev IsSized : Option Request → ℕ → Type 0
IsSized r s = (s < 256 ^ 4) × (is_size r s ≡ true)

-- what is known of a header of which the parts before are these, and the bytes from here on
abbrev Known-size : (present base : ℕ) → Option ℕ → Option Request → TailHeader → Type 0
Known-size p b l r h = (s : ℕ) × IsSized r s × (h ≡ made p b l r s)

abbrev bytes-size : TailHeader → List ℕ
bytes-size h = u32 h.size ++ []

abbrev Known-request : (present base : ℕ) → Option ℕ → TailHeader → Type 0
Known-request p b l h = (r : Option Request) × IsAsked r × Known-size p b l r h

abbrev bytes-request : TailHeader → List ℕ
bytes-request h = request_bytes h.request ++ bytes-size h

abbrev Known-last : (present base : ℕ) → TailHeader → Type 0
Known-last p b h = (l : Option ℕ) × IsLast p l × Known-request p b l h

abbrev bytes-last : TailHeader → List ℕ
bytes-last h = u8 (last_code h.last) ++ bytes-request h

abbrev Known-base : (present : ℕ) → TailHeader → Type 0
Known-base p h = (b : ℕ) × IsBase b × Known-last p b h

abbrev bytes-base : TailHeader → List ℕ
bytes-base h = u32 h.base ++ bytes-last h

abbrev Known-present : TailHeader → Type 0
Known-present h = (p : ℕ) × IsPresent p × Known-base p h

abbrev bytes-present : TailHeader → List ℕ
bytes-present h = u16 h.present ++ bytes-base h

Codes-from_size : (p b : ℕ) (l : Option ℕ) (r : Option Request) → Codes (read (field 4 (is_size r)) (λ s. gives (made p b l r s))) bytes-size (Known-size p b l r)
Codes-from_size p b l r =
    Codes-part (field 4 (is_size r)) (λ s. gives (made p b l r s)) (λ h. h.size) u32 (IsSized r) (λ h. []) (λ s h. h ≡ made p b l r s)
    (Codes-number 4 5 (is_size r)) (λ s g. Codes-gives (made p b l r s) (λ h. h ≡ made p b l r s) refl (λ h e. e))
    (λ s h e. ap (λ (h : TailHeader). h.size) e)

abbrev from-request : (present base : ℕ) → Option ℕ → Reader TailHeader
from-request p b l = read request (λ r. read (field 4 (is_size r)) (λ s. gives (made p b l r s)))

Codes-from_request : (p b : ℕ) (l : Option ℕ) → Codes (from-request p b l) bytes-request (Known-request p b l)
Codes-from_request p b l =
    Codes-part request (λ r. read (field 4 (is_size r)) (λ s. gives (made p b l r s))) (λ h. h.request) request_bytes IsAsked bytes-size (Known-size p b l)
    Codes-request (λ r g. Codes-from_size p b l r) (λ r h k. ap (λ (h : TailHeader). h.request) k.2)

Codes-from_last : (p b : ℕ) → p ≤ 63 → Codes (read (last p) (λ l. from-request p b l)) bytes-last (Known-last p b)
Codes-from_last p b few =
    Codes-part (last p) (λ l. from-request p b l) (λ h. h.last) (λ o. u8 (last_code o)) (IsLast p) bytes-request (Known-request p b)
    (Codes-last p few) (λ l g. Codes-from_request p b l) (λ l h k. ap (λ (h : TailHeader). h.last) k.2.2)

Codes-from_base : (p : ℕ) → p ≤ 63 → Codes (read (field 4 (at_most (2 ^ 24))) (λ b. read (last p) (λ l. from-request p b l))) bytes-base (Known-base p)
Codes-from_base p few =
    Codes-part (field 4 (at_most (2 ^ 24))) (λ b. read (last p) (λ l. from-request p b l)) (λ h. h.base) u32 IsBase bytes-last (Known-last p)
    (Codes-number 4 5 (at_most (2 ^ 24))) (λ b g. Codes-from_last p b few) (λ b h k. ap (λ (h : TailHeader). h.base) k.2.2.2)

are-few : (p : ℕ) → IsPresent p → (1 ≤ p) × (p ≤ 63)
are-few p g = let b = and_parts (nat_le 1 p) (nat_le p most_threads) g.1 in (leb-true 1 p b.0, leb-true p most_threads b.1)

abbrev from-present : Reader TailHeader
from-present = read (field 2 (from_to 1 most_threads)) (λ p. read (field 4 (at_most (2 ^ 24))) (λ b. read (last p) (λ l. from-request p b l)))

Codes-from_present : Codes from-present bytes-present Known-present
Codes-from_present =
    Codes-part (field 2 (from_to 1 most_threads)) (λ p. read (field 4 (at_most (2 ^ 24))) (λ b. read (last p) (λ l. from-request p b l))) (λ h. h.present) u16 IsPresent bytes-base Known-base
    (Codes-number 2 5 (from_to 1 most_threads)) (λ p g. Codes-from_base p (are-few p g).1) (λ p h k. ap (λ (h : TailHeader). h.present) k.2.2.2.2)

-- the bytes of a tail's header, from its magic word to the size of the memory
abbrev pub bytes-header : TailHeader → List ℕ
bytes-header h =
    magic ++ u8 1 ++ u8 0 ++ u16 h.present ++ u32 h.base ++ u8 (last_code h.last) ++ request_bytes h.request ++ u32 h.size

-- the parts of a header are in their ranges
pub record IsHeader (h : TailHeader) : Type 0 where
  pub some : 1 ≤ h.present
  pub few : h.present ≤ 63
  pub base : h.base ≤ 2 ^ 24
  pub last : IsLast h.present h.last
  pub size : IsSize h.size
  pub request : IsRequest h.size h.request

buffer : (s : ℕ) (r : Option Request) → IsAsked r → has_buffer s r ≡ true → IsRequest s r
buffer s None g h = tt
buffer s (Some r) g h =
    record { aligned = eqb-true (r.buf % 4) 0 g.0.1; few = leb-true r.len most_bytes g.1.1; inside = leb-true (r.buf + 4 + r.len) s h }

asked : (s : ℕ) (r : Option Request) → s ≤ 2 ^ 24 → IsRequest s r → IsAsked r × (has_buffer s r ≡ true)
asked s None small g = (tt, refl)
asked s (Some r) small g =
    let inside = g.inside in
    let few = g.few in
    (((omega (arith, inside, small), eq-eqb (r.buf % 4) 0 g.aligned), (omega (arith, few), le-leb r.len most_bytes g.few)), le-leb (r.buf + 4 + r.len) s g.inside)

sized : (s : ℕ) (r : Option Request) → IsSize s → has_buffer s r ≡ true → is_size r s ≡ true
sized s r g h =
    and_from _ _ (and_from _ _ (eq-eqb (s % 4096) 0 g.pages) (and_from _ _ (le-leb 4096 s g.least) (le-leb s (2 ^ 24) g.most))) h

is-sized : (s : ℕ) (r : Option Request) → is_size r s ≡ true → IsSize s × (has_buffer s r ≡ true)
is-sized s r h =
    let all = and_parts ((s % 4096 == 0) && from_to 4096 (2 ^ 24) s) (has_buffer s r) h in
    let pages = and_parts (s % 4096 == 0) (from_to 4096 (2 ^ 24) s) all.0 in
    let ends = and_parts (nat_le 4096 s) (nat_le s (2 ^ 24)) pages.1 in
    (record { pages = eqb-true (s % 4096) 0 pages.0; least = leb-true 4096 s ends.0; most = leb-true s (2 ^ 24) ends.1 }, all.1)

is-header : (h : TailHeader) → Known-present h → IsHeader h
is-header h (p, gp, (b, gb, (l, gl, (r, gr, (s, gs, e))))) =
    let few = are-few p gp in
    let size = is-sized s r gs.1 in
    subst IsHeader (sym e) (record { some = few.0; few = few.1; base = leb-true b (2 ^ 24) gb.1; last = gl; size = size.0; request = buffer s r gr size.1 })

known-header : (h : TailHeader) → IsHeader h → Known-present h
known-header h g =
    let few = g.few in
    let base = g.base in
    let most = g.size.most in
    let a = asked h.size h.request g.size.most g.request in (
      h.present,
      (omega (arith, few), and_from _ _ (le-leb 1 h.present g.some) (le-leb h.present most_threads g.few)),
      (
        h.base,
        (omega (arith, base), le-leb h.base (2 ^ 24) g.base),
        (h.last, g.last, (h.request, a.0, (h.size, (omega (arith, most), sized h.size h.request g.size a.1), refl))),
      ),
    )

pub Codes-header : Codes header_fields bytes-header IsHeader
Codes-header =
    Codes-as header_fields (λ h. u32 0x54524C44 ++ (u8 1 ++ (u8 0 ++ bytes-present h))) bytes-header Known-present IsHeader
    (Codes-skip (number 4 2 (λ x. x == 0x54524C44)) (read (number 1 3 (λ x. x == 1)) (λ version. read (zeros 1) (λ spare. from-present)))
    0x54524C44 u32 (λ h. u8 1 ++ (u8 0 ++ bytes-present h)) Known-present (Codes-constant 4 2 0x54524C44 (omega arith))
    (Codes-skip (number 1 3 (λ x. x == 1)) (read (zeros 1) (λ spare. from-present)) 1 u8 (λ h. u8 0 ++ bytes-present h) Known-present (Codes-constant 1 3 1 (omega arith))
    (Codes-skip (zeros 1) from-present 0 u8 bytes-present Known-present (Codes-constant 1 5 0 (omega arith)) Codes-from_present)))
    (λ h g. rw (append-nil (u32 h.size)) refl) is-header known-header
