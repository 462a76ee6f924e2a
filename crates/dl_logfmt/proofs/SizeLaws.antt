-- Reading the sizes of a log undoes writing them.
use Rattle.std.proofs.Common.{◌≡◌, ℕ, ◌≤◌, ◌^◌, ◌==◌, Bool, true, List, [], ◌++◌, None, refl, ◌∙◌, append-nil, arith, eq-eqb}
use Rattle.std.specs.List.{flat_map}
use Rattle.std.proofs.lemmas.Bool.{eqb-true}
use Rattle.std.proofs.lemmas.List.Elements.{All-from_recursion, recursion_from_All}
use Rattle.spec_log.specs.declared.mode_name.ModeName.{ModeName}
use Rattle.spec_log.specs.declared.mode_name.ModeName.TheVariants.{OrderSize, OrderOnly, Picolog}
use Rattle.spec_log.specs.declared.shape.Shape.{Shape}
use Rattle.spec_log.specs.declared.sizes.ShortSize.{ShortSize}
use Rattle.spec_log.specs.declared.sizes.Sizes.{Sizes}
use Rattle.spec_log.specs.declared.sizes.Sizes.TheVariants.{Each, Short}
use Rattle.spec_log.specs.Bytes.{u32, section, size_bytes, sizes_bytes, short_size_bytes}
use Rattle.spec_log.specs.Log.{ComesBefore, IsShortSize, AreShortSizes, IsSizes}
use Rattle.spec_log.specs.Fields.{Reader, read, gives, field}
use Rattle.spec_log.specs.Reading.{is_earlier, size, short_size}
use Rattle.dl_logfmt.proofs.Codes.{Codes, Codes-as, Codes-then, Codes-gives}
use Rattle.dl_logfmt.proofs.EntryLaws.{IsShape, FitsBytes, shape-fits, Codes-field, Codes-size, Codes-short_size, Decides-earlier}
use Rattle.dl_logfmt.proofs.SectionLaws.{entries, section_of, Rises-any, AreEntries, Codes-entries, Codes-section}

-- the sizes of the short chunks, those of each commit, and those of a log in a mode
abbrev pub short_sizes : Shape → Reader Sizes
short_sizes h =
    read (section_of (λ x y. is_earlier x.thread x.index y.thread y.index) (short_size h)) (λ sizes. gives (Short sizes))

-- the sizes of all commits: their number, which must be the count, then each size
abbrev pub each_size : Shape → ℕ → Reader Sizes
each_size h count =
    read (field 4 (λ n. n == count)) (λ n. read (entries (λ x y. true) (size h) None n) (λ sizes.
    gives (Each sizes)))

-- the sizes of a log: of each commit in order-size, in the other modes of short chunks only
abbrev pub sizes_of : ModeName → Shape → ℕ → Reader Sizes
sizes_of OrderSize h count = each_size h count
sizes_of OrderOnly h count = short_sizes h
sizes_of Picolog h count = short_sizes h

-- the sizes if each commit has one, else an empty list
abbrev pub each_of : Sizes → List ℕ
each_of (Each sizes) = sizes
each_of (Short sizes) = []

abbrev AreEach : ℕ → ℕ → Sizes → Type 0
AreEach s n y = (xs : List ℕ) × (y ≡ Each xs) × AreEntries (λ x y. true) (λ size. size ≤ s) None n xs

Codes-each_entries : (h : Shape) (n : ℕ) → IsShape h
    → Codes (read (entries (λ x y. true) (size h) None n) (λ sizes. gives (Each sizes))) (λ y. flat_map (size_bytes h.version) (each_of y)) (AreEach h.s n)
Codes-each_entries h n good =
    let are = AreEntries (λ x y. true) (λ size. size ≤ h.s) None n in
    Codes-then (entries (λ x y. true) (size h) None n) (λ sizes. gives (Each sizes)) (flat_map (size_bytes h.version)) are
    (λ xs y. []) (λ xs y. y ≡ Each xs) (λ y. flat_map (size_bytes h.version) (each_of y)) (AreEach h.s n)
    (Codes-entries n (λ x y. true) (size h) (size_bytes h.version) (λ size. size ≤ h.s) None (Codes-size h (shape-fits h good)))
    (λ xs g. Codes-gives (Each xs) (λ y. y ≡ Each xs) refl (λ y e. e))
    (λ y g. (g.0, g.2, g.1, rw (g.1, append-nil (flat_map (size_bytes h.version) g.0)) refl))
    (λ xs y g e. ((xs, e, g), rw (e, append-nil (flat_map (size_bytes h.version) xs)) refl))

Codes-each : (h : Shape) (count : ℕ) → IsShape h → count ≤ 2 ^ 24 → Codes (each_size h count) (sizes_bytes h.version) (IsSizes OrderSize h.threads h.s count)
Codes-each h count good few =
    Codes-then (field 4 (λ n. n == count)) (λ n. read (entries (λ x y. true) (size h) None n) (λ sizes. gives (Each sizes)))
    u32 (λ n. n ≡ count) (λ n y. flat_map (size_bytes h.version) (each_of y)) (AreEach h.s) (sizes_bytes h.version) (IsSizes OrderSize h.threads h.s count)
    (Codes-field 4 5 (λ n. n == count) (λ n. n ≡ count) (λ n h l. eqb-true n count h) (λ n h. (omega arith, eq-eqb n count h)))
    (λ n g. Codes-each_entries h n good) each_split each_join where
      each_split : (y : Sizes) → IsSizes OrderSize h.threads h.s count y → (n : ℕ) × (n ≡ count) × AreEach h.s n y × (sizes_bytes h.version y ≡ u32 n ++ flat_map (size_bytes h.version) (each_of y))
      each_split (Each xs) g =
          (count, refl, (xs, refl, (g.0, recursion_from_All (λ size. size ≤ h.s) xs g.1, Rises-any xs None)), rw g.0 refl)
      each_split (Short xs) g = absurd g

      each_join : (n : ℕ) (y : Sizes) → n ≡ count → AreEach h.s n y → IsSizes OrderSize h.threads h.s count y × (sizes_bytes h.version y ≡ u32 n ++ flat_map (size_bytes h.version) (each_of y))
      each_join n y e r =
          rw r.1 ((r.2.0 ∙ e, All-from_recursion (λ size. size ≤ h.s) r.0 r.2.1), rw r.2.0 refl)

-- reading the sizes of short chunks undoes writing them
pub Codes-short_sizes : (h : Shape) → FitsBytes h
    → Codes (section_of (λ x y. is_earlier x.thread x.index y.thread y.index) (short_size h)) (section (short_size_bytes h.version)) (AreShortSizes h.threads h.s)
Codes-short_sizes h fits =
    Codes-section (λ x y. is_earlier x.thread x.index y.thread y.index) (λ x y. ComesBefore x.thread x.index y.thread y.index) (short_size h) (short_size_bytes h.version)
    (IsShortSize h.threads h.s) (λ x y. Decides-earlier x.thread x.index y.thread y.index) (Codes-short_size h fits)

abbrev IsShort : Shape → Sizes → Type 0
IsShort h (Each sizes) = ⊥
IsShort h (Short sizes) = AreShortSizes h.threads h.s sizes

Codes-short : (h : Shape) → IsShape h → Codes (short_sizes h) (sizes_bytes h.version) (IsShort h)
Codes-short h good =
    Codes-then (section_of earlier (short_size h)) (λ sizes. gives (Short sizes)) (section (short_size_bytes h.version)) (AreShortSizes h.threads h.s)
    (λ xs y. []) (λ xs y. y ≡ Short xs) (sizes_bytes h.version) (IsShort h)
    (Codes-short_sizes h (shape-fits h good))
    (λ xs g. Codes-gives (Short xs) (λ y. y ≡ Short xs) refl (λ y e. e))
    short_split
    (λ xs y g e. rw e (g, sym_nil xs)) where
      earlier : ShortSize → ShortSize → Bool
      earlier x y = is_earlier x.thread x.index y.thread y.index

      sym_nil : (xs : List ShortSize) → section (short_size_bytes h.version) xs ≡ section (short_size_bytes h.version) xs ++ []
      sym_nil xs = rw (append-nil (section (short_size_bytes h.version) xs)) refl

      short_split : (y : Sizes) → IsShort h y → (xs : List ShortSize) × AreShortSizes h.threads h.s xs × (y ≡ Short xs) × (sizes_bytes h.version y ≡ section (short_size_bytes h.version) xs ++ [])
      short_split (Each xs) g = absurd g
      short_split (Short xs) g = (xs, g, refl, sym_nil xs)

only_short : (h : Shape) (count : ℕ) (y : Sizes)
    → (IsShort h y → IsSizes OrderOnly h.threads h.s count y) × (IsSizes OrderOnly h.threads h.s count y → IsShort h y)
only_short h count (Each xs) = (λ e. e, λ e. e)
only_short h count (Short xs) = (λ e. e, λ e. e)

turn_short : (h : Shape) (count : ℕ) (y : Sizes)
    → (IsShort h y → IsSizes Picolog h.threads h.s count y) × (IsSizes Picolog h.threads h.s count y → IsShort h y)
turn_short h count (Each xs) = (λ e. e, λ e. e)
turn_short h count (Short xs) = (λ e. e, λ e. e)

-- reading the sizes undoes writing them
pub Codes-sizes : (mode : ModeName) (h : Shape) (count : ℕ) → IsShape h → count ≤ 2 ^ 24
    → Codes (sizes_of mode h count) (sizes_bytes h.version) (IsSizes mode h.threads h.s count)
Codes-sizes OrderSize h count good few = Codes-each h count good few
Codes-sizes OrderOnly h count good few =
    Codes-as (short_sizes h) (sizes_bytes h.version) (sizes_bytes h.version) (IsShort h) (IsSizes OrderOnly h.threads h.s count) (Codes-short h good)
    (λ y e. refl) (λ y. (only_short h count y).0) (λ y. (only_short h count y).1)
Codes-sizes Picolog h count good few =
    Codes-as (short_sizes h) (sizes_bytes h.version) (sizes_bytes h.version) (IsShort h) (IsSizes Picolog h.threads h.s count) (Codes-short h good)
    (λ y e. refl) (λ y. (turn_short h count y).0) (λ y. (turn_short h count y).1)
