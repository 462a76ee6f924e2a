-- A section of strata is read as a list after its number.
use Rattle.std.proofs.Common.{◌≡◌, ℕ, zero, suc, Bool, true, List, [], ◌∷◌, Result, Ok, Err, refl, sym, ◌∙◌}
use Rattle.std.specs.Prelude.{nat_lt}
use Rattle.spec_log.specs.declared.fault.Fault.{Fault}
use Rattle.spec_log.specs.declared.Shape.{Shape}
use Rattle.spec_log.specs.Fields.{Read, Reader, Stage, continues, read, gives, any, one_more, listed, repeated, staged, all_of}
use Rattle.spec_log.specs.Reading.{short_size, interrupt, input, dma}
use Rattle.spec_strata.specs.declared.draft.StrataDraft.{StrataDraft}
use Rattle.spec_strata.specs.Reading.{sizes, interrupts, inputs, dmas, shape_of, sizes_rise, interrupts_rise}

-- ---- stages

then-then : {X Y Z : Type 0} (r : Result (Read X) Fault) (f : X → ℕ → Result (Read Y) Fault) (g : Y → ℕ → Result (Read Z) Fault)
    → continues (continues r f) g ≡ continues r (λ x after. continues (f x after) g)
then-then (Ok x) f g = refl
then-then (Err fault) f g = refl

then-same : {X Y : Type 0} (r : Result (Read X) Fault) (f g : X → ℕ → Result (Read Y) Fault) → ((x : X) (after : ℕ) → f x after ≡ g x after) → continues r f ≡ continues r g
then-same (Ok x) f g same = same x.value x.after
then-same (Err fault) f g same = refl

-- A stage reads one entry more of a list each time.
module _ {D X : Type 0} (one : D → Reader D) (set : List X → D) (earlier : X → X → Bool) (entry : Reader X)
    (on : (xs : List X) (bytes : List ℕ) (at : ℕ) → one (set xs) bytes at ≡ read (one_more earlier entry xs) (λ ys. gives (set ys)) bytes at) where
  put : (bytes : List ℕ) (n : ℕ) (r : Result (Read (List X)) Fault)
      → ((xs : List X) (at : ℕ) → repeated one n (set xs) bytes at ≡ read (repeated (one_more earlier entry) n xs) (λ ys. gives (set ys)) bytes at)
      → continues (continues r (λ ys after. gives (set ys) bytes after)) (λ d after. repeated one n d bytes after)
      ≡ continues (continues r (λ ys after. repeated (one_more earlier entry) n ys bytes after)) (λ ys after. gives (set ys) bytes after)
  put bytes n (Ok r) rest = rest r.value r.after
  put bytes n (Err fault) rest = refl

  repeated-list : (n : ℕ) (xs : List X) (bytes : List ℕ) (at : ℕ)
      → repeated one n (set xs) bytes at ≡ read (repeated (one_more earlier entry) n xs) (λ ys. gives (set ys)) bytes at
  repeated-list zero xs bytes at = refl
  repeated-list (suc n) xs bytes at =
      rw (on xs bytes at) (put bytes n (one_more earlier entry xs bytes at) (λ ys to. repeated-list n ys bytes to))

  -- so it reads the list, and puts it in its place
  pub staged-list : (xs : List X) (bytes : List ℕ) (at : ℕ)
      → staged (listed one) (set xs) bytes at ≡ read (staged (listed (one_more earlier entry)) xs) (λ ys. gives (set ys)) bytes at
  staged-list xs bytes at =
      then-same (any 4 bytes at) _ _ (λ n after. repeated-list n xs bytes after)
      ∙ sym (then-then (any 4 bytes at) (λ n after. repeated (one_more earlier entry) n xs bytes after) (λ ys after. gives (set ys) bytes after))

-- ---- those of strata

-- d was read, its entries have this shape, and the bytes are read on from here
module _ (d : StrataDraft) (shape : Shape) (is : shape ≡ shape_of d) (bytes : List ℕ) (at : ℕ) where
  pub staged-sizes : staged sizes d bytes at ≡ read (staged (listed (one_more sizes_rise (short_size shape))) d.sizes) (λ xs. gives (record d { sizes = xs })) bytes at
  staged-sizes =
      rw is (staged-list sizes.one (λ xs. record d { sizes = xs }) sizes_rise (short_size (shape_of d)) (λ xs bytes at. refl) d.sizes bytes at)

  pub staged-interrupts : staged interrupts d bytes at ≡ read (staged (listed (one_more interrupts_rise (interrupt shape))) d.interrupts) (λ xs. gives (record d { interrupts = xs })) bytes at
  staged-interrupts =
      rw is (staged-list interrupts.one (λ xs. record d { interrupts = xs }) interrupts_rise (interrupt (shape_of d)) (λ xs bytes at. refl) d.interrupts bytes at)

  pub staged-inputs : staged inputs d bytes at ≡ read (staged (listed (one_more (λ x y. true) input)) d.inputs) (λ xs. gives (record d { inputs = xs })) bytes at
  staged-inputs =
      staged-list inputs.one (λ xs. record d { inputs = xs }) (λ x y. true) input (λ xs bytes at. refl) d.inputs bytes at

  pub staged-dmas : staged dmas d bytes at ≡ read (staged (listed (one_more (λ x y. nat_lt x.position y.position) dma)) d.dmas) (λ xs. gives (record d { dmas = xs })) bytes at
  staged-dmas =
      staged-list dmas.one (λ xs. record d { dmas = xs }) (λ x y. nat_lt x.position y.position) dma (λ xs bytes at. refl) d.dmas bytes at

-- a stage that reads a list and puts it in its place, and the stages after it
put-on : {X : Type 0} (stage : Stage StrataDraft) (rest : List (Stage StrataDraft)) (d : StrataDraft) (reader : Reader X) (set : X → StrataDraft) (next : X → Reader StrataDraft)
    → ((bytes : List ℕ) (at : ℕ) → staged stage d bytes at ≡ read reader (λ x. gives (set x)) bytes at)
    → ((x : X) (bytes : List ℕ) (at : ℕ) → all_of rest (set x) bytes at ≡ next x bytes at)
    → (bytes : List ℕ) (at : ℕ) → all_of (stage ∷ rest) d bytes at ≡ read reader next bytes at
put-on stage rest d reader set next is behind bytes at =
    rw (is bytes at)
    (then-then (reader bytes at) (λ x after. gives (set x) bytes after) (λ e after. all_of rest e bytes after)
    ∙ then-same (reader bytes at) _ _ (λ x after. behind x bytes after))

-- the sections, one after another, of entries of this shape
abbrev pub four : Shape → StrataDraft → Reader StrataDraft
four shape d =
    read (staged (listed (one_more sizes_rise (short_size shape))) d.sizes) (λ zs.
    read (staged (listed (one_more interrupts_rise (interrupt shape))) d.interrupts) (λ is.
    read (staged (listed (one_more (λ x y. true) input)) d.inputs) (λ ns.
    read (staged (listed (one_more (λ x y. nat_lt x.position y.position) dma)) d.dmas) (λ ds.
    gives (record d { sizes = zs; interrupts = is; inputs = ns; dmas = ds })))))

-- the stages of sizes, interrupts, inputs and DMAs read the four sections one after another
pub sections-are : (d : StrataDraft) (shape : Shape) → shape ≡ shape_of d → (bytes : List ℕ) (at : ℕ)
    → all_of (sizes ∷ interrupts ∷ inputs ∷ dmas ∷ []) d bytes at ≡ four shape d bytes at
sections-are d shape is =
    put-on sizes (interrupts ∷ inputs ∷ dmas ∷ []) d _ _ _ (staged-sizes d shape is) (λ zs.
    let e : StrataDraft = record d { sizes = zs } in
    put-on interrupts (inputs ∷ dmas ∷ []) e _ _ _ (staged-interrupts e shape is) (λ xs.
    let f : StrataDraft = record e { interrupts = xs } in
    put-on inputs (dmas ∷ []) f _ _ _ (staged-inputs f shape is) (λ ns.
    let g : StrataDraft = record f { inputs = ns } in
    put-on dmas [] g _ _ _ (staged-dmas g shape is) (λ ds bytes at. refl))))
