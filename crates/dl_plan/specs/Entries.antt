-- What a plan's keys hold, before its numbers, its schedule, its roles and its names are judged.
use Rattle.std.specs.Prelude.{ℕ, ℤ, Bool, ◌&&◌, List, [], ◌∷◌, codes, bytes_eq, Option, Some, None, if◌then◌else◌}
use Rattle.std.specs.List.{list_all}
use Rattle.toml.specs.Data.{Data, Items, Members, get_member, as_array, as_table}
use Rattle.dl_plan.specs.declared.plan.Mode.{Mode}
use Rattle.dl_plan.specs.declared.sphere.RoleName.{RoleName}
use Rattle.dl_plan.specs.Keys.{number, text, optional_number, optional_text, list_of, has_only}
use Rattle.dl_plan.specs.Optional.{◌>>=◌, if_there, passes, each_of}

-- ---- rule 2: no other keys

-- the keys of a plan at the top
abbrev pub top_keys : List (List ℕ)
top_keys =
    codes "cores" ∷ codes "chunk" ∷ codes "buffer" ∷ codes "window" ∷ codes "depth" ∷ codes "signature" ∷ codes "seed" ∷ codes "events"
    ∷ codes "script" ∷ codes "input" ∷ codes "console" ∷ codes "report" ∷ codes "sphere" ∷ []

-- the keys of a sphere
abbrev pub sphere_keys : List (List ℕ)
sphere_keys =
    codes "image" ∷ codes "memory" ∷ codes "role" ∷ codes "mode" ∷ codes "version" ∷ codes "log" ∷ codes "strata" ∷ codes "from"
    ∷ codes "to" ∷ codes "epoch" ∷ codes "keep" ∷ codes "account" ∷ []

-- where this is a table, its keys are those of a sphere
abbrev pub has_sphere_keys : Data → Bool
has_sphere_keys d = passes (has_only sphere_keys) (as_table d)

-- where this is an array, the keys of each table in it are those of a sphere
abbrev pub all_have_sphere_keys : Data → Bool
all_have_sphere_keys d = passes (λ (ds : Items). list_all has_sphere_keys (list_of ds)) (as_array d)

-- each key is one of a plan at the top, or of a sphere in a sphere
abbrev pub has_known_keys : Members → Bool
has_known_keys ms = has_only top_keys ms && passes all_have_sphere_keys (get_member (codes "sphere") ms)

-- ---- rule 3: what has to be there is there, and each value is of its type

-- what a plan's top keys hold, except for its spheres
pub record TopEntries : Type 0 where
  pub cores : ℤ
  pub chunk : ℤ
  pub buffer : ℤ
  pub window : ℤ
  pub depth : Option ℤ
  pub signature : ℤ
  pub seed : Option ℤ
  pub events : Option ℤ
  pub script : Option (List ℕ)
  pub input : Option (List ℕ)
  pub console : Option (List ℕ)
  pub report : Option (List ℕ)

-- what a sphere's keys hold
pub record SphereEntries : Type 0 where
  pub image : List ℕ
  pub memory : ℤ
  pub role : RoleName
  pub mode : Option Mode
  pub version : Option ℤ
  pub log : Option (List ℕ)
  pub strata : Option (List ℕ)
  pub from : Option ℤ
  pub to : Option ℤ
  pub epoch : Option ℤ
  pub keep : Option ℤ
  pub account : Option (List ℕ)

-- what a plan's keys hold
pub record Entries : Type 0 where
  pub top : TopEntries
  pub spheres : List SphereEntries

-- the role of that name
abbrev pub role_named : List ℕ → Option RoleName
role_named name =
    if bytes_eq name (codes "plain") then Some RoleName.Plain
    else if bytes_eq name (codes "record") then Some RoleName.Record
    else if bytes_eq name (codes "replay") then Some RoleName.Replay
    else None

-- the mode of that name
abbrev pub mode_named : List ℕ → Option Mode
mode_named name =
    if bytes_eq name (codes "order-size") then Some Mode.OrderSize
    else if bytes_eq name (codes "order-only") then Some Mode.OrderOnly
    else if bytes_eq name (codes "picolog") then Some Mode.Picolog
    else None

-- the mode, if one is there
abbrev pub mode_at : Members → Option (Option Mode)
mode_at ms = optional_text ms (codes "mode") >>= if_there mode_named

abbrev pub top_of : Members → Option TopEntries
top_of ms =
    number ms (codes "cores") >>= λ cores.
    number ms (codes "chunk") >>= λ chunk.
    number ms (codes "buffer") >>= λ buffer.
    number ms (codes "window") >>= λ window.
    optional_number ms (codes "depth") >>= λ depth.
    number ms (codes "signature") >>= λ signature.
    optional_number ms (codes "seed") >>= λ seed.
    optional_number ms (codes "events") >>= λ events.
    optional_text ms (codes "script") >>= λ script.
    optional_text ms (codes "input") >>= λ input.
    optional_text ms (codes "console") >>= λ console.
    optional_text ms (codes "report") >>= λ report.
    Some (record {
      cores = cores;
      chunk = chunk;
      buffer = buffer;
      window = window;
      depth = depth;
      signature = signature;
      seed = seed;
      events = events;
      script = script;
      input = input;
      console = console;
      report = report;
    })

abbrev pub sphere_of : Members → Option SphereEntries
sphere_of ms =
    text ms (codes "image") >>= λ image.
    number ms (codes "memory") >>= λ memory.
    text ms (codes "role") >>= role_named >>= λ role.
    mode_at ms >>= λ mode.
    optional_number ms (codes "version") >>= λ version.
    optional_text ms (codes "log") >>= λ log.
    optional_text ms (codes "strata") >>= λ strata.
    optional_number ms (codes "from") >>= λ from.
    optional_number ms (codes "to") >>= λ to.
    optional_number ms (codes "epoch") >>= λ epoch.
    optional_number ms (codes "keep") >>= λ keep.
    optional_text ms (codes "account") >>= λ account.
    Some (record {
      image = image;
      memory = memory;
      role = role;
      mode = mode;
      version = version;
      log = log;
      strata = strata;
      from = from;
      to = to;
      epoch = epoch;
      keep = keep;
      account = account;
    })

-- one item of the array of spheres
abbrev pub sphere_in : Data → Option SphereEntries
sphere_in d = as_table d >>= sphere_of

-- the spheres at their key, an array of tables; without it there are none
abbrev pub spheres_at : Option Data → Option (List SphereEntries)
spheres_at None = Some []
spheres_at (Some d) = as_array d >>= λ ds. each_of sphere_in (list_of ds)

abbrev pub entries_of : Members → Option Entries
entries_of ms =
    top_of ms >>= λ top.
    spheres_at (get_member (codes "sphere") ms) >>= λ spheres.
    Some (record { top = top; spheres = spheres })
