-- What the program's own structs stand for.
use Rattle.std.specs.Prelude.{ℕ, List, map, option_copied}
use Rattle.std.specs.Borrow.{Bor}
use Rattle.dl_plan.specs.declared.inputs.Input.{Input}
use Rattle.dl_plan.specs.declared.outputs.Output.{Output}
use Rattle.dl_plan.specs.declared.entries.Entries.{Entries as EntriesStruct}
use Rattle.dl_plan.specs.declared.sphere.SphereEntries.{SphereEntries as SphereStruct}
use Rattle.dl_plan.specs.declared.top.TopEntries.{TopEntries as TopStruct}
use Rattle.dl_plan.specs.Entries.{TopEntries, SphereEntries, Entries}
use Rattle.dl_plan.specs.Files.{InputValues, OutputValues}

abbrev pub top_view : TopStruct → TopEntries
top_view t = record {
  cores = t.cores;
  chunk = t.chunk;
  buffer = t.buffer;
  window = t.window;
  depth = t.depth;
  signature = t.signature;
  seed = t.seed;
  events = t.events;
  script = option_copied t.script;
  input = option_copied t.input;
  console = option_copied t.console;
  report = option_copied t.report;
}

abbrev pub entry_view : SphereStruct → SphereEntries
entry_view s = record {
  image = s.image.now;
  memory = s.memory;
  role = s.role;
  mode = s.mode;
  version = s.version;
  log = option_copied s.log;
  strata = option_copied s.strata;
  from = s.from;
  to = s.to;
  epoch = s.epoch;
  keep = s.keep;
  account = option_copied s.account;
}

abbrev pub entries_view : EntriesStruct → Entries
entries_view e = record { top = top_view e.top; spheres = map entry_view e.spheres.items }

-- the bytes of some texts
abbrev pub texts : List (Bor (List ℕ)) → List (List ℕ)
texts names = map (λ n. n.now) names

abbrev pub input_view : Input → InputValues
input_view i = record { name = i.name.now; source = i.source }

abbrev pub output_view : Output → OutputValues
output_view o = record { name = o.name.now; product = o.product }
