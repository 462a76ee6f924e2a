-- The sphere of the definitions that the code's past makes, in a role.
use Rattle.std.specs.Prelude.{ℕ, List, Option}
use Rattle.dl_entry.specs.declared.Commit.{Commit}
use Rattle.dl_entry.specs.declared.Request.{Request}
use Rattle.spec_isa.specs.declared.thread.Parts.{Parts}
use Rattle.spec_sphere.specs.sphere.Spheres.{Sphere, Role}
use Rattle.dl_kernel.specs.declared.past.Past.{Past}
use Rattle.dl_kernel.specs.InOrder.{listed}

-- a sphere of these parts, whose first commit here has this number
abbrev pub sphere_with : (first : ℕ) → List ℕ → List Parts → List Commit → (last : Option ℕ) → Option Request → Role → Sphere
sphere_with first m threads commits last request role =
    record {
      memory = m;
      threads = threads;
      progress = record { first = first; commits = commits; last = last; request = request };
      role = role;
    }

-- a sphere that has come so far, in this role
abbrev pub sphere_at : Past → Role → Sphere
sphere_at past role =
    sphere_with past.first past.state.memory past.state.threads (listed past.commits) past.state.last past.state.request role
