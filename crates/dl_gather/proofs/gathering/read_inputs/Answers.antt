use Rattle.std.proofs.Common.{List, ◌++◌, map, flat_map, option_to_list, ap, sym, ◌∙◌, subst, length}
use Rattle.std.proofs.lemmas.List.{length-map}
use Rattle.std.proofs.lemmas.List.Elements.{Contains-append_left, Contains-append_right}
use Rattle.dl_files.specs.Seen.{Seen}
use Rattle.dl_plan.specs.declared.Sphere.{Sphere}
use Rattle.dl_plan.specs.Files.{input_names}
use Rattle.dl_plan.specs.Values.{plan_view, sphere_view}
use Rattle.spec_program.specs.Files.{plan_read, schedule_read, input_read, spheres_read}
use Rattle.spec_program.proofs.Turns.{next_before, next_behind}
use Rattle.dl_gather.specs.Halts.{Unread}
use Rattle.dl_gather.specs.Inputs.{ArePlannedRoles, schedule_view, sphere_view as sphere_inputs}
use Rattle.dl_gather.specs.Reads.{read_for_schedule, read_for_sphere}
use Rattle.dl_gather.proofs.Named.{named_by_parts, unread_by_parts}
use Rattle.dl_gather.proofs.Recordable.{plan_recordable}
use Rattle.dl_gather.proofs.Stopping.{err_then, halt_carried, ok_then, unread_in, schedule_there, input_there}
use Rattle.dl_gather.proofs.gathering.read_inputs.Goals as goal

pub returns-in_err-schedule-clause-halt : goal.returns-in_err-schedule-clause-halt
returns-in_err-schedule-clause-halt g c =
    let p = plan_view c.args.plan.now in
    let old = g.F.Files.seen c.args.files.now in
    let new = g.F.Files.seen c.read_schedule.new.files in
    let halt = c.in_err-schedule.field-0.0 in
    halt_carried c.from_residual.result halt (Unread (input_names p) (λ m. plan_read m p) old new) c.from_residual.ensures.1
    (unread_by_parts p (λ m. plan_read m p) old new halt
    (unread_in old new (read_for_schedule p.schedule) (named_by_parts p) (λ m. schedule_read m p.schedule) (λ m. plan_read m p) halt
    (record {
      absent = λ m e name x. err_then (schedule_read m p.schedule) _ name x;
      named = λ name is. Contains-append_left (read_for_schedule p.schedule) (option_to_list p.input ++ flat_map read_for_sphere p.spheres) name is;
      next = λ m e name n. next_before m (read_for_schedule p.schedule) (option_to_list p.input ++ flat_map read_for_sphere p.spheres) name n;
    })
    c.in_err-schedule.ensures.halt))

pub returns-in_err-input-clause-halt : goal.returns-in_err-input-clause-halt
returns-in_err-input-clause-halt g c =
    let p = plan_view c.args.plan.now in
    let old = g.F.Files.seen c.args.files.now in
    let new = g.F.Files.seen c.read_input.new.files in
    let schedule = schedule_view c.in_ok-schedule.schedule in
    let halt = c.in_err-input.field-0.0 in
    halt_carried c.from_residual-in_err-input.result halt (Unread (input_names p) (λ m. plan_read m p) old new) c.from_residual-in_err-input.ensures.1
    (unread_by_parts p (λ m. plan_read m p) old new halt
    (unread_in old new (option_to_list p.input) (named_by_parts p) (λ m. input_read m p.input) (λ m. plan_read m p) halt
    (record {
      absent = λ m e name x. ok_then (schedule_read m p.schedule) _ schedule (c.in_ok-schedule.ensures.read m e) ∙ err_then (input_read m p.input) _ name x;
      named =
          λ name is.
          Contains-append_right (read_for_schedule p.schedule) (option_to_list p.input ++ flat_map read_for_sphere p.spheres) name
          (Contains-append_left (option_to_list p.input) (flat_map read_for_sphere p.spheres) name is);
      next =
          λ m e name n.
          next_behind m (read_for_schedule p.schedule) (option_to_list p.input ++ flat_map read_for_sphere p.spheres) name (schedule_there m p.schedule schedule (c.in_ok-schedule.ensures.read m e))
          (next_before m (option_to_list p.input) (flat_map read_for_sphere p.spheres) name n);
    })
    (subst (λ (s : Seen). Unread (option_to_list p.input) (λ m. input_read m p.input) s new halt) c.in_ok-schedule.ensures.same c.in_err-input.ensures.halt)))

pub returns-in_err-spheres-clause-halt : goal.returns-in_err-spheres-clause-halt
returns-in_err-spheres-clause-halt g c =
    let p = plan_view c.args.plan.now in
    let old = g.F.Files.seen c.args.files.now in
    let new = g.F.Files.seen c.read_spheres.new.files in
    let schedule = schedule_view c.in_ok-schedule.schedule in
    let bytes = c.in_ok-input.input.items in
    let halt = c.in_err-spheres.field-0.0 in
    let same = c.in_ok-input.ensures.same ∙ c.in_ok-schedule.ensures.same in
    halt_carried c.from_residual-in_err-spheres.result halt (Unread (input_names p) (λ m. plan_read m p) old new) c.from_residual-in_err-spheres.ensures.1
    (unread_by_parts p (λ m. plan_read m p) old new halt
    (unread_in old new (flat_map read_for_sphere p.spheres) (named_by_parts p) (λ m. spheres_read m p.spheres) (λ m. plan_read m p) halt
    (record {
      absent =
          λ m e name x.
          ok_then (schedule_read m p.schedule) _ schedule (c.in_ok-schedule.ensures.read m e)
          ∙ ok_then (input_read m p.input) _ bytes (c.in_ok-input.ensures.read m (ap (λ (s : Seen). s.known) c.in_ok-schedule.ensures.same ∙ e))
          ∙ err_then (spheres_read m p.spheres) _ name x;
      named =
          λ name is.
          Contains-append_right (read_for_schedule p.schedule) (option_to_list p.input ++ flat_map read_for_sphere p.spheres) name
          (Contains-append_right (option_to_list p.input) (flat_map read_for_sphere p.spheres) name is);
      next =
          λ m e name n.
          next_behind m (read_for_schedule p.schedule) (option_to_list p.input ++ flat_map read_for_sphere p.spheres) name (schedule_there m p.schedule schedule (c.in_ok-schedule.ensures.read m e))
          (next_behind m (option_to_list p.input) (flat_map read_for_sphere p.spheres) name (input_there m p.input bytes (c.in_ok-input.ensures.read m (ap (λ (s : Seen). s.known) c.in_ok-schedule.ensures.same ∙ e))) n);
    })
    (subst (λ (s : Seen). Unread (flat_map read_for_sphere p.spheres) (λ m. spheres_read m p.spheres) s new halt) same
    (subst (λ (ss : List Sphere). Unread (flat_map read_for_sphere (map sphere_view ss)) (λ m. spheres_read m (map sphere_view ss)) (g.F.Files.seen c.read_input.new.files) new halt) c.deref.ensures.value c.in_err-spheres.ensures.halt))))

pub returns-clause-limits : goal.returns-clause-limits
returns-clause-limits g c =
    let p = plan_view c.args.plan.now in
    record {
      schedule = c.in_ok-schedule.ensures.few;
      count =
          length-map c.in_ok-spheres.spheres.items sphere_inputs
          ∙ c.in_ok-spheres.ensures.count
          ∙ ap (λ (ss : List Sphere). length ss) c.deref.ensures.value
          ∙ sym (length-map c.args.plan.now.spheres.items sphere_view);
      memories = c.in_ok-spheres.ensures.memories;
      roles =
          c.in_ok-spheres.ensures.roles p.sizes.chunk
          (subst (λ (ss : List Sphere). ArePlannedRoles p.sizes.chunk (map sphere_view ss)) (sym c.deref.ensures.value) (plan_recordable p c.requires));
    }
