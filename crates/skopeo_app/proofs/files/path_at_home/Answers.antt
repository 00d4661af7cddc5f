use Rattle.std.proofs.Common.{rules, ◌≡◌, ◌∙◌, sym, ℕ, List, Option, None, Some, Result, Err, IfSome, length}
use Rattle.std.specs.Option.{option_map}
use Rattle.skopeo_outside.specs.Outside.{HasCause}
use Rattle.skopeo_outside.specs.Tree.{file_at}
use Rattle.transports.specs.declared.refusal.Refusal.TheVariants as image
use Rattle.skopeo_app.specs.declared.refusal.CommandRefusal.{CommandRefusal}
use Rattle.skopeo_app.specs.declared.refusal.CommandRefusal.TheVariants.{Image}
use Rattle.skopeo_app.specs.Usual.{user_path}
use Rattle.skopeo_app.specs.Reads.{stopped}
use Rattle.skopeo_app.proofs.ReadLemmas.{quiet_same, stopped_reads, memory_reads, user_reads, system_reads}
use Rattle.skopeo_app.proofs.files.path_at_home.Goals as goal

pub returns-in_err-path : goal.returns-in_err-path
returns-in_err-path g c =
    let r : ◌≡◌ {A = Result (List ℕ) CommandRefusal} c.from_residual.result (Err (Image image.Memory)) = search rules in
    record { reads = rw (r) (memory_reads _ c.args.lane.now c.args.lane.now (quiet_same c.args.lane.now)) }

pub returns-in-Err : goal.returns-in-Err
returns-in-Err g c =
    let cause : HasCause {T = Option ℕ} c.args.lane.now.files.faults (g.F.Files.faults c.size.new.self) (Err c.in-Err.stop) = search rules in
    let is : c.stopped.result ≡ stopped c.in-Err.stop (g.F.Files.faults c.size.new.self) = search rules in
    record { reads = stopped_reads {B = Option ℕ} _ c.args.lane.now _ c.in-Err.stop c.stopped.result (search rules) cause is }

pub returns-in-Ok-Some : goal.returns-in-Ok-Some
returns-in-Ok-Some g c =
    let ask : c.as_str.result.now ≡ user_path c.args.home.now c.args.cwd.now c.args.name.now = search rules in
    let there : IfSome c.args.lane.now.files.tree (λ t. Some c.in-Ok-Some.field-0-0 ≡ option_map length (file_at t c.as_str.result.now)) = search rules in
    let is : c.as_str.result.now ≡ c.in_ok-path.path = search rules in
    record { reads = user_reads c.args.home.now c.args.cwd.now c.args.name.now c.in_ok-path.path c.in-Ok-Some.field-0-0 c.args.lane.now _ c.requires.some (sym is ∙ ask) (search rules) (rw (← is) there) }

pub returns : goal.returns
returns g c =
    let ask : c.as_str.result.now ≡ user_path c.args.home.now c.args.cwd.now c.args.name.now = search rules in
    let none : IfSome c.args.lane.now.files.tree (λ t. None ≡ option_map length (file_at t c.as_str.result.now)) = search rules in
    record { reads = system_reads c.args.home.now c.args.cwd.now c.args.name.now c.as_str.result.now c.args.lane.now _ c.system_file.result ask c.system_file.ensures.path c.system_file.ensures.memory (search rules) none }
