use Rattle.std.proofs.Common.{rules, ◌≡◌, Err, IfSome}
use Rattle.skopeo_outside.specs.Outside.{HasCause}
use Rattle.skopeo_outside.specs.Tree.{file_at}
use Rattle.skopeo_outside.specs.Steps.{Says}
use Rattle.layouts.specs.Bounds.{limited}
use Rattle.layouts.specs.declared.read.Limited.{Limited}
use Rattle.skopeo_app.specs.Courses.{lane_course}
use Rattle.skopeo_app.specs.Conf.{conf_from}
use Rattle.skopeo_app.specs.Reads.{stopped}
use Rattle.skopeo_app.proofs.ReadLemmas.{stopped_reads, file_reads}
use Rattle.skopeo_app.proofs.ConfLemmas.{from_other}
use Rattle.skopeo_app.proofs.conf.read_conf_file.Goals as goal

pub returns-in-Err : goal.returns-in-Err
returns-in-Err g c =
    let cause : HasCause {T = Limited} c.args.lane.now.files.faults (g.F.Files.faults c.read_limited.new.files) (Err c.in-Err.stop) = search rules in
    let is : c.stopped.result ≡ stopped c.in-Err.stop (g.F.Files.faults c.read_limited.new.files) = search rules in
    record { reads = stopped_reads {B = Limited} _ c.args.lane.now _ c.in-Err.stop c.stopped.result (search rules) cause is }

pub returns : goal.returns
returns g c =
    let was : IfSome c.args.lane.now.files.tree (λ t. c.in-Ok.file ≡ limited (file_at t c.args.path.now)) = search rules in
    let says : Says lane_course (conf_from c.args.named c.args.path.now c.in-Ok.file) c.conf_from.result = search rules in
    record { reads = file_reads (conf_from c.args.named c.args.path.now) c.args.path.now c.in-Ok.file c.args.lane.now _ c.conf_from.result (from_other c.args.named c.args.path.now c.in-Ok.file) (search rules) was says }
