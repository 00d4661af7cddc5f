use Rattle.std.proofs.Common.{rules, ◌≡◌, Err, IfSome}
use Rattle.std.specs.Option.{option_map}
use Rattle.skopeo_outside.specs.Outside.{HasCause}
use Rattle.skopeo_outside.specs.Tree.{file_at}
use Rattle.skopeo_outside.specs.Folders.{joined}
use Rattle.skopeo_outside.specs.Steps.{Says}
use Rattle.layouts.specs.Bounds.{limited}
use Rattle.layouts.specs.Names.{manifest_name}
use Rattle.layouts.specs.declared.read.Limited.{Limited}
use Rattle.transports.specs.Courses.{lane_course}
use Rattle.transports.specs.Given.{manifest_in}
use Rattle.transports.specs.Calls.{by_stop}
use Rattle.transports.proofs.FolderLemmas.{files_stopped, manifest_ended}
use Rattle.transports.proofs.folder_source.read_manifest.Goals as goal

pub returns-in-Err-clause-ends : goal.returns-in-Err-clause-ends
returns-in-Err-clause-ends g c =
    let cause : HasCause {T = Limited} c.args.lane.now.files.faults (g.F.Files.faults c.manifest_file.new.files) (Err c.in-Err.stop) = search rules in
    let is : c.refused_by.result ≡ by_stop c.in-Err.stop (g.F.Files.faults c.manifest_file.new.files) = search rules in
    files_stopped {B = Limited} _ c.args.lane.now _ c.in-Err.stop c.refused_by.result (search rules) (search rules) cause is

pub returns-clause-ends : goal.returns-clause-ends
returns-clause-ends g c =
    let part = option_map (λ d. d.now) c.args.part in
    let read : IfSome c.args.lane.now.files.tree (λ t. c.in-Ok.file ≡ limited (file_at t (joined c.args.folder.now (manifest_name part)))) = search rules in
    let says : Says lane_course (manifest_in c.args.folder.now c.in-Ok.file) c.manifest_in.result = search rules in
    manifest_ended c.args.folder.now part c.in-Ok.file c.args.lane.now _ c.manifest_in.result (search rules) (search rules) (search rules) read says
