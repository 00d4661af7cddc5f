use Rattle.std.proofs.Common.{rules, ◌≡◌, Err, length}
use Rattle.std.specs.Option.{option_map}
use Rattle.skopeo_outside.specs.Outside.{Told}
use Rattle.layouts.specs.Names.{prefix_of}
use Rattle.layouts.specs.Written.{AreSigned, AreSignedInPart}
use Rattle.layouts.specs.Faults.{LayoutCause}
use Rattle.transports.specs.declared.dest.Dest.TheVariants.{Folder}
use Rattle.transports.specs.Calls.{by_fault}
use Rattle.transports.proofs.FolderLemmas.{later_told}
use Rattle.transports.proofs.ReadyLemmas.{put_done, put_stopped}
use Rattle.transports.proofs.folder_image.sign.Goals as goal

pub returns-in-Err-clause-ends : goal.returns-in-Err-clause-ends
returns-in-Err-clause-ends g c =
    let prefix = prefix_of (option_map (λ d. d.now) c.args.part) in
    let cause : LayoutCause {A = Unit {0}} c.args.lane.now.files.faults (g.F.Files.faults c.put_signatures.new.files) (Err c.in-Err.fault) = search rules in
    let is : c.refused_in.result ≡ by_fault c.in-Err.fault (g.F.Files.faults c.put_signatures.new.files) = search rules in
    let told : Told (AreSignedInPart c.args.folder.now prefix c.args.signatures.now) c.args.lane.now.files.tree (g.F.Files.tree c.put_signatures.new.files) = search rules in
    put_stopped (Folder c.args.folder.now) c.args.lane.now _ c.in-Err.fault c.refused_in.result (later_told (AreSignedInPart c.args.folder.now prefix c.args.signatures.now) c.args.lane.now _ (search rules) told (search rules)) cause is

pub returns-clause-ends : goal.returns-clause-ends
returns-clause-ends g c =
    let prefix = prefix_of (option_map (λ d. d.now) c.args.part) in
    let all = AreSigned c.args.folder.now prefix c.args.signatures.now (length c.args.signatures.now) in
    let told : Told all c.args.lane.now.files.tree (g.F.Files.tree c.put_signatures.new.files) = search rules in
    put_done (Folder c.args.folder.now) c.args.lane.now _ c.in-Ok.field-0 (later_told all c.args.lane.now _ (search rules) told (search rules))
