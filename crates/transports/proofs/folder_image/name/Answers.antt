use Rattle.std.proofs.Common.{rules, ◌≡◌, Err}
use Rattle.std.specs.Option.{option_map}
use Rattle.skopeo_outside.specs.Outside.{Told}
use Rattle.layouts.specs.Trees.{OnlyAt, IsPut}
use Rattle.layouts.specs.Faults.{LayoutCause}
use Rattle.transports.specs.declared.dest.Dest.TheVariants.{Folder}
use Rattle.transports.specs.Beside.{manifest_at, manifest_part_at}
use Rattle.transports.specs.Calls.{by_fault}
use Rattle.transports.proofs.FolderLemmas.{later_told}
use Rattle.transports.proofs.ReadyLemmas.{put_done, put_stopped}
use Rattle.transports.proofs.folder_image.name.Goals as goal

pub returns-in-Err-clause-ends : goal.returns-in-Err-clause-ends
returns-in-Err-clause-ends g c =
    let cut = OnlyAt (manifest_part_at c.args.folder.now (option_map (λ d. d.now) c.args.part)) in
    let cause : LayoutCause {A = Unit {0}} c.args.lane.now.files.faults (g.F.Files.faults c.put_manifest.new.files) (Err c.in-Err.fault) = search rules in
    let is : c.refused_in.result ≡ by_fault c.in-Err.fault (g.F.Files.faults c.put_manifest.new.files) = search rules in
    let told : Told cut c.args.lane.now.files.tree (g.F.Files.tree c.put_manifest.new.files) = search rules in
    put_stopped (Folder c.args.folder.now) c.args.lane.now _ c.in-Err.fault c.refused_in.result (later_told cut c.args.lane.now _ (search rules) told (search rules)) cause is

pub returns-clause-ends : goal.returns-clause-ends
returns-clause-ends g c =
    let part = option_map (λ d. d.now) c.args.part in
    let put = IsPut (manifest_part_at c.args.folder.now part) (manifest_at c.args.folder.now part) c.args.bytes.now in
    let told : Told put c.args.lane.now.files.tree (g.F.Files.tree c.put_manifest.new.files) = search rules in
    put_done (Folder c.args.folder.now) c.args.lane.now _ c.in-Ok.field-0 (later_told put c.args.lane.now _ (search rules) told (search rules))
