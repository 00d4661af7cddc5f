use Rattle.std.proofs.Common.{rules, ◌≡◌, Err, Ok, IfSome, false}
use Rattle.layouts.specs.Faults.{Answers, LayoutCause, is_free}
use Rattle.skopeo_outside.specs.Outside.{Told}
use Rattle.layouts.specs.Destination.{JudgesDestination, IsReady, IsHalfReady}
use Rattle.transports.specs.Calls.{IsRefusedThere}
use Rattle.transports.proofs.FolderLemmas.{later_told}
use Rattle.transports.proofs.ReadyLemmas.{taken, not_taken, ready_works}
use Rattle.transports.proofs.folder_image.prepare_folder.Goals as goal

pub returns-in-Err-clause-ends : goal.returns-in-Err-clause-ends
returns-in-Err-clause-ends g c =
    let judged : IfSome c.args.lane.now.files.tree (λ t. Answers (JudgesDestination t c.args.folder.now) (Err c.in-Err.fault)) = search rules in
    let cause : LayoutCause {A = Unit {0}} c.args.lane.now.files.faults (g.F.Files.faults c.prepare.new.files) (Err c.in-Err.fault) = search rules in
    let same : is_free c.in-Err.fault ≡ false → g.F.Files.tree c.prepare.new.files ≡ c.args.lane.now.files.tree = search rules in
    let is : IsRefusedThere c.args.folder.now (g.F.Files.faults c.prepare.new.files) c.in-Err.fault c.refused_there.result = rw (← c.folder.ensures, ← c.faults.ensures) c.refused_there.ensures.is in
    let half : Told (IsHalfReady c.args.folder.now) c.args.lane.now.files.tree (g.F.Files.tree c.prepare.new.files) = search rules in
    not_taken c.args.folder.now c.args.lane.now _ c.in-Err.fault c.refused_there.result (search rules) (later_told (IsHalfReady c.args.folder.now) c.args.lane.now _ (search rules) half (search rules)) cause judged same is

pub returns-clause-ends : goal.returns-clause-ends
returns-clause-ends g c =
    let judged : IfSome c.args.lane.now.files.tree (λ t. Answers (JudgesDestination t c.args.folder.now) (Ok c.in-Ok.field-0)) = search rules in
    let ready : Told (IsReady c.args.folder.now) c.args.lane.now.files.tree (g.F.Files.tree c.prepare.new.files) = search rules in
    taken c.args.folder.now c.args.lane.now _ c.in-Ok.field-0 (later_told (IsReady c.args.folder.now) c.args.lane.now _ (search rules) ready (search rules)) judged
    (ready_works c.args.folder.now c.args.lane.now _ ready c.requires.first (search rules) (search rules))
