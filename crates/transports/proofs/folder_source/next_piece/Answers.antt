use Rattle.std.proofs.Common.{rules, ◌≤◌, ◌+◌, ◌≡◌, Some, None, Err, IfSome, Option, ℕ, length}
use Rattle.skopeo_outside.specs.Tree.{file_at}
use Rattle.skopeo_outside.specs.Outside.{HasCause}
use Rattle.layouts.specs.Pieces.{GivesPiece}
use Rattle.transports.specs.Calls.{cause_by_stop}
use Rattle.transports.proofs.BlobLemmas.{file_given, file_absent, file_stopped}
use Rattle.transports.proofs.folder_source.next_piece.Goals as goal

pub returns-in-Err-clause-gives : goal.returns-in-Err-clause-gives
returns-in-Err-clause-gives g c = λ source entry given has.
    let why : HasCause {T = Option ℕ} c.args.lane.now.files.faults (g.F.Files.faults c.read_piece.new.files) (Err c.in-Err.stop) = search rules in
    let is : c.caused_by.result ≡ cause_by_stop c.in-Err.stop (g.F.Files.faults c.read_piece.new.files) = search rules in
    file_stopped {B = Option ℕ} source c.args.job.now c.args.path.now c.args.given.now given entry c.args.lane.now _ c.in-Err.stop c.caused_by.result has (search rules) (search rules) why is c.caused_by.ensures.unjudged

pub returns-in-Ok-None-clause-gives : goal.returns-in-Ok-None-clause-gives
returns-in-Ok-None-clause-gives g c = λ source entry given has.
    let gone : IfSome c.args.lane.now.files.tree (λ t. file_at t c.args.path.now ≡ None) = search rules in
    file_absent source c.args.job.now c.args.path.now c.args.given.now c.args.job.now.digest given entry c.args.lane.now _ has (search rules) (search rules) (search rules) gone

pub returns-clause-gives : goal.returns-clause-gives
returns-clause-gives g c = λ source entry given has.
    let piece : IfSome c.args.lane.now.files.tree (λ t. GivesPiece (file_at t c.args.path.now) c.args.given.now c.read_piece.new.into (Some c.in-Ok-Some.count)) = search rules in
    let few : c.in-Ok-Some.count ≤ length c.read_piece.new.into = search rules in
    file_given source c.args.job.now c.args.path.now c.args.given.now (c.args.given.now + c.in-Ok-Some.count) c.in-Ok-Some.count given c.read_piece.new.into entry c.args.lane.now _ has (search rules) few (search rules) (search rules) piece
