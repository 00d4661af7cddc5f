use Rattle.std.proofs.Common.{rules, List, ℕ, Err, Ok, IfSome}
use Rattle.std.specs.Option.{option_map}
use Rattle.layouts.specs.Faults.{Answers, LayoutCause}
use Rattle.layouts.specs.Source.{AreSignaturesIn}
use Rattle.transports.specs.Calls.{IsRefused}
use Rattle.transports.proofs.FolderLemmas.{signatures_refused, signatures_ended}
use Rattle.transports.proofs.folder_source.read_signatures.Goals as goal

pub returns-in-Err-clause-ends : goal.returns-in-Err-clause-ends
returns-in-Err-clause-ends g c = λ store.
    let part = option_map (λ d. d.now) c.args.part in
    let read : IfSome c.args.lane.now.files.tree (λ t. Answers (AreSignaturesIn t c.args.folder.now part) (Err c.in-Err.fault)) = search rules in
    let cause : LayoutCause {A = List (List ℕ)} c.args.lane.now.files.faults (g.F.Files.faults c.read_signatures.new.files) (Err c.in-Err.fault) = search rules in
    let is : IsRefused c.args.folder.now (g.F.Files.faults c.read_signatures.new.files) c.in-Err.fault c.refused.result = rw (← c.folder.ensures, ← c.faults.ensures) c.refused.ensures.is in
    signatures_refused {B = List (List ℕ)} c.args.folder.now store part c.args.lane.now _ c.in-Err.fault c.refused.result (search rules) (search rules) cause read is

pub returns-clause-ends : goal.returns-clause-ends
returns-clause-ends g c = λ store.
    let part = option_map (λ d. d.now) c.args.part in
    let read : IfSome c.args.lane.now.files.tree (λ t. Answers (AreSignaturesIn t c.args.folder.now part) (Ok c.in-Ok.signatures)) = search rules in
    signatures_ended c.args.folder.now store part c.args.lane.now _ c.in-Ok.signatures (search rules) (search rules) (search rules) read
