use Rattle.std.proofs.Common.{ap}
use Rattle.std.specs.Option.{option_map}
use Rattle.transports.proofs.ImageLemmas.{named_alone}
use Rattle.transports.proofs.folder_image.put_manifest.Goals as goal

pub returns-clause-alone : goal.returns-clause-alone
returns-clause-alone g c = λ jobs signatures entry alone none.
    named_alone c.args.folder.now (option_map (λ d. d.now) c.args.part) c.args.bytes.now c.args.lane.now c.name.new.lane c.in_ok-name.ensures.named entry jobs signatures alone (ap (option_map (λ d. d.now)) none)
