use Rattle.std.proofs.Common.{ap}
use Rattle.std.specs.Option.{option_map}
use Rattle.transports.proofs.ImageLemmas.{signed_alone}
use Rattle.transports.proofs.folder_image.put_signatures.Goals as goal

pub returns-clause-alone : goal.returns-clause-alone
returns-clause-alone g c = λ jobs entry alone none.
    let e = c.in_ok-sign.ensures in
    signed_alone c.args.folder.now (option_map (λ d. d.now) c.args.part) c.args.signatures.now c.args.lane.now c.sign.new.lane e.few e.signed entry jobs alone (ap (option_map (λ d. d.now)) none)
