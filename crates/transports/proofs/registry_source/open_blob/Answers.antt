use Rattle.std.proofs.Common.{rules, Ok}
use Rattle.registry_http.specs.Requests.{blob_request}
use Rattle.transports.proofs.RegistryLemmas.{opened_by, fails_by, opens_later}
use Rattle.transports.proofs.registry_source.open_blob.Goals as goal

pub returns-in-Ok-clause-opened : goal.returns-in-Ok-clause-opened
returns-in-Ok-clause-opened g c =
    opened_by c.args.reference.now c.in_ok-registry.registry c.args.job.now c.in-Ok.answer c.args.lane.now _ (search rules) (search rules) (search rules) (search rules) (search rules) (search rules)

pub returns-in-Ok-clause-later : goal.returns-in-Ok-clause-later
returns-in-Ok-clause-later g c =
    opens_later (blob_request c.in_ok-registry.registry c.args.job.now.digest) c.args.lane.now _ (Ok c.in-Ok.answer) (search rules) (search rules) (search rules)

pub returns-clause-failed : goal.returns-clause-failed
returns-clause-failed g c =
    fails_by c.args.reference.now c.in_ok-registry.registry c.args.job.now c.in-Err.fault c.fault_by.result c.args.lane.now _ (search rules) (search rules) (search rules) (search rules)
