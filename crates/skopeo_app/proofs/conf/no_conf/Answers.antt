use Rattle.std.proofs.Common.{rules, [], Ok}
use Rattle.image_ref.specs.Calls.{Answers}
use Rattle.registries_conf.specs.ConfOf.{conf_in}
use Rattle.registries_conf.specs.declared.fault.ConfFault.TheVariants as fault
use Rattle.skopeo_app.proofs.ConfLemmas.{no_bytes}
use Rattle.skopeo_app.proofs.conf.no_conf.Goals as goal

pub returns-in-Ok : goal.returns-in-Ok
returns-in-Ok c =
    let said : Answers fault.Memory (Ok c.in-Ok.conf) (conf_in []) = search rules in
    no_bytes c.in-Ok.conf said
