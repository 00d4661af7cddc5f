use Rattle.std.proofs.Common.{rules, ◌≡◌, false, Result, Err}
use Rattle.registries_conf.specs.Settings.{Settings}
use Rattle.skopeo_app.specs.declared.refusal.CommandRefusal.{CommandRefusal}
use Rattle.skopeo_app.specs.Usual.{usual_path}
use Rattle.skopeo_app.specs.Conf.{conf_name, conf_file}
use Rattle.skopeo_app.proofs.ReadLemmas.{lost_reads, found_reads}
use Rattle.skopeo_app.proofs.conf.read_usual.Goals as goal

pub returns-in_err-path : goal.returns-in_err-path
returns-in_err-path g c =
    let r : ◌≡◌ {A = Result Settings CommandRefusal} c.from_residual.result (Err c.in_err-path.field-0.0) = search rules in
    record { reads = rw (r) (lost_reads (λ t. usual_path t c.args.home.now c.args.cwd.now conf_name) _ _ _ c.in_err-path.field-0.0 c.in_err-path.ensures.reads) }

pub returns : goal.returns
returns g c =
    let is : c.as_str.result.now ≡ c.in_ok-path.path = search rules in
    record { reads = found_reads (λ t. usual_path t c.args.home.now c.args.cwd.now conf_name) (conf_file false) c.in_ok-path.path c.as_str.result.now _ _ _ c.read_conf_file.result c.in_ok-path.ensures.reads is c.read_conf_file.ensures.reads }
