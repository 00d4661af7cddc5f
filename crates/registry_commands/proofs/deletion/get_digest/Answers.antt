use Rattle.std.proofs.Common.{◌≡◌, [], ℕ, ap, sym, subst, rules}
use Rattle.skopeo_outside.specs.LaneTold.{WireTold, LaneTold}
use Rattle.skopeo_outside.specs.Wire.{Conversations}
use Rattle.skopeo_outside.specs.declared.words.Step.TheVariants as step
use Rattle.http_exchange.specs.Plain.{GainsPlain}
use Rattle.registry_http.specs.Requests.{manifest_request}
use Rattle.registry_http.specs.Rows.{manifest_row}
use Rattle.registry_http.specs.Steps.{Steps, CountsStep, most_manifest_bytes}
use Rattle.registry_commands.proofs.DeleteLemmas.{gets_by}
use Rattle.registry_commands.proofs.deletion.get_digest.Goals as goal

pub returns-clause-got : goal.returns-clause-got
returns-clause-got g c =
    let call = c.get_manifest-answer in
    let new : WireTold = record { talks = g.W.Wire.conversations call.new.wire; faults = g.W.Wire.faults call.new.wire; is_open = g.W.Wire.is_open call.new.wire } in
    let talks : g.W.Wire.conversations c.lane.inside.to ≡ c.args.lane.now.to.talks = ap (λ (l : LaneTold). l.to.talks) c.lane.view_is in
    let faults : g.W.Wire.faults c.lane.inside.to ≡ c.args.lane.now.to.faults = ap (λ (l : LaneTold). l.to.faults) c.lane.view_is in
    gets_by c.args.registry.now c.args.name.now _ c.args.lane.now.to new call.result c.judged.result
    (subst (λ (t : Conversations). Steps step.Manifest (manifest_request c.args.registry.now c.args.name.now) [] most_manifest_bytes (manifest_row step.Manifest) t new.talks call.result) talks call.ensures.step)
    (subst (λ (t : Conversations). GainsPlain t new.talks) talks call.ensures.plain)
    (subst (λ (n : ℕ). CountsStep n new.faults call.result) faults call.ensures.faults) call.ensures.closed (search rules)
