use Rattle.std.proofs.Common.{rules, ◌≡◌, ◌-◌, ◌^◌, ◌<◌, length}
use Rattle.json_tree.specs.Tree.{tree}
use Rattle.manifest_v2s2.specs.IsImage.{SaysImage}
use Rattle.manifest_convert.specs.Blobs.{descriptors, blobs}
use Rattle.policy_scope.specs.Chosen.{chosen}
use Rattle.policy_gate.specs.Gate.{AreHeld}
use Rattle.policy_gate.specs.Calls.{Gained}
use Rattle.admission.specs.Judged.{Submission, case_in}
use Rattle.admission.proofs.AdmitLemmas.{is_sound}
use Rattle.admission.proofs.admitted.take.Goals as goal

pub invariant_of-result : goal.invariant_of-result
invariant_of-result g c =
    let few : length (descriptors c.submission.inside.image) < 2 ^ 32 - 16 = search rules in
    let same : c.in-Ok.jobs ≡ blobs c.submission.inside.image = search rules in
    let is : SaysImage c.submission.inside.kind (tree c.submission.inside.manifest) c.submission.inside.image = search rules in
    let s : Submission = record { from = c.submission.inside.from; place = c.submission.inside.place; manifest = c.submission.inside.manifest; kind = c.submission.inside.kind; image = c.submission.inside.image; signatures = c.submission.inside.signatures } in
    let held : Gained (g.H.Helper.runs c.args.before.value) (g.H.Helper.runs c.args.after.value) (AreHeld (case_in c.args.plan.now s (g.F.Files.tree c.args.files.value)) (chosen c.args.policy.now s.place).list) = search rules in
    rw (c.of.ensures, c.of-2.ensures, c.of-3.ensures, c.of-4.ensures)
    (is_sound c.args.plan.now c.args.policy.now s c.in-Ok.jobs (g.F.Files.tree c.args.files.value) (g.H.Helper.runs c.args.before.value) (g.H.Helper.runs c.args.after.value) held is same few)
