-- What is put to the gate, and what a judged image is taken as, as the code holds it.
use Rattle.std.specs.Prelude.{ℕ, List, Option}
use Rattle.skopeo_outside.specs.Tree.{Tree}
use Rattle.skopeo_outside.specs.Helper.{Runs}
use Rattle.image_ref.specs.Digest.{digest_text}
use Rattle.image_ref.specs.declared.place.Place.{Place}
use Rattle.digest_reader.specs.Digests.{digest}
use Rattle.manifest_convert.specs.Blobs.{blobs}
use Rattle.policy_file.specs.PolicyLists.{PolicyLists}
use Rattle.policy_scope.specs.Seen.{reference_in}
use Rattle.policy_gate.specs.Gate.{Case}
use Rattle.transports.specs.declared.plan.CopyPlan.{CopyPlan}
use Rattle.admission.specs.Judged.{Submission}
use Rattle.admission.specs.Taken.{TakenImage}

-- the case of a manifest with its signatures, as the image at a place, over files that tell this tree
abbrev pub case_at : CopyPlan → Place → List ℕ → List (List ℕ) → Option Tree → Case
case_at plan place manifest signatures files = record {
  subject = record { named = reference_in place; digest = digest_text (digest manifest) };
  signatures = signatures;
  program = plan.verifier;
  cwd = plan.cwd;
  tree = files;
}

-- the image that is taken, by the tree that files told, and what the helper told before and after
abbrev pub taken_at : CopyPlan → PolicyLists → Submission → Option Tree → Runs → Runs → TakenImage
taken_at plan policy s tree before after = record {
  from = s.from;
  image = record {
    policy = policy;
    place = s.place;
    manifest = s.manifest;
    kind = s.kind;
    image = s.image;
    jobs = blobs s.image;
    signatures = s.signatures;
    program = plan.verifier;
    cwd = plan.cwd;
    files = tree;
    before = before;
    after = after;
  };
}
