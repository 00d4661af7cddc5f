-- An image that the policy admits (containers-policy.json(5), "Policy Requirements"), as the value `Admitted` shows it; and
-- the fact that each such value stands for.
use Rattle.std.specs.Prelude.{◌-◌, ◌^◌, ◌<◌, List, ℕ, Option, length}
use Rattle.skopeo_outside.specs.Tree.{Tree}
use Rattle.skopeo_outside.specs.Helper.{Runs}
use Rattle.json_tree.specs.Tree.{tree as json}
use Rattle.image_ref.specs.Digest.{digest_text}
use Rattle.image_ref.specs.declared.place.Place.{Place}
use Rattle.digest_reader.specs.declared.job.Job.{Job}
use Rattle.digest_reader.specs.Digests.{digest}
use Rattle.copy_workers.specs.Jobs.{AreJobs}
use Rattle.manifest_v2s2.specs.declared.image.Image.{Image}
use Rattle.manifest_v2s2.specs.declared.kind.Kind.{Kind}
use Rattle.manifest_v2s2.specs.IsImage.{SaysImage}
use Rattle.manifest_convert.specs.Blobs.{AreJobsOf, descriptors}
use Rattle.policy_file.specs.PolicyLists.{PolicyLists}
use Rattle.policy_file.specs.declared.requirement.Requirement.{Requirement}
use Rattle.policy_scope.specs.Seen.{reference_in}
use Rattle.policy_gate.specs.Gate.{Case, AreHeld}
use Rattle.policy_gate.specs.Calls.{Gained}
use Rattle.admission.specs.Counts.{ListCounts}

-- the policy, the image as it is named, its manifest, what that is, its jobs and its signatures; the program that judges
-- these, the folder that paths of keys are seen from, the tree of the files that keys are read in, and what the helper told
-- before and after
pub record Admission : Type 0 where
  pub policy : PolicyLists
  pub place : Place
  pub manifest : List ℕ
  pub kind : Kind
  pub image : Image
  pub jobs : List Job
  pub signatures : List (List ℕ)
  pub program : Option (List ℕ)
  pub cwd : List ℕ
  pub files : Option Tree
  pub before : Runs
  pub after : Runs

-- what is put to the gate of it: the image as it is named, the digest of its manifest's bytes, and its signatures
abbrev pub case_of : Admission → Case
case_of image = record {
  subject = record { named = reference_in image.place; digest = digest_text (digest image.manifest) };
  signatures = image.signatures;
  program = image.program;
  cwd = image.cwd;
  tree = image.files;
}

-- the fact: every requirement of the list that the policy has for the image as it is named holds, over the runs that were
-- gained; the manifest says this image, by the format; and its jobs are its blobs, each one job
pub record IsAdmitted (image : Admission) : Type 0 where
  pub list : List Requirement
  pub counts : ListCounts image.policy image.place list
  pub gate : Gained image.before image.after (AreHeld (case_of image) list)
  pub is_image : SaysImage image.kind (json image.manifest) image.image
  pub jobs_are : AreJobsOf (descriptors image.image) image.jobs

-- its jobs are numbered from 1 and have different digests, and there are few enough for the workers
pub record HasJobs (image : Admission) : Type 0 where
  pub are : AreJobs image.jobs
  pub few : length image.jobs < 2 ^ 32 - 16

-- what holds of each `Admitted`
abbrev pub IsSound : Admission → Type 0
IsSound image = IsAdmitted image × HasJobs image
