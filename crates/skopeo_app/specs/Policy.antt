-- Which policy file counts, and what it says (skopeo(1), `--policy` and `--insecure-policy`; containers-policy.json(5)).
use Rattle.std.specs.Prelude.{◌≡◌, List, ℕ, codes, Result, Ok, Err}
use Rattle.skopeo_outside.specs.Tree.{Tree, file_at}
use Rattle.skopeo_outside.specs.OnLanes.{LaneStep}
use Rattle.layouts.specs.Bounds.{limited}
use Rattle.layouts.specs.declared.read.Limited.{Limited}
use Rattle.layouts.specs.declared.read.Limited.TheVariants.{Absent, TooLong, Whole}
use Rattle.policy_file.specs.PolicyLists.{PolicyLists, accepting}
use Rattle.policy_file.specs.PolicyOf.{policy_in}
use Rattle.policy_file.specs.declared.fault.PolicyFault.{PolicyFault}
use Rattle.policy_file.specs.declared.fault.PolicyFault.TheVariants as fault
use Rattle.transports.specs.declared.refusal.Refusal.TheVariants as image
use Rattle.transports.specs.Has.{IsUntouched}
use Rattle.skopeo_app.specs.declared.refusal.CommandRefusal.{CommandRefusal}
use Rattle.skopeo_app.specs.declared.refusal.CommandRefusal.TheVariants.{PolicyMissing, PolicyInvalid, PolicyTooLarge, Image}
use Rattle.skopeo_app.specs.declared.task.PolicyChoice.{PolicyChoice}
use Rattle.skopeo_app.specs.declared.task.PolicyChoice.TheVariants.{Anything, Named, Usual}
use Rattle.skopeo_app.specs.Usual.{usual_path, by_tree}

-- the name of a policy file
abbrev pub policy_name : List ℕ
policy_name = codes "policy.json"

-- a policy, or the first fault of its file
abbrev pub or_invalid : List ℕ → Result PolicyLists PolicyFault → Result PolicyLists CommandRefusal
or_invalid path (Ok policy) = Ok policy
or_invalid path (Err (fault.Refused kind member)) = Err (PolicyInvalid path kind member)
or_invalid path (Err fault.Memory) = Err (Image image.Memory)

-- the policy of a file that is there, not too long and in the grammar
unfoldable pub policy_from : List ℕ → Limited → Result PolicyLists CommandRefusal
policy_from path Absent = Err (PolicyMissing path)
policy_from path TooLong = Err PolicyTooLarge
policy_from path (Whole bytes) = or_invalid path (policy_in bytes)

abbrev pub policy_file : Tree → List ℕ → Result PolicyLists CommandRefusal
policy_file t path = policy_from path (limited (file_at t path))

-- the policy that counts, by the files of one lane
abbrev pub policy_by : List ℕ → List ℕ → PolicyChoice → LaneStep CommandRefusal PolicyLists
policy_by home cwd Anything = λ old new r. r ≡ Ok accepting
policy_by home cwd (Named path) = by_tree (λ t. policy_file t path)
policy_by home cwd Usual = by_tree (λ t. policy_file t (usual_path t home cwd policy_name))

-- the step that reads it; it touches nothing
unfoldable pub policy_end : List ℕ → List ℕ → PolicyChoice → LaneStep CommandRefusal PolicyLists
policy_end home cwd choice old new r = policy_by home cwd choice old new r × IsUntouched old new
