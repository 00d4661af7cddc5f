-- The copy theorem: behind each manifest that was written, on any lane, stands an image that the words name, admitted by the policy that counts.
use Rattle.std.specs.Prelude.{◌≡◌, ◌⊎◌, [], ◌∷◌, List, ℕ, Option, None, Some, IfSome, slice_get}
use Rattle.skopeo_outside.specs.Tree.{Tree, file_at}
use Rattle.skopeo_outside.specs.LaneTold.{LaneTold}
use Rattle.skopeo_outside.specs.Seen.{Seen}
use Rattle.json_tree.specs.Tree.{tree}
use Rattle.policy_file.specs.PolicyLists.{PolicyLists, accepting}
use Rattle.policy_file.specs.IsPolicy.{IsPolicy}
use Rattle.registries_conf.specs.Settings.{Settings}
use Rattle.registries_conf.specs.ConfOf.{tree as conf_tree}
use Rattle.registries_conf.specs.IsConf.{IsConf}
use Rattle.transports.specs.Writes.{Spot, IsWrite}
use Rattle.copy_engine.specs.Headline.{IsCopied}
use Rattle.skopeo_app.specs.declared.rules.Rules.{Rules}
use Rattle.skopeo_app.specs.declared.task.CopyTask.{CopyTask}
use Rattle.skopeo_app.specs.declared.task.PolicyChoice.{PolicyChoice}
use Rattle.skopeo_app.specs.declared.task.PolicyChoice.TheVariants.{Anything, Named, Usual}
use Rattle.skopeo_app.specs.declared.task.ConfChoice.{ConfChoice}
use Rattle.skopeo_app.specs.declared.task.ConfChoice.TheVariants as conf
use Rattle.skopeo_app.specs.Usual.{usual_path}
use Rattle.skopeo_app.specs.Policy.{policy_name}
use Rattle.skopeo_app.specs.Conf.{conf_name, no_conf}
use Rattle.skopeo_app.specs.Asked.{AsksCopy}

-- the file at a path says this policy
pub record SaysPolicy (entry : Tree) (path : List ℕ) (policy : PolicyLists) : Type 0 where
  pub bytes : List ℕ
  pub there : file_at entry path ≡ Some bytes
  pub says : IsPolicy (tree bytes) policy

-- the policy that counts, by a tree where it is told: the one that accepts all, or that of the file that is named, or that
-- of the usual file
abbrev pub Counts : Option Tree → List ℕ → List ℕ → PolicyChoice → PolicyLists → Type 0
Counts entry home cwd Anything policy = policy ≡ accepting
Counts entry home cwd (Named path) policy = IfSome entry (λ t. SaysPolicy t path policy)
Counts entry home cwd Usual policy = IfSome entry (λ t. SaysPolicy t (usual_path t home cwd policy_name) policy)

-- the file at a path says this configuration of the registries
pub record SaysConf (entry : Tree) (path : List ℕ) (says : Settings) : Type 0 where
  pub bytes : List ℕ
  pub there : file_at entry path ≡ Some bytes
  pub is : IsConf (conf_tree bytes) says

-- it does, or it is absent and nothing is said
abbrev pub MaySay : Tree → List ℕ → Settings → Type 0
MaySay entry path says = ((file_at entry path ≡ None) × (says ≡ no_conf)) ⊎ SaysConf entry path says

-- the configuration that counts: the one that says nothing where no registry is named, or that of the file that is named, or
-- that of the usual file where it is there
abbrev pub ConfCounts : Option Tree → List ℕ → List ℕ → ConfChoice → Settings → Type 0
ConfCounts entry home cwd conf.Unread says = says ≡ no_conf
ConfCounts entry home cwd (conf.Named path) says = IfSome entry (λ t. SaysConf t path says)
ConfCounts entry home cwd conf.Usual says = IfSome entry (λ t. MaySay t (usual_path t home cwd conf_name) says)

-- what the first lane's files tell
abbrev pub first_tree : List LaneTold → Option Tree
first_tree [] = None
first_tree (a ∷ lanes) = a.files.tree

-- the policy and the configuration that count for a copy, by a tree where it is told
pub record RulesCount (entry : Option Tree) (home cwd : List ℕ) (task : CopyTask) (rules : Rules) : Type 0 where
  pub policy : Counts entry home cwd task.policy rules.policy
  pub conf : ConfCounts entry home cwd task.conf rules.conf

-- the words ask for this copy, and this policy and this configuration count for it, by the first lane's files at entry
pub record IsAsked (words : List (List ℕ)) (home cwd : List ℕ) (old : Seen) (task : CopyTask) (rules : Rules) : Type 0 where
  pub asks : AsksCopy words cwd task
  pub counts : RulesCount (first_tree old.lanes) home cwd task rules

-- an image that the words name was copied under the policy that counts, from a source that the configuration which counts
-- gives for it
pub record IsCommanded (words : List (List ℕ)) (home cwd : List ℕ) (old new : Seen) (at : Spot) (bytes : List ℕ) : Type 0 where
  pub task : CopyTask
  pub rules : Rules
  pub asked : IsAsked words home cwd old task rules
  pub copied : IsCopied rules.policy rules.conf task.plan old new at bytes

-- each manifest that was written, on any lane, is one
abbrev pub Headline : List (List ℕ) → List ℕ → List ℕ → Seen → Seen → Type 0
Headline words home cwd old new = (lane : ℕ) (a b : LaneTold) (at : Spot) (bytes : List ℕ)
    → slice_get old.lanes lane ≡ Some a → slice_get new.lanes lane ≡ Some b → IsWrite a b at bytes
    → IsCommanded words home cwd old new at bytes
