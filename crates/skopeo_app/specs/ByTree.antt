-- What a copy from a folder without a program that judges signatures comes to, as a function of one tree: its steps in
-- order, the first refusal counting.
use Rattle.std.specs.Prelude.{◌+◌, ◌++◌, ◌∷◌, [], List, ℕ, Option, None, Result, Ok, Err, ⊤, map}
use Rattle.skopeo_outside.specs.Tree.{Tree, file_at}
use Rattle.skopeo_outside.specs.Folders.{joined}
use Rattle.skopeo_outside.specs.declared.words.Fetched.{Fetched}
use Rattle.image_ref.specs.declared.place.Place.TheVariants.{Dir}
use Rattle.layouts.specs.Bounds.{limited}
use Rattle.layouts.specs.Names.{manifest_name, prefix_of}
use Rattle.layouts.specs.Source.{numbered, signatures_in}
use Rattle.manifest_convert.specs.Blobs.{blobs}
use Rattle.policy_file.specs.PolicyLists.{PolicyLists, accepting}
use Rattle.policy_file.specs.declared.requirement.Requirement.{Requirement}
use Rattle.policy_file.specs.declared.requirement.Requirement.TheVariants.{Accept, Reject, SignedBy, Sigstore}
use Rattle.policy_scope.specs.Chosen.{Choice, chosen}
use Rattle.policy_gate.specs.declared.fault.Why.{Why}
use Rattle.policy_gate.specs.declared.fault.Why.TheVariants as why
use Rattle.manifest_v2s2.specs.declared.image.Image.{Image}
use Rattle.manifest_v2s2.specs.declared.kind.Kind.{Kind}
use Rattle.transports.specs.declared.report.Copied.{Copied}
use Rattle.transports.specs.declared.report.CopiedRow.{CopiedRow}
use Rattle.transports.specs.declared.refusal.Refusal.{Refusal}
use Rattle.transports.specs.declared.refusal.Refusal.TheVariants.{Rejected}
use Rattle.transports.specs.declared.source.Source.TheVariants.{Folder}
use Rattle.transports.specs.Given.{manifest_in, by_folder}
use Rattle.admission.specs.Parts.{kind_in, image_in}
use Rattle.admission.specs.Judged.{Submission}
use Rattle.copy_jobs.specs.Secured.{first_fault}
use Rattle.copy_engine.specs.Report.{blob_row, manifest_row, lines_of}
use Rattle.skopeo_app.specs.declared.refusal.CommandRefusal.{CommandRefusal}
use Rattle.skopeo_app.specs.declared.refusal.CommandRefusal.TheVariants as command
use Rattle.skopeo_app.specs.declared.run.Done.{Done}
use Rattle.skopeo_app.specs.declared.task.CopyTask.{CopyTask}
use Rattle.skopeo_app.specs.declared.task.PolicyChoice.{PolicyChoice}
use Rattle.skopeo_app.specs.declared.task.PolicyChoice.TheVariants.{Anything, Named, Usual}
use Rattle.skopeo_app.specs.Usual.{usual_path}
use Rattle.skopeo_app.specs.Policy.{policy_name, policy_file}
use Rattle.skopeo_app.specs.Ending.{copy_done}

-- one step after the other: the first refusal counts
abbrev pub and_then : {A B E : Type 0} → Result A E → (A → Result B E) → Result B E
and_then (Ok x) f = f x
and_then (Err e) f = Err e

infixl 10 ◌>>=◌
abbrev pub ◌>>=◌ : {A B E : Type 0} → Result A E → (A → Result B E) → Result B E
w >>= f = and_then w f

-- the policy that counts
abbrev pub policy_at : Tree → List ℕ → List ℕ → PolicyChoice → Result PolicyLists CommandRefusal
policy_at tree home cwd Anything = Ok accepting
policy_at tree home cwd (Named path) = policy_file tree path
policy_at tree home cwd Usual = policy_file tree (usual_path tree home cwd policy_name)

-- the manifest and the signatures of a folder's image
abbrev pub manifest_of : Tree → List ℕ → Result Fetched Refusal
manifest_of tree folder = manifest_in folder (limited (file_at tree (joined folder (manifest_name None))))

abbrev pub signatures_of : Tree → List ℕ → Result (List (List ℕ)) Refusal
signatures_of tree folder = by_folder folder (signatures_in (numbered tree folder (prefix_of None)))

-- what is put to the gate of a folder's image
abbrev pub submission_of : List ℕ → Fetched → Kind → Image → List (List ℕ) → Submission
submission_of folder fetched kind image signatures =
    record { from = Folder folder; place = Dir folder; manifest = fetched.bytes; kind = kind; image = image; signatures = signatures }

unfoldable pub submitted_in : Tree → List ℕ → Result Submission Refusal
submitted_in tree folder = do
  fetched ← manifest_of tree folder
  kind ← kind_in fetched
  image ← image_in kind fetched
  signatures ← signatures_of tree folder
  Ok (submission_of folder fetched kind image signatures)

-- why a `signedBy` does not hold where no program is named
abbrev pub unasked : List (List ℕ) → Why
unasked [] = why.NoSignature
unasked (signature ∷ more) = why.NoVerifier

-- a requirement at its place, where no program is named
abbrev pub judged : Option (List ℕ) → List (List ℕ) → ℕ → Requirement → Result ⊤ Refusal
judged scope signatures place Accept = Ok tt
judged scope signatures place Reject = Err (Rejected scope place why.Reject)
judged scope signatures place (SignedBy keys rule) = Err (Rejected scope place (unasked signatures))
judged scope signatures place Sigstore = Err (Rejected scope place why.Sigstore)

-- requirements one by one, of which the first has this place
abbrev pub all_judged : Option (List ℕ) → List (List ℕ) → ℕ → List Requirement → Result ⊤ Refusal
all_judged scope signatures place [] = Ok tt
all_judged scope signatures place (requirement ∷ more) =
    and_then (judged scope signatures place requirement) (λ _. all_judged scope signatures (place + 1) more)

-- those of the list that counts for an image
abbrev pub judged_by : Choice → List (List ℕ) → Result ⊤ Refusal
judged_by choice signatures = all_judged choice.scope signatures 1 choice.list

-- the folder's image, where the policy admits it
unfoldable pub admitted_in : Tree → List ℕ → PolicyLists → Result Submission Refusal
admitted_in tree folder policy = do
  s ← submitted_in tree folder
  _ ← judged_by (chosen policy (Dir folder)) s.signatures
  Ok s

-- what is told of it
abbrev pub rows_in : Submission → List CopiedRow
rows_in s = map blob_row (blobs s.image) ++ manifest_row s.kind s.manifest ∷ []

abbrev pub copied_in : Submission → Copied
copied_in s = record { rows = rows_in s; lines = lines_of (rows_in s) }

-- it at its destination: this may be replaced, and no blob is absent or wrong
unfoldable pub placed_in : Tree → List ℕ → Result ⊤ Refusal → Submission → Result Copied Refusal
placed_in tree folder taken s = do
  _ ← taken
  _ ← first_fault tree folder (blobs s.image)
  Ok (copied_in s)

-- both
unfoldable pub copy_in : Tree → List ℕ → Result ⊤ Refusal → PolicyLists → Result Copied Refusal
copy_in tree folder taken policy = do
  s ← admitted_in tree folder policy
  placed_in tree folder taken s

-- an image's refusal is one of the command
abbrev pub or_image : {A : Type 0} → Result A Refusal → Result A CommandRefusal
or_image (Ok x) = Ok x
or_image (Err e) = Err (command.Image e)

-- the command's answer to a task
unfoldable pub answer_in : Tree → List ℕ → List ℕ → CopyTask → List ℕ → Result ⊤ Refusal → Result Done CommandRefusal
answer_in tree home cwd task folder taken = do
  policy ← policy_at tree home cwd task.policy
  copied ← or_image (copy_in tree folder taken policy)
  Ok (copy_done task.quiet copied)
