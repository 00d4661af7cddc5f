-- What the words ask for, once their places are read and what is not built is refused.
use Rattle.std.specs.Prelude.{◌&&◌, ◌||◌, List, ℕ, Bool, if◌then◌else◌, Option, Some, None, Result, Ok, Err, ⊤}
use Rattle.std.specs.Option.{is_some}
use Rattle.image_ref.specs.Path.{cleaned}
use Rattle.image_ref.specs.declared.place.Place.{Place}
use Rattle.image_ref.specs.Reading.{reading_of}
use Rattle.image_ref.specs.declared.fault.RefFault.{RefFault}
use Rattle.image_ref.specs.declared.fault.PlaceFault.TheVariants as fault
use Rattle.skopeo_words.specs.Reading.{command_of}
use Rattle.skopeo_words.specs.Help.{page_of, version_line}
use Rattle.skopeo_words.specs.declared.command.Command.{Command}
use Rattle.skopeo_words.specs.declared.command.Command.TheVariants as command
use Rattle.skopeo_words.specs.declared.command.Common.{Common}
use Rattle.skopeo_words.specs.declared.command.Passing.{Passing}
use Rattle.skopeo_words.specs.declared.command.SyncEnd.{SyncEnd}
use Rattle.skopeo_words.specs.declared.command.SyncEnd.TheVariants as sync_end
use Rattle.skopeo_words.specs.declared.fault.WordsFault.{WordsFault}
use Rattle.skopeo_words.specs.declared.fault.WordsFault.TheVariants as words_fault
use Rattle.transports.specs.declared.plan.CopyPlan.{CopyPlan}
use Rattle.transports.specs.declared.refusal.Refusal.TheVariants as image
use Rattle.skopeo_app.specs.declared.refusal.Unbuilt.TheVariants as unbuilt
use Rattle.skopeo_app.specs.declared.refusal.CommandRefusal.{CommandRefusal}
use Rattle.skopeo_app.specs.declared.refusal.CommandRefusal.TheVariants.{Words, Reference, NotBuilt, Image}
use Rattle.skopeo_app.specs.Plan.{◌>>=◌, is_folder, is_registry, place_at, lanes_for, plan_of, IsSoundPlan}
use Rattle.skopeo_app.specs.declared.task.PolicyChoice.{PolicyChoice}
use Rattle.skopeo_app.specs.declared.task.PolicyChoice.TheVariants.{Anything, Named, Usual}
use Rattle.skopeo_app.specs.declared.task.ConfChoice.{ConfChoice}
use Rattle.skopeo_app.specs.declared.task.ConfChoice.TheVariants as conf
use Rattle.skopeo_app.specs.declared.task.CopyTask.{CopyTask}
use Rattle.skopeo_app.specs.declared.task.Task.{Task}
use Rattle.skopeo_app.specs.declared.task.Task.TheVariants.{Page, Copy}

-- an option is given of which the work is not built
abbrev pub asks_more : Common → Passing → Bool
asks_more common passing =
    ((is_some common.location_cache || is_some common.os) || (is_some common.arch || is_some common.variant))
    || ((passing.all || (passing.preserve || passing.remove_signatures)) || (is_some passing.format || is_some passing.dest_tls))

-- copies are built from a folder or a registry to a folder
abbrev pub are_built : CopyPlan → Bool
are_built plan = (is_folder plan.source || is_registry plan.source) && is_folder plan.dest

-- a copy with these options, where all that they ask for is built
abbrev pub built : Common → Passing → CopyPlan → Result ⊤ CommandRefusal
built common passing plan =
    if asks_more common passing then Err (NotBuilt unbuilt.Option)
    else if are_built plan then Ok tt else Err (NotBuilt unbuilt.Place)

abbrev pub by_path : List ℕ → Option (List ℕ) → PolicyChoice
by_path cwd (Some path) = Named (cleaned cwd path)
by_path cwd None = Usual

-- the policy that the options ask for: `--insecure-policy` before `--policy`
abbrev pub choice_of : List ℕ → Common → PolicyChoice
choice_of cwd common = if common.insecure_policy then Anything else by_path cwd common.policy

abbrev pub by_conf_path : List ℕ → Option (List ℕ) → ConfChoice
by_conf_path cwd (Some path) = conf.Named (cleaned cwd path)
by_conf_path cwd None = conf.Usual

-- the configuration of the registries that the options ask for, where a registry is named
abbrev pub conf_choice_of : List ℕ → Common → Place → ConfChoice
conf_choice_of cwd common source = if is_registry source then by_conf_path cwd common.registries_conf else conf.Unread

-- the copy of a plan, with what its options choose
abbrev pub chosen : List ℕ → Common → Bool → CopyPlan → CopyTask
chosen cwd common quiet plan = record { policy = choice_of cwd common; conf = conf_choice_of cwd common plan.source; quiet = quiet; plan = plan }

-- one copy
unfoldable pub copy_of : List ℕ → Common → Passing → Bool → Bool → List ℕ → List ℕ → Result Task CommandRefusal
copy_of cwd common passing quiet short_names source dest = do
  plan ← plan_of cwd (lanes_for common) passing short_names source dest
  _ ← built common passing plan
  Ok (Copy (chosen cwd common quiet plan))

-- what a copy needs
abbrev pub IsSound : Task → Type 0
IsSound (Page text) = Unit {0}
IsSound (Copy task) = IsSoundPlan task.plan

-- a command that is not built is refused once its place is read
unfoldable pub unbuilt_at : List ℕ → List ℕ → Result Task CommandRefusal
unbuilt_at cwd text = place_at cwd text >>= (λ _. Err (NotBuilt unbuilt.Command))

abbrev pub after_name : {A : Type 0} → List ℕ → Result A RefFault → Result Task CommandRefusal
after_name text (Ok reference) = Err (NotBuilt unbuilt.Command)
after_name text (Err e) = Err (Reference text (fault.Reference e))

-- `sync` reads the name of its source, where that lies in a registry
unfoldable pub unbuilt_sync : SyncEnd → List ℕ → Result Task CommandRefusal
unbuilt_sync sync_end.Docker text = after_name text (reading_of text)
unbuilt_sync sync_end.Dir text = Err (NotBuilt unbuilt.Command)

-- what a command asks for
unfoldable pub task_in : List ℕ → Command → Result Task CommandRefusal
task_in cwd (command.Copy common passing quiet short_names source dest) = copy_of cwd common passing quiet short_names source dest
task_in cwd (command.Sync common passing scoped from to source base) = unbuilt_sync from source
task_in cwd (command.Inspect common short_names raw config no_tags tls image) = unbuilt_at cwd image
task_in cwd (command.ListTags common tls repository) = unbuilt_at cwd repository
task_in cwd (command.Delete common tls image) = unbuilt_at cwd image
task_in cwd (command.MakeImages common verifier count base) = Err (NotBuilt unbuilt.Command)
task_in cwd (command.Help topic) = Ok (Page (page_of topic))
task_in cwd command.Version = Ok (Page version_line)

abbrev pub by_words : List ℕ → Result Command WordsFault → Result Task CommandRefusal
by_words cwd (Ok command) = task_in cwd command
by_words cwd (Err (words_fault.At place kind)) = Err (Words place kind)
by_words cwd (Err words_fault.Memory) = Err (Image image.Memory)

-- what the words ask for
unfoldable pub task_of : List (List ℕ) → List ℕ → Result Task CommandRefusal
task_of words cwd = by_words cwd (command_of words)

-- how many first lanes the words name
abbrev pub lanes_of : Result Task CommandRefusal → ℕ
lanes_of (Ok (Page text)) = 0
lanes_of (Ok (Copy task)) = task.plan.lanes
lanes_of (Err e) = 0
