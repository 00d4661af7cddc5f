-- Which configuration of the registries counts, and what it says (skopeo(1), `--registries-conf`; containers-registries.conf(5)).
use Rattle.std.specs.Prelude.{◌≡◌, [], List, ℕ, Bool, true, false, codes, Result, Ok, Err}
use Rattle.skopeo_outside.specs.Tree.{Tree, file_at}
use Rattle.skopeo_outside.specs.OnLanes.{LaneStep}
use Rattle.layouts.specs.Bounds.{limited}
use Rattle.layouts.specs.declared.read.Limited.{Limited}
use Rattle.layouts.specs.declared.read.Limited.TheVariants.{Absent, TooLong, Whole}
use Rattle.registries_conf.specs.Settings.{Settings}
use Rattle.registries_conf.specs.ConfOf.{conf_in}
use Rattle.registries_conf.specs.declared.settings.Mode.TheVariants.{Permissive}
use Rattle.registries_conf.specs.declared.fault.ConfFault.{ConfFault}
use Rattle.registries_conf.specs.declared.fault.ConfFault.TheVariants as fault
use Rattle.transports.specs.declared.refusal.Refusal.TheVariants as image
use Rattle.transports.specs.Has.{IsUntouched}
use Rattle.skopeo_app.specs.declared.refusal.CommandRefusal.{CommandRefusal}
use Rattle.skopeo_app.specs.declared.refusal.CommandRefusal.TheVariants.{ConfMissing, ConfInvalid, ConfTooLarge, Image}
use Rattle.skopeo_app.specs.declared.task.ConfChoice.{ConfChoice}
use Rattle.skopeo_app.specs.declared.task.ConfChoice.TheVariants.{Unread, Named, Usual}
use Rattle.skopeo_app.specs.Usual.{usual_path, by_tree}

-- the name of a file of it
abbrev pub conf_name : List ℕ
conf_name = codes "registries.conf"

-- the configuration that says nothing
abbrev pub no_conf : Settings
no_conf = record { search = []; mode = Permissive; tables = []; aliases = [] }

-- the refusal that a fault is
abbrev pub invalid_conf : List ℕ → ConfFault → CommandRefusal
invalid_conf path fault.NotToml = ConfInvalid path fault.NotToml
invalid_conf path (fault.Shape key) = ConfInvalid path (fault.Shape key)
invalid_conf path fault.V1 = ConfInvalid path fault.V1
invalid_conf path (fault.BadPrefix table) = ConfInvalid path (fault.BadPrefix table)
invalid_conf path (fault.MirrorClash table) = ConfInvalid path (fault.MirrorClash table)
invalid_conf path fault.Memory = Image image.Memory

-- a configuration, or the first fault of its file
abbrev pub or_bad : List ℕ → Result Settings ConfFault → Result Settings CommandRefusal
or_bad path (Ok conf) = Ok conf
or_bad path (Err e) = Err (invalid_conf path e)

-- a file that is absent is refused where it was named, and says nothing where it was not
abbrev pub absent_conf : Bool → List ℕ → Result Settings CommandRefusal
absent_conf true path = Err (ConfMissing path)
absent_conf false path = Ok no_conf

-- the configuration of a file that is not too long and in the grammar
unfoldable pub conf_from : Bool → List ℕ → Limited → Result Settings CommandRefusal
conf_from named path Absent = absent_conf named path
conf_from named path TooLong = Err ConfTooLarge
conf_from named path (Whole bytes) = or_bad path (conf_in bytes)

abbrev pub conf_file : Bool → Tree → List ℕ → Result Settings CommandRefusal
conf_file named t path = conf_from named path (limited (file_at t path))

-- the configuration that counts, by the files of one lane
abbrev pub conf_by : List ℕ → List ℕ → ConfChoice → LaneStep CommandRefusal Settings
conf_by home cwd Unread = λ old new r. r ≡ Ok no_conf
conf_by home cwd (Named path) = by_tree (λ t. conf_file true t path)
conf_by home cwd Usual = by_tree (λ t. conf_file false t (usual_path t home cwd conf_name))

-- the step that reads it; it touches nothing
unfoldable pub conf_end : List ℕ → List ℕ → ConfChoice → LaneStep CommandRefusal Settings
conf_end home cwd choice old new r = conf_by home cwd choice old new r × IsUntouched old new
