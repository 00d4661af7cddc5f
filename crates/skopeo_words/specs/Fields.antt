-- The fields of a command: a row for each, with the option whose last value it is. Texts are as they
-- are written; what is not given is None or false, or 6 lanes.
use Rattle.std.specs.Prelude.{◌≡◌, ℕ, List, [], ◌∷◌, map, length, take, Bool, true, false, Option, Some, codes}
use Rattle.skopeo_words.specs.Found.{Placed, as_written, Says, IsGiven, IsOr}
use Rattle.skopeo_words.specs.Parts.{Part}
use Rattle.skopeo_words.specs.Values.{truth_value, number_upto, format_value, end_value, without_slashes}
use Rattle.skopeo_words.specs.declared.command.Command.{Command}
use Rattle.skopeo_words.specs.declared.command.Command.TheVariants as command
use Rattle.skopeo_words.specs.declared.command.CommandName.{CommandName}
use Rattle.skopeo_words.specs.declared.command.CommandName.TheVariants.{Copy, Sync, Inspect, ListTags, Delete, MakeImages}
use Rattle.skopeo_words.specs.declared.command.Common.{Common}
use Rattle.skopeo_words.specs.declared.command.Format.TheVariants.{V2s2}
use Rattle.skopeo_words.specs.declared.command.Passing.{Passing}
use Rattle.skopeo_words.specs.declared.command.SyncEnd.TheVariants.{Docker, Dir}
use Rattle.skopeo_words.specs.declared.table.OptionName.{OptionName}
use Rattle.skopeo_words.specs.declared.table.OptionName.TheVariants as option

-- a field that is a text
abbrev pub IsText : OptionName → List Part → Option (List ℕ) → Type 0
IsText name parts field = IsGiven as_written name parts field

-- a field that is on or off
abbrev pub IsFlag : OptionName → List Part → Bool → Type 0
IsFlag name parts field = IsOr truth_value false name parts field

-- a field that is on, off or not said
abbrev pub IsChoice : OptionName → List Part → Option Bool → Type 0
IsChoice name parts field = IsGiven truth_value name parts field

-- how a base of stored signatures is read
abbrev pub base_value : List ℕ → Option (List ℕ)
base_value text = Some (without_slashes text)

-- the options that every command has
pub record AreCommon (parts : List Part) (c : Common) : Type 0 where
  pub policy : IsText option.Policy parts c.policy
  pub registries_conf : IsText option.RegistriesConf parts c.registries_conf
  pub location_cache : IsText option.LocationCache parts c.location_cache
  pub insecure_policy : IsFlag option.InsecurePolicy parts c.insecure_policy
  pub os : IsText option.OverrideOs parts c.os
  pub arch : IsText option.OverrideArch parts c.arch
  pub variant : IsText option.OverrideVariant parts c.variant
  pub lanes : IsOr (number_upto 16) 6 option.Lanes parts c.lanes

-- the options of the commands that copy images
pub record ArePassing (parts : List Part) (p : Passing) : Type 0 where
  pub all : IsFlag option.All parts p.all
  pub preserve : IsFlag option.PreserveDigests parts p.preserve
  pub remove_signatures : IsFlag option.RemoveSignatures parts p.remove_signatures
  pub format : IsGiven format_value option.Format parts p.format
  pub src_tls : IsChoice option.SrcTlsVerify parts p.src_tls
  pub dest_tls : IsChoice option.DestTlsVerify parts p.dest_tls
  pub lookaside : IsGiven base_value option.Lookaside parts p.lookaside
  pub verifier : IsText option.Verifier parts p.verifier

-- the operands have these texts
abbrev pub HaveTexts : List Placed → List (List ℕ) → Type 0
HaveTexts operands texts = map (λ o. o.text) operands ≡ texts

-- the operands are a number of images and a text
pub record AreNumbered (operands : List Placed) (count : ℕ) (base : List ℕ) : Type 0 where
  pub number : List ℕ
  pub texts : HaveTexts operands (number ∷ base ∷ [])
  pub counts : number_upto 1000 number ≡ Some count

-- a copy, with its fields by the parts and the operands
pub record IsCopy (parts : List Part) (operands : List Placed) (common : Common) (passing : Passing)
    (quiet short_names : Bool) (source dest : List ℕ) : Type 0 where
  pub is_common : AreCommon parts common
  pub is_passing : ArePassing parts passing
  pub is_quiet : IsFlag option.Quiet parts quiet
  pub is_short : IsFlag option.ShortNames parts short_names
  pub texts : HaveTexts operands (source ∷ dest ∷ [])

-- the command of that name, with its fields by the parts and the operands behind the name
abbrev pub HasFields : CommandName → List Part → List Placed → Command → Type 0
HasFields Copy parts operands (command.Copy common passing quiet short_names source dest) =
    IsCopy parts operands common passing quiet short_names source dest
HasFields Sync parts operands (command.Sync common passing scoped from to source base) =
    AreCommon parts common × ArePassing parts passing × IsFlag option.Scoped parts scoped
    × Says end_value option.Src parts from × Says end_value option.Dest parts to
    × HaveTexts operands (source ∷ base ∷ [])
HasFields Inspect parts operands (command.Inspect common short_names raw config no_tags tls image) =
    AreCommon parts common × IsFlag option.ShortNames parts short_names
    × IsFlag option.Raw parts raw × IsFlag option.Config parts config
    × IsFlag option.NoTags parts no_tags × IsChoice option.TlsVerify parts tls
    × HaveTexts operands (image ∷ [])
HasFields ListTags parts operands (command.ListTags common tls repository) =
    AreCommon parts common × IsChoice option.TlsVerify parts tls
    × HaveTexts operands (repository ∷ [])
HasFields Delete parts operands (command.Delete common tls image) =
    AreCommon parts common × IsChoice option.TlsVerify parts tls × HaveTexts operands (image ∷ [])
HasFields MakeImages parts operands (command.MakeImages common verifier count base) =
    AreCommon parts common × IsText option.Verifier parts verifier
    × AreNumbered operands count base
HasFields _ parts operands _ = ⊥

-- a text begins with another
abbrev pub Begins : List ℕ → List ℕ → Type 0
Begins front text = take (length front) text ≡ front

-- the format that is asked for goes with the destination: a layout holds no image of schema 2
abbrev pub FitsPlace : Passing → List ℕ → Type 0
FitsPlace passing dest = passing.format ≡ Some V2s2 → Begins (codes "oci:") dest → ⊥

-- options and operands that go together: `sync` copies no folder to folders, nor names one by its
-- host; the bytes of a config are printed with `--raw` alone
abbrev pub Fits : Command → Type 0
Fits (command.Copy common passing quiet short_names source dest) =
    FitsPlace passing dest
Fits (command.Sync common passing scoped from to source base) =
    from ≡ Dir → (to ≡ Docker) × (scoped ≡ false)
Fits (command.Inspect common short_names raw config no_tags tls image) = config ≡ true → raw ≡ true
Fits (command.ListTags common tls repository) = Begins (codes "docker://") repository
Fits (command.Delete common tls image) = Begins (codes "docker://") image
Fits (command.MakeImages common verifier count base) = Unit {0}
Fits (command.Help topic) = Unit {0}
Fits command.Version = Unit {0}
