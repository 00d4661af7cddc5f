-- The options and the commands: one table each, which say how a thing is written, what an option
-- takes, and the commands that it is for.
use Rattle.std.specs.Prelude.{ℕ, List, [], ◌∷◌, Bool, ◌==◌, Option, Some, None, if◌then◌else◌, codes}
use Rattle.std.specs.List.{list_any}
use Rattle.std.specs.Str.{bytes_eq}
use Rattle.skopeo_words.specs.declared.table.OptionName.{OptionName}
use Rattle.skopeo_words.specs.declared.table.OptionName.TheVariants as option
use Rattle.skopeo_words.specs.declared.table.Kind.{Kind}
use Rattle.skopeo_words.specs.declared.table.Kind.TheVariants as kind
use Rattle.skopeo_words.specs.declared.command.CommandName.{CommandName}
use Rattle.skopeo_words.specs.declared.command.CommandName.TheVariants as command

-- the row of an option in the table, counted from 0
abbrev pub row_of : OptionName → ℕ
row_of option.Policy = 0
row_of option.RegistriesConf = 1
row_of option.LocationCache = 2
row_of option.InsecurePolicy = 3
row_of option.OverrideOs = 4
row_of option.OverrideArch = 5
row_of option.OverrideVariant = 6
row_of option.Lanes = 7
row_of option.All = 8
row_of option.PreserveDigests = 9
row_of option.RemoveSignatures = 10
row_of option.Format = 11
row_of option.SrcTlsVerify = 12
row_of option.DestTlsVerify = 13
row_of option.Lookaside = 14
row_of option.Verifier = 15
row_of option.Quiet = 16
row_of option.ShortNames = 17
row_of option.Scoped = 18
row_of option.Src = 19
row_of option.Dest = 20
row_of option.Raw = 21
row_of option.Config = 22
row_of option.NoTags = 23
row_of option.TlsVerify = 24

-- two names of one option
abbrev pub same_option : OptionName → OptionName → Bool
same_option a b = row_of a == row_of b

-- the row of a command in its table, counted from 0
abbrev pub command_row : CommandName → ℕ
command_row command.Copy = 0
command_row command.Sync = 1
command_row command.Inspect = 2
command_row command.ListTags = 3
command_row command.Delete = 4
command_row command.MakeImages = 5

-- a row: how the option is written behind its dashes, what it takes, and which commands have it
pub record Row : Type 0 where
  pub text : List ℕ
  pub name : OptionName
  pub kind : Kind
  pub commands : List CommandName

abbrev pub row : List ℕ → OptionName → Kind → List CommandName → Row
row written option takes for =
    record { text = written; name = option; kind = takes; commands = for }

-- every command
abbrev pub every : List CommandName
every =
    command.Copy ∷ command.Sync ∷ command.Inspect
    ∷ command.ListTags ∷ command.Delete ∷ command.MakeImages ∷ []

-- the commands that copy images from place to place
abbrev pub copying : List CommandName
copying = command.Copy ∷ command.Sync ∷ []

-- the commands that ask one host and copy nothing
abbrev pub asking : List CommandName
asking = command.Inspect ∷ command.ListTags ∷ command.Delete ∷ []

-- the options
abbrev pub options : List Row
options =
    row (codes "policy") option.Policy kind.Text every
    ∷ row (codes "registries-conf") option.RegistriesConf kind.Text every
    ∷ row (codes "location-cache") option.LocationCache kind.Text every
    ∷ row (codes "insecure-policy") option.InsecurePolicy kind.Truth every
    ∷ row (codes "override-os") option.OverrideOs kind.Text every
    ∷ row (codes "override-arch") option.OverrideArch kind.Text every
    ∷ row (codes "override-variant") option.OverrideVariant kind.Text every
    ∷ row (codes "lanes") option.Lanes kind.Lanes every
    ∷ row (codes "all") option.All kind.Truth copying
    ∷ row (codes "preserve-digests") option.PreserveDigests kind.Truth copying
    ∷ row (codes "remove-signatures") option.RemoveSignatures kind.Truth copying
    ∷ row (codes "format") option.Format kind.Format copying
    ∷ row (codes "src-tls-verify") option.SrcTlsVerify kind.Truth copying
    ∷ row (codes "dest-tls-verify") option.DestTlsVerify kind.Truth copying
    ∷ row (codes "lookaside") option.Lookaside kind.Base copying
    ∷ row (codes "verifier") option.Verifier kind.Text
    (command.Copy ∷ command.Sync ∷ command.MakeImages ∷ [])
    ∷ row (codes "quiet") option.Quiet kind.Truth (command.Copy ∷ [])
    ∷ row (codes "short-names") option.ShortNames kind.Truth (command.Copy ∷ command.Inspect ∷ [])
    ∷ row (codes "scoped") option.Scoped kind.Truth (command.Sync ∷ [])
    ∷ row (codes "src") option.Src kind.End (command.Sync ∷ [])
    ∷ row (codes "dest") option.Dest kind.End (command.Sync ∷ [])
    ∷ row (codes "raw") option.Raw kind.Truth (command.Inspect ∷ [])
    ∷ row (codes "config") option.Config kind.Truth (command.Inspect ∷ [])
    ∷ row (codes "no-tags") option.NoTags kind.Truth (command.Inspect ∷ [])
    ∷ row (codes "tls-verify") option.TlsVerify kind.Truth asking
    ∷ []

-- the option of the first row that is written so
abbrev pub named_in : List Row → List ℕ → Option OptionName
named_in [] text = None
named_in (r ∷ more) text = if bytes_eq text r.text then Some r.name else named_in more text

-- the option that is written so
unfoldable pub option_named : List ℕ → Option OptionName
option_named text = named_in options text

-- the row of an option
abbrev pub row_in : List Row → OptionName → Row
row_in [] name = row [] name kind.Truth []
row_in (r ∷ more) name = if same_option name r.name then r else row_in more name

-- what an option takes
unfoldable pub kind_of : OptionName → Kind
kind_of name = (row_in options name).kind

-- whether an option is for a command
unfoldable pub is_for : OptionName → CommandName → Bool
is_for name command =
    list_any (λ c. command_row command == command_row c) (row_in options name).commands

-- the command that is written so
abbrev pub command_named : List ℕ → Option CommandName
command_named text =
    if bytes_eq text (codes "copy") then Some command.Copy
    else if bytes_eq text (codes "sync") then Some command.Sync
    else if bytes_eq text (codes "inspect") then Some command.Inspect
    else if bytes_eq text (codes "list-tags") then Some command.ListTags
    else if bytes_eq text (codes "delete") then Some command.Delete
    else if bytes_eq text (codes "make-images") then Some command.MakeImages
    else None
