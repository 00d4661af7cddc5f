-- The command of a name, as the code makes it. `Fields` has the rows that it is tied to.
use Rattle.std.specs.Prelude.{ℕ, List, Bool, Option, option_map, option_and_then, unwrap_or}
use Rattle.skopeo_words.specs.Pairs.{is_on}
use Rattle.skopeo_words.specs.Found.{Placed}
use Rattle.skopeo_words.specs.LastOf.{last_of, text_of, first_text, second_text}
use Rattle.skopeo_words.specs.Parts.{Part}
use Rattle.skopeo_words.specs.Values.{truth_value, number_upto, format_value, end_value, without_slashes}
use Rattle.skopeo_words.specs.declared.command.Command.{Command}
use Rattle.skopeo_words.specs.declared.command.Command.TheVariants as command
use Rattle.skopeo_words.specs.declared.command.CommandName.{CommandName}
use Rattle.skopeo_words.specs.declared.command.CommandName.TheVariants.{Copy, Sync, Inspect, ListTags, Delete, MakeImages}
use Rattle.skopeo_words.specs.declared.command.Common.{Common}
use Rattle.skopeo_words.specs.declared.command.Format.{Format}
use Rattle.skopeo_words.specs.declared.command.Passing.{Passing}
use Rattle.skopeo_words.specs.declared.command.SyncEnd.{SyncEnd}
use Rattle.skopeo_words.specs.declared.command.SyncEnd.TheVariants as sync_end
use Rattle.skopeo_words.specs.declared.table.OptionName.{OptionName}
use Rattle.skopeo_words.specs.declared.table.OptionName.TheVariants as option

-- whether a truth option is on: it is given, and its last value is true
abbrev pub flag_of : OptionName → List Part → Bool
flag_of name parts = is_on (last_of name parts)

-- the last value of a truth option that is given
abbrev pub choice_of : OptionName → List Part → Option Bool
choice_of name parts = option_and_then truth_value (text_of name parts)

-- the number of lanes, 6 where it is not given
abbrev pub lanes_of : List Part → ℕ
lanes_of parts = unwrap_or (option_and_then (number_upto 16) (text_of option.Lanes parts)) 6

-- the format that is asked for
abbrev pub format_of : List Part → Option Format
format_of parts = option_and_then format_value (text_of option.Format parts)

-- an end of `sync`
abbrev pub end_in : OptionName → List Part → SyncEnd
end_in name parts = unwrap_or (option_and_then end_value (text_of name parts)) sync_end.Docker

-- the number of images, of an operand that is one
abbrev pub count_of : List ℕ → ℕ
count_of text = unwrap_or (number_upto 1000 text) 0

-- the options that every command has
abbrev pub common_of : List Part → Common
common_of parts = record {
  policy = text_of option.Policy parts;
  registries_conf = text_of option.RegistriesConf parts;
  location_cache = text_of option.LocationCache parts;
  insecure_policy = flag_of option.InsecurePolicy parts;
  os = text_of option.OverrideOs parts;
  arch = text_of option.OverrideArch parts;
  variant = text_of option.OverrideVariant parts;
  lanes = lanes_of parts;
}

-- the options of the commands that copy images
abbrev pub passing_of : List Part → Passing
passing_of parts = record {
  all = flag_of option.All parts;
  preserve = flag_of option.PreserveDigests parts;
  remove_signatures = flag_of option.RemoveSignatures parts;
  format = format_of parts;
  src_tls = choice_of option.SrcTlsVerify parts;
  dest_tls = choice_of option.DestTlsVerify parts;
  lookaside = option_map without_slashes (text_of option.Lookaside parts);
  verifier = text_of option.Verifier parts;
}

-- the command of a name, with its options and the operands behind it
unfoldable pub made : CommandName → List Part → List Placed → Command
made Copy parts operands =
    command.Copy (common_of parts) (passing_of parts)
    (flag_of option.Quiet parts) (flag_of option.ShortNames parts)
    (first_text operands) (second_text operands)
made Sync parts operands =
    command.Sync (common_of parts) (passing_of parts)
    (flag_of option.Scoped parts) (end_in option.Src parts) (end_in option.Dest parts)
    (first_text operands) (second_text operands)
made Inspect parts operands =
    command.Inspect (common_of parts) (flag_of option.ShortNames parts)
    (flag_of option.Raw parts) (flag_of option.Config parts) (flag_of option.NoTags parts)
    (choice_of option.TlsVerify parts) (first_text operands)
made ListTags parts operands =
    command.ListTags (common_of parts) (choice_of option.TlsVerify parts) (first_text operands)
made Delete parts operands =
    command.Delete (common_of parts) (choice_of option.TlsVerify parts) (first_text operands)
made MakeImages parts operands =
    command.MakeImages (common_of parts) (text_of option.Verifier parts)
    (count_of (first_text operands)) (second_text operands)
