-- Class 6 of what is wrong with words, as the code looks for it. `FirstFault` has the rows that it is
-- tied to.
use Rattle.std.specs.Prelude.{ℕ, List, [], ◌∷◌, Bool, false, ◌&&◌, not, is_some, nat_le, take, Option, Some, None, if◌then◌else◌, codes}
use Rattle.std.specs.Str.{bytes_eq}
use Rattle.skopeo_words.specs.Found.{Placed}
use Rattle.skopeo_words.specs.LastOf.{last_of, second_text}
use Rattle.skopeo_words.specs.Parts.{Part}
use Rattle.skopeo_words.specs.Values.{truth_value, number_upto}
use Rattle.skopeo_words.specs.declared.command.CommandName.{CommandName}
use Rattle.skopeo_words.specs.declared.command.CommandName.TheVariants.{Copy, Sync, Inspect, ListTags, Delete, MakeImages}
use Rattle.skopeo_words.specs.declared.fault.WordsFault.{WordsFault}
use Rattle.skopeo_words.specs.declared.fault.WordsFault.TheVariants.{At}
use Rattle.skopeo_words.specs.declared.fault.WordsKind.TheVariants as kind
use Rattle.skopeo_words.specs.declared.table.OptionName.TheVariants as option

-- the last value is this text
abbrev pub says : List ℕ → Option Placed → Bool
says text None = false
says text (Some value) = bytes_eq value.text text

-- the last truth value is true
abbrev pub is_yes : Option Bool → Bool
is_yes (Some choice) = choice
is_yes None = false

-- the option is given, and its last value is true
abbrev pub is_on : Option Placed → Bool
is_on None = false
is_on (Some value) = is_yes (truth_value value.text)

-- the place of a value that is there
abbrev pub place_of : Option Placed → ℕ
place_of None = 0
place_of (Some value) = value.at

-- the later of two places
abbrev pub later : ℕ → ℕ → ℕ
later a b = if nat_le a b then b else a

-- `--src dir` with `--dest dir`, then with `--scoped`
abbrev pub bad_pair : Option Placed → Option Placed → Option Placed → Option WordsFault
bad_pair src dest scoped =
    if not (says (codes "dir") src) then None
    else if says (codes "dir") dest
    then Some (At (later (place_of src) (place_of dest)) kind.BadPair)
    else if is_on scoped
    then Some (At (later (place_of src) (place_of scoped)) kind.BadPair)
    else None

-- `--config` prints the bytes of the config, and only with `--raw`
abbrev pub needs_raw : Option Placed → Option Placed → Option WordsFault
needs_raw config raw =
    if is_on config && not (is_on raw) then Some (At (place_of config) kind.NeedsRaw) else None

-- a layout holds no image of schema 2
abbrev pub bad_format : Option Placed → List ℕ → Option WordsFault
bad_format format dest =
    if says (codes "v2s2") format && bytes_eq (take 4 dest) (codes "oci:")
    then Some (At (place_of format) kind.FormatForPlace)
    else None

-- an operand has to begin with `docker://`
abbrev pub not_docker : List Placed → Option WordsFault
not_docker [] = None
not_docker (operand ∷ more) =
    if bytes_eq (take 9 operand.text) (codes "docker://") then None
    else Some (At operand.at kind.NotDocker)

-- the number of images
abbrev pub bad_number : List Placed → Option WordsFault
bad_number [] = None
bad_number (operand ∷ more) =
    if is_some (number_upto 1000 operand.text) then None else Some (At operand.at kind.BadNumber)

-- what does not go together, by the command
abbrev pub pair_fault : CommandName → List Part → List Placed → Option WordsFault
pair_fault Copy parts operands = bad_format (last_of option.Format parts) (second_text operands)
pair_fault Sync parts operands =
    bad_pair (last_of option.Src parts) (last_of option.Dest parts) (last_of option.Scoped parts)
pair_fault Inspect parts operands =
    needs_raw (last_of option.Config parts) (last_of option.Raw parts)
pair_fault ListTags parts operands = not_docker operands
pair_fault Delete parts operands = not_docker operands
pair_fault MakeImages parts operands = bad_number operands
