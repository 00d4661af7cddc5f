-- What a word is by itself, where options are read, as the code reads it. `Line` has what the table says
-- of it.
use Rattle.std.specs.Prelude.{ℕ, List, length, take, drop, ◌&&◌, ◌==◌, nat_lt, Option, Some, None, if◌then◌else◌, codes, slice_index}
use Rattle.std.specs.Str.{bytes_eq}
use Rattle.image_ref.specs.Characters.{dash}
use Rattle.image_ref.specs.Cuts.{Cut, cut_at}
use Rattle.skopeo_words.specs.Table.{option_named, kind_of}
use Rattle.skopeo_words.specs.declared.table.Kind.{Kind}
use Rattle.skopeo_words.specs.declared.table.Kind.TheVariants as kind
use Rattle.skopeo_words.specs.declared.table.OptionName.{OptionName}
use Rattle.skopeo_words.specs.declared.table.OptionName.TheVariants.{All, Quiet, NoTags, Format, Src, Dest}

-- what a word is by itself: an operand, `--`, no option, an option that has its value, or one that
-- takes the next word
pub data Form : Type 0 where
  operand : Form
  end_mark : Form
  no_option : Form
  gives : OptionName → List ℕ → Form
  takes : OptionName → Form

-- an option of a kind, without `=`
abbrev pub form_of_kind : OptionName → Kind → Form
form_of_kind name kind.Truth = gives name (codes "true")
form_of_kind name _ = takes name

-- an option without `=`, where there is one of that name
abbrev pub bare_form : Option OptionName → Form
bare_form None = no_option
bare_form (Some name) = form_of_kind name (kind_of name)

-- an option, with what stands behind its `=` where it has one
abbrev pub long_form : Option OptionName → Option (List ℕ) → Form
long_form None value = no_option
long_form (Some name) None = form_of_kind name (kind_of name)
long_form (Some name) (Some text) = gives name text

-- the option that a short word stands for
abbrev pub short_named : List ℕ → Option OptionName
short_named word =
    if bytes_eq word (codes "-a") then Some All
    else if bytes_eq word (codes "-q") then Some Quiet
    else if bytes_eq word (codes "-n") then Some NoTags
    else if bytes_eq word (codes "-f") then Some Format
    else if bytes_eq word (codes "-s") then Some Src
    else if bytes_eq word (codes "-d") then Some Dest
    else None

-- what stands behind two dashes, cut at its first `=`
abbrev pub cut_form : Cut → Form
cut_form cut = long_form (option_named cut.0) cut.1

-- the form of a word
unfoldable pub form_of : List ℕ → Form
form_of word =
    if bytes_eq word (codes "--") then end_mark
    else if bytes_eq (take 2 word) (codes "--") then cut_form (cut_at 61 (drop 2 word))
    else if (slice_index word 0 == dash) && nat_lt 1 (length word) then bare_form (short_named word)
    else operand
