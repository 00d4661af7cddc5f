-- What a page of help is: it opens with the use of its command, and names the options that the table
-- has for it, and no others.
use Rattle.std.specs.Prelude.{◌≡◌, ℕ, List, [], ◌∷◌, ◌++◌, map, take, length, Bool, true, ◌&&◌, ◌||◌, ◌==◌, not, nat_lt, Option, Some, None, codes}
use Rattle.std.specs.List.{filter, list_all, list_any, slice_split}
use Rattle.std.specs.Str.{bytes_eq}
use Rattle.image_ref.specs.Characters.{is_run_byte, dash}
use Rattle.skopeo_words.specs.Fields.{Begins}
use Rattle.skopeo_words.specs.Table.{Row, options, command_row, every}
use Rattle.skopeo_words.specs.Values.{is_among}
use Rattle.skopeo_words.specs.declared.command.CommandName.{CommandName}
use Rattle.skopeo_words.specs.declared.command.CommandName.TheVariants as name

-- how a page names what it is about
abbrev pub subject : Option CommandName → List ℕ
subject None = codes "COMMAND"
subject (Some name.Copy) = codes "copy"
subject (Some name.Sync) = codes "sync"
subject (Some name.Inspect) = codes "inspect"
subject (Some name.ListTags) = codes "list-tags"
subject (Some name.Delete) = codes "delete"
subject (Some name.MakeImages) = codes "make-images"

-- the text is a page on this: it opens so, and each subject opens another
unfoldable pub IsOn : Option CommandName → List ℕ → Type 0
IsOn page text = Begins (codes "Usage: skopeo [OPTIONS] " ++ (subject page ++ codes " ")) text

-- the runs of letters, digits and dashes of a text
abbrev pub runs_in : List ℕ → List (List ℕ)
runs_in text = slice_split (λ b. not (is_run_byte b || b == dash)) text

-- two dashes and a name
abbrev pub is_option : List ℕ → Bool
is_option run = bytes_eq (take 2 run) (codes "--") && nat_lt 2 (length run)

-- the options that a text names, in order
abbrev pub options_in : List ℕ → List (List ℕ)
options_in text = filter is_option (runs_in text)

-- a row of the table is for a command
abbrev pub has_command : Row → CommandName → Bool
has_command r command = list_any (λ c. command_row command == command_row c) r.commands

-- the options that the table has for some commands, as they are written
abbrev pub options_for : List CommandName → List (List ℕ)
options_for commands = map (λ r. codes "--" ++ r.text) (filter (λ r. list_all (has_command r) commands) options)

-- the options of a page; the one over all has those of every command, and the two that stand alone
abbrev pub options_of : Option CommandName → List (List ℕ)
options_of (Some command) = options_for (command ∷ [])
options_of None = codes "--help" ∷ codes "--version" ∷ options_for every

-- the same texts, in whatever order
abbrev pub same_texts : List (List ℕ) → List (List ℕ) → Bool
same_texts these those = list_all (is_among those) these && list_all (is_among these) those

-- an option is named on the page exactly where the table has it for the page
unfoldable pub NamesOptions : Option CommandName → List ℕ → Type 0
NamesOptions page text = same_texts (options_in text) (options_of page) ≡ true
