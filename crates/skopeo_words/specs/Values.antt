-- What the values of options say, and which texts are values at all.
--
--   yes    = "1" | "t" | "T" | "TRUE" | "true" | "True"
--   no     = "0" | "f" | "F" | "FALSE" | "false" | "False"
--   lanes  = 1 to 16 in decimal, without leading zeros
--   format = "oci" | "v2s2"
--   end    = "docker" | "dir"
--   base   = "http://" domain ["/" {visible byte of ASCII}]
use Rattle.std.specs.Prelude.{ℕ, List, [], ◌∷◌, length, take, drop, Bool, true, false, ◌&&◌, ◌==◌, not, nat_le, is_some, Option, Some, None, if◌then◌else◌, codes, slice_index}
use Rattle.std.specs.List.{list_all, list_any}
use Rattle.std.specs.Str.{bytes_eq}
use Rattle.image_ref.specs.Characters.{is_digit, slash}
use Rattle.image_ref.specs.Cuts.{Cut, cut_at}
use Rattle.image_ref.specs.Domain.{number, is_domain, passes_or_none}
use Rattle.skopeo_words.specs.declared.command.Format.{Format}
use Rattle.skopeo_words.specs.declared.command.Format.TheVariants.{Oci, V2s2}
use Rattle.skopeo_words.specs.declared.command.SyncEnd.{SyncEnd}
use Rattle.skopeo_words.specs.declared.command.SyncEnd.TheVariants.{Docker, Dir}
use Rattle.skopeo_words.specs.declared.table.Kind.{Kind}
use Rattle.skopeo_words.specs.declared.table.Kind.TheVariants as kind

-- one of some texts
abbrev pub is_among : List (List ℕ) → List ℕ → Bool
is_among texts text = list_any (bytes_eq text) texts

-- the words for yes
abbrev pub yes_words : List (List ℕ)
yes_words =
    codes "1" ∷ codes "t" ∷ codes "T" ∷ codes "TRUE" ∷ codes "true" ∷ codes "True" ∷ []

-- the words for no
abbrev pub no_words : List (List ℕ)
no_words =
    codes "0" ∷ codes "f" ∷ codes "F" ∷ codes "FALSE" ∷ codes "false" ∷ codes "False" ∷ []

-- what a truth value says
abbrev pub truth_value : List ℕ → Option Bool
truth_value text =
    if is_among yes_words text then Some true
    else if is_among no_words text then Some false
    else None

-- a positive number of at most four digits, in decimal without leading zeros
abbrev pub is_numeral : List ℕ → Bool
is_numeral text = (list_all is_digit text && (nat_le 1 (length text) && nat_le (length text) 4))
    && not (slice_index text 0 == 48)

-- a number from 1 to a limit
abbrev pub number_upto : ℕ → List ℕ → Option ℕ
number_upto limit text =
    if is_numeral text && nat_le (number text) limit then Some (number text) else None

-- what a format says
abbrev pub format_value : List ℕ → Option Format
format_value text =
    if bytes_eq text (codes "oci") then Some Oci
    else if bytes_eq text (codes "v2s2") then Some V2s2
    else None

-- what an end of `sync` says
abbrev pub end_value : List ℕ → Option SyncEnd
end_value text =
    if bytes_eq text (codes "docker") then Some Docker
    else if bytes_eq text (codes "dir") then Some Dir
    else None

-- a visible byte of ASCII
abbrev pub is_visible : ℕ → Bool
is_visible b = nat_le 33 b && nat_le b 126

-- a host with or without a port, and a path of visible bytes where there is one
abbrev pub is_base_cut : Cut → Bool
is_base_cut cut = is_domain cut.0 && passes_or_none (list_all is_visible) cut.1

-- a base of stored signatures
abbrev pub is_base : List ℕ → Bool
is_base text = bytes_eq (take 7 text) (codes "http://") && is_base_cut (cut_at slash (drop 7 text))

-- a byte in front of what is kept; a slash is not kept at the end
abbrev pub kept_behind : ℕ → List ℕ → List ℕ
kept_behind b [] = if b == slash then [] else b ∷ []
kept_behind b (c ∷ more) = b ∷ c ∷ more

-- the text without the slashes at its end
abbrev pub without_slashes : List ℕ → List ℕ
without_slashes [] = []
without_slashes (b ∷ rest) = kept_behind b (without_slashes rest)

-- whether a text is a value of a kind
abbrev pub is_value : Kind → List ℕ → Bool
is_value kind.Truth text = is_some (truth_value text)
is_value kind.Text text = not (length text == 0)
is_value kind.Lanes text = is_some (number_upto 16 text)
is_value kind.Format text = is_some (format_value text)
is_value kind.Base text = is_base text
is_value kind.End text = is_some (end_value text)
