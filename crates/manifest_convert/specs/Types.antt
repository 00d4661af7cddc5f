-- Content types beside the media types of manifests (docs/manifests.md, "Kinds").
use Rattle.std.specs.Prelude.{ℕ, ◌-◌, List, Bool, ◌==◌, if◌then◌else◌, length, take, drop, Option, Some, None}
use Rattle.std.specs.List.{before_first, prefix_len, suffix_len}
use Rattle.std.specs.Str.{bytes_eq}
use Rattle.manifest_v2s2.specs.Media.{media_of}
use Rattle.manifest_v2s2.specs.declared.kind.Kind.{Kind}
use Rattle.manifest_v2s2.specs.declared.kind.Kind.TheVariants.{V2s2, V2s2List, Oci, OciIndex}

-- a space
abbrev pub is_space : ℕ → Bool
is_space c = c == 32

-- a semicolon
abbrev pub is_semicolon : ℕ → Bool
is_semicolon c = c == 59

-- the text without the spaces at its start
abbrev pub after_spaces : List ℕ → List ℕ
after_spaces text = drop (prefix_len is_space text) text

-- the text without the spaces at its end
abbrev pub before_spaces : List ℕ → List ℕ
before_spaces text = take (length text - suffix_len is_space text) text

-- a content type up to its first semicolon, without spaces at its ends
abbrev pub bare : List ℕ → List ℕ
bare content = before_spaces (after_spaces (before_first is_semicolon content))

-- the kind whose media type the text is
unfoldable pub kind_named : List ℕ → Option Kind
kind_named text =
    if bytes_eq text (media_of V2s2) then Some V2s2
    else if bytes_eq text (media_of V2s2List) then Some V2s2List
    else if bytes_eq text (media_of Oci) then Some Oci
    else if bytes_eq text (media_of OciIndex) then Some OciIndex
    else None
