-- The keys of a `signedBy` (containers-policy.json(5), "signedBy").
use Rattle.std.specs.Prelude.{ℕ, codes, List, [], ◌∷◌, Bool, false, if◌then◌else◌, Option, Some, None, option_map, option_and_then, Ok}
use Rattle.std.specs.Str.{bytes_eq}
use Rattle.std.specs.Result.{result_ok}
use Rattle.serde_json.specs.Data.{Data, string, array, Items, no_items, item}
use Rattle.serde_json.specs.Find.{get, as_str}
use Rattle.base64.specs.Engines.{standard}
use Rattle.base64.specs.GeneralPurpose.{decode_of}
use Rattle.policy_file.specs.declared.fault.PolicyKind.TheVariants.{BadKeys}
use Rattle.policy_file.specs.declared.requirement.Keys.{Keys}
use Rattle.policy_file.specs.declared.requirement.Keys.TheVariants.{Paths, Bytes}
use Rattle.policy_file.specs.Judged.{Judged, refuse}

-- texts alone
abbrev pub texts_from : Items → Option (List (List ℕ))
texts_from no_items = Some []
texts_from (item d ds) = option_and_then (λ t. option_map (λ ts. t ∷ ts) (texts_from ds)) (as_str d)

-- one or more texts
abbrev pub some_texts : Items → Option (List (List ℕ))
some_texts no_items = None
some_texts (item d ds) = texts_from (item d ds)

abbrev pub texts_of : Data → Option (List (List ℕ))
texts_of (array ds) = some_texts ds
texts_of _ = None

-- the bytes that a text spells in Base64, with the standard alphabet and padding (RFC 4648, section 4)
abbrev pub base64_of : List ℕ → Option (List ℕ)
base64_of text = result_ok (decode_of standard text)

-- `keyPath` is a text, `keyPaths` one or more texts, `keyData` Base64; exactly one of them is there
abbrev pub keys_from : Option Data → Option Data → Option Data → Option Keys
keys_from (Some path) None None = option_map (λ t. Paths (t ∷ [])) (as_str path)
keys_from None (Some paths) None = option_map Paths (texts_of paths)
keys_from None None (Some bytes) = option_map Bytes (option_and_then base64_of (as_str bytes))
keys_from _ _ _ = None

-- `keyType` is the text `GPGKeys`
abbrev pub is_gpg : Option Data → Bool
is_gpg (Some (string s)) = bytes_eq s (codes "GPGKeys")
is_gpg _ = false

abbrev pub or_bad_keys : Option Keys → Judged Keys
or_bad_keys (Some keys) = Ok keys
or_bad_keys None = refuse BadKeys []

unfoldable pub keys_of : Data → Judged Keys
keys_of d =
    if is_gpg (get (codes "keyType") d)
    then or_bad_keys (keys_from (get (codes "keyPath") d) (get (codes "keyPaths") d) (get (codes "keyData") d))
    else refuse BadKeys []
