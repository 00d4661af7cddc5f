-- The names of an object's members, and the texts at them.
use Rattle.std.specs.Prelude.{ℕ, List, [], ◌∷◌, Bool, false, if◌then◌else◌, Option, Some, None, is_none, option_and_then, Ok, ⊤}
use Rattle.std.specs.List.{list_any}
use Rattle.std.specs.Str.{bytes_eq}
use Rattle.serde_json.specs.Data.{Data, object, Members, no_members, member}
use Rattle.serde_json.specs.Find.{get, as_str}
use Rattle.json_tree.specs.declared.path.Step.TheVariants.{Name}
use Rattle.policy_file.specs.declared.fault.PolicyKind.TheVariants.{UnknownKey}
use Rattle.policy_file.specs.Judged.{Judged, refuse}

-- the name of the first member that is none of these; members stand in byte order
abbrev pub unknown_name : List (List ℕ) → Members → Option (List ℕ)
unknown_name names no_members = None
unknown_name names (member k d ms) = if list_any (bytes_eq k) names then unknown_name names ms else Some k

abbrev pub unless_unknown : Option (List ℕ) → Judged ⊤
unless_unknown None = Ok tt
unless_unknown (Some k) = refuse UnknownKey (Name k ∷ [])

-- no member has another name than these, else the least such member is at fault
abbrev pub only : List (List ℕ) → Members → Judged ⊤
only names ms = unless_unknown (unknown_name names ms)

-- an object, and no member has another name than these
abbrev pub has_only : List (List ℕ) → Data → Bool
has_only names (object ms) = is_none (unknown_name names ms)
has_only names _ = false

-- the text of a member
abbrev pub text_at : List ℕ → Data → Option (List ℕ)
text_at name d = option_and_then as_str (get name d)
