-- The scopes that an ordered map holds.
use Rattle.std.specs.Prelude.{List, map, String, string_bytes}
use Rattle.std.specs.declared.alloc.Global.{Global}
use Rattle.policy_file.specs.declared.requirement.Requirement.{Requirement}
use Rattle.policy_file.specs.PolicyLists.{Scope}

abbrev pub scopes_view : List (String Global × List Requirement) → List Scope
scopes_view entries = map (λ e. record { name = string_bytes e.0; list = e.1 }) entries
