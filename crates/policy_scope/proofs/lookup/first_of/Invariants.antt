use Rattle.std.proofs.Common.{◌≡◌, drop}
use Rattle.policy_file.specs.Lookup.{scopes_for}
use Rattle.policy_scope.specs.Calls.{first_known}
use Rattle.policy_scope.proofs.lookup.first_of.Given as goal

-- what is left has the answer of the whole
abbrev pub invariant-loop-name : goal.invariant-loop-name
invariant-loop-name l = first_known (scopes_for l.transport l.policy) (drop l.name-index l.names) ≡ first_known (scopes_for l.transport l.policy) l.names
