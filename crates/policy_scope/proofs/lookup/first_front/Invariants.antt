use Rattle.std.proofs.Common.{◌≡◌, length}
use denote.Text.{Utf8}
use denote.Shadow.{shadow}
use Rattle.policy_file.specs.Lookup.{scopes_for}
use Rattle.policy_scope.specs.Calls.{shortened, first_known}
use Rattle.policy_scope.proofs.lookup.first_front.Given as goal

-- what is left has the answer of the whole
abbrev pub invariant-loop-name : goal.invariant-loop-name
invariant-loop-name l = record {
  text : shadow (Utf8 l.name);
  left : first_known (scopes_for l.transport l.policy) (shortened l.name) ≡ first_known (scopes_for l.transport l.policy) (shortened l.text);
}

abbrev pub decreases-loop-name : goal.decreases-loop-name
decreases-loop-name l = length l.name
