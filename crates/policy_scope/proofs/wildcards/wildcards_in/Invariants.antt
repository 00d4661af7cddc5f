use Rattle.std.proofs.Common.{◌≡◌, ◌++◌, length}
use denote.Text.{Utf8}
use denote.Shadow.{shadow}
use Rattle.image_ref.specs.Characters.{dot}
use Rattle.image_ref.proofs.PartLemmas.{parts}
use Rattle.policy_scope.specs.Scopes.{wildcards, wildcards_of}
use Rattle.policy_scope.proofs.wildcards.wildcards_in.Given as goal

-- those that were found and those of what is left are all
abbrev pub invariant-loop-names : goal.invariant-loop-names
invariant-loop-names l = record {
  text : shadow (Utf8 l.rest);
  left : l.names ++ wildcards_of (parts dot l.rest) ≡ wildcards l.host;
}

abbrev pub decreases-loop-names : goal.decreases-loop-names
decreases-loop-names l = length l.rest
