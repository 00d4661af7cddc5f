-- The scopes of a transport.
use Rattle.std.specs.Prelude.{List}
use Rattle.policy_file.specs.declared.policy.Transport.{Transport}
use Rattle.policy_file.specs.declared.policy.Transport.TheVariants.{Docker, Dir, Oci}
use Rattle.policy_file.specs.PolicyLists.{PolicyLists, Scope}

-- the scopes that a policy has for a transport
abbrev pub scopes_for : Transport → PolicyLists → List Scope
scopes_for Docker lists = lists.docker
scopes_for Dir lists = lists.dir
scopes_for Oci lists = lists.oci
