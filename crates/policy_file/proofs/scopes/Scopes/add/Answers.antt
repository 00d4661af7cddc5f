use Rattle.std.proofs.Common.{◌∙◌, ap}
use Rattle.policy_file.specs.ScopeMap.{scopes_view}
use Rattle.policy_file.proofs.ScopeLemmas.{scopes_view-insert_entry}
use Rattle.policy_file.proofs.scopes.Scopes.add.Goals as goal

pub returns : goal.returns
returns c =
    ap scopes_view c.in_ok-insert.ensures.entries ∙ scopes_view-insert_entry c.self.inside.lists.entries c.in_ok-name.name c.args.list
    ∙ rw (c.in_ok-name.ensures.ok, c.self.view_is)
