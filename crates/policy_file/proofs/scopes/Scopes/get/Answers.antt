use Rattle.std.proofs.Common.{◌∙◌, ap, sym, Some}
use Rattle.std.specs.FinMap.{slice_cmp-IsAntisymmetric, nat_cmp-IsAntisymmetric}
use Rattle.policy_file.specs.PolicyLists.{list_at}
use Rattle.policy_file.proofs.ScopeLemmas.{scopes_view-lookup}
use Rattle.policy_file.proofs.scopes.Scopes.get.Goals as goal

pub returns-in-Some-clause-list : goal.returns-in-Some-clause-list
returns-in-Some-clause-list c =
    ap Some c.as_slice.ensures ∙ c.in-Some.ensures.value ∙ scopes_view-lookup c.args.name.now c.self.inside.lists.entries ∙ ap (list_at c.args.name.now) c.self.view_is

pub returns-in-Some-clause-scope : goal.returns-in-Some-clause-scope
returns-in-Some-clause-scope c = c.as_str.ensures.value ∙ sym (slice_cmp-IsAntisymmetric nat_cmp-IsAntisymmetric _ _ c.in-Some.ensures.same_key)

pub returns-in-None-clause-list : goal.returns-in-None-clause-list
returns-in-None-clause-list c =
    c.in-None.ensures.value ∙ scopes_view-lookup c.args.name.now c.self.inside.lists.entries ∙ ap (list_at c.args.name.now) c.self.view_is
