-- An ordered map beside the list of scopes that it stands for.
use Rattle.std.proofs.Common.{◌≡◌, ℕ, List, [], ◌∷◌, String, Global, string_bytes, string_cmp, Ordering, Less, Equal, Greater, nat_cmp, refl, ◌∙◌}
use Rattle.std.proofs.lemmas.Map.Text.{is_eq-slice_cmp}
use Rattle.std.specs.BTreeMap.{insert_entry, is_at}
use Rattle.std.specs.Cmp.Lexicographic.{slice_cmp}
use Rattle.std.specs.Map.{lookup}
use Rattle.std.specs.Ordering.{match_ordering}
use Rattle.policy_file.specs.declared.requirement.Requirement.{Requirement}
use Rattle.policy_file.specs.PolicyLists.{list_at, with_scope}
use Rattle.policy_file.specs.ScopeMap.{scopes_view}

abbrev pub Entry : Type 0
Entry = String Global × List Requirement

scopes_view-match_ordering : (o : Ordering) (a b c : List Entry) → scopes_view (match_ordering o a b c) ≡ match_ordering o (scopes_view a) (scopes_view b) (scopes_view c)
scopes_view-match_ordering Less a b c = refl
scopes_view-match_ordering Equal a b c = refl
scopes_view-match_ordering Greater a b c = refl

pub scopes_view-insert_entry : (es : List Entry) (k : String Global) (list : List Requirement) → scopes_view (insert_entry string_cmp es k list) ≡ with_scope (string_bytes k) list (scopes_view es)
scopes_view-insert_entry [] k list = refl
scopes_view-insert_entry (e ∷ es) k list = scopes_view-match_ordering (string_cmp k e.0) _ _ _ ∙ rw (scopes_view-insert_entry es k list)

pub scopes_view-lookup : (name : List ℕ) (es : List Entry) → lookup (is_at (λ k. slice_cmp nat_cmp name (string_bytes k))) es ≡ list_at name (scopes_view es)
scopes_view-lookup name [] = refl
scopes_view-lookup name (e ∷ es) = rw (is_eq-slice_cmp name (string_bytes e.0), scopes_view-lookup name es) refl
