-- The list that is chosen for an image is the one that counts, and no other counts.
use Rattle.std.proofs.Common.{◌≡◌, ◌∙◌, ℕ, List, [], ◌∷◌, ◌++◌, Option, Some, None, filter_map, inl, inr, refl, sym, ap, subst}
use Rattle.std.proofs.lemmas.List.Elements.{All-nil, All-cons, All-head, All-tail}
use Rattle.image_ref.specs.declared.place.Place.{Place}
use Rattle.image_ref.specs.declared.place.Place.TheVariants.{Docker, Dir, Oci}
use Rattle.policy_file.specs.PolicyLists.{PolicyLists, Scope, list_at}
use Rattle.policy_file.specs.declared.requirement.Requirement.{Requirement}
use Rattle.policy_scope.specs.Scopes.{scopes}
use Rattle.policy_scope.specs.Chosen.{scope_at, first_or, chosen}
use Rattle.admission.specs.Counts.{AreAbsent, IsFirstOr, ListCounts}

-- ---- among names

-- the list of the first of the names that is there
abbrev first_in : List Requirement → List Scope → List (List ℕ) → List Requirement
first_in default here names = (first_or default (filter_map (scope_at here) names)).list

scope_there : (here : List Scope) (name : List ℕ) (list : List Requirement) → list_at name here ≡ Some list → scope_at here name ≡ Some (record { name = name; list = list })
scope_there here name list is = rw is refl

scope_absent : (here : List Scope) (name : List ℕ) → list_at name here ≡ None → scope_at here name ≡ None
scope_absent here name is = rw is refl

here_first : (default : List Requirement) (here : List Scope) (name : List ℕ) (more : List (List ℕ)) (list : List Requirement) → list_at name here ≡ Some list → first_in default here (name ∷ more) ≡ list
here_first default here name more list is = rw (first_in, scope_there here name list is) refl

not_here : (default : List Requirement) (here : List Scope) (name : List ℕ) (more : List (List ℕ)) → list_at name here ≡ None → first_in default here (name ∷ more) ≡ first_in default here more
not_here default here name more is = rw (first_in, scope_absent here name is) refl

none_first : (default : List Requirement) (here : List Scope) → first_in default here [] ≡ default
none_first default here = refl

later_first : (default : List Requirement) (here : List Scope) (name : List ℕ) (more : List (List ℕ)) (list : List Requirement) → list_at name here ≡ None → IsFirstOr default here more list → IsFirstOr default here (name ∷ more) list
later_first default here name more list absent (inl later) = inl (record {
  before = name ∷ later.before;
  name = later.name;
  after = later.after;
  joined = ap (λ (ns : List (List ℕ)). name ∷ ns) later.joined;
  absent = All-cons (λ n. list_at n here ≡ None) name later.before absent later.absent;
  there = later.there;
})
later_first default here name more list absent (inr (none, is)) = inr (All-cons (λ n. list_at n here ≡ None) name more absent none, is)

is_first : (default : List Requirement) (here : List Scope) (names : List (List ℕ)) → IsFirstOr default here names (first_in default here names)
is_first default here [] = inr (All-nil (λ n. list_at n here ≡ None), none_first default here)
is_first default here (name ∷ more) = by (list_at name here) refl (is_first default here more)
  where
    by : (found : Option (List Requirement)) → list_at name here ≡ found → IsFirstOr default here more (first_in default here more) → IsFirstOr default here (name ∷ more) (first_in default here (name ∷ more))
    by (Some list) is later = inl (record {
      before = [];
      name = name;
      after = more;
      joined = refl;
      absent = All-nil (λ n. list_at n here ≡ None);
      there = is ∙ ap Some (sym (here_first default here name more list is));
    })
    by None is later = later_first default here name more (first_in default here (name ∷ more)) is (subst (IsFirstOr default here more) (sym (not_here default here name more is)) later)

first_there : (default : List Requirement) (here : List Scope) (before : List (List ℕ)) (name : List ℕ) (after : List (List ℕ)) (list : List Requirement) → AreAbsent here before → list_at name here ≡ Some list → first_in default here (before ++ (name ∷ after)) ≡ list
first_there default here [] name after list absent is = here_first default here name after list is
first_there default here (first ∷ before) name after list absent is =
    not_here default here first (before ++ (name ∷ after)) (All-head (λ n. list_at n here ≡ None) first before absent)
    ∙ first_there default here before name after list (All-tail (λ n. list_at n here ≡ None) first before absent) is

all_absent : (default : List Requirement) (here : List Scope) (names : List (List ℕ)) → AreAbsent here names → first_in default here names ≡ default
all_absent default here [] absent = none_first default here
all_absent default here (name ∷ more) absent =
    not_here default here name more (All-head (λ n. list_at n here ≡ None) name more absent)
    ∙ all_absent default here more (All-tail (λ n. list_at n here ≡ None) name more absent)

first_is : (default : List Requirement) (here : List Scope) (names : List (List ℕ)) (list : List Requirement) → IsFirstOr default here names list → list ≡ first_in default here names
first_is default here names list (inl first) = subst (λ ns. list ≡ first_in default here ns) (sym first.joined) (sym (first_there default here first.before first.name first.after list first.absent first.there))
first_is default here names list (inr (absent, is)) = is ∙ sym (all_absent default here names absent)

-- ---- for a place

-- the list that is chosen counts
pub chosen_counts : (policy : PolicyLists) (place : Place) → ListCounts policy place (chosen policy place).list
chosen_counts policy (Docker r) = is_first policy.default policy.docker (scopes (Docker r))
chosen_counts policy (Dir path) = is_first policy.default policy.dir (scopes (Dir path))
chosen_counts policy (Oci path tag) = is_first policy.default policy.oci (scopes (Oci path tag))

-- a list that counts is the one that is chosen
pub counts_chosen : (policy : PolicyLists) (place : Place) (list : List Requirement) → ListCounts policy place list → list ≡ (chosen policy place).list
counts_chosen policy (Docker r) list counts = first_is policy.default policy.docker (scopes (Docker r)) list counts
counts_chosen policy (Dir path) list counts = first_is policy.default policy.dir (scopes (Dir path)) list counts
counts_chosen policy (Oci path tag) list counts = first_is policy.default policy.oci (scopes (Oci path tag)) list counts
