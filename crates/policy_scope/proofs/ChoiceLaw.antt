-- The first known scope, found part by part, is the one that is chosen.
use Rattle.std.proofs.Common.{◌≡◌, ◌≢◌, ◌<◌, ◌≤◌, ◌+◌, get_or, take, drop, ℕ, zero, suc, Bool, true, false, not, List, [], ◌∷◌, ◌++◌, length, map, Option, Some, None, refl, sym, ap, ◌∙◌, arith, inl, inr}
use Rattle.std.specs.Borrow.{Bor}
use Rattle.std.specs.Option.{is_some}
use Rattle.std.specs.List.{All, filter, filter_map, join_with_byte}
use Rattle.std.proofs.lemmas.List.Elements.{All-head, All-tail}
use Rattle.image_ref.specs.Cuts.{lacks}
use Rattle.std.specs.Str.{bytes_eq}
use Rattle.std.proofs.lemmas.Bool.{cases_Bool}
use Rattle.std.proofs.lemmas.List.Splits.{join_with_byte-slice_split}
use Rattle.std.proofs.lemmas.List.{at_drop_more, at_drop_all}
use Rattle.image_ref.proofs.CutLemmas.{Lacks}
use Rattle.image_ref.specs.Characters.{slash}
use Rattle.image_ref.specs.Reference.{Reference, full, repository_of}
use Rattle.image_ref.proofs.DomainLaw.{parts-some}
use Rattle.image_ref.proofs.PartLemmas.{parts}
use Rattle.image_ref.specs.declared.place.Place.{Place}
use Rattle.image_ref.specs.declared.place.Place.TheVariants.{Docker, Dir, Oci}
use Rattle.policy_file.specs.PolicyLists.{Scope, of_default}
use Rattle.policy_file.specs.declared.requirement.Requirement.{Requirement}
use Rattle.policy_scope.specs.Scopes.{falling, front, fronts, parents_of, path_scopes, image_scopes, namespaces, wildcards, scopes}
use Rattle.policy_scope.specs.Chosen.{scope_at, Choice, first_or, chosen}
use Rattle.policy_scope.specs.Calls.{shortened, or_else, first_known, seen}
use Rattle.policy_scope.proofs.FrontLaw.{shortened-joined, shortened-last, parts-lacking, shorter, whole-first}

or_else-assoc : (a b c : Option Scope) → or_else (or_else a b) c ≡ or_else a (or_else b c)
or_else-assoc None b c = refl
or_else-assoc (Some s) b c = refl

or_else-none : (a : Option Scope) → or_else a None ≡ a
or_else-none None = refl
or_else-none (Some s) = refl

or_else-again : (a b : Option Scope) → or_else a (or_else a b) ≡ or_else a b
or_else-again None b = refl
or_else-again (Some s) b = refl

pub first_known-append : (there : List Scope) (xs ys : List (List ℕ)) → first_known there (xs ++ ys) ≡ or_else (first_known there xs) (first_known there ys)
first_known-append there [] ys = refl
first_known-append there (x ∷ xs) ys =
    ap (or_else (scope_at there x)) (first_known-append there xs ys) ∙ sym (or_else-assoc (scope_at there x) (first_known there xs) (first_known there ys))

abbrev Lacking : List ℕ → Type 0
Lacking t = lacks slash t ≡ true

-- ---- the root among the fronts of a path is asked as the empty scope

abbrev is_text : List ℕ → Bool
is_text t = not (bytes_eq t [])

joined_text : (first x : List ℕ) (more : List (List ℕ)) → is_text (join_with_byte slash (first ∷ x ∷ more)) ≡ true
joined_text [] x more = refl
joined_text (b ∷ first) x more = refl

front_text : (first : List ℕ) (rest : List (List ℕ)) (k : ℕ) → suc (suc k) ≤ length rest → is_text (front first rest (suc k)) ≡ true
front_text first [] k le = absurd (omega arith)
front_text first (x ∷ more) k le = joined_text first x _

no_text : (t : List ℕ) → is_text t ≡ false → t ≡ []
no_text [] h = refl
no_text (b ∷ t) h = cc h

root_last : (there : List Scope) (t : List ℕ) → first_known there (filter is_text (t ∷ []) ++ ([] ∷ [])) ≡ first_known there (t ∷ ([] ∷ []))
root_last there t =
    elim (cases_Bool (is_text t)) [
      | inl some ↦ rw some refl
      | inr none ↦ rw none (rw (no_text t none) (sym (or_else-again (scope_at there []) None)))
    ]

with_root : (there : List Scope) (first : List ℕ) (rest : List (List ℕ)) (n : ℕ) → n ≤ length rest
    → first_known there (filter is_text (map (front first rest) (falling n)) ++ ([] ∷ [])) ≡ first_known there (map (front first rest) (falling n) ++ ([] ∷ []))
with_root there first rest zero le = refl
with_root there first rest (suc zero) le = root_last there (front first rest 0)
with_root there first rest (suc (suc n)) le =
    rw (front_text first rest n le) (ap (or_else (scope_at there (front first rest (suc n)))) (with_root there first rest (suc n) (omega arith)))

-- a path of such parts
of_parts : (there : List Scope) (path : List ℕ) (items : List (List ℕ)) → (items ≡ [] → ⊥) → path ≡ join_with_byte slash items → All (λ t. lacks slash t ≡ true) items
    → first_known there (path ∷ (parents_of items ++ ([] ∷ []))) ≡ or_else (first_known there (shortened path)) (scope_at there [])
of_parts there path [] some e all = absurd (some refl)
of_parts there path (first ∷ rest) some e all =
    let short : shortened path ≡ path ∷ fronts first rest = ap shortened e ∙ shortened-joined first rest (All-head Lacking first rest all) (All-tail Lacking first rest all) ∙ ap (λ t. t ∷ fronts first rest) (sym e) in
    ap (or_else (scope_at there path)) (with_root there first rest (length rest) (omega arith))
    ∙ first_known-append there (path ∷ fronts first rest) ([] ∷ [])
    ∙ rw (short, or_else-none (scope_at there [])) refl

-- the scopes of a path: its text and what stands before its slashes, then the empty scope
pub known_path : (there : List Scope) (path : List ℕ) → first_known there (path_scopes path) ≡ or_else (first_known there (shortened path)) (scope_at there [])
known_path there path = of_parts there path (parts slash path) (parts-some slash path) (sym (join_with_byte-slice_split slash path)) (parts-lacking path)

-- the scopes of a reference: its text, the fronts of its repository, its wildcards, the empty scope
pub known_image : (there : List Scope) (r : Reference) → first_known there (image_scopes r)
    ≡ or_else (scope_at there (full r)) (or_else (first_known there (repository_of r ∷ namespaces r)) (or_else (first_known there (wildcards r.host)) (scope_at there [])))
known_image there r =
    ap (or_else (scope_at there (full r)))
    (first_known-append there (repository_of r ∷ namespaces r) (wildcards r.host ++ ([] ∷ []))
    ∙ ap (or_else (first_known there (repository_of r ∷ namespaces r))) (first_known-append there (wildcards r.host) ([] ∷ []) ∙ ap (or_else (first_known there (wildcards r.host))) (or_else-none (scope_at there []))))

-- ---- the choice

abbrev pub choice : List Requirement → Option Scope → Choice
choice default None = record { scope = None; list = default }
choice default (Some s) = record { scope = Some s.name; list = s.list }

first_step : (default : List Requirement) (there : List Scope) (name : List ℕ) (more : List (List ℕ)) (found : Option Scope) → scope_at there name ≡ found
    → first_or default (filter_map (scope_at there) more) ≡ choice default (first_known there more)
    → first_or default (filter_map (scope_at there) (name ∷ more)) ≡ choice default (or_else found (first_known there more))
first_step default there name more None e h = rw e h
first_step default there name more (Some s) e h = rw e refl

pub chosen_first : (default : List Requirement) (there : List Scope) (names : List (List ℕ)) → first_or default (filter_map (scope_at there) names) ≡ choice default (first_known there names)
chosen_first default there [] = refl
chosen_first default there (name ∷ more) = first_step default there name more (scope_at there name) refl (chosen_first default there more)

-- ---- a look-up of the code

abbrev pub Found : Type 0
Found = Option (Bor (List ℕ) × Bor (List Requirement))

pub hit : (f : Found) (a b : Option Scope) → seen f ≡ a → is_some f ≡ true → or_else a b ≡ seen f
hit (Some x) a b e h = rw (sym e) refl
hit None a b e h = cc h

pub miss : (f : Found) (a b : Option Scope) → seen f ≡ a → is_some f ≡ false → or_else a b ≡ b
miss (Some x) a b e h = cc h
miss None a b e h = rw (sym e) refl

-- ---- a turn over a list of names

step : (there : List Scope) (names : List (List ℕ)) (i : ℕ) (t : List ℕ) → i < length names → t ≡ get_or names i t
    → first_known there (drop i names) ≡ or_else (scope_at there t) (first_known there (drop (i + 1) names))
step there names i t lt e = at_drop_more (first_known there) names i t lt ∙ ap (λ u. or_else (scope_at there u) (first_known there (drop (i + 1) names))) (sym e)

pub turn-hit : (there : List Scope) (names : List (List ℕ)) (i : ℕ) (t : List ℕ) (f : Found) → i < length names → t ≡ get_or names i t → seen f ≡ scope_at there t → is_some f ≡ true → first_known there (drop i names) ≡ seen f
turn-hit there names i t f lt e s h = step there names i t lt e ∙ hit f (scope_at there t) (first_known there (drop (i + 1) names)) s h

pub turn-miss : (there : List Scope) (names : List (List ℕ)) (i : ℕ) (t : List ℕ) (f : Found) → i < length names → t ≡ get_or names i t → seen f ≡ scope_at there t → is_some f ≡ false → first_known there (drop i names) ≡ first_known there (drop (i + 1) names)
turn-miss there names i t f lt e s h = step there names i t lt e ∙ miss f (scope_at there t) (first_known there (drop (i + 1) names)) s h

pub turn-end : (there : List Scope) (names : List (List ℕ)) (i : ℕ) → length names ≤ i → first_known there (drop i names) ≡ None
turn-end there names i le = at_drop_all (first_known there) names i le

-- ---- a turn over a text that is shortened

pub front-hit : (there : List Scope) (text : List ℕ) (f : Found) → seen f ≡ scope_at there text → is_some f ≡ true → first_known there (shortened text) ≡ seen f
front-hit there text f s h =
    let first = whole-first text in
    ap (first_known there) first.1 ∙ hit f (scope_at there text) (first_known there first.0) s h

pub front-end : (there : List Scope) (text : List ℕ) (f : Found) → Lacks slash text → seen f ≡ scope_at there text → is_some f ≡ false → first_known there (shortened text) ≡ None
front-end there text f last s h = ap (first_known there) (shortened-last text last) ∙ miss f (scope_at there text) None s h

pub front-miss : (there : List Scope) (text : List ℕ) (f : Found) (k : ℕ) → k < length text → get_or text k 0 ≡ slash → ((i : ℕ) → k < i → i < length text → get_or text i 0 ≢ slash)
    → seen f ≡ scope_at there text → is_some f ≡ false → first_known there (shortened text) ≡ first_known there (shortened (take k text))
front-miss there text f k lt e last s h =
    ap (first_known there) (shorter text k lt e last) ∙ miss f (scope_at there text) (first_known there (shortened (take k text))) s h

-- ---- a policy without scopes

no_scopes : (names : List (List ℕ)) → filter_map (scope_at []) names ≡ []
no_scopes [] = refl
no_scopes (name ∷ more) = no_scopes more

-- its default list counts for every image
pub chosen-of_default : (default : List Requirement) (place : Place) → chosen (of_default default) place ≡ record { scope = None; list = default }
chosen-of_default default (Docker r) = ap (first_or default) (no_scopes (scopes (Docker r)))
chosen-of_default default (Dir path) = ap (first_or default) (no_scopes (scopes (Dir path)))
chosen-of_default default (Oci path tag) = ap (first_or default) (no_scopes (scopes (Oci path tag)))
