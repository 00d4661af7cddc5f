-- The reading of a policy file and the relation `IsPolicy` agree.
use Rattle.std.proofs.Common.{◌≡◌, ℕ, suc, Bool, true, false, List, [], ◌∷◌, cond, codes, nat_cmp, Ordering, Less, Equal, Greater, is_eq, Option, Some, None, Ok, Err, refl, sym, ap, subst, ◌∙◌, inl, inr}
use Rattle.std.specs.Prelude.{◌≢◌, option_and_then}
use Rattle.std.specs.Cmp.Lexicographic.{slice_cmp}
use Rattle.std.specs.Ordering.{match_ordering}
use Rattle.std.specs.Str.{bytes_eq}
use Rattle.std.proofs.lemmas.Bool.{cases_Bool}
use Rattle.std.proofs.lemmas.Cmp.{nat_list_cmp_total, nat_list_eq_equiv, tied_itself}
use Rattle.std.proofs.lemmas.Map.Text.{is_eq-slice_cmp}
use Rattle.serde_json.specs.Data.{Data, null, boolean, number, string, array, object, Items, no_items, item, Members, no_members, member}
use Rattle.serde_json.specs.Find.{get, get_member}
use Rattle.json_tree.specs.Sorted.{IsBelowAll, IsSortedThere, MembersAreSorted}
use Rattle.json_tree.specs.Tree.{tree}
use Rattle.json_tree.specs.declared.path.Step.TheVariants.{Name, Place}
use Rattle.json_tree.proofs.SortedLemmas.{sorted-tree, sorted-get}
use Rattle.policy_file.specs.declared.requirement.Requirement.{Requirement}
use Rattle.policy_file.specs.IsPolicy.{AreRequirements, IsList, AreScopes, IsScopes, EachHasScopes, MapsTransports, HasScopes, HasList, IsPolicyOf, IsPolicy}
use Rattle.policy_file.specs.Judged.{Judged, under, told_of}
use Rattle.policy_file.specs.Members.{only}
use Rattle.policy_file.specs.PolicyLists.{PolicyLists, Scope, of_default, with_transport}
use Rattle.policy_file.specs.PolicyOf.{items_by, members_by, requirement_of, some_of, list_of, scope_of, scopes_of, with_transports, transports_of, default_of, members_of, policy_of, policy_in}
use Rattle.policy_file.proofs.ReadLemmas.{went, under-ok, only-ok, only-has, same_bytes}
use Rattle.policy_file.proofs.ElementLaw.{is_requirement, requirement_of-is}

-- ---- lists

are_requirements : (i : ℕ) (ds : Items) (list : List Requirement) → items_by requirement_of i ds ≡ Ok list → AreRequirements ds list
are_requirements i no_items [] h = tt
are_requirements i no_items (r ∷ rs) h = absurd (cc h)
are_requirements i (item d ds) list h =
    let a = went (under (Place i) (requirement_of d)) _ list h in
    let b = went (items_by requirement_of (suc i) ds) _ list a.second in
    let same : a.value ∷ b.value ≡ list = cc b.second in
    subst (AreRequirements (item d ds)) same (is_requirement d a.value (under-ok (Place i) (requirement_of d) a.value a.first), are_requirements (suc i) ds b.value b.first)

items_by-are : (i : ℕ) (ds : Items) (list : List Requirement) → AreRequirements ds list → items_by requirement_of i ds ≡ Ok list
items_by-are i no_items [] h = refl
items_by-are i no_items (r ∷ rs) h = absurd h
items_by-are i (item d ds) [] h = absurd h
items_by-are i (item d ds) (r ∷ rs) h = rw (requirement_of-is d r h.0, items_by-are (suc i) ds rs h.1) refl

some_are : (ds : Items) (list : List Requirement) → some_of ds ≡ Ok list → (list ≢ []) × AreRequirements ds list
some_are no_items list h = absurd (cc h)
some_are (item d ds) list h =
    let are = are_requirements 0 (item d ds) list h in (λ none. subst (AreRequirements (item d ds)) none are, are)

some_of-are : (ds : Items) (list : List Requirement) → list ≢ [] → AreRequirements ds list → some_of ds ≡ Ok list
some_of-are no_items [] some h = absurd (some refl)
some_of-are no_items (r ∷ rs) some h = absurd h
some_of-are (item d ds) list some h = items_by-are 0 (item d ds) list h

is_list : (d : Data) (list : List Requirement) → list_of d ≡ Ok list → IsList d list
is_list (array ds) list h = some_are ds list h
is_list null list h = absurd (cc h)
is_list (boolean b) list h = absurd (cc h)
is_list (number n) list h = absurd (cc h)
is_list (string s) list h = absurd (cc h)
is_list (object ms) list h = absurd (cc h)

list_of-is : (d : Data) (list : List Requirement) → IsList d list → list_of d ≡ Ok list
list_of-is (array ds) list h = some_of-are ds list h.0 h.1
list_of-is null list h = absurd h
list_of-is (boolean b) list h = absurd h
list_of-is (number n) list h = absurd h
list_of-is (string s) list h = absurd h
list_of-is (object ms) list h = absurd h

-- ---- scopes

are_scopes : (ms : Members) (scopes : List Scope) → members_by scope_of ms ≡ Ok scopes → AreScopes ms scopes
are_scopes no_members [] h = tt
are_scopes no_members (s ∷ ss) h = absurd (cc h)
are_scopes (member k d ms) scopes h =
    let a = went (under (Name k) (scope_of k d)) _ scopes h in
    let b = went (members_by scope_of ms) _ scopes a.second in
    let l = went (list_of d) (λ list. Ok (record { name = k; list = list })) a.value (under-ok (Name k) (scope_of k d) a.value a.first) in
    let scope : Scope = record { name = k; list = l.value } in
    let first : scope ≡ a.value = cc l.second in
    let same : a.value ∷ b.value ≡ scopes = cc b.second in
    subst (AreScopes (member k d ms)) (ap (λ s. s ∷ b.value) first ∙ same) (refl, (is_list d l.value l.first, are_scopes ms b.value b.first))

members_by-are : (ms : Members) (scopes : List Scope) → AreScopes ms scopes → members_by scope_of ms ≡ Ok scopes
members_by-are no_members [] h = refl
members_by-are no_members (s ∷ ss) h = absurd h
members_by-are (member k d ms) [] h = absurd h
members_by-are (member k d ms) (s ∷ ss) h = rw (← h.0, list_of-is d s.list h.1.0, members_by-are ms ss h.1.1) refl

is_scopes : (d : Data) (scopes : List Scope) → scopes_of d ≡ Ok scopes → IsScopes d scopes
is_scopes (object ms) scopes h = are_scopes ms scopes h
is_scopes null scopes h = absurd (cc h)
is_scopes (boolean b) scopes h = absurd (cc h)
is_scopes (number n) scopes h = absurd (cc h)
is_scopes (string s) scopes h = absurd (cc h)
is_scopes (array ds) scopes h = absurd (cc h)

scopes_of-is : (d : Data) (scopes : List Scope) → IsScopes d scopes → scopes_of d ≡ Ok scopes
scopes_of-is (object ms) scopes h = members_by-are ms scopes h
scopes_of-is null scopes h = absurd h
scopes_of-is (boolean b) scopes h = absurd h
scopes_of-is (number n) scopes h = absurd h
scopes_of-is (string s) scopes h = absurd h
scopes_of-is (array ds) scopes h = absurd h

-- ---- transports

-- the scopes of a transport after its member was read, if there is one
abbrev Holds : Option Data → List Scope → List Scope → Type 0
Holds None before after = after ≡ before
Holds (Some d) before after = IsScopes d after

-- the lists after the members were read
record Held (ms : Members) (before after : PolicyLists) : Type 0 where
  pub each : EachHasScopes ms
  pub default : after.default ≡ before.default
  pub docker : Holds (get_member (codes "docker") ms) before.docker after.docker
  pub dir : Holds (get_member (codes "dir") ms) before.dir after.dir
  pub oci : Holds (get_member (codes "oci") ms) before.oci after.oci

default-by : (a b c : Bool) (scopes : List Scope) (lists : PolicyLists)
    → (cond a (record lists { docker = scopes }) (cond b (record lists { dir = scopes }) (cond c (record lists { oci = scopes }) lists))).default ≡ lists.default
default-by true b c scopes lists = refl
default-by false true c scopes lists = refl
default-by false false true scopes lists = refl
default-by false false false scopes lists = refl

docker-by : (a b c : Bool) (scopes : List Scope) (lists : PolicyLists)
    → (cond a (record lists { docker = scopes }) (cond b (record lists { dir = scopes }) (cond c (record lists { oci = scopes }) lists))).docker ≡ cond a scopes lists.docker
docker-by true b c scopes lists = refl
docker-by false true c scopes lists = refl
docker-by false false true scopes lists = refl
docker-by false false false scopes lists = refl

dir-by : (a b c : Bool) (scopes : List Scope) (lists : PolicyLists) → (a ≡ true → b ≡ false)
    → (cond a (record lists { docker = scopes }) (cond b (record lists { dir = scopes }) (cond c (record lists { oci = scopes }) lists))).dir ≡ cond b scopes lists.dir
dir-by true b c scopes lists apart = rw (apart refl) refl
dir-by false true c scopes lists apart = refl
dir-by false false true scopes lists apart = refl
dir-by false false false scopes lists apart = refl

oci-by : (a b c : Bool) (scopes : List Scope) (lists : PolicyLists) → (a ≡ true → c ≡ false) → (b ≡ true → c ≡ false)
    → (cond a (record lists { docker = scopes }) (cond b (record lists { dir = scopes }) (cond c (record lists { oci = scopes }) lists))).oci ≡ cond c scopes lists.oci
oci-by true b c scopes lists first second = rw (first refl) refl
oci-by false true c scopes lists first second = rw (second refl) refl
oci-by false false true scopes lists first second = refl
oci-by false false false scopes lists first second = refl

apart : (k x y : List ℕ) → bytes_eq x y ≡ false → bytes_eq k x ≡ true → bytes_eq k y ≡ false
apart k x y other is = rw (same_bytes k x is) other

with_transport-default : (k : List ℕ) (scopes : List Scope) (lists : PolicyLists) → (with_transport k scopes lists).default ≡ lists.default
with_transport-default k scopes lists = default-by (bytes_eq k (codes "docker")) (bytes_eq k (codes "dir")) (bytes_eq k (codes "oci")) scopes lists

with_transport-docker : (k : List ℕ) (scopes : List Scope) (lists : PolicyLists) → (with_transport k scopes lists).docker ≡ cond (bytes_eq k (codes "docker")) scopes lists.docker
with_transport-docker k scopes lists = docker-by (bytes_eq k (codes "docker")) (bytes_eq k (codes "dir")) (bytes_eq k (codes "oci")) scopes lists

with_transport-dir : (k : List ℕ) (scopes : List Scope) (lists : PolicyLists) → (with_transport k scopes lists).dir ≡ cond (bytes_eq k (codes "dir")) scopes lists.dir
with_transport-dir k scopes lists =
    dir-by (bytes_eq k (codes "docker")) (bytes_eq k (codes "dir")) (bytes_eq k (codes "oci")) scopes lists (apart k (codes "docker") (codes "dir") refl)

with_transport-oci : (k : List ℕ) (scopes : List Scope) (lists : PolicyLists) → (with_transport k scopes lists).oci ≡ cond (bytes_eq k (codes "oci")) scopes lists.oci
with_transport-oci k scopes lists =
    oci-by (bytes_eq k (codes "docker")) (bytes_eq k (codes "dir")) (bytes_eq k (codes "oci")) scopes lists (apart k (codes "docker") (codes "oci") refl) (apart k (codes "dir") (codes "oci") refl)

absent : (k : List ℕ) (ms : Members) → IsBelowAll k ms → get_member k ms ≡ None
absent k no_members h = refl
absent k (member l e ms) h = rw h.0 (absent k ms h.1)

found : (k : List ℕ) (d : Data) (ms : Members) → get_member k (member k d ms) ≡ Some d
found k d ms = rw (tied_itself nat_list_cmp_total k) refl

passed_over : (o : Ordering) (d : Data) (rest : Option Data) → is_eq o ≡ false → match_ordering o rest (Some d) rest ≡ rest
passed_over Less d rest h = refl
passed_over Equal d rest h = absurd (cc h)
passed_over Greater d rest h = refl

other : (name k : List ℕ) (d : Data) (ms : Members) → bytes_eq k name ≡ false → get_member name (member k d ms) ≡ get_member name ms
other name k d ms h = passed_over (slice_cmp nat_cmp name k) d (get_member name ms) (is_eq-slice_cmp name k ∙ nat_list_eq_equiv.symm name k ∙ h)

-- a member more, in front
holds_more : (name k : List ℕ) (d : Data) (ms : Members) (scopes before next after : List Scope) → IsBelowAll k ms → next ≡ cond (bytes_eq k name) scopes before → IsScopes d scopes
    → Holds (get_member name ms) next after → Holds (get_member name (member k d ms)) before after
holds_more name k d ms scopes before next after below is there h =
    elim (cases_Bool (bytes_eq k name)) [
      | inl same ↦
          let e : k ≡ name = same_bytes k name same in
          let none : get_member name ms ≡ None = subst (λ n. get_member n ms ≡ None) e (absent k ms below) in
          let first : get_member name (member k d ms) ≡ Some d = subst (λ n. get_member n (member k d ms) ≡ Some d) e (found k d ms) in
          let stays : after ≡ next = subst (λ o. Holds o next after) none h in
          let chosen : next ≡ scopes = rw same at is in
          subst (λ o. Holds o before after) (sym first) (subst (IsScopes d) (sym (stays ∙ chosen)) there)
      | inr different ↦
          let kept : next ≡ before = rw different at is in
          subst (λ o. Holds o before after) (sym (other name k d ms different)) (subst (λ b. Holds (get_member name ms) b after) kept h)
    ]

-- a member less, in front
holds_less : (name k : List ℕ) (d : Data) (ms : Members) (scopes before next after : List Scope) → IsBelowAll k ms → next ≡ cond (bytes_eq k name) scopes before → scopes_of d ≡ Ok scopes
    → Holds (get_member name (member k d ms)) before after → Holds (get_member name ms) next after
holds_less name k d ms scopes before next after below is read h =
    elim (cases_Bool (bytes_eq k name)) [
      | inl same ↦
          let e : k ≡ name = same_bytes k name same in
          let none : get_member name ms ≡ None = subst (λ n. get_member n ms ≡ None) e (absent k ms below) in
          let first : get_member name (member k d ms) ≡ Some d = subst (λ n. get_member n (member k d ms) ≡ Some d) e (found k d ms) in
          let there : scopes_of d ≡ Ok after = scopes_of-is d after (subst (λ o. Holds o before after) first h) in
          let chosen : next ≡ scopes = rw same at is in
          let once : after ≡ scopes = cc (there, read) in
          subst (λ o. Holds o next after) (sym none) (once ∙ sym chosen)
      | inr different ↦
          let kept : next ≡ before = rw different at is in
          subst (λ b. Holds (get_member name ms) b after) (sym kept) (subst (λ o. Holds o before after) (other name k d ms different) h)
    ]

held : (ms : Members) (before after : PolicyLists) → MembersAreSorted ms → with_transports before ms ≡ Ok after → Held ms before after
held no_members before after sorted h =
    let same : before ≡ after = cc h in
    subst (Held no_members before) same (record { each = tt; default = refl; docker = refl; dir = refl; oci = refl })
held (member k d ms) before after sorted h =
    let w = went (under (Name k) (scopes_of d)) (λ scopes. with_transports (with_transport k scopes before) ms) after h in
    let next : PolicyLists = with_transport k w.value before in
    let is = is_scopes d w.value (under-ok (Name k) (scopes_of d) w.value w.first) in
    let rest = held ms next after sorted.1.1 w.second in
    record {
      each = ((w.value, is), rest.each);
      default = rest.default ∙ with_transport-default k w.value before;
      docker = holds_more (codes "docker") k d ms w.value before.docker next.docker after.docker sorted.0 (with_transport-docker k w.value before) is rest.docker;
      dir = holds_more (codes "dir") k d ms w.value before.dir next.dir after.dir sorted.0 (with_transport-dir k w.value before) is rest.dir;
      oci = holds_more (codes "oci") k d ms w.value before.oci next.oci after.oci sorted.0 (with_transport-oci k w.value before) is rest.oci;
    }

same_lists : (x y : PolicyLists) → x.default ≡ y.default → x.docker ≡ y.docker → x.dir ≡ y.dir → x.oci ≡ y.oci → x ≡ y
same_lists x y a b c d = λ i. record { default = a i; docker = b i; dir = c i; oci = d i }

with_transports-held : (ms : Members) (before after : PolicyLists) → MembersAreSorted ms → Held ms before after → with_transports before ms ≡ Ok after
with_transports-held no_members before after sorted h = ap Ok (sym (same_lists after before h.default h.docker h.dir h.oci))
with_transports-held (member k d ms) before after sorted h =
    let scopes = h.each.0.0 in
    let read = scopes_of-is d scopes h.each.0.1 in
    let next : PolicyLists = with_transport k scopes before in
    let rest : Held ms next after = record {
      each = h.each.1;
      default = h.default ∙ sym (with_transport-default k scopes before);
      docker = holds_less (codes "docker") k d ms scopes before.docker next.docker after.docker sorted.0 (with_transport-docker k scopes before) read h.docker;
      dir = holds_less (codes "dir") k d ms scopes before.dir next.dir after.dir sorted.0 (with_transport-dir k scopes before) read h.dir;
      oci = holds_less (codes "oci") k d ms scopes before.oci next.oci after.oci sorted.0 (with_transport-oci k scopes before) read h.oci;
    } in
    rw read (with_transports-held ms next after sorted.1.1 rest)

-- ---- the whole

has_scopes : (o : Option Data) (scopes : List Scope) → Holds o [] scopes → HasScopes o scopes
has_scopes None scopes h = h
has_scopes (Some d) scopes h = h

holds_none : (o : Option Data) (scopes : List Scope) → HasScopes o scopes → Holds o [] scopes
holds_none None scopes h = h
holds_none (Some d) scopes h = h

-- what the member `transports` says of a policy with that default list
record SaysTransports (o : Option Data) (list : List Requirement) (lists : PolicyLists) : Type 0 where
  pub default : list ≡ lists.default
  pub each : MapsTransports o
  pub docker : HasScopes (option_and_then (get (codes "docker")) o) lists.docker
  pub dir : HasScopes (option_and_then (get (codes "dir")) o) lists.dir
  pub oci : HasScopes (option_and_then (get (codes "oci")) o) lists.oci

says_transports : (o : Option Data) (list : List Requirement) (lists : PolicyLists) → IsSortedThere o → transports_of (of_default list) o ≡ Ok lists → SaysTransports o list lists
says_transports None list lists sorted h =
    let same : of_default list ≡ lists = cc h in
    subst (SaysTransports None list) same (record { default = refl; each = tt; docker = refl; dir = refl; oci = refl })
says_transports (Some (object ms)) list lists sorted h =
    let p = held ms (of_default list) lists sorted (under-ok (Name (codes "transports")) (with_transports (of_default list) ms) lists h) in
    record {
      default = sym p.default;
      each = p.each;
      docker = has_scopes (get_member (codes "docker") ms) lists.docker p.docker;
      dir = has_scopes (get_member (codes "dir") ms) lists.dir p.dir;
      oci = has_scopes (get_member (codes "oci") ms) lists.oci p.oci;
    }
says_transports (Some null) list lists sorted h = absurd (cc h)
says_transports (Some (boolean b)) list lists sorted h = absurd (cc h)
says_transports (Some (number n)) list lists sorted h = absurd (cc h)
says_transports (Some (string s)) list lists sorted h = absurd (cc h)
says_transports (Some (array ds)) list lists sorted h = absurd (cc h)

transports_of-says : (o : Option Data) (list : List Requirement) (lists : PolicyLists) → IsSortedThere o → SaysTransports o list lists → transports_of (of_default list) o ≡ Ok lists
transports_of-says None list lists sorted h = ap Ok (same_lists (of_default list) lists h.default (sym h.docker) (sym h.dir) (sym h.oci))
transports_of-says (Some (object ms)) list lists sorted h =
    rw (with_transports-held ms (of_default list) lists sorted (record {
      each = h.each;
      default = sym h.default;
      docker = holds_none (get_member (codes "docker") ms) lists.docker h.docker;
      dir = holds_none (get_member (codes "dir") ms) lists.dir h.dir;
      oci = holds_none (get_member (codes "oci") ms) lists.oci h.oci;
    })) refl
transports_of-says (Some null) list lists sorted h = absurd h.each
transports_of-says (Some (boolean b)) list lists sorted h = absurd h.each
transports_of-says (Some (number n)) list lists sorted h = absurd h.each
transports_of-says (Some (string s)) list lists sorted h = absurd h.each
transports_of-says (Some (array ds)) list lists sorted h = absurd h.each

has_list : (o : Option Data) (list : List Requirement) → default_of o ≡ Ok list → HasList o list
has_list None list h = absurd (cc h)
has_list (Some d) list h = is_list d list (under-ok (Name (codes "default")) (list_of d) list h)

default_of-has : (o : Option Data) (list : List Requirement) → HasList o list → default_of o ≡ Ok list
default_of-has None list h = absurd h
default_of-has (Some d) list h = rw (list_of-is d list h) refl

abbrev top_names : List (List ℕ)
top_names = codes "default" ∷ codes "transports" ∷ []

members_are : (ms : Members) (lists : PolicyLists) → MembersAreSorted ms → members_of ms ≡ Ok lists → IsPolicyOf (object ms) lists
unfolding members_of
members_are ms lists sorted h =
    let a = went (only top_names ms) _ lists h in
    let b = went (default_of (get_member (codes "default") ms)) (λ list. transports_of (of_default list) (get_member (codes "transports") ms)) lists a.second in
    let t = says_transports (get_member (codes "transports") ms) b.value lists (sorted-get (codes "transports") (object ms) sorted) b.second in
    record {
      only = only-ok top_names ms a.value a.first;
      default = has_list (get_member (codes "default") ms) lists.default (b.first ∙ ap Ok t.default);
      each = t.each;
      docker = t.docker;
      dir = t.dir;
      oci = t.oci;
    }

members_of-are : (ms : Members) (lists : PolicyLists) → MembersAreSorted ms → IsPolicyOf (object ms) lists → members_of ms ≡ Ok lists
unfolding members_of
members_of-are ms lists sorted h =
    let t = transports_of-says (get_member (codes "transports") ms) lists.default lists (sorted-get (codes "transports") (object ms) sorted)
    (record { default = refl; each = h.each; docker = h.docker; dir = h.dir; oci = h.oci }) in
    rw (only-has top_names ms h.only, default_of-has (get_member (codes "default") ms) lists.default h.default) t

is_policy : (o : Option Data) (lists : PolicyLists) → IsSortedThere o → policy_of o ≡ Ok lists → IsPolicy o lists
is_policy (Some (object ms)) lists sorted h = members_are ms lists sorted h
is_policy None lists sorted h = absurd (cc h)
is_policy (Some null) lists sorted h = absurd (cc h)
is_policy (Some (boolean b)) lists sorted h = absurd (cc h)
is_policy (Some (number n)) lists sorted h = absurd (cc h)
is_policy (Some (string s)) lists sorted h = absurd (cc h)
is_policy (Some (array ds)) lists sorted h = absurd (cc h)

policy_of-is : (o : Option Data) (lists : PolicyLists) → IsSortedThere o → IsPolicy o lists → policy_of o ≡ Ok lists
policy_of-is (Some (object ms)) lists sorted h = members_of-are ms lists sorted h
policy_of-is None lists sorted h = absurd h
policy_of-is (Some null) lists sorted h = absurd h.only
policy_of-is (Some (boolean b)) lists sorted h = absurd h.only
policy_of-is (Some (number n)) lists sorted h = absurd h.only
policy_of-is (Some (string s)) lists sorted h = absurd h.only
policy_of-is (Some (array ds)) lists sorted h = absurd h.only

told_ok : {A : Type 0} (r : Judged A) (x : A) → told_of r ≡ Ok x → r ≡ Ok x
told_ok (Ok y) x h = let same : y ≡ x = cc h in ap Ok same
told_ok (Err e) x h = absurd (cc h)

-- what is read is what the bytes say
pub read_says : (bytes : List ℕ) (lists : PolicyLists) → policy_in bytes ≡ Ok lists → IsPolicy (tree bytes) lists
read_says bytes lists h = is_policy (tree bytes) lists (sorted-tree bytes) (told_ok (policy_of (tree bytes)) lists h)

-- what the bytes say is read
pub said_reads : (bytes : List ℕ) (lists : PolicyLists) → IsPolicy (tree bytes) lists → policy_in bytes ≡ Ok lists
said_reads bytes lists h = ap told_of (policy_of-is (tree bytes) lists (sorted-tree bytes) h)
