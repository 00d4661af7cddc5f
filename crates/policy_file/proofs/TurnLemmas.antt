-- Loops that read in turn, and stop at the first fault.
use Rattle.std.proofs.Common.{◌≡◌, ℕ, ◌+◌, ◌<◌, ◌≤◌, ◌==◌, false, List, [], ◌∷◌, ◌++◌, map, length, drop, get_or, String, Global, string_bytes, string_cmp, nat_cmp, Less, Greater, Ok, Err, refl, sym, ap, ◌∙◌, subst, add-one, append_assoc, append-nil}
use Rattle.std.proofs.lemmas.Cmp.{nat_list_cmp_total}
use Rattle.std.proofs.lemmas.List.{at_drop_more, at_drop_all}
use Rattle.std.specs.Cmp.Lexicographic.{slice_cmp}
use Rattle.std.specs.List.{AllByRecursion}
use Rattle.std.specs.List.Sorted.{IsStrictlySortedBy}
use Rattle.std.specs.Map.{keys_of}
use Rattle.std.specs.Ordering.{ordering_reverse}
use Rattle.serde_json.specs.View.{view, items_view, members_view}
use Rattle.serde_json.specs.declared.value.Value.{Value}
use Rattle.json_tree.specs.declared.path.Step.{Step}
use Rattle.json_tree.specs.declared.path.Step.TheVariants.{Name, Place}
use Rattle.policy_file.specs.declared.fault.PolicyKind.{PolicyKind}
use Rattle.policy_file.specs.declared.refusal.Refusal.{Refusal}
use Rattle.policy_file.specs.declared.refusal.Refusal.TheVariants.{Refused, Memory}
use Rattle.policy_file.specs.declared.requirement.Requirement.{Requirement}
use Rattle.policy_file.specs.Judged.{Judged, IsRefusal, under, ◌>>=◌}
use Rattle.policy_file.specs.PolicyLists.{PolicyLists, Scope, with_scope, with_transport}
use Rattle.policy_file.specs.PolicyOf.{items_by, members_by, some_of, requirement_of, list_of, scope_of, scopes_of, with_transports}

-- what was read before, in front of the rest
abbrev pub with_front : {A : Type 0} → List A → Judged (List A) → Judged (List A)
with_front front read = read >>= (λ xs. Ok (front ++ xs))

with_front-more : {A : Type 0} (front : List A) (x : A) (r : Judged (List A)) → with_front front (r >>= (λ xs. Ok (x ∷ xs))) ≡ with_front (front ++ x ∷ []) r
with_front-more front x (Ok xs) = ap Ok (sym (append_assoc front (x ∷ []) xs))
with_front-more front x (Err e) = refl

with_no_front : {A : Type 0} (r : Judged (List A)) → with_front [] r ≡ r
with_no_front (Ok xs) = refl
with_no_front (Err e) = refl

turn_ok : {A : Type 0} (front : List A) (one : Judged A) (rest : Judged (List A)) (x : A) → one ≡ Ok x → with_front front (one >>= (λ x. rest >>= (λ xs. Ok (x ∷ xs)))) ≡ with_front (front ++ x ∷ []) rest
turn_ok front one rest x e = rw e (with_front-more front x rest)

turn_err : {A : Type 0} (front : List A) (one : Judged A) (rest : Judged (List A)) (e : PolicyKind × List Step) → one ≡ Err e → with_front front (one >>= (λ x. rest >>= (λ xs. Ok (x ∷ xs)))) ≡ Err e
turn_err front one rest e h = rw h refl

-- ---- the requirements of a list

abbrev pub IsReadSoFar : List Requirement → ℕ → List Value → Type 0
IsReadSoFar list i vs = with_front list (items_by requirement_of i (items_view (drop i vs))) ≡ items_by requirement_of 0 (items_view vs)

rest_is : (vs : List Value) (i : ℕ) (v : Value) → i < length vs → v ≡ get_or vs i v
    → items_by requirement_of i (items_view (drop i vs)) ≡ (under (Place i) (requirement_of (view v)) >>= (λ x. items_by requirement_of (i + 1) (items_view (drop (i + 1) vs)) >>= (λ xs. Ok (x ∷ xs))))
rest_is vs i v lt e = at_drop_more (λ ws. items_by requirement_of i (items_view ws)) vs i v lt ∙ rw (← e, add-one) refl

pub nothing_read : (vs : List Value) (list : List Requirement) → list ≡ [] → IsReadSoFar list 0 vs
nothing_read vs list e = rw e (with_no_front (items_by requirement_of 0 (items_view vs)))

pub item_read : (vs : List Value) (i : ℕ) (v : Value) (list more : List Requirement) (x : Requirement) → IsReadSoFar list i vs → i < length vs → v ≡ get_or vs i v
    → under (Place i) (requirement_of (view v)) ≡ Ok x → more ≡ list ++ x ∷ [] → IsReadSoFar more (i + 1) vs
item_read vs i v list more x h lt e ok pushed =
    ap (λ front. with_front front (items_by requirement_of (i + 1) (items_view (drop (i + 1) vs)))) pushed
    ∙ sym (turn_ok list (under (Place i) (requirement_of (view v))) (items_by requirement_of (i + 1) (items_view (drop (i + 1) vs))) x ok)
    ∙ ap (with_front list) (sym (rest_is vs i v lt e)) ∙ h

pub item_stops : (vs : List Value) (i : ℕ) (v : Value) (list : List Requirement) (e : Refusal) → IsReadSoFar list i vs → i < length vs → v ≡ get_or vs i v
    → IsRefusal e (under (Place i) (requirement_of (view v))) → IsRefusal e (items_by requirement_of 0 (items_view vs))
item_stops vs i v list (Refused kind path) h lt e refused =
    sym h ∙ ap (with_front list) (rest_is vs i v lt e) ∙ turn_err list (under (Place i) (requirement_of (view v))) (items_by requirement_of (i + 1) (items_view (drop (i + 1) vs))) (kind, path) refused
item_stops vs i v list Memory h lt e refused = tt

pub items_read : (vs : List Value) (i : ℕ) (list : List Requirement) → IsReadSoFar list i vs → length vs ≤ i → items_by requirement_of 0 (items_view vs) ≡ Ok list
items_read vs i list h le =
    sym h ∙ ap (with_front list) (at_drop_all (λ ws. items_by requirement_of i (items_view ws)) vs i le) ∙ ap Ok (append-nil list)

pub some_of-some : (vs : List Value) → false ≡ (length vs == 0) → some_of (items_view vs) ≡ items_by requirement_of 0 (items_view vs)
some_of-some [] h = cc h
some_of-some (v ∷ vs) h = refl

-- ---- the scopes of a transport

abbrev pub Entry : Type 0
Entry = String Global × Value

abbrev pub names : List Scope → List (List ℕ)
names scopes = map (λ s. s.name) scopes

abbrev pub names_of : List Entry → List (List ℕ)
names_of es = map (λ e. string_bytes e.0) es

-- the scopes were read of what stands before the rest, and no name of the rest is below one of theirs
pub record AreReadUpTo (scopes : List Scope) (rest whole : List Entry) : Type 0 where
  pub read : with_front scopes (members_by scope_of (members_view rest)) ≡ members_by scope_of (members_view whole)
  pub ordered : IsStrictlySortedBy (slice_cmp nat_cmp) (names scopes ++ names_of rest)

below_names : (k : String Global) (es : List Entry) → AllByRecursion (λ y. string_cmp k y ≡ Less) (keys_of es) → AllByRecursion (λ y. slice_cmp nat_cmp (string_bytes k) y ≡ Less) (names_of es)
below_names k [] h = tt
below_names k (e ∷ es) h = (h.0, below_names k es h.1)

sorted_names : (es : List Entry) → IsStrictlySortedBy string_cmp (keys_of es) → IsStrictlySortedBy (slice_cmp nat_cmp) (names_of es)
unfolding IsStrictlySortedBy
sorted_names [] h = tt
sorted_names (e ∷ es) h = (below_names e.0 es h.0, sorted_names es h.1)

below_middle : (first : List ℕ) (scopes : List Scope) (name : List ℕ) (more : List (List ℕ)) → AllByRecursion (λ y. slice_cmp nat_cmp first y ≡ Less) (names scopes ++ name ∷ more) → slice_cmp nat_cmp first name ≡ Less
below_middle first [] name more h = h.0
below_middle first (s ∷ ss) name more h = below_middle first ss name more h.1

-- a scope that is above those before it goes last
with_scope-last : (scopes : List Scope) (name : List ℕ) (list : List Requirement) (more : List (List ℕ)) → IsStrictlySortedBy (slice_cmp nat_cmp) (names scopes ++ name ∷ more)
    → with_scope name list scopes ≡ scopes ++ record { name = name; list = list } ∷ []
unfolding IsStrictlySortedBy
with_scope-last [] name list more h = refl
with_scope-last (s ∷ ss) name list more h =
    let above : slice_cmp nat_cmp name s.name ≡ Greater = nat_list_cmp_total.antisymm name s.name ∙ ap ordering_reverse (below_middle s.name ss name more h.0) in
    rw above (ap (λ ts. s ∷ ts) (with_scope-last ss name list more h.1))

under_ok : {A B : Type 0} (step : Step) (r : Judged A) (f : A → B) (x : A) → under step r ≡ Ok x → under step (r >>= (λ y. Ok (f y))) ≡ Ok (f x)
under_ok step (Ok y) f x e = let same : y ≡ x = cc in ap (λ z. Ok (f z)) same
under_ok step (Err e) f x h = cc h

under_err : {A B : Type 0} (step : Step) (r : Judged A) (f : A → B) (e : PolicyKind × List Step) → under step r ≡ Err e → under step (r >>= (λ y. Ok (f y))) ≡ Err e
under_err step (Ok y) f e h = cc h
under_err step (Err d) f e h = let same : (d.0, step ∷ d.1) ≡ e = cc in ap Err same

pub no_scope_read : (whole rest : List Entry) (scopes : List Scope) → scopes ≡ [] → rest ≡ whole → IsStrictlySortedBy string_cmp (keys_of whole) → AreReadUpTo scopes rest whole
no_scope_read whole rest scopes e same ordered = record {
  read = rw (e, same) (with_no_front (members_by scope_of (members_view whole)));
  ordered = rw (e, same) (sorted_names whole ordered);
}

names-last : (scopes : List Scope) (s : Scope) (more : List (List ℕ)) → names (scopes ++ s ∷ []) ++ more ≡ names scopes ++ s.name ∷ more
names-last [] s more = refl
names-last (t ∷ ts) s more = ap (λ ns. t.name ∷ ns) (names-last ts s more)

pub scope_read : (rest after whole : List Entry) (k : String Global) (v : Value) (name : List ℕ) (scopes more : List Scope) (list : List Requirement)
    → AreReadUpTo scopes rest whole → rest ≡ (k, v) ∷ after → name ≡ string_bytes k → under (Name name) (list_of (view v)) ≡ Ok list → more ≡ with_scope name list scopes → AreReadUpTo more after whole
scope_read rest after whole k v name scopes more list h step same ok added =
    let scope : Scope = record { name = name; list = list } in
    let ordered : IsStrictlySortedBy (slice_cmp nat_cmp) (names scopes ++ name ∷ names_of after) = subst (λ n. IsStrictlySortedBy (slice_cmp nat_cmp) (names scopes ++ n ∷ names_of after)) (sym same) (subst (λ es. IsStrictlySortedBy (slice_cmp nat_cmp) (names scopes ++ names_of es)) step h.ordered) in
    let last : more ≡ scopes ++ scope ∷ [] = added ∙ with_scope-last scopes name list (names_of after) ordered in
    let one : under (Name name) (scope_of name (view v)) ≡ Ok scope = under_ok (Name name) (list_of (view v)) (λ l. record { name = name; list = l }) list ok in
    let rest_is : members_by scope_of (members_view rest) ≡ (under (Name name) (scope_of name (view v)) >>= (λ x. members_by scope_of (members_view after) >>= (λ xs. Ok (x ∷ xs)))) =
    ap (λ es. members_by scope_of (members_view es)) step ∙ rw same refl in
    record {
      read = ap (λ front. with_front front (members_by scope_of (members_view after))) last
          ∙ sym (turn_ok scopes (under (Name name) (scope_of name (view v))) (members_by scope_of (members_view after)) scope one)
          ∙ ap (with_front scopes) (sym rest_is) ∙ h.read;
      ordered = subst (λ ts. IsStrictlySortedBy (slice_cmp nat_cmp) (names ts ++ names_of after)) (sym last)
          (subst (λ ns. IsStrictlySortedBy (slice_cmp nat_cmp) ns) (sym (names-last scopes scope (names_of after))) ordered);
    }

pub scope_stops : (rest after whole : List Entry) (k : String Global) (v : Value) (name : List ℕ) (scopes : List Scope) (e : Refusal)
    → AreReadUpTo scopes rest whole → rest ≡ (k, v) ∷ after → name ≡ string_bytes k → IsRefusal e (under (Name name) (list_of (view v))) → IsRefusal e (members_by scope_of (members_view whole))
scope_stops rest after whole k v name scopes (Refused kind path) h step same refused =
    sym h.read ∙ ap (with_front scopes) (ap (λ es. members_by scope_of (members_view es)) step ∙ rw same refl)
    ∙ turn_err scopes (under (Name name) (scope_of name (view v))) (members_by scope_of (members_view after)) (kind, path)
    (under_err (Name name) (list_of (view v)) (λ l. record { name = name; list = l }) (kind, path) refused)
scope_stops rest after whole k v name scopes Memory h step same refused = tt

pub scopes_read : (rest whole : List Entry) (scopes : List Scope) → AreReadUpTo scopes rest whole → rest ≡ [] → members_by scope_of (members_view whole) ≡ Ok scopes
scopes_read rest whole scopes h none = sym h.read ∙ ap (λ es. with_front scopes (members_by scope_of (members_view es))) none ∙ ap Ok (append-nil scopes)

-- ---- the transports of a policy

-- what is left gives what the whole gave
abbrev pub SameTransports : PolicyLists → PolicyLists → List Entry → List Entry → Type 0
SameTransports now first rest whole = with_transports now (members_view rest) ≡ with_transports first (members_view whole)

pub transport_read : (now first next : PolicyLists) (rest after whole : List Entry) (k : String Global) (v : Value) (name : List ℕ) (scopes : List Scope)
    → SameTransports now first rest whole → rest ≡ (k, v) ∷ after → name ≡ string_bytes k → under (Name name) (scopes_of (view v)) ≡ Ok scopes → next ≡ with_transport name scopes now → SameTransports next first after whole
transport_read now first next rest after whole k v name scopes h step same ok kept =
    rw kept (sym (ap (λ es. with_transports now (members_view es)) step ∙ rw (← same, ok) refl) ∙ h)

pub transport_stops : (now first : PolicyLists) (rest after whole : List Entry) (k : String Global) (v : Value) (name : List ℕ) (e : Refusal)
    → SameTransports now first rest whole → rest ≡ (k, v) ∷ after → name ≡ string_bytes k → IsRefusal e (under (Name name) (scopes_of (view v))) → IsRefusal e (with_transports first (members_view whole))
transport_stops now first rest after whole k v name (Refused kind path) h step same refused =
    sym h ∙ ap (λ es. with_transports now (members_view es)) step ∙ rw (← same, refused) refl
transport_stops now first rest after whole k v name Memory h step same refused = tt

pub transports_read : (now first : PolicyLists) (rest whole : List Entry) → SameTransports now first rest whole → rest ≡ [] → with_transports first (members_view whole) ≡ Ok now
transports_read now first rest whole h none = sym h ∙ ap (λ es. with_transports now (members_view es)) none
