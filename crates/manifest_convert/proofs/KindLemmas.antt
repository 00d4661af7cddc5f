-- The kind of a tree is found exactly where it has one, or its first bad member named.
use Rattle.std.proofs.Common.{◌≡◌, ℕ, codes, cond, not, Bool, true, false, List, [], Option, Some, None, Result, Ok, Err, refl, sym, ap, ◌∙◌}
use Rattle.std.specs.Prelude.{⊤}
use Rattle.serde_json.specs.Data.{Data, null, boolean, number, string, array, object, Members}
use Rattle.serde_json.specs.Find.{get}
use Rattle.json_tree.specs.declared.path.Step.TheVariants.{Name}
use Rattle.json_tree.specs.Checked.{Checked, under, both}
use Rattle.json_tree.specs.First.{Path, NamesFirst}
use Rattle.json_tree.specs.Tree.{tree}
use Rattle.json_tree.proofs.FirstLemmas.{NamesFirst-map, NamesFirst-itself, NamesFirst-five, IsInOrder}
use Rattle.manifest_v2s2.specs.Media.{is_list}
use Rattle.manifest_v2s2.specs.Descriptor.{checked_some}
use Rattle.manifest_v2s2.specs.Image.{absent, version_checked}
use Rattle.manifest_v2s2.specs.Bad.{ItselfIf, BadPresent, BadVersion}
use Rattle.manifest_v2s2.specs.Calls.{Reads, NamesFirstBad, TellsOnly}
use Rattle.manifest_v2s2.specs.declared.kind.Kind.{Kind}
use Rattle.manifest_v2s2.specs.declared.fault.ManifestFault.{ManifestFault}
use Rattle.manifest_v2s2.specs.declared.fault.ManifestFault.TheVariants.{Member, Memory}
use Rattle.manifest_v2s2.proofs.BadLemmas.{names-absent, names-version}
use Rattle.manifest_v2s2.proofs.Relation.{both_ok, under_ok, map_ok}
use Rattle.manifest_v2s2.proofs.IsImageLemmas.{absent-said, version-said}
use Rattle.manifest_convert.specs.Kinds as kinds
use Rattle.manifest_convert.specs.Kinds.{kind_given, absent_where, is_image, kind_in, kind_checked, kind_of}
use Rattle.manifest_convert.specs.HasKind.{IsGiven, IsOfKind, HasKind}
use Rattle.manifest_convert.specs.BadKind.{GivesList, BadWhere, BadMembers, BadKind}
use Rattle.manifest_convert.proofs.GivenLemmas.{given-said, given-read}

-- ---- what is found is said

where-said : (test : Kind → Bool) (kind : Kind) (o : Option Data) (u : ⊤) → absent_where test (Some kind) o ≡ Ok u → test kind ≡ true → o ≡ None
where-said test kind o u h t = by_test (test kind) t h
  where
    by_test : (b : Bool) → b ≡ true → cond b (absent o) (Ok tt) ≡ Ok u → o ≡ None
    by_test true t h = absent-said o u h
    by_test false t h = cc t

given-some : (given : Option Kind) (kind : Kind) → checked_some given ≡ Ok kind → given ≡ Some kind
given-some (Some k) kind h = ap Some (cc h)
given-some None kind h = cc h

checked-said : (content : List ℕ) (d : Data) (kind : Kind) → kind_checked (kind_given content d) d ≡ Ok kind → IsOfKind content d kind
checked-said content d kind h =
    let m = map_ok kind_in _ kind h in
    let p : kinds.Members = m.0 in
    let b1 = both_ok _ _ p.0 p.1 m.1 in
    let b2 = both_ok _ _ p.1.0 p.1.1 b1.1 in
    let b3 = both_ok _ _ p.1.1.0 p.1.1.1 b2.1 in
    let b4 = both_ok _ _ p.1.1.1.0 p.1.1.1.1 b3.1 in
    let is : kind_given content d ≡ Some kind = given-some (kind_given content d) kind (under_ok _ _ p.1.1.1.0 b4.0 ∙ ap (λ k. Ok k) m.2) in
    let config : absent_where is_list (Some kind) (get (codes "config") d) ≡ Ok p.0 = sym (ap (λ g. absent_where is_list g (get (codes "config") d)) is) ∙ under_ok _ _ p.0 b1.0 in
    let layers : absent_where is_list (Some kind) (get (codes "layers") d) ≡ Ok p.1.0 = sym (ap (λ g. absent_where is_list g (get (codes "layers") d)) is) ∙ under_ok _ _ p.1.0 b2.0 in
    let manifests : absent_where is_image (Some kind) (get (codes "manifests") d) ≡ Ok p.1.1.0 = sym (ap (λ g. absent_where is_image g (get (codes "manifests") d)) is) ∙ under_ok _ _ p.1.1.0 b3.0 in
    record {
      version = version-said (get (codes "schemaVersion") d) p.1.1.1.1 (under_ok _ _ p.1.1.1.1 b4.1);
      given = given-said content d kind is;
      no_list = λ t. where-said is_image kind (get (codes "manifests") d) p.1.1.0 manifests (ap not t);
      no_config = λ t. where-said is_list kind (get (codes "config") d) p.0 config t;
      no_layers = λ t. where-said is_list kind (get (codes "layers") d) p.1.0 layers t;
    }

kind-said : (content : List ℕ) (o : Option Data) (kind : Kind) → kind_of content o ≡ Ok kind → HasKind content o kind
unfolding kind_of
kind-said content None kind h = cc h
kind-said content (Some null) kind h = cc h
kind-said content (Some (boolean b)) kind h = cc h
kind-said content (Some (number n)) kind h = cc h
kind-said content (Some (string s)) kind h = cc h
kind-said content (Some (array ds)) kind h = cc h
kind-said content (Some (object ms)) kind h = checked-said content (object ms) kind h

-- ---- what is said is found

where-read : (test : Kind → Bool) (kind : Kind) (o : Option Data) → (test kind ≡ true → o ≡ None) → absent_where test (Some kind) o ≡ Ok tt
where-read test kind o h = by_test (test kind) h
  where
    by_test : (b : Bool) → (b ≡ true → o ≡ None) → cond b (absent o) (Ok tt) ≡ Ok tt
    by_test true h = rw (h refl) refl
    by_test false h = refl

not_true : (b : Bool) → not b ≡ true → b ≡ false
not_true true h = cc h
not_true false h = refl

checked-read : (content : List ℕ) (d : Data) (kind : Kind) → IsOfKind content d kind → kind_checked (kind_given content d) d ≡ Ok kind
checked-read content d kind h =
    let config = where-read is_list kind (get (codes "config") d) h.no_config in
    let layers = where-read is_list kind (get (codes "layers") d) h.no_layers in
    let manifests = where-read is_image kind (get (codes "manifests") d) (λ t. h.no_list (not_true (is_list kind) t)) in
    let found : kind_checked (Some kind) d ≡ Ok kind = rw (config, layers, manifests, h.version) refl in
    ap (λ g. kind_checked g d) (given-read content d kind h.given) ∙ found

kind-read : (content : List ℕ) (o : Option Data) (kind : Kind) → HasKind content o kind → kind_of content o ≡ Ok kind
unfolding kind_of
kind-read content None kind h = absurd h
kind-read content (Some null) kind h = cc h.version
kind-read content (Some (boolean b)) kind h = cc h.version
kind-read content (Some (number n)) kind h = cc h.version
kind-read content (Some (string s)) kind h = cc h.version
kind-read content (Some (array ds)) kind h = cc h.version
kind-read content (Some (object ms)) kind h = checked-read content (object ms) kind h

-- so an answer that is the reading's tells the one kind that the tree has
pub tells-kind : (content : List ℕ) (o : Option Data) (r : Result Kind ManifestFault) → Reads r (kind_of content o) → TellsOnly (HasKind content o) r
tells-kind content o (Ok kind) h = (kind-said content o kind h, λ k s. cc (sym (kind-read content o k s) ∙ h))
tells-kind content o (Err (Member text)) h = λ k s. cc (sym h.1 ∙ kind-read content o k s)
tells-kind content o (Err Memory) h = tt

-- ---- the first bad member

-- what is bad under a premise that holds, and under one that does not
names-and : {A : Type 0} (x : Checked A) (B : Path → Type 0) (P : Type 0) → P → NamesFirst x B → NamesFirst x (λ p. B p × P)
names-and (Ok a) B P holds h = λ q b. h q b.0
names-and (Err p) B P holds h = record { here = (h.here, holds); first = λ q b. h.first q b.0 }

names-where : (content : List ℕ) (d : Data) (list : Bool) (test : Kind → Bool) → ((kind : Kind) → test kind ≡ true → is_list kind ≡ list) → ((kind : Kind) → is_list kind ≡ list → test kind ≡ true) → (o : Option Data)
    → NamesFirst (absent_where test (kind_given content d) o) (BadWhere (GivesList content d list) o)
names-where content d list test means meant o = by_given (kind_given content d) refl
  where
    by_test : (kind : Kind) (b : Bool) → kind_given content d ≡ Some kind → test kind ≡ b → NamesFirst (cond b (absent o) (Ok tt)) (BadWhere (GivesList content d list) o)
    by_test kind true e t = names-and (absent o) (BadPresent o) (GivesList content d list) (kind, given-said content d kind e, means kind t) (names-absent o)
    by_test kind false e t = λ q b.
        let same : Some kind ≡ Some b.1.0 = sym e ∙ given-read content d b.1.0 b.1.1 in
        let yes_test : test b.1.0 ≡ true = meant b.1.0 b.1.2 in
        let same_kind : b.1.0 ≡ kind = cc (sym same) in
        cc (sym yes_test ∙ ap test same_kind ∙ t)

    by_given : (g : Option Kind) → kind_given content d ≡ g → NamesFirst (absent_where test g o) (BadWhere (GivesList content d list) o)
    by_given None e = λ q b. cc (sym e ∙ given-read content d b.1.0 b.1.1)
    by_given (Some kind) e = by_test kind (test kind) e refl

names-given : (content : List ℕ) (d : Data) → NamesFirst (checked_some (kind_given content d)) (ItselfIf ((kind : Kind) → IsGiven content d kind → ⊥))
names-given content d = by_given (kind_given content d) refl
  where
    by_given : (g : Option Kind) → kind_given content d ≡ g → NamesFirst (checked_some g) (ItselfIf ((kind : Kind) → IsGiven content d kind → ⊥))
    by_given None e = names-and (checked_some {A = Kind} None) (λ p. p ≡ []) ((kind : Kind) → IsGiven content d kind → ⊥) (λ kind given. cc (sym e ∙ given-read content d kind given)) (NamesFirst-itself Kind)
    by_given (Some kind) e = λ q b. b.1 kind (given-said content d kind e)

in_order : IsInOrder (Name (codes "config")) (Name (codes "layers")) (Name (codes "manifests")) (Name (codes "mediaType")) (Name (codes "schemaVersion"))
in_order = record { h12 = refl; h13 = refl; h14 = refl; h15 = refl; h23 = refl; h24 = refl; h25 = refl; h34 = refl; h35 = refl; h45 = refl }

names-checked : (content : List ℕ) (d : Data) → NamesFirst (kind_checked (kind_given content d) d) (BadMembers content d)
names-checked content d =
    let given = kind_given content d in
    let s1 = Name (codes "config") in
    let s2 = Name (codes "layers") in
    let s3 = Name (codes "manifests") in
    let s4 = Name (codes "mediaType") in
    let s5 = Name (codes "schemaVersion") in
    let o1 = get (codes "config") d in
    let o2 = get (codes "layers") d in
    let o3 = get (codes "manifests") d in
    let o5 = get (codes "schemaVersion") d in
    let x1 = absent_where is_list given o1 in
    let x2 = absent_where is_list given o2 in
    let x3 = absent_where is_image given o3 in
    let x4 = checked_some given in
    let x5 = version_checked o5 in
    let list = GivesList content d true in
    let image = GivesList content d false in
    NamesFirst-map (BadMembers content d) kind_in
    (both (under s1 x1) (both (under s2 x2) (both (under s3 x3) (both (under s4 x4) (under s5 x5)))))
    (NamesFirst-five s1 s2 s3 s4 s5 (BadWhere list o1) (BadWhere list o2) (BadWhere image o3) (ItselfIf ((kind : Kind) → IsGiven content d kind → ⊥)) (BadVersion o5) x1 x2 x3 x4 x5
    (names-where content d true is_list (λ k t. t) (λ k t. t) o1) (names-where content d true is_list (λ k t. t) (λ k t. t) o2)
    (names-where content d false is_image (λ k t. not_true (is_list k) t) (λ k t. ap not t) o3) (names-given content d) (names-version o5) in_order)

names-kind : (content : List ℕ) (o : Option Data) → NamesFirst (kind_of content o) (BadKind content o)
unfolding kind_of BadKind
names-kind content None = NamesFirst-itself Kind
names-kind content (Some null) = NamesFirst-itself Kind
names-kind content (Some (boolean b)) = NamesFirst-itself Kind
names-kind content (Some (number n)) = NamesFirst-itself Kind
names-kind content (Some (string t)) = NamesFirst-itself Kind
names-kind content (Some (array ds)) = NamesFirst-itself Kind
names-kind content (Some (object ms)) = names-checked content (object ms)

-- what is read of a tree names the first bad member
pub first-kind : (content : List ℕ) (o : Option Data) (r : Result Kind ManifestFault) → Reads r (kind_of content o) → NamesFirstBad r (BadKind content o)
first-kind content o (Ok i) h = rw h at (names-kind content o)
first-kind content o (Err (Member text)) h = (h.0, rw h.1 at (names-kind content o), h.2)
first-kind content o (Err Memory) h = tt
