-- Descriptors are read exactly where the words of the format say them.
use Rattle.std.proofs.Common.{◌≡◌, ◌⊎◌, inl, inr, ℕ, suc, ◌==◌, codes, Bool, true, false, List, [], ◌∷◌, ◌++◌, Option, Some, None, Ok, Err, refl, sym, ap, ◌∙◌}
use Rattle.std.specs.List.{All}
use Rattle.std.proofs.lemmas.Bool.{eqb-true, eq-eqb}
use Rattle.std.proofs.lemmas.List.Elements.{All-nil, All-cons, All-head, All-tail}
use Rattle.serde_json.specs.Data.{Data, null, boolean, number, string, array, object, unsigned, Items, no_items, item}
use Rattle.serde_json.specs.Find.{get}
use Rattle.skopeo_outside.specs.declared.pair.Pair.{Pair}
use Rattle.image_ref.specs.Digest.{IsDigest, digest_text}
use Rattle.json_tree.specs.declared.path.Step.TheVariants.{Place}
use Rattle.json_tree.specs.Checked.{Checked, under, with_first}
use Rattle.json_tree.specs.Leaf.{text_of, whole_of, optional_list, optional_object}
use Rattle.manifest_v2s2.specs.Descriptor.{descriptor_of, digest_checked, annotation_of, known_of}
use Rattle.manifest_v2s2.specs.Image.{layers_by}
use Rattle.manifest_v2s2.specs.IsImage.{AreTexts, ArePairs, IsDescriptor, AreDescriptors, Agree, AllAgree}
use Rattle.manifest_v2s2.specs.Known.{Differs}
use Rattle.manifest_v2s2.specs.Writable.{known_as}
use Rattle.manifest_v2s2.specs.declared.descriptor.Descriptor.{Descriptor}
use Rattle.manifest_v2s2.specs.declared.sizes.Known.{Known}
use Rattle.manifest_v2s2.proofs.SizeLemmas.{IsSettled, cases_Bool, settled-more, differs-append}
use Rattle.manifest_v2s2.proofs.Relation.{under_ok, descriptor-ok}
use Rattle.manifest_v2s2.proofs.RoundTrip.{texts-again, pairs-again, size-again, digest-again, agrees-if}

-- ---- its members, from the words

texts-read : (o : Option Data) (us : List (List ℕ)) → AreTexts o us → optional_list text_of o ≡ Ok us
texts-read None us h = rw h refl
texts-read (Some null) us h = rw h refl
texts-read (Some (boolean b)) us h = absurd h
texts-read (Some (number n)) us h = absurd h
texts-read (Some (string s)) us h = absurd h
texts-read (Some (array ds)) us h = rw h (texts-again us 0)
texts-read (Some (object ms)) us h = absurd h

pairs-read : (o : Option Data) (ps : List Pair) → ArePairs o ps → optional_object annotation_of o ≡ Ok ps
pairs-read None ps h = rw h refl
pairs-read (Some null) ps h = rw h refl
pairs-read (Some (boolean b)) ps h = absurd h
pairs-read (Some (number n)) ps h = absurd h
pairs-read (Some (string s)) ps h = absurd h
pairs-read (Some (array ds)) ps h = absurd h
pairs-read (Some (object ms)) ps h = rw h (pairs-again ps)

digest-read : (d : Data) (x : Descriptor) → IsDescriptor d x → digest_checked (get (codes "digest") d) ≡ Ok x.digest
digest-read d x h = ap digest_checked h.digest ∙ digest-again x.digest h.bytes

size-read : (d : Data) (x : Descriptor) → IsDescriptor d x → whole_of (get (codes "size") d) ≡ Ok x.size
size-read d x h = ap whole_of h.size ∙ size-again x.size h.whole

-- it is a descriptor, and none that is known gives its digest another size
abbrev pub IsBehind : List Known → Data → Descriptor → Type 0
IsBehind known d x = IsDescriptor d x × (Differs known x.digest x.size → ⊥)

-- what is said of a descriptor is read
pub descriptor-read : (known : List Known) (d : Data) (x : Descriptor) → IsBehind known d x → descriptor_of known (Some d) ≡ Ok x
descriptor-read known null x h = cc h.0.media
descriptor-read known (boolean b) x h = cc h.0.media
descriptor-read known (number n) x h = cc h.0.media
descriptor-read known (string s) x h = cc h.0.media
descriptor-read known (array ds) x h = cc h.0.media
descriptor-read known (object ms) x h =
    let a = pairs-read (get (codes "annotations") (object ms)) x.annotations h.0.annotations in
    let d = digest-read (object ms) x h.0 in
    let m = h.0.media in
    let s = size-read (object ms) x h.0 in
    let u = texts-read (get (codes "urls") (object ms)) x.urls h.0.urls in
    rw (a, d, m, s, u, agrees-if known x.digest x.size h.1) refl

-- its digest and size are known behind it
pub known_of-said : (d : Data) (x : Descriptor) → IsDescriptor d x → known_of (Some d) ≡ known_as x ∷ []
known_of-said d x h =
    let digest = digest-read d x h in
    let size = size-read d x h in
    rw (digest, size) refl

-- and all sizes that are known stay settled
pub settled-said : (known : List Known) (d : Data) (x : Descriptor) → IsSettled known → IsBehind known d x → IsSettled (known ++ known_as x ∷ [])
settled-said known d x settled h = settled-more known (known_as x) settled (agrees-if known x.digest x.size h.1)

-- where something stands, it is so
abbrev pub IsBehindThere : List Known → Option Data → Descriptor → Type 0
IsBehindThere known None x = ⊥
IsBehindThere known (Some d) x = IsBehind known d x

-- what is read as a descriptor is said to be it
pub descriptor-said : (known : List Known) → IsSettled known → (o : Option Data) (x : Descriptor) → descriptor_of known o ≡ Ok x → IsBehindThere known o x
descriptor-said known settled None x h = cc h
descriptor-said known settled (Some null) x h = cc h
descriptor-said known settled (Some (boolean b)) x h = cc h
descriptor-said known settled (Some (number n)) x h = cc h
descriptor-said known settled (Some (string s)) x h = cc h
descriptor-said known settled (Some (array ds)) x h = cc h
descriptor-said known settled (Some (object ms)) x h = descriptor-ok known settled ms x h

-- ---- lists of them

-- item by item, each behind those that are known and those before it
abbrev pub AreBehind : List Known → Items → List Descriptor → Type 0
AreBehind known no_items [] = Unit {0}
AreBehind known no_items (x ∷ xs) = ⊥
AreBehind known (item d ds) [] = ⊥
AreBehind known (item d ds) (x ∷ xs) = IsBehind known d x × AreBehind (known ++ known_as x ∷ []) ds xs

with_first-ok : {A : Type 0} (x : Checked A) (y : Checked (List A)) (u : A) (us : List A) → with_first x y ≡ Ok (u ∷ us) → (x ≡ Ok u) × (y ≡ Ok us)
with_first-ok (Ok x) (Ok y) u us h = (cc h, cc h)
with_first-ok (Ok x) (Err q) u us h = cc h
with_first-ok (Err p) (Ok y) u us h = cc h
with_first-ok (Err p) (Err q) u us h = cc h

with_first-some : {A : Type 0} (x : Checked A) (y : Checked (List A)) → with_first x y ≡ Ok [] → ⊥
with_first-some (Ok x) (Ok y) h = cc h
with_first-some (Ok x) (Err q) h = cc h
with_first-some (Err p) (Ok y) h = cc h
with_first-some (Err p) (Err q) h = cc h

-- what is read as layers is said to be them
pub layers-said : (known : List Known) → IsSettled known → (i : ℕ) (ds : Items) (xs : List Descriptor) → layers_by known i ds ≡ Ok xs → AreBehind known ds xs
layers-said known settled i no_items [] h = tt
layers-said known settled i no_items (x ∷ xs) h = cc h
layers-said known settled i (item d ds) [] h = with_first-some (under (Place i) (descriptor_of known (Some d))) (layers_by (known ++ known_of (Some d)) (suc i) ds) h
layers-said known settled i (item d ds) (x ∷ xs) h =
    let w = with_first-ok (under (Place i) (descriptor_of known (Some d))) (layers_by (known ++ known_of (Some d)) (suc i) ds) x xs h in
    let one = descriptor-said known settled (Some d) x (under_ok (Place i) (descriptor_of known (Some d)) x w.0) in
    let rest = rw (known_of-said d x one.0) at w.1 in
    (one, layers-said (known ++ known_as x ∷ []) (settled-said known d x settled one) (suc i) ds xs rest)

-- what is said of layers is read
pub layers-read : (known : List Known) (i : ℕ) (ds : Items) (xs : List Descriptor) → AreBehind known ds xs → layers_by known i ds ≡ Ok xs
layers-read known i no_items [] h = refl
layers-read known i no_items (x ∷ xs) h = absurd h
layers-read known i (item d ds) [] h = absurd h
layers-read known i (item d ds) (x ∷ xs) h =
    rw (descriptor-read known d x h.0, known_of-said d x h.0.0, layers-read (known ++ known_as x ∷ []) (suc i) ds xs h.1) refl

-- ---- one size for each digest, without an order

-- none that is known differs from one of these
abbrev pub NoneDiffers : List Known → List Descriptor → Type 0
NoneDiffers known [] = Unit {0}
NoneDiffers known (x ∷ xs) = (Differs known x.digest x.size → ⊥) × NoneDiffers known xs

differs-kept : (known : List Known) (k : Known) (digest : List ℕ) (size : ℕ) → Differs known digest size → Differs (known ++ k ∷ []) digest size
differs-kept [] k digest size d = absurd d
differs-kept (l ∷ known) k digest size (inl here) = inl here
differs-kept (l ∷ known) k digest size (inr later) = inr (differs-kept known k digest size later)

differs-last : (known : List Known) (x y : Descriptor) → x.digest ≡ y.digest → (x.size ≡ y.size → ⊥) → Differs (known ++ known_as x ∷ []) y.digest y.size
differs-last [] x y e d = inl (e, d)
differs-last (l ∷ known) x y e d = inr (differs-last known x y e d)

agree-by : (known : List Known) (x y : Descriptor) → (Differs (known ++ known_as x ∷ []) y.digest y.size → ⊥) → Agree x y
agree-by known x y none e =
    elim (cases_Bool (x.size == y.size)) [
      | inl t ↦ eqb-true x.size y.size t
      | inr f ↦ absurd (none (differs-last known x y e (λ same. cc (sym f ∙ eq-eqb x.size y.size same))))
    ]

none-before : (known : List Known) (x : Descriptor) (ys : List Descriptor) → NoneDiffers (known ++ known_as x ∷ []) ys → NoneDiffers known ys × All (Agree x) ys
none-before known x [] h = (tt, All-nil (Agree x))
none-before known x (y ∷ ys) h =
    let rest = none-before known x ys h.1 in
    ((λ d. h.0 (differs-kept known (known_as x) y.digest y.size d), rest.0), All-cons (Agree x) y ys (agree-by known x y h.0) rest.1)

none-behind : (known : List Known) (x : Descriptor) (ys : List Descriptor) → NoneDiffers known ys → All (Agree x) ys → NoneDiffers (known ++ known_as x ∷ []) ys
none-behind known x [] h a = tt
none-behind known x (y ∷ ys) h a = (differs-not, none-behind known x ys h.1 (All-tail (Agree x) y ys a))
  where
    differs-not : Differs (known ++ known_as x ∷ []) y.digest y.size → ⊥
    differs-not d = elim (differs-append known (known_as x) y.digest y.size d) [ inl before ↦ h.0 before | inr last ↦ last.1 (All-head (Agree x) y ys a last.0) ]

-- those that are said one behind the other are said, and agree
pub behind-all : (known : List Known) (ds : Items) (xs : List Descriptor) → AreBehind known ds xs → AreDescriptors ds xs × (NoneDiffers known xs × AllAgree xs)
behind-all known no_items [] h = (tt, (tt, tt))
behind-all known no_items (x ∷ xs) h = absurd h
behind-all known (item d ds) [] h = absurd h
behind-all known (item d ds) (x ∷ xs) h =
    let rest = behind-all (known ++ known_as x ∷ []) ds xs h.1 in
    let before = none-before known x xs rest.1.0 in
    ((h.0.0, rest.0), ((h.0.1, before.0), (before.1, rest.1.1)))

-- and the other way round
pub all-behind : (known : List Known) (ds : Items) (xs : List Descriptor) → AreDescriptors ds xs → NoneDiffers known xs → AllAgree xs → AreBehind known ds xs
all-behind known no_items [] h n a = tt
all-behind known no_items (x ∷ xs) h n a = absurd h
all-behind known (item d ds) [] h n a = absurd h
all-behind known (item d ds) (x ∷ xs) h n a = ((h.0, n.0), all-behind (known ++ known_as x ∷ []) ds xs h.1 (none-behind known x xs n.1 a.0) a.1)

none-none : (xs : List Descriptor) → NoneDiffers [] xs
none-none [] = tt
none-none (x ∷ xs) = (λ d. d, none-none xs)

-- behind one descriptor alone, none differs exactly where all agree with that one
pub agree-none : (x : Descriptor) (xs : List Descriptor) → NoneDiffers (known_as x ∷ []) xs → All (Agree x) xs
agree-none x xs h = (none-before [] x xs h).1

pub none-agree : (x : Descriptor) (xs : List Descriptor) → All (Agree x) xs → NoneDiffers (known_as x ∷ []) xs
none-agree x xs a = none-behind [] x xs (none-none xs) a
