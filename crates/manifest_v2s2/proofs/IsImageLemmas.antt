-- An image is read exactly where the words of the format say it.
use Rattle.std.proofs.Common.{◌≡◌, ℕ, ◌==◌, cond, codes, Bool, true, false, List, [], ◌∷◌, Option, Some, None, Result, Ok, Err, refl, sym, ap, ◌∙◌}
use Rattle.std.specs.Prelude.{⊤}
use Rattle.std.specs.List.{All}
use Rattle.std.specs.Str.{bytes_eq}
use Rattle.std.proofs.lemmas.Bool.{eqb-true}
use Rattle.std.proofs.lemmas.List.Elements.{All-nil}
use Rattle.std.proofs.lemmas.Slice.Eq.{bytes_eq-Decides}
use Rattle.serde_json.specs.Data.{Data, null, boolean, number, string, array, object, unsigned, negative, float, Members}
use Rattle.serde_json.specs.Find.{get}
use Rattle.json_tree.specs.declared.path.Step.{Step}
use Rattle.json_tree.specs.Checked.{Checked, under, both}
use Rattle.manifest_v2s2.specs.Media.{media_of, is_list}
use Rattle.manifest_v2s2.specs.Descriptor.{descriptor_of, known_of}
use Rattle.manifest_v2s2.specs.Image as image
use Rattle.manifest_v2s2.specs.Image.{absent, media_checked, version_checked, layers_of, image_of}
use Rattle.manifest_v2s2.specs.IsImage.{IsDescriptorThere, AreLayers, Agree, AllAgree, IsImage, SaysImage}
use Rattle.manifest_v2s2.specs.Calls.{Reads, TellsOnly}
use Rattle.manifest_v2s2.specs.Writable.{known_as}
use Rattle.manifest_v2s2.specs.declared.descriptor.Descriptor.{Descriptor}
use Rattle.manifest_v2s2.specs.declared.image.Image.{Image}
use Rattle.manifest_v2s2.specs.declared.kind.Kind.{Kind}
use Rattle.manifest_v2s2.specs.declared.sizes.Known.{Known}
use Rattle.manifest_v2s2.specs.declared.fault.ManifestFault.{ManifestFault}
use Rattle.manifest_v2s2.specs.declared.fault.ManifestFault.TheVariants.{Member}
use Rattle.manifest_v2s2.specs.declared.fault.ManifestFault.TheVariants as fault
use Rattle.manifest_v2s2.proofs.SizeLemmas.{IsSettled, settled-none}
use Rattle.manifest_v2s2.proofs.Relation.{under_ok, map_ok}
use Rattle.manifest_v2s2.proofs.IsDescriptorLemmas.{IsBehindThere, AreBehind, descriptor-read, known_of-said, settled-said, descriptor-said, layers-said, layers-read, behind-all, all-behind, agree-none, none-agree}

-- ---- single members

pub absent-said : (o : Option Data) (u : ⊤) → absent o ≡ Ok u → o ≡ None
absent-said None u h = refl
absent-said (Some d) u h = cc h

pub version-said : (o : Option Data) (u : ⊤) → version_checked o ≡ Ok u → o ≡ Some (number (unsigned 2))
version-said None u h = cc h
version-said (Some null) u h = cc h
version-said (Some (boolean b)) u h = cc h
version-said (Some (number (unsigned n))) u h = tested (n == 2) refl h
  where
    tested : (b : Bool) → (n == 2) ≡ b → cond {A = Checked ⊤} b (Ok tt) (Err []) ≡ Ok u → Some (number (unsigned n)) ≡ Some (number (unsigned 2))
    tested true t h = ap (λ m. Some (number (unsigned m))) (eqb-true n 2 t)
    tested false t h = cc h
version-said (Some (number (negative z))) u h = cc h
version-said (Some (number (float x))) u h = cc h
version-said (Some (string s)) u h = cc h
version-said (Some (array ds)) u h = cc h
version-said (Some (object ms)) u h = cc h

pub media-said : (kind : Kind) (o : Option Data) (u : ⊤) → media_checked kind o ≡ Ok u → (text : List ℕ) → o ≡ Some (string text) → text ≡ media_of kind
media-said kind o u h text e = tested (bytes_eq text (media_of kind)) refl (sym (ap (media_checked kind) e) ∙ h)
  where
    tested : (b : Bool) → bytes_eq text (media_of kind) ≡ b → cond {A = Checked ⊤} b (Ok tt) (Err []) ≡ Ok u → text ≡ media_of kind
    tested true t k = (bytes_eq-Decides text (media_of kind)).0 t
    tested false t k = cc k

pub media-read : (kind : Kind) (o : Option Data) → ((text : List ℕ) → o ≡ Some (string text) → text ≡ media_of kind) → media_checked kind o ≡ Ok tt
media-read kind None h = refl
media-read kind (Some null) h = refl
media-read kind (Some (boolean b)) h = refl
media-read kind (Some (number n)) h = refl
media-read kind (Some (string s)) h = rw ((bytes_eq-Decides s (media_of kind)).1 (h s refl)) refl
media-read kind (Some (array ds)) h = refl
media-read kind (Some (object ms)) h = refl

-- ---- layers, behind the config

-- they are said, and agree with it and with each other
AreSaid : Descriptor → Option Data → List Descriptor → Type 0
AreSaid config o xs = AreLayers o xs × AllAgree (config ∷ xs)

layers_of-said : (x : Descriptor) → IsSettled (known_as x ∷ []) → (o : Option Data) (xs : List Descriptor) → layers_of (known_as x ∷ []) o ≡ Ok xs → AreSaid x o xs
unfolding AreSaid
layers_of-said x settled None xs h = cc h
layers_of-said x settled (Some null) xs h = let none : xs ≡ [] = sym (cc h) in (none, rw none (All-nil (Agree x), tt))
layers_of-said x settled (Some (boolean b)) xs h = cc h
layers_of-said x settled (Some (number n)) xs h = cc h
layers_of-said x settled (Some (string s)) xs h = cc h
layers_of-said x settled (Some (array ds)) xs h =
    let said = behind-all (known_as x ∷ []) ds xs (layers-said (known_as x ∷ []) settled 0 ds xs h) in
    (said.0, (agree-none x xs said.1.0, said.1.1))
layers_of-said x settled (Some (object ms)) xs h = cc h

layers_of-read : (x : Descriptor) (o : Option Data) (xs : List Descriptor) → AreLayers o xs → AllAgree (x ∷ xs) → layers_of (known_as x ∷ []) o ≡ Ok xs
layers_of-read x None xs h a = absurd h
layers_of-read x (Some null) xs h a = rw h refl
layers_of-read x (Some (boolean b)) xs h a = absurd h
layers_of-read x (Some (number n)) xs h a = absurd h
layers_of-read x (Some (string s)) xs h a = absurd h
layers_of-read x (Some (array ds)) xs h a = layers-read (known_as x ∷ []) 0 ds xs (all-behind (known_as x ∷ []) ds xs h (none-agree x xs a.0) a.1)
layers_of-read x (Some (object ms)) xs h a = absurd h

-- ---- the config, and what is known behind it

there-said : (o : Option Data) (x : Descriptor) → IsBehindThere [] o x → IsDescriptorThere o x
there-said None x h = absurd h
there-said (Some d) x h = h.0

known_of-there : (o : Option Data) (x : Descriptor) → IsDescriptorThere o x → known_of o ≡ known_as x ∷ []
known_of-there None x h = absurd h
known_of-there (Some d) x h = known_of-said d x h

settled-there : (o : Option Data) (x : Descriptor) → IsDescriptorThere o x → IsSettled (known_as x ∷ [])
settled-there None x h = absurd h
settled-there (Some d) x h = settled-said [] d x settled-none (h, λ none. none)

config-read : (o : Option Data) (x : Descriptor) → IsDescriptorThere o x → descriptor_of [] o ≡ Ok x
config-read None x h = absurd h
config-read (Some d) x h = descriptor-read [] d x (h, λ none. none)

-- ---- the image

both-ok : {A B : Type 0} (s : Step) (x : Checked A) (y : Checked B) (p : A × B) → both (under s x) y ≡ Ok p → (x ≡ Ok p.0) × (y ≡ Ok p.1)
both-ok {A} {B} s (Ok a) (Ok b) p h =
    let e : (a, b) ≡ p = cc h in (ap (λ (q : A × B). Ok q.0) e, ap (λ (q : A × B). Ok q.1) e)
both-ok s (Ok a) (Err q) p h = cc h
both-ok s (Err r) (Ok b) p h = cc h
both-ok s (Err r) (Err q) p h = cc h

members-said : (kind : Kind) → is_list kind ≡ false → (ms : Members) (i : Image) → image.members_of kind (object ms) ≡ Ok i → IsImage kind (object ms) i
unfolding AreSaid
members-said kind of_images ms i h =
    let d : Data = object ms in
    let m = map_ok (image.made kind) _ i h in
    let p = m.0 in
    let b1 = both-ok _ _ _ p m.1 in
    let b2 = both-ok _ _ _ p.1 b1.1 in
    let b3 = both-ok _ _ _ p.1.1 b2.1 in
    let b4 = both-ok _ _ _ p.1.1.1 b3.1 in
    let config = there-said (get (codes "config") d) p.0 (descriptor-said [] settled-none (get (codes "config") d) p.0 b1.0) in
    let known = known_of-there (get (codes "config") d) p.0 config in
    let read : layers_of (known_as p.0 ∷ []) (get (codes "layers") d) ≡ Ok p.1.0 = sym (ap (λ known. layers_of known (get (codes "layers") d)) known) ∙ b2.0 in
    let layers = layers_of-said p.0 (settled-there (get (codes "config") d) p.0 config) (get (codes "layers") d) p.1.0 read in
    rw (← m.2) record {
      of_images = of_images;
      version = version-said (get (codes "schemaVersion") d) p.1.1.1.1 (under_ok _ _ _ b4.1);
      media = media-said kind (get (codes "mediaType") d) p.1.1.1.0 b4.0;
      no_list = absent-said (get (codes "manifests") d) p.1.1.0 b3.0;
      kind_is = refl;
      config = config;
      layers = layers.0;
      one_size = layers.1;
    }

members-read : (kind : Kind) (ms : Members) (i : Image) → IsImage kind (object ms) i → image.members_of kind (object ms) ≡ Ok i
members-read kind ms i h =
    let d : Data = object ms in
    let config = config-read (get (codes "config") d) i.config h.config in
    let known = known_of-there (get (codes "config") d) i.config h.config in
    let layers = layers_of-read i.config (get (codes "layers") d) i.layers h.layers h.one_size in
    let media = media-read kind (get (codes "mediaType") d) h.media in
    let whole : Image → Checked Image = λ j. Ok j in
    rw (config, known, layers, h.no_list, media, h.version) (ap (λ (k : Kind). whole (record { kind = k; config = i.config; layers = i.layers })) (sym h.kind_is))

-- what is read of a tree is what the format says of it
pub image-said : (kind : Kind) → is_list kind ≡ false → (o : Option Data) (i : Image) → image_of kind o ≡ Ok i → SaysImage kind o i
unfolding image_of
image-said kind of_images None i h = cc h
image-said kind of_images (Some null) i h = cc h
image-said kind of_images (Some (boolean b)) i h = cc h
image-said kind of_images (Some (number n)) i h = cc h
image-said kind of_images (Some (string s)) i h = cc h
image-said kind of_images (Some (array ds)) i h = cc h
image-said kind of_images (Some (object ms)) i h = members-said kind of_images ms i h

-- what the format says of a tree is read of it
pub image-read : (kind : Kind) (o : Option Data) (i : Image) → SaysImage kind o i → image_of kind o ≡ Ok i
unfolding image_of
image-read kind None i h = absurd h
image-read kind (Some null) i h = cc h.version
image-read kind (Some (boolean b)) i h = cc h.version
image-read kind (Some (number n)) i h = cc h.version
image-read kind (Some (string s)) i h = cc h.version
image-read kind (Some (array ds)) i h = cc h.version
image-read kind (Some (object ms)) i h = members-read kind ms i h

-- so an answer that is the reading's tells the one image that is said
pub tells-image : (kind : Kind) (o : Option Data) (r : Result Image ManifestFault) → is_list kind ≡ false → Reads r (image_of kind o) → TellsOnly (SaysImage kind o) r
tells-image kind o (Ok i) of_images h = (image-said kind of_images o i h, λ j s. cc (sym (image-read kind o j s) ∙ h))
tells-image kind o (Err (Member text)) of_images h = λ j s. cc (sym h.1 ∙ image-read kind o j s)
tells-image kind o (Err fault.Memory) of_images h = tt

-- no tree is an image of a list's kind
pub no-image : (kind : Kind) (o : Option Data) (i : Image) → is_list kind ≡ true → SaysImage kind o i → ⊥
no-image kind None i list h = h
no-image kind (Some d) i list h = cc (sym list ∙ h.of_images)
