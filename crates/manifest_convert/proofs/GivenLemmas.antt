-- The rows give the kind that the function finds.
use Rattle.std.proofs.Common.{◌≡◌, ◌≢◌, ℕ, cond, codes, Bool, true, false, List, Option, Some, None, refl, sym, ap, ◌∙◌}
use Rattle.std.specs.Option.{is_some, IsSome}
use Rattle.std.specs.Str.{bytes_eq}
use Rattle.std.proofs.lemmas.Slice.Eq.{bytes_eq-Decides}
use Rattle.serde_json.specs.Data.{Data, null, boolean, number, string, array, object}
use Rattle.serde_json.specs.Find.{get}
use Rattle.manifest_v2s2.specs.Media.{media_of}
use Rattle.manifest_v2s2.specs.declared.kind.Kind.{Kind}
use Rattle.manifest_v2s2.specs.declared.kind.Kind.TheVariants.{V2s2, V2s2List, Oci, OciIndex}
use Rattle.manifest_convert.specs.Types.{bare, kind_named}
use Rattle.manifest_convert.specs.Kinds.{or_else, kind_shown, kind_by_media, kind_given}
use Rattle.manifest_convert.specs.HasKind.{HasNoOwnType, MembersShow, IsGiven, own_type, content_type, members}

-- ---- media types

-- each kind is named by its media type
named-media : (kind : Kind) → kind_named (media_of kind) ≡ Some kind
unfolding kind_named
named-media V2s2 = refl
named-media V2s2List = refl
named-media Oci = refl
named-media OciIndex = refl

some-or : (text : List ℕ) (k kind : Kind) (rest : Option Kind) (b : Bool) → bytes_eq text (media_of k) ≡ b → (rest ≡ Some kind → text ≡ media_of kind) → cond b (Some k) rest ≡ Some kind → text ≡ media_of kind
some-or text k kind rest true t later h = let same : k ≡ kind = cc h in (bytes_eq-Decides text (media_of k)).0 t ∙ ap media_of same
some-or text k kind rest false t later h = later h

-- and by no other
media-named : (text : List ℕ) (kind : Kind) → kind_named text ≡ Some kind → text ≡ media_of kind
unfolding kind_named
media-named text kind h =
    some-or text V2s2 kind _ (bytes_eq text (media_of V2s2)) refl
    (some-or text V2s2List kind _ (bytes_eq text (media_of V2s2List)) refl
    (some-or text Oci kind _ (bytes_eq text (media_of Oci)) refl
    (some-or text OciIndex kind None (bytes_eq text (media_of OciIndex)) refl (λ none. cc none)))) h

named-none : (text : List ℕ) → ((kind : Kind) → text ≢ media_of kind) → kind_named text ≡ None
named-none text h = by_named (kind_named text) refl
  where
    by_named : (o : Option Kind) → kind_named text ≡ o → kind_named text ≡ None
    by_named None e = e
    by_named (Some k) e = absurd (h k (media-named text k e))

none-named : (text : List ℕ) → kind_named text ≡ None → (kind : Kind) → text ≢ media_of kind
none-named text none kind e = cc (sym none ∙ ap kind_named e ∙ named-media kind)

-- ---- members

abbrev ShownBy : Option Data → Option Data → Kind → Type 0
ShownBy m c V2s2 = ⊥
ShownBy m c V2s2List = ⊥
ShownBy m c Oci = (m ≡ None) × IsSome c
ShownBy m c OciIndex = IsSome m

shown-by : (m c : Option Data) (kind : Kind) → cond (is_some m) (Some OciIndex) (cond (is_some c) (Some Oci) None) ≡ Some kind → ShownBy m c kind
shown-by (Some d) c V2s2 h = cc h
shown-by (Some d) c V2s2List h = cc h
shown-by (Some d) c Oci h = cc h
shown-by (Some d) c OciIndex h = refl
shown-by None (Some d) V2s2 h = cc h
shown-by None (Some d) V2s2List h = cc h
shown-by None (Some d) Oci h = (refl, refl)
shown-by None (Some d) OciIndex h = cc h
shown-by None None kind h = cc h

shown-said : (d : Data) (kind : Kind) → kind_shown d ≡ Some kind → MembersShow d kind
shown-said d V2s2 h = shown-by (get (codes "manifests") d) (get (codes "config") d) V2s2 h
shown-said d V2s2List h = shown-by (get (codes "manifests") d) (get (codes "config") d) V2s2List h
shown-said d Oci h = shown-by (get (codes "manifests") d) (get (codes "config") d) Oci h
shown-said d OciIndex h = shown-by (get (codes "manifests") d) (get (codes "config") d) OciIndex h

shown-read : (d : Data) (kind : Kind) → MembersShow d kind → kind_shown d ≡ Some kind
shown-read d V2s2 h = absurd h
shown-read d V2s2List h = absurd h
shown-read d Oci h = rw (h.0, h.1) refl
shown-read d OciIndex h = rw h refl

-- ---- the rows

-- behind the object's own type
beside-said : (content : List ℕ) (d : Data) (kind : Kind) (named : Option Kind) → HasNoOwnType d → kind_named (bare content) ≡ named → or_else named (kind_shown d) ≡ Some kind → IsGiven content d kind
beside-said content d kind (Some k) none e h = content_type none (media-named (bare content) kind (e ∙ h))
beside-said content d kind None none e h = members none (none-named (bare content) e) (shown-said d kind h)

by_media-said : (content : List ℕ) (d : Data) (kind : Kind) (o : Option Data) → get (codes "mediaType") d ≡ o → kind_by_media content d o ≡ Some kind → IsGiven content d kind
by_media-said content d kind None e h = beside-said content d kind (kind_named (bare content)) (λ text f. cc (sym e ∙ f)) refl h
by_media-said content d kind (Some null) e h = beside-said content d kind (kind_named (bare content)) (λ text f. cc (sym e ∙ f)) refl h
by_media-said content d kind (Some (boolean b)) e h = beside-said content d kind (kind_named (bare content)) (λ text f. cc (sym e ∙ f)) refl h
by_media-said content d kind (Some (number n)) e h = beside-said content d kind (kind_named (bare content)) (λ text f. cc (sym e ∙ f)) refl h
by_media-said content d kind (Some (string s)) e h = own_type (e ∙ ap (λ t. Some (string t)) (media-named s kind h))
by_media-said content d kind (Some (array ds)) e h = beside-said content d kind (kind_named (bare content)) (λ text f. cc (sym e ∙ f)) refl h
by_media-said content d kind (Some (object ms)) e h = beside-said content d kind (kind_named (bare content)) (λ text f. cc (sym e ∙ f)) refl h

-- the kind that is found is given
pub given-said : (content : List ℕ) (d : Data) (kind : Kind) → kind_given content d ≡ Some kind → IsGiven content d kind
given-said content d kind h = by_media-said content d kind (get (codes "mediaType") d) refl h

no_text : (content : List ℕ) (d : Data) (o : Option Data) → ((text : List ℕ) → o ≢ Some (string text)) → kind_by_media content d o ≡ or_else (kind_named (bare content)) (kind_shown d)
no_text content d None h = refl
no_text content d (Some null) h = refl
no_text content d (Some (boolean b)) h = refl
no_text content d (Some (number n)) h = refl
no_text content d (Some (string s)) h = absurd (h s refl)
no_text content d (Some (array ds)) h = refl
no_text content d (Some (object ms)) h = refl

-- the kind that is given is found
pub given-read : (content : List ℕ) (d : Data) (kind : Kind) → IsGiven content d kind → kind_given content d ≡ Some kind
given-read content d kind (own_type e) = ap (kind_by_media content d) e ∙ named-media kind
given-read content d kind (content_type none e) = no_text content d (get (codes "mediaType") d) none ∙ ap (λ k. or_else k (kind_shown d)) (ap kind_named e ∙ named-media kind)
given-read content d kind (members none unknown shows) = no_text content d (get (codes "mediaType") d) none ∙ ap (λ k. or_else k (kind_shown d)) (named-none (bare content) unknown) ∙ shown-read d kind shows
