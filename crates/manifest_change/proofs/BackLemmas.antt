-- What is written of a change is read again, and comes back.
use Rattle.std.proofs.Common.{◌≡◌, ℕ, ◌<◌, ◌^◌, codes, List, [], ◌∷◌, ◌++◌, Option, Some, None, Result, Ok, Err, refl, sym, ap, ◌∙◌, subst}
use Rattle.serde_json.specs.Data.{Data, null, boolean, number, string, array, object, Items, no_items, item}
use Rattle.serde_json.specs.Find.{get}
use Rattle.json_tree.specs.Tree.{tree}
use Rattle.manifest_v2s2.specs.Image.{image_of}
use Rattle.manifest_v2s2.specs.IsImage.{IsDescriptorThere, AreLayers, AllAgree, SaysImage}
use Rattle.manifest_v2s2.specs.Known.{Differs}
use Rattle.manifest_v2s2.specs.Writable.{AreInOrder, IsWritableDescriptor, known_as, AreWritable, IsWritable}
use Rattle.manifest_v2s2.specs.declared.descriptor.Descriptor.{Descriptor}
use Rattle.manifest_v2s2.specs.declared.image.Image.{Image}
use Rattle.manifest_v2s2.specs.declared.kind.Kind.{Kind}
use Rattle.manifest_v2s2.specs.declared.sizes.Known.{Known}
use Rattle.manifest_v2s2.proofs.IsDescriptorLemmas.{AreBehind, all-behind, none-agree}
use Rattle.manifest_change.specs.declared.rows.TypeRow.{TypeRow}
use Rattle.manifest_change.specs.Rows.{IsConfigRow, IsLayerRow}
use Rattle.manifest_change.specs.Found.{config_type, layer_type}
use Rattle.manifest_change.specs.Changed.{changed}
use Rattle.manifest_change.specs.IsChange.{IsChanged, AreEach, IsChange, IsBack, IsImageBack, IsReadAgain}
use Rattle.manifest_change.proofs.RowLemmas.{Finds, configs-found, layers-found, back-same}
use Rattle.manifest_change.proofs.ChangeLemmas.{image-made}

-- ---- there and back

one-back : (IsRow : TypeRow → Type 0) (find : Kind → List ℕ → Option (List ℕ)) → Finds IsRow find → (to kind : Kind) (x y z : Descriptor) → IsChanged IsRow to x y → IsChanged IsRow kind y z → IsBack IsRow kind x z
one-back IsRow find finds to kind x y z there back = record {
  media = λ own. back-same IsRow find finds to kind x.media y.media z.media there.media back.media own;
  digest = back.digest ∙ there.digest;
  size = back.size ∙ there.size;
  urls = back.urls ∙ there.urls;
}

layers-back : (to kind : Kind) (xs ys zs : List Descriptor) → AreEach (IsChanged IsLayerRow to) xs ys → AreEach (IsChanged IsLayerRow kind) ys zs → AreEach (IsBack IsLayerRow kind) xs zs
layers-back to kind [] [] [] h k = tt
layers-back to kind [] [] (z ∷ zs) h k = absurd k
layers-back to kind [] (y ∷ ys) zs h k = absurd h
layers-back to kind (x ∷ xs) [] zs h k = absurd h
layers-back to kind (x ∷ xs) (y ∷ ys) [] h k = absurd k
layers-back to kind (x ∷ xs) (y ∷ ys) (z ∷ zs) h k = (one-back IsLayerRow layer_type layers-found to kind x y z h.0 k.0, layers-back to kind xs ys zs h.1 k.1)

image-back : (to : Kind) (old new again : Image) → IsChange to old new → IsChange old.kind new again → IsImageBack old again
image-back to old new again there back = record {
  kind = back.kind;
  config = one-back IsConfigRow config_type configs-found to old.kind old.config new.config again.config there.config back.config;
  layers = layers-back to old.kind old.layers new.layers again.layers there.layers back.layers;
}

-- ---- what becomes of an image that a tree says can be written

plain_order : (x : Descriptor) → x.annotations ≡ [] → AreInOrder x.annotations
plain_order x e = rw e tt

whole-there : (o : Option Data) (x : Descriptor) → IsDescriptorThere o x → x.size < 2 ^ 63
whole-there None x h = absurd h
whole-there (Some d) x h = h.whole

one-writable : (IsRow : TypeRow → Type 0) (to : Kind) (x y : Descriptor) → IsChanged IsRow to x y → x.size < 2 ^ 63 → IsWritableDescriptor y
one-writable IsRow to x y c whole = record { size = rw c.size whole; annotations = plain_order y c.annotations }

known-same : (IsRow : TypeRow → Type 0) (to : Kind) (x y : Descriptor) → IsChanged IsRow to x y → known_as y ≡ known_as x
known-same IsRow to x y c = rw (c.digest, c.size) refl

layers-writable : (to : Kind) (known : List Known) (ds : Items) (xs ys : List Descriptor) → AreBehind known ds xs → AreEach (IsChanged IsLayerRow to) xs ys → AreWritable known ys
layers-writable to known ds [] [] h e = tt
layers-writable to known ds [] (y ∷ ys) h e = absurd e
layers-writable to known ds (x ∷ xs) [] h e = absurd e
layers-writable to known no_items (x ∷ xs) (y ∷ ys) h e = absurd h
layers-writable to known (item d ds) (x ∷ xs) (y ∷ ys) h e =
    let agrees : Differs known y.digest y.size → ⊥ = rw (e.0.digest, e.0.size) h.0.1 in
    let rest : AreWritable (known ++ known_as x ∷ []) ys = layers-writable to (known ++ known_as x ∷ []) ds xs ys h.1 e.1 in
    let same = known-same IsLayerRow to x y e.0 in
    (one-writable IsLayerRow to x y e.0 h.0.0.whole, (agrees, subst (λ (k : Known). AreWritable (known ++ k ∷ []) ys) (sym same) rest))

layers-there : (to : Kind) (config : Descriptor) (o : Option Data) (xs ys : List Descriptor) → AreLayers o xs → AllAgree (config ∷ xs) → AreEach (IsChanged IsLayerRow to) xs ys → AreWritable (known_as config ∷ []) ys
layers-there to config None xs ys h a e = absurd h
layers-there to config (Some null) xs ys h a e = none ys (rw h at e)
  where
    none : (ys : List Descriptor) → AreEach (IsChanged IsLayerRow to) [] ys → AreWritable (known_as config ∷ []) ys
    none [] e = tt
    none (y ∷ ys) e = absurd e
layers-there to config (Some (boolean b)) xs ys h a e = absurd h
layers-there to config (Some (number n)) xs ys h a e = absurd h
layers-there to config (Some (string s)) xs ys h a e = absurd h
layers-there to config (Some (array ds)) xs ys h a e = layers-writable to (known_as config ∷ []) ds xs ys (all-behind (known_as config ∷ []) ds xs h (none-agree config xs a.0) a.1) e
layers-there to config (Some (object ms)) xs ys h a e = absurd h

image-writable : (to kind : Kind) (o : Option Data) (old new : Image) → SaysImage kind o old → IsChange to old new → IsWritable new
image-writable to kind None old new h c = absurd h
image-writable to kind (Some d) old new h c =
    let layers : AreWritable (known_as old.config ∷ []) new.layers = layers-there to old.config (get (codes "layers") d) old.layers new.layers h.layers h.one_size c.layers in
    record {
      config = one-writable IsConfigRow to old.config new.config c.config (whole-there (get (codes "config") d) old.config h.config);
      layers = subst (λ (k : Known). AreWritable (k ∷ []) new.layers) (sym (known-same IsConfigRow to old.config new.config c.config)) layers;
    }

-- so it is read again, and comes back
pub read-again : (to kind : Kind) (o : Option Data) (old new : Image) (bytes : List ℕ) → changed to old ≡ Ok new → SaysImage kind o old → (IsWritable new → image_of new.kind (tree bytes) ≡ Ok new) → IsReadAgain to old bytes
read-again to kind o old new bytes made says again =
    let change = image-made to old new made in
    record {
      new = new;
      change = change;
      read = ap (λ k. image_of k (tree bytes)) (sym change.kind) ∙ again (image-writable to kind o old new says change);
      back = λ other back. image-back to old new other change back;
    }
