-- What the code makes of an image is what the rows say it becomes.
use Rattle.std.proofs.Common.{◌≡◌, inl, inr, ℕ, suc, ◌+◌, List, [], ◌∷◌, ◌++◌, length, Option, Some, None, Result, Ok, Err, refl, sym, ap, ◌∙◌, subst, add-zero, arith}
use Rattle.std.specs.List.{All}
use Rattle.std.proofs.lemmas.List.Elements.{All-nil, All-cons}
use Rattle.serde_json.specs.Written.{compact_text}
use Rattle.manifest_v2s2.specs.Written.{image_data}
use Rattle.manifest_v2s2.specs.declared.descriptor.Descriptor.{Descriptor}
use Rattle.manifest_v2s2.specs.declared.image.Image.{Image}
use Rattle.manifest_v2s2.specs.declared.kind.Kind.{Kind}
use Rattle.manifest_change.specs.declared.fault.ConvertFault.{ConvertFault}
use Rattle.manifest_change.specs.declared.fault.ConvertFault.TheVariants.{Layer, Config, NotAnImage, NoPlatform, Memory}
use Rattle.manifest_change.specs.declared.rows.TypeRow.{TypeRow}
use Rattle.manifest_change.specs.Rows.{IsConfigRow, IsLayerRow, Becomes, BecomesNone, BecomesSome}
use Rattle.manifest_change.specs.Found.{config_type, layer_type}
use Rattle.manifest_change.specs.Changed.{Converted, with_type, changed_by, config_changed, layer_changed, each, changed, converted, IsFault, Answers, ◌>>=◌}
use Rattle.manifest_change.specs.IsChange.{IsChanged, AreEach, IsChange, IsTextOf, IsFirstLayer, IsFirst, ByRows}
use Rattle.manifest_change.proofs.RowLemmas.{Finds, configs-found, layers-found, none-found}
use Rattle.manifest_change.proofs.EachLemmas.{then-ok, then-err}

-- ---- one descriptor

one-changed : (IsRow : TypeRow → Type 0) (find : Kind → List ℕ → Option (List ℕ)) → Finds IsRow find → (to : Kind) (x : Descriptor) (fault : ConvertFault) (y : Descriptor) (o : Option (List ℕ)) → find to x.media ≡ o
    → changed_by o fault x ≡ Ok y → IsChanged IsRow to x y
one-changed IsRow find finds to x fault y (Some media) e h =
    let same : with_type x media ≡ y = cc h in
    let made : IsChanged IsRow to x (with_type x media) = record { media = finds.sound to x.media media e; digest = refl; size = refl; urls = refl; annotations = refl } in
    subst (IsChanged IsRow to x) same made
one-changed IsRow find finds to x fault y None e h = cc h

one-refused : (IsRow : TypeRow → Type 0) (find : Kind → List ℕ → Option (List ℕ)) → Finds IsRow find → (to : Kind) (x : Descriptor) (fault e : ConvertFault) (o : Option (List ℕ)) → find to x.media ≡ o
    → changed_by o fault x ≡ Err e → (fault ≡ e) × BecomesNone IsRow to x.media
one-refused IsRow find finds to x fault e (Some media) f h = cc h
one-refused IsRow find finds to x fault e None f h = (cc h, none-found IsRow find finds to x.media f)

config-made : (to : Kind) (x y : Descriptor) → config_changed to x ≡ Ok y → IsChanged IsConfigRow to x y
config-made to x y h = one-changed IsConfigRow config_type configs-found to x (Config x.media) y (config_type to x.media) refl h

layer-made : (to : Kind) (n : ℕ) (x y : Descriptor) → layer_changed to n x ≡ Ok y → IsChanged IsLayerRow to x y
layer-made to n x y h = one-changed IsLayerRow layer_type layers-found to x (Layer n x.media) y (layer_type to x.media) refl h

-- ---- the layers

layers-made : (to : Kind) (n : ℕ) (xs ys : List Descriptor) → each (layer_changed to) n xs ≡ Ok ys → AreEach (IsChanged IsLayerRow to) xs ys
layers-made to n [] [] h = tt
layers-made to n [] (y ∷ ys) h = cc h
layers-made to n (x ∷ xs) ys h =
    let one = then-ok (layer_changed to n x) _ ys h in
    let rest = then-ok (each (layer_changed to) (suc n) xs) _ ys one.2 in
    let same : one.0 ∷ rest.0 ≡ ys = cc rest.2 in
    let made : AreEach (IsChanged IsLayerRow to) (x ∷ xs) (one.0 ∷ rest.0) = (layer-made to n x one.0 one.1, layers-made to (suc n) xs rest.0 rest.1) in
    subst (AreEach (IsChanged IsLayerRow to) (x ∷ xs)) same made

-- the first layer whose type becomes none, where the first of all has the number n
record IsFirstFrom (to : Kind) (n : ℕ) (xs : List Descriptor) (e : ConvertFault) : Type 0 where
  before : List Descriptor
  layer : Descriptor
  after : List Descriptor
  stands : xs ≡ before ++ layer ∷ after
  is : e ≡ Layer (n + length before) layer.media
  others : All (λ x. BecomesSome IsLayerRow to x.media) before
  none : BecomesNone IsLayerRow to layer.media

first-refused : (to : Kind) (n : ℕ) (x : Descriptor) (xs : List Descriptor) (e : ConvertFault) → layer_changed to n x ≡ Err e → IsFirstFrom to n (x ∷ xs) e
first-refused to n x xs e here =
    let refused = one-refused IsLayerRow layer_type layers-found to x (Layer n x.media) e (layer_type to x.media) refl here in
    record {
      before = [];
      layer = x;
      after = xs;
      stands = refl;
      is = sym refused.0 ∙ ap (λ m. Layer m x.media) (sym (add-zero n));
      others = All-nil _;
      none = refused.1;
    }

later-refused : (to : Kind) (n : ℕ) (x : Descriptor) (xs : List Descriptor) (e : ConvertFault) (y : Descriptor) → layer_changed to n x ≡ Ok y → IsFirstFrom to (suc n) xs e → IsFirstFrom to n (x ∷ xs) e
later-refused to n x xs e y made found =
    let number : suc n + length found.before ≡ n + length (x ∷ found.before) = omega arith in
    let some : BecomesSome IsLayerRow to x.media = (y.media, (layer-made to n x y made).media) in
    record {
      before = x ∷ found.before;
      layer = found.layer;
      after = found.after;
      stands = ap (λ ws. x ∷ ws) found.stands;
      is = found.is ∙ ap (λ m. Layer m found.layer.media) number;
      others = All-cons (λ (w : Descriptor). BecomesSome IsLayerRow to w.media) x found.before some found.others;
      none = found.none;
    }

layers-refused : (to : Kind) (n : ℕ) (xs : List Descriptor) (e : ConvertFault) → each (layer_changed to) n xs ≡ Err e → IsFirstFrom to n xs e
layers-refused to n [] e h = cc h
layers-refused to n (x ∷ xs) e h = elim (then-err (layer_changed to n x) _ e h) [
  | inl here ↦ first-refused to n x xs e here
  | inr later ↦ elim (then-err (each (layer_changed to) (suc n) xs) _ e later.2) [
    | inl rest ↦ later-refused to n x xs e later.0 later.1 (layers-refused to (suc n) xs e rest)
    | inr ok ↦ cc ok.2
  ]
]

-- ---- the image

pub image-made : (to : Kind) (old new : Image) → changed to old ≡ Ok new → IsChange to old new
unfolding changed
image-made to old new h =
    let config = then-ok (config_changed to old.config) _ new h in
    let layers = then-ok (each (layer_changed to) 1 old.layers) _ new config.2 in
    let same : record { kind = to; config = config.0; layers = layers.0 } ≡ new = cc layers.2 in
    let made : IsChange to old (record { kind = to; config = config.0; layers = layers.0 }) = record {
      kind = refl;
      config = config-made to old.config config.0 config.1;
      layers = layers-made to 1 old.layers layers.0 layers.1;
    } in
    subst (IsChange to old) same made

image-refused : (to : Kind) (old : Image) (e : ConvertFault) → changed to old ≡ Err e → IsFirst to old e
unfolding changed
image-refused to old e h = elim (then-err (config_changed to old.config) _ e h) [
  | inl here ↦
      let refused = one-refused IsConfigRow config_type configs-found to old.config (Config old.config.media) e (config_type to old.config.media) refl here in
      let first : IsFirst to old (Config old.config.media) = (refl, refused.1) in
      subst (IsFirst to old) refused.0 first
  | inr config ↦ elim (then-err (each (layer_changed to) 1 old.layers) _ e config.2) [
    | inl here ↦
        let found = layers-refused to 1 old.layers e here in
        let counted : 1 + length found.before ≡ length found.before + 1 = omega arith in
        let first : IsFirst to old (Layer (1 + length found.before) found.layer.media) = (
          (config.0.media, (config-made to old.config config.0 config.1).media),
          record {
            before = found.before;
            layer = found.layer;
            after = found.after;
            stands = found.stands;
            counted = counted;
            others = found.others;
            none = found.none;
            is = refl;
          },
        ) in
        subst (IsFirst to old) (sym found.is) first
    | inr layers ↦ cc layers.2
  ]
]

pub text-made : (to : Kind) (old : Image) (bytes : List ℕ) → converted to old ≡ Ok bytes → IsTextOf to old bytes
unfolding converted
text-made to old bytes h =
    let new = then-ok (changed to old) _ bytes h in
    let same : compact_text (image_data new.0) ≡ bytes = cc new.2 in
    record { new = new.0; change = image-made to old new.0 new.1; text = sym same }

text-refused : (to : Kind) (old : Image) (e : ConvertFault) → converted to old ≡ Err e → IsFirst to old e
unfolding converted
text-refused to old e h = elim (then-err (changed to old) _ e h) [ inl here ↦ image-refused to old e here | inr ok ↦ cc ok.2 ]

-- an answer that is the wanted one is so by the rows
pub by-rows : (to : Kind) (old : Image) (r : Result (List ℕ) ConvertFault) → Answers r (converted to old) → ByRows to old r
by-rows to old (Ok bytes) h = text-made to old bytes h
by-rows to old (Err (Layer place media)) h = text-refused to old (Layer place media) h
by-rows to old (Err (Config media)) h = text-refused to old (Config media) h
by-rows to old (Err (NotAnImage place)) h = text-refused to old (NotAnImage place) h
by-rows to old (Err (NoPlatform place)) h = text-refused to old (NoPlatform place) h
by-rows to old (Err Memory) h = tt

-- the text that was written of the changed image is the wanted one
pub text-answers : (to : Kind) (old new : Image) (bytes : List ℕ) → changed to old ≡ Ok new → bytes ≡ compact_text (image_data new) → converted to old ≡ Ok bytes
unfolding converted
text-answers to old new bytes h e = rw h (ap Ok (sym e))

pub fault-answers : (to : Kind) (old : Image) (e : ConvertFault) → IsFault e (changed to old) → IsFault e (converted to old)
unfolding converted
fault-answers to old (Layer place media) h = rw h refl
fault-answers to old (Config media) h = rw h refl
fault-answers to old (NotAnImage place) h = rw h refl
fault-answers to old (NoPlatform place) h = rw h refl
fault-answers to old Memory h = tt
