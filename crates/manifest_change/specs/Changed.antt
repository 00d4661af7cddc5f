-- The conversion of an image as the code makes it: the value, or the fault of the first member that has none.
use Rattle.std.specs.Prelude.{◌≡◌, ℕ, suc, List, [], ◌∷◌, Option, Some, None, Result, Ok, Err}
use Rattle.serde_json.specs.Written.{compact_text}
use Rattle.manifest_v2s2.specs.Written.{image_data}
use Rattle.manifest_v2s2.specs.declared.descriptor.Descriptor.{Descriptor}
use Rattle.manifest_v2s2.specs.declared.image.Image.{Image}
use Rattle.manifest_v2s2.specs.declared.kind.Kind.{Kind}
use Rattle.manifest_change.specs.declared.fault.ConvertFault.{ConvertFault}
use Rattle.manifest_change.specs.declared.fault.ConvertFault.TheVariants.{Layer, Config, NotAnImage, NoPlatform, Memory}
use Rattle.manifest_change.specs.Found.{config_type, layer_type}

abbrev pub Converted : Type 0 → Type 0
Converted A = Result A ConvertFault

-- one after the other: the first fault counts
infixl 10 ◌>>=◌
abbrev pub ◌>>=◌ : {A B : Type 0} → Converted A → (A → Converted B) → Converted B
(Ok x) >>= f = f x
(Err e) >>= f = Err e

-- the descriptor with another media type, and without annotations
abbrev pub with_type : Descriptor → List ℕ → Descriptor
with_type x media = record { media = media; digest = x.digest; size = x.size; urls = x.urls; annotations = [] }

-- the descriptor with the type that was found, or the fault where there is none
abbrev pub changed_by : Option (List ℕ) → ConvertFault → Descriptor → Converted Descriptor
changed_by (Some media) fault x = Ok (with_type x media)
changed_by None fault x = Err fault

-- a config
abbrev pub config_changed : Kind → Descriptor → Converted Descriptor
config_changed to x = changed_by (config_type to x.media) (Config x.media) x

-- the layer of a number
abbrev pub layer_changed : Kind → ℕ → Descriptor → Converted Descriptor
layer_changed to n x = changed_by (layer_type to x.media) (Layer n x.media) x

-- each item in turn, the first with the number n; the first fault counts
abbrev pub each : {A B : Type 0} → (ℕ → A → Converted B) → ℕ → List A → Converted (List B)
each f n [] = Ok []
each f n (x ∷ xs) = f n x >>= (λ y. each f (suc n) xs >>= (λ ys. Ok (y ∷ ys)))

-- an image, as one of that kind
unfoldable pub changed : Kind → Image → Converted Image
changed to image = do
  config ← config_changed to image.config
  layers ← each (layer_changed to) 1 image.layers
  Ok (record { kind = to; config = config; layers = layers })

-- the text of an image, as one of that kind
unfoldable pub converted : Kind → Image → Converted (List ℕ)
converted to image = changed to image >>= (λ new. Ok (compact_text (image_data new)))

-- the fault is the wanted one, unless memory ran out
abbrev pub IsFault : {A : Type 0} → ConvertFault → Converted A → Type 0
IsFault (Layer place media) wanted = wanted ≡ Err (Layer place media)
IsFault (Config media) wanted = wanted ≡ Err (Config media)
IsFault (NotAnImage place) wanted = wanted ≡ Err (NotAnImage place)
IsFault (NoPlatform place) wanted = wanted ≡ Err (NoPlatform place)
IsFault Memory wanted = Unit {0}

-- the answer is the wanted one, unless memory ran out
abbrev pub Answers : {A : Type 0} → Converted A → Converted A → Type 0
Answers (Ok x) wanted = wanted ≡ Ok x
Answers (Err e) wanted = IsFault e wanted
