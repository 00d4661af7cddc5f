-- The conversion of an image, as a relation by the rows of the table (docs/manifests.md, "Conversion").
use Rattle.std.specs.Prelude.{◌≡◌, ℕ, ◌+◌, List, [], ◌∷◌, ◌++◌, All, length, Result, Ok, Err}
use Rattle.serde_json.specs.Written.{compact_text}
use Rattle.json_tree.specs.Tree.{tree}
use Rattle.manifest_v2s2.specs.Image.{image_of}
use Rattle.manifest_v2s2.specs.Written.{image_data}
use Rattle.manifest_v2s2.specs.declared.descriptor.Descriptor.{Descriptor}
use Rattle.manifest_v2s2.specs.declared.image.Image.{Image}
use Rattle.manifest_v2s2.specs.declared.kind.Kind.{Kind}
use Rattle.manifest_change.specs.declared.fault.ConvertFault.{ConvertFault}
use Rattle.manifest_change.specs.declared.fault.ConvertFault.TheVariants.{Layer, Config, NotAnImage, NoPlatform, Memory}
use Rattle.manifest_change.specs.declared.rows.TypeRow.{TypeRow}
use Rattle.manifest_change.specs.Rows.{IsConfigRow, IsLayerRow, Becomes, BecomesNone, BecomesSome, IsTypeOf}

-- the other descriptor has the type that the first one's becomes; the rest is the same, but it has no annotations
pub record IsChanged (IsRow : TypeRow → Type 0) (to : Kind) (x y : Descriptor) : Type 0 where
  pub media : Becomes IsRow to x.media y.media
  pub digest : y.digest ≡ x.digest
  pub size : y.size ≡ x.size
  pub urls : y.urls ≡ x.urls
  pub annotations : y.annotations ≡ []

-- the lists are as long as each other, and what stands at one place of both is related
abbrev pub AreEach : {A B : Type 0} → (A → B → Type 0) → List A → List B → Type 0
AreEach R [] [] = Unit {0}
AreEach R [] (y ∷ ys) = ⊥
AreEach R (x ∷ xs) [] = ⊥
AreEach R (x ∷ xs) (y ∷ ys) = R x y × AreEach R xs ys

-- the new image is of that kind, and has the config and the layers of the old one in their order, each with its new type
pub record IsChange (to : Kind) (old new : Image) : Type 0 where
  pub kind : new.kind ≡ to
  pub config : IsChanged IsConfigRow to old.config new.config
  pub layers : AreEach (IsChanged IsLayerRow to) old.layers new.layers

-- the bytes are the text of an image that the old one becomes
pub record IsTextOf (to : Kind) (old : Image) (bytes : List ℕ) : Type 0 where
  pub new : Image
  pub change : IsChange to old new
  pub text : bytes ≡ compact_text (image_data new)

-- the layer of that number and type is the first whose type becomes none
pub record IsFirstLayer (to : Kind) (layers : List Descriptor) (place : ℕ) (media : List ℕ) : Type 0 where
  pub before : List Descriptor
  pub layer : Descriptor
  pub after : List Descriptor
  pub stands : layers ≡ before ++ layer ∷ after
  pub counted : place ≡ length before + 1
  pub others : All (λ x. BecomesSome IsLayerRow to x.media) before
  pub none : BecomesNone IsLayerRow to layer.media
  pub is : media ≡ layer.media

-- the config's type becomes none, or it becomes one and the layer is the first whose type becomes none
abbrev pub IsFirst : Kind → Image → ConvertFault → Type 0
IsFirst to old (Config media) = (media ≡ old.config.media) × BecomesNone IsConfigRow to media
IsFirst to old (Layer place media) = BecomesSome IsConfigRow to old.config.media × IsFirstLayer to old.layers place media
IsFirst to old (NotAnImage place) = ⊥
IsFirst to old (NoPlatform place) = ⊥
IsFirst to old Memory = Unit {0}

-- the answer is the text of an image that the old one becomes, or the first member that becomes none, unless memory ran out
abbrev pub ByRows : Kind → Image → Result (List ℕ) ConvertFault → Type 0
ByRows to old (Ok bytes) = IsTextOf to old bytes
ByRows to old (Err fault) = IsFirst to old fault

-- the descriptor came back: a type of that kind is the same, and so is the rest, but for annotations
pub record IsBack (IsRow : TypeRow → Type 0) (kind : Kind) (x y : Descriptor) : Type 0 where
  pub media : IsTypeOf IsRow kind x.media → y.media ≡ x.media
  pub digest : y.digest ≡ x.digest
  pub size : y.size ≡ x.size
  pub urls : y.urls ≡ x.urls

-- the image came back: config and layers in their order
pub record IsImageBack (old new : Image) : Type 0 where
  pub kind : new.kind ≡ old.kind
  pub config : IsBack IsConfigRow old.kind old.config new.config
  pub layers : AreEach (IsBack IsLayerRow old.kind) old.layers new.layers

-- the bytes are read as an image that the old one becomes, and whatever that one becomes in the old kind is the old one come back
pub record IsReadAgain (to : Kind) (old : Image) (bytes : List ℕ) : Type 0 where
  pub new : Image
  pub change : IsChange to old new
  pub read : image_of to (tree bytes) ≡ Ok new
  pub back : (again : Image) → IsChange old.kind new again → IsImageBack old again
