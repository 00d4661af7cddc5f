-- What is found for a type is what it becomes by the rows.
use Rattle.std.proofs.Common.{◌≡◌, ◌⊎◌, inl, inr, ℕ, cond, codes, Bool, true, false, List, Option, Some, None, refl, sym, ap, ◌∙◌, subst}
use Rattle.std.specs.Str.{bytes_eq}
use Rattle.std.proofs.lemmas.Slice.Eq.{bytes_eq-Decides}
use Rattle.manifest_v2s2.specs.declared.kind.Kind.{Kind}
use Rattle.manifest_v2s2.specs.declared.kind.Kind.TheVariants.{V2s2, V2s2List, Oci, OciIndex}
use Rattle.manifest_change.specs.declared.rows.TypeRow.{TypeRow}
use Rattle.manifest_change.specs.declared.rows.TypeRow.TheVariants.{Manifest, ImageConfig, Tar, TarGzip, TarZstd, Foreign, ForeignGzip, ForeignZstd}
use Rattle.manifest_change.specs.Rows.{schema2_type, oci_type, type_in, IsManifestRow, IsConfigRow, IsLayerRow, StandsIn, Becomes, BecomesNone, IsTypeOf}
use Rattle.manifest_change.specs.Found.{is_there, has_type, type_by, manifest_type, config_type, layer_type}

-- the function finds what the rows say, and no more
pub record Finds (IsRow : TypeRow → Type 0) (find : Kind → List ℕ → Option (List ℕ)) : Type 0 where
  pub sound : (to : Kind) (media other : List ℕ) → find to media ≡ Some other → Becomes IsRow to media other
  pub found : (to : Kind) (media : List ℕ) (row : TypeRow) → IsRow row → StandsIn media row → find to media ≡ type_in to row

-- ---- the type stands where the test says so

there-is : (media : List ℕ) (o : Option (List ℕ)) → is_there media o ≡ true → o ≡ Some media
there-is media None h = cc h
there-is media (Some text) h = ap Some (sym ((bytes_eq-Decides media text).0 h))

has-stands : (row : TypeRow) (media : List ℕ) → has_type row media ≡ true → StandsIn media row
has-stands row media h = by_oci (bytes_eq media (oci_type row)) refl h
  where
    by_oci : (b : Bool) → bytes_eq media (oci_type row) ≡ b → cond b true (is_there media (schema2_type row)) ≡ true → StandsIn media row
    by_oci true t h = inl (sym ((bytes_eq-Decides media (oci_type row)).0 t))
    by_oci false t h = inr (there-is media (schema2_type row) h)

stands-has : (row : TypeRow) (media : List ℕ) → StandsIn media row → has_type row media ≡ true
stands-has row media (inl e) = rw ((bytes_eq-Decides media (oci_type row)).1 (sym e)) refl
stands-has row media (inr e) = by_oci (bytes_eq media (oci_type row))
  where
    by_oci : (b : Bool) → cond b true (is_there media (schema2_type row)) ≡ true
    by_oci true = refl
    by_oci false = ap (is_there media) e ∙ (bytes_eq-Decides media media).1 refl

-- ---- one row

row-finds : (row : TypeRow) → Finds (λ r. r ≡ row) (type_by row)
row-finds row = record {
  sound = λ to media other. tested to media other (has_type row media) refl;
  found = λ to media other among stands.
      let here : StandsIn media row = subst (λ r. StandsIn media r) among stands in
      ap (λ b. cond b (type_in to row) None) (stands-has row media here) ∙ ap (type_in to) (sym among);
}
  where
    tested : (to : Kind) (media other : List ℕ) (b : Bool) → has_type row media ≡ b → cond b (type_in to row) None ≡ Some other → Becomes (λ r. r ≡ row) to media other
    tested to media other true t h = record { row = row; among = refl; stands = has-stands row media t; is = h }
    tested to media other false t h = cc h

pub manifests-found : Finds IsManifestRow manifest_type
manifests-found = row-finds Manifest

pub configs-found : Finds IsConfigRow config_type
configs-found = row-finds ImageConfig

-- ---- the rows of layers

first-row : (row : TypeRow) (to : Kind) (media other : List ℕ) (rest : Option (List ℕ)) (b : Bool) → has_type row media ≡ b → IsLayerRow row → (rest ≡ Some other → Becomes IsLayerRow to media other)
    → cond b (type_in to row) rest ≡ Some other → Becomes IsLayerRow to media other
first-row row to media other rest true t among later h = record { row = row; among = among; stands = has-stands row media t; is = h }
first-row row to media other rest false t among later h = later h

layer-sound : (to : Kind) (media other : List ℕ) → layer_type to media ≡ Some other → Becomes IsLayerRow to media other
unfolding layer_type
layer-sound to media other h =
    first-row Tar to media other _ (has_type Tar media) refl tt
    (first-row TarGzip to media other _ (has_type TarGzip media) refl tt
    (first-row TarZstd to media other _ (has_type TarZstd media) refl tt
    (first-row Foreign to media other _ (has_type Foreign media) refl tt
    (first-row ForeignGzip to media other _ (has_type ForeignGzip media) refl tt
    (first-row ForeignZstd to media other None (has_type ForeignZstd media) refl tt (λ none. cc none)))))) h

-- a type of OCI is found in its row
oci-found : (row : TypeRow) (to : Kind) → IsLayerRow row → layer_type to (oci_type row) ≡ type_in to row
unfolding layer_type
oci-found Manifest to among = absurd among
oci-found ImageConfig to among = absurd among
oci-found Tar to among = refl
oci-found TarGzip to among = refl
oci-found TarZstd to among = refl
oci-found Foreign to among = refl
oci-found ForeignGzip to among = refl
oci-found ForeignZstd to among = refl

-- the types of schema 2 are found in theirs
found-there : (row : TypeRow) (to : Kind) (o : Option (List ℕ)) → Type 0
found-there row to None = Unit {0}
found-there row to (Some text) = layer_type to text ≡ type_in to row

schema2-found : (row : TypeRow) (to : Kind) → IsLayerRow row → found-there row to (schema2_type row)
unfolding layer_type found-there
schema2-found Manifest to among = absurd among
schema2-found ImageConfig to among = absurd among
schema2-found Tar to among = refl
schema2-found TarGzip to among = refl
schema2-found TarZstd to among = tt
schema2-found Foreign to among = refl
schema2-found ForeignGzip to among = refl
schema2-found ForeignZstd to among = tt

found-by : (row : TypeRow) (to : Kind) (o : Option (List ℕ)) (media : List ℕ) → o ≡ Some media → found-there row to o → layer_type to media ≡ type_in to row
unfolding found-there
found-by row to None media e h = cc e
found-by row to (Some text) media e h = let same : text ≡ media = cc e in ap (layer_type to) (sym same) ∙ h

layer-found : (row : TypeRow) (to : Kind) (media : List ℕ) → IsLayerRow row → StandsIn media row → layer_type to media ≡ type_in to row
layer-found row to media among (inl e) = ap (layer_type to) (sym e) ∙ oci-found row to among
layer-found row to media among (inr e) = found-by row to (schema2_type row) media e (schema2-found row to among)

pub layers-found : Finds IsLayerRow layer_type
layers-found = record {
  sound = layer-sound;
  found = λ to media row among stands. layer-found row to media among stands;
}

-- ---- by any of these

-- a row's type of a kind stands in the row
in-stands : (to : Kind) (row : TypeRow) (media : List ℕ) → type_in to row ≡ Some media → StandsIn media row
in-stands V2s2 row media e = inr e
in-stands V2s2List row media e = inr e
in-stands Oci row media e = inl (cc e)
in-stands OciIndex row media e = inl (cc e)

-- where nothing is found, the type becomes none
pub none-found : (IsRow : TypeRow → Type 0) (find : Kind → List ℕ → Option (List ℕ)) → Finds IsRow find → (to : Kind) (media : List ℕ) → find to media ≡ None → BecomesNone IsRow to media
none-found IsRow find finds to media none other h = cc (sym none ∙ finds.found to media h.row h.among h.stands ∙ h.is)

-- there and back: a type of that kind is the same again
pub back-same : (IsRow : TypeRow → Type 0) (find : Kind → List ℕ → Option (List ℕ)) → Finds IsRow find → (to kind : Kind) (a b c : List ℕ)
    → Becomes IsRow to a b → Becomes IsRow kind b c → IsTypeOf IsRow kind a → c ≡ a
back-same IsRow find finds to kind a b c there back own =
    let b_row : find kind b ≡ type_in kind there.row = finds.found kind b there.row there.among (in-stands to there.row b there.is) in
    let b_c : find kind b ≡ Some c = finds.found kind b back.row back.among back.stands ∙ back.is in
    let a_row : find kind a ≡ type_in kind there.row = finds.found kind a there.row there.among there.stands in
    let a_a : find kind a ≡ Some a = finds.found kind a own.row own.among (in-stands kind own.row a own.is) ∙ own.is in
    let same : Some c ≡ Some a = sym b_c ∙ b_row ∙ sym a_row ∙ a_a in
    cc same
