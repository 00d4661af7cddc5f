-- What stands beside the blobs of a folder, for an image and for an instance by its digest: which paths differ.
use Rattle.std.proofs.Common.{◌≡◌, ◌≢◌, ◌⊎◌, ◌∙◌, ◌<◌, ◌+◌, ◌^◌, ◌++◌, ◌∷◌, List, ℕ, zero, suc, true, codes, length, Option, Some, None, inl, inr, refl, sym, ap, subst, append_assoc, arith}
use borrow.Author.Count.{below_more}
use Rattle.std.specs.Fmt.{decimal}
use Rattle.std.proofs.lemmas.List.{append_cancel_left}
use Rattle.hex.specs.Hex.{encode_lower}
use Rattle.skopeo_outside.specs.Folders.{joined}
use Rattle.skopeo_outside.proofs.Children.{same_rest}
use Rattle.skopeo_outside.proofs.Trees.{path_cases}
use Rattle.layouts.specs.Names.{prefix_of, manifest_name, part_name, signature_by}
use Rattle.layouts.specs.Paths.{IsIn, IsManifestName, IsManifestPath, no_slash, blob_path}
use Rattle.layouts.specs.Written.{signature_at, signature_part_at}
use Rattle.layouts.proofs.NameLemmas.{same_name, same_head, avoids-append, hex_no_dot, hex_no_slash, decimal_avoids, no_dot, after_dot, blob_not_manifest, manifest_part_not_manifest, blob_not_manifest_part}
use Rattle.layouts.proofs.NameLemmas as names
use Rattle.transports.specs.Beside.{manifest_at, manifest_part_at}
use Rattle.layouts.proofs.SignedLemmas as signed

prefix_plain : (part : Option (List ℕ)) → no_slash (prefix_of part) ≡ true
prefix_plain None = refl
prefix_plain (Some d) = avoids-append 47 (encode_lower d) (codes ".") (hex_no_slash d) refl

-- what stands behind an instance's digest and a dot
dotted : (d rest tail : List ℕ) → ((encode_lower d ++ codes ".") ++ rest) ++ tail ≡ encode_lower d ++ 46 ∷ (rest ++ tail)
dotted d rest tail = append_assoc (encode_lower d ++ codes ".") rest tail ∙ append_assoc (encode_lower d) (codes ".") (rest ++ tail)

dot : (d rest : List ℕ) → (encode_lower d ++ codes ".") ++ rest ≡ encode_lower d ++ 46 ∷ rest
dot d rest = append_assoc (encode_lower d) (codes ".") rest

not_j : ◌≡◌ {A = ℕ} 115 106 → ⊥
not_j e = omega (arith, e)

not_m : ◌≡◌ {A = ℕ} 115 109 → ⊥
not_m e = omega (arith, e)

m_not_j : ◌≡◌ {A = ℕ} 109 106 → ⊥
m_not_j e = omega (arith, e)

-- a name behind a digest and a dot that begins otherwise than `json` and `manifest.json` is no manifest's
no_manifest : (d : List ℕ) (x : ℕ) (rest name : List ℕ) → name ≡ encode_lower d ++ 46 ∷ (x ∷ rest) → (x ≡ 106 → ⊥) → (x ≡ 109 → ⊥) → IsManifestName name → ⊥
no_manifest d x rest name is j m (inl e) = j (same_head x 106 rest (codes "son") (after_dot (encode_lower d) (codes "manifest") (x ∷ rest) (codes "json") (hex_no_dot d) refl (sym is ∙ e)))
no_manifest d x rest name is j m (inr h) =
    m (same_head x 109 rest (codes "anifest.json") (after_dot (encode_lower d) (encode_lower h.0) (x ∷ rest) (codes "manifest.json") (hex_no_dot d) (hex_no_dot h.0) (sym is ∙ h.1)))

-- a name with a dot is no blob's
no_blob : (folder d digest rest name : List ℕ) → name ≡ encode_lower d ++ 46 ∷ rest → no_slash name ≡ true → joined folder name ≢ blob_path folder digest
no_blob folder d digest rest name is plain e = no_dot (encode_lower digest) (encode_lower d) rest (hex_no_dot digest) (sym (same_name folder folder _ _ plain (hex_no_slash digest) e) ∙ is)

-- ---- signatures

module _ (part : Option (List ℕ)) (n : ℕ) (small : n < 2 ^ 64) where
  signature_plain : no_slash (signature_by (prefix_of part) n) ≡ true
  signature_plain = avoids-append 47 (prefix_of part) (codes "signature-" ++ decimal n) (prefix_plain part) (avoids-append 47 (codes "signature-") (decimal n) refl (decimal_avoids n small))

  signature_part_plain : no_slash (part_name (signature_by (prefix_of part) n)) ≡ true
  signature_part_plain = avoids-append 47 (signature_by (prefix_of part) n) (codes ".part") signature_plain refl

  pub signature_in : (folder : List ℕ) → IsIn folder (signature_at folder (prefix_of part) n)
  signature_in folder = record { name = signature_by (prefix_of part) n; plain = signature_plain; is = refl }

  pub signature_part_in : (folder : List ℕ) → IsIn folder (signature_part_at folder (prefix_of part) n)
  signature_part_in folder = record { name = part_name (signature_by (prefix_of part) n); plain = signature_part_plain; is = refl }

pub signature_not_manifest : (part : Option (List ℕ)) (n : ℕ) → n < 2 ^ 64 → (folder : List ℕ) → IsManifestPath (signature_at folder (prefix_of part) n) → ⊥
signature_not_manifest None n small folder m = signed.signature_not_manifest folder n small m
signature_not_manifest (Some d) n small folder m =
    no_manifest d 115 (codes "ignature-" ++ decimal n) _ (dot d (codes "signature-" ++ decimal n)) not_j not_m (names.manifest_name folder _ (signature_plain (Some d) n small) m)

pub signature_part_not_manifest : (part : Option (List ℕ)) (n : ℕ) → n < 2 ^ 64 → (folder : List ℕ) → IsManifestPath (signature_part_at folder (prefix_of part) n) → ⊥
signature_part_not_manifest None n small folder m = signed.signature_part_not_manifest folder n small m
signature_part_not_manifest (Some d) n small folder m =
    no_manifest d 115 ((codes "ignature-" ++ decimal n) ++ codes ".part") _ (dotted d (codes "signature-" ++ decimal n) (codes ".part")) not_j not_m (names.manifest_name folder _ (signature_part_plain (Some d) n small) m)

pub signature_not_blob : (part : Option (List ℕ)) (n : ℕ) → n < 2 ^ 64 → (folder digest : List ℕ) → signature_at folder (prefix_of part) n ≢ blob_path folder digest
signature_not_blob None n small folder digest = signed.signature_not_blob folder digest n small
signature_not_blob (Some d) n small folder digest = no_blob folder d digest (codes "signature-" ++ decimal n) _ (dot d (codes "signature-" ++ decimal n)) (signature_plain (Some d) n small)

pub signature_part_not_blob : (part : Option (List ℕ)) (n : ℕ) → n < 2 ^ 64 → (folder digest : List ℕ) → signature_part_at folder (prefix_of part) n ≢ blob_path folder digest
signature_part_not_blob None n small folder digest = signed.signature_part_not_blob folder digest n small
signature_part_not_blob (Some d) n small folder digest =
    no_blob folder d digest ((codes "signature-" ++ decimal n) ++ codes ".part") _ (dotted d (codes "signature-" ++ decimal n) (codes ".part")) (signature_part_plain (Some d) n small)

-- ---- the manifest

manifest_plain : (part : Option (List ℕ)) → no_slash (manifest_name part) ≡ true
manifest_plain part = avoids-append 47 (prefix_of part) (codes "manifest.json") (prefix_plain part) refl

manifest_part_plain : (part : Option (List ℕ)) → no_slash (part_name (manifest_name part)) ≡ true
manifest_part_plain part = avoids-append 47 (manifest_name part) (codes ".part") (manifest_plain part) refl

pub manifest_in : (part : Option (List ℕ)) (folder : List ℕ) → IsIn folder (manifest_at folder part)
manifest_in part folder = record { name = manifest_name part; plain = manifest_plain part; is = refl }

pub manifest_part_in : (part : Option (List ℕ)) (folder : List ℕ) → IsIn folder (manifest_part_at folder part)
manifest_part_in part folder = record { name = part_name (manifest_name part); plain = manifest_part_plain part; is = refl }

pub is_manifest : (part : Option (List ℕ)) (folder : List ℕ) → IsManifestPath (manifest_at folder part)
is_manifest None folder = names.is_manifest folder
is_manifest (Some d) folder = record { folder = folder; name = manifest_name (Some d); is = refl; named = inr (d, dot d (codes "manifest.json")) }

pub part_not_manifest : (part : Option (List ℕ)) (folder : List ℕ) → IsManifestPath (manifest_part_at folder part) → ⊥
part_not_manifest None folder m = manifest_part_not_manifest folder m
part_not_manifest (Some d) folder m = by (names.manifest_name folder _ (manifest_part_plain (Some d)) m)
  where
    is : part_name (manifest_name (Some d)) ≡ encode_lower d ++ 46 ∷ codes "manifest.json.part"
    is = dotted d (codes "manifest.json") (codes ".part")

    by : IsManifestName (part_name (manifest_name (Some d))) → ⊥
    by (inl e) = m_not_j (same_head 109 106 (codes "anifest.json.part") (codes "son") (after_dot (encode_lower d) (codes "manifest") (codes "manifest.json.part") (codes "json") (hex_no_dot d) refl (sym is ∙ e)))
    by (inr h) =
        let f : codes "manifest.json.part" ≡ codes "manifest.json" = after_dot (encode_lower d) (encode_lower h.0) _ _ (hex_no_dot d) (hex_no_dot h.0) (sym is ∙ h.1) in
        let n : ◌≡◌ {A = ℕ} 18 13 = ap length f in
        cc

pub parts_apart : (part : Option (List ℕ)) (folder : List ℕ) → manifest_part_at folder part ≢ manifest_at folder part
parts_apart part folder e = part_not_manifest part folder (subst IsManifestPath (sym e) (is_manifest part folder))

pub manifest_not_blob : (part : Option (List ℕ)) (folder digest : List ℕ) → manifest_at folder part ≢ blob_path folder digest
manifest_not_blob part folder digest e = blob_not_manifest folder digest (subst IsManifestPath e (is_manifest part folder))

pub manifest_part_not_blob : (part : Option (List ℕ)) (folder digest : List ℕ) → manifest_part_at folder part ≢ blob_path folder digest
manifest_part_not_blob None folder digest e = blob_not_manifest_part folder digest (sym e)
manifest_part_not_blob (Some d) folder digest e = no_blob folder d digest (codes "manifest.json.part") _ (dotted d (codes "manifest.json") (codes ".part")) (manifest_part_plain (Some d)) e

-- a signature of the same is neither
signature_head : (part : Option (List ℕ)) (folder : List ℕ) (n : ℕ) (tail : List ℕ) → signature_at folder (prefix_of part) n ≡ joined folder (prefix_of part ++ (109 ∷ tail)) → ⊥
signature_head part folder n tail e = not_m (same_head 115 109 (codes "ignature-" ++ decimal n) tail (append_cancel_left (prefix_of part) (codes "signature-" ++ decimal n) (109 ∷ tail) (same_rest folder _ _ e)))

pub signature_not_manifest_at : (part : Option (List ℕ)) (folder : List ℕ) (n : ℕ) → signature_at folder (prefix_of part) n ≢ manifest_at folder part
signature_not_manifest_at part folder n e = signature_head part folder n (codes "anifest.json") e

pub signature_not_manifest_part_at : (part : Option (List ℕ)) (folder : List ℕ) (n : ℕ) → signature_at folder (prefix_of part) n ≢ manifest_part_at folder part
signature_not_manifest_part_at part folder n e = signature_head part folder n (codes "anifest.json.part") (e ∙ ap (joined folder) (append_assoc (prefix_of part) (codes "manifest.json") (codes ".part")))

-- ---- whether a path is one of some numbered ones

pub one_of : (at : ℕ → List ℕ) (q : List ℕ) (count : ℕ) → ((k : ℕ) × (k < count) × (q ≡ at (k + 1))) ⊎ ((k : ℕ) → k < count → q ≢ at (k + 1))
one_of at q zero = inr (λ k lt. absurd (omega (arith, lt)))
one_of at q (suc count) = by (path_cases q (at (count + 1))) (one_of at q count)
  where
    by : (q ≡ at (count + 1)) ⊎ (q ≢ at (count + 1)) → ((k : ℕ) × (k < count) × (q ≡ at (k + 1))) ⊎ ((k : ℕ) → k < count → q ≢ at (k + 1))
        → ((k : ℕ) × (k < suc count) × (q ≡ at (k + 1))) ⊎ ((k : ℕ) → k < suc count → q ≢ at (k + 1))
    by (inl e) rest = inl (count, omega arith, e)
    by (inr apart) (inl h) = inl (h.0, omega (arith, h.1), h.2)
    by (inr apart) (inr none) = inr (λ k lt. below_more (λ k. q ≢ at (k + 1)) count none apart k (omega (arith, lt)))
