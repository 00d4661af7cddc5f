-- Which paths of a layout differ.
use Rattle.std.proofs.Common.{◌≡◌, ◌≢◌, List, ◌++◌, ◌∷◌, ℕ, length, codes, true, sym, ap, refl, arith}
use Rattle.hex.specs.Hex.{encode_lower}
use Rattle.skopeo_outside.specs.Folders.{joined}
use Rattle.layouts.specs.Paths.{no_slash}
use Rattle.layouts.proofs.NameLemmas.{same_name, hex_no_slash, hex_no_dot, avoids-append, after_dot, no_dot, same_head}
use Rattle.oci_layout.specs.Layout.{layout_path, layout_part, index_path, index_part, blobs_folder, blob_path, manifest_part}

part_plain : (digest : List ℕ) → no_slash (encode_lower digest ++ codes ".part") ≡ true
part_plain digest = avoids-append 47 (encode_lower digest) (codes ".part") (hex_no_slash digest) refl

pub layout_part-apart : (folder : List ℕ) → layout_part folder ≢ layout_path folder
layout_part-apart folder e =
    let f : codes "oci-layout.part" ≡ codes "oci-layout" = same_name folder folder _ _ refl refl e in
    let n : ◌≡◌ {A = ℕ} 15 10 = ap length f in
    cc

pub index_part-apart : (folder : List ℕ) → index_part folder ≢ index_path folder
index_part-apart folder e =
    let f : codes "index.json.part" ≡ codes "index.json" = same_name folder folder _ _ refl refl e in
    let n : ◌≡◌ {A = ℕ} 15 10 = ap length f in
    cc

pub index-not_blob : (folder digest : List ℕ) → index_path folder ≢ blob_path folder digest
index-not_blob folder digest e =
    let f : codes "index.json" ≡ encode_lower digest = same_name folder (blobs_folder folder) _ _ refl (hex_no_slash digest) e in
    no_dot (encode_lower digest) (codes "index") (codes "json") (hex_no_dot digest) (sym f)

pub index_part-not_blob : (folder digest : List ℕ) → index_part folder ≢ blob_path folder digest
index_part-not_blob folder digest e =
    let f : codes "index.json.part" ≡ encode_lower digest = same_name folder (blobs_folder folder) _ _ refl (hex_no_slash digest) e in
    no_dot (encode_lower digest) (codes "index") (codes "json.part") (hex_no_dot digest) (sym f)

pub manifest_part-not_blob : (folder digest other : List ℕ) → manifest_part folder digest ≢ blob_path folder other
manifest_part-not_blob folder digest other e =
    let f : encode_lower digest ++ codes ".part" ≡ encode_lower other = same_name folder (blobs_folder folder) _ _ (part_plain digest) (hex_no_slash other) e in
    no_dot (encode_lower other) (encode_lower digest) (codes "part") (hex_no_dot other) (sym f)

pub index-not_manifest_part : (folder digest : List ℕ) → index_path folder ≢ manifest_part folder digest
index-not_manifest_part folder digest e =
    let f : codes "index.json" ≡ encode_lower digest ++ codes ".part" = same_name folder folder _ _ refl (part_plain digest) e in
    let g : codes "json" ≡ codes "part" = after_dot (codes "index") (encode_lower digest) (codes "json") (codes "part") refl (hex_no_dot digest) f in
    let n : ◌≡◌ {A = ℕ} 106 112 = same_head 106 112 (codes "son") (codes "art") g in
    absurd (omega (arith, n))

pub index_part-not_manifest_part : (folder digest : List ℕ) → index_part folder ≢ manifest_part folder digest
index_part-not_manifest_part folder digest e =
    let f : codes "index.json.part" ≡ encode_lower digest ++ codes ".part" = same_name folder folder _ _ refl (part_plain digest) e in
    let g : codes "json.part" ≡ codes "part" = after_dot (codes "index") (encode_lower digest) (codes "json.part") (codes "part") refl (hex_no_dot digest) f in
    cc
