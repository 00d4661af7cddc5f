-- A text is read as a place just where it is spelled so.
use Rattle.std.proofs.Common.{◌≡◌, ℕ, ◌<◌, ◌==◌, Bool, true, false, not, List, ◌∷◌, ◌++◌, length, take, drop, Option, Some, None, Result, Ok, Err, refl, sym, ap, subst, ◌∙◌, arith, inl, inr, codes}
use Rattle.std.specs.Prelude.{IfSome, if◌then◌else◌}
use Rattle.std.specs.Str.{bytes_eq}
use Rattle.std.proofs.lemmas.Bool.{cases_Bool}
use Rattle.std.proofs.lemmas.Bool.Decides.{nat_tests}
use Rattle.std.proofs.lemmas.Slice.Eq.{bytes_eq-Decides}
use Rattle.std.proofs.lemmas.List.{take-append-drop}
use Rattle.image_ref.specs.Characters.{colon}
use Rattle.image_ref.specs.Cuts.{cut_at, lacks}
use Rattle.image_ref.specs.Domain.{passes_or_none, after}
use Rattle.image_ref.specs.Path.{cleaned}
use Rattle.image_ref.specs.Reference.{Reference}
use Rattle.image_ref.specs.Reading.{docker_of}
use Rattle.image_ref.specs.Place.{is_oci_ref, is_left_out, PlaceOf}
use Rattle.image_ref.specs.PlaceReading.{docker_read, docker_place, dir_place, oci_place, place_behind, place_of}
use Rattle.image_ref.specs.declared.fault.RefFault.{RefFault}
use Rattle.image_ref.specs.declared.fault.PlaceFault.{PlaceFault}
use Rattle.image_ref.specs.declared.fault.PlaceFault.TheVariants.{LeftOut, EmptyPath, BadOciRef}
use Rattle.image_ref.specs.declared.place.Place.{Place}
use Rattle.image_ref.specs.declared.place.Place.TheVariants.{Docker, Dir, Oci}
use Rattle.image_ref.proofs.DockerLaw.{image_read, read_image}
use Rattle.image_ref.proofs.CutLemmas.{cut_at-glued, cut_at-lacks, lacks-from}
use Rattle.image_ref.proofs.DomainLaw.{cut_at-joined}
use Rattle.image_ref.proofs.BoolLemmas.{not_false, no_zero}

-- ---- what is spelled so is read

name_passes : (name : Option (List ℕ)) → IfSome name (λ n. is_oci_ref n ≡ true) → passes_or_none is_oci_ref name ≡ true
name_passes None h = refl
name_passes (Some n) h = h

pub place_from : (cwd text : List ℕ) (place : Place) → PlaceOf cwd text place → place_of cwd text ≡ Ok place
unfolding place_of
place_from cwd text (Docker r) (ref, e, h) = rw (e, image_read ref r h) refl
place_from cwd text (Dir p) (path, e, some, same) = rw (e, no_zero (length path) some, same) refl
place_from cwd text (Oci p name) (path, e, some, plain, h, same) =
    rw (e, cut_at-joined colon path name plain, no_zero (length path) some, name_passes name h, same) refl

-- ---- what is read is spelled so

chosen : (b : Bool) (e : PlaceFault) (y : Result Place PlaceFault) (p : Place) → (if b then Err e else y) ≡ Ok p → (b ≡ false) × (y ≡ Ok p)
chosen true e y p h = cc h
chosen false e y p h = (refl, h)

some_length : (n : ℕ) → (n == 0) ≡ false → 0 < n
some_length n h = grind (arith, nat_tests)

name_from : (name : Option (List ℕ)) → passes_or_none is_oci_ref name ≡ true → IfSome name (λ n. is_oci_ref n ≡ true)
name_from None h = tt
name_from (Some n) h = h

docker_read_to : (text rest : List ℕ) (read : Result Reference RefFault) (p : Place) → text ≡ codes "docker://" ++ rest → docker_of rest ≡ read → docker_read read ≡ Ok p → (cwd : List ℕ) → PlaceOf cwd text p
docker_read_to text rest (Ok r) (Docker s) e k h cwd = (rest, e, read_image rest s (k ∙ ap (λ t. Ok t) (let same : r ≡ s = cc h in same)))
docker_read_to text rest (Ok r) (Dir p) e k h cwd = cc h
docker_read_to text rest (Ok r) (Oci p n) e k h cwd = cc h
docker_read_to text rest (Err f) p e k h cwd = cc h

docker_place_to : (cwd text rest : List ℕ) (p : Place) → text ≡ codes "docker:" ++ rest → docker_place rest ≡ Ok p → PlaceOf cwd text p
docker_place_to cwd text rest p e h =
    elim (cases_Bool (bytes_eq (take 2 rest) (codes "//"))) [
      | inl two ↦
          let front = (bytes_eq-Decides (take 2 rest) (codes "//")).0 two in
          let whole : text ≡ codes "docker://" ++ drop 2 rest = e ∙ ap (λ t. codes "docker:" ++ t) (sym (take-append-drop 2 rest) ∙ ap (λ t. t ++ drop 2 rest) front) in
          docker_read_to text (drop 2 rest) (docker_of (drop 2 rest)) p whole refl (rw two at h) cwd
      | inr other ↦ cc (rw other at h)
    ]

dir_place_to : (cwd text path : List ℕ) (p : Place) → text ≡ codes "dir:" ++ path → dir_place cwd path ≡ Ok p → PlaceOf cwd text p
dir_place_to cwd text path (Dir q) e h = let s = chosen (length path == 0) EmptyPath (Ok (Dir (cleaned cwd path))) (Dir q) h in (path, e, some_length (length path) s.0, (let same : q ≡ cleaned cwd path = cc s.1 in same))
dir_place_to cwd text path (Docker r) e h = let s = chosen (length path == 0) EmptyPath (Ok (Dir (cleaned cwd path))) (Docker r) h in cc s.1
dir_place_to cwd text path (Oci q n) e h = let s = chosen (length path == 0) EmptyPath (Ok (Dir (cleaned cwd path))) (Oci q n) h in cc s.1

oci_of : (cwd text : List ℕ) (path : List ℕ) (name : Option (List ℕ)) (p : Place) → text ≡ codes "oci:" ++ (path ++ after colon name) → lacks colon path ≡ true → oci_place cwd (path, name) ≡ Ok p → PlaceOf cwd text p
oci_of cwd text path name p e plain h =
    let s = chosen (length path == 0) EmptyPath _ p h in
    let t = chosen (not (passes_or_none is_oci_ref name)) BadOciRef _ p s.1 in
    subst (PlaceOf cwd text) (let same : Oci (cleaned cwd path) name ≡ p = cc t.1 in same)
    (path, e, some_length (length path) s.0, plain, name_from name (not_false (passes_or_none is_oci_ref name) t.0), refl)

behind : (cwd text transport : List ℕ) (rest : Option (List ℕ)) (p : Place) → text ≡ transport ++ after colon rest → place_behind cwd transport rest ≡ Ok p → PlaceOf cwd text p
behind cwd text transport None p e h = cc h
behind cwd text transport (Some rest) p e h =
    elim (cases_Bool (bytes_eq transport (codes "docker"))) [
      | inl docker ↦ docker_place_to cwd text rest p (e ∙ ap (λ t. t ++ (colon ∷ rest)) ((bytes_eq-Decides transport (codes "docker")).0 docker)) (rw docker at h)
      | inr no_docker ↦ elim (cases_Bool (bytes_eq transport (codes "dir"))) [
        | inl dir ↦ dir_place_to cwd text rest p (e ∙ ap (λ t. t ++ (colon ∷ rest)) ((bytes_eq-Decides transport (codes "dir")).0 dir)) (rw (no_docker, dir) at h)
        | inr no_dir ↦ elim (cases_Bool (bytes_eq transport (codes "oci"))) [
          | inl oci ↦
              oci_of cwd text (cut_at colon rest).0 (cut_at colon rest).1 p
              (e ∙ ap (λ t. t ++ (colon ∷ rest)) ((bytes_eq-Decides transport (codes "oci")).0 oci) ∙ ap (λ t. codes "oci:" ++ t) (cut_at-glued colon rest))
              (lacks-from colon (cut_at colon rest).0 (cut_at-lacks colon rest))
              (rw (no_docker, no_dir, oci) at h)
          | inr no_oci ↦ let s = chosen (is_left_out transport) LeftOut _ p (rw (no_docker, no_dir, no_oci) at h) in cc s.1
        ]
      ]
    ]

pub place_to : (cwd text : List ℕ) (place : Place) → place_of cwd text ≡ Ok place → PlaceOf cwd text place
unfolding place_of
place_to cwd text place h = behind cwd text (cut_at colon text).0 (cut_at colon text).1 place (cut_at-glued colon text) h
