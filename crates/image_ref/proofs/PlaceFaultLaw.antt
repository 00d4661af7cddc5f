-- A text is refused as a place just by the fault that it has.
use Rattle.std.proofs.Common.{◌≡◌, ℕ, ◌<◌, ◌==◌, Bool, true, false, not, List, ◌∷◌, ◌++◌, length, take, drop, Option, Some, None, Result, Ok, Err, refl, sym, ap, subst, ◌∙◌, arith, inl, inr, codes, append-nil, suc, ◌||◌, []}
use Rattle.std.specs.Prelude.{if◌then◌else◌}
use Rattle.std.specs.Str.{bytes_eq}
use Rattle.std.proofs.lemmas.Bool.{cases_Bool}
use Rattle.std.proofs.lemmas.Bool.Decides.{nat_tests}
use Rattle.std.proofs.lemmas.Slice.Eq.{bytes_eq-Decides}
use Rattle.std.proofs.lemmas.List.{take-append-drop}
use Rattle.image_ref.specs.Characters.{colon}
use Rattle.image_ref.specs.Cuts.{cut_at, lacks}
use Rattle.image_ref.specs.Domain.{passes_or_none, after}
use Rattle.image_ref.specs.Path.{cleaned}
use Rattle.image_ref.specs.Reference.{Reference}
use Rattle.image_ref.specs.Reading.{docker_of}
use Rattle.image_ref.specs.Place.{is_oci_ref, is_left_out}
use Rattle.image_ref.specs.PlaceReading.{docker_read, docker_place, dir_place, oci_place, place_behind, place_of}
use Rattle.image_ref.specs.declared.fault.RefFault.{RefFault}
use Rattle.image_ref.specs.declared.fault.PlaceFault.{PlaceFault}
use Rattle.image_ref.specs.declared.place.Place.{Place}
use Rattle.image_ref.specs.declared.place.Place.TheVariants.{Oci}
use Rattle.image_ref.proofs.CutLemmas.{cut_at-glued, cut_at-lacks, lacks-from}
use Rattle.image_ref.specs.Place.{PlaceFaultOf}
use Rattle.image_ref.specs.declared.fault.PlaceFault.TheVariants.{NoTransport, UnknownTransport, LeftOut, Slashes, EmptyPath, BadOciRef, Reference as OfReference, Memory}
use Rattle.image_ref.proofs.DockerLaw.{image_fault_first, first_image_fault}
use Rattle.image_ref.proofs.CutLemmas.{lacks-to, cut_at-none, cut_at-some}
use Rattle.image_ref.proofs.BoolLemmas.{not_true, no_zero}

-- ---- what has a fault is refused by it

or_false : (a b : Bool) → (a || b) ≡ false → (a ≡ false) × (b ≡ false)
or_false true b h = cc h
or_false false b h = (refl, h)

-- a name that passes a test is not one that fails it
other_name : (test : List ℕ → Bool) (name word : List ℕ) → test name ≡ true → test word ≡ false → bytes_eq name word ≡ false
other_name test name word passes fails = not_true (bytes_eq name word) (λ same. cc (passes, fails, ap test ((bytes_eq-Decides name word).0 same)))

pub place_refused : (cwd text : List ℕ) (e : PlaceFault) → PlaceFaultOf text e → place_of cwd text ≡ Err e
unfolding place_of
place_refused cwd text NoTransport plain = rw (cut_at-none colon text (lacks-to colon text plain)) refl
place_refused cwd text UnknownTransport (name, rest, same, plain, unknown) =
    let two = or_false (bytes_eq name (codes "docker") || bytes_eq name (codes "dir")) (bytes_eq name (codes "oci") || is_left_out name) unknown in
    let one = or_false (bytes_eq name (codes "docker")) (bytes_eq name (codes "dir")) two.0 in
    let last = or_false (bytes_eq name (codes "oci")) (is_left_out name) two.1 in
    rw (same, cut_at-some colon name rest (lacks-to colon name plain), one.0, one.1, last.0, last.1) refl
place_refused cwd text LeftOut (name, rest, same, plain, left) =
    rw (same, cut_at-some colon name rest (lacks-to colon name plain), other_name is_left_out name (codes "docker") left refl, other_name is_left_out name (codes "dir") left refl, other_name is_left_out name (codes "oci") left refl, left) refl
place_refused cwd text Slashes (rest, same, other) = rw (same, not_true (bytes_eq (take 2 rest) (codes "//")) (λ same_word. other ((bytes_eq-Decides (take 2 rest) (codes "//")).0 same_word))) refl
place_refused cwd text EmptyPath (inl same) = rw same refl
place_refused cwd text EmptyPath (inr (None, same)) = rw same refl
place_refused cwd text EmptyPath (inr (Some name, same)) = rw same refl
place_refused cwd text BadOciRef (path, name, same, some, plain, bad) =
    rw (same, cut_at-some colon path name (lacks-to colon path plain), no_zero (length path) some, bad) refl
place_refused cwd text (OfReference fault) (ref, found, same, first, at) = rw (same, first_image_fault ref found first, at) refl
place_refused cwd text Memory h = absurd h

-- ---- what is refused has the fault

abbrev Judges : List ℕ → Result Place PlaceFault → Type 0
Judges text (Ok place) = Unit {0}
Judges text (Err e) = PlaceFaultOf text e

judges_reference : (text ref : List ℕ) (read : Result Reference RefFault) → text ≡ codes "docker://" ++ ref → docker_of ref ≡ read → Judges text (docker_read read)
judges_reference text ref (Ok r) same e = tt
judges_reference text ref (Err found) same e = (ref, found, same, image_fault_first ref found e, refl)

judges_docker : (text rest : List ℕ) → text ≡ codes "docker:" ++ rest → Judges text (docker_place rest)
judges_docker text rest same =
    elim (cases_Bool (bytes_eq (take 2 rest) (codes "//"))) [
      | inl same_word ↦
          let front : rest ≡ codes "//" ++ drop 2 rest = sym (take-append-drop 2 rest) ∙ ap (λ t. t ++ drop 2 rest) ((bytes_eq-Decides (take 2 rest) (codes "//")).0 same_word) in
          rw same_word (judges_reference text (drop 2 rest) (docker_of (drop 2 rest)) (same ∙ ap (λ t. codes "docker:" ++ t) front) refl)
      | inr other ↦ rw other (rest, same, λ same_word. cc (other, (bytes_eq-Decides (take 2 rest) (codes "//")).1 same_word))
    ]

zero_length : (path : List ℕ) → (length path == 0) ≡ true → path ≡ []
zero_length [] h = refl
zero_length (b ∷ rest) h = absurd (some_length (length rest) h)
  where
    some_length : (n : ℕ) → (suc n == 0) ≡ true → ⊥
    some_length n h = grind (arith, nat_tests)

judges_dir : (cwd text path : List ℕ) → text ≡ codes "dir:" ++ path → Judges text (dir_place cwd path)
judges_dir cwd text path same =
    elim (cases_Bool (length path == 0)) [
      | inl empty ↦ rw empty (inl (same ∙ ap (λ t. codes "dir:" ++ t) (zero_length path empty)))
      | inr some ↦ rw some tt
    ]

some_bytes : (n : ℕ) → (n == 0) ≡ false → 0 < n
some_bytes n h = grind (arith, nat_tests)

judges_name : (cwd text path : List ℕ) (name : Option (List ℕ)) → text ≡ codes "oci:" ++ (path ++ after colon name) → lacks colon path ≡ true → 0 < length path
    → Judges text (if not (passes_or_none is_oci_ref name) then Err BadOciRef else Ok (Oci (cleaned cwd path) name))
judges_name cwd text path None same plain some = tt
judges_name cwd text path (Some name) same plain some =
    elim (cases_Bool (is_oci_ref name)) [
      | inl good ↦ rw good tt
      | inr bad ↦ rw bad (path, name, same, some, plain, bad)
    ]

judges_oci : (cwd text path : List ℕ) (name : Option (List ℕ)) → text ≡ codes "oci:" ++ (path ++ after colon name) → lacks colon path ≡ true → Judges text (oci_place cwd (path, name))
judges_oci cwd text path name same plain =
    elim (cases_Bool (length path == 0)) [
      | inl empty ↦ rw empty (inr (name, same ∙ ap (λ t. codes "oci:" ++ (t ++ after colon name)) (zero_length path empty)))
      | inr some ↦ rw some (judges_name cwd text path name same plain (some_bytes (length path) some))
    ]

judges_behind : (cwd text transport : List ℕ) (rest : Option (List ℕ)) → text ≡ transport ++ after colon rest → lacks colon transport ≡ true → Judges text (place_behind cwd transport rest)
judges_behind cwd text transport None same plain = rw (same, append-nil) plain
judges_behind cwd text transport (Some rest) same plain =
    let spelled : (word : List ℕ) → bytes_eq transport word ≡ true → text ≡ word ++ (colon ∷ rest) = λ word same_word. same ∙ ap (λ t. t ++ (colon ∷ rest)) ((bytes_eq-Decides transport word).0 same_word) in
    elim (cases_Bool (bytes_eq transport (codes "docker"))) [
      | inl docker ↦ rw docker (judges_docker text rest (spelled (codes "docker") docker))
      | inr no_docker ↦ elim (cases_Bool (bytes_eq transport (codes "dir"))) [
        | inl dir ↦ rw (no_docker, dir) (judges_dir cwd text rest (spelled (codes "dir") dir))
        | inr no_dir ↦ elim (cases_Bool (bytes_eq transport (codes "oci"))) [
          | inl oci ↦
              rw (no_docker, no_dir, oci)
              (judges_oci cwd text (cut_at colon rest).0 (cut_at colon rest).1 (spelled (codes "oci") oci ∙ ap (λ t. codes "oci:" ++ t) (cut_at-glued colon rest)) (lacks-from colon (cut_at colon rest).0 (cut_at-lacks colon rest)))
          | inr no_oci ↦ elim (cases_Bool (is_left_out transport)) [
            | inl left ↦ rw (no_docker, no_dir, no_oci, left) (transport, rest, same, plain, left)
            | inr unknown ↦ rw (no_docker, no_dir, no_oci, unknown) (transport, rest, same, plain, rw (no_docker, no_dir, no_oci, unknown) refl)
          ]
        ]
      ]
    ]

pub refused_place : (cwd text : List ℕ) (e : PlaceFault) → place_of cwd text ≡ Err e → PlaceFaultOf text e
unfolding place_of
refused_place cwd text e h = subst (Judges text) h (judges_behind cwd text (cut_at colon text).0 (cut_at colon text).1 (cut_at-glued colon text) (lacks-from colon (cut_at colon text).0 (cut_at-lacks colon text)))
