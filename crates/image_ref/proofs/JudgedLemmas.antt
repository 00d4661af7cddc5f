-- What held where the pieces of a text were read, part by part.
use Rattle.std.proofs.Common.{◌≡◌, ℕ, ◌+◌, nat_lt, Bool, true, false, not, List, [], ◌∷◌, length, Option, Some, None, Result, Ok, Err, refl, sym, ap, subst, inl, inr, option_map}
use Rattle.std.specs.Prelude.{IfSome, if◌then◌else◌}
use Rattle.std.proofs.lemmas.Bool.{cases_Bool, and_parts}
use Rattle.std.specs.List.{All, list_all, position_or_len}
use Rattle.std.proofs.lemmas.List.Elements.{All-weaker}
use Rattle.std.proofs.lemmas.List.Sums.{AllPass-from_list_all, list_all-from_AllPass}
use Rattle.image_ref.specs.Characters.{is_upper}
use Rattle.image_ref.specs.Component.{IsComponent}
use Rattle.image_ref.specs.ComponentTest.{is_component}
use Rattle.image_ref.specs.Digest.{IsDigest, digest_text, digest_of}
use Rattle.image_ref.specs.Domain.{is_domain, passes_or_none}
use Rattle.image_ref.specs.Reference.{Reference, is_tag, repository_of}
use Rattle.image_ref.specs.Reading.{judged, bad_component, path_checked, fits, value_of, digest_passes, digest_value, is_there}
use Rattle.image_ref.specs.declared.fault.RefFault.{RefFault}
use Rattle.image_ref.specs.declared.fault.RefFault.TheVariants.{BadDigest, BadTag, BadHost, UpperCase, TooLong}
use Rattle.image_ref.proofs.JoinedComponents.{is_component-from}
use Rattle.image_ref.proofs.AcceptedComponents.{is_component-to}
use Rattle.image_ref.proofs.DigestTexts.{digest_of-some}
use Rattle.image_ref.specs.Pieces.{Pieces, path_at, tag_at, digest_at, components_of}
use Rattle.image_ref.proofs.BoolLemmas.{not_false, cond_false}

pub chosen : (b : Bool) (e : RefFault) (y : Result Reference RefFault) (r : Reference) → (if b then Err e else y) ≡ Ok r → (b ≡ false) × (y ≡ Ok r)
chosen true e y r h = cc h
chosen false e y r h = (refl, h)

path_ok : (p : Pieces) (bad : Option ℕ) (y : Result Reference RefFault) (r : Reference) → path_checked p bad y ≡ Ok r → (bad ≡ None) × (y ≡ Ok r)
path_ok p None y r h = (refl, h)
path_ok p (Some at) y r h = cc h

fits_ok : (v r : Reference) → fits v ≡ Ok r → (nat_lt 255 (length (repository_of v)) ≡ false) × (v ≡ r)
fits_ok v r h = let s = chosen (nat_lt 255 (length (repository_of v))) TooLong (Ok v) r h in (s.0, cc s.1)

-- what held where pieces were read
pub record IsJudged (p : Pieces) (r : Reference) : Type 0 where
  pub digest : digest_passes p.digest ≡ true
  pub tag : passes_or_none is_tag p.tag ≡ true
  pub host : passes_or_none is_domain p.host ≡ true
  pub upper : nat_lt (position_or_len is_upper p.path) (length p.path) ≡ false
  pub path : bad_component (path_at p) (components_of p.path) ≡ None
  pub short : nat_lt 255 (length (repository_of r)) ≡ false
  pub value : r ≡ value_of p

pub judged_ok : (p : Pieces) (r : Reference) → judged p ≡ Ok r → IsJudged p r
unfolding judged
judged_ok p r h =
    let s1 = chosen (not (digest_passes p.digest)) (BadDigest (digest_at p)) _ r h in
    let s2 = chosen (not (passes_or_none is_tag p.tag)) (BadTag (tag_at p)) _ r s1.1 in
    let s3 = chosen (not (passes_or_none is_domain p.host)) (BadHost 0) _ r s2.1 in
    let s4 = chosen (nat_lt (position_or_len is_upper p.path) (length p.path)) (UpperCase (path_at p + position_or_len is_upper p.path)) _ r s3.1 in
    let s5 = path_ok p (bad_component (path_at p) (components_of p.path)) (fits (value_of p)) r s4.1 in
    let s6 = fits_ok (value_of p) r s5.1 in
    record {
      digest = not_false (digest_passes p.digest) s1.0;
      tag = not_false (passes_or_none is_tag p.tag) s2.0;
      host = not_false (passes_or_none is_domain p.host) s3.0;
      upper = s4.0;
      path = s5.0;
      short = subst (λ v. nat_lt 255 (length (repository_of v)) ≡ false) s6.1 s6.0;
      value = sym s6.1;
    }

pub judged_from : (p : Pieces) (r : Reference) → IsJudged p r → judged p ≡ Ok r
unfolding judged
judged_from p r h =
    rw (h.digest, h.tag, h.host, h.upper, h.path) (subst (λ v. fits v ≡ Ok r) h.value (cond_false (nat_lt 255 (length (repository_of r))) (Err TooLong) (Ok r) h.short))

pub components_pass : (at : ℕ) (items : List (List ℕ)) → bad_component at items ≡ None → list_all is_component items ≡ true
components_pass at [] h = refl
components_pass at (x ∷ more) h =
    elim (cases_Bool (is_component x)) [
      | inl good ↦ rw good (components_pass (at + length x + 1) more (rw good at h))
      | inr bad ↦ cc (rw bad at h)
    ]

pub pass_components : (at : ℕ) (items : List (List ℕ)) → list_all is_component items ≡ true → bad_component at items ≡ None
pass_components at [] h = refl
pass_components at (x ∷ more) h = let p = and_parts (is_component x) (list_all is_component more) h in rw p.0 (pass_components (at + length x + 1) more p.1)

pub are_components : (items : List (List ℕ)) → list_all is_component items ≡ true → All IsComponent items
are_components items h = All-weaker (λ c. is_component c ≡ true) IsComponent (λ c e. is_component-to c e) items (AllPass-from_list_all is_component items h)

pub components_are : (items : List (List ℕ)) → All IsComponent items → list_all is_component items ≡ true
components_are items h = list_all-from_AllPass is_component items (All-weaker IsComponent (λ c. is_component c ≡ true) (λ c e. is_component-from c e) items h)

digest_found : (text : List ℕ) (o : Option (List ℕ)) → digest_of text ≡ o → is_there o ≡ true → (d : List ℕ) × (o ≡ Some d) × IsDigest d × (text ≡ digest_text d)
digest_found text None e t = cc t
digest_found text (Some d) e t = let k = digest_of-some text d e in (d, refl, k.0, k.1)

pub digest_again : (d : Option (List ℕ)) → digest_passes d ≡ true → option_map digest_text (digest_value d) ≡ d
digest_again None h = refl
digest_again (Some text) h = let k = digest_found text (digest_of text) refl h in rw k.1 (ap Some (sym k.3))

pub digest_is : (d : Option (List ℕ)) → digest_passes d ≡ true → IfSome (digest_value d) IsDigest
digest_is None h = tt
digest_is (Some text) h = let k = digest_found text (digest_of text) refl h in rw k.1 k.2

pub tag_is : (t : Option (List ℕ)) → passes_or_none is_tag t ≡ true → IfSome t (λ t. is_tag t ≡ true)
tag_is None h = tt
tag_is (Some t) h = h
