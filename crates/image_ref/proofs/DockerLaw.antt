-- The reference of an image: what is read, and the first fault.
use Rattle.std.proofs.Common.{◌≡◌, ℕ, List, Option, Some, None, Result, Ok, Err, refl, sym, ap, ◌∙◌, inl, inr}
use Rattle.image_ref.specs.Reference.{Reference}
use Rattle.image_ref.specs.Reading.{reading_of, docker_of, then_tagged, tagged}
use Rattle.image_ref.specs.declared.fault.RefFault.{RefFault}
use Rattle.image_ref.proofs.NamedLaw.{named_read}
use Rattle.image_ref.proofs.ReadLaw.{read_named}
use Rattle.std.specs.Prelude.{IsSome}
use Rattle.image_ref.specs.Reference.{Means, ImageNamed}
use Rattle.image_ref.specs.Faults.{IsFirstImageFault}
use Rattle.image_ref.specs.declared.fault.RefFault.TheVariants.{TagAndDigest}
use Rattle.image_ref.proofs.FaultLaw.{fault_first}
use Rattle.image_ref.proofs.OneFault.{first_fault}

means_to : (named : Reference) (tag digest : Option (List ℕ)) (image : Reference) → tagged named tag digest ≡ Ok image → Means named tag digest image
means_to named (Some t) (Some d) image h = cc h
means_to named None None image h = cc h
means_to named (Some t) None image h = cc h
means_to named None (Some d) image h = cc h

means_from : (named : Reference) (tag digest : Option (List ℕ)) (image : Reference) → Means named tag digest image → tagged named tag digest ≡ Ok image
means_from named (Some t) (Some d) image h = absurd h
means_from named None None image h = ap (λ (r : Reference). Ok r) (sym h)
means_from named (Some t) None image h = ap (λ (r : Reference). Ok r) (sym h)
means_from named None (Some d) image h = ap (λ (r : Reference). Ok r) (sym h)

pub image_read : (text : List ℕ) (r : Reference) → ImageNamed text r → docker_of text ≡ Ok r
unfolding docker_of
image_read text r (named, h, m) = ap then_tagged (named_read text named h) ∙ means_from named named.tag named.digest r m

tagged_ok : (text : List ℕ) (read : Result Reference RefFault) (r : Reference) → reading_of text ≡ read → then_tagged read ≡ Ok r → ImageNamed text r
tagged_ok text (Ok named) r e h = (named, read_named text named e, means_to named named.tag named.digest r h)
tagged_ok text (Err f) r e h = cc h

pub read_image : (text : List ℕ) (r : Reference) → docker_of text ≡ Ok r → ImageNamed text r
unfolding docker_of
read_image text r h = tagged_ok text (reading_of text) r refl h

-- ---- faults

record HasBoth (tag digest : Option (List ℕ)) (e : RefFault) : Type 0 where
  is : e ≡ TagAndDigest
  tag_is : IsSome tag
  digest_is : IsSome digest

both_refused : (named : Reference) (tag digest : Option (List ℕ)) (e : RefFault) → tagged named tag digest ≡ Err e → HasBoth tag digest e
both_refused named (Some t) (Some d) e h = record { is = cc h; tag_is = refl; digest_is = refl }
both_refused named None None e h = cc h
both_refused named (Some t) None e h = cc h
both_refused named None (Some d) e h = cc h

refused_both : (named : Reference) (tag digest : Option (List ℕ)) → IsSome tag → IsSome digest → tagged named tag digest ≡ Err TagAndDigest
refused_both named (Some t) (Some d) a b = refl
refused_both named None d a b = cc a
refused_both named (Some t) None a b = cc b

tagged_err : (text : List ℕ) (read : Result Reference RefFault) (e : RefFault) → reading_of text ≡ read → then_tagged read ≡ Err e → IsFirstImageFault text e
tagged_err text (Ok named) e r h =
    let both = both_refused named named.tag named.digest e h in
    inr (both.is, (named, read_named text named r, both.tag_is, both.digest_is))
tagged_err text (Err f) e r h = inl (fault_first text e (r ∙ h))

pub image_fault_first : (text : List ℕ) (e : RefFault) → docker_of text ≡ Err e → IsFirstImageFault text e
unfolding docker_of
image_fault_first text e h = tagged_err text (reading_of text) e refl h

pub first_image_fault : (text : List ℕ) (e : RefFault) → IsFirstImageFault text e → docker_of text ≡ Err e
unfolding docker_of
first_image_fault text e (inl f) = ap then_tagged (first_fault text e f)
first_image_fault text e (inr (same, (r, named, tag, digest))) =
    ap then_tagged (named_read text r named) ∙ refused_both r r.tag r.digest tag digest ∙ ap (λ (f : RefFault). Err f) (sym same)
