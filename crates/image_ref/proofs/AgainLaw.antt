-- Each reference that is read is read again from its full text.
use Rattle.std.proofs.Common.{◌≡◌, ℕ, ◌==◌, false, List, ◌∷◌, ◌++◌, length, Option, Some, None, Ok, Err, refl, ap, subst, ◌∙◌, codes, length-append, arith, ◌+◌, ◌≤◌, nat_lt}
use Rattle.image_ref.specs.declared.fault.RefFault.TheVariants.{TooLong}
use Rattle.std.specs.List.{list_all}
use Rattle.std.proofs.lemmas.List.Folds.{list_all-append}
use Rattle.image_ref.specs.Characters.{colon, slash}
use Rattle.image_ref.specs.Digest.{is_lower_digit}
use Rattle.image_ref.specs.Reference.{Reference, Parts, AreParts, Named, is_hex_name, spelled, path_of, before_slash, full, repository_of, normal_host, normal_path}
use Rattle.image_ref.specs.Pieces.{Pieces}
use Rattle.image_ref.specs.Reading.{pieces_of, judged, reading_of, IsReference, fits, value_of, digest_value}
use Rattle.image_ref.proofs.NamedLaw.{named_read}
use Rattle.image_ref.proofs.ReadLaw.{read_named}
use Rattle.image_ref.proofs.FullLaw.{full_named}
use Rattle.image_ref.proofs.BoolLemmas.{and_false, not_above, cond_false}

pub reference_again : (text : List ℕ) (r : Reference) → reading_of text ≡ Ok r → IsReference r
reference_again text r h = named_read (full r) r (full_named text r (read_named text r h))

pub judged_again : (text : List ℕ) (p : Pieces) (r : Reference) → (length text == 0) ≡ false → is_hex_name text ≡ false → p ≡ pieces_of text → judged p ≡ Ok r → IsReference r
unfolding reading_of
judged_again text p r some plain e h = reference_again text r (rw (some, plain) (subst (λ q. judged q ≡ Ok r) e h))

no_hex_tagged : (front back : List ℕ) → is_hex_name (front ++ (colon ∷ back)) ≡ false
no_hex_tagged front back = rw (list_all-append is_lower_digit front (colon ∷ back) ∙ and_false (list_all is_lower_digit front)) (and_false (length (front ++ (colon ∷ back)) == 64))

abbrev latest : Reference → Reference
latest r = record { host = r.host; path = r.path; tag = Some (codes "latest"); digest = None }

latest_parts : (text : List ℕ) (r : Reference) (p : Parts) → AreParts text r p → Named (spelled (record { domain = p.domain; components = p.components; tag = Some (codes "latest"); digest = None })) (latest r)
latest_parts text r p h = (
  record { domain = p.domain; components = p.components; tag = Some (codes "latest"); digest = None },
  record {
    spelled = refl;
    host = h.host;
    some = h.some;
    components = h.components;
    tag = refl;
    digest = tt;
    no_hex = no_hex_tagged (before_slash p.domain ++ path_of p) (codes "latest");
    normal = ap (λ (k : Reference). latest k) h.normal;
    short = h.short;
  },
)

pub latest_again : (r : Reference) → IsReference r → IsReference (latest r)
latest_again r h =
    let named = read_named (full r) r h in
    named_read (full (latest r)) (latest r) (full_named _ (latest r) (latest_parts (full r) r named.0 named.1))

reference_same : (r s : Reference) → r.host ≡ s.host → r.path ≡ s.path → r.tag ≡ s.tag → r.digest ≡ s.digest → r ≡ s
reference_same r s a b t d =
    let by_host : List ℕ → Reference = λ h. record { host = h; path = r.path; tag = r.tag; digest = r.digest } in
    let by_path : List ℕ → Reference = λ p. record { host = s.host; path = p; tag = r.tag; digest = r.digest } in
    let by_tag : Option (List ℕ) → Reference = λ x. record { host = s.host; path = s.path; tag = x; digest = r.digest } in
    let by_digest : Option (List ℕ) → Reference = λ x. record { host = s.host; path = s.path; tag = s.tag; digest = x } in
    ap by_host a ∙ ap by_path b ∙ ap by_tag t ∙ ap by_digest d

-- what was made of pieces is their value
pub made_of : (p : Pieces) (r : Reference) → r.host ≡ normal_host p.host → r.path ≡ normal_path (normal_host p.host) p.path → r.tag ≡ p.tag → r.digest ≡ digest_value p.digest → length r.host + 1 + length r.path ≤ 255 → fits (value_of p) ≡ Ok r
made_of p r a b t d short =
    let same : r ≡ value_of p = reference_same r (value_of p) a b t d in
    let len : length (repository_of r) ≤ 255 = omega (arith, length-append r.host (slash ∷ r.path)) in
    subst (λ v. fits v ≡ Ok r) same (cond_false (nat_lt 255 (length (repository_of r))) (Err TooLong) (Ok r) (not_above (length (repository_of r)) 255 len))
