-- What is in the grammar is read, as the one reference that it names.
use Rattle.std.proofs.Common.{◌≡◌, ℕ, ◌<◌, nat_lt, Bool, true, false, not, List, [], ◌∷◌, ◌++◌, length, Option, Some, None, Result, Ok, refl, sym, ap, ◌∙◌, arith, append_assoc, length-append, option_map}
use Rattle.std.specs.Prelude.{IfSome}
use Rattle.std.proofs.lemmas.Bool.{and_parts}
use Rattle.std.proofs.lemmas.Bool.Decides.{nat_tests}
use Rattle.std.specs.List.{All, list_all, join_with_byte, position_or_len, prefix_len}
use Rattle.std.proofs.lemmas.List.Elements.{All-head, All-weaker}
use Rattle.image_ref.specs.Characters.{is_upper, colon, slash, at_sign}
use Rattle.image_ref.specs.Component.{IsComponent, last, joined}
use Rattle.image_ref.specs.Cuts.{cut_at}
use Rattle.image_ref.specs.Digest.{IsDigest, digest_text}
use Rattle.image_ref.specs.Domain.{is_domain, passes_or_none, after}
use Rattle.image_ref.specs.Reference.{Reference, Parts, AreParts, Named, IsHost, is_tag, normal, before_slash, path_of, repository_of}
use Rattle.image_ref.specs.Reading.{pieces_of, reading_of, bad_component, digest_passes, digest_value}
use Rattle.image_ref.specs.declared.fault.RefFault.{RefFault}
use Rattle.image_ref.proofs.JudgedLemmas.{judged_from, pass_components, components_are}
use Rattle.image_ref.proofs.ByteLemmas.{weaker, joined_bytes, component_byte, component_bytes}
use Rattle.image_ref.proofs.DomainLaw.{cut_at-joined, parts-joined, is_domain-from}
use Rattle.image_ref.proofs.DigestTexts.{digest_of-digest_text}
use Rattle.image_ref.specs.Pieces.{Pieces, path_at}
use Rattle.image_ref.proofs.JoinedCuts.{no_slash, cut_name, split_parts, name_lacks}
use Rattle.image_ref.proofs.BoolLemmas.{no_zero, not_above}

-- no component holds an upper-case letter
all_prefix : (p : ℕ → Bool) (text : List ℕ) → list_all p text ≡ true → prefix_len p text ≡ length text
all_prefix p [] h = refl
all_prefix p (b ∷ rest) h = let k = and_parts (p b) (list_all p rest) h in rw k.0 (let e = all_prefix p rest k.1 in omega arith)

not_upper : (b : ℕ) → component_byte b ≡ true → not (is_upper b) ≡ true
not_upper b h = grind (arith, nat_tests)

no_upper : (items : List (List ℕ)) → All IsComponent items → nat_lt (position_or_len is_upper (join_with_byte slash items)) (length (join_with_byte slash items)) ≡ false
no_upper items h =
    let all = joined_bytes (λ b. not (is_upper b)) slash refl items (All-weaker IsComponent (λ t. list_all (λ b. not (is_upper b)) t ≡ true) (λ c k. weaker component_byte (λ b. not (is_upper b)) not_upper c (component_bytes c k)) items h) in
    let e = all_prefix (λ b. not (is_upper b)) (join_with_byte slash items) all in
    grind (arith, nat_tests)

digest_reads : (d : Option (List ℕ)) → IfSome d IsDigest → digest_value (option_map digest_text d) ≡ d
digest_reads None h = refl
digest_reads (Some d) h = digest_of-digest_text d h

digest_ok : (d : Option (List ℕ)) → IfSome d IsDigest → digest_passes (option_map digest_text d) ≡ true
digest_ok None h = refl
digest_ok (Some d) h = rw (digest_of-digest_text d h) refl

tag_ok : (t : Option (List ℕ)) → IfSome t (λ t. is_tag t ≡ true) → passes_or_none is_tag t ≡ true
tag_ok None h = refl
tag_ok (Some t) h = h

host_ok : (domain : Option (List ℕ)) (items : List (List ℕ)) → IsHost domain items → passes_or_none is_domain domain ≡ true
host_ok None items h = refl
host_ok (Some d) items h = is_domain-from d h.0

component_some : (c : List ℕ) → IsComponent c → 0 < length c
component_some _ (last run h) = h.some
component_some _ (joined run separator rest h sep c) = omega (arith, length-append run (separator ++ rest), h.some)

path_some : (items : List (List ℕ)) → (items ≡ [] → ⊥) → All IsComponent items → 0 < length (join_with_byte slash items)
path_some [] some h = absurd (some refl)
path_some (x ∷ []) some h = component_some x (All-head IsComponent x [] h)
path_some (x ∷ y ∷ more) some h = omega (arith, length-append x (slash ∷ join_with_byte slash (y ∷ more)), component_some x (All-head IsComponent x (y ∷ more) h))

longer : (text host path rest : List ℕ) → text ≡ (host ++ path) ++ rest → 0 < length path → 0 < length text
longer text host path rest e h = omega (arith, ap length e, length-append (host ++ path) rest, length-append host path)

abbrev written_name : Parts → List ℕ
written_name p = before_slash p.domain ++ path_of p

abbrev pieces_wanted : Parts → Pieces
pieces_wanted p = record { host = p.domain; path = path_of p; tag = p.tag; digest = option_map digest_text p.digest }

pieces_found : (text : List ℕ) (r : Reference) (p : Parts) → AreParts text r p → pieces_of text ≡ pieces_wanted p
pieces_found text r p h =
    let cut1 : cut_at at_sign text ≡ (written_name p ++ after colon p.tag, option_map digest_text p.digest) =
    ap (cut_at at_sign) (h.spelled ∙ sym (append_assoc (written_name p) (after colon p.tag) (after at_sign (option_map digest_text p.digest))))
    ∙ cut_at-joined at_sign (written_name p ++ after colon p.tag) (option_map digest_text p.digest) (name_lacks p.domain p.components p.tag h.components h.host h.tag) in
    rw (cut1, cut_name p.domain p.components p.tag h.some h.components h.tag, split_parts p.domain p.components h.components h.host) refl

pub named_read : (text : List ℕ) (r : Reference) → Named text r → reading_of text ≡ Ok r
unfolding reading_of
named_read text r (p, h) =
    let some : 0 < length text = longer text (before_slash p.domain) (path_of p) (after colon p.tag ++ after at_sign (option_map digest_text p.digest)) h.spelled (path_some p.components h.some h.components) in
    rw (no_zero (length text) some, h.no_hex, pieces_found text r p h) (judged_from (pieces_wanted p) r record {
      digest = digest_ok p.digest h.digest;
      tag = tag_ok p.tag h.tag;
      host = host_ok p.domain p.components h.host;
      upper = no_upper p.components h.components;
      path = ap (bad_component (path_at (pieces_wanted p))) (parts-joined slash p.components h.some (no_slash p.components h.components)) ∙ pass_components (path_at (pieces_wanted p)) p.components (components_are p.components h.components);
      short = not_above (length (repository_of r)) 255 h.short;
      value = h.normal ∙ ap (normal p.domain (path_of p) p.tag) (sym (digest_reads p.digest h.digest));
    })

ok_same : (x : Result Reference RefFault) (r s : Reference) → x ≡ Ok r → x ≡ Ok s → r ≡ s
ok_same x r s h k = cc

pub named_once : (text : List ℕ) (r s : Reference) → Named text r → Named text s → r ≡ s
named_once text r s h k = ok_same (reading_of text) r s (named_read text r h) (named_read text s k)
