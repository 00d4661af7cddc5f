-- A text is cut into its pieces in one way.
use Rattle.std.proofs.Common.{◌≡◌, ℕ, ◌+◌, ◌-◌, true, false, List, [], ◌∷◌, ◌++◌, length, Option, Some, None, refl, sym, ap, subst, ◌∙◌, arith, inl, inr, append_assoc, length-append}
use Rattle.std.proofs.lemmas.Bool.{cases_Bool}
use Rattle.image_ref.specs.Characters.{colon, slash, at_sign}
use Rattle.image_ref.specs.Cuts.{Cut, cut_at, cut_tag, lacks}
use Rattle.image_ref.specs.Domain.{after, looks_like_host}
use Rattle.image_ref.specs.Reference.{IsNoHost, before_slash}
use Rattle.image_ref.specs.Reading.{pieces_of, split_name, host_and_path}
use Rattle.image_ref.proofs.CutLemmas.{lacks-to, lacks-from, cut_at-lacks, cut_at-some, cut_at-glued, cut_tag-glued}
use Rattle.image_ref.proofs.PartLemmas.{parts, parts_after, parts-cut}
use Rattle.image_ref.proofs.DomainLaw.{cut_at-joined, parts-some}
use Rattle.image_ref.specs.Pieces.{Pieces, AreCut, IsHostCut, name_of, head_of, path_at, tag_at, digest_at}
use Rattle.image_ref.proofs.TagCuts.{tag_past, no_tag_left, tag_cut}

no_host : (first : List ℕ) (rest : List (List ℕ)) → (rest ≡ [] → ⊥) → looks_like_host first ≡ false → IsNoHost (first ∷ rest)
no_host first [] some h = absurd (some refl)
no_host first (x ∷ more) some h = h

looks_plain : (first : List ℕ) (rest : List (List ℕ)) → (rest ≡ [] → ⊥) → IsNoHost (first ∷ rest) → looks_like_host first ≡ false
looks_plain first [] some h = absurd (some refl)
looks_plain first (x ∷ more) some h = h

-- ---- the host

record IsSplit (name : List ℕ) (first : Option (List ℕ)) (path : List ℕ) : Type 0 where
  glued : name ≡ before_slash first ++ path
  host : IsHostCut first path

split_by : (name : List ℕ) (cut : Cut) → cut_at slash name ≡ cut → IsSplit name (host_and_path cut name).0 (host_and_path cut name).1
split_by name (first, None) e = record { glued = refl; host = rw (parts-cut slash name, e) tt }
split_by name (first, Some rest) e =
    let glue : name ≡ first ++ (slash ∷ rest) = cut_at-glued slash name ∙ rw e refl in
    let plain : lacks slash first ≡ true = rw e at (lacks-from slash (cut_at slash name).0 (cut_at-lacks slash name)) in
    elim (cases_Bool (looks_like_host first)) [
      | inl looks ↦ rw looks (record { glued = glue ∙ sym (append_assoc first (slash ∷ []) rest); host = (plain, looks) })
      | inr none ↦ rw none (record { glued = refl; host = rw (parts-cut slash name, e) (no_host first (parts slash rest) (parts-some slash rest) none) })
    ]

only_part : (path : List ℕ) (cut : Cut) → cut_at slash path ≡ cut → IsNoHost (parts_after slash cut) → host_and_path cut path ≡ (None, path)
only_part path (first, None) e h = refl
only_part path (first, Some rest) e h = rw (looks_plain first (parts slash rest) (parts-some slash rest) h) refl

host_cut : (host : Option (List ℕ)) (path : List ℕ) → IsHostCut host path → split_name (before_slash host ++ path) ≡ (host, path)
host_cut None path h = only_part path (cut_at slash path) refl (rw (parts-cut slash path) at h)
host_cut (Some d) path h = ap split_name (append_assoc d (slash ∷ []) path) ∙ rw (cut_at-some slash d path (lacks-to slash d h.0), h.1) refl

-- ---- the whole text

pub pieces_cut : (text : List ℕ) → AreCut text (pieces_of text)
pieces_cut text =
    let head = (cut_at at_sign text).0 in
    let name = (cut_tag head).0 in
    let split = split_by name (cut_at slash name) refl in
    let heads : head ≡ head_of (pieces_of text) = cut_tag-glued head ∙ ap (λ n. n ++ after colon (cut_tag head).1) split.glued in
    record {
      joined = cut_at-glued at_sign text ∙ ap (λ h. h ++ after at_sign (cut_at at_sign text).1) heads;
      first_at = subst (λ h. lacks at_sign h ≡ true) heads (lacks-from at_sign head (cut_at-lacks at_sign text));
      past_slash = tag_past head;
      first_colon = λ front back e. no_tag_left head front back (split.glued ∙ e);
      host = split.host;
    }

pub pieces_once : (text : List ℕ) (p : Pieces) → AreCut text p → p ≡ pieces_of text
pieces_once text p h =
    let digest : cut_at at_sign text ≡ (head_of p, p.digest) = ap (cut_at at_sign) h.joined ∙ cut_at-joined at_sign (head_of p) p.digest h.first_at in
    let tag : cut_tag (head_of p) ≡ (name_of p, p.tag) = tag_cut (name_of p) p.tag h.first_colon h.past_slash in
    rw (digest, tag, host_cut p.host p.path h.host) refl

-- ---- where the pieces begin

name_at : (text : List ℕ) → (cut_tag (cut_at at_sign text).0).0 ≡ name_of (pieces_of text)
name_at text = let name = (cut_tag (cut_at at_sign text).0).0 in (split_by name (cut_at slash name) refl).glued

head_at : (text : List ℕ) → (cut_at at_sign text).0 ≡ head_of (pieces_of text)
head_at text = let head = (cut_at at_sign text).0 in cut_tag-glued head ∙ ap (λ n. n ++ after colon (cut_tag head).1) (name_at text)

path_place : (name host path : List ℕ) → name ≡ host ++ path → length name - length path ≡ length host
path_place name host path e = omega (arith, ap length e, length-append host path)

pub places_of : (text head name : List ℕ) (p : Pieces) → p ≡ pieces_of text → head ≡ (cut_at at_sign text).0 → name ≡ (cut_tag head).0
    → (length name - length p.path ≡ path_at p) × (length name + 1 ≡ tag_at p) × (length head + 1 ≡ digest_at p)
places_of text head name p e h n =
    let names : name ≡ name_of p = n ∙ ap (λ t. (cut_tag t).0) h ∙ name_at text ∙ ap name_of (sym e) in
    let heads : head ≡ head_of p = h ∙ head_at text ∙ ap head_of (sym e) in
    (path_place name (before_slash p.host) p.path names, ap (λ t. length t + 1) names, ap (λ t. length t + 1) heads)
