-- What is read is in the grammar.
use Rattle.std.proofs.Common.{◌≡◌, ℕ, ◌≤◌, ◌==◌, nat_lt, true, false, List, length, Option, Some, None, Ok, refl, ◌∙◌, arith, append_assoc}
use Rattle.std.proofs.lemmas.Bool.Decides.{nat_tests}
use Rattle.std.proofs.lemmas.List.Splits.{join_with_byte-slice_split}
use Rattle.image_ref.specs.Characters.{colon, slash, at_sign}
use Rattle.image_ref.specs.Domain.{is_domain, passes_or_none, after}
use Rattle.image_ref.specs.Reference.{Reference, Parts, AreParts, Named, IsHost, is_hex_name, repository_of}
use Rattle.image_ref.specs.Reading.{pieces_of, reading_of, digest_value}
use Rattle.image_ref.specs.declared.fault.RefFault.TheVariants.{Empty, HexName}
use Rattle.image_ref.proofs.PartLemmas.{parts}
use Rattle.image_ref.proofs.JudgedLemmas.{chosen, IsJudged, judged_ok, components_pass, are_components, digest_again, digest_is, tag_is}
use Rattle.image_ref.proofs.PieceLaw.{pieces_cut}
use Rattle.image_ref.proofs.DomainLaw.{parts-some, is_domain-to}
use Rattle.image_ref.specs.Pieces.{Pieces, AreCut, IsHostCut, name_of, path_at, components_of}

abbrev parts_read : Pieces → Parts
parts_read p = record { domain = p.host; components = parts slash p.path; tag = p.tag; digest = digest_value p.digest }

within : (n : ℕ) → nat_lt 255 n ≡ false → n ≤ 255
within n h = grind (arith, nat_tests)

host_is : (host : Option (List ℕ)) (path : List ℕ) → IsHostCut host path → passes_or_none is_domain host ≡ true → IsHost host (components_of path)
host_is None path h t = h
host_is (Some d) path h t = (is_domain-to d t, h.1)

read_parts : (text : List ℕ) (r : Reference) (p : Pieces) → is_hex_name text ≡ false → AreCut text p → IsJudged p r → AreParts text r (parts_read p)
read_parts text r p plain cut j = record {
  spelled = cut.joined ∙ append_assoc (name_of p) (after colon p.tag) (after at_sign p.digest) ∙ rw (join_with_byte-slice_split slash p.path, digest_again p.digest j.digest) refl;
  host = host_is p.host p.path cut.host j.host;
  some = parts-some slash p.path;
  components = are_components (components_of p.path) (components_pass (path_at p) (components_of p.path) j.path);
  tag = tag_is p.tag j.tag;
  digest = digest_is p.digest j.digest;
  no_hex = plain;
  normal = j.value ∙ rw (join_with_byte-slice_split slash p.path) refl;
  short = within (length (repository_of r)) j.short;
}

pub read_named : (text : List ℕ) (r : Reference) → reading_of text ≡ Ok r → Named text r
unfolding reading_of
read_named text r h =
    let some = chosen (length text == 0) Empty _ r h in
    let plain = chosen (is_hex_name text) HexName _ r some.1 in
    (parts_read (pieces_of text), read_parts text r (pieces_of text) plain.0 (pieces_cut text) (judged_ok (pieces_of text) r plain.1))
