-- The offset of a fault lies within the text.
use Rattle.std.proofs.Common.{◌≡◌, ℕ, ◌+◌, ◌≤◌, ◌==◌, false, List, [], ◌∷◌, ◌++◌, length, Option, Some, None, Result, Ok, Err, sym, ap, ◌∙◌, arith, inl, inr, length-append}
use Rattle.std.specs.Prelude.{IfErr}
use Rattle.std.specs.List.{join_with_byte}
use Rattle.std.proofs.lemmas.List.Splits.{join_with_byte-slice_split}
use Rattle.image_ref.specs.Calls.{Answers}
use Rattle.image_ref.specs.Characters.{slash, colon, at_sign}
use Rattle.image_ref.specs.Domain.{after}
use Rattle.image_ref.specs.Pieces.{Pieces, AreCut, name_of, head_of, components_of}
use Rattle.image_ref.specs.Faults.{IsWrong, IsFirstUpper, IsFirstBad, Holds, IsFirstFault}
use Rattle.image_ref.specs.Reference.{Reference, before_slash, is_hex_name}
use Rattle.image_ref.specs.Reading.{reading_of, judged, pieces_of, offset}
use Rattle.image_ref.specs.declared.fault.RefFault.{RefFault}
use Rattle.image_ref.specs.declared.fault.RefFault.TheVariants.{Empty, HexName, BadDigest, BadTag, BadHost, UpperCase, BadPath, TooLong, TagAndDigest, Memory}
use Rattle.image_ref.proofs.FirstLemmas.{with_slashes}
use Rattle.image_ref.proofs.FaultLaw.{fault_first}

-- how long a text and its parts are
record HasLengths (text : List ℕ) (p : Pieces) : Type 0 where
  whole : length text ≡ length (head_of p) + length (after at_sign p.digest)
  head : length (head_of p) ≡ length (name_of p) + length (after colon p.tag)
  name : length (name_of p) ≡ length (before_slash p.host) + length p.path

lengths : (text : List ℕ) (p : Pieces) → AreCut text p → HasLengths text p
lengths text p h = record {
  whole = ap length h.joined ∙ length-append (head_of p) (after at_sign p.digest);
  head = length-append (name_of p) (after colon p.tag);
  name = length-append (before_slash p.host) p.path;
}

wrong_some : (Grammar : List ℕ → Type 0) (c : ℕ) (o : Option (List ℕ)) → IsWrong Grammar o → 1 ≤ length (after c o)
wrong_some Grammar c None h = absurd h
wrong_some Grammar c (Some t) h = omega arith

upper_within : (path : List ℕ) (k : ℕ) → IsFirstUpper path k → k ≤ length path
upper_within path k h =
    let whole = ap length h.joined ∙ length-append h.before (h.letter ∷ h.after) in
    let place = h.place in
    omega arith

parts_within : (before after : List (List ℕ)) (part : List ℕ) → length (with_slashes before) ≤ length (join_with_byte slash (before ++ (part ∷ after)))
parts_within [] after part = omega arith
parts_within (x ∷ []) after part =
    let one = length-append (x ++ (slash ∷ [])) [] in
    let two = length-append x (slash ∷ []) in
    let whole = length-append x (slash ∷ join_with_byte slash (part ∷ after)) in
    omega arith
parts_within (x ∷ y ∷ more) after part =
    let one = length-append (x ++ (slash ∷ [])) (with_slashes (y ∷ more)) in
    let two = length-append x (slash ∷ []) in
    let whole = length-append x (slash ∷ join_with_byte slash (y ∷ (more ++ (part ∷ after)))) in
    let rest = parts_within (y ∷ more) after part in
    omega arith

bad_within : (path : List ℕ) (k : ℕ) → IsFirstBad (components_of path) k → k ≤ length path
bad_within path k h =
    let whole = ap (λ parts. length (join_with_byte slash parts)) (sym h.joined) ∙ ap length (join_with_byte-slice_split slash path) in
    let within = parts_within h.before h.after h.part in
    let place = h.place in
    omega arith

holds_within : (text : List ℕ) (p : Pieces) (e : RefFault) → HasLengths text p → Holds text p e → offset e ≤ length text
holds_within text p (BadDigest at) l h = let some = wrong_some _ at_sign p.digest h.0 in let at_is = h.1 in omega (arith, l.whole)
holds_within text p (BadTag at) l h = let some = wrong_some _ colon p.tag h.0 in let at_is = h.1 in omega (arith, l.whole, l.head)
holds_within text p (BadHost at) l h = let at_is = h.1 in omega arith
holds_within text p (UpperCase at) l h = let within = upper_within p.path h.0 h.1 in let at_is = h.2 in omega (arith, l.whole, l.head, l.name)
holds_within text p (BadPath at) l h = let within = bad_within p.path h.0 h.1 in let at_is = h.2 in omega (arith, l.whole, l.head, l.name)
holds_within text p Empty l h = omega arith
holds_within text p HexName l h = omega arith
holds_within text p TooLong l h = omega arith
holds_within text p TagAndDigest l h = omega arith
holds_within text p Memory l h = omega arith

fault_within : (text : List ℕ) (e : RefFault) → IsFirstFault text e → offset e ≤ length text
fault_within text e f = holds_within text f.pieces e (lengths text f.pieces f.cut) f.holds

answered : (A : Type 0) (text : List ℕ) (result : Result A RefFault) (wanted : Result A RefFault) → Answers Memory result wanted → ((e : RefFault) → wanted ≡ Err e → IsFirstFault text e) → IfErr result (λ e. offset e ≤ length text)
answered A text (Ok x) wanted h f = tt
answered A text (Err e) wanted (inl m) f = let same : e ≡ Memory = cc m in rw same (omega arith)
answered A text (Err e) wanted (inr w) f = fault_within text e (f e (sym w))

-- what judges the pieces of a text answers a fault within it
pub judged_within : (text : List ℕ) (p : Pieces) (result : Result Reference RefFault) → (length text == 0) ≡ false → is_hex_name text ≡ false → p ≡ pieces_of text → Answers Memory result (judged p) → IfErr result (λ e. offset e ≤ length text)
unfolding reading_of
judged_within text p result some plain same h = answered Reference text result (judged p) h (λ e w. fault_first text e (rw (some, plain) (ap judged (sym same) ∙ w)))
