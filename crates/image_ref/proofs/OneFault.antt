-- A text has one first fault, and is refused by it.
use Rattle.std.proofs.Common.{◌≡◌, ℕ, ◌+◌, ◌<◌, List, Result, Ok, Err, refl, sym, ap, subst, ◌∙◌, arith, inl, inr}
use Rattle.std.proofs.lemmas.Bool.{cases_lt}
use Rattle.image_ref.specs.Pieces.{Pieces, path_at, components_of}
use Rattle.image_ref.specs.Faults.{Holds, row, IsFirstFault}
use Rattle.image_ref.specs.Reference.{Reference}
use Rattle.image_ref.specs.Reading.{pieces_of, reading_of}
use Rattle.image_ref.specs.declared.fault.RefFault.{RefFault}
use Rattle.image_ref.specs.declared.fault.RefFault.TheVariants.{Empty, HexName, BadDigest, BadTag, BadHost, UpperCase, BadPath, TooLong, TagAndDigest, Memory}
use Rattle.image_ref.proofs.FirstLemmas.{upper_once, bad_once}
use Rattle.image_ref.proofs.PieceLaw.{pieces_once}
use Rattle.image_ref.proofs.FaultLaw.{Judges, reading_judges}

row_known : (text : List ℕ) (p : Pieces) (e : RefFault) → Holds text p e → row e < 8
row_known text p TagAndDigest h = absurd h
row_known text p Memory h = absurd h
row_known text p _ h = omega arith

same_row : (text : List ℕ) (p : Pieces) (e f : RefFault) → Holds text p e → Holds text p f → row e ≡ row f → e ≡ f
same_row text p Empty Empty h k r = refl
same_row text p HexName HexName h k r = refl
same_row text p (BadDigest at) (BadDigest to) h k r = ap BadDigest (h.1 ∙ sym k.1)
same_row text p (BadTag at) (BadTag to) h k r = ap BadTag (h.1 ∙ sym k.1)
same_row text p (BadHost at) (BadHost to) h k r = ap BadHost (h.1 ∙ sym k.1)
same_row text p (UpperCase at) (UpperCase to) h k r =
    ap UpperCase (h.2 ∙ ap (λ n. path_at p + n) (sym (upper_once p.path h.0 h.1) ∙ upper_once p.path k.0 k.1) ∙ sym k.2)
same_row text p (BadPath at) (BadPath to) h k r =
    let one = bad_once (path_at p) (components_of p.path) h.0 h.1 in
    let two = bad_once (path_at p) (components_of p.path) k.0 k.1 in
    let same : path_at p + h.0 ≡ path_at p + k.0 = cc (one, two) in
    ap BadPath (h.2 ∙ same ∙ sym k.2)
same_row text p TooLong TooLong h k r = refl
same_row text p TagAndDigest _ h k r = absurd h
same_row text p Memory _ h k r = absurd h
same_row text p _ _ h k r = absurd (omega arith)

fault_found : (text : List ℕ) (read : Result Reference RefFault) → Judges text (pieces_of text) read → (e : RefFault) → IsFirstFault text e → read ≡ Err e
fault_found text (Ok r) clear e f =
    let here : Holds text (pieces_of text) e = subst (λ p. Holds text p e) (pieces_once text f.pieces f.cut) f.holds in
    absurd (clear e (row_known text (pieces_of text) e here) here)
fault_found text (Err g) w e f =
    let one : Holds text (pieces_of text) e = subst (λ p. Holds text p e) (pieces_once text f.pieces f.cut) f.holds in
    let two : Holds text (pieces_of text) g = subst (λ p. Holds text p g) (pieces_once text w.pieces w.cut) w.holds in
    elim (cases_lt (row e) (row g)) [
      | inl before ↦ absurd (w.first e before (subst (λ p. Holds text p e) (sym (pieces_once text w.pieces w.cut)) one))
      | inr not_before ↦ elim (cases_lt (row g) (row e)) [
        | inl behind ↦ absurd (f.first g behind (subst (λ p. Holds text p g) (sym (pieces_once text f.pieces f.cut)) two))
        | inr not_behind ↦ ap Err (same_row text (pieces_of text) g e two one (omega arith))
      ]
    ]

pub first_fault : (text : List ℕ) (e : RefFault) → IsFirstFault text e → reading_of text ≡ Err e
first_fault text e f = fault_found text (reading_of text) (reading_judges text) e f
