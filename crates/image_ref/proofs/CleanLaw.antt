-- A cleaned path is clean, and cleaning it again changes nothing.
use Rattle.std.proofs.Common.{◌≡◌, ℕ, zero, suc, ◌-◌, ◌==◌, Bool, true, false, ◌&&◌, not, List, [], ◌∷◌, ◌++◌, length, take, refl, sym, ap, ◌∙◌, inl, inr, append_assoc, append-nil}
use Rattle.std.proofs.lemmas.Bool.{cases_Bool, and_parts}
use Rattle.std.specs.List.{list_all, fold, onto_first}
use Rattle.std.proofs.lemmas.List.Folds.{list_all-append}
use Rattle.image_ref.specs.Characters.{slash}
use Rattle.image_ref.specs.Cuts.{lacks}
use Rattle.image_ref.proofs.CutLemmas.{lacks-to, cut_at-none, cut_at-some}
use Rattle.image_ref.proofs.PartLemmas.{parts-cut}
use Rattle.image_ref.specs.Path.{keep, parts_of, parts_from, is_absolute, behind_slashes, path_text, cleaned, is_here, is_up, is_name, IsClean}

not_not : (b : Bool) → not b ≡ true → b ≡ false
not_not true h = cc h
not_not false h = refl

take_clean : (n : ℕ) (kept : List (List ℕ)) → list_all is_name kept ≡ true → list_all is_name (take n kept) ≡ true
take_clean zero kept h = refl
take_clean (suc n) [] h = refl
take_clean (suc n) (x ∷ more) h = let p = and_parts (is_name x) (list_all is_name more) h in rw (p.0, take_clean n more p.1) refl

keep_clean : (kept : List (List ℕ)) (part : List ℕ) → list_all is_name kept ≡ true → lacks slash part ≡ true → list_all is_name (keep kept part) ≡ true
keep_clean kept part h plain =
    elim (cases_Bool (is_here part)) [
      | inl gone ↦ rw gone h
      | inr stays ↦ elim (cases_Bool (is_up part)) [
        | inl up ↦ rw (stays, up) (take_clean (length kept - 1) kept h)
        | inr named ↦ rw (stays, named) (list_all-append is_name kept (part ∷ []) ∙ rw (h, stays, named, plain) refl)
      ]
    ]

abbrev lack_slash : List (List ℕ) → Bool
lack_slash parts = list_all (λ p. lacks slash p) parts

fold_clean : (kept parts : List (List ℕ)) → list_all is_name kept ≡ true → lack_slash parts ≡ true → list_all is_name (fold keep kept parts) ≡ true
fold_clean kept [] h plain = h
fold_clean kept (x ∷ more) h plain = let p = and_parts (lacks slash x) (lack_slash more) plain in fold_clean (keep kept x) more (keep_clean kept x h p.0) p.1

onto_lack : (b : ℕ) (parts : List (List ℕ)) → (b == slash) ≡ false → lack_slash parts ≡ true → lack_slash (onto_first b parts) ≡ true
onto_lack b [] other h = rw other refl
onto_lack b (x ∷ more) other h = let p = and_parts (lacks slash x) (lack_slash more) h in rw (other, p.0, p.1) refl

parts_lack : (text : List ℕ) → lack_slash (parts_of text) ≡ true
parts_lack [] = refl
parts_lack (b ∷ rest) =
    elim (cases_Bool (b == slash)) [
      | inl same ↦ rw same (parts_lack rest)
      | inr other ↦ rw other (onto_lack b (parts_of rest) other (parts_lack rest))
    ]

from_lack : (cwd path : List ℕ) → lack_slash (parts_from cwd path) ≡ true
from_lack cwd path =
    elim (cases_Bool (is_absolute path)) [
      | inl absolute ↦ rw absolute (parts_lack path)
      | inr relative ↦ rw relative (list_all-append (λ p. lacks slash p) (parts_of cwd) (parts_of path) ∙ rw (parts_lack cwd, parts_lack path) refl)
    ]

pub cleaned_parts : (cwd path : List ℕ) → list_all is_name (fold keep [] (parts_from cwd path)) ≡ true
cleaned_parts cwd path = fold_clean [] (parts_from cwd path) refl (from_lack cwd path)

-- clean parts are all kept
keep_part : (kept : List (List ℕ)) (part : List ℕ) → is_name part ≡ true → keep kept part ≡ kept ++ (part ∷ [])
keep_part kept part h =
    let p = and_parts (not (is_here part) && not (is_up part)) (lacks slash part) h in
    let q = and_parts (not (is_here part)) (not (is_up part)) p.0 in
    rw (not_not (is_here part) q.0, not_not (is_up part) q.1) refl

keep_all : (kept parts : List (List ℕ)) → list_all is_name parts ≡ true → fold keep kept parts ≡ kept ++ parts
keep_all kept [] h = sym (append-nil kept)
keep_all kept (x ∷ more) h =
    let p = and_parts (is_name x) (list_all is_name more) h in
    ap (λ k. fold keep k more) (keep_part kept x p.0) ∙ keep_all (kept ++ (x ∷ [])) more p.1 ∙ append_assoc kept (x ∷ []) more

-- the parts of a clean path are an empty one, and those that were written
parts_plain : (part rest : List ℕ) → lacks slash part ≡ true → parts_of (part ++ (slash ∷ rest)) ≡ part ∷ parts_of rest
parts_plain part rest h = parts-cut slash (part ++ (slash ∷ rest)) ∙ rw (cut_at-some slash part rest (lacks-to slash part h)) refl

part_alone : (part : List ℕ) → lacks slash part ≡ true → parts_of part ≡ part ∷ []
part_alone part h = parts-cut slash part ∙ rw (cut_at-none slash part (lacks-to slash part h)) refl

clean_lacks : (part : List ℕ) → is_name part ≡ true → lacks slash part ≡ true
clean_lacks part h = (and_parts (not (is_here part) && not (is_up part)) (lacks slash part) h).1

written_parts : (parts : List (List ℕ)) (first : List ℕ) → lacks slash first ≡ true → list_all is_name parts ≡ true → parts_of (first ++ behind_slashes parts) ≡ first ∷ parts
written_parts [] first f h = ap parts_of (append-nil first) ∙ part_alone first f
written_parts (x ∷ more) first f h =
    let p = and_parts (is_name x) (list_all is_name more) h in
    parts_plain first (x ++ behind_slashes more) f ∙ ap (λ t. first ∷ t) (written_parts more x (clean_lacks x p.0) p.1)

kept_again : (kept : List (List ℕ)) → list_all is_name kept ≡ true → (cwd : List ℕ) → cleaned cwd (path_text kept) ≡ path_text kept
unfolding cleaned
kept_again [] h cwd = refl
kept_again (x ∷ more) h cwd =
    ap (λ p. path_text (fold keep [] p)) (written_parts (x ∷ more) [] refl h) ∙ ap path_text (keep_all [] (x ∷ more) h)

-- a cleaned path is clean
pub cleaned_is_clean : (cwd path : List ℕ) → IsClean (cleaned cwd path)
unfolding cleaned
cleaned_is_clean cwd path = record { names = fold keep [] (parts_from cwd path); are_names = cleaned_parts cwd path; written = refl }

-- a clean path stays as it is, from every folder
pub clean_stays : (cwd path : List ℕ) → IsClean path → cleaned cwd path ≡ path
clean_stays cwd path h = ap (cleaned cwd) h.written ∙ kept_again h.names h.are_names cwd ∙ sym h.written
