-- A folder without folders inside has entries other than the part of its version exactly where something else stands below it.
use Rattle.std.proofs.Common.{◌≡◌, ◌∙◌, ◌++◌, List, ℕ, Bool, true, false, not, codes, drop, length, get_or, Contains, refl, sym, ap, subst}
use Rattle.std.specs.List.{Any}
use Rattle.std.specs.Str.{bytes_eq}
use Rattle.std.specs.FinMap.{keys}
use Rattle.std.proofs.lemmas.List.Folds.{Any-from_list_any, list_any-from_Any}
use Rattle.std.proofs.lemmas.List.{get_or_default}
use Rattle.std.proofs.lemmas.Slice.Eq.{bytes_eq-Decides}
use Rattle.skopeo_outside.specs.declared.lists.Entry.{Entry}
use Rattle.skopeo_outside.specs.Tree.{Tree}
use Rattle.skopeo_outside.specs.Folders.{joined, first_name, Lists, StandsAt, HasName, IsChildBy}
use Rattle.skopeo_outside.proofs.Children.{same_rest}
use Rattle.layouts.specs.Paths.{no_slash, version_part}
use Rattle.layouts.specs.Destination.{HasFolderIn}
use Rattle.layouts.specs.Occupied.{is_below, is_other, is_occupied, has_others}
use Rattle.layouts.proofs.NameLemmas.{both, from_both}
use Rattle.layouts.proofs.OccupiedLemmas.{below_joined, joined_below, stands_among, among_stands, any_from, from_any}
use Rattle.layouts.proofs.ListingLemmas.{first_plain, has_entry, no_entry}
use Rattle.layouts.proofs.ReplaceLaw.{false_where, inside}

not_where : (b : Bool) → (b ≡ true → ⊥) → not b ≡ true
not_where true other = absurd (other refl)
not_where false other = refl

-- whether an entry has another name than the part of a version
abbrev is_other_entry : Entry → Bool
is_other_entry e = not (bytes_eq e.name (codes "version.part"))

-- a name that is another one
differs : (name : List ℕ) → not (bytes_eq name (codes "version.part")) ≡ true → name ≡ codes "version.part" → ⊥
differs name other same =
    let no : false ≡ true = sym (ap not ((bytes_eq-Decides name (codes "version.part")).1 same)) ∙ other in
    cc

module _ (t : Tree) (folder : List ℕ) (entries : List Entry) (lists : Lists t folder entries) where
  -- such an entry is a path other than the part's
  pub others_occupy : has_others entries ≡ true → is_occupied t folder ≡ true
  others_occupy e =
      let a : Any (λ x. is_other_entry x ≡ true) entries = Any-from_list_any is_other_entry entries e in
      let c : IsChildBy (StandsAt t) (λ p. Contains t.folders p) folder (get_or entries a.0 a.1) = lists.each a.0 a.1 a.2 in
      let other : is_other_entry (get_or entries a.0 a.1) ≡ true = ap is_other_entry a.3 ∙ a.4 in
      any_from (is_other folder) (keys t.files ++ t.folders) (joined folder c.rest) (stands_among t _ c.there)
      (from_both _ _ (joined_below folder c.rest) (not_where _ (λ same. differs _ other (c.name ∙ ap first_name (rest_is c.rest same) ∙ first_plain (codes "version.part") refl))))
    where
      rest_is : (rest : List ℕ) → bytes_eq (joined folder rest) (version_part folder) ≡ true → rest ≡ codes "version.part"
      rest_is rest same = same_rest folder rest (codes "version.part") ((bytes_eq-Decides (joined folder rest) (version_part folder)).0 same)

  -- what stands at a plain name other than the part's has such an entry
  listed : (rest : List ℕ) → no_slash rest ≡ true → StandsAt t (joined folder rest) → not (bytes_eq (joined folder rest) (version_part folder)) ≡ true → has_others entries ≡ true
  listed rest plain stands apart =
      let found : HasName entries rest = has_entry t folder rest entries lists plain stands in
      let is : (get_or entries found.place no_entry).name ≡ rest = found.is no_entry in
      let other : is_other_entry (get_or entries found.place no_entry) ≡ true = not_where _ (λ same. absurd (apart_of (sym is ∙ (bytes_eq-Decides _ (codes "version.part")).0 same))) in
      list_any-from_Any is_other_entry entries (found.place, get_or entries found.place no_entry, found.within, get_or_default entries found.place _ _ found.within, other)
    where
      apart_of : rest ≡ codes "version.part" → ⊥
      apart_of same =
          let no : false ≡ true = sym (ap not ((bytes_eq-Decides (joined folder rest) (version_part folder)).1 (ap (joined folder) same))) ∙ apart in
          cc

  -- where no folder is inside and no such entry, nothing else stands below
  pub alone : (HasFolderIn t folder → ⊥) → has_others entries ≡ false → is_occupied t folder ≡ false
  alone flat e = false_where _ (λ occupied.
      let f : (p : List ℕ) × Contains (keys t.files ++ t.folders) p × (is_other folder p ≡ true) = from_any (is_other folder) (keys t.files ++ t.folders) occupied in
      let d : (is_below folder f.0 ≡ true) × (not (bytes_eq f.0 (version_part folder)) ≡ true) = both _ _ f.2 in
      let is : f.0 ≡ joined folder (drop (length (folder ++ codes "/")) f.0) = below_joined folder f.0 d.0 in
      by (drop (length (folder ++ codes "/")) f.0) (no_slash (drop (length (folder ++ codes "/")) f.0)) refl
      (subst (StandsAt t) is (among_stands t f.0 f.1)) (subst (λ p. not (bytes_eq p (version_part folder)) ≡ true) is d.1))
    where
      by : (rest : List ℕ) (b : Bool) → no_slash rest ≡ b → StandsAt t (joined folder rest) → not (bytes_eq (joined folder rest) (version_part folder)) ≡ true → ⊥
      by rest true plain stands apart = let no : true ≡ false = sym (listed rest plain stands apart) ∙ e in cc
      by rest false slash stands apart = flat (inside t folder rest slash stands)
