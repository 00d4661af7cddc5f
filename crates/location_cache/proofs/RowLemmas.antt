-- One row more, older than those so far.
use Rattle.std.proofs.Common.{inl, inr, zero-le, true≢false, ℕ, zero, ◌≡◌, suc, ◌-◌, ◌<◌, ◌≤◌, ◌||◌, ◌&&◌, cond, not, Bool, true, false, List, [], ◌∷◌, ◌++◌, length, drop, reverse, refl, sym, ap, ◌∙◌, arith}
use Rattle.std.specs.Str.{bytes_eq}
use Rattle.std.specs.Ordering.{is_eq, ordering_then, nat_cmp}
use Rattle.std.specs.Cmp.{tied_then}
use Rattle.std.specs.Cmp.Lexicographic.{slice_cmp}
use Rattle.std.specs.BTreeSet.{BTreeSet, contains, Updates}
use Rattle.std.proofs.lemmas.Bool.{not-false, not-true, cases_Bool}
use Rattle.std.proofs.lemmas.List.{length-drop, length-reverse, reverse-append}
use Rattle.std.proofs.lemmas.Map.Text.{is_eq-slice_cmp}
use Rattle.location_cache.specs.declared.cache.CacheRow.{CacheRow}
use Rattle.location_cache.specs.Rows.{most_rows, same_row, has_row, lasts, kept_rows, row_cmp, AreKept, HasKept}

is_eq-row_cmp : (x y : CacheRow) → is_eq (row_cmp x y) ≡ same_row x y
is_eq-row_cmp x y =
    sym (tied_then (slice_cmp nat_cmp x.host y.host) (ordering_then (slice_cmp nat_cmp x.digest y.digest) (slice_cmp nat_cmp x.repository y.repository)))
    ∙ ap (λ b. is_eq (slice_cmp nat_cmp x.host y.host) && b) (sym (tied_then (slice_cmp nat_cmp x.digest y.digest) (slice_cmp nat_cmp x.repository y.repository)))
    ∙ ap (λ b. b && (is_eq (slice_cmp nat_cmp x.digest y.digest) && is_eq (slice_cmp nat_cmp x.repository y.repository))) (is_eq-slice_cmp x.host y.host)
    ∙ ap (λ b. bytes_eq x.host y.host && (b && is_eq (slice_cmp nat_cmp x.repository y.repository))) (is_eq-slice_cmp x.digest y.digest)
    ∙ ap (λ b. bytes_eq x.host y.host && (bytes_eq x.digest y.digest && b)) (is_eq-slice_cmp x.repository y.repository)

or_cond : (a b : Bool) → cond a true b ≡ (a || b)
or_cond true b = refl
or_cond false b = refl

set_more : (old new : BTreeSet CacheRow) (rows : List CacheRow) (row : CacheRow) → Updates row_cmp old new row true → ((r : CacheRow) → contains row_cmp old r ≡ has_row rows r)
    → (r : CacheRow) → contains row_cmp new r ≡ has_row (row ∷ rows) r
set_more old new rows row updates h r =
    updates.0 r ∙ ap (λ b. cond b true (contains row_cmp old r)) (is_eq-row_cmp row r) ∙ or_cond (same_row row r) (contains row_cmp old r) ∙ ap (λ b. same_row row r || b) (h r)

pub kept_none : (seen : BTreeSet CacheRow) (kept : List CacheRow) → seen.keys ≡ [] → kept ≡ [] → HasKept seen kept []
kept_none seen kept h e = record { rows_are = λ r. rw h refl; kept_are = e }

module _ (old new : BTreeSet CacheRow) (kept rows : List CacheRow) (row : CacheRow) (h : HasKept old kept rows) (updates : Updates row_cmp old new row true) where
  -- a row that was seen leaves the list
  pub kept_again : false ≡ not (contains row_cmp old row) → HasKept new kept (row ∷ rows)
  kept_again e =
      let there : has_row rows row ≡ true = sym (h.rows_are row) ∙ not-false (contains row_cmp old row) (sym e) in
      let same : lasts (row ∷ rows) ≡ lasts rows = ap (λ b. cond b (lasts rows) (row ∷ lasts rows)) there in
      record { rows_are = set_more old new rows row updates h.rows_are; kept_are = h.kept_are ∙ ap (λ l. reverse (drop (length l - most_rows) l)) (sym same) }

  module _ (e : true ≡ not (contains row_cmp old row)) where
    longer : lasts (row ∷ rows) ≡ row ∷ lasts rows
    longer = ap (λ b. cond b (lasts rows) (row ∷ lasts rows)) (sym (h.rows_are row) ∙ not-true (contains row_cmp old row) (sym e))

    count : length kept ≡ length (lasts rows) - (length (lasts rows) - most_rows)
    count = ap length h.kept_are ∙ length-reverse (kept_rows rows) ∙ length-drop (length (lasts rows) - most_rows) (lasts rows)

    -- a new row comes to the list where there is room
    pub kept_new : length kept < most_rows → (more : List CacheRow) → more ≡ kept ++ row ∷ [] → HasKept new more (row ∷ rows)
    kept_new room more pushed =
        let n = count in
        let none : length (lasts rows) - most_rows ≡ 0 = omega arith in
        let none_more : length (row ∷ lasts rows) - most_rows ≡ 0 = omega arith in
        record {
          rows_are = set_more old new rows row updates h.rows_are;
          kept_are = pushed ∙ ap (λ l. l ++ row ∷ []) (h.kept_are ∙ ap (λ m. reverse (drop m (lasts rows))) none)
              ∙ sym (ap (λ l. reverse (drop (length l - most_rows) l)) longer ∙ ap (λ m. reverse (drop m (row ∷ lasts rows))) none_more ∙ reverse-append (row ∷ []) (lasts rows));
        }

    -- and is left out where there is none
    pub kept_full : most_rows ≤ length kept → HasKept new kept (row ∷ rows)
    kept_full full =
        let n = count in
        let one_more : length (row ∷ lasts rows) - most_rows ≡ suc (length (lasts rows) - most_rows) = omega arith in
        record {
          rows_are = set_more old new rows row updates h.rows_are;
          kept_are = h.kept_are ∙ sym (ap (λ l. reverse (drop (length l - most_rows) l)) longer ∙ ap (λ m. reverse (drop m (row ∷ lasts rows))) one_more);
        }

-- a row of fewer rows is a row of all
has_row-lasts : (rows : List CacheRow) (row : CacheRow) → has_row rows row ≡ false → has_row (lasts rows) row ≡ false
has_row-lasts [] row e = e
has_row-lasts (x ∷ rows) row e = elim (cases_Bool (has_row rows x)) [
  | inl again ↦ ap (λ b. has_row (cond b (lasts rows) (x ∷ lasts rows)) row) again ∙ has_row-lasts rows row (or_rest (same_row x row) (has_row rows row) e)
  | inr new ↦ ap (λ b. has_row (cond b (lasts rows) (x ∷ lasts rows)) row) new
      ∙ ap (λ b. b || has_row (lasts rows) row) (or_first (same_row x row) (has_row rows row) e) ∙ has_row-lasts rows row (or_rest (same_row x row) (has_row rows row) e)
]
  where
    or_first : (a b : Bool) → (a || b) ≡ false → a ≡ false
    or_first true b e = e
    or_first false b e = refl

    or_rest : (a b : Bool) → (a || b) ≡ false → b ≡ false
    or_rest true b e = absurd (true≢false e)
    or_rest false b e = e

-- each row once, again
lasts-lasts : (rows : List CacheRow) → lasts (lasts rows) ≡ lasts rows
lasts-lasts [] = refl
lasts-lasts (x ∷ rows) = elim (cases_Bool (has_row rows x)) [
  | inl again ↦ ap (λ b. lasts (cond b (lasts rows) (x ∷ lasts rows))) again ∙ lasts-lasts rows ∙ sym (ap (λ b. cond b (lasts rows) (x ∷ lasts rows)) again)
  | inr new ↦ ap (λ b. lasts (cond b (lasts rows) (x ∷ lasts rows))) new ∙ ap (λ b. cond b (lasts (lasts rows)) (x ∷ lasts (lasts rows))) (has_row-lasts rows x new)
      ∙ ap (λ l. x ∷ l) (lasts-lasts rows) ∙ sym (ap (λ b. cond b (lasts rows) (x ∷ lasts rows)) new)
]

length-lasts : (rows : List CacheRow) → length (lasts rows) ≤ length rows
length-lasts [] = zero-le
length-lasts (x ∷ rows) = elim (cases_Bool (has_row rows x)) [
  | inl again ↦ (let e = ap (λ b. length (cond b (lasts rows) (x ∷ lasts rows))) again in let l = length-lasts rows in omega arith)
  | inr new ↦ (let e = ap (λ b. length (cond b (lasts rows) (x ∷ lasts rows))) new in let l = length-lasts rows in omega arith)
]

-- where each row stands once, the first is none of the others, and they stand once
pub once_rest : (x : CacheRow) (rows : List CacheRow) → lasts (x ∷ rows) ≡ x ∷ rows → (has_row rows x ≡ false) × (lasts rows ≡ rows)
once_rest x rows e = elim (cases_Bool (has_row rows x)) [
  | inl again ↦ absurd (let n = ap length (sym (ap (λ b. cond b (lasts rows) (x ∷ lasts rows)) again) ∙ e) in let l = length-lasts rows in omega arith)
  | inr new ↦ (new, ap (drop 1) (sym (ap (λ b. cond b (lasts rows) (x ∷ lasts rows)) new) ∙ e))
]

once-drop : (n : ℕ) (rows : List CacheRow) → lasts rows ≡ rows → lasts (drop n rows) ≡ drop n rows
once-drop zero rows e = e
once-drop (suc n) [] e = e
once-drop (suc n) (x ∷ rows) e = once-drop n rows (once_rest x rows e).1

-- what is kept may be held
pub are_kept : (rows : List CacheRow) → AreKept (kept_rows rows)
are_kept rows = record {
  once = once-drop (length (lasts rows) - most_rows) (lasts rows) (lasts-lasts rows);
  few = let d = length-drop (length (lasts rows) - most_rows) (lasts rows) in omega arith;
}
