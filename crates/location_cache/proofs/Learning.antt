-- A row that is learnt.
use Rattle.std.proofs.Common.{◌≡◌, ℕ, zero, suc, ◌+◌, ◌-◌, ◌<◌, ◌≤◌, ◌||◌, ◌&&◌, cond, Bool, true, false, List, [], ◌∷◌, ◌++◌, length, get_or, take, drop, refl, sym, ap, ◌∙◌, subst, add-one, length-append, true≢false, arith}
use Rattle.std.specs.Str.{bytes_eq}
use Rattle.std.proofs.lemmas.Bool.{false_from_ne_true}
use Rattle.std.proofs.lemmas.Slice.Eq.{bytes_eq-Decides}
use Rattle.std.proofs.lemmas.List.{length-drop, length-take}
use Rattle.std.proofs.lemmas.List.Folds.{list_any-append}
use Rattle.location_cache.specs.declared.cache.CacheRow.{CacheRow}
use Rattle.location_cache.specs.Rows.{most_rows, same_row, has_row, lasts, kept_rows, AreKept}
use Rattle.location_cache.proofs.RowLemmas.{once_rest}

both_left : (a b : Bool) → (a && b) ≡ true → a ≡ true
both_left true b e = refl
both_left false b e = absurd (true≢false (sym e))

both_right : (a b : Bool) → (a && b) ≡ true → b ≡ true
both_right true b e = e
both_right false b e = absurd (true≢false (sym e))

equal : (xs ys : List ℕ) → bytes_eq xs ys ≡ true → xs ≡ ys
equal xs ys e = grind (arith, bytes_eq-Decides xs ys)

equal_self : (xs : List ℕ) → bytes_eq xs xs ≡ true
equal_self xs = grind (arith, bytes_eq-Decides xs xs)

-- rows of one host, digest and repository are one row
same_is : (x y : CacheRow) → same_row x y ≡ true → x ≡ y
same_is x y e =
    let h = equal x.host y.host (both_left (bytes_eq x.host y.host) (bytes_eq x.digest y.digest && bytes_eq x.repository y.repository) e) in
    let r = both_right (bytes_eq x.host y.host) (bytes_eq x.digest y.digest && bytes_eq x.repository y.repository) e in
    let d = equal x.digest y.digest (both_left (bytes_eq x.digest y.digest) (bytes_eq x.repository y.repository) r) in
    let p = equal x.repository y.repository (both_right (bytes_eq x.digest y.digest) (bytes_eq x.repository y.repository) r) in
    let one : record { host = x.host; digest = x.digest; repository = x.repository } ≡ y =
    ap (λ a. record { host = a; digest = x.digest; repository = x.repository }) h
    ∙ ap (λ a. record { host = y.host; digest = a; repository = x.repository }) d
    ∙ ap (λ a. record { host = y.host; digest = y.digest; repository = a }) p in
    one

same_self : (x : CacheRow) → same_row x x ≡ true
same_self x =
    ap (λ b. b && (bytes_eq x.digest x.digest && bytes_eq x.repository x.repository)) (equal_self x.host)
    ∙ ap (λ b. b && bytes_eq x.repository x.repository) (equal_self x.digest) ∙ equal_self x.repository

or_right : (a b : Bool) → b ≡ true → (a || b) ≡ true
or_right true b e = refl
or_right false b e = e

or_none : (a b : Bool) → (a || b) ≡ false → (a ≡ false) × (b ≡ false)
or_none true b e = absurd (true≢false e)
or_none false b e = (refl, e)

has_at : (rows : List CacheRow) (k : ℕ) (row : CacheRow) → k < length rows → get_or rows k row ≡ row → has_row rows row ≡ true
has_at [] k row h e = absurd (omega arith)
has_at (x ∷ rows) zero row h e = ap (λ (y : CacheRow). same_row y row || has_row rows row) e ∙ ap (λ b. b || has_row rows row) (same_self row)
has_at (x ∷ rows) (suc k) row h e = or_right (same_row x row) (has_row rows row) (has_at rows k row (omega arith) e)

-- whether one of the rows, or the last one, is this
has_push : (rows : List CacheRow) (row x : CacheRow) → has_row (rows ++ row ∷ []) x ≡ (has_row rows x || (same_row row x || false))
has_push rows row x = list_any-append (λ y. same_row y x) rows (row ∷ [])

lasts_new : (x : CacheRow) (rows : List CacheRow) → has_row rows x ≡ false → lasts (x ∷ rows) ≡ x ∷ lasts rows
lasts_new x rows e = ap (λ b. cond b (lasts rows) (x ∷ lasts rows)) e

lasts_again : (x : CacheRow) (rows : List CacheRow) → has_row rows x ≡ true → lasts (x ∷ rows) ≡ lasts rows
lasts_again x rows e = ap (λ b. cond b (lasts rows) (x ∷ lasts rows)) e

not_pushed : (rows : List CacheRow) (row x : CacheRow) → has_row rows x ≡ false → same_row row x ≡ false → has_row (rows ++ row ∷ []) x ≡ false
not_pushed rows row x none other = has_push rows row x ∙ ap (λ b. b || (same_row row x || false)) none ∙ ap (λ b. b || false) other

differ : (row x : CacheRow) → same_row x row ≡ false → same_row row x ≡ false
differ row x none = false_from_ne_true (same_row row x) (λ s. true≢false (sym (subst (λ (y : CacheRow). same_row x y ≡ true) (sym (same_is row x s)) (same_self x)) ∙ none))

apart : (rows : List CacheRow) (row x : CacheRow) → has_row rows x ≡ false → has_row rows row ≡ true → same_row row x ≡ false
apart rows row x none there = false_from_ne_true (same_row row x) (λ s. true≢false (sym (subst (λ (y : CacheRow). has_row rows y ≡ true) (same_is row x s) there) ∙ none))

-- a row that is none of them
last_new : (rows : List CacheRow) (row : CacheRow) → lasts rows ≡ rows → has_row rows row ≡ false → lasts (rows ++ row ∷ []) ≡ rows ++ row ∷ []
last_new [] row e none = refl
last_new (x ∷ rows) row e none =
    let r = once_rest x rows e in
    let o = or_none (same_row x row) (has_row rows row) none in
    lasts_new x (rows ++ row ∷ []) (not_pushed rows row x r.0 (differ row x o.0)) ∙ ap (λ l. x ∷ l) (last_new rows row r.1 o.1)

-- a row that is one of them goes from its place to the end
last_again : (rows : List CacheRow) (k : ℕ) (row : CacheRow) → lasts rows ≡ rows → k < length rows → get_or rows k row ≡ row → lasts (rows ++ row ∷ []) ≡ (take k rows ++ drop (suc k) rows) ++ row ∷ []
last_again [] k row e h at = absurd (omega arith)
last_again (x ∷ rows) zero row e h at =
    let r = once_rest x rows e in
    let none : has_row rows row ≡ false = subst (λ (y : CacheRow). has_row rows y ≡ false) at r.0 in
    let same : same_row row x ≡ true = subst (λ (y : CacheRow). same_row y x ≡ true) at (same_self x) in
    let there : has_row (rows ++ row ∷ []) x ≡ true = has_push rows row x ∙ or_right (has_row rows x) (same_row row x || false) (ap (λ b. b || false) same) in
    lasts_again x (rows ++ row ∷ []) there ∙ last_new rows row r.1 none
last_again (x ∷ rows) (suc k) row e h at =
    let r = once_rest x rows e in
    let there = has_at rows k row (omega arith) at in
    lasts_new x (rows ++ row ∷ []) (not_pushed rows row x r.0 (apart rows row x r.0 there)) ∙ ap (λ l. x ∷ l) (last_again rows k row r.1 (omega arith) at)

kept_few : (rows items : List CacheRow) → lasts rows ≡ items → length items ≤ most_rows → items ≡ kept_rows rows
kept_few rows items e few =
    let none : length items - most_rows ≡ 0 = omega arith in
    sym (ap (λ l. drop (length l - most_rows) l) e ∙ ap (λ n. drop n items) none)

module _ (rows : List CacheRow) (row : CacheRow) (kept : AreKept rows) where
  -- a row that is there is the newest then
  pub learnt_again : (k : ℕ) (after : List CacheRow) → k < length rows → get_or rows k row ≡ row → after ≡ take k rows ++ drop (k + 1) rows → after ++ row ∷ [] ≡ kept_rows (rows ++ row ∷ [])
  learnt_again k after h at is =
      let few = kept.few in
      let one = add-one k in
      let items = is ∙ ap (λ n. take k rows ++ drop n rows) one in
      let all = length-append (take k rows) (drop (k + 1) rows) in
      let front = length-take k rows in
      let back = length-drop (k + 1) rows in
      let len = ap length is in
      let size = length-append after (row ∷ []) in
      kept_few (rows ++ row ∷ []) (after ++ row ∷ []) (last_again rows k row kept.once h at ∙ ap (λ l. l ++ row ∷ []) (sym items)) (omega arith)

  module _ (none : has_row rows row ≡ false) where
    -- a new one comes to the others where there is room
    pub learnt_new : length rows < most_rows → rows ++ row ∷ [] ≡ kept_rows (rows ++ row ∷ [])
    learnt_new room = kept_few (rows ++ row ∷ []) (rows ++ row ∷ []) (last_new rows row kept.once none) (let size = length-append rows (row ∷ []) in omega arith)

    -- and the oldest goes where there is none
    pub learnt_full : (after : List CacheRow) → most_rows ≤ length rows → after ≡ drop 1 rows → after ++ row ∷ [] ≡ kept_rows (rows ++ row ∷ [])
    learnt_full after full is =
        let few = kept.few in
        let size = length-append rows (row ∷ []) in
        let one : length (rows ++ row ∷ []) - most_rows ≡ 1 = omega arith in
        ap (λ l. l ++ row ∷ []) is ∙ drop_first rows (omega arith)
        ∙ sym (ap (λ l. drop (length l - most_rows) l) (last_new rows row kept.once none) ∙ ap (λ n. drop n (rows ++ row ∷ [])) one)
      where
        drop_first : (xs : List CacheRow) → 0 < length xs → drop 1 xs ++ row ∷ [] ≡ drop 1 (xs ++ row ∷ [])
        drop_first [] h = absurd (omega arith)
        drop_first (x ∷ xs) h = refl
