-- One row more that is looked at, older than those so far.
use Rattle.std.proofs.Common.{◌≡◌, ℕ, suc, ◌<◌, ◌≤◌, cond, Bool, true, false, List, [], ◌∷◌, ◌++◌, length, get_or, take, drop, map, reverse, sym, ap, ◌∙◌, arith}
use Rattle.std.specs.List.{filter}
use Rattle.std.proofs.Math.Seq.{drop-cons}
use Rattle.std.proofs.lemmas.List.{map-append, reverse-append, take-append-le, take_all, take-append-drop}
use Rattle.std.proofs.lemmas.List.Elements.{filter-append}
use Rattle.location_cache.specs.declared.cache.CacheRow.{CacheRow}
use Rattle.location_cache.specs.Offers.{is_offered, repositories, candidates}

module _ (host digest except : List ℕ) (rows : List CacheRow) where
  one_row : (row : CacheRow) (rest : List CacheRow) (b : Bool) → is_offered host digest except row ≡ b → filter (is_offered host digest except) (row ∷ rest) ≡ cond b (row ∷ filter (is_offered host digest except) rest) (filter (is_offered host digest except) rest)
  one_row row rest b e = ap (λ c. cond c (row ∷ filter (is_offered host digest except) rest) (filter (is_offered host digest except) rest)) e

  pub offer_more : (left : ℕ) (row : CacheRow) (found after : List (List ℕ)) → left < length rows → get_or rows left row ≡ row → is_offered host digest except row ≡ true
      → found ≡ reverse (repositories host digest except (drop (suc left) rows)) → after ≡ found ++ row.repository ∷ [] → after ≡ reverse (repositories host digest except (drop left rows))
  offer_more left row found after h at offered so is =
      let rest = drop (suc left) rows in
      let here : drop left rows ≡ row ∷ rest = drop-cons rows left row h ∙ ap (λ (x : CacheRow). x ∷ rest) at in
      let more = ap (map (λ (r : CacheRow). r.repository)) (one_row row rest true offered) in
      is ∙ ap (λ l. l ++ row.repository ∷ []) so
      ∙ sym (ap (λ l. reverse (repositories host digest except l)) here ∙ ap reverse more ∙ reverse-append (row.repository ∷ []) (repositories host digest except rest))

  pub offer_none : (left : ℕ) (row : CacheRow) (found : List (List ℕ)) → left < length rows → get_or rows left row ≡ row → is_offered host digest except row ≡ false
      → found ≡ reverse (repositories host digest except (drop (suc left) rows)) → found ≡ reverse (repositories host digest except (drop left rows))
  offer_none left row found h at other so =
      let rest = drop (suc left) rows in
      let here : drop left rows ≡ row ∷ rest = drop-cons rows left row h ∙ ap (λ (x : CacheRow). x ∷ rest) at in
      let same = ap (map (λ (r : CacheRow). r.repository)) (one_row row rest false other) in
      so ∙ sym (ap (λ l. reverse (repositories host digest except l)) here ∙ ap reverse same)

  -- where four were found, older rows add none
  pub offer_full : (left : ℕ) (found : List (List ℕ)) → found ≡ reverse (repositories host digest except (drop left rows)) → length found ≡ 4 → found ≡ candidates host digest except rows
  offer_full left found so full =
      let older = repositories host digest except (take left rows) in
      let newer = repositories host digest except (drop left rows) in
      let parts : repositories host digest except rows ≡ older ++ newer =
      ap (repositories host digest except) (sym (take-append-drop left rows))
      ∙ ap (map (λ (r : CacheRow). r.repository)) (filter-append (is_offered host digest except) (take left rows) (drop left rows))
      ∙ map-append (λ (r : CacheRow). r.repository) (filter (is_offered host digest except) (take left rows)) (filter (is_offered host digest except) (drop left rows)) in
      sym (ap (λ l. take 4 (reverse l)) parts ∙ ap (take 4) (reverse-append older newer) ∙ ap (λ l. take 4 (l ++ reverse older)) (sym so)
      ∙ take-append-le 4 found (reverse older) (omega arith) ∙ take_all 4 found (omega arith))

  -- where all were looked at, these are they
  pub offer_all : (found : List (List ℕ)) → found ≡ reverse (repositories host digest except rows) → length found ≤ 4 → found ≡ candidates host digest except rows
  offer_all found so few = sym (ap (take 4) (sym so) ∙ take_all 4 found few)
