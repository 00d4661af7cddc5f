-- A loop over texts has read so far what the definition reads.
use Rattle.std.proofs.Common.{◌≡◌, ℕ, ◌+◌, ◌<◌, ◌≤◌, ◌==◌, false, List, [], ◌∷◌, ◌++◌, length, drop, get_or, Option, Some, None, option_map, refl, sym, ap, ◌∙◌, append_assoc, append-nil}
use Rattle.std.specs.Prelude.{option_and_then}
use Rattle.std.proofs.lemmas.List.{at_drop_more, at_drop_all}
use Rattle.serde_json.specs.Find.{as_str}
use Rattle.serde_json.specs.View.{view, items_view}
use Rattle.serde_json.specs.declared.value.Value.{Value}
use Rattle.policy_file.specs.Keys.{some_texts, texts_from}

abbrev pub AreReadSoFar : List (List ℕ) → ℕ → List Value → Type 0
AreReadSoFar texts i vs = option_map (λ ts. texts ++ ts) (texts_from (items_view (drop i vs))) ≡ texts_from (items_view vs)

option_map_id : (o : Option (List (List ℕ))) → option_map (λ ts. [] ++ ts) o ≡ o
option_map_id None = refl
option_map_id (Some ts) = refl

moved : (texts : List (List ℕ)) (t : List ℕ) (o : Option (List (List ℕ))) → option_map (λ ts. texts ++ ts) (option_map (λ ts. t ∷ ts) o) ≡ option_map (λ ts. (texts ++ t ∷ []) ++ ts) o
moved texts t None = refl
moved texts t (Some ts) = ap Some (sym (append_assoc texts (t ∷ []) ts))

pub no_text : (texts : List (List ℕ)) (vs : List Value) → texts ≡ [] → AreReadSoFar texts 0 vs
no_text texts vs e = rw e (option_map_id (texts_from (items_view vs)))

rest_is : (vs : List Value) (i : ℕ) (v : Value) (o : Option (List ℕ)) → i < length vs → v ≡ get_or vs i v → as_str (view v) ≡ o
    → texts_from (items_view (drop i vs)) ≡ option_and_then (λ t. option_map (λ ts. t ∷ ts) (texts_from (items_view (drop (i + 1) vs)))) o
rest_is vs i v o lt e seen = at_drop_more (λ ws. texts_from (items_view ws)) vs i v lt ∙ rw (← e, seen) refl

pub text_more : (texts more : List (List ℕ)) (vs : List Value) (i : ℕ) (v : Value) (t : List ℕ) → AreReadSoFar texts i vs → i < length vs → v ≡ get_or vs i v → as_str (view v) ≡ Some t → more ≡ texts ++ t ∷ [] → AreReadSoFar more (i + 1) vs
text_more texts more vs i v t h lt e seen pushed =
    rw pushed (sym (moved texts t (texts_from (items_view (drop (i + 1) vs)))) ∙ ap (option_map (λ ts. texts ++ ts)) (sym (rest_is vs i v (Some t) lt e seen)) ∙ h)

pub text_missing : (texts : List (List ℕ)) (vs : List Value) (i : ℕ) (v : Value) → AreReadSoFar texts i vs → i < length vs → v ≡ get_or vs i v → as_str (view v) ≡ None → None ≡ texts_from (items_view vs)
text_missing texts vs i v h lt e seen = sym (ap (option_map (λ ts. texts ++ ts)) (rest_is vs i v None lt e seen)) ∙ h

pub all_texts : (texts : List (List ℕ)) (vs : List Value) (i : ℕ) → AreReadSoFar texts i vs → length vs ≤ i → Some texts ≡ texts_from (items_view vs)
all_texts texts vs i h le =
    ap Some (sym (append-nil texts)) ∙ sym (ap (option_map (λ ts. texts ++ ts)) (at_drop_all (λ ws. texts_from (items_view ws)) vs i le)) ∙ h

pub some_texts-some : (vs : List Value) → false ≡ (length vs == 0) → some_texts (items_view vs) ≡ texts_from (items_view vs)
some_texts-some [] h = cc h
some_texts-some (v ∷ vs) h = refl
