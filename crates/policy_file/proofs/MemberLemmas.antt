-- The first name that is none of some names.
use Rattle.std.proofs.Common.{◌≡◌, ℕ, Bool, true, false, List, [], ◌∷◌, map, Bor, String, Global, string_bytes, Some, None, refl, sym, ap, ◌∙◌}
use Rattle.std.specs.List.{list_any}
use Rattle.std.specs.Str.{bytes_eq}
use Rattle.serde_json.specs.View.{members_view}
use Rattle.serde_json.specs.declared.value.Value.{Value}
use Rattle.policy_file.specs.Members.{unknown_name}

abbrev pub Entry : Type 0
Entry = String Global × Value

abbrev pub texts : List (Bor (List ℕ)) → List (List ℕ)
texts names = map (λ n. n.now) names

-- the members that are left have the unknown name of the whole
abbrev pub SameUnknown : List (Bor (List ℕ)) → List Entry → List Entry → Type 0
SameUnknown names rest whole = unknown_name (texts names) (members_view rest) ≡ unknown_name (texts names) (members_view whole)

among-texts : (names : List (Bor (List ℕ))) (k : List ℕ) → list_any (λ (n : Bor (List ℕ)). bytes_eq k n.now) names ≡ list_any (bytes_eq k) (texts names)
among-texts [] k = refl
among-texts (n ∷ names) k = rw (among-texts names k) refl

is_known : (names : List (Bor (List ℕ))) (k name : List ℕ) (b test : Bool) → name ≡ k → test ≡ list_any (λ (n : Bor (List ℕ)). bytes_eq name n.now) names → test ≡ b → list_any (bytes_eq k) (texts names) ≡ b
is_known names k name b test same tested is = sym (among-texts names k) ∙ ap (λ m. list_any (λ (n : Bor (List ℕ)). bytes_eq m n.now) names) (sym same) ∙ sym tested ∙ is

pub known_goes_on : (names : List (Bor (List ℕ))) (rest after whole : List Entry) (k : String Global) (v : Value) (name : List ℕ) (b : Bool)
    → SameUnknown names rest whole → rest ≡ (k, v) ∷ after → name ≡ string_bytes k → b ≡ list_any (λ (n : Bor (List ℕ)). bytes_eq name n.now) names → b ≡ true
    → SameUnknown names after whole
known_goes_on names rest after whole k v name b h step same tested is =
    sym (ap (λ ms. unknown_name (texts names) (members_view ms)) step ∙ rw (is_known names (string_bytes k) name true b same tested is) refl) ∙ h

pub unknown_is_found : (names : List (Bor (List ℕ))) (rest after whole : List Entry) (k : String Global) (v : Value) (name : List ℕ) (b : Bool)
    → SameUnknown names rest whole → rest ≡ (k, v) ∷ after → name ≡ string_bytes k → b ≡ list_any (λ (n : Bor (List ℕ)). bytes_eq name n.now) names → b ≡ false
    → Some name ≡ unknown_name (texts names) (members_view whole)
unknown_is_found names rest after whole k v name b h step same tested is =
    ap Some same ∙ sym (ap (λ ms. unknown_name (texts names) (members_view ms)) step ∙ rw (is_known names (string_bytes k) name false b same tested is) refl) ∙ h

pub none_is_unknown : (names : List (Bor (List ℕ))) (rest whole : List Entry) → SameUnknown names rest whole → rest ≡ [] → None ≡ unknown_name (texts names) (members_view whole)
none_is_unknown names rest whole h e = sym (ap (λ ms. unknown_name (texts names) (members_view ms)) e) ∙ h
