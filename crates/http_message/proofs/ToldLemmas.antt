-- Which header lines are told.
use Rattle.std.proofs.Common.{◌≡◌, ℕ, Bool, true, false, List, [], ◌∷◌, ◌++◌, map, refl, ap, sym, subst, ◌∙◌, if◌then◌else◌, ◌&&◌}
use Rattle.httparse.specs.Grammar.{ResponseHead, status_code}
use Rattle.http_message.specs.Heads.{headers_of}
use Rattle.std.specs.Str.{IsUtf8, is_utf8}
use Rattle.std.proofs.lemmas.Str.{IsUtf8-from_is_utf8, is_utf8-from_IsUtf8}
use Rattle.http_message.specs.Outcome.{Header, Answer}
use Rattle.http_message.specs.Spelling.{told_header, told_headers, answer_with}
use Rattle.http_message.specs.Shown.{pair_bytes}
use Rattle.skopeo_outside.specs.declared.pair.Pair.{Pair}
use Rattle.std.proofs.lemmas.List.{map-append, append-nil}

no_utf8 : (b : Bool) (bs : List ℕ) → b ≡ is_utf8 bs → ¬ (IsUtf8 bs) → b ≡ false
no_utf8 true bs e other = absurd (other (IsUtf8-from_is_utf8 bs (sym e)))
no_utf8 false bs e other = refl

by_test : (a b : Bool) (h : Header) → a ≡ false → (if a && b then h ∷ [] else []) ≡ []
by_test true b h e = cc
by_test false b h e = refl

by_second : (a b : Bool) (h : Header) → b ≡ false → (if a && b then h ∷ [] else []) ≡ []
by_second true true h e = cc
by_second true false h e = refl
by_second false b h e = refl

by_both : (a b : Bool) (h : Header) → a ≡ true → b ≡ true → (if a && b then h ∷ [] else []) ≡ h ∷ []
by_both true true h e f = refl
by_both true false h e f = cc
by_both false b h e f = cc

-- a name, or a value, that is no UTF-8: nothing is added
pub untold_name : (told : List Header) (h : Header) (name : List ℕ) → name ≡ h.0 → ¬ (IsUtf8 name) → told ≡ told ++ told_header h
untold_name told h name e other =
    sym (ap (λ (w : List Header). told ++ w) (by_test (is_utf8 h.0) (is_utf8 h.1) h
    (no_utf8 (is_utf8 h.0) h.0 refl (λ u. other (subst IsUtf8 (sym e) u)))) ∙ append-nil told)

pub untold_value : (told : List Header) (h : Header) (value : List ℕ) → value ≡ h.1 → ¬ (IsUtf8 value) → told ≡ told ++ told_header h
untold_value told h value e other =
    sym (ap (λ (w : List Header). told ++ w) (by_second (is_utf8 h.0) (is_utf8 h.1) h
    (no_utf8 (is_utf8 h.1) h.1 refl (λ u. other (subst IsUtf8 (sym e) u)))) ∙ append-nil told)

-- both are: the pair is added
pub told_pair : (old new : List Pair) (p : Pair) (h : Header) (name value : List ℕ) → new ≡ old ++ p ∷ []
    → name ≡ h.0 → value ≡ h.1 → p.name ≡ name → p.value ≡ value → IsUtf8 name → IsUtf8 value
    → map pair_bytes new ≡ map pair_bytes old ++ told_header h
told_pair old new p h name value e n v pn pv a b =
    ap (λ (w : List Pair). map pair_bytes w) e ∙ map-append pair_bytes old (p ∷ [])
    ∙ ap (λ (w : List Header). map pair_bytes old ++ w) (same ∙ sym (by_both (is_utf8 h.0) (is_utf8 h.1) h
    (is_utf8-from_IsUtf8 h.0 (subst IsUtf8 n a)) (is_utf8-from_IsUtf8 h.1 (subst IsUtf8 v b))))
  where
    same : (p.name, p.value) ∷ [] ≡ h ∷ []
    same = ap (λ (w : List ℕ). (w, p.value) ∷ []) (pn ∙ n) ∙ ap (λ (w : List ℕ). (h.0, w) ∷ []) (pv ∙ v)

-- a response by its parts
pub answer_is : (status : ℕ) (pairs : List Pair) (fields : List Header) (body : List ℕ) (h : ResponseHead)
    → status ≡ status_code h → map pair_bytes pairs ≡ told_headers fields → fields ≡ headers_of h
    → record { status = status; headers = map pair_bytes pairs; body = body } ≡ answer_with h body
answer_is status pairs fields body h s e f =
    ap (λ (k : ℕ). the k (map pair_bytes pairs)) s ∙ ap (λ (w : List Header). the (status_code h) w) (e ∙ ap told_headers f)
  where
    the : ℕ → List Header → Answer
    the k w = record { status = k; headers = w; body = body }
