-- Questions that are cut into their parts.
use Rattle.std.proofs.Common.{◌≡◌, ◌≤◌, ◌+◌, ◌-◌, ℕ, List, [], ◌∷◌, ◌++◌, length, take, drop, codes, decimal, refl, sym, ap, ◌∙◌, subst, append_assoc, append-nil, length-append, take-append-drop, length-take-le, length-drop, arith}
use Rattle.std.proofs.lemmas.List.{take_all}
use Rattle.std.proofs.lemmas.List.Concat.{flat_map-append}
use Rattle.lab_registry.specs.Question.{line, part, key_parts, question, HasKeys, IsQuestion}

pub behind_word : (bytes word : List ℕ) → length word ≤ length bytes → take (length word) bytes ≡ word → bytes ≡ word ++ take (length bytes - length word) (drop (length word) bytes)
behind_word bytes word few same =
    let long : length (drop (length word) bytes) ≡ length bytes - length word = length-drop (length word) bytes in
    let all : take (length bytes - length word) (drop (length word) bytes) ≡ drop (length word) bytes = take_all (length bytes - length word) (drop (length word) bytes) (omega (arith, long)) in
    sym (take-append-drop (length word) bytes) ∙ ap (λ t. t ++ drop (length word) bytes) same ∙ ap (λ t. word ++ t) (sym all)

pub is_line : (bytes word : List ℕ) (n : ℕ) (a b c : List ℕ) → bytes ≡ word ++ a → a ≡ decimal n ++ b → b ≡ (10 ∷ []) ++ c → bytes ≡ line word n ++ c
is_line bytes word n a b c p q r =
    p ∙ ap (λ t. word ++ t) (q ∙ ap (λ t. decimal n ++ t) r ∙ sym (append_assoc (decimal n) (10 ∷ []) c)) ∙ sym (append_assoc word (decimal n ++ (10 ∷ [])) c)

pub is_part : (bytes word : List ℕ) (n : ℕ) (a c : List ℕ) → bytes ≡ line word n ++ a → n ≤ length a → drop n a ≡ (10 ∷ []) ++ c → bytes ≡ part word (take n a) ++ c
is_part bytes word n a c p few q =
    let long : length (take n a) ≡ n = length-take-le n a few in
    let rest : a ≡ (take n a ++ (10 ∷ [])) ++ c = sym (take-append-drop n a) ∙ ap (λ t. take n a ++ t) q ∙ sym (append_assoc (take n a) (10 ∷ []) c) in
    let whole : bytes ≡ line word n ++ ((take n a ++ (10 ∷ [])) ++ c) = p ∙ ap (λ t. line word n ++ t) rest in
    let apart : bytes ≡ (line word n ++ (take n a ++ (10 ∷ []))) ++ c = whole ∙ sym (append_assoc (line word n) (take n a ++ (10 ∷ [])) c) in
    subst (λ k. bytes ≡ (line word k ++ (take n a ++ (10 ∷ []))) ++ c) (sym long) apart

pub no_keys : (bytes : List ℕ) → HasKeys bytes 0 bytes
no_keys bytes = record { keys = []; many = refl; split = refl }

pub one_key_more : (bytes : List ℕ) (count : ℕ) (left key rest : List ℕ) → HasKeys bytes count left → left ≡ part (codes "key ") key ++ rest → HasKeys bytes (count + 1) rest
one_key_more bytes count left key rest h is = record {
  keys = h.keys ++ key ∷ [];
  many = length-append h.keys (key ∷ []) ∙ ap (λ n. n + 1) h.many;
  split = h.split ∙ ap (λ t. key_parts h.keys ++ t) is ∙ sym (append_assoc (key_parts h.keys) (part (codes "key ") key) rest)
      ∙ ap (λ t. t ++ rest) (sym (flat_map-append (part (codes "key ")) h.keys (key ∷ []) ∙ ap (λ t. key_parts h.keys ++ t) (append-nil (part (codes "key ") key))));
}

pub is_question : (bytes a b c d signature : List ℕ) (n : ℕ) → bytes ≡ line (codes "skopeo-verify ") 1 ++ a → a ≡ line (codes "keys ") n ++ b → HasKeys b n c
    → c ≡ part (codes "signature ") signature ++ d → d ≡ codes "end" ++ (10 ∷ []) → IsQuestion bytes signature
unfolding question
is_question bytes a b c d signature n p q h r e =
    let tail : c ≡ part (codes "signature ") signature ++ (codes "end" ++ (10 ∷ [])) = r ∙ ap (λ t. part (codes "signature ") signature ++ t) e in
    let keyed : a ≡ line (codes "keys ") (length h.keys) ++ (key_parts h.keys ++ (part (codes "signature ") signature ++ (codes "end" ++ (10 ∷ [])))) =
    q ∙ ap (λ k. line (codes "keys ") k ++ b) (sym h.many) ∙ ap (λ t. line (codes "keys ") (length h.keys) ++ t) (h.split ∙ ap (λ t. key_parts h.keys ++ t) tail) in
    record { keys = h.keys; is = p ∙ ap (λ t. line (codes "skopeo-verify ") 1 ++ t) keyed }
