-- What a verifier is asked and answers (docs/policy.md, "The program that judges signatures"). The verifier for trials looks at
-- no key: a signature that begins with `GOOD ` is good and signs what stands behind that word, and no other one is.
use Rattle.std.specs.Prelude.{◌≡◌, ℕ, codes, List, [], ◌∷◌, ◌++◌, length, drop, decimal, flat_map, nat_eq, if◌then◌else◌, Option, IfSome}
use Rattle.std.specs.List.{starts_with}
use Rattle.std.specs.Io.KnownBytes.{Appends}

-- a word, a number and a line feed
abbrev pub line : List ℕ → ℕ → List ℕ
line word n = word ++ (decimal n ++ (10 ∷ []))

-- a word, a length and so many bytes
abbrev pub part : List ℕ → List ℕ → List ℕ
part word bytes = line word (length bytes) ++ (bytes ++ (10 ∷ []))

-- the keys, one after the other
abbrev pub key_parts : List (List ℕ) → List ℕ
key_parts keys = flat_map (part (codes "key ")) keys

-- the question for a signature by some keys
unfoldable pub question : List (List ℕ) → List ℕ → List ℕ
question keys signature =
    line (codes "skopeo-verify ") 1 ++ (line (codes "keys ") (length keys) ++ (key_parts keys
    ++ (part (codes "signature ") signature ++ (codes "end" ++ (10 ∷ [])))))

-- the answer for a signature
unfoldable pub judgement : List ℕ → List ℕ
judgement signature =
    if starts_with nat_eq signature (codes "GOOD ") then line (codes "good ") (length (drop 5 signature)) ++ drop 5 signature
    else codes "bad no key" ++ (10 ∷ [])

-- the bytes are the question for this signature by some keys
pub record IsQuestion (bytes signature : List ℕ) : Type 0 where
  pub keys : List (List ℕ)
  pub is : bytes ≡ question keys signature

-- so many keys stand in front of what is left
pub record HasKeys (bytes : List ℕ) (count : ℕ) (left : List ℕ) : Type 0 where
  pub keys : List (List ℕ)
  pub many : length keys ≡ count
  pub split : bytes ≡ key_parts keys ++ left

-- all that a reader had left was a question, and the answer for its signature was written
pub record IsJudged (before old new : Option (List ℕ)) : Type 0 where
  pub signature : List ℕ
  pub asked : IfSome before (λ bytes. IsQuestion bytes signature)
  pub written : Appends old new (judgement signature)
