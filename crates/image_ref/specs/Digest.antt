-- Digests and their texts, after the descriptor part of the OCI image specification, with SHA-256
-- as the one algorithm. A digest is 32 bytes, and has one text.
--
--   digest = "sha256:" 64 * digit
--   digit  = "0" .. "9" | "a" .. "f"
use Rattle.std.specs.Prelude.{◌≡◌, ◌<◌, ℕ, codes, List, ◌++◌, length, take, drop, slice_index, Bool, ◌&&◌, ◌||◌, ◌==◌, nat_le, if◌then◌else◌, Option, None}
use Rattle.std.specs.List.{AllPass, list_all}
use Rattle.std.specs.Result.{result_ok}
use Rattle.std.specs.Str.{bytes_eq}
use Rattle.hex.specs.Hex.{encode_lower, decode_sized}

-- `0` to `9` or `a` to `f`
abbrev pub is_lower_digit : ℕ → Bool
is_lower_digit c = (nat_le 48 c && nat_le c 57) || (nat_le 97 c && nat_le c 102)

-- a text in the grammar
pub record IsDigestText (text : List ℕ) : Type 0 where
  pub prefix : take 7 text ≡ codes "sha256:"
  pub count : length text ≡ 71
  pub digits : AllPass is_lower_digit (drop 7 text)

-- 32 bytes
pub record IsDigest (bytes : List ℕ) : Type 0 where
  pub count : length bytes ≡ 32
  pub range : (i : ℕ) → slice_index bytes i < 256

-- the text that spells these bytes
abbrev pub digest_text : List ℕ → List ℕ
digest_text bytes = codes "sha256:" ++ encode_lower bytes

-- the grammar as a test
abbrev pub is_digest_text : List ℕ → Bool
is_digest_text text =
    (bytes_eq (take 7 text) (codes "sha256:") && (length text == 71))
    && list_all is_lower_digit (drop 7 text)

-- the digest that the text spells
unfoldable pub digest_of : List ℕ → Option (List ℕ)
digest_of text =
    if is_digest_text text then result_ok (decode_sized (drop 7 text) 32) else None
