-- What SHA-256 gives are 32 bytes, and so has a name of its own in a folder.
use Rattle.std.proofs.Common.{◌≡◌, ◌≢◌, ◌<◌, ◌%◌, ◌++◌, ℕ, zero, suc, List, [], ◌∷◌, codes, Some, sym, ap, ◌∙◌, arith}
use Rattle.std.specs.Prelude.{slice_index}
use Rattle.std.specs.Int.{to_be_bytes, bytes_high_first, w32}
use Rattle.sha2.specs.Sha256.{sha256, digest_bytes}
use Rattle.sha2.proofs.Facts256.{length-sha256}
use Rattle.hex.specs.Hex.{encode_lower}
use Rattle.image_ref.specs.Digest.{IsDigest, digest_of, digest_text}
use Rattle.image_ref.proofs.DigestTexts.{digest_of-digest_text}
use Rattle.digest_reader.specs.Digests.{digest}
use Rattle.layouts.specs.Paths.{blob_path}
use Rattle.layouts.proofs.NameLemmas.{blobs_apart}

-- each is below 256
abbrev AreBytes : List ℕ → Type 0
AreBytes l = (i : ℕ) → slice_index l i < 256

none_bytes : AreBytes []
none_bytes zero = omega arith
none_bytes (suc i) = omega arith

joined_bytes : (xs ys : List ℕ) → AreBytes xs → AreBytes ys → AreBytes (xs ++ ys)
joined_bytes [] ys p q i = q i
joined_bytes (x ∷ xs) ys p q zero = p 0
joined_bytes (x ∷ xs) ys p q (suc i) = joined_bytes xs ys (λ j. p (suc j)) q i

rest_small : (m : ℕ) → m % 256 < 256
rest_small m = omega arith

high_bytes : (k n : ℕ) → AreBytes (bytes_high_first k n)
high_bytes zero n i = none_bytes i
high_bytes (suc zero) n zero = rest_small n
high_bytes (suc (suc k)) n zero = rest_small _
high_bytes (suc k) n (suc i) = high_bytes k n i

digest_are_bytes : (h : List ℕ) (n : ℕ) → AreBytes (digest_bytes h n)
unfolding digest_bytes
digest_are_bytes h zero = none_bytes
digest_are_bytes h (suc n) = joined_bytes (digest_bytes h n) (to_be_bytes w32 (slice_index h n)) (digest_are_bytes h n) (high_bytes 4 (slice_index h n))

sha256_bytes : (m : List ℕ) → AreBytes (sha256 m)
unfolding sha256
sha256_bytes m = digest_are_bytes _ 8

pub is_digest : (m : List ℕ) → IsDigest (digest m)
unfolding digest
is_digest m = record { count = length-sha256 m; range = sha256_bytes m }

-- the text of a digest is that of no other
same_digest : (a b : List ℕ) → IsDigest a → IsDigest b → encode_lower a ≡ encode_lower b → a ≡ b
same_digest a b p q e =
    let t : digest_text a ≡ digest_text b = ap (λ x. codes "sha256:" ++ x) e in
    let s : Some a ≡ Some b = sym (digest_of-digest_text a p) ∙ ap digest_of t ∙ digest_of-digest_text b q in
    cc

-- two blobs of different digests
pub other_blob : (dest a b : List ℕ) → IsDigest a → IsDigest b → a ≢ b → blob_path dest a ≢ blob_path dest b
other_blob dest a b p q apart = blobs_apart dest a b (λ e. apart (same_digest a b p q e))
