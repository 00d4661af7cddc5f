-- Pieces of an answer, joined; and which of its answers a registry gives.
use Rattle.std.proofs.Common.{◌≡◌, ℕ, Bool, true, false, List, ◌++◌, refl, ap, sym, ◌∙◌, codes, append_assoc, if◌then◌else◌}
use Rattle.std.specs.Str.{IsUtf8, is_utf8}
use Rattle.std.proofs.lemmas.Str.{IsUtf8-from_is_utf8, is_utf8-from_IsUtf8}
use Rattle.skopeo_outside.specs.declared.map_peer.MapPeer.{MapPeer}
use Rattle.skopeo_outside.specs.Peer.{first_line, bare, line_answer, peer_answer}

-- three pieces, one after the other
pub three_pieces : (old one two new a b c : List ℕ) → one ≡ old ++ a → two ≡ one ++ b → new ≡ two ++ c → new ≡ old ++ (a ++ (b ++ c))
three_pieces old one two new a b c p q r =
    r ∙ ap (λ (x : List ℕ). x ++ c) (q ∙ ap (λ (x : List ℕ). x ++ b) p ∙ append_assoc old a b) ∙ append_assoc old (a ++ b) c
    ∙ ap (λ (x : List ℕ). old ++ x) (append_assoc a b c)

-- four pieces, one after the other
pub four_pieces : (old one two three new a b c d : List ℕ) → one ≡ old ++ a → two ≡ one ++ b → three ≡ two ++ c → new ≡ three ++ d
    → new ≡ old ++ (a ++ (b ++ (c ++ d)))
four_pieces old one two three new a b c d p q r s =
    s ∙ ap (λ (x : List ℕ). x ++ d) (three_pieces old one two three a b c p q r) ∙ append_assoc old (a ++ (b ++ c)) d
    ∙ ap (λ (x : List ℕ). old ++ x) (append_assoc a (b ++ c) d ∙ ap (λ (x : List ℕ). a ++ x) (append_assoc b c d))

no_text : (b : Bool) (bs : List ℕ) → b ≡ is_utf8 bs → ¬ (IsUtf8 bs) → is_utf8 bs ≡ false
no_text true bs e other = absurd (other (IsUtf8-from_is_utf8 bs (sym e)))
no_text false bs e other = sym e

-- a first line that is a text
pub text_answered : (peer : MapPeer) (sent line : List ℕ) → line ≡ first_line sent → IsUtf8 (first_line sent) → line_answer peer line ≡ peer_answer peer sent
text_answered peer sent line e u =
    ap (λ (x : List ℕ). line_answer peer x) e
    ∙ sym (ap (λ (b : Bool). if b then line_answer peer (first_line sent) else bare (codes "400 Bad Request")) (is_utf8-from_IsUtf8 (first_line sent) u))

-- a first line that is none
pub other_answered : (peer : MapPeer) (sent : List ℕ) → ¬ (IsUtf8 (first_line sent)) → bare (codes "400 Bad Request") ≡ peer_answer peer sent
other_answered peer sent other =
    sym (ap (λ (b : Bool). if b then line_answer peer (first_line sent) else bare (codes "400 Bad Request")) (no_text (is_utf8 (first_line sent)) (first_line sent) refl other))
