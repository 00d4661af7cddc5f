-- A digest has one text, and a text in the grammar spells one digest.
use Rattle.std.proofs.Common.{◌≡◌, ℕ, ◌%◌, ◌==◌, Bool, true, false, ◌&&◌, List, [], ◌++◌, length, take, drop, Some, None, unwrap_or, Result, Ok, Err, refl, sym, ap, ◌∙◌, arith, codes, inl, inr}
use Rattle.std.specs.Prelude.{IsOk, MatchResult}
use Rattle.std.proofs.lemmas.Bool.{cases_Bool, and_parts, eqb-true}
use Rattle.std.proofs.lemmas.List.Elements.{All-weaker}
use Rattle.std.proofs.lemmas.List.{take-append-drop, length-drop}
use Rattle.std.specs.List.{AllPass}
use Rattle.std.specs.Result.{result_unwrap_or}
use Rattle.hex.specs.Hex.{decode_of, decode_sized, is_hex_digit, encode_lower, lower_digits}
use Rattle.hex.specs.declared.error.FromHexError.{FromHexError}
use Rattle.hex.proofs.HexLemmas.{IsOk-decode_sized, decode_of-even, decode_of-ok, decode_sized-twice, decode_sized-ok, decode_sized-encode_lower, length-encode_with}
use Rattle.std.proofs.lemmas.List.Sums.{AllPass-from_list_all, list_all-from_AllPass}
use Rattle.std.proofs.lemmas.Slice.Eq.{bytes_eq-Decides}
use Rattle.std.specs.List.{list_all}
use Rattle.std.specs.Str.{bytes_eq}
use Rattle.image_ref.specs.Digest.{is_digest_text, digest_of, is_lower_digit, IsDigest, IsDigestText, digest_text}
use Rattle.image_ref.proofs.HexTexts.{lower_is_hex, lower_holds, encode-decoded, encode-lower}
use Rattle.image_ref.proofs.BoolLemmas.{not_true}

-- digits that decode into room for 32 bytes spell these bytes
pub spells-decoded : (s bytes : List ℕ) → decode_sized s 32 ≡ Ok bytes → AllPass is_lower_digit s → (encode_lower bytes ≡ s) × IsDigest bytes
spells-decoded s bytes h lower =
    let len = decode_sized-ok s 32 bytes h in
    let plain : decode_of s ≡ Ok bytes = sym (decode_sized-twice s 32 len) ∙ h in
    let ok = decode_of-ok s bytes plain in
    let even : length s % 2 ≡ 0 = ok.0 in
    (encode-decoded 0 s bytes (sym (decode_of-even s even) ∙ plain) lower, record { count = omega (arith, ok.2, len); range = ok.3 })

-- the text of a digest is in the grammar
pub IsDigestText-digest_text : (d : List ℕ) → IsDigest d → IsDigestText (digest_text d)
IsDigestText-digest_text d h = record {
  prefix = refl;
  count = omega (arith, length-encode_with lower_digits d, h.count);
  digits = encode-lower d h.range;
}

-- the digits of a digest decode to it
pub decoded-digest_text : (d : List ℕ) → IsDigest d → decode_sized (drop 7 (digest_text d)) 32 ≡ Ok d
decoded-digest_text d h = decode_sized-encode_lower d 32 h.count h.range

-- a text in the grammar is what stands before its seventh byte and after it
pub IsDigestText-parts : (text : List ℕ) → IsDigestText text → text ≡ codes "sha256:" ++ drop 7 text
IsDigestText-parts text h = sym (take-append-drop 7 text) ∙ ap (λ front. front ++ drop 7 text) h.prefix

-- what a decoding into a slice answered says what the digits decode to
pub decoded-ok : (d : Result (List ℕ) FromHexError) (r : Result (Unit {0}) FromHexError) (out : List ℕ)
    → MatchResult d (λ bytes. (r ≡ Ok tt) × (out ≡ bytes)) (λ e. r ≡ Err e) → (u : Unit {0}) → r ≡ Ok u → d ≡ Ok out
decoded-ok (Ok bytes) r out h u e = ap Ok (sym h.1)
decoded-ok (Err f) r out h u e = cc (sym h ∙ e)

pub decoded-err : (d : Result (List ℕ) FromHexError) (r : Result (Unit {0}) FromHexError) (out : List ℕ)
    → MatchResult d (λ bytes. (r ≡ Ok tt) × (out ≡ bytes)) (λ e. r ≡ Err e) → (f : FromHexError) → r ≡ Err f → IsOk d → ⊥
decoded-err (Ok bytes) r out h f e ok = cc (sym h.0 ∙ e)
decoded-err (Err g) r out h f e ok = cc ok

-- the digits of a text in the grammar decode into room for 32 bytes
pub decodes-digits : (text : List ℕ) → IsDigestText text → IsOk (decode_sized (drop 7 text) 32)
decodes-digits text h =
    let len = length-drop 7 text in
    (IsOk-decode_sized (drop 7 text) 32).1 (omega (arith, len, h.count), All-weaker lower_holds (λ c. is_hex_digit c ≡ true) lower_is_hex (drop 7 text) h.digits)

-- a text in the grammar whose digits decode is the text of their digest
pub read-text : (text digits bytes : List ℕ) → IsDigestText text → digits ≡ drop 7 text → decode_sized digits 32 ≡ Ok bytes → IsDigest bytes × (text ≡ digest_text bytes)
read-text text digits bytes h same e =
    let lower : AllPass is_lower_digit digits = rw same h.digits in
    let s = spells-decoded digits bytes e lower in
    (s.1, IsDigestText-parts text h ∙ ap (λ back. codes "sha256:" ++ back) (sym same ∙ sym s.0))

-- no other digest has that text
pub read-only : (text digits bytes d : List ℕ) → digits ≡ drop 7 text → decode_sized digits 32 ≡ Ok bytes → IsDigest d → text ≡ digest_text d → bytes ≡ d
read-only text digits bytes d same e h is =
    let again : decode_sized digits 32 ≡ Ok d = rw (same, is) (decoded-digest_text d h) in
    ap (λ (r : Result (List ℕ) FromHexError). result_unwrap_or r []) (sym e ∙ again)

pub not-lower : (text digits : List ℕ) (r : Bool) → digits ≡ drop 7 text → (AllPass is_lower_digit digits → r ≡ true) → r ≡ false → IsDigestText text → ⊥
not-lower text digits r same f e h = cc (sym e ∙ f (rw same h.digits))

pub written-text : (d text : List ℕ) → IsDigest d → text ≡ digest_text d → IsDigestText text
written-text d text h e = rw e (IsDigestText-digest_text d h)

pub digits-dropped : (digits bytes prefix text : List ℕ) → digits ≡ drop (length prefix) bytes → prefix ≡ codes "sha256:" → bytes ≡ text → digits ≡ drop 7 text
digits-dropped digits bytes prefix text h p b = h ∙ rw (p, b) refl

-- ---- the digest that a text spells

is_digest_text-from : (text : List ℕ) → IsDigestText text → is_digest_text text ≡ true
is_digest_text-from text h =
    rw (h.prefix, h.count, list_all-from_AllPass is_lower_digit (drop 7 text) h.digits) refl

is_digest_text-to : (text : List ℕ) → is_digest_text text ≡ true → IsDigestText text
is_digest_text-to text h =
    let outer = and_parts (bytes_eq (take 7 text) (codes "sha256:") && (length text == 71)) (list_all is_lower_digit (drop 7 text)) h in
    let inner = and_parts (bytes_eq (take 7 text) (codes "sha256:")) (length text == 71) outer.0 in
    record {
      prefix = (bytes_eq-Decides (take 7 text) (codes "sha256:")).0 inner.0;
      count = eqb-true (length text) 71 inner.1;
      digits = AllPass-from_list_all is_lower_digit (drop 7 text) outer.1;
    }

pub digest_of-decoded : (text bytes : List ℕ) → IsDigestText text → decode_sized (drop 7 text) 32 ≡ Ok bytes → digest_of text ≡ Some bytes
unfolding digest_of
digest_of-decoded text bytes h e = rw (is_digest_text-from text h, e) refl

pub digest_of-none : (text : List ℕ) → (IsDigestText text → ⊥) → digest_of text ≡ None
unfolding digest_of
digest_of-none text h = let e = not_true (is_digest_text text) (λ t. h (is_digest_text-to text t)) in rw e refl

-- it is the one digest that has the text
pub digest_of-digest_text : (d : List ℕ) → IsDigest d → digest_of (digest_text d) ≡ Some d
digest_of-digest_text d h = digest_of-decoded (digest_text d) d (IsDigestText-digest_text d h) (decoded-digest_text d h)

ok_value : (r : Result (List ℕ) FromHexError) → IsOk r → (bytes : List ℕ) × (r ≡ Ok bytes)
ok_value (Ok bytes) h = (bytes, refl)
ok_value (Err e) h = cc h

pub digest_of-some : (text d : List ℕ) → digest_of text ≡ Some d → IsDigest d × (text ≡ digest_text d)
digest_of-some text d h =
    elim (cases_Bool (is_digest_text text)) [
      | inl spells ↦
          let t = is_digest_text-to text spells in
          let v = ok_value (decode_sized (drop 7 text) 32) (decodes-digits text t) in
          let same : v.0 ≡ d = ap (λ o. unwrap_or o d) (sym (digest_of-decoded text v.0 t v.1) ∙ h) in
          let read = read-text text (drop 7 text) v.0 t refl v.1 in
          rw (← same) read
      | inr other ↦ cc (sym h ∙ digest_of-none text (λ t. cc (sym other ∙ is_digest_text-from text t)))
    ]

-- a text in the grammar spells a digest
pub digest_of-found : (text : List ℕ) → IsDigestText text → digest_of text ≡ None → ⊥
digest_of-found text t e =
    let v = ok_value (decode_sized (drop 7 text) 32) (decodes-digits text t) in
    cc (sym e ∙ digest_of-decoded text v.0 t v.1)
