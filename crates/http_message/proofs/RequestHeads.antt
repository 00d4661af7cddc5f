-- The heads of the requests that we send.
use Rattle.std.proofs.Common.{◌≡◌, ◌≢◌, ℕ, zero, suc, ◌==◌, ◌<◌, ◌+◌, ◌%◌, ◌^◌, ◌⊎◌, inl, inr, Bool, true, false, not, ◌&&◌, List, [], ◌∷◌, ◌++◌, codes, Option, Some, None, MatchOption, refl, ap, sym, subst, ◌∙◌, arith, lit<}
use Rattle.std.proofs.lemmas.Bool.{and_parts, and_from, false_from_ne_true}
use Rattle.std.proofs.lemmas.Bool.Decides.{nat_tests}
use Rattle.std.proofs.lemmas.Fmt.{decimal_by_steps, decimal_digit}
use Rattle.std.specs.Fmt.{decimal}
use Rattle.std.specs.List.{list_all}
use Rattle.std.specs.Char.{is_ascii_uppercase}
use Rattle.http_message.specs.declared.request.Request.{Request}
use Rattle.http_message.specs.Sent.{begins, is_one_line, is_line, are_lines, length_line, Counts, puts_manifest, deletes}
use Rattle.http_message.specs.Requests.{first_line, accept_line, type_line, size_line, lines_of, counted, manifest_types, IsClean, IsManifestPut, OneHead, PutsNone, DeletesNone}
use Rattle.http_message.proofs.OneHead.{only_head}

pub one_line-append : (a b : List ℕ) → is_one_line a ≡ true → is_one_line b ≡ true → is_one_line (a ++ b) ≡ true
one_line-append [] b p q = q
one_line-append (x ∷ a) b p q =
    and_from (not (x == 10)) (is_one_line (a ++ b)) (and_parts (not (x == 10)) (is_one_line a) p).0 (one_line-append a b (and_parts (not (x == 10)) (is_one_line a) p).1 q)

a_digit : (d : ℕ) → d < 10 → is_one_line ((48 + d) ∷ []) ≡ true
a_digit d h = and_from (not (48 + d == 10)) true no refl
  where
    no : not (48 + d == 10) ≡ true
    no = grind (arith, nat_tests)

one_line-decimal : (n : ℕ) → n < 2 ^ 64 → is_one_line (decimal n) ≡ true
one_line-decimal n small = decimal_by_steps (λ m ds. is_one_line ds ≡ true) a_digit
    (λ m ds big h. one_line-append ds ((48 + m % 10) ∷ []) h (a_digit (m % 10) (omega arith))) n small

-- capital letters end no line
no_capital : (c : ℕ) → is_ascii_uppercase c ≡ true → not (c == 10) ≡ true
no_capital c h = grind (arith, nat_tests)

one_line-capitals : (m : List ℕ) → list_all is_ascii_uppercase m ≡ true → is_one_line m ≡ true
one_line-capitals [] h = refl
one_line-capitals (c ∷ m) h =
    and_from (not (c == 10)) (is_one_line m) (no_capital c (and_parts (is_ascii_uppercase c) (list_all is_ascii_uppercase m) h).0)
    (one_line-capitals m (and_parts (is_ascii_uppercase c) (list_all is_ascii_uppercase m) h).1)

-- a line that is not empty
some_line : (m : List ℕ) (c : ℕ) (x : List ℕ) → is_one_line (m ++ (c ∷ x)) ≡ true → is_line (m ++ (c ∷ x)) ≡ true
some_line [] c x h = h
some_line (d ∷ m) c x h = h

first_is_line : (m x : List ℕ) → list_all is_ascii_uppercase m ≡ true → is_one_line x ≡ true → is_line (m ++ (codes " " ++ (x ++ codes " HTTP/1.1"))) ≡ true
first_is_line m x h k =
    some_line m 32 (x ++ codes " HTTP/1.1") (one_line-append m (codes " " ++ (x ++ codes " HTTP/1.1")) (one_line-capitals m h)
    (one_line-append x (codes " HTTP/1.1") k refl))

are_lines-append : (a b : List (List ℕ)) → are_lines a ≡ true → are_lines b ≡ true → are_lines (a ++ b) ≡ true
are_lines-append [] b p q = q
are_lines-append (l ∷ a) b p q =
    and_from (is_line l) (are_lines (a ++ b)) (and_parts (is_line l) (are_lines a) p).0 (are_lines-append a b (and_parts (is_line l) (are_lines a) p).1 q)

size_lines : (n : Option ℕ) → counted n < 2 ^ 64 → are_lines (size_line n) ≡ true
size_lines None h = refl
size_lines (Some n) h = and_from (is_one_line (decimal n)) true (one_line-decimal n h) refl

type_lines : (t : Option (List ℕ)) → MatchOption t Unit (λ w. is_one_line w ≡ true) → are_lines (type_line t) ≡ true
type_lines None h = refl
type_lines (Some t) h = and_from (is_one_line t) true h refl

accept_lines : (a : Bool) → are_lines (accept_line a) ≡ true
unfolding manifest_types
accept_lines false = refl
accept_lines true = refl

-- our heads are heads
pub are_lines_of : (r : Request) → IsClean r → are_lines (lines_of r) ≡ true
are_lines_of r clean =
    and_from (is_line (first_line r)) _ (first_is_line r.method r.target clean.method clean.target)
    (and_from (is_one_line r.host) _ clean.host
    (are_lines-append (accept_line r.accept) _ (accept_lines r.accept)
    (are_lines-append (type_line r.content_type) _ (type_lines r.content_type clean.content_type)
    (are_lines-append (size_line r.length) _ (size_lines r.length clean.size) refl))))

-- ---- they count as they say

-- two small letters are no capitals
small_o : is_ascii_uppercase 111 ≡ true → ⊥
small_o e = cc

no_length_method : (m x : List ℕ) → list_all is_ascii_uppercase m ≡ true → begins (codes "Content-Length: ") (m ++ (32 ∷ x)) ≡ false
no_length_method [] x h = refl
no_length_method (c ∷ []) x h = by_test (67 == c)
  where
    by_test : (b : Bool) → (b && false) ≡ false
    by_test true = refl
    by_test false = refl
no_length_method (c ∷ d ∷ m) x h = by_test (67 == c) (111 == d) (begins (codes "ntent-Length: ") (m ++ (32 ∷ x))) no
  where
    upper : is_ascii_uppercase d ≡ true
    upper = (and_parts (is_ascii_uppercase d) (list_all is_ascii_uppercase m) (and_parts (is_ascii_uppercase c) (list_all is_ascii_uppercase (d ∷ m)) h).1).0

    no : (111 == d) ≡ false
    no = grind (arith, nat_tests)

    by_test : (a b e : Bool) → b ≡ false → (a && (b && e)) ≡ false
    by_test true b e f = ap (λ (w : Bool). w && e) f
    by_test false b e f = refl

counts_rest : (a : Bool) (t : Option (List ℕ)) (n : Option ℕ)
    → Counts (accept_line a ++ (codes "Accept-Encoding: identity" ∷ (type_line t ++ (size_line n ++ (codes "Connection: close" ∷ []))))) (counted n)
counts_rest false None None = refl
counts_rest false None (Some n) = refl
counts_rest false (Some t) None = refl
counts_rest false (Some t) (Some n) = refl
counts_rest true None None = refl
counts_rest true None (Some n) = refl
counts_rest true (Some t) None = refl
counts_rest true (Some t) (Some n) = refl

-- the first line tells no length
behind_first : (l : List ℕ) (ls : List (List ℕ)) → begins (codes "Content-Length: ") l ≡ false → length_line (l ∷ ls) ≡ length_line ls
behind_first l ls h = rw h refl

pub counts_of : (r : Request) → IsClean r → Counts (lines_of r) (counted r.length)
counts_of r clean =
    subst (λ (o : Option (List ℕ)). MatchOption o (counted r.length ≡ 0) (λ line. line ≡ codes "Content-Length: " ++ decimal (counted r.length)))
    (sym (behind_first (first_line r)
    ((codes "Host: " ++ r.host) ∷ codes "User-Agent: skopeo" ∷ (accept_line r.accept ++ (codes "Accept-Encoding: identity" ∷ (type_line r.content_type ++ (size_line r.length ++ (codes "Connection: close" ∷ []))))))
    (no_length_method r.method (r.target ++ codes " HTTP/1.1") clean.method)))
    (counts_rest r.accept r.content_type r.length)

-- ---- what was sent of a request has no other head

pub one_head : (r : Request) → OneHead r
one_head r body sent tail ls after b has =
    only_head (lines_of r) (counted r.length) body sent tail ls after (are_lines_of r b.clean) (counts_of r b.clean) b.clean.size b.fits b.front has

-- ---- which requests put no manifest, and delete nothing

space_is_no_capital : (c : ℕ) → is_ascii_uppercase c ≡ true → 32 ≡ c → ⊥
space_is_no_capital c h e = small (ap is_ascii_uppercase e ∙ h)
  where
    small : is_ascii_uppercase 32 ≡ true → ⊥
    small k = cc

same_byte : (a b : ℕ) → (a == b) ≡ true → a ≡ b
same_byte a b h = grind (arith, nat_tests)

-- a line begins with the letters of a method and a space, so its own method is that one
method_is : (v m x : List ℕ) → list_all is_ascii_uppercase v ≡ true → list_all is_ascii_uppercase m ≡ true
    → begins (v ++ codes " ") (m ++ (32 ∷ x)) ≡ true → m ≡ v
method_is [] [] x g h e = refl
method_is [] (c ∷ m) x g h e =
    absurd (space_is_no_capital c (and_parts (is_ascii_uppercase c) (list_all is_ascii_uppercase m) h).0 (same_byte 32 c (and_parts (32 == c) true e).0))
method_is (v ∷ vs) [] x g h e =
    absurd (space_is_no_capital v (and_parts (is_ascii_uppercase v) (list_all is_ascii_uppercase vs) g).0 (sym (same_byte v 32 (and_parts (v == 32) (begins (vs ++ codes " ") x) e).0)))
method_is (v ∷ vs) (c ∷ m) x g h e =
    ap (λ (w : ℕ). w ∷ m) (sym (same_byte v c (and_parts (v == c) (begins (vs ++ codes " ") (m ++ (32 ∷ x))) e).0))
    ∙ ap (λ (w : List ℕ). v ∷ w) (method_is vs m x (and_parts (is_ascii_uppercase v) (list_all is_ascii_uppercase vs) g).1
    (and_parts (is_ascii_uppercase c) (list_all is_ascii_uppercase m) h).1 (and_parts (v == c) (begins (vs ++ codes " ") (m ++ (32 ∷ x))) e).1)

-- a PUT without a type of its body, and of an empty body
empty_put : (a : Bool) (host target : List ℕ) → puts_manifest
    ((codes "PUT" ++ (codes " " ++ (target ++ codes " HTTP/1.1"))) ∷ (codes "Host: " ++ host) ∷ codes "User-Agent: skopeo"
    ∷ (accept_line a ++ (codes "Accept-Encoding: identity" ∷ (codes "Content-Length: " ++ decimal 0) ∷ codes "Connection: close" ∷ []))) ≡ false
empty_put false host target = rw (decimal_digit 0 (lit< tt)) refl
empty_put true host target = rw (decimal_digit 0 (lit< tt)) refl

put_of : (m : List ℕ) (a : Bool) (host target : List ℕ) (t : Option (List ℕ)) (n : Option ℕ) → m ≡ codes "PUT"
    → ((t ≢ None) ⊎ (n ≢ Some 0) → ⊥) → puts_manifest
    ((m ++ (codes " " ++ (target ++ codes " HTTP/1.1"))) ∷ (codes "Host: " ++ host) ∷ codes "User-Agent: skopeo"
    ∷ (accept_line a ++ (codes "Accept-Encoding: identity" ∷ (type_line t ++ (size_line n ++ (codes "Connection: close" ∷ [])))))) ≡ false
put_of m a host target (Some t) n e none = absurd (none (inl (λ k. never t k)))
  where
    never : (t : List ℕ) → Some t ≡ None → ⊥
    never t k = cc
put_of m a host target None None e none = absurd (none (inr (λ k. never k)))
  where
    never : ◌≡◌ {A = Option ℕ} None (Some 0) → ⊥
    never k = cc
put_of m a host target None (Some (suc n)) e none = absurd (none (inr (λ k. never n k)))
  where
    never : (n : ℕ) → Some (suc n) ≡ Some 0 → ⊥
    never n k = cc
put_of m a host target None (Some zero) e none =
    subst (λ (w : List ℕ). puts_manifest ((w ++ (codes " " ++ (target ++ codes " HTTP/1.1"))) ∷ (codes "Host: " ++ host) ∷ codes "User-Agent: skopeo"
    ∷ (accept_line a ++ (codes "Accept-Encoding: identity" ∷ (codes "Content-Length: " ++ decimal 0) ∷ codes "Connection: close" ∷ []))) ≡ false) (sym e)
    (empty_put a host target)

no_manifest_put : (r : Request) → IsClean r → ¬ (IsManifestPut r) → puts_manifest (lines_of r) ≡ false
no_manifest_put r clean none = false_from_ne_true (puts_manifest (lines_of r)) (λ e.
    let is_put = method_is (codes "PUT") r.method (r.target ++ codes " HTTP/1.1") refl clean.method (and_parts _ _ e).0 in
    never (puts_manifest (lines_of r)) e (put_of r.method r.accept r.host r.target r.content_type r.length is_put (λ w. none (is_put, w))))
  where
    never : (b : Bool) → b ≡ true → b ≡ false → ⊥
    never b e f = cc

pub puts_none : (r : Request) → PutsNone r
puts_none r body sent tail ls after none b has =
    ap puts_manifest (one_head r body sent tail ls after b has).0 ∙ no_manifest_put r b.clean none

pub deletes_none : (r : Request) → DeletesNone r
deletes_none r body sent tail ls after other b has =
    ap deletes (one_head r body sent tail ls after b has).0
    ∙ false_from_ne_true (deletes (lines_of r)) (λ e. other (method_is (codes "DELETE") r.method (r.target ++ codes " HTTP/1.1") refl b.clean.method e))
