-- Sent bytes that begin one request have no other head.
use Rattle.std.proofs.Common.{◌≡◌, ℕ, ◌==◌, ◌<◌, ◌≤◌, ◌+◌, ◌^◌, true, not, List, [], ◌∷◌, ◌++◌, length, length-append, codes, Option, Some, None, MatchOption, refl, ap, sym, subst, ◌∙◌, append_assoc, arith}
use Rattle.std.specs.Prelude.{All}
use Rattle.std.proofs.lemmas.Bool.{and_parts}
use Rattle.std.proofs.lemmas.Fmt.{decimal_injective}
use Rattle.std.specs.Fmt.{decimal}
use Rattle.http_message.specs.Sent.{is_one_line, is_line, are_lines, with_head, Whole, length_line, Counts, IsWhole, behind, HasHead}

-- a line with a line feed is no line
no_feed : (l : List ℕ) → is_one_line (10 ∷ l) ≡ true → ⊥
no_feed l e = cc

head_is : (b c : ℕ) (x y : List ℕ) → b ∷ x ≡ c ∷ y → b ≡ c
head_is b c x y e = cc

tail_is : (b c : ℕ) (x y : List ℕ) → b ∷ x ≡ c ∷ y → x ≡ y
tail_is b c x y e = cc

-- a line cannot go on behind another line's end
not_longer : (m : List ℕ) (x y : List ℕ) → 13 ∷ 10 ∷ x ≡ m ++ (13 ∷ 10 ∷ y) → is_one_line m ≡ true → (m ≡ []) × (x ≡ y)
not_longer [] x y e h = (refl, cc)
not_longer (c ∷ []) x y e h = absurd (ten (tail_is 13 c (10 ∷ x) (13 ∷ 10 ∷ y) e))
  where
    ten : 10 ∷ x ≡ 13 ∷ 10 ∷ y → ⊥
    ten e = cc
not_longer (c ∷ d ∷ m) x y e h = absurd (no_feed m (subst (λ (w : ℕ). is_one_line (w ∷ m) ≡ true) (sym d_is) (and_parts (not (c == 10)) (is_one_line (d ∷ m)) h).1))
  where
    d_is : 10 ≡ d
    d_is = head_is 10 d x (m ++ (13 ∷ 10 ∷ y)) (tail_is 13 c (10 ∷ x) (d ∷ m ++ (13 ∷ 10 ∷ y)) e)

line_is : (l m x y : List ℕ) → l ++ (13 ∷ 10 ∷ x) ≡ m ++ (13 ∷ 10 ∷ y) → is_one_line l ≡ true → is_one_line m ≡ true → (l ≡ m) × (x ≡ y)
line_is [] m x y e hl hm = let p = not_longer m x y e hm in (sym p.0, p.1)
line_is (b ∷ l) [] x y e hl hm = let p = not_longer (b ∷ l) y x (sym e) hl in (p.0, sym p.1)
line_is (b ∷ l) (c ∷ m) x y e hl hm =
    let p = line_is l m x y (tail_is b c (l ++ (13 ∷ 10 ∷ x)) (m ++ (13 ∷ 10 ∷ y)) e) (and_parts (not (b == 10)) (is_one_line l) hl).1 (and_parts (not (c == 10)) (is_one_line m) hm).1 in
    let q = head_is b c (l ++ (13 ∷ 10 ∷ x)) (m ++ (13 ∷ 10 ∷ y)) e in
    (ap (λ (w : List ℕ). b ∷ w) p.0 ∙ ap (λ (w : ℕ). w ∷ m) q, p.1)

one_line : (l : List ℕ) → is_line l ≡ true → is_one_line l ≡ true
one_line [] e = refl
one_line (b ∷ l) e = e

no_empty_line : (l x y : List ℕ) → 13 ∷ 10 ∷ x ≡ l ++ (13 ∷ 10 ∷ y) → is_line l ≡ true → ⊥
no_empty_line [] x y e h = cc
no_empty_line (b ∷ l) x y e h = empty (not_longer (b ∷ l) x y e h).0
  where
    empty : b ∷ l ≡ [] → ⊥
    empty e = cc

-- a head ends at its first empty line
pub head_once : (ls ms : List (List ℕ)) (x y : List ℕ) → with_head ls x ≡ with_head ms y → are_lines ls ≡ true → are_lines ms ≡ true → (ls ≡ ms) × (x ≡ y)
head_once [] [] x y e hl hm = (refl, cc)
head_once [] (m ∷ ms) x y e hl hm = absurd (no_empty_line m x (with_head ms y) e (and_parts (is_line m) (are_lines ms) hm).0)
head_once (l ∷ ls) [] x y e hl hm = absurd (no_empty_line l y (with_head ls x) (sym e) (and_parts (is_line l) (are_lines ls) hl).0)
head_once (l ∷ ls) (m ∷ ms) x y e hl hm =
    let p = line_is l m (with_head ls x) (with_head ms y) e (one_line l (and_parts (is_line l) (are_lines ls) hl).0) (one_line m (and_parts (is_line m) (are_lines ms) hm).0) in
    let q = head_once ls ms x y p.1 (and_parts (is_line l) (are_lines ls) hl).1 (and_parts (is_line m) (are_lines ms) hm).1 in
    (ap (λ (w : List ℕ). w ∷ ls) p.0 ∙ ap (λ (w : List (List ℕ)). m ∷ w) q.0, q.1)

-- what comes after a head, and after that
pub head_with : (ls : List (List ℕ)) (x y : List ℕ) → with_head ls x ++ y ≡ with_head ls (x ++ y)
head_with [] x y = refl
head_with (l ∷ ls) x y = append_assoc l (13 ∷ 10 ∷ with_head ls x) y ∙ ap (λ (w : List ℕ). l ++ (13 ∷ 10 ∷ w)) (head_with ls x y)

longer_head : (ls : List (List ℕ)) (x : List ℕ) → 2 + length x ≤ length (with_head ls x)
longer_head [] x = omega arith
longer_head (l ∷ ls) x = omega (arith, longer_head ls x, length-append l (13 ∷ 10 ∷ with_head ls x))

longer_behind : (rs : List Whole) (x : List ℕ) → length x ≤ length (behind rs x)
longer_behind [] x = omega arith
longer_behind (r ∷ rs) x = omega (arith, longer_behind rs x, length-append r.body (behind rs x), longer_head r.lines (r.body ++ behind rs x))

-- two counts of one head
counts_once : (o : Option (List ℕ)) (m n : ℕ) → m < 2 ^ 64 → n < 2 ^ 64
    → MatchOption o (m ≡ 0) (λ line. line ≡ codes "Content-Length: " ++ decimal m)
    → MatchOption o (n ≡ 0) (λ line. line ≡ codes "Content-Length: " ++ decimal n) → m ≡ n
counts_once None m n hm hn p q = p ∙ sym q
counts_once (Some l) m n hm hn p q = decimal_injective m n hm hn (cut (decimal m) (decimal n) (sym p ∙ q))
  where
    cut : (a b : List ℕ) → codes "Content-Length: " ++ a ≡ codes "Content-Length: " ++ b → a ≡ b
    cut a b e = cc

-- the first of whole requests is whole
first : (r : Whole) (rs : List Whole) → All IsWhole (r ∷ rs) → IsWhole r
first r rs all = all 0 r (omega arith)

-- Where sent bytes begin one request whose head counts the body, that head is the only one.
pub only_head : (lines : List (List ℕ)) (n : ℕ) (body sent tail : List ℕ) (ls : List (List ℕ)) (after : List ℕ)
    → are_lines lines ≡ true → Counts lines n → n < 2 ^ 64 → length body ≤ n
    → sent ++ tail ≡ with_head lines body → HasHead sent ls after
    → (ls ≡ lines) × (after ++ tail ≡ body)
only_head lines n body sent tail ls after good counts small fits is has = by_requests has.before has.whole (sym (ap (λ (w : List ℕ). w ++ tail) has.sent_is) ∙ is)
  where
    by_requests : (rs : List Whole) → All IsWhole rs → behind rs (with_head ls after) ++ tail ≡ with_head lines body → (ls ≡ lines) × (after ++ tail ≡ body)
    by_requests [] whole e = head_once ls lines (after ++ tail) body (sym (head_with ls after tail) ∙ e) has.head good
    by_requests (r ∷ rs) whole e =
        let rest : List ℕ = behind rs (with_head ls after) in
        let p = head_once r.lines lines ((r.body ++ rest) ++ tail) body (sym (head_with r.lines (r.body ++ rest) tail) ∙ e) (first r rs whole).head good in
        let long : length (with_head ls after) ≤ length rest = longer_behind rs (with_head ls after) in
        let two : 2 + length after ≤ length (with_head ls after) = longer_head ls after in
        let all : length ((r.body ++ rest) ++ tail) ≡ length body = ap length p.1 in
        let parts : length ((r.body ++ rest) ++ tail) ≡ length r.body + length rest + length tail = simp (length-append) in
        let same : length r.body ≡ n = counts_once (length_line lines) (length r.body) n (omega arith) small
        (subst (λ (w : List (List ℕ)). Counts w (length r.body)) p.0 (first r rs whole).body) counts in
        absurd (omega arith)
