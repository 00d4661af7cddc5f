-- What was sent of a request that may be sent holds no second one.
use Rattle.std.proofs.Common.{◌≡◌, ℕ, ◌==◌, ◌<◌, ◌≤◌, ◌+◌, ◌%◌, ◌^◌, Bool, true, false, cond, not, ◌&&◌, ◌||◌, nat_le, nat_lt, List, [], ◌∷◌, ◌++◌, length, length-append, map, codes, Option, Some, None, MatchOption, refl, ap, sym, subst, ◌∙◌, append_assoc, arith, if◌then◌else◌}
use Rattle.std.proofs.lemmas.Bool.{and_parts, and_from}
use Rattle.std.proofs.lemmas.Bool.Decides.{nat_tests}
use Rattle.std.proofs.lemmas.Fmt.{decimal_by_steps, decimal_is_IsNumeral, decimal_nonempty}
use Rattle.std.proofs.lemmas.List.Folds.{list_all-append}
use Rattle.std.specs.Fmt.{decimal}
use Rattle.std.specs.List.{list_all}
use Rattle.std.specs.Char.{is_ascii_uppercase, is_ascii_digit}
use Rattle.std.specs.Str.Parse.{digits_value}
use Rattle.http1.specs.Text.{eq_ignore_case}
use Rattle.http_message.specs.declared.framing.Framing.{Framing}
use Rattle.http_message.specs.declared.framing.Framing.TheVariants.{Wrong, Sized, ToEnd}
use Rattle.http_message.specs.declared.request.Request.{Request}
use Rattle.http_message.specs.Framing.{is_number, framing_by, framing_of}
use Rattle.http_message.specs.Sent.{with_head, is_one_line}
use Rattle.http_message.specs.Visible.{are_visible}
use Rattle.http_message.specs.OneRequest.{LaxLine, is_bare, is_bare_line, are_lax, end_line, lax_head, behind_blanks, header_of, framing_in, Covers}
use Rattle.http_message.specs.Requests.{first_line, accept_line, type_line, size_line, lines_of, counted, manifest_types, only_asks, is_visible_type, is_shown, counts_body, IsClean, MaySend, HoldsOne}

-- ---- texts of which each byte is so

pub weaker : (p q : ℕ → Bool) → ((b : ℕ) → p b ≡ true → q b ≡ true) → (text : List ℕ) → list_all p text ≡ true → list_all q text ≡ true
weaker p q f [] h = refl
weaker p q f (b ∷ bs) h =
    let both = and_parts (p b) (list_all p bs) h in
    ap (λ (x : Bool). x && list_all q bs) (f b both.0) ∙ weaker p q f bs both.1

joined : (p : ℕ → Bool) (a b : List ℕ) → list_all p a ≡ true → list_all p b ≡ true → list_all p (a ++ b) ≡ true
joined p a b e f = list_all-append p a b ∙ and_from (list_all p a) (list_all p b) e f

abbrev bare : ℕ → Bool
bare b = not (b == 10) && not (b == 13)

visible_byte : (b : ℕ) → (nat_le 33 b && nat_le b 126) ≡ true → bare b ≡ true
visible_byte b h = grind (arith, nat_tests)

visible_feedless : (b : ℕ) → (nat_le 33 b && nat_le b 126) ≡ true → not (b == 10) ≡ true
visible_feedless b h = grind (arith, nat_tests)

capital_byte : (b : ℕ) → is_ascii_uppercase b ≡ true → bare b ≡ true
capital_byte b h = grind (arith, nat_tests)

digit_byte : (b : ℕ) → is_ascii_digit b ≡ true → bare b ≡ true
digit_byte b h = grind (arith, nat_tests)

pub visible_bare : (text : List ℕ) → are_visible text ≡ true → is_bare text ≡ true
visible_bare text h = weaker (λ b. nat_le 33 b && nat_le b 126) bare visible_byte text h

pub visible_line : (text : List ℕ) → are_visible text ≡ true → is_one_line text ≡ true
visible_line text h = weaker (λ b. nat_le 33 b && nat_le b 126) (λ b. not (b == 10)) visible_feedless text h

one_digit : (d : ℕ) → d < 10 → list_all is_ascii_digit ((48 + d) ∷ []) ≡ true
one_digit d h = and_from (is_ascii_digit (48 + d)) true digit refl
  where
    digit : is_ascii_digit (48 + d) ≡ true
    digit = grind (arith, nat_tests)

digits_decimal : (n : ℕ) → n < 2 ^ 64 → list_all is_ascii_digit (decimal n) ≡ true
digits_decimal n small = decimal_by_steps (λ m ds. list_all is_ascii_digit ds ≡ true) one_digit
    (λ m ds big h. joined is_ascii_digit ds ((48 + m % 10) ∷ []) h (one_digit (m % 10) (omega arith))) n small

-- ---- our heads are read in one way

head_is : (b c : ℕ) (x y : List ℕ) → b ∷ x ≡ c ∷ y → b ≡ c
head_is b c x y e = cc

tail_is : (b c : ℕ) (x y : List ℕ) → b ∷ x ≡ c ∷ y → x ≡ y
tail_is b c x y e = cc

no_feed : (c : ℕ) → bare c ≡ true → 10 ≡ c → ⊥
no_feed c h e = feed (ap bare e ∙ h)
  where
    feed : bare 10 ≡ true → ⊥
    feed k = cc

no_return : (c : ℕ) → bare c ≡ true → 13 ≡ c → ⊥
no_return c h e = return (ap bare e ∙ h)
  where
    return : bare 13 ≡ true → ⊥
    return k = cc

ends_here : (r : Bool) (x y : List ℕ) → end_line r x ≡ 13 ∷ 10 ∷ y → x ≡ y
ends_here true x y e = cc
ends_here false x y e = absurd (other e)
  where
    other : 10 ∷ x ≡ 13 ∷ 10 ∷ y → ⊥
    other e = cc

no_end : (r : Bool) (c : ℕ) (x y : List ℕ) → bare c ≡ true → end_line r x ≡ c ∷ y → ⊥
no_end true c x y h e = no_return c h (head_is 13 c (10 ∷ x) y e)
no_end false c x y h e = no_feed c h (head_is 10 c x y e)

line_is : (l m : List ℕ) (r : Bool) (x y : List ℕ) → is_bare l ≡ true → is_bare m ≡ true → l ++ end_line r x ≡ m ++ (13 ∷ 10 ∷ y) → (l ≡ m) × (x ≡ y)
line_is [] [] r x y hl hm e = (refl, ends_here r x y e)
line_is [] (c ∷ m) r x y hl hm e = absurd (no_end r c x (m ++ (13 ∷ 10 ∷ y)) (and_parts (bare c) (is_bare m) hm).0 e)
line_is (b ∷ l) [] r x y hl hm e =
    absurd (no_return b (and_parts (bare b) (is_bare l) hl).0 (sym (head_is b 13 (l ++ end_line r x) (10 ∷ y) e)))
line_is (b ∷ l) (c ∷ m) r x y hl hm e =
    let p = line_is l m r x y (and_parts (bare b) (is_bare l) hl).1 (and_parts (bare c) (is_bare m) hm).1 (tail_is b c (l ++ end_line r x) (m ++ (13 ∷ 10 ∷ y)) e) in
    let q = head_is b c (l ++ end_line r x) (m ++ (13 ∷ 10 ∷ y)) e in
    (ap (λ (w : List ℕ). b ∷ w) p.0 ∙ ap (λ (w : ℕ). w ∷ m) q, p.1)

abbrev are_bare : List (List ℕ) → Bool
are_bare lines = list_all is_bare_line lines

bare_line : (l : List ℕ) → is_bare_line l ≡ true → is_bare l ≡ true
bare_line [] h = refl
bare_line (b ∷ bs) h = h

no_empty : (r : Bool) (l : List ℕ) (x y : List ℕ) → is_bare_line l ≡ true → end_line r x ≡ l ++ (13 ∷ 10 ∷ y) → ⊥
no_empty r [] x y h e = cc
no_empty r (c ∷ l) x y h e = no_end r c x (l ++ (13 ∷ 10 ∷ y)) (and_parts (bare c) (is_bare l) h).0 e

no_empty_lax : (l : List ℕ) (r : Bool) (x y : List ℕ) → is_bare_line l ≡ true → l ++ end_line r x ≡ 13 ∷ 10 ∷ y → ⊥
no_empty_lax [] r x y h e = cc
no_empty_lax (b ∷ l) r x y h e = no_return b (and_parts (bare b) (is_bare l) h).0 (sym (head_is b 13 (l ++ end_line r x) (10 ∷ y) e))

lax_once : (xs : List LaxLine) (last : Bool) (after : List ℕ) (ls : List (List ℕ)) (body : List ℕ) → are_lax xs ≡ true → are_bare ls ≡ true
    → lax_head xs last after ≡ with_head ls body → (map (λ (l : LaxLine). l.bytes) xs ≡ ls) × (after ≡ body)
lax_once [] last after [] body hx hl e = (refl, ends_here last after body e)
lax_once [] last after (l ∷ ls) body hx hl e = absurd (no_empty last l after (with_head ls body) (and_parts (is_bare_line l) (are_bare ls) hl).0 e)
lax_once (x ∷ xs) last after [] body hx hl e =
    absurd (no_empty_lax x.bytes x.returned (lax_head xs last after) body (and_parts (is_bare_line x.bytes) (are_lax xs) hx).0 e)
lax_once (x ∷ xs) last after (l ∷ ls) body hx hl e =
    let p = line_is x.bytes l x.returned (lax_head xs last after) (with_head ls body)
    (bare_line x.bytes (and_parts (is_bare_line x.bytes) (are_lax xs) hx).0) (bare_line l (and_parts (is_bare_line l) (are_bare ls) hl).0) e in
    let q = lax_once xs last after ls body (and_parts (is_bare_line x.bytes) (are_lax xs) hx).1 (and_parts (is_bare_line l) (are_bare ls) hl).1 p.1 in
    (ap (λ (w : List ℕ). w ∷ map (λ (l : LaxLine). l.bytes) xs) p.0 ∙ ap (λ (w : List (List ℕ)). l ∷ w) q.0, q.1)

end_line-append : (r : Bool) (x y : List ℕ) → end_line r x ++ y ≡ end_line r (x ++ y)
end_line-append true x y = refl
end_line-append false x y = refl

lax_head-append : (xs : List LaxLine) (last : Bool) (x y : List ℕ) → lax_head xs last x ++ y ≡ lax_head xs last (x ++ y)
lax_head-append [] last x y = end_line-append last x y
lax_head-append (l ∷ ls) last x y = append_assoc l.bytes (end_line l.returned (lax_head ls last x)) y
    ∙ ap (λ (w : List ℕ). l.bytes ++ w) (end_line-append l.returned (lax_head ls last x) y ∙ ap (end_line l.returned) (lax_head-append ls last x y))

-- ---- the lines of our heads

some_line : (m : List ℕ) (c : ℕ) (x : List ℕ) → is_bare (m ++ (c ∷ x)) ≡ true → is_bare_line (m ++ (c ∷ x)) ≡ true
some_line [] c x h = h
some_line (d ∷ m) c x h = h

bare_first : (m x : List ℕ) → list_all is_ascii_uppercase m ≡ true → is_bare x ≡ true → is_bare_line (m ++ (codes " " ++ (x ++ codes " HTTP/1.1"))) ≡ true
bare_first m x h k = some_line m 32 (x ++ codes " HTTP/1.1") (joined bare m (codes " " ++ (x ++ codes " HTTP/1.1"))
    (weaker is_ascii_uppercase bare capital_byte m h) (joined bare x (codes " HTTP/1.1") k refl))

are_bare-append : (a b : List (List ℕ)) → are_bare a ≡ true → are_bare b ≡ true → are_bare (a ++ b) ≡ true
are_bare-append a b p q = list_all-append is_bare_line a b ∙ and_from (are_bare a) (are_bare b) p q

bare_sizes : (n : Option ℕ) → counted n < 2 ^ 64 → are_bare (size_line n) ≡ true
bare_sizes None h = refl
bare_sizes (Some n) h = and_from (is_bare (decimal n)) true (weaker is_ascii_digit bare digit_byte (decimal n) (digits_decimal n h)) refl

bare_types : (t : Option (List ℕ)) → is_visible_type t ≡ true → are_bare (type_line t) ≡ true
bare_types None h = refl
bare_types (Some t) h = and_from (is_bare t) true (visible_bare t h) refl

bare_accepts : (a : Bool) → are_bare (accept_line a) ≡ true
unfolding manifest_types
bare_accepts false = refl
bare_accepts true = refl

are_bare_of : (r : Request) (size : ℕ) → MaySend r size → are_bare (lines_of r) ≡ true
are_bare_of r size may =
    and_from (is_bare_line (first_line r)) _ (bare_first r.method r.target may.method (visible_bare r.target may.target))
    (and_from (is_bare r.host) _ (visible_bare r.host may.host)
    (are_bare-append (accept_line r.accept) _ (bare_accepts r.accept)
    (are_bare-append (type_line r.content_type) _ (bare_types r.content_type may.content_type)
    (are_bare-append (size_line r.length) _ (bare_sizes r.length (subst (λ (n : ℕ). n < 2 ^ 64) (sym may.counts) may.small)) refl))))

-- ---- how they say that their bodies end

no_blank : (ds : List ℕ) → list_all is_ascii_digit ds ≡ true → behind_blanks ds ≡ ds
no_blank [] h = refl
no_blank (d ∷ ds) h = ap (λ (b : Bool). cond b (behind_blanks ds) (d ∷ ds)) none
  where
    digit : is_ascii_digit d ≡ true
    digit = (and_parts (is_ascii_digit d) (list_all is_ascii_digit ds) h).0

    none : (d == 32 || d == 9) ≡ false
    none = grind (arith, nat_tests)

some_test : (k : ℕ) → 0 < k → nat_lt 0 k ≡ true
some_test k h = grind (arith, nat_tests)

small_test : (k : ℕ) → k < 2 ^ 64 → nat_lt k (2 ^ 64) ≡ true
small_test k h = grind (arith, nat_tests)

number_of : (n : ℕ) → n < 2 ^ 64 → is_number (decimal n) ≡ true
number_of n small = and_from (nat_lt 0 (length (decimal n))) _ (some_test (length (decimal n)) (decimal_nonempty n small))
    (and_from (list_all is_ascii_digit (decimal n)) _ (digits_decimal n small)
    (subst (λ (k : ℕ). nat_lt k (2 ^ 64) ≡ true) (sym (decimal_is_IsNumeral n small).1) (small_test n small)))

sized_by : (n : ℕ) → n < 2 ^ 64 → framing_by (behind_blanks (decimal n) ∷ []) [] ≡ Sized n
sized_by n small =
    ap (λ (w : List ℕ). framing_by (w ∷ []) []) (no_blank (decimal n) (digits_decimal n small))
    ∙ ap (λ (b : Bool). if b then Sized (digits_value 10 (decimal n)) else Wrong) (number_of n small)
    ∙ ap (λ (k : ℕ). Sized k) (decimal_is_IsNumeral n small).1

-- how a body ends of which so many bytes are counted
framing_sent : Option ℕ → Framing
framing_sent None = ToEnd
framing_sent (Some n) = Sized n

abbrev rest_lines : Bool → List ℕ → Option (List ℕ) → Option ℕ → List (List ℕ)
rest_lines a host t n = (codes "Host: " ++ host) ∷ codes "User-Agent: skopeo"
    ∷ (accept_line a ++ (codes "Accept-Encoding: identity" ∷ (type_line t ++ (size_line n ++ (codes "Connection: close" ∷ [])))))

framing_rest : (a : Bool) (host : List ℕ) (t : Option (List ℕ)) (n : Option ℕ) → counted n < 2 ^ 64
    → framing_of (map header_of (rest_lines a host t n)) ≡ framing_sent n
unfolding eq_ignore_case framing_sent
framing_rest false host None None h = refl
framing_rest false host None (Some n) h = sized_by n h
framing_rest false host (Some t) None h = refl
framing_rest false host (Some t) (Some n) h = sized_by n h
framing_rest true host None None h = refl
framing_rest true host None (Some n) h = sized_by n h
framing_rest true host (Some t) None h = refl
framing_rest true host (Some t) (Some n) h = sized_by n h

covers_sent : (n : Option ℕ) (after : List ℕ) → length after ≤ counted n → Covers (framing_sent n) after
unfolding framing_sent
covers_sent None [] h = refl
covers_sent None (b ∷ bs) h = absurd (omega (arith, h))
covers_sent (Some n) after h = h

-- ---- what was sent of a request

pub holds_one : (r : Request) → HoldsOne r
holds_one r size body sent tail may fits front = record { one = one }
  where
    one : (lines : List LaxLine) (last : Bool) (after : List ℕ) → are_lax lines ≡ true → sent ≡ lax_head lines last after
        → Covers (framing_in (map (λ l. l.bytes) lines)) after
    one lines last after lax e =
        let p = lax_once lines last (after ++ tail) (lines_of r) body lax (are_bare_of r size may)
        (sym (lax_head-append lines last after tail) ∙ sym (ap (λ (w : List ℕ). w ++ tail) e) ∙ front) in
        let within : length after ≤ counted r.length
        = omega (arith, fits, may.counts, length-append {A = ℕ} after tail, ap (λ (w : List ℕ). length w) p.1) in
        subst (λ (ls : List (List ℕ)). Covers (framing_in ls) after) (sym p.0)
        (subst (λ (f : Framing). Covers f after) (sym (framing_rest r.accept r.host r.content_type r.length (subst (λ (n : ℕ). n < 2 ^ 64) (sym may.counts) may.small)))
        (covers_sent r.length after within))

-- a request that may be sent is clean
pub clean_of : (r : Request) (size : ℕ) → MaySend r size → IsClean r
clean_of r size may = record {
  method = may.method;
  host = visible_line r.host may.host;
  target = visible_line r.target may.target;
  content_type = type r.content_type may.content_type;
  size = subst (λ (n : ℕ). n < 2 ^ 64) (sym may.counts) may.small;
}
  where
    type : (t : Option (List ℕ)) → is_visible_type t ≡ true → MatchOption t Unit (λ w. is_one_line w ≡ true)
    type None h = tt
    type (Some t) h = visible_line t h

pub may_counted : (r : Request) (size : ℕ) → MaySend r size → MaySend r (counted r.length)
may_counted r size may = subst (λ (n : ℕ). MaySend r n) (sym may.counts) may

counts_so : (asks : Bool) (length : Option ℕ) (size : ℕ) → counts_body asks length size ≡ true → (counted length ≡ size) × (asks ≡ true → length ≡ None)
counts_so asks None size h = (grind (arith, nat_tests), λ _. refl)
counts_so true (Some n) size h = cc
counts_so false (Some n) size h = (grind (arith, nat_tests), λ e. cc)

so_counts : (asks : Bool) (length : Option ℕ) (size : ℕ) → counted length ≡ size → (asks ≡ true → length ≡ None) → counts_body asks length size ≡ true
so_counts asks None size c a = grind (arith, nat_tests)
so_counts true (Some n) size c a = let e = a refl in cc
so_counts false (Some n) size c a = grind (arith, nat_tests)

pub shown_may : (r : Request) (size : ℕ) → is_shown r ≡ true → counts_body (only_asks r) r.length size ≡ true → size < 2 ^ 64 → MaySend r size
shown_may r size shown body small =
    let p = and_parts (list_all is_ascii_uppercase r.method) (are_visible r.host && (are_visible r.target && is_visible_type r.content_type)) shown in
    let q = and_parts (are_visible r.host) (are_visible r.target && is_visible_type r.content_type) p.1 in
    let t = and_parts (are_visible r.target) (is_visible_type r.content_type) q.1 in
    let c = counts_so (only_asks r) r.length size body in
    record { method = p.0; host = q.0; target = t.0; content_type = t.1; counts = c.0; small = small; asks = c.1 }

pub may_shown : (r : Request) (size : ℕ) → MaySend r size → is_shown r ≡ true
may_shown r size m = and_from _ _ m.method (and_from _ _ m.host (and_from _ _ m.target m.content_type))

pub may_counts : (r : Request) (size : ℕ) → MaySend r size → counts_body (only_asks r) r.length size ≡ true
may_counts r size m = so_counts (only_asks r) r.length size m.counts m.asks
