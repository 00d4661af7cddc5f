-- At most one head of an answer stands behind the interim ones, and else at most one fault.
use Rattle.std.proofs.Common.{◌≡◌, ℕ, suc, zero, ◌+◌, ◌<◌, ◌≤◌, ◌⊎◌, inl, inr, Bool, true, false, List, [], take, drop, refl, arith, ap, sym, subst, ◌∙◌}
use Rattle.httparse.specs.Grammar.{ResponseHead, status_code}
use Rattle.httparse.proofs.GrammarLemmas.{response_unique}
use Rattle.http_message.specs.declared.block.Ending.TheVariants.{EmptyLine}
use Rattle.http_message.specs.Outcome.{Outcome, answer, bad_answer, encoded, unfinished, head_too_long, headers_too_many, body_too_long}
use Rattle.http_message.specs.Heads.{StartsWithHead, IsWrongHead, HasNoHead, InterimHeads, HasFinalHead, HasNoFinalHead, is_interim, header_lines, IsHead}
use Rattle.http_message.proofs.UniqueBlocks.{true_is_not_false, le_or_lt, block_unique, no_block, no_block_unique}

pub data WhyWrong (o : Outcome) (lines : ℕ) : Type 0 where
  no_reading : o ≡ bad_answer → lines ≤ 100 → WhyWrong o lines
  many_lines : o ≡ headers_too_many lines → 100 < lines → WhyWrong o lines

pub why_wrong : (o : Outcome) (block : List ℕ) → IsWrongHead o block → WhyWrong o (header_lines block)
why_wrong (headers_too_many k) block w = many_lines (ap headers_too_many w.1) w.0
why_wrong bad_answer block w = no_reading refl w.0
why_wrong unfinished block w = absurd w
why_wrong encoded block w = absurd w
why_wrong (answer r) block w = absurd w
why_wrong (head_too_long k) block w = absurd w
why_wrong (body_too_long k) block w = absurd w

one_wrong : (o p : Outcome) (lines : ℕ) → WhyWrong o lines → WhyWrong p lines → o ≡ p
one_wrong o p lines (no_reading a b) (no_reading x y) = a ∙ sym x
one_wrong o p lines (no_reading a b) (many_lines x y) = absurd (omega arith)
one_wrong o p lines (many_lines a b) (no_reading x y) = absurd (omega arith)
one_wrong o p lines (many_lines a b) (many_lines x y) = a ∙ sym x

wrong_is_no_head : (o : Outcome) (block : List ℕ) (h : ResponseHead) → IsWrongHead o block → header_lines block ≤ 100 → IsHead block h → ⊥
wrong_is_no_head (headers_too_many k) block h w few is = omega (arith, w.0)
wrong_is_no_head bad_answer block h w few is = w.1 h is
wrong_is_no_head unfinished block h w few is = w
wrong_is_no_head encoded block h w few is = w
wrong_is_no_head (answer r) block h w few is = w
wrong_is_no_head (head_too_long k) block h w few is = w
wrong_is_no_head (body_too_long k) block h w few is = w

pub head_unique : (bytes : List ℕ) (n m : ℕ) (h g : ResponseHead) → StartsWithHead bytes n h → StartsWithHead bytes m g → (n ≡ m) × (h ≡ g)
head_unique bytes n m h g x y =
    let same = block_unique EmptyLine bytes n m x.block y.block in (
      same,
      (response_unique (take n bytes) h g [] [] x.head (subst (λ (k : ℕ). IsHead (take k bytes) g) (sym same) y.head)).0,
    )

pub no_head_head : (o : Outcome) (bytes : List ℕ) (ended : Bool) (n : ℕ) (h : ResponseHead) → HasNoHead o bytes ended → StartsWithHead bytes n h → ⊥
no_head_head o bytes ended n h (inl none) is = no_block EmptyLine o bytes ended n none is.block
no_head_head o bytes ended n h (inr w) is =
    let same = block_unique EmptyLine bytes n w.0 is.block w.1 in
    wrong_is_no_head o (take n bytes) h (subst (λ (k : ℕ). IsWrongHead o (take k bytes)) (sym same) w.2) is.lines is.head

pub no_head_unique : (o p : Outcome) (bytes : List ℕ) (ended : Bool) → HasNoHead o bytes ended → HasNoHead p bytes ended → o ≡ p
no_head_unique o p bytes ended (inl x) (inl y) = no_block_unique EmptyLine o p bytes ended x y
no_head_unique o p bytes ended (inl x) (inr y) = absurd (no_block EmptyLine o bytes ended y.0 x y.1)
no_head_unique o p bytes ended (inr x) (inl y) = absurd (no_block EmptyLine p bytes ended x.0 y x.1)
no_head_unique o p bytes ended (inr x) (inr y) =
    let same = block_unique EmptyLine bytes x.0 y.0 x.1 y.1 in
    one_wrong o p (header_lines (take x.0 bytes)) (why_wrong o (take x.0 bytes) x.2)
    (why_wrong p (take x.0 bytes) (subst (λ (k : ℕ). IsWrongHead p (take k bytes)) (sym same) y.2))

-- ---- interim heads

-- no interim head stands here
NotInterim : List ℕ → Type 0
NotInterim here = (n : ℕ) (g : ResponseHead) → StartsWithHead here n g → is_interim (status_code g) ≡ true → ⊥

interim_same : (c : ℕ) (bytes x y : List ℕ) → InterimHeads c bytes x → InterimHeads c bytes y → x ≡ y
interim_same zero bytes x y p q = p ∙ sym q
interim_same (suc c) bytes x y p q =
    let same = (head_unique bytes p.0 q.0 p.1 q.1 p.2 q.2).0 in
    interim_same c (drop p.0 bytes) x y p.4 (subst (λ (k : ℕ). InterimHeads c (drop k bytes) y) (sym same) q.4)

-- the longer of two runs of interim heads has one where the shorter ends
interim_less : (c d : ℕ) (bytes x y : List ℕ) → c < d → InterimHeads c bytes x → InterimHeads d bytes y
    → (n : ℕ) × (g : ResponseHead) × StartsWithHead x n g × (is_interim (status_code g) ≡ true)
interim_less c zero bytes x y less p q = absurd (omega arith)
interim_less zero (suc d) bytes x y less p q = (q.0, q.1, subst (λ (w : List ℕ). StartsWithHead w q.0 q.1) (sym p) q.2, q.3)
interim_less (suc c) (suc d) bytes x y less p q =
    let same = (head_unique bytes p.0 q.0 p.1 q.1 p.2 q.2).0 in
    interim_less c d (drop p.0 bytes) x y (omega arith) p.4 (subst (λ (k : ℕ). InterimHeads d (drop k bytes) y) (sym same) q.4)

not_less : (c d : ℕ) (bytes x y : List ℕ) → InterimHeads c bytes x → InterimHeads d bytes y → NotInterim x → d ≤ c
unfolding NotInterim
not_less c d bytes x y p q not = by_order (le_or_lt d c)
  where
    by_order : (d ≤ c) ⊎ (c < d) → d ≤ c
    by_order (inl h) = h
    by_order (inr h) = let f = interim_less c d bytes x y h p q in absurd (not f.0 f.1 f.2 f.3)

final_not_interim : (here : List ℕ) (n : ℕ) (h : ResponseHead) → StartsWithHead here n h → is_interim (status_code h) ≡ false → NotInterim here
unfolding NotInterim
final_not_interim here n h is last m g other interim =
    true_is_not_false _ (ap (λ (k : ResponseHead). is_interim (status_code k)) (head_unique here n m h g is other).1 ∙ interim) last

none_not_interim : (o : Outcome) (here : List ℕ) (ended : Bool) → HasNoHead o here ended → NotInterim here
unfolding NotInterim
none_not_interim o here ended none m g other interim = no_head_head o here ended m g none other

-- two places where no interim head stands are one
one_place : (c d : ℕ) (bytes x y : List ℕ) → InterimHeads c bytes x → InterimHeads d bytes y → NotInterim x → NotInterim y → x ≡ y
one_place c d bytes x y p q not_x not_y =
    let same : c ≡ d = omega (arith, not_less c d bytes x y p q not_x, not_less d c bytes y x q p not_y) in
    interim_same d bytes x y (subst (λ (k : ℕ). InterimHeads k bytes x) same p) q

pub final_unique : (skips : ℕ) (bytes : List ℕ) (h g : ResponseHead) (r q : List ℕ) → HasFinalHead skips bytes h r → HasFinalHead skips bytes g q
    → (h ≡ g) × (r ≡ q)
final_unique skips bytes h g r q x y =
    let place = one_place x.count y.count bytes x.here y.here x.passed y.passed
    (final_not_interim x.here x.n h x.head x.final) (final_not_interim y.here y.n g y.head y.final) in
    let heads = head_unique x.here x.n y.n h g x.head (subst (λ (w : List ℕ). StartsWithHead w y.n g) (sym place) y.head) in (
      heads.1,
      x.rest_is ∙ ap (λ (k : ℕ). drop k x.here) heads.0 ∙ ap (λ (w : List ℕ). drop y.n w) place ∙ sym y.rest_is,
    )

pub final_or_none : (skips : ℕ) (o : Outcome) (bytes : List ℕ) (ended : Bool) (h : ResponseHead) (r : List ℕ) → HasFinalHead skips bytes h r
    → HasNoFinalHead skips o bytes ended → ⊥
final_or_none skips o bytes ended h r x y = by_why y.why
  where
    not : NotInterim x.here
    not = final_not_interim x.here x.n h x.head x.final

    by_why : ((y.count ≤ skips) × HasNoHead o y.here ended) ⊎ ((y.count ≡ skips + 1) × (o ≡ bad_answer)) → ⊥
    by_why (inl w) =
        let place = one_place x.count y.count bytes x.here y.here x.passed y.passed not (none_not_interim o y.here ended w.1) in
        no_head_head o y.here ended x.n h w.1 (subst (λ (v : List ℕ). StartsWithHead v x.n h) place x.head)
    by_why (inr w) = absurd (omega (arith, not_less x.count y.count bytes x.here y.here x.passed y.passed not, x.count_fits, w.0))

pub none_unique : (skips : ℕ) (o p : Outcome) (bytes : List ℕ) (ended : Bool) → HasNoFinalHead skips o bytes ended → HasNoFinalHead skips p bytes ended → o ≡ p
none_unique skips o p bytes ended x y = by_why x.why y.why
  where
    by_why : ((x.count ≤ skips) × HasNoHead o x.here ended) ⊎ ((x.count ≡ skips + 1) × (o ≡ bad_answer))
        → ((y.count ≤ skips) × HasNoHead p y.here ended) ⊎ ((y.count ≡ skips + 1) × (p ≡ bad_answer)) → o ≡ p
    by_why (inl v) (inl w) =
        let place = one_place x.count y.count bytes x.here y.here x.passed y.passed
        (none_not_interim o x.here ended v.1) (none_not_interim p y.here ended w.1) in
        no_head_unique o p x.here ended v.1 (subst (λ (u : List ℕ). HasNoHead p u ended) (sym place) w.1)
    by_why (inl v) (inr w) = absurd (omega (arith, not_less x.count y.count bytes x.here y.here x.passed y.passed (none_not_interim o x.here ended v.1), v.0, w.0))
    by_why (inr v) (inl w) = absurd (omega (arith, not_less y.count x.count bytes y.here x.here y.passed x.passed (none_not_interim p y.here ended w.1), v.0, w.0))
    by_why (inr v) (inr w) = v.1 ∙ sym w.1
