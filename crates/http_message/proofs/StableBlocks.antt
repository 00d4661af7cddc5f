-- What stands at the front of bytes stands there whatever comes behind: blocks and heads.
use Rattle.std.proofs.Common.{◌≡◌, ◌≢◌, ℕ, zero, suc, ◌-◌, ◌<◌, ◌≤◌, inl, inr, Bool, false, List, ◌++◌, length, length-append, take, drop, get_or, refl, arith, ap, sym, subst, ◌∙◌}
use Rattle.std.proofs.lemmas.Grind.{common_steps}
use Rattle.std.proofs.lemmas.Bool.{false≢true}
use Rattle.std.proofs.lemmas.List.{take-append-le, drop-append-le}
use Rattle.httparse.specs.Grammar.{ResponseHead}
use Rattle.http_message.specs.declared.block.Ending.{Ending}
use Rattle.http_message.specs.declared.block.Ending.TheVariants.{EmptyLine, LineFeed}
use Rattle.http_message.specs.Outcome.{Outcome, answer, bad_answer, encoded, unfinished, head_too_long, headers_too_many, body_too_long}
use Rattle.http_message.specs.Blocks.{ends_at, HasNoEnd, IsBlock, HasNoBlock}
use Rattle.http_message.specs.Heads.{StartsWithHead, HasNoHead, InterimHeads, HasFinalHead, HasNoFinalHead}

index_front : (a b : List ℕ) (i : ℕ) → i < length a → get_or (a ++ b) i 0 ≡ get_or a i 0
index_front a b i h = grind (arith, common_steps)

pub ends_at-append : (ending : Ending) (a b : List ℕ) (i : ℕ) → i < length a → ends_at ending (a ++ b) i ≡ ends_at ending a i
ends_at-append EmptyLine a b i h =
    let e : get_or (a ++ b) i 0 ≡ get_or a i 0 = index_front a b i h in
    let f : get_or (a ++ b) (i - 1) 0 ≡ get_or a (i - 1) 0 = index_front a b (i - 1) (omega arith) in
    let g : get_or (a ++ b) (i - 1 - 1) 0 ≡ get_or a (i - 1 - 1) 0 = index_front a b (i - 1 - 1) (omega arith) in
    rw (e, f, g) refl
ends_at-append LineFeed a b i h = rw (index_front a b i h) refl

pub no_end-append : (ending : Ending) (a b : List ℕ) (n : ℕ) → n ≤ length a → HasNoEnd ending a n → HasNoEnd ending (a ++ b) n
no_end-append ending a b n le none i h = ends_at-append ending a b i (omega arith) ∙ none i h

pub block-append : (ending : Ending) (a b : List ℕ) (n : ℕ) → IsBlock ending a n → IsBlock ending (a ++ b) n
block-append ending a b n is = record {
  within = omega (arith, is.within, length-append {A = ℕ} a b);
  some = is.some;
  most = is.most;
  ends = ends_at-append ending a b (n - 1) (omega (arith, is.within, is.some)) ∙ is.ends;
  first = no_end-append ending a b (n - 1) (omega (arith, is.within)) is.first;
}

-- that no block can come is told before the end by too many bytes alone
pub no_block-append : (ending : Ending) (o : Outcome) (a b : List ℕ) (ended : Bool) → o ≢ unfinished → HasNoBlock ending o a false → HasNoBlock ending o (a ++ b) ended
no_block-append ending (answer x) a b ended told is = absurd is
no_block-append ending bad_answer a b ended told is = absurd (false≢true is.0)
no_block-append ending encoded a b ended told is = absurd is
no_block-append ending unfinished a b ended told is = absurd (told refl)
no_block-append ending (head_too_long n) a b ended told is = (
  is.0,
  omega (arith, is.1, length-append {A = ℕ} a b),
  no_end-append ending a b 65536 (omega (arith, is.1)) is.2,
)
no_block-append ending (headers_too_many n) a b ended told is = absurd is
no_block-append ending (body_too_long n) a b ended told is = absurd is

-- ---- heads

pub head-append : (a b : List ℕ) (n : ℕ) (h : ResponseHead) → StartsWithHead a n h → StartsWithHead (a ++ b) n h
head-append a b n h is =
    let e : take n (a ++ b) ≡ take n a = take-append-le n a b is.block.within in
    record { block = block-append EmptyLine a b n is.block; lines = rw e is.lines; head = rw e is.head }

no_head-append : (o : Outcome) (a b : List ℕ) (ended : Bool) → o ≢ unfinished → HasNoHead o a false → HasNoHead o (a ++ b) ended
no_head-append o a b ended told (inl none) = inl (no_block-append EmptyLine o a b ended told none)
no_head-append o a b ended told (inr (n, is, wrong)) = inr (n, block-append EmptyLine a b n is, rw (take-append-le n a b is.within) wrong)

pub interim-append : (count : ℕ) (a b rest : List ℕ) → InterimHeads count a rest → InterimHeads count (a ++ b) (rest ++ b)
interim-append zero a b rest is = ap (λ (w : List ℕ). w ++ b) is
interim-append (suc count) a b rest (n, g, starts, interim, passed) = (
  n,
  g,
  head-append a b n g starts,
  interim,
  subst (λ (w : List ℕ). InterimHeads count w (rest ++ b)) (sym (drop-append-le n a b starts.block.within)) (interim-append count (drop n a) b rest passed),
)

pub final-append : (skips : ℕ) (a b : List ℕ) (h : ResponseHead) (rest : List ℕ) → HasFinalHead skips a h rest → HasFinalHead skips (a ++ b) h (rest ++ b)
final-append skips a b h rest is = record {
  count = is.count;
  count_fits = is.count_fits;
  here = is.here ++ b;
  passed = interim-append is.count a b is.here is.passed;
  n = is.n;
  head = head-append is.here b is.n h is.head;
  final = is.final;
  rest_is = ap (λ (w : List ℕ). w ++ b) is.rest_is ∙ sym (drop-append-le is.n is.here b is.head.block.within);
}

pub no_final-append : (skips : ℕ) (o : Outcome) (a b : List ℕ) (ended : Bool) → o ≢ unfinished → HasNoFinalHead skips o a false → HasNoFinalHead skips o (a ++ b) ended
no_final-append skips o a b ended told is = record {
  count = is.count;
  here = is.here ++ b;
  passed = interim-append is.count a b is.here is.passed;
  why = elim is.why [
    | inl w ↦ inl (w.0, no_head-append o is.here b ended told w.1)
    | inr w ↦ inr w
  ];
}
