-- Where blocks end does not hang on what follows.
use Rattle.std.proofs.Common.{◌≡◌, ℕ, ◌-◌, ◌<◌, ◌≤◌, List, ◌++◌, length, length-append, take, get_or, refl, arith, sym, ap, subst, ◌∙◌, Bool, true}
use Rattle.std.proofs.lemmas.Grind.{common_steps}
use Rattle.http_message.specs.declared.block.Ending.{Ending}
use Rattle.http_message.specs.declared.block.Ending.TheVariants.{EmptyLine, LineFeed}
use Rattle.http_message.specs.Blocks.{ends_at, HasNoEnd, IsBlock, HasNoBlock}
use Rattle.std.proofs.lemmas.List.{take-append-le}
use Rattle.http_message.specs.Outcome.{head_too_long}
use Rattle.http_exchange.specs.Found.{Passed}
use Rattle.httparse.specs.Grammar.{ResponseHead}
use Rattle.http_message.specs.Heads.{StartsWithHead}

index_front : (a b : List ℕ) (i : ℕ) → i < length a → get_or (a ++ b) i 0 ≡ get_or a i 0
index_front a b i h = grind (arith, common_steps)

pub ends_at-append : (ending : Ending) (a b : List ℕ) (i : ℕ) → i < length a → ends_at ending (a ++ b) i ≡ ends_at ending a i
ends_at-append EmptyLine a b i h =
    let e : get_or (a ++ b) i 0 ≡ get_or a i 0 = index_front a b i h in
    let f : get_or (a ++ b) (i - 1) 0 ≡ get_or a (i - 1) 0 = index_front a b (i - 1) (omega arith) in
    let g : get_or (a ++ b) (i - 1 - 1) 0 ≡ get_or a (i - 1 - 1) 0 = index_front a b (i - 1 - 1) (omega arith) in
    rw (e, f, g) refl
ends_at-append LineFeed a b i h = rw (index_front a b i h) refl

pub none-append : (ending : Ending) (a b : List ℕ) (n : ℕ) → n ≤ length a → HasNoEnd ending a n → HasNoEnd ending (a ++ b) n
none-append ending a b n le none i h = ends_at-append ending a b i (omega arith) ∙ none i h

pub none-grown : (ending : Ending) (a c b : List ℕ) (n : ℕ) → n ≤ length a → c ≡ a ++ b → HasNoEnd ending a n → HasNoEnd ending c n
none-grown ending a c b n le e none = subst (λ (x : List ℕ). HasNoEnd ending x n) (sym e) (none-append ending a b n le none)

pub block-append : (ending : Ending) (a b : List ℕ) (n : ℕ) → IsBlock ending a n → IsBlock ending (a ++ b) n
block-append ending a b n is = record {
  within = omega (arith, is.within, length-append {A = ℕ} a b);
  some = is.some;
  most = is.most;
  ends = ends_at-append ending a b (n - 1) (omega (arith, is.within, is.some)) ∙ is.ends;
  first = none-append ending a b (n - 1) (omega (arith, is.within)) is.first;
}

pub head-append : (a b : List ℕ) (n : ℕ) (h : ResponseHead) → StartsWithHead a n h → StartsWithHead (a ++ b) n h
head-append a b n h is =
    let e : take n (a ++ b) ≡ take n a = take-append-le n a b is.block.within in
    record {
      block = block-append EmptyLine a b n is.block;
      lines = rw e is.lines;
      head = rw e is.head;
    }

-- one byte more than a block may have, without an end
pub overlong_found : (ending : Ending) (before all : List ℕ) (ended : Bool) → length before ≡ 65536 → HasNoEnd ending before 65536
    → Passed before true all ended → HasNoBlock ending (head_too_long 65537) all ended
overlong_found ending before all ended full none p = (
  refl,
  omega (arith, full, p.some refl, ap (λ (w : List ℕ). length w) p.all_is, length-append {A = ℕ} before p.tail),
  none-grown ending before all p.tail 65536 (omega (arith, full)) p.all_is none,
)
