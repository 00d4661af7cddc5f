-- Heads that are passed over.
use Rattle.std.proofs.Common.{◌≡◌, ℕ, suc, ◌+◌, ◌≤◌, ◌⊎◌, inl, inr, Bool, true, false, List, ◌++◌, drop, refl, arith, ap, sym, subst, ◌∙◌, Result, Ok}
use Rattle.std.proofs.lemmas.List.{drop-append-le}
use Rattle.skopeo_outside.specs.Wire.{Conversations, GoesOn, with_received}
use Rattle.httparse.specs.Grammar.{ResponseHead, status_code}
use Rattle.http_message.specs.declared.fault.AnswerFault.{AnswerFault}
use Rattle.http_message.specs.declared.head.Head.{Head}
use Rattle.http_message.specs.Outcome.{Outcome, bad_answer}
use Rattle.http_message.specs.Heads.{StartsWithHead, HasNoHead, InterimHeads, HasNoFinalHead, is_interim}
use Rattle.http_exchange.specs.Received.{Held, Receives}
use Rattle.http_exchange.specs.Found.{HeadFound, FinalHeadFound}
use Rattle.http_exchange.proofs.Rounds.{receives_behind}
use Rattle.http_exchange.proofs.Ends.{head-append}

pub no_head : (skips : ℕ) (o : Outcome) (all : List ℕ) (ended : Bool) → HasNoHead o all ended → HasNoFinalHead skips o all ended
no_head skips o all ended none = record { count = 0; here = all; passed = refl; why = inl (omega arith, none) }

pub final_head : (skips : ℕ) (y : List ℕ) (head : Head) (all : List ℕ) (ended : Bool) → is_interim head.status ≡ false
    → HeadFound y head all ended → FinalHeadFound skips y head all ended
final_head skips y head all ended last (n, h, starts, shows, rest, more) = (
  h,
  record {
    count = 0;
    count_fits = omega arith;
    here = all;
    passed = refl;
    n = n;
    head = starts;
    final = ap is_interim (sym shows.status) ∙ last;
    rest_is = rest;
  },
  shows,
  more,
)

-- one interim head before others
passed_more : (count : ℕ) (all more : List ℕ) (n : ℕ) (g : ResponseHead) (y here : List ℕ) → y ≡ drop n all
    → StartsWithHead all n g → is_interim (status_code g) ≡ true → InterimHeads count (y ++ more) here
    → InterimHeads (suc count) (all ++ more) here
passed_more count all more n g y here e starts interim passed = (
  n,
  g,
  head-append all more n g starts,
  interim,
  subst (λ (w : List ℕ). InterimHeads count w here)
      (ap (λ (w : List ℕ). w ++ more) e ∙ sym (drop-append-le n all more starts.block.within)) passed,
)

pub final_behind : (k skips : ℕ) (y z : List ℕ) (head next : Head) (all more : List ℕ) (ended e : Bool) → skips ≡ k + 1
    → is_interim head.status ≡ true → HeadFound y head all e
    → FinalHeadFound k z next (y ++ more) ended → FinalHeadFound skips z next (all ++ more) ended
final_behind k skips y z head next all more ended e more_skips interim (n, g, starts, shows, rest, open_yet) (h, f, shown, still) = (
  h,
  record {
    count = suc f.count;
    count_fits = omega (arith, f.count_fits);
    here = f.here;
    passed = passed_more f.count all more n g y f.here rest starts (ap is_interim (sym shows.status) ∙ interim) f.passed;
    n = f.n;
    head = f.head;
    final = f.final;
    rest_is = f.rest_is;
  },
  shown,
  still,
)

pub no_final_behind : (k skips : ℕ) (y : List ℕ) (head : Head) (o : Outcome) (all more : List ℕ) (ended e : Bool) → skips ≡ k + 1
    → is_interim head.status ≡ true → HeadFound y head all e
    → HasNoFinalHead k o (y ++ more) ended → HasNoFinalHead skips o (all ++ more) ended
no_final_behind k skips y head o all more ended e more_skips interim (n, g, starts, shows, rest, open_yet) f = record {
  count = suc f.count;
  here = f.here;
  passed = passed_more f.count all more n g y f.here rest starts (ap is_interim (sym shows.status) ∙ interim) f.passed;
  why = cases f.why;
}
  where
    cases : ((f.count ≤ k) × HasNoHead o f.here ended) ⊎ ((f.count ≡ k + 1) × (o ≡ bad_answer))
        → ((suc f.count ≤ skips) × HasNoHead o f.here ended) ⊎ ((suc f.count ≡ skips + 1) × (o ≡ bad_answer))
    cases (inl w) = inl (omega (arith, w.0), w.1)
    cases (inr w) = inr (omega (arith, w.0), w.1)

pub one_too_many : (skips : ℕ) (y : List ℕ) (head : Head) (all : List ℕ) (ended : Bool) → skips ≡ 0
    → is_interim head.status ≡ true → HeadFound y head all ended → HasNoFinalHead skips bad_answer all ended
one_too_many skips y head all ended none interim (n, g, starts, shows, rest, open_yet) = record {
  count = 1;
  here = drop n all;
  passed = (n, g, starts, ap is_interim (sym shows.status) ∙ interim, refl);
  why = inr (omega arith, refl);
}

-- the two calls of the loop, one after the other
pub head_then : {a b c : Conversations} {h m n : Held} (k skips : ℕ) (head : Head) (r : Result Head AnswerFault) → skips ≡ k + 1
    → is_interim head.status ≡ true → Receives a b h m (HeadFound m.waiting) HasNoHead (Ok head)
    → Receives b c m n (FinalHeadFound k n.waiting) (HasNoFinalHead k) r → Receives a c h n (FinalHeadFound skips n.waiting) (HasNoFinalHead skips) r
head_then {a} {b} {c} {h} {m} {n} k skips head r e interim p q =
    receives_behind p.added (FinalHeadFound k n.waiting) (HasNoFinalHead k) (FinalHeadFound skips n.waiting) (HasNoFinalHead skips) r
    (subst (λ (w : Bool). GoesOn (with_received p.added w) a b) p.gives.5 p.told) p.noted q
    (λ v more ended. final_behind k skips m.waiting n.waiting head v (h.waiting ++ p.added) more ended p.ended e interim p.gives)
    (λ o more ended. no_final_behind k skips m.waiting head o (h.waiting ++ p.added) more ended p.ended e interim p.gives)
