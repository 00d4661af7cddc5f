-- Bytes give at most one body of a stated length, or to the end, and else at most one fault.
use Rattle.std.proofs.Common.{◌≡◌, ℕ, ◌+◌, ◌<◌, ◌≤◌, Bool, true, false, List, length, refl, arith, ap, sym, ◌∙◌}
use Rattle.http_message.specs.Outcome.{Outcome, answer, bad_answer, encoded, unfinished, head_too_long, headers_too_many, body_too_long}
use Rattle.http_message.specs.Bodies.{TooFew, NoSizedBody, NoBodyToEnd}
use Rattle.http_message.proofs.UniqueBlocks.{true_is_not_false}

-- ---- too few bytes

pub data WhyFew (o : Outcome) (ended : Bool) : Type 0 where
  was_ended : o ≡ bad_answer → ended ≡ true → WhyFew o ended
  goes_on : o ≡ unfinished → ended ≡ false → WhyFew o ended

pub few_why : (count : ℕ) (o : Outcome) (all : List ℕ) (ended : Bool) → TooFew count o all ended → (WhyFew o ended) × (length all < count)
few_why count bad_answer all ended f = (was_ended refl f.0, f.1)
few_why count unfinished all ended f = (goes_on refl f.0, f.1)
few_why count encoded all ended f = absurd f
few_why count (answer r) all ended f = absurd f
few_why count (head_too_long k) all ended f = absurd f
few_why count (headers_too_many k) all ended f = absurd f
few_why count (body_too_long k) all ended f = absurd f

pub one_few : (o p : Outcome) (ended : Bool) → WhyFew o ended → WhyFew p ended → o ≡ p
one_few o p ended (was_ended a b) (was_ended x y) = a ∙ sym x
one_few o p ended (was_ended a b) (goes_on x y) = absurd (true_is_not_false _ b y)
one_few o p ended (goes_on a b) (was_ended x y) = absurd (true_is_not_false _ y b)
one_few o p ended (goes_on a b) (goes_on x y) = a ∙ sym x

-- ---- a body of a stated size

pub data WhySized (size limit : ℕ) (o : Outcome) (got : ℕ) (ended : Bool) : Type 0 where
  over : o ≡ body_too_long (limit + 1) → limit < size → limit < got → WhySized size limit o got ended
  few : WhyFew o ended → got < size → got ≤ limit → WhySized size limit o got ended

pub sized_why : (size limit : ℕ) (o : Outcome) (all : List ℕ) (ended : Bool) → NoSizedBody size limit o all ended → WhySized size limit o (length all) ended
sized_why size limit (body_too_long k) all ended f = over (ap body_too_long f.0) f.1 f.2
sized_why size limit bad_answer all ended f = few (was_ended refl f.0) f.1 f.2
sized_why size limit unfinished all ended f = few (goes_on refl f.0) f.1 f.2
sized_why size limit encoded all ended f = absurd f
sized_why size limit (answer r) all ended f = absurd f
sized_why size limit (head_too_long k) all ended f = absurd f
sized_why size limit (headers_too_many k) all ended f = absurd f

pub one_sized : (size limit : ℕ) (o p : Outcome) (got : ℕ) (ended : Bool) → WhySized size limit o got ended → WhySized size limit p got ended → o ≡ p
one_sized size limit o p got ended (over a b c) (over x y z) = a ∙ sym x
one_sized size limit o p got ended (over a b c) (few x y z) = absurd (omega arith)
one_sized size limit o p got ended (few a b c) (over x y z) = absurd (omega arith)
one_sized size limit o p got ended (few a b c) (few x y z) = one_few o p ended a x

pub sized_or_none : (size limit : ℕ) (o : Outcome) (got : ℕ) (ended : Bool) → WhySized size limit o got ended → size ≤ limit → size ≤ got → ⊥
sized_or_none size limit o got ended (over a b c) s g = omega arith
sized_or_none size limit o got ended (few a b c) s g = omega arith

-- ---- a body to the end

pub data WhyOpen (limit : ℕ) (o : Outcome) (got : ℕ) (ended : Bool) : Type 0 where
  over : o ≡ body_too_long (limit + 1) → limit < got → WhyOpen limit o got ended
  goes_on : o ≡ unfinished → ended ≡ false → got ≤ limit → WhyOpen limit o got ended

pub open_why : (limit : ℕ) (o : Outcome) (all : List ℕ) (ended : Bool) → NoBodyToEnd limit o all ended → WhyOpen limit o (length all) ended
open_why limit (body_too_long k) all ended f = over (ap body_too_long f.0) f.1
open_why limit unfinished all ended f = goes_on refl f.0 f.1
open_why limit bad_answer all ended f = absurd f
open_why limit encoded all ended f = absurd f
open_why limit (answer r) all ended f = absurd f
open_why limit (head_too_long k) all ended f = absurd f
open_why limit (headers_too_many k) all ended f = absurd f

pub one_open : (limit : ℕ) (o p : Outcome) (got : ℕ) (ended : Bool) → WhyOpen limit o got ended → WhyOpen limit p got ended → o ≡ p
one_open limit o p got ended (over a b) (over x y) = a ∙ sym x
one_open limit o p got ended (over a b) (goes_on x y z) = absurd (omega arith)
one_open limit o p got ended (goes_on a b c) (over x y) = absurd (omega arith)
one_open limit o p got ended (goes_on a b c) (goes_on x y z) = a ∙ sym x

pub open_or_none : (limit : ℕ) (o : Outcome) (got : ℕ) (ended : Bool) → WhyOpen limit o got ended → ended ≡ true → got ≤ limit → ⊥
open_or_none limit o got ended (over a b) e g = omega arith
open_or_none limit o got ended (goes_on a b c) e g = true_is_not_false _ e b
