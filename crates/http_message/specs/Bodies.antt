-- A body of a stated length, and one that goes to the end of the connection, each within a limit.
use Rattle.std.specs.Prelude.{◌≡◌, ℕ, ◌+◌, ◌<◌, ◌≤◌, Bool, true, false, List, length, take}
use Rattle.http_message.specs.Outcome.{Outcome, bad_answer, unfinished, body_too_long}

-- fewer bytes came than these: a bad answer once the end has come, and unfinished before
abbrev pub TooFew : ℕ → Outcome → List ℕ → Bool → Type 0
TooFew count bad_answer all ended = (ended ≡ true) × (length all < count)
TooFew count unfinished all ended = (ended ≡ false) × (length all < count)
TooFew count _ all ended = ⊥

-- the bytes begin with a body of that size, which is within the limit
pub record SizedBody (size limit : ℕ) (body all : List ℕ) : Type 0 where
  pub within : size ≤ limit
  pub whole : size ≤ length all
  pub body_is : body ≡ take size all

-- They do not: too few came, or the body is above its limit and one byte more than that came.
abbrev pub NoSizedBody : ℕ → ℕ → Outcome → List ℕ → Bool → Type 0
NoSizedBody size limit (body_too_long n) all ended = (n ≡ limit + 1) × (limit < size) × (limit < length all)
NoSizedBody size limit bad_answer all ended = (ended ≡ true) × (length all < size) × (length all ≤ limit)
NoSizedBody size limit unfinished all ended = (ended ≡ false) × (length all < size) × (length all ≤ limit)
NoSizedBody size limit _ all ended = ⊥

-- all bytes up to the end are the body
abbrev pub BodyToEnd : ℕ → List ℕ → List ℕ → Bool → Type 0
BodyToEnd limit body all ended = (ended ≡ true) × (body ≡ all) × (length all ≤ limit)

-- They are not: the end has not come, or one byte more than the limit came.
abbrev pub NoBodyToEnd : ℕ → Outcome → List ℕ → Bool → Type 0
NoBodyToEnd limit (body_too_long n) all ended = (n ≡ limit + 1) × (limit < length all)
NoBodyToEnd limit unfinished all ended = (ended ≡ false) × (length all ≤ limit)
NoBodyToEnd limit _ all ended = ⊥
