-- Which calls of an object in memory fail: those whose numbers are listed.
use Rattle.std.specs.Prelude.{◌≡◌, ◌==◌, ◌+◌, ◌-◌, ◌/◌, ◌^◌, ℕ, List, Bool, length, take, min, Result, OnOk, IsErrOf, IsTrue, IsFalse, if◌then◌else◌}
use Rattle.std.specs.List.{list_any}
use Rattle.skopeo_outside.specs.Outside.{HasCause}
use Rattle.skopeo_outside.specs.declared.failures.Failures.{Failures}
use Rattle.skopeo_outside.specs.declared.stop.Stop.{Stop}
use Rattle.skopeo_outside.specs.declared.stop.Stop.TheVariants.{Fault}

-- one more, up to the last value of a u64
abbrev pub risen : ℕ → ℕ
risen count = min (count + 1) (2 ^ 64 - 1)

-- whether the number of the next call is listed
abbrev pub is_next_listed : Failures → Bool
is_next_listed failures = list_any (λ n. n == risen failures.calls) failures.failing.items

-- the same list after one more call, which is counted, and whose fault is counted where it is listed
abbrev pub after_call : Failures → Failures
after_call failures =
    record failures { calls = risen failures.calls; count = if is_next_listed failures then risen failures.count else failures.count }

-- the first half of what a call was given, which one that fails still takes
abbrev pub first_half : List ℕ → List ℕ
first_half bytes = take (length bytes / 2) bytes

-- a call was counted; a listed one did not answer Ok, and only a listed one answered a fault
pub record FailsAsListed {T : Type 0} (before now : Failures) (result : Result T Stop) : Type 0 where
  pub after : now ≡ after_call before
  pub listed : OnOk result (IsFalse (is_next_listed before))
  pub fault : IsErrOf result Fault → IsTrue (is_next_listed before)
  pub cause : HasCause before.count now.count result
