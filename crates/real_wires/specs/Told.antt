-- What a real connection tells: its count of faults, and whether it is open. Of the bytes that pass it tells nothing.
use Rattle.std.specs.Prelude.{ℕ, Bool}

pub record WireIs : Type 0 where
  pub count : ℕ
  pub is_up : Bool
