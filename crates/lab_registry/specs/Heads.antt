-- The head of a request (RFC 9112, section 2.1): all bytes up to the end of the first empty line.
use Rattle.std.specs.Prelude.{◌≡◌, ◌<◌, ◌≤◌, ℕ, Bool, List, [], ◌∷◌, length, take, nat_eq, Option, IsTrue, IsFalse}
use Rattle.std.specs.List.{ends_with}
use Rattle.std.specs.Io.KnownBytes.{Consumes, IsAtEnd}

-- the most bytes of a head
abbrev pub head_max : ℕ
head_max = 65536

-- a line end, and an empty line
abbrev pub blank : List ℕ
blank = 13 ∷ 10 ∷ 13 ∷ 10 ∷ []

-- whether bytes end with an empty line
abbrev pub ends_blank : List ℕ → Bool
ends_blank bytes = ends_with nat_eq bytes blank

-- neither these bytes nor a front of them ends with an empty line
abbrev pub HasNoEnd : List ℕ → Type 0
HasNoEnd bytes = (n : ℕ) → IsFalse (ends_blank (take n bytes))

-- a whole head: it ends with an empty line, and no shorter front does
pub record IsHead (bytes : List ℕ) : Type 0 where
  pub ends : IsTrue (ends_blank bytes)
  pub first : (n : ℕ) → n < length bytes → IsFalse (ends_blank (take n bytes))

-- this head was taken off what a reader had left
pub record TakesHead (before after : Option (List ℕ)) (head : List ℕ) : Type 0 where
  pub is_head : IsHead head
  pub few : length head ≤ head_max
  pub taken : Consumes before after head

-- as many bytes as a head may have were taken, and it had no end in them
pub record RunsLong (before after : Option (List ℕ)) : Type 0 where
  pub bytes : List ℕ
  pub all : length bytes ≡ head_max
  pub endless : HasNoEnd bytes
  pub taken : Consumes before after bytes

-- all bytes were taken, and the head had no end in them
pub record IsCut (before after : Option (List ℕ)) : Type 0 where
  pub bytes : List ℕ
  pub endless : HasNoEnd bytes
  pub taken : Consumes before after bytes
  pub nothing : IsAtEnd after
