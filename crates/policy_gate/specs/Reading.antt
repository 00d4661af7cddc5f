-- Readings of an object's members in byte order of their names: the value, or the steps to the first bad member.
use Rattle.std.specs.Prelude.{ℕ, List, [], ◌∷◌, Option, Some, None, if◌then◌else◌, Ok, Err, ⊤}
use Rattle.std.specs.Ordering.{nat_cmp, is_lt}
use Rattle.std.specs.Cmp.Lexicographic.{slice_cmp}
use Rattle.serde_json.specs.Data.{Data, object}
use Rattle.serde_json.specs.Find.{get_member}
use Rattle.json_tree.specs.declared.path.Step.TheVariants.{Name}
use Rattle.json_tree.specs.Checked.{Checked, under}
use Rattle.json_tree.specs.Leaf.{text_of, bad}
use Rattle.policy_file.specs.Members.{unknown_name}

-- one after the other: the first fault counts
infixl 10 ◌>>=◌
abbrev pub ◌>>=◌ : {A B : Type 0} → Checked A → (A → Checked B) → Checked B
(Ok x) >>= f = f x
(Err p) >>= f = Err p

-- the member of that name is bad
abbrev pub bad_at : List ℕ → Checked ⊤
bad_at name = Err (Name name ∷ [])

-- an unknown member before this name is the fault
abbrev pub none_before : List ℕ → Option (List ℕ) → Checked ⊤
none_before name None = Ok tt
none_before name (Some other) = if is_lt (slice_cmp nat_cmp other name) then bad_at other else Ok tt

-- any unknown member is the fault
abbrev pub none_left : Option (List ℕ) → Checked ⊤
none_left None = Ok tt
none_left (Some other) = bad_at other

-- the member of that name, behind the unknown members before it
abbrev pub next : {A : Type 0} → List ℕ → Option (List ℕ) → Checked A → Checked A
next name unknown read = none_before name unknown >>= (λ _. under (Name name) read)

-- an object whose one member is that text
abbrev pub only_text : List ℕ → Option Data → Checked (List ℕ)
only_text name (Some (object ms)) = do
  text ← next name (unknown_name (name ∷ []) ms) (text_of (get_member name ms))
  _ ← none_left (unknown_name (name ∷ []) ms)
  Ok text
only_text name _ = bad
