-- Trees that are made of records.
use Rattle.std.specs.Prelude.{◌≡◌, List, [], ◌∷◌, Result, IsOk}
use Rattle.std.specs.Borrow.{Bor}
use Rattle.serde_json.specs.declared.value.Value.{Value}
use Rattle.skopeo_outside.specs.declared.stop.Memory.{Memory}
use Rattle.serde_json.specs.Data.{string, Members, no_members, member, put}
use Rattle.skopeo_outside.specs.declared.pair.Pair.{Pair}

-- the members, with these pairs put in
abbrev pub put_all : List Pair → Members → Members
put_all [] ms = ms
put_all (p ∷ ps) ms = put_all ps (put p.name (string p.value) ms)

-- pairs in order
abbrev pub pairs_data : List Pair → Members
pairs_data [] = no_members
pairs_data (p ∷ ps) = member p.name (string p.value) (pairs_data ps)

-- some call of this function on the item answered a value
pub record WasMade {A : Type 0} (Post : Bor A → Result Value Memory → Type 0) (item : A) : Type 0 where
  pub arg : Bor A
  pub answer : Result Value Memory
  pub post : Post arg answer
  pub of : arg.now ≡ item
  pub made : IsOk answer
