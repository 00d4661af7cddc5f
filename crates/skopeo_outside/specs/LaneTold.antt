-- What a lane tells, as contracts see it, and how it goes on.
use Rattle.std.specs.Prelude.{◌≡◌, ◌≤◌, ◌++◌, ◌⊎◌, ℕ, List, Bool, Option, Some, None}
use Rattle.skopeo_outside.specs.Tree.{Tree}
use Rattle.skopeo_outside.specs.Wire.{Conversation, Conversations}
use Rattle.skopeo_outside.specs.Outside.{Told, Rose}

-- what a wire tells: its conversations, its count of faults, and whether a connection is open
pub record WireTold : Type 0 where
  pub talks : Conversations
  pub faults : ℕ
  pub is_open : Bool

-- what files tell: their tree, and their count of faults
pub record FilesTold : Type 0 where
  pub tree : Option Tree
  pub faults : ℕ

-- what a lane tells: its two wires, its files and its number
pub record LaneTold : Type 0 where
  pub from : WireTold
  pub to : WireTold
  pub files : FilesTold
  pub number : ℕ

-- conversations that were told are told again, and perhaps others behind them
pub record AreMore (old new : List Conversation) : Type 0 where
  pub more : List Conversation
  pub is : new ≡ old ++ more

-- a wire later: what it told it tells still, and its count has not fallen
pub record IsLaterWire (old new : WireTold) : Type 0 where
  pub talks : Told AreMore old.talks new.talks
  pub faults : old.faults ≤ new.faults

-- files later: where they told a tree they tell one still, and their count has not fallen
pub record IsLaterFiles (old new : FilesTold) : Type 0 where
  pub tells : Told (λ _ _. Unit {0}) old.tree new.tree
  pub faults : old.faults ≤ new.faults

-- a lane later: so are its wires and its files, and the number is the same
pub record IsLater (old new : LaneTold) : Type 0 where
  pub from : IsLaterWire old.from new.from
  pub to : IsLaterWire old.to new.to
  pub files : IsLaterFiles old.files new.files
  pub number : new.number ≡ old.number

-- a fault of the lane's files: the count is theirs at the end, and rose
pub record BlamesFiles (count : ℕ) (old new : LaneTold) : Type 0 where
  pub is : count ≡ new.files.faults
  pub rose : Rose old.files.faults new.files.faults

-- the same of one wire, and of either wire of a lane
pub record BlamesOne (count : ℕ) (old new : WireTold) : Type 0 where
  pub is : count ≡ new.faults
  pub rose : Rose old.faults new.faults

abbrev pub BlamesWire : ℕ → LaneTold → LaneTold → Type 0
BlamesWire count old new = BlamesOne count old.from new.from ⊎ BlamesOne count old.to new.to
