-- Sorts of refusals: which may come at any step, and what these show.
use Rattle.std.specs.Prelude.{◌≡◌, List, ℕ, Bool, true, false}
use Rattle.skopeo_outside.specs.LaneTold.{LaneTold}
use Rattle.skopeo_outside.specs.Outside.{Rose, Told, HasPrefixOf}
use Rattle.transports.specs.declared.refusal.Refusal.TheVariants as image
use Rattle.transports.specs.Refusals as of_image
use Rattle.skopeo_app.specs.declared.refusal.CommandRefusal.{CommandRefusal}
use Rattle.skopeo_app.specs.declared.refusal.CommandRefusal.TheVariants.{Words, Reference, SamePlace, NotBuilt, PolicyMissing, PolicyInvalid, PolicyTooLarge, ConfMissing, ConfInvalid, ConfTooLarge, Image, Output}
use Rattle.skopeo_app.specs.Sinks.{SinkTold, HasFailed}

-- want of memory, which may come at any step
abbrev pub is_memory : CommandRefusal → Bool
is_memory (Image e) = of_image.is_memory e
is_memory _ = false

-- the same on one lane, and faults of its objects
abbrev pub is_free : CommandRefusal → Bool
is_free (Image e) = of_image.is_free e
is_free _ = false

-- what these show on the lane
abbrev pub Shows : CommandRefusal → LaneTold → LaneTold → Type 0
Shows (Image e) old new = of_image.Shows e old new
Shows _ old new = Unit {0}

-- a fault of the output bears its count at the end, which rose
abbrev pub BlamesOutput : CommandRefusal → SinkTold → SinkTold → Type 0
BlamesOutput (Output count) old new = (count ≡ new.faults) × Rose old.faults new.faults
BlamesOutput _ old new = Unit {0}

-- a refusal that the output may give: want of memory, or a fault
abbrev pub IsOfOutput : CommandRefusal → Type 0
IsOfOutput (Image image.Memory) = Unit {0}
IsOfOutput (Output count) = Unit {0}
IsOfOutput _ = ⊥

-- lines could not be printed: a write to the output failed or wanted memory, and added a front of them
pub record IsUnprinted (lines : List ℕ) (old new : SinkTold) (e : CommandRefusal) : Type 0 where
  pub of_output : IsOfOutput e
  pub failed : HasFailed old new
  pub part : Told (HasPrefixOf lines) old.bytes new.bytes

-- a fault of the output
abbrev pub is_output : CommandRefusal → Bool
is_output (Output count) = true
is_output _ = false

-- a refusal of the words or of the places that they name
abbrev pub is_of_words : CommandRefusal → Bool
is_of_words (Words place kind) = true
is_of_words (Reference text fault) = true
is_of_words (SamePlace path) = true
is_of_words (NotBuilt what) = true
is_of_words _ = false

-- a refusal of the policy, of the configuration or of the image
abbrev pub is_of_copy : CommandRefusal → Bool
is_of_copy (Image e) = true
is_of_copy (PolicyMissing path) = true
is_of_copy (PolicyInvalid path kind member) = true
is_of_copy PolicyTooLarge = true
is_of_copy (ConfMissing path) = true
is_of_copy (ConfInvalid path fault) = true
is_of_copy ConfTooLarge = true
is_of_copy _ = false

-- a refusal of words, policy, configuration, source, gate or destination, which comes ahead of the first change of a file
abbrev pub is_ahead : CommandRefusal → Bool
is_ahead (Image image.Memory) = false
is_ahead (Image (image.Files count)) = false
is_ahead (Image (image.Wire count)) = false
is_ahead (Image (image.Job number reason)) = false
is_ahead (Output count) = false
is_ahead _ = true
