-- What a sink tells, and how a write to it ends.
use Rattle.std.specs.Prelude.{◌≡◌, ◌≤◌, ◌⊎◌, ◌++◌, List, ℕ, Option}
use Rattle.std.specs.Option.{option_map}
use Rattle.skopeo_outside.specs.Outside.{Rose}

-- a sink: its bytes, and the counts of its writes that failed and that wanted memory
pub record SinkTold : Type 0 where
  pub bytes : Option (List ℕ)
  pub faults : ℕ
  pub wants : ℕ

abbrev pub sink_told : {O : Type 0} → (O → Option (List ℕ)) → (O → ℕ) → (O → ℕ) → O → SinkTold
sink_told bytes faults wants sink = record { bytes = bytes sink; faults = faults sink; wants = wants sink }

-- a sink later: its counts have not fallen
pub record IsLaterSink (old new : SinkTold) : Type 0 where
  pub faults : old.faults ≤ new.faults
  pub wants : old.wants ≤ new.wants

-- a write to a sink failed, or memory wanted in it
abbrev pub HasFailed : SinkTold → SinkTold → Type 0
HasFailed old new = Rose old.faults new.faults ⊎ Rose old.wants new.wants

-- the sink got these bytes
abbrev pub Gains : List ℕ → SinkTold → SinkTold → Type 0
Gains bytes old new = new.bytes ≡ option_map (λ o. o ++ bytes) old.bytes

-- it did, unless a write to it failed
abbrev pub Gained : List ℕ → SinkTold → SinkTold → Type 0
Gained bytes old new = (HasFailed old new → ⊥) → Gains bytes old new
