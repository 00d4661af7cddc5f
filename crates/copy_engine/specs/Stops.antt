-- What a copy leaves at every exit, want of memory and faults of the outside included.
use Rattle.std.specs.Prelude.{◌⊎◌, Result, IfErr}
use Rattle.skopeo_outside.specs.Seen.{Seen, OnFirst, OnEach}
use Rattle.policy_file.specs.PolicyLists.{PolicyLists}
use Rattle.registries_conf.specs.Settings.{Settings}
use Rattle.transports.specs.declared.source.Source.{Source}
use Rattle.transports.specs.declared.dest.Dest.{Dest}
use Rattle.transports.specs.declared.plan.CopyPlan.{CopyPlan}
use Rattle.transports.specs.Places.{GoesTo}
use Rattle.transports.specs.Has.{IsUntouched, OnlyAtDest, MayTake, RemovesInOrder}
use Rattle.transports.specs.Fair.{IsFairOn}
use Rattle.transports.specs.Writes.{WritesNowhere}
use Rattle.admission.specs.Admission.{Admission}
use Rattle.copy_engine.specs.Headline.{IsOfPlan}

-- what touched a destination: the source was admitted in this call, the destination could be replaced as it was at first;
-- nothing else was touched on any lane, and each path in it is fair
pub record IsTouched (policy : PolicyLists) (conf : Settings) (plan : CopyPlan) (old new : Seen) : Type 0 where
  pub from : Source
  pub image : Admission
  pub of_plan : IsOfPlan policy conf plan old new from image
  pub to : Dest
  pub goes_to : GoesTo plan.dest to
  pub may : OnFirst (λ a b. MayTake to a) old.lanes new.lanes
  pub only : OnEach (λ lane a b. OnlyAtDest to a b) old.lanes new.lanes
  pub fair : OnEach (IsFairOn to) old.lanes new.lanes

-- no lane's files and no destination were touched, or it was done so
abbrev pub Leaves : PolicyLists → Settings → CopyPlan → Seen → Seen → Type 0
Leaves policy conf plan old new = OnEach (λ lane a b. IsUntouched a b) old.lanes new.lanes ⊎ IsTouched policy conf plan old new

-- where the copy was given up: no manifest was written, and what was lost was lost in order
pub record LosesInOrder (plan : CopyPlan) (old new : Seen) : Type 0 where
  pub none : WritesNowhere old.lanes new.lanes
  pub order : (to : Dest) → GoesTo plan.dest to → OnFirst (RemovesInOrder to) old.lanes new.lanes

-- the same, closed, so that lemmas find it by its name
unfoldable pub IsGivenUp : CopyPlan → Seen → Seen → Type 0
IsGivenUp plan old new = LosesInOrder plan old new

abbrev pub GivesUp : {A E : Type 0} → Result A E → CopyPlan → Seen → Seen → Type 0
GivesUp result plan old new = IfErr result (λ e. IsGivenUp plan old new)
