-- A call that touches nothing meets each relation of what it leaves.
use Rattle.std.proofs.Common.{◌≡◌, List, [], ◌∷◌, Some, None, Err, inl, refl, sym, ap, subst, ◌∙◌, append-nil}
use Rattle.std.proofs.lemmas.List.Elements.{All-nil}
use Rattle.skopeo_outside.specs.LaneTold.{LaneTold}
use Rattle.skopeo_outside.specs.LaneLaws.{each_same}
use Rattle.skopeo_outside.specs.Helper.{Runs}
use Rattle.skopeo_outside.specs.Seen.{Seen, OnFirst, OnEach}
use Rattle.skopeo_outside.specs.Steps.{Step, Ends}
use Rattle.skopeo_outside.proofs.PlaceLemmas.{each_self}
use Rattle.policy_file.specs.PolicyLists.{PolicyLists}
use Rattle.registries_conf.specs.Settings.{Settings}
use Rattle.transports.specs.declared.dest.Dest.{Dest}
use Rattle.transports.specs.declared.plan.CopyPlan.{CopyPlan}
use Rattle.transports.specs.declared.refusal.Refusal.{Refusal}
use Rattle.transports.specs.declared.refusal.Refusal.TheVariants as refusal
use Rattle.transports.specs.Courses.{call_course}
use Rattle.transports.specs.Has.{IsUntouched, RemovesInOrder}
use Rattle.transports.specs.Writes.{IsWrite}
use Rattle.transports.proofs.SameLemmas.{untouched_same, order_same, none_same, nowhere_same}
use Rattle.transports.proofs.WorkLemmas.{none_written}
use Rattle.policy_gate.specs.Asked.{Gains}
use Rattle.admission.specs.Judged.{AsksOnly, IsOfProgram}
use Rattle.copy_jobs.specs.Secured.{AreSecured}
use Rattle.copy_engine.specs.Headline.{ImageHeadline}
use Rattle.copy_engine.specs.Stops.{Leaves, IsGivenUp}
use Rattle.copy_engine.specs.Ready.{ReadyImage, IsReady, TakesLate}

pub memory_at_once : {A : Type 0} (step : Step Seen Refusal A) (a : Seen) → Ends call_course step a a (Err refusal.Memory)
unfolding Ends
memory_at_once step a = record { later = each_same a.lanes; ends = tt }

pub order_first : (dest : Dest) (lanes : List LaneTold) → OnFirst (RemovesInOrder dest) lanes lanes
order_first dest [] = tt
order_first dest (a ∷ lanes) = order_same dest a

pub untouched_each : (lanes : List LaneTold) → OnEach (λ place a b. IsUntouched a b) lanes lanes
untouched_each lanes = each_self (λ place a b. IsUntouched a b) (λ place a. untouched_same a) lanes

pub late_same : (dest : Dest) (lanes : List LaneTold) → TakesLate dest lanes lanes
unfolding TakesLate
late_same dest lanes = inl (untouched_each lanes)

pub ready_secured : (r : ReadyImage) (lanes : List LaneTold) → IsReady r → r.made ≡ lanes → AreSecured r.dest r.image.jobs r.entry lanes
ready_secured r lanes ready made = subst (AreSecured r.dest r.image.jobs r.entry) made ready.secured

pub headline_same : (policy : PolicyLists) (conf : Settings) (plan : CopyPlan) (a : Seen) → ImageHeadline policy conf plan a a
headline_same policy conf plan a lane x y at bytes ex ey write = absurd (none_written x x at bytes (none_same x) (subst (λ v. IsWrite x v at bytes) (same y x (sym ey ∙ ex)) write))
  where
    same : (t u : LaneTold) → Some t ≡ Some u → t ≡ u
    same t u e = cc

pub leaves_same : (policy : PolicyLists) (conf : Settings) (plan : CopyPlan) (a : Seen) → Leaves policy conf plan a a
leaves_same policy conf plan a = inl (untouched_each a.lanes)

pub gives_up_same : (plan : CopyPlan) (a : Seen) → IsGivenUp plan a a
unfolding IsGivenUp
gives_up_same plan a = record { none = nowhere_same a.lanes; order = λ to goes. order_first to a.lanes }

-- a helper that was not asked was asked nothing else
pub asks_same : (plan : CopyPlan) (runs : Runs) → AsksOnly plan runs runs
asks_same plan runs = record { gained = []; told = by runs; holds = All-nil (IsOfProgram plan.verifier) }
  where
    by : (x : Runs) → Gains [] x x
    by None = refl
    by (Some l) = ap Some (sym (append-nil l))
