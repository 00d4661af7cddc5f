-- From the copy of one image to the copy of a task, under the policy and the configuration that count.
use Rattle.std.proofs.Common.{◌≡◌, ◌∙◌, ◌<◌, ◌≤◌, Bool, true, false, ℕ, List, [], length, Result, Ok, Err, IfOk, IfErr, inl, inr, refl, ap, subst, arith}
use Rattle.skopeo_outside.specs.LaneTold.{LaneTold}
use Rattle.skopeo_outside.specs.Seen.{Seen, OnEach, KeepsFrom}
use Rattle.skopeo_outside.specs.Steps.{Ends, EndsBy}
use Rattle.skopeo_outside.specs.OnLanes.{SeenStep, on_first}
use Rattle.skopeo_outside.proofs.StepLemmas.{then_ends, then_stops}
use Rattle.skopeo_outside.proofs.PlaceLemmas.{keeps_then}
use Rattle.transports.specs.declared.plan.CopyPlan.{CopyPlan}
use Rattle.transports.specs.declared.report.Copied.{Copied}
use Rattle.transports.specs.declared.refusal.Refusal.{Refusal}
use Rattle.transports.specs.Refusals as of
use Rattle.transports.specs.Courses.{call_course}
use Rattle.transports.specs.Has.{IsUntouched}
use Rattle.transports.proofs.SameLemmas.{none_same}
use Rattle.transports.proofs.WorkLemmas.{none_written}
use Rattle.std.proofs.lemmas.List.Elements.{All-nil}
use Rattle.policy_gate.proofs.RunLaw.{gains-none}
use Rattle.skopeo_outside.specs.Helper.{Runs}
use Rattle.admission.specs.Judged.{IsOfProgram, AsksOnly}
use Rattle.copy_engine.specs.Headline.{ImageHeadline}
use Rattle.copy_engine.specs.Walk.{image_end}
use Rattle.copy_engine.specs.Stops as engine
use Rattle.copy_engine.specs.Delivered.{Delivers}
use Rattle.copy_engine.proofs.SameLemmas.{gives_up_same}
use Rattle.skopeo_app.specs.declared.refusal.CommandRefusal.{CommandRefusal}
use Rattle.skopeo_app.specs.declared.refusal.CommandRefusal.TheVariants.{Image}
use Rattle.skopeo_app.specs.declared.rules.Rules.{Rules}
use Rattle.skopeo_app.specs.declared.task.CopyTask.{CopyTask}
use Rattle.skopeo_app.specs.Refusals.{is_ahead}
use Rattle.skopeo_app.specs.Courses.{lane_course, seen_course}
use Rattle.skopeo_app.specs.Rules.{rules_end}
use Rattle.skopeo_app.specs.Headline.{RulesCount, first_tree}
use Rattle.skopeo_app.specs.Ending.{of_image, image_of_task}
use Rattle.skopeo_app.specs.Stops.{AreUntouched, HasDelivered}
use Rattle.skopeo_app.specs.Reads.{ReadsFirst}
use Rattle.skopeo_app.specs.Copies.{CopiesImage, TaskHeadline, TaskLeaves, CopiesTask}
use Rattle.skopeo_app.proofs.ReadLemmas.{quiet_untouched}
use Rattle.skopeo_app.proofs.EarlierLemmas.{AreQuiet, write_later, headline_earlier, leaves_earlier, untouched_earlier, given_up_earlier, delivers_earlier}
use Rattle.skopeo_app.proofs.AheadLemmas.{untouched_ahead}

-- ---- the engine's answer

value_ends : {A : Type 0} (step : SeenStep Refusal A) (a b : Seen) (x : A) → Ends call_course step a b (Ok x) → Ends seen_course (of_image step) a b (Ok x)
unfolding Ends of_image
value_ends step a b x end = record { later = end.later; ends = end.ends }

refusal_ends : {A : Type 0} (step : SeenStep Refusal A) (a b : Seen) (e : Refusal) → Ends call_course step a b (Err e) → Ends seen_course (of_image step) a b (Err (Image e))
unfolding Ends of_image
refusal_ends {A} step a b e end = record { later = end.later; ends = by (of.is_memory e) end.ends }
  where
    by : (m : Bool) → EndsBy {A = A} m call_course e step a b → EndsBy {A = A} m seen_course (Image e) (of_image step) a b
    by true end = tt
    by false end = end

pub image_copied : (rules : Rules) (plan : CopyPlan) (a b : Seen) (copied : Copied) → Ends call_course (image_end plan rules.conf rules.policy) a b (Ok copied) → ImageHeadline rules.policy rules.conf plan a b
    → engine.Leaves rules.policy rules.conf plan a b → Delivers rules.policy rules.conf plan copied a b → KeepsFrom plan.lanes a.lanes b.lanes
    → AsksOnly plan a.helper.runs b.helper.runs → CopiesImage rules plan a b (Ok copied)
image_copied rules plan a b copied ends headline leaves delivers rest asks = record {
  ends = value_ends (image_end plan rules.conf rules.policy) a b copied ends;
  headline = headline;
  leaves = leaves;
  gives_up = tt;
  delivered = delivers;
  rest = rest;
  asks = asks;
  untouched = tt;
  other = tt;
}

pub image_refused : (rules : Rules) (plan : CopyPlan) (a b : Seen) (e : Refusal) → 0 < length a.lanes → Ends call_course (image_end plan rules.conf rules.policy) a b (Err e) → ImageHeadline rules.policy rules.conf plan a b
    → engine.Leaves rules.policy rules.conf plan a b → engine.IsGivenUp plan a b → KeepsFrom plan.lanes a.lanes b.lanes
    → AsksOnly plan a.helper.runs b.helper.runs → CopiesImage rules plan a b (Err (Image e))
image_refused rules plan a b e some ends headline leaves given_up rest asks = record {
  ends = refusal_ends (image_end plan rules.conf rules.policy) a b e ends;
  headline = headline;
  leaves = leaves;
  gives_up = given_up;
  delivered = tt;
  rest = rest;
  asks = asks;
  untouched = λ ahead. untouched_ahead plan rules.policy rules.conf a b e some ends ahead;
  other = refl;
}

-- ---- behind the policy

wider : (few many : ℕ) (x y : List LaneTold) → few ≤ many → KeepsFrom few x y → KeepsFrom many x y
wider few many x y le kept = record { same = kept.same; rest = λ place past. kept.rest place (omega arith) }

quiet_lanes : (x y : List LaneTold) → AreQuiet x y → OnEach (λ place a b. IsUntouched a b) x y
quiet_lanes x y quiet = record { count = quiet.count; each = λ place a b ea eb. quiet_untouched a b (quiet.each place a b ea eb) }

none_read : (home cwd : List ℕ) (task : CopyTask) (x y : Seen) → AreQuiet x.lanes y.lanes → TaskHeadline home cwd task x y
none_read home cwd task x y quiet lane a b at bytes ea eb write = absurd (none_written b b at bytes (none_same b) (write_later at bytes a b b (quiet.each lane a b ea eb) write))

-- a helper that rests asks nothing
pub none_asked : (plan : CopyPlan) (old new : Runs) → new ≡ old → AsksOnly plan old new
none_asked plan old new same = record { gained = []; told = same ∙ gains-none old; holds = All-nil (IsOfProgram plan.verifier) }

-- what was asked behind a helper that rested was asked since
asked_earlier : (plan : CopyPlan) (old middle new : Runs) → middle ≡ old → AsksOnly plan middle new → AsksOnly plan old new
asked_earlier plan old middle new same asks = subst (λ v. AsksOnly plan v new) same asks

-- the policy or the configuration was refused
pub rules_refused : (home cwd : List ℕ) (task : CopyTask) (a b : Seen) (e : CommandRefusal) → 0 < task.plan.lanes → ReadsFirst home cwd task a b (Err e) → CopiesTask home cwd task a b (Err e)
unfolding image_of_task
rules_refused home cwd task a b e some reads = record {
  run = record {
    headline = none_read home cwd task a b reads.quiet;
    leaves = inl (quiet_lanes a.lanes b.lanes reads.quiet);
    rest = wider 1 task.plan.lanes a.lanes b.lanes (omega (arith, some)) reads.rest;
    asks = none_asked task.plan a.helper.runs b.helper.runs (ap (λ h. h.runs) reads.helper);
  };
  ends = then_stops seen_course (on_first lane_course (rules_end home cwd task)) (λ rules. of_image (image_end task.plan rules.conf rules.policy)) a b e reads.ends;
  gives_up = given_up_earlier task.plan a b b reads.quiet (gives_up_same task.plan b);
  delivered = tt;
  untouched = λ ahead. quiet_lanes a.lanes b.lanes reads.quiet;
  other = reads.other;
}

module _ (home cwd : List ℕ) (task : CopyTask) (rules : Rules) (a m b : Seen) (counts : RulesCount (first_tree a.lanes) home cwd task rules) (quiet : AreQuiet a.lanes m.lanes) (rests : m.helper ≡ a.helper) where
  leaves_of : engine.Leaves rules.policy rules.conf task.plan a b → TaskLeaves home cwd task a b
  leaves_of (inl same) = inl same
  leaves_of (inr touched) = inr (rules, counts, touched)

  headline_of : ImageHeadline rules.policy rules.conf task.plan a b → TaskHeadline home cwd task a b
  headline_of h lane x y at bytes ex ey write = (rules, counts, h lane x y at bytes ex ey write)

  gives_up_of : (r : Result Copied CommandRefusal) → engine.GivesUp r task.plan m b → engine.GivesUp r task.plan a b
  gives_up_of (Ok copied) g = tt
  gives_up_of (Err e) g = given_up_earlier task.plan a m b quiet g

  delivered_of : (r : Result Copied CommandRefusal) → IfOk r (λ copied. Delivers rules.policy rules.conf task.plan copied m b) → IfOk r (HasDelivered home cwd task a b)
  delivered_of (Ok copied) d = record { rules = rules; counts = counts; delivers = delivers_earlier rules.policy rules.conf task.plan a m b quiet rests copied d }
  delivered_of (Err e) d = tt

  untouched_of : (r : Result Copied CommandRefusal) → IfErr r (λ e. is_ahead e ≡ true → AreUntouched m b) → IfErr r (λ e. is_ahead e ≡ true → AreUntouched a b)
  untouched_of (Ok copied) u = tt
  untouched_of (Err e) u = λ ahead. untouched_earlier a m b quiet (u ahead)

-- the image was copied behind it, or refused
pub copied_behind : (home cwd : List ℕ) (task : CopyTask) (rules : Rules) (a m b : Seen) (r : Result Copied CommandRefusal) → 0 < task.plan.lanes → ReadsFirst home cwd task a m (Ok rules)
    → CopiesImage rules task.plan m b r → CopiesTask home cwd task a b r
unfolding image_of_task
copied_behind home cwd task rules a m b r some reads copies = record {
  run = record {
    headline = headline_of home cwd task rules a m b reads.counts reads.quiet reads.helper (headline_earlier rules.policy rules.conf task.plan a m b reads.quiet reads.helper copies.headline);
    leaves = leaves_of home cwd task rules a m b reads.counts reads.quiet reads.helper (leaves_earlier rules.policy rules.conf task.plan a m b reads.quiet reads.helper copies.leaves);
    rest = keeps_then task.plan.lanes a.lanes m.lanes b.lanes (wider 1 task.plan.lanes a.lanes m.lanes (omega (arith, some)) reads.rest) copies.rest;
    asks = asked_earlier task.plan a.helper.runs m.helper.runs b.helper.runs (ap (λ h. h.runs) reads.helper) copies.asks;
  };
  ends = then_ends seen_course (on_first lane_course (rules_end home cwd task)) (λ rules. of_image (image_end task.plan rules.conf rules.policy)) a m b rules r reads.ends copies.ends;
  gives_up = gives_up_of home cwd task rules a m b reads.counts reads.quiet reads.helper r copies.gives_up;
  delivered = delivered_of home cwd task rules a m b reads.counts reads.quiet reads.helper r copies.delivered;
  untouched = untouched_of home cwd task rules a m b reads.counts reads.quiet reads.helper r copies.untouched;
  other = copies.other;
}
