-- Steps in which the helper takes no part end so whatever it tells.
use Rattle.std.proofs.Common.{Bool, true, false, List, Result, Ok, Err, refl, ap}
use Rattle.skopeo_outside.specs.Seen.{Seen, HelperTold}
use Rattle.skopeo_outside.specs.Steps.{Then, goes, stops, ◌>>=◌, given, EndsBy, Ends}
use Rattle.skopeo_outside.specs.OnLanes.{SeenStep, LaneStep, on_first}
use Rattle.digest_reader.specs.declared.job.Job.{Job}
use Rattle.transports.specs.declared.source.Source.{Source}
use Rattle.transports.specs.declared.dest.Dest.{Dest}
use Rattle.transports.specs.declared.refusal.Refusal.{Refusal}
use Rattle.transports.specs.declared.report.Copied.{Copied}
use Rattle.transports.specs.Refusals.{is_memory}
use Rattle.transports.specs.Courses.{lane_course, call_course}
use Rattle.transports.specs.StepEnds.{taking, putting}
use Rattle.admission.specs.Admission.{Admission}
use Rattle.copy_engine.specs.Report.{copied_of}
use Rattle.copy_engine.specs.Walk.{securing, readying, placing}

-- the same lanes, beside a helper that tells this
abbrev beside : HelperTold → Seen → Seen
beside helper a = record { lanes = a.lanes; helper = helper }

-- a step ends so beside each helper
abbrev Framed : {A : Type 0} → SeenStep Refusal A → Type 0
Framed {A} step = (a b : Seen) (r : Result A Refusal) (helper : HelperTold) → step a b r → step (beside helper a) (beside helper b) r

then_beside : {A B : Type 0} (p : SeenStep Refusal A) (q : A → SeenStep Refusal B) (helper : HelperTold) → Framed p → ((x : A) → Framed (q x)) → {a b : Seen} {r : Result B Refusal} → Then p q a b r → Then p q (beside helper a) (beside helper b) r
then_beside p q helper one two (goes a m b x r before behind) = goes (beside helper a) (beside helper m) (beside helper b) x r (one a m (Ok x) helper before) (two x m b r helper behind)
then_beside p q helper one two (stops a b e before) = stops (beside helper a) (beside helper b) e (one a b (Err e) helper before)

then_framed : {A B : Type 0} (p : SeenStep Refusal A) (q : A → SeenStep Refusal B) → Framed p → ((x : A) → Framed (q x)) → Framed (p >>= q)
then_framed p q one two a b r helper walk = then_beside p q helper one two walk

first_framed : {A : Type 0} (step : LaneStep Refusal A) → Framed (on_first lane_course step)
unfolding on_first
first_framed step a b r helper ends = (ends.0, ends.1, refl)

given_framed : {A : Type 0} (wanted : Result A Refusal) → Framed (given wanted)
unfolding given
given_framed wanted a b r helper ends = (ap (beside helper) ends.0, ends.1)

securing_framed : (from : Source) (to : Dest) (jobs : List Job) → Framed (securing from to jobs)
unfolding securing
securing_framed from to jobs a b r helper ends = (ends.0, ends.1, refl)

readying_framed : (from : Source) (to : Dest) (jobs : List Job) → Framed (readying from to jobs)
unfolding readying
readying_framed from to jobs = then_framed (on_first lane_course (taking to)) (λ done. securing from to jobs) (first_framed (taking to)) (λ done. securing_framed from to jobs)

placing_framed : (from : Source) (to : Dest) (image : Admission) → Framed (placing from to image)
unfolding placing
placing_framed from to image =
    then_framed (readying from to image.jobs) _ (readying_framed from to image.jobs)
    (λ done. then_framed (on_first lane_course (putting to)) _ (first_framed (putting to)) (λ put. given_framed (Ok (copied_of image))))

ends_framed : {A : Type 0} (step : SeenStep Refusal A) → Framed step → (a b : Seen) (r : Result A Refusal) (helper : HelperTold) → Ends call_course step a b r → Ends call_course step (beside helper a) (beside helper b) r
unfolding Ends
ends_framed step framed a b (Ok x) helper ends = record { later = ends.later; ends = framed a b (Ok x) helper ends.ends }
ends_framed {A} step framed a b (Err e) helper ends = record { later = ends.later; ends = by (is_memory e) ends.ends }
  where
    by : (f : Bool) → EndsBy {A = A} f call_course e step a b → EndsBy {A = A} f call_course e step (beside helper a) (beside helper b)
    by true end = tt
    by false end = framed a b (Err e) helper end

-- an image that was admitted is placed so whatever the helper tells
pub placing_beside : (from : Source) (to : Dest) (image : Admission) (a b : Seen) (r : Result Copied Refusal) (helper : HelperTold) → Ends call_course (placing from to image) a b r → Ends call_course (placing from to image) (record { lanes = a.lanes; helper = helper }) (record { lanes = b.lanes; helper = helper }) r
placing_beside from to image a b r helper ends = ends_framed (placing from to image) (placing_framed from to image) a b r helper ends
