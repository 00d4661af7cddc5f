-- A copy between two folders ends as one tree says.
use Rattle.std.proofs.Common.{◌≡◌, ◌≢◌, ◌∙◌, ◌<◌, ◌⊎◌, Bool, true, false, cond, ℕ, zero, suc, List, [], ◌∷◌, Option, Some, None, Result, Ok, Err, IfSome, length, take, slice_get, inl, inr, refl, sym, ap, subst, arith}
use Rattle.std.specs.Bool.{⊤}
use Rattle.skopeo_outside.specs.Tree.{Tree, file_at}
use Rattle.skopeo_outside.specs.Outside.{Rose, Told}
use Rattle.skopeo_outside.specs.LaneTold.{LaneTold, IsLater}
use Rattle.skopeo_outside.specs.LaneLaws.{later_same}
use Rattle.skopeo_outside.specs.Seen.{Seen, OnFirst, OnEach, KeepsFrom}
use Rattle.skopeo_outside.specs.Steps.{Then, goes, stops, ◌>>=◌, given, Ends, EndsBy}
use Rattle.skopeo_outside.specs.OnLanes.{LaneStep, SeenStep, on_first}
use Rattle.skopeo_outside.specs.declared.words.Fetched.{Fetched}
use Rattle.image_ref.specs.declared.place.Place.TheVariants.{Dir}
use Rattle.digest_reader.specs.declared.job.Job.{Job}
use Rattle.layouts.specs.Destination.{MayReplace}
use Rattle.manifest_convert.specs.Blobs.{blobs}
use Rattle.policy_scope.specs.Chosen.{chosen}
use Rattle.layouts.specs.Paths.{blob_path}
use Rattle.layouts.proofs.NameLemmas.{blob_in}
use Rattle.manifest_v2s2.specs.declared.image.Image.{Image as ImageRead}
use Rattle.manifest_v2s2.specs.declared.kind.Kind.{Kind}
use Rattle.copy_workers.specs.declared.cause.Cause.{Cause}
use Rattle.copy_workers.specs.declared.cause.BlobMismatch.{BlobMismatch}
use Rattle.copy_workers.specs.declared.cause.Cause.TheVariants as cause
use Rattle.policy_file.specs.PolicyLists.{PolicyLists}
use Rattle.registries_conf.specs.Settings.{Settings}
use Rattle.transports.specs.declared.source.Source.{Source}
use Rattle.transports.specs.declared.source.Source.TheVariants as source
use Rattle.transports.specs.declared.dest.Dest.{Dest}
use Rattle.transports.specs.declared.dest.Dest.TheVariants as dest
use Rattle.transports.specs.declared.plan.CopyPlan.{CopyPlan}
use Rattle.transports.specs.declared.report.Copied.{Copied}
use Rattle.transports.specs.declared.refusal.Refusal.{Refusal}
use Rattle.transports.specs.declared.refusal.Refusal.TheVariants as image
use Rattle.transports.specs.Refusals as of
use Rattle.transports.specs.Places.{AreApart, dest_at}
use Rattle.transports.specs.Courses.{lane_course}
use Rattle.transports.specs.Blobs.{looked_at, is_whole, limit_of, mismatch_of}
use Rattle.transports.specs.Stores.{StoreAt, store_of}
use Rattle.transports.specs.Given.{ManifestEnds, SignaturesEnd, Spares, SameIn}
use Rattle.transports.specs.Has.{MayTake, MayNotTake}
use Rattle.transports.specs.StepEnds.{reading, taking, putting, FailsBy}
use Rattle.transports.specs.Fair.{Works}
use Rattle.transports.proofs.GivenLemmas.{only_spares}
use Rattle.transports.proofs.WorkLemmas.{works_later, works_only}
use Rattle.transports.specs.declared.found.Found.{Found}
use Rattle.admission.specs.Parts.{kind_in, image_in}
use Rattle.admission.specs.Admission.{Admission}
use Rattle.admission.specs.GateTold.{GateTold, on_lane, gate_course}
use Rattle.admission.specs.Judged.{Submission, judging}
use Rattle.admission.specs.Taken.{TakenImage}
use Rattle.transports.specs.Found.{in_folder, found_for, found_as, found_by, found}
use Rattle.transports.specs.declared.found.FoundImage.{FoundImage}
use Rattle.skopeo_app.specs.Plan.{short_for}
use Rattle.admission.specs.Walk.{submission, admission}
use Rattle.copy_jobs.specs.Secured.{JobsEnd, IsLeast, SameBlobs, first_fault}
use Rattle.copy_jobs.proofs.EndLemmas.{TellsBlobs, TellBlobs, ends_at, done_no_fault, least_is_fault}
use Rattle.copy_engine.specs.Report.{copied_of}
use Rattle.copy_engine.specs.Walk.{at_gate, securing, readying, placing, image_end}
use Rattle.copy_engine.proofs.LiftLemmas.{first_with}
use Rattle.copy_engine.proofs.ReadyLemmas.{all_later}
use Rattle.skopeo_app.specs.declared.refusal.CommandRefusal.{CommandRefusal}
use Rattle.skopeo_app.specs.declared.refusal.CommandRefusal.TheVariants.{Words, Reference, SamePlace, NotBuilt, PolicyMissing, PolicyInvalid, PolicyTooLarge, ConfMissing, ConfInvalid, ConfTooLarge, Image, Output}
use Rattle.skopeo_app.specs.declared.run.Done.{Done}
use Rattle.skopeo_app.specs.declared.task.CopyTask.{CopyTask}
use Rattle.skopeo_app.specs.declared.task.PolicyChoice.{PolicyChoice}
use Rattle.skopeo_app.specs.declared.task.PolicyChoice.TheVariants.{Anything, Named, Usual}
use Rattle.skopeo_app.specs.declared.rules.Rules.{Rules}
use Rattle.skopeo_app.specs.declared.task.ConfChoice.{ConfChoice}
use Rattle.skopeo_app.specs.declared.task.ConfChoice.TheVariants as conf_of
use Rattle.skopeo_app.specs.declared.task.Task.{Task}
use Rattle.skopeo_app.specs.declared.task.Task.TheVariants.{Copy}
use Rattle.skopeo_app.specs.Refusals.{is_memory, is_free, Shows, IsOfOutput, BlamesOutput}
use Rattle.skopeo_app.specs.Courses as app
use Rattle.skopeo_app.specs.Courses.{CommandTold, seen_course, command_course}
use Rattle.skopeo_app.specs.Usual.{usual_path}
use Rattle.skopeo_app.specs.Policy.{policy_name, policy_end, policy_file}
use Rattle.skopeo_app.specs.Conf.{no_conf, conf_end}
use Rattle.skopeo_app.specs.Rules.{rules_end}
use Rattle.skopeo_app.specs.Task.{conf_choice_of, task_of}
use Rattle.skopeo_app.specs.Headline.{first_tree}
use Rattle.skopeo_app.specs.Rows.{image_row, row_of}
use Rattle.skopeo_app.specs.Lines.{status_of}
use Rattle.skopeo_app.specs.Ending.{copy_done, of_image, image_of_task, on_lanes, printing, copy_end, task_end, ending}
use Rattle.skopeo_app.specs.ByTree.{and_then, policy_at, manifest_of, signatures_of, submission_of, submitted_in, judged_by, admitted_in, copied_in, placed_in, copy_in, or_image, answer_in}
use Rattle.skopeo_app.specs.Complete.{StartsWith, AllStart, Judges, IsCalm, AreCalm, EndsByTree, IsGood, GoodEnds}
use Rattle.skopeo_app.proofs.ByTreeLemmas.{wants, Comes, value_is, comes_as, flat, refused_as, Tells, told, Equals, equal_then, given_as, Goes, goes_then, goes_given, first_each, goes_first, Calm, front, back, comes_then, comes_given, given_same, some_lane, first_tells, first_comes, first_still}
use Rattle.skopeo_app.proofs.JudgedLemmas.{JudgedAs, judged_as}
use Rattle.skopeo_app.proofs.AskedLaw.{asks_copy}
use Rattle.skopeo_app.proofs.RulesLemmas.{rules_of, both}

some_same : {A : Type 0} (t u : A) → Some t ≡ Some u → t ≡ u
some_same t u e = cc

-- ---- source and gate, by the tree

abbrev found_of : Source → Fetched → Found
found_of from fetched = record { from = from; fetched = fetched }

manifest_equals : (tree : Tree) (folder : List ℕ) → Equals tree (reading (ManifestEnds (source.Folder folder) None)) (manifest_of tree folder)
unfolding ManifestEnds
manifest_equals tree folder a b r end tells = (told tree (λ t. r ≡ manifest_of t folder) a.files.tree tells end.0, end.1.files ∙ tells)

signatures_equal : (tree : Tree) (folder : List ℕ) (store : Option StoreAt) → Equals tree (reading (SignaturesEnd (source.Folder folder) store None)) (signatures_of tree folder)
unfolding SignaturesEnd
signatures_equal tree folder store a b r end tells = (told tree (λ t. r ≡ signatures_of t folder) a.files.tree tells end.0, end.1.files ∙ tells)

ok_same : {A E : Type 0} (x y : A) → ◌≡◌ {A = Result A E} (Ok x) (Ok y) → x ≡ y
ok_same x y e = cc

folder_equals : (tree : Tree) (folder : List ℕ) → Equals tree (in_folder folder) (and_then (manifest_of tree folder) (λ fetched. Ok (found_of (source.Folder folder) fetched)))
unfolding in_folder
folder_equals tree folder =
    equal_then tree (reading (ManifestEnds (source.Folder folder) None)) (λ fetched. given (Ok (found_of (source.Folder folder) fetched)))
    (manifest_of tree folder) (λ u. and_then u (λ fetched. Ok (found_of (source.Folder folder) fetched))) (λ e. refl) (manifest_equals tree folder)
    (λ fetched e. given_as tree (Ok (found_of (source.Folder folder) fetched)) (Ok (found_of (source.Folder folder) fetched)) refl)

-- as the image of the folder
abbrev found_in : List ℕ → Fetched → FoundImage
found_in folder fetched = record { place = Dir folder; found = found_of (source.Folder folder) fetched }

as_equals : (tree : Tree) (folder : List ℕ) (tls : Option Bool) (conf : Settings) → Equals tree (found_as tls conf (Dir folder)) (and_then (manifest_of tree folder) (λ fetched. Ok (found_in folder fetched)))
unfolding found_as found_for
as_equals tree folder tls conf =
    subst (λ w. Equals tree (in_folder folder >>= (λ it. given (Ok (record { place = Dir folder; found = it })))) w) (flat_found (manifest_of tree folder))
    (equal_then tree (in_folder folder) (λ it. given (Ok (record { place = Dir folder; found = it })))
    (and_then (manifest_of tree folder) (λ fetched. Ok (found_of (source.Folder folder) fetched))) (λ u. and_then u (λ (it : Found). Ok (record { place = Dir folder; found = it }))) (λ e. refl) (folder_equals tree folder)
    (λ it e. given_as tree (Ok (record { place = Dir folder; found = it })) (Ok (record { place = Dir folder; found = it })) refl))
  where
    flat_found : (m : Result Fetched Refusal) → and_then (and_then m (λ fetched. Ok (found_of (source.Folder folder) fetched))) (λ (it : Found). Ok (record { place = Dir folder; found = it })) ≡ and_then m (λ fetched. Ok (found_in folder fetched))
    flat_found (Ok fetched) = refl
    flat_found (Err e) = refl

found_equals : (tree : Tree) (folder : List ℕ) (plan : CopyPlan) (conf : Settings) → plan.source ≡ Dir folder → plan.short ≡ None → Equals tree (found plan conf) (and_then (manifest_of tree folder) (λ fetched. Ok (found_in folder fetched)))
unfolding found
found_equals tree folder plan conf is whole =
    subst (λ text. Equals tree (found_by plan.src_tls conf plan.source text) (and_then (manifest_of tree folder) (λ fetched. Ok (found_in folder fetched)))) (sym whole)
    (subst (λ place. Equals tree (found_as plan.src_tls conf place) (and_then (manifest_of tree folder) (λ fetched. Ok (found_in folder fetched)))) (sym is) (as_equals tree folder plan.src_tls conf))

-- what was found
image_found : (folder : List ℕ) (m : Result Fetched Refusal) (it : FoundImage) → Ok it ≡ and_then m (λ fetched. Ok (found_in folder fetched)) → (it.place ≡ Dir folder) × (it.found.from ≡ source.Folder folder)
image_found folder (Ok fetched) it e = let is = ok_same {E = Refusal} it (found_in folder fetched) e in (ap (λ (f : FoundImage). f.place) is, ap (λ (f : FoundImage). f.found.from) is)
image_found folder (Err d) it e = let no : ◌≡◌ {A = Result FoundImage Refusal} (Ok it) (Err d) = e in cc

-- ---- a step on one lane

free_comes : {A : Type 0} (e : Refusal) (w : Result A Refusal) (a b : LaneTold) → IsCalm a b → of.is_free e ≡ true → of.Shows e a b → Comes of.is_memory (Err e) w
free_comes image.Memory w a b calm is shows = inl refl
free_comes (image.Files count) w a b calm is shows = absurd (calm.files shows.rose)
free_comes (image.Wire count) w a b calm is (inl f) = absurd (calm.from f.rose)
free_comes (image.Wire count) w a b calm is (inr f) = absurd (calm.to f.rose)
free_comes (image.Job number reason) w a b calm is shows = let no : false ≡ true = is in cc
free_comes (image.NotBuilt p) w a b calm is shows = let no : false ≡ true = is in cc
free_comes (image.NotAnImageDir p) w a b calm is shows = let no : false ≡ true = is in cc
free_comes (image.TooLarge q n) w a b calm is shows = let no : false ≡ true = is in cc
free_comes (image.ManifestInvalid m) w a b calm is shows = let no : false ≡ true = is in cc
free_comes (image.Rejected s p y) w a b calm is shows = let no : false ≡ true = is in cc
free_comes (image.Blocked n) w a b calm is shows = let no : false ≡ true = is in cc
free_comes (image.BadReference text fault) w a b calm is shows = let no : false ≡ true = is in cc
free_comes (image.ShortName text count) w a b calm is shows = let no : false ≡ true = is in cc
free_comes (image.NoSource attempts) w a b calm is shows = let no : false ≡ true = is in cc
free_comes (image.TlsRequired host) w a b calm is shows = let no : false ≡ true = is in cc
free_comes (image.Garbled status first) w a b calm is shows = let no : false ≡ true = is in cc
free_comes (image.BadAnswer step first) w a b calm is shows = let no : false ≡ true = is in cc
free_comes (image.LookasideRefused number status) w a b calm is shows = let no : false ≡ true = is in cc
free_comes (image.Encoded step) w a b calm is shows = let no : false ≡ true = is in cc
free_comes (image.TooManyRedirects step) w a b calm is shows = let no : false ≡ true = is in cc
free_comes (image.Helper count) w a b calm is shows = let no : false ≡ true = is in cc

lane_comes : {A : Type 0} (step : LaneStep Refusal A) (w : Result A Refusal) (a b : LaneTold) (r : Result A Refusal) → IsCalm a b → Ends lane_course step a b r → ((s : Result A Refusal) → step a b s → s ≡ w) → Comes of.is_memory r w
unfolding Ends lane_course
lane_comes step w a b (Ok v) calm end is = inr (is (Ok v) end.ends)
lane_comes {A} step w a b (Err e) calm end is = by (of.is_free e) refl end.ends
  where
    by : (f : Bool) → of.is_free e ≡ f → EndsBy {A = A} f lane_course e step a b → Comes of.is_memory (Err e) w
    by true free shows = free_comes e w a b calm free shows
    by false free ends = inr (is (Err e) ends)

lane_value : {A : Type 0} (step : LaneStep Refusal A) (a b : LaneTold) (v : A) → Ends lane_course step a b (Ok v) → step a b (Ok v)
unfolding Ends
lane_value step a b v end = end.ends

lane_later : {A : Type 0} (step : LaneStep Refusal A) (a b : LaneTold) (r : Result A Refusal) → Ends lane_course step a b r → IsLater a b
unfolding Ends lane_course
lane_later step a b r end = end.later

goes_on : {A : Type 0} (step : LaneStep Refusal A) → Goes (on_first lane_course step)
goes_on step = goes_first lane_course step (lane_later step)

-- the steps behind the manifest
abbrev signed : Tree → List ℕ → Fetched → Kind → ImageRead → Result Submission Refusal
signed tree folder fetched kind image = and_then (signatures_of tree folder) (λ signatures. Ok (submission_of folder fetched kind image signatures))

abbrev imaged : Tree → List ℕ → Fetched → Kind → Result Submission Refusal
imaged tree folder fetched kind = and_then (image_in kind fetched) (λ image. signed tree folder fetched kind image)

abbrev behind : Tree → List ℕ → Fetched → Result Submission Refusal
behind tree folder fetched = and_then (kind_in fetched) (λ kind. imaged tree folder fetched kind)

submission_equals : (tree : Tree) (folder : List ℕ) (plan : CopyPlan) (conf : Settings) → plan.source ≡ Dir folder → plan.short ≡ None → Equals tree (submission plan conf) (submitted_in tree folder)
unfolding submission submitted_in
submission_equals tree folder plan conf is whole a b r end tells =
    let got = walk a b r end tells in
    (got.0 ∙ flatten (manifest_of tree folder), got.1)
  where
    flatten : (m : Result Fetched Refusal) → and_then (and_then m (λ fetched. Ok (found_in folder fetched))) (λ (it : FoundImage). behind tree folder it.found.fetched) ≡ and_then m (λ fetched. behind tree folder fetched)
    flatten (Ok fetched) = refl
    flatten (Err e) = refl

    put : FoundImage → Kind → ImageRead → List (List ℕ) → Submission
    put it kind image signatures = record { from = it.found.from; place = it.place; manifest = it.found.fetched.bytes; kind = kind; image = image; signatures = signatures }

    put_is : (it : FoundImage) (kind : Kind) (image : ImageRead) (signatures : List (List ℕ)) → it.place ≡ Dir folder → it.found.from ≡ source.Folder folder → put it kind image signatures ≡ submission_of folder it.found.fetched kind image signatures
    put_is it kind image signatures named from =
        ap (λ p. record { from = it.found.from; place = p; manifest = it.found.fetched.bytes; kind = kind; image = image; signatures = signatures }) named
        ∙ ap (λ f. record { from = f; place = Dir folder; manifest = it.found.fetched.bytes; kind = kind; image = image; signatures = signatures }) from

    read : (it : FoundImage) → it.found.from ≡ source.Folder folder → Equals tree (reading (SignaturesEnd it.found.from (store_of plan it.place it.found.fetched.bytes) None)) (signatures_of tree folder)
    read it from =
        subst (λ f. Equals tree (reading (SignaturesEnd f (store_of plan it.place it.found.fetched.bytes) None)) (signatures_of tree folder)) (sym from)
        (signatures_equal tree folder (store_of plan it.place it.found.fetched.bytes))

    rest : (it : FoundImage) → it.place ≡ Dir folder → it.found.from ≡ source.Folder folder
        → Equals tree (given (kind_in it.found.fetched) >>= (λ kind. given (image_in kind it.found.fetched) >>= (λ image. reading (SignaturesEnd it.found.from (store_of plan it.place it.found.fetched.bytes) None) >>= (λ signatures. given (Ok (put it kind image signatures))))))
        (behind tree folder it.found.fetched)
    rest it named from =
        equal_then tree (given (kind_in it.found.fetched)) _ (kind_in it.found.fetched) (λ u. and_then u (λ kind. imaged tree folder it.found.fetched kind)) (λ e. refl)
        (given_as tree (kind_in it.found.fetched) (kind_in it.found.fetched) refl)
        (λ kind k. equal_then tree (given (image_in kind it.found.fetched)) _ (image_in kind it.found.fetched) (λ u. and_then u (λ image. signed tree folder it.found.fetched kind image)) (λ e. refl)
        (given_as tree (image_in kind it.found.fetched) (image_in kind it.found.fetched) refl)
        (λ image i. equal_then tree (reading (SignaturesEnd it.found.from (store_of plan it.place it.found.fetched.bytes) None)) (λ signatures. given (Ok (put it kind image signatures))) (signatures_of tree folder)
        (λ u. and_then u (λ signatures. Ok (submission_of folder it.found.fetched kind image signatures))) (λ e. refl)
        (read it from)
        (λ signatures g. given_as tree (Ok (put it kind image signatures)) (Ok (submission_of folder it.found.fetched kind image signatures)) (ap Ok (put_is it kind image signatures named from)))))

    walk : Equals tree (submission plan conf) (and_then (and_then (manifest_of tree folder) (λ fetched. Ok (found_in folder fetched))) (λ (it : FoundImage). behind tree folder it.found.fetched))
    walk = equal_then tree (found plan conf) _ (and_then (manifest_of tree folder) (λ fetched. Ok (found_in folder fetched)))
        (λ u. and_then u (λ (it : FoundImage). behind tree folder it.found.fetched)) (λ e. refl)
        (found_equals tree folder plan conf is whole)
        (λ it e. let f = image_found folder (manifest_of tree folder) it e in rest it f.0 f.1)

-- a value behind two steps comes of a value of the first
split : {A B : Type 0} (w : Result A Refusal) (f : A → Result B Refusal) (y : B) → Ok y ≡ and_then w f → (x : A) × (Ok y ≡ f x)
split {B = B} (Ok x) f y e = (x, e)
split {B = B} (Err d) f y e = let no : ◌≡◌ {A = Result B Refusal} (Ok y) (Err d) = e in cc

record IsOfFolder (folder : List ℕ) (s : Submission) : Type 0 where
  pub place : s.place ≡ Dir folder
  pub from : s.from ≡ source.Folder folder

submitted_of : (tree : Tree) (folder : List ℕ) (s : Submission) → Ok s ≡ submitted_in tree folder → IsOfFolder folder s
unfolding submitted_in
submitted_of tree folder s is =
    let fetched = split (manifest_of tree folder) (λ fetched. behind tree folder fetched) s is in
    let kind = split (kind_in fetched.0) (λ kind. imaged tree folder fetched.0 kind) s fetched.1 in
    let image = split (image_in kind.0 fetched.0) (λ image. signed tree folder fetched.0 kind.0 image) s kind.1 in
    let signatures = split (signatures_of tree folder) (λ signatures. Ok (submission_of folder fetched.0 kind.0 image.0 signatures)) s image.1 in
    let same = ok_same {E = Refusal} s (submission_of folder fetched.0 kind.0 image.0 signatures.0) signatures.1 in
    record { place = ap (λ (v : Submission). v.place) same; from = ap (λ (v : Submission). v.from) same }

-- ---- the gate

-- the folder's image was admitted, as the tree says
record IsTaken (tree : Tree) (folder : List ℕ) (policy : PolicyLists) (it : TakenImage) (s : Submission) : Type 0 where
  pub admitted : admitted_in tree folder policy ≡ Ok s
  pub from : it.from ≡ source.Folder folder
  pub jobs : it.image.jobs ≡ blobs s.image
  pub copied : copied_of it.image ≡ copied_in s

-- it was, and the lane tells the tree still; or why not, as the tree says
abbrev GivenBy : Tree → List ℕ → PolicyLists → LaneTold → Result TakenImage Refusal → Type 0
GivenBy tree folder policy b (Ok it) = ((s : Submission) × IsTaken tree folder policy it s) × Tells tree b
GivenBy tree folder policy b (Err e) = Comes {A = Submission} of.is_memory (Err e) (admitted_in tree folder policy)

module _ (tree : Tree) (folder : List ℕ) (plan : CopyPlan) (conf : Settings) (policy : PolicyLists) (from : plan.source ≡ Dir folder) (whole : plan.short ≡ None) (alone : plan.verifier ≡ None) where
  -- behind what is put to the gate
  abbrev gated : Result Submission Refusal → Result Submission Refusal
  gated w = and_then w (λ s. and_then (judged_by (chosen policy (Dir folder)) s.signatures) (λ _. Ok s))

  admitted_is : (s : Submission) (w : Result ⊤ Refusal) → Ok s ≡ submitted_in tree folder → judged_by (chosen policy s.place) s.signatures ≡ w → admitted_in tree folder policy ≡ and_then w (λ _. Ok s)
  unfolding admitted_in
  admitted_is s w is judged =
      ap gated (sym is)
      ∙ ap (λ u. and_then u (λ _. Ok s)) (ap (λ p. judged_by (chosen policy p) s.signatures) (sym (submitted_of tree folder s is).place) ∙ judged)

  judged_comes : (s : Submission) (a b : GateTold) (r : Result TakenImage Refusal) → Ok s ≡ submitted_in tree folder → Tells tree b.lane → JudgedAs plan policy s a b r → GivenBy tree folder policy b.lane r
  judged_comes s a b (Ok it) is tells (holds, same) = (
    (
      s,
      record {
        admitted = admitted_is s (Ok tt) is holds;
        from = ap (λ (t : TakenImage). t.from) same ∙ (submitted_of tree folder s is).from;
        jobs = ap (λ (t : TakenImage). t.image.jobs) same;
        copied = ap (λ (t : TakenImage). copied_of t.image) same;
      },
    ),
    tells,
  )
  judged_comes s a b (Err e) is tells (inl memory) = inl memory
  judged_comes s a b (Err e) is tells (inr refused) = inr (sym (admitted_is s (Err e) is refused))

  judging_tells : (s : Submission) (a b : GateTold) (r : Result TakenImage Refusal) → judging plan policy s a b r → Tells tree a.lane → Tells tree b.lane
  unfolding judging
  judging_tells s a b r end tells = end.untouched.files ∙ tells

  submission_refused : (a b : LaneTold) (e : Refusal) → IsCalm a b → Tells tree a → Ends lane_course (submission plan conf) a b (Err e) → Comes {A = Submission} of.is_memory (Err e) (admitted_in tree folder policy)
  unfolding admitted_in
  submission_refused a b e calm tells end =
      refused_as of.is_memory e (submitted_in tree folder) gated (λ d. refl)
      (lane_comes (submission plan conf) (submitted_in tree folder) a b (Err e) calm end (λ r one. (submission_equals tree folder plan conf from whole a b r one tells).0))

  admission_comes : (a b : GateTold) (r : Result TakenImage Refusal) → IsCalm a.lane b.lane → Tells tree a.lane → admission plan conf policy a b r → GivenBy tree folder policy b.lane r
  unfolding admission on_lane
  admission_comes a b r calm tells end = by a b r calm tells end
    where
      by : (a b : GateTold) (r : Result TakenImage Refusal) → IsCalm a.lane b.lane → Tells tree a.lane → Then (on_lane (submission plan conf)) (judging plan policy) a b r → GivenBy tree folder policy b.lane r
      by a b r calm tells (goes k m t s w one two) =
          let put = submission_equals tree folder plan conf from whole k.lane m.lane (Ok s) (lane_value (submission plan conf) k.lane m.lane s one.0) tells in
          judged_comes s m t w put.0 (judging_tells s m t w two put.1) (judged_as plan policy s m t w alone two)
      by a b r calm tells (stops k t e one) = submission_refused k.lane t.lane e calm tells one.0

  gate_comes : (a b : GateTold) (r : Result TakenImage Refusal) → IsCalm a.lane b.lane → Tells tree a.lane → Ends gate_course (admission plan conf policy) a b r → GivenBy tree folder policy b.lane r
  unfolding Ends gate_course
  gate_comes a b (Ok it) calm tells end = admission_comes a b (Ok it) calm tells end.ends
  gate_comes a b (Err e) calm tells end = by (of.is_memory e) refl end.ends
    where
      by : (m : Bool) → of.is_memory e ≡ m → EndsBy {A = TakenImage} m gate_course e (admission plan conf policy) a b → GivenBy tree folder policy b.lane (Err e)
      by true is shown = inl is
      by false is one = admission_comes a b (Err e) calm tells one

-- ---- each step goes on

goes_securing : (from : Source) (to : Dest) (jobs : List Job) → Goes (securing from to jobs)
unfolding securing
goes_securing from to jobs x y r end = all_later to x.lanes y.lanes end.1

goes_readying : (from : Source) (to : Dest) (jobs : List Job) → Goes (readying from to jobs)
unfolding readying
goes_readying from to jobs = goes_then (on_first lane_course (taking to)) (λ _. securing from to jobs) (goes_on (taking to)) (λ v. goes_securing from to jobs)

goes_putting : (to : Dest) (copied : Copied) → Goes (on_first lane_course (putting to) >>= (λ _. given {E = Refusal} (Ok copied)))
goes_putting to copied = goes_then (on_first lane_course (putting to)) (λ _. given (Ok copied)) (goes_on (putting to)) (λ v. goes_given (Ok copied))

goes_placing : (from : Source) (to : Dest) (it : Admission) → Goes (placing from to it)
unfolding placing
goes_placing from to it = goes_then (readying from to it.jobs) (λ _. on_first lane_course (putting to) >>= (λ _. given (Ok (copied_of it)))) (goes_readying from to it.jobs) (λ v. goes_putting to (copied_of it))

goes_gate : (plan : CopyPlan) (conf : Settings) (policy : PolicyLists) → Goes (at_gate (admission plan conf policy))
unfolding at_gate Ends gate_course
goes_gate plan conf policy x y r end =
    first_each IsLater later_same x.lanes y.lanes
    (first_with (λ a b. Ends gate_course (admission plan conf policy) (record { lane = a; helper = x.helper }) (record { lane = b; helper = y.helper }) r) IsLater (λ a b e. e.later.lane) x.lanes y.lanes end.0) end.1

goes_image : (plan : CopyPlan) (conf : Settings) (policy : PolicyLists) → Goes (image_end plan conf policy)
unfolding image_end
goes_image plan conf policy = goes_then (given (dest_at plan.dest)) (λ to. at_gate (admission plan conf policy) >>= (λ it. placing it.from to it.image)) (goes_given (dest_at plan.dest))
    (λ to. goes_then (at_gate (admission plan conf policy)) (λ it. placing it.from to it.image) (goes_gate plan conf policy) (λ it. goes_placing it.from to it.image))

-- ---- the same in the command's course

memory_image : {A : Type 0} (i : Refusal) (w : Result A CommandRefusal) → Comes {A = ⊤} of.is_memory (Err i) (Ok tt) → Comes {A = A} is_memory (Err (Image i)) w
memory_image i w (inl m) = inl m
memory_image i w (inr bad) = let n : ◌≡◌ {A = Result ⊤ Refusal} (Err i) (Ok tt) = bad in cc

app_comes : {A : Type 0} (step : LaneStep CommandRefusal A) (w : Result A CommandRefusal) (a b : LaneTold) (r : Result A CommandRefusal) → IsCalm a b → Ends app.lane_course step a b r → ((s : Result A CommandRefusal) → step a b s → s ≡ w) → Comes is_memory r w
unfolding Ends app.lane_course
app_comes step w a b (Ok v) calm end is = inr (is (Ok v) end.ends)
app_comes {A} step w a b (Err e) calm end is = by (is_free e) refl end.ends
  where
    of_image_free : (e : CommandRefusal) → is_free e ≡ true → Shows e a b → Comes {A = A} is_memory (Err e) w
    of_image_free (Image i) free shows = memory_image i w (free_comes {A = ⊤} i (Ok tt) a b calm free shows)
    of_image_free (Words p k) free shows = let no : false ≡ true = free in cc
    of_image_free (Reference t f) free shows = let no : false ≡ true = free in cc
    of_image_free (SamePlace p) free shows = let no : false ≡ true = free in cc
    of_image_free (NotBuilt p) free shows = let no : false ≡ true = free in cc
    of_image_free (PolicyMissing p) free shows = let no : false ≡ true = free in cc
    of_image_free (PolicyInvalid p k m) free shows = let no : false ≡ true = free in cc
    of_image_free PolicyTooLarge free shows = let no : false ≡ true = free in cc
    of_image_free (ConfMissing p) free shows = let no : false ≡ true = free in cc
    of_image_free (ConfInvalid p f) free shows = let no : false ≡ true = free in cc
    of_image_free ConfTooLarge free shows = let no : false ≡ true = free in cc
    of_image_free (Output n) free shows = let no : false ≡ true = free in cc

    by : (f : Bool) → is_free e ≡ f → EndsBy {A = A} f app.lane_course e step a b → Comes is_memory (Err e) w
    by true free shows = of_image_free e free shows
    by false free ends = inr (is (Err e) ends)

app_value : {A : Type 0} (step : LaneStep CommandRefusal A) (a b : LaneTold) (v : A) → Ends app.lane_course step a b (Ok v) → step a b (Ok v)
unfolding Ends
app_value step a b v end = end.ends

app_later : {A : Type 0} (step : LaneStep CommandRefusal A) (a b : LaneTold) (r : Result A CommandRefusal) → Ends app.lane_course step a b r → IsLater a b
unfolding Ends app.lane_course
app_later step a b r end = end.later

-- ---- the lanes ahead of the first change, and behind the destination's

-- the first lane tells the tree, and all start with its blobs
record Begins (folder : List ℕ) (tree : Tree) (x : Seen) : Type 0 where
  pub first : first_tree x.lanes ≡ Some tree
  pub same : AllStart folder tree x

begins_still : (folder : List ℕ) (tree : Tree) (x y : Seen) → Begins folder tree x → KeepsFrom 1 x.lanes y.lanes → first_tree y.lanes ≡ Some tree → Begins folder tree y
begins_still folder tree x y begins kept first = record { first = first; same = same }
  where
    same : AllStart folder tree y
    same zero lane at = record { files = tree; told = first_tells tree y.lanes lane first at; same = λ digest. refl }
    same (suc place) lane at = begins.same (suc place) lane (sym (kept.rest (suc place) (omega arith)) ∙ at)

-- what source and gate came to on the first lane
first_gate : (tree : Tree) (folder : List ℕ) (plan : CopyPlan) (conf : Settings) (policy : PolicyLists) → plan.source ≡ Dir folder → plan.short ≡ None → plan.verifier ≡ None
    → (x y : Seen) (r : Result TakenImage Refusal) → at_gate (admission plan conf policy) x y r → Begins folder tree x → Calm x y → (b : LaneTold) × GivenBy tree folder policy b r × ((b.files.tree ≡ Some tree) → first_tree y.lanes ≡ Some tree)
unfolding at_gate
first_gate tree folder plan conf policy from whole alone x y r end begins calm = by x.lanes y.lanes end.0 begins.first calm
  where
    by : (k l : List LaneTold) → OnFirst (λ a b. Ends gate_course (admission plan conf policy) (record { lane = a; helper = x.helper }) (record { lane = b; helper = y.helper }) r) k l → first_tree k ≡ Some tree
        → OnEach (λ place a b. IsCalm a b) k l → (b : LaneTold) × GivenBy tree folder policy b r × ((b.files.tree ≡ Some tree) → first_tree l ≡ Some tree)
    by [] l e first calm = let no : None ≡ Some tree = first in cc
    by (a ∷ k) [] e first calm = absurd e
    by (a ∷ k) (b ∷ l) e first calm =
        (b, gate_comes tree folder plan conf policy from whole alone (record { lane = a; helper = x.helper }) (record { lane = b; helper = y.helper }) r (calm.each 0 a b refl refl) first e, λ tells. tells)

gate_kept : (plan : CopyPlan) (conf : Settings) (policy : PolicyLists) (x y : Seen) (r : Result TakenImage Refusal) → at_gate (admission plan conf policy) x y r → KeepsFrom 1 x.lanes y.lanes
unfolding at_gate
gate_kept plan conf policy x y r end = end.1

first_kept : {A : Type 0} (step : LaneStep Refusal A) (x y : Seen) (r : Result A Refusal) → on_first lane_course step x y r → KeepsFrom 1 x.lanes y.lanes
unfolding on_first
first_kept step x y r end = end.1

starts_works : (folder target : List ℕ) (tree : Tree) (a b : LaneTold) → folder ≢ target → StartsWith folder tree a → Works (dest.Folder target) a b → StartsWith folder tree b
unfolding Spares AreApart
starts_works folder target tree a b apart starts works = by b.files.tree refl (subst (λ v. Told (SameIn folder) v b.files.tree) starts.told (only_spares (source.Folder folder) (dest.Folder target) a b apart (works_later (dest.Folder target) a b works) (works_only (dest.Folder target) a b works)))
  where
    by : (y : Option Tree) → b.files.tree ≡ y → Told (SameIn folder) (Some starts.files) y → StartsWith folder tree b
    by None e r = absurd r
    by (Some u) e r = record { files = u; told = e; same = λ digest. r (blob_path folder digest) (blob_in folder digest) ∙ starts.same digest }

no_lane : (m : List LaneTold) (lane : LaneTold) → length m ≡ 0 → slice_get m 0 ≡ Some lane → ⊥
no_lane [] lane none at = let n : None ≡ Some lane = at in cc
no_lane (b ∷ m) lane none at = omega (arith, none)

starts_taken : (folder target : List ℕ) (tree : Tree) (x m : Seen) (v : ⊤) → folder ≢ target → Begins folder tree x → on_first lane_course (taking (dest.Folder target)) x m (Ok v) → AllStart folder tree m
unfolding on_first taking Ends
starts_taken folder target tree x m v apart begins end = by x.lanes m.lanes begins.same end.0 end.1
  where
    by : (x m : List LaneTold) → ((place : ℕ) (lane : LaneTold) → slice_get x place ≡ Some lane → StartsWith folder tree lane) → OnFirst (λ a b. Ends lane_course (taking (dest.Folder target)) a b (Ok v)) x m → KeepsFrom 1 x m
        → (place : ℕ) (lane : LaneTold) → slice_get m place ≡ Some lane → StartsWith folder tree lane
    by [] m same first kept zero lane at = absurd (no_lane m lane kept.same at)
    by (a ∷ x) [] same first kept zero lane at = absurd first
    by (a ∷ x) (b ∷ m) same first kept zero lane at = subst (StartsWith folder tree) (some_same b lane at) (starts_works folder target tree a b apart (same 0 a refl) first.ends.1)
    by x m same first kept (suc place) lane at = same (suc place) lane (sym (kept.rest (suc place) (omega arith)) ∙ at)

-- ---- the destination and the jobs

taking_is : (tree : Tree) (target : List ℕ) (taken : Result ⊤ Refusal) → Judges tree target taken → (a b : LaneTold) (r : Result ⊤ Refusal) → Tells tree a → taking (dest.Folder target) a b r → r ≡ taken
unfolding taking MayTake MayNotTake
taking_is tree target (Ok d) judges a b (Ok v) tells end = refl
taking_is tree target (Ok d) judges a b (Err e) tells end = absurd (told tree (λ t. MayReplace t target → ⊥) a.files.tree tells end.1 judges)
taking_is tree target (Err f) judges a b (Ok v) tells end = absurd (judges.1 (told tree (λ t. MayReplace t target) a.files.tree tells end.0))
taking_is tree target (Err f) judges a b (Err e) tells end = ap Err (end.0 ∙ sym judges.0)

tells_blobs : (folder : List ℕ) (jobs : List Job) (tree : Tree) (lane : LaneTold) → StartsWith folder tree lane → TellsBlobs folder jobs tree lane
unfolding SameBlobs
tells_blobs folder jobs tree lane starts = record {
  files = starts.files;
  told = starts.told;
  same = subst (λ v. IfSome v (λ t. (k : ℕ) (job : Job) → slice_get jobs k ≡ Some job → file_at t (blob_path folder job.digest) ≡ file_at tree (blob_path folder job.digest))) (sym starts.told) (λ k job at. starts.same job.digest);
}

-- the cause of a reading is none that may come at any step
abbrev free_of : Result (List ℕ) Cause → Bool
free_of (Ok bytes) = false
free_of (Err c) = of.is_free_cause c

judged_bound : (b : Bool) (bytes : List ℕ) (m : BlobMismatch) → free_of (cond b (Ok bytes) (Err (cause.BlobMismatch m))) ≡ false
judged_bound true bytes m = refl
judged_bound false bytes m = refl

bound_of : (job : Job) (x : Option (List ℕ)) (c : Cause) → looked_at job x ≡ Err c → of.is_free_cause c ≡ false
bound_of job None c is = ap free_of (sym is)
bound_of job (Some all) c is = ap free_of (sym is) ∙ judged_bound (is_whole job (take (limit_of job) all)) (take (limit_of job) all) (mismatch_of job (take (limit_of job) all))

by_bound : (number : ℕ) (c : Cause) → of.is_free_cause c ≡ false → of.by_cause number c ≡ image.Job number c
by_bound number (cause.Files count) is = let no : true ≡ false = is in cc
by_bound number (cause.Wire count) is = let no : true ≡ false = is in cc
by_bound number (cause.TlsRequired host) is = refl
by_bound number (cause.BlobMismatch m) is = refl
by_bound number (cause.BlobAbsent digest) is = refl
by_bound number (cause.DestRefused step code) is = refl
by_bound number (cause.TooLarge what length) is = refl
by_bound number (cause.BadAnswer step bytes) is = refl
by_bound number (cause.SourceRefused step code) is = refl
by_bound number (cause.Encoded step) is = refl
by_bound number (cause.TooManyRedirects step) is = refl
by_bound number cause.Memory is = let no : true ≡ false = is in cc

memory_of : (number : ℕ) (c : Cause) (a b : LaneTold) → of.is_free_cause c ≡ true → IsCalm a b → of.Blames c a b → of.is_memory (of.by_cause number c) ≡ true
memory_of number (cause.Files count) a b free calm shows = absurd (calm.files shows.rose)
memory_of number (cause.Wire count) a b free calm (inl f) = absurd (calm.from f.rose)
memory_of number (cause.Wire count) a b free calm (inr f) = absurd (calm.to f.rose)
memory_of number (cause.TlsRequired host) a b free calm shows = let no : false ≡ true = free in cc
memory_of number (cause.BlobMismatch m) a b free calm shows = let no : false ≡ true = free in cc
memory_of number (cause.BlobAbsent digest) a b free calm shows = let no : false ≡ true = free in cc
memory_of number (cause.DestRefused step code) a b free calm shows = let no : false ≡ true = free in cc
memory_of number (cause.TooLarge what length) a b free calm shows = let no : false ≡ true = free in cc
memory_of number (cause.BadAnswer step bytes) a b free calm shows = let no : false ≡ true = free in cc
memory_of number (cause.SourceRefused step code) a b free calm shows = let no : false ≡ true = free in cc
memory_of number (cause.Encoded step) a b free calm shows = let no : false ≡ true = free in cc
memory_of number (cause.TooManyRedirects step) a b free calm shows = let no : false ≡ true = free in cc
memory_of number cause.Memory a b free calm shows = refl

module _ (tree : Tree) (folder target : List ℕ) (apart : folder ≢ target) (taken : Result ⊤ Refusal) (judges : Judges tree target taken) where
  tell_blobs : (jobs : List Job) (x : Seen) → AllStart folder tree x → TellBlobs folder jobs tree x.lanes
  tell_blobs jobs x starts place lane at = tells_blobs folder jobs tree lane (starts place lane at)

  least_comes : (jobs : List Job) (x y : Seen) (e : Refusal) → AllStart folder tree x → Calm x y → IsLeast (source.Folder folder) (dest.Folder target) jobs x.lanes y.lanes e → Comes {A = ⊤} of.is_memory (Err e) (first_fault tree folder jobs)
  least_comes jobs x y e starts calm l = by (of.is_free_cause l.cause) refl l.failed.holds
    where
      by : (f : Bool) → of.is_free_cause l.cause ≡ f → FailsBy (source.Folder folder) l.job l.cause l.failed.before l.failed.after → Comes {A = ⊤} of.is_memory (Err e) (first_fault tree folder jobs)
      by false bound holds = inr (ap Err (l.is ∙ by_bound l.job.number l.cause bound) ∙ sym (least_is_fault tree folder target jobs x.lanes y.lanes e (tell_blobs jobs x starts) l bound))
      by true free (inl f) = inl (ap of.is_memory l.is ∙ memory_of l.job.number l.cause l.failed.before l.failed.after free (calm.each l.failed.place l.failed.before l.failed.after l.failed.was l.failed.now) f.blames)
      by true free (inr ends) =
          let is = ends_at tree folder jobs l.place l.job l.failed.before l.failed.after (Err l.cause) (tell_blobs jobs x starts l.failed.place l.failed.before l.failed.was) l.at ends in
          let no : true ≡ false = sym free ∙ bound_of l.job (file_at tree (blob_path folder l.job.digest)) l.cause (sym is) in
          cc

  jobs_come : (jobs : List Job) (x y : Seen) (r : Result ⊤ Refusal) → securing (source.Folder folder) (dest.Folder target) jobs x y r → AllStart folder tree x → Calm x y → Comes of.is_memory r (first_fault tree folder jobs)
  unfolding securing
  jobs_come jobs x y (Ok v) end starts calm = inr (sym (done_no_fault tree folder target jobs x.lanes y.lanes (tell_blobs jobs x starts) end.0))
  jobs_come jobs x y (Err e) end starts calm = by end.0
    where
      by : JobsEnd {A = ⊤} (source.Folder folder) (dest.Folder target) jobs x.lanes y.lanes (Err e) → Comes {A = ⊤} of.is_memory (Err e) (first_fault tree folder jobs)
      by (inl least) = least_comes jobs x y e starts calm least
      by (inr memory) = inl (ap of.is_memory memory.0)

  readying_comes : (jobs : List Job) (x y : Seen) (r : Result ⊤ Refusal) → readying (source.Folder folder) (dest.Folder target) jobs x y r → Begins folder tree x → Calm x y → Comes of.is_memory r (and_then taken (λ _. first_fault tree folder jobs))
  unfolding readying
  readying_comes jobs x y r end begins calm =
      comes_then of.is_memory (on_first lane_course (taking (dest.Folder target))) (λ _. securing (source.Folder folder) (dest.Folder target) jobs) taken (λ u. and_then u (λ _. first_fault tree folder jobs))
      (Begins folder tree) (AllStart folder tree) (λ e. refl) (goes_on (taking (dest.Folder target))) (λ v. goes_securing (source.Folder folder) (dest.Folder target) jobs)
      (λ a m s one i c. first_comes of.is_memory lane_course (taking (dest.Folder target)) taken (lane_comes (taking (dest.Folder target)) taken) a m s (some_lane tree a.lanes i.first) c one (λ k l v at t. taking_is tree target taken judges k l v (first_tells tree a.lanes k i.first at) t))
      (λ a m v one i. starts_taken folder target tree a m v apart i one)
      (λ m b v s is two i c. jobs_come jobs m b s two i c)
      x y r end begins calm

  -- the signatures and the manifest
  puts : (copied : Copied) (x y : Seen) (r : Result Copied Refusal) → (on_first lane_course (putting (dest.Folder target)) >>= (λ _. given {E = Refusal} (Ok copied))) x y r → 0 < length x.lanes → Calm x y → Comes of.is_memory r (Ok copied)
  unfolding putting
  puts copied x y r end some calm =
      comes_then of.is_memory (on_first lane_course (putting (dest.Folder target))) (λ _. given (Ok copied)) (Ok tt) (λ u. and_then u (λ _. Ok copied))
      (λ s. 0 < length s.lanes) (λ s. Unit {0}) (λ e. refl) (goes_on (putting (dest.Folder target))) (λ v. goes_given (Ok copied))
      (λ a m s one i c. first_comes of.is_memory lane_course (putting (dest.Folder target)) (Ok tt) (lane_comes (putting (dest.Folder target)) (Ok tt)) a m s i c one (λ k l v at t. put k l v t))
      (λ a m v one i. tt)
      (λ m b v s is two i c. comes_given of.is_memory (Ok copied) (Ok copied) refl m b s two)
      x y r end some calm
    where
      put : (a b : LaneTold) (r : Result ⊤ Refusal) → putting (dest.Folder target) a b r → r ≡ Ok tt
      put a b (Ok v) end = refl
      put a b (Err e) end = absurd end

  -- an admitted image at its destination
  abbrev placed_at : Admission → Result Copied Refusal
  placed_at it = and_then taken (λ _. and_then (first_fault tree folder it.jobs) (λ _. Ok (copied_of it)))

  placing_comes : (it : Admission) (x y : Seen) (r : Result Copied Refusal) → placing (source.Folder folder) (dest.Folder target) it x y r → Begins folder tree x → Calm x y → Comes of.is_memory r (placed_at it)
  unfolding placing
  placing_comes it x y r end begins calm =
      comes_as of.is_memory r (and_then (and_then taken (λ _. first_fault tree folder it.jobs)) (λ _. Ok (copied_of it))) (and_then taken (λ _. and_then (first_fault tree folder it.jobs) (λ _. Ok (copied_of it))))
      (comes_then of.is_memory (readying (source.Folder folder) (dest.Folder target) it.jobs) (λ _. on_first lane_course (putting (dest.Folder target)) >>= (λ _. given (Ok (copied_of it))))
      (and_then taken (λ _. first_fault tree folder it.jobs)) (λ u. and_then u (λ _. Ok (copied_of it)))
      (Begins folder tree) (λ s. 0 < length s.lanes) (λ e. refl) (goes_readying (source.Folder folder) (dest.Folder target) it.jobs) (λ v. goes_putting (dest.Folder target) (copied_of it))
      (λ a m s one i c. readying_comes it.jobs a m s one i c)
      (λ a m v one i. some_still a m (some_lane tree a.lanes i.first) (goes_readying (source.Folder folder) (dest.Folder target) it.jobs a m (Ok v) one))
      (λ m b v s is two i c. puts (copied_of it) m b s two i c)
      x y r end begins calm)
      (flat taken (λ _. first_fault tree folder it.jobs) (λ _. Ok (copied_of it)))
    where
      some_still : (a m : Seen) → 0 < length a.lanes → OnEach (λ place a b. IsLater a b) a.lanes m.lanes → 0 < length m.lanes
      some_still a m some later = let n = later.count in omega arith

  placed_is : (it : TakenImage) (s : Submission) (policy : PolicyLists) → IsTaken tree folder policy it s → placed_at it.image ≡ placed_in tree folder taken s
  unfolding placed_in
  placed_is it s policy is =
      ap (λ jobs. and_then taken (λ _. and_then (first_fault tree folder jobs) (λ _. Ok (copied_of it.image)))) is.jobs
      ∙ ap (λ told. and_then taken (λ _. and_then (first_fault tree folder (blobs s.image)) (λ _. Ok told))) is.copied

  -- ---- one image

  abbrev copied : PolicyLists → Result Copied Refusal
  copied policy = and_then (admitted_in tree folder policy) (λ s. placed_in tree folder taken s)

  behind_gate : (plan : CopyPlan) (conf : Settings) (policy : PolicyLists) → plan.source ≡ Dir folder → plan.short ≡ None → plan.verifier ≡ None
      → (m b : Seen) (r : Result Copied Refusal) → (at_gate (admission plan conf policy) >>= (λ it. placing it.from (dest.Folder target) it.image)) m b r → Begins folder tree m → Calm m b → Comes of.is_memory r (copied policy)
  behind_gate plan conf policy from whole alone m b r (goes k l t it w one two) i c =
      let before = goes_gate plan conf policy k l (Ok it) one in
      let behind = goes_placing it.from (dest.Folder target) it.image l t w two in
      let got = first_gate tree folder plan conf policy from whole alone k l (Ok it) one i (front k.lanes l.lanes t.lanes c before behind) in
      let s = got.1.0.0 in
      let is : IsTaken tree folder policy it s = got.1.0.1 in
      let begins = begins_still folder tree k l i (gate_kept plan conf policy k l (Ok it) one) (got.2 got.1.1) in
      comes_as of.is_memory w (placed_at it.image) (copied policy)
      (placing_comes it.image l t w (subst (λ f. placing f (dest.Folder target) it.image l t w) is.from two) begins (back k.lanes l.lanes t.lanes c before behind))
      (placed_is it s policy is ∙ ap (λ u. and_then u (λ (v : Submission). placed_in tree folder taken v)) (sym is.admitted))
  behind_gate plan conf policy from whole alone m b r (stops k t e one) i c =
      let got = first_gate tree folder plan conf policy from whole alone k t (Err e) one i c in
      refused_as of.is_memory e (admitted_in tree folder policy) (λ u. and_then u (λ (v : Submission). placed_in tree folder taken v)) (λ d. refl) got.1

  image_comes : (plan : CopyPlan) (conf : Settings) (policy : PolicyLists) → plan.source ≡ Dir folder → plan.short ≡ None → plan.verifier ≡ None → plan.dest ≡ Dir target
      → (x y : Seen) (r : Result Copied Refusal) → image_end plan conf policy x y r → Begins folder tree x → Calm x y → Comes of.is_memory r (copy_in tree folder taken policy)
  unfolding image_end copy_in
  image_comes plan conf policy from whole alone to x y r end begins calm =
      comes_then of.is_memory (given (dest_at plan.dest)) (λ d. at_gate (admission plan conf policy) >>= (λ it. placing it.from d it.image)) (Ok (dest.Folder target)) (λ u. and_then u (λ (d : Dest). copied policy))
      (Begins folder tree) (Begins folder tree) (λ e. refl) (goes_given (dest_at plan.dest))
      (λ d. goes_then (at_gate (admission plan conf policy)) (λ it. placing it.from d it.image) (goes_gate plan conf policy) (λ it. goes_placing it.from d it.image))
      (λ a m s one i c. comes_given of.is_memory (dest_at plan.dest) (Ok (dest.Folder target)) (ap dest_at to) a m s one)
      (λ a m v one i. given_same (dest_at plan.dest) (Begins folder tree) a m (Ok v) one i)
      (λ m b d s is two i c. behind_gate plan conf policy from whole alone m b s (subst (λ (v : Dest). (at_gate (admission plan conf policy) >>= (λ it. placing it.from v it.image)) m b s) (ok_same {E = Refusal} d (dest.Folder target) is) two) i c)
      x y r end begins calm

-- ---- the command

-- an image's step, by its answer
of_image_is : {A : Type 0} (step : SeenStep Refusal A) (P : Result A CommandRefusal → Type 0) (x y : Seen) → ((v : A) → step x y (Ok v) → P (Ok v)) → ((e : Refusal) → step x y (Err e) → P (Err (Image e))) → (r : Result A CommandRefusal) → of_image step x y r → P r
unfolding of_image
of_image_is step P x y f g (Ok v) end = f v end
of_image_is step P x y f g (Err (Image e)) end = g e end
of_image_is step P x y f g (Err (Words p k)) end = absurd end
of_image_is step P x y f g (Err (Reference t d)) end = absurd end
of_image_is step P x y f g (Err (SamePlace p)) end = absurd end
of_image_is step P x y f g (Err (NotBuilt p)) end = absurd end
of_image_is step P x y f g (Err (PolicyMissing p)) end = absurd end
of_image_is step P x y f g (Err (PolicyInvalid p k m)) end = absurd end
of_image_is step P x y f g (Err PolicyTooLarge) end = absurd end
of_image_is step P x y f g (Err (ConfMissing p)) end = absurd end
of_image_is step P x y f g (Err (ConfInvalid p d)) end = absurd end
of_image_is step P x y f g (Err ConfTooLarge) end = absurd end
of_image_is step P x y f g (Err (Output n)) end = absurd end

image_value : {A : Type 0} (v : A) (w : Result A Refusal) → Comes of.is_memory (Ok v) w → Comes is_memory (Ok v) (or_image w)
image_value v w (inl bad) = let n : false ≡ true = bad in cc
image_value v w (inr is) = inr (ap or_image is)

image_refusal : {A : Type 0} (e : Refusal) (w : Result A Refusal) → Comes of.is_memory (Err e) w → Comes is_memory (Err (Image e)) (or_image w)
image_refusal e w (inl is) = inl is
image_refusal e w (inr is) = inr (ap or_image is)

of_image_comes : {A : Type 0} (step : SeenStep Refusal A) (w : Result A Refusal) (x y : Seen) → ((r : Result A Refusal) → step x y r → Comes of.is_memory r w) → (r : Result A CommandRefusal) → of_image step x y r → Comes is_memory r (or_image w)
of_image_comes step w x y f r end = of_image_is step (λ r. Comes is_memory r (or_image w)) x y (λ v one. image_value v w (f (Ok v) one)) (λ e one. image_refusal e w (f (Err e) one)) r end

goes_of_image : {A : Type 0} (step : SeenStep Refusal A) → Goes step → Goes (of_image step)
goes_of_image step f x y r end = of_image_is step (λ r. OnEach (λ place a b. IsLater a b) x.lanes y.lanes) x y (λ v one. f x y (Ok v) one) (λ e one. f x y (Err e) one) r end

policy_equals : (tree : Tree) (home cwd : List ℕ) (choice : PolicyChoice) → Equals tree (policy_end home cwd choice) (policy_at tree home cwd choice)
unfolding policy_end
policy_equals tree home cwd Anything a b r end tells = (end.0, end.1.files ∙ tells)
policy_equals tree home cwd (Named path) a b r end tells = (told tree (λ t. r ≡ policy_file t path) a.files.tree tells end.0, end.1.files ∙ tells)
policy_equals tree home cwd Usual a b r end tells = (told tree (λ t. r ≡ policy_file t (usual_path t home cwd policy_name)) a.files.tree tells end.0, end.1.files ∙ tells)

-- where no registry is named, no configuration is read
unread_equals : (tree : Tree) (home cwd : List ℕ) (choice : ConfChoice) → choice ≡ conf_of.Unread → Equals tree (conf_end home cwd choice) (Ok no_conf)
unfolding conf_end
unread_equals tree home cwd choice is = subst (λ v. Equals tree (conf_end home cwd v) (Ok no_conf)) (sym is) (λ a b r end tells. (end.0, end.1.files ∙ tells))

rules_equal : (tree : Tree) (home cwd : List ℕ) (task : CopyTask) → task.conf ≡ conf_of.Unread → Equals tree (rules_end home cwd task) (and_then (policy_at tree home cwd task.policy) (λ policy. Ok (rules_of policy no_conf)))
unfolding rules_end
rules_equal tree home cwd task unread =
    equal_then tree (policy_end home cwd task.policy) (λ policy. conf_end home cwd task.conf >>= (λ c. both policy c)) (policy_at tree home cwd task.policy) (λ u. and_then u (λ policy. Ok (rules_of policy no_conf))) (λ e. refl)
    (policy_equals tree home cwd task.policy)
    (λ policy e. equal_then tree (conf_end home cwd task.conf) (λ c. both policy c) (Ok no_conf) (λ u. and_then u (λ c. Ok (rules_of policy c))) (λ e. refl) (unread_equals tree home cwd task.conf unread)
    (λ c e. given_as tree (Ok (rules_of policy c)) (Ok (rules_of policy c)) refl))

app_kept : {A : Type 0} (step : LaneStep CommandRefusal A) (x y : Seen) (r : Result A CommandRefusal) → on_first app.lane_course step x y r → KeepsFrom 1 x.lanes y.lanes
unfolding on_first
app_kept step x y r end = end.1

goes_rules : {A : Type 0} (step : LaneStep CommandRefusal A) → Goes (on_first app.lane_course step)
goes_rules step = goes_first app.lane_course step (app_later step)

seen_comes : {A : Type 0} (step : SeenStep CommandRefusal A) (w : Result A CommandRefusal) (x y : Seen) (r : Result A CommandRefusal) → Ends seen_course step x y r → (step x y r → Comes is_memory r w) → Comes is_memory r w
unfolding Ends
seen_comes step w x y (Ok v) end f = f end.ends
seen_comes {A} step w x y (Err e) end f = by (is_memory e) refl end.ends
  where
    by : (m : Bool) → is_memory e ≡ m → EndsBy {A = A} m seen_course e step x y → Comes is_memory (Err e) w
    by true is shown = inl is
    by false is one = f one

module _ (tree : Tree) (home cwd : List ℕ) (task : CopyTask) (folder target : List ℕ) (apart : folder ≢ target) (from : task.plan.source ≡ Dir folder) (whole : task.plan.short ≡ None) (alone : task.plan.verifier ≡ None) (to : task.plan.dest ≡ Dir target) (unread : task.conf ≡ conf_of.Unread) (taken : Result ⊤ Refusal) (judges : Judges tree target taken) where
  abbrev by_policy : Result Copied CommandRefusal
  by_policy = and_then (policy_at tree home cwd task.policy) (λ policy. or_image (copy_in tree folder taken policy))

  abbrev rules_at : Result Rules CommandRefusal
  rules_at = and_then (policy_at tree home cwd task.policy) (λ policy. Ok (rules_of policy no_conf))

  abbrev by_rules : Result Copied CommandRefusal
  by_rules = and_then rules_at (λ (rules : Rules). or_image (copy_in tree folder taken rules.policy))

  rules_come : (x y : Seen) (r : Result Copied CommandRefusal) → image_of_task home cwd task x y r → Begins folder tree x → Calm x y → Comes is_memory r by_rules
  unfolding image_of_task
  rules_come x y r end begins calm =
      comes_then is_memory (on_first app.lane_course (rules_end home cwd task)) (λ rules. of_image (image_end task.plan rules.conf rules.policy)) rules_at (λ u. and_then u (λ (rules : Rules). or_image (copy_in tree folder taken rules.policy)))
      (Begins folder tree) (Begins folder tree) (λ e. refl) (goes_rules (rules_end home cwd task)) (λ rules. goes_of_image (image_end task.plan rules.conf rules.policy) (goes_image task.plan rules.conf rules.policy))
      (λ a m s one i c. first_comes is_memory app.lane_course (rules_end home cwd task) rules_at (app_comes (rules_end home cwd task) rules_at) a m s (some_lane tree a.lanes i.first) c one
      (λ k l v at t. (rules_equal tree home cwd task unread k l v t (first_tells tree a.lanes k i.first at)).0))
      (λ a m v one i. begins_still folder tree a m i (app_kept (rules_end home cwd task) a m (Ok v) one) (first_still is_memory app.lane_course (rules_end home cwd task) tree rules_at (rules_equal tree home cwd task unread) (app_value (rules_end home cwd task)) a m v i.first one))
      (λ m b rules s is two i c. of_image_comes (image_end task.plan rules.conf rules.policy) (copy_in tree folder taken rules.policy) m b (λ v end. image_comes tree folder target apart taken judges task.plan rules.conf rules.policy from whole alone to m b v end i c) s two)
      x y r end begins calm

  task_comes : (x y : Seen) (r : Result Copied CommandRefusal) → image_of_task home cwd task x y r → Begins folder tree x → Calm x y → Comes is_memory r by_policy
  task_comes x y r end begins calm = comes_as is_memory r by_rules by_policy (rules_come x y r end begins calm) (flat (policy_at tree home cwd task.policy) (λ policy. Ok (rules_of policy no_conf)) (λ (rules : Rules). or_image (copy_in tree folder taken rules.policy)))

  prints_come : (done : Done) (m t : CommandTold) (r : Result Done CommandRefusal) → (Rose m.out.faults t.out.faults → ⊥) → printing done m t r → Comes is_memory r (Ok done) × (t.seen ≡ m.seen)
  unfolding printing
  prints_come done m t (Ok x) calm end = (inr (ap Ok end.0), end.1)
  prints_come done m t (Err e) calm end = (by e end.1.of_output end.2, end.0)
    where
      by : (e : CommandRefusal) → IsOfOutput e → BlamesOutput e m.out t.out → Comes {A = Done} is_memory (Err e) (Ok done)
      by (Image image.Memory) is blames = inl refl
      by (Image (image.Files n)) is blames = absurd is
      by (Image (image.Wire n)) is blames = absurd is
      by (Image (image.Job k c)) is blames = absurd is
      by (Image (image.NotBuilt p)) is blames = absurd is
      by (Image (image.NotAnImageDir p)) is blames = absurd is
      by (Image (image.TooLarge q n)) is blames = absurd is
      by (Image (image.ManifestInvalid k)) is blames = absurd is
      by (Image (image.Rejected s n y)) is blames = absurd is
      by (Image (image.Blocked n)) is blames = absurd is
      by (Image (image.BadReference text fault)) is blames = absurd is
      by (Image (image.ShortName text count)) is blames = absurd is
      by (Image (image.NoSource attempts)) is blames = absurd is
      by (Image (image.TlsRequired host)) is blames = absurd is
      by (Image (image.Garbled status first)) is blames = absurd is
      by (Image (image.BadAnswer step first)) is blames = absurd is
      by (Image (image.LookasideRefused number status)) is blames = absurd is
      by (Image (image.Encoded step)) is blames = absurd is
      by (Image (image.TooManyRedirects step)) is blames = absurd is
      by (Image (image.Helper count)) is blames = absurd is
      by (Words p k) is blames = absurd is
      by (Reference x f) is blames = absurd is
      by (SamePlace p) is blames = absurd is
      by (NotBuilt p) is blames = absurd is
      by (PolicyMissing p) is blames = absurd is
      by (PolicyInvalid p k q) is blames = absurd is
      by PolicyTooLarge is blames = absurd is
      by (ConfMissing p) is blames = absurd is
      by (ConfInvalid p f) is blames = absurd is
      by ConfTooLarge is blames = absurd is
      by (Output n) is blames = absurd (calm blames.1)

  lanes_come : (s m : CommandTold) (r : Result Copied CommandRefusal) → on_lanes (image_of_task home cwd task) s m r → Begins folder tree s.seen → Calm s.seen m.seen → Comes is_memory r by_policy × (m.out ≡ s.out)
  unfolding on_lanes
  lanes_come s m r end begins calm = (seen_comes (image_of_task home cwd task) by_policy s.seen m.seen r end.0 (λ one. task_comes s.seen m.seen r one begins calm), end.1)

  on_out : (s m : CommandTold) (copied : Copied) → on_lanes (image_of_task home cwd task) s m (Ok copied) → m.out ≡ s.out
  unfolding on_lanes
  on_out s m copied end = end.1

  copy_comes : (before after : CommandTold) (r : Result Done CommandRefusal) → (on_lanes (image_of_task home cwd task) >>= (λ copied. printing (copy_done task.quiet copied))) before after r → Begins folder tree before.seen → AreCalm before after
      → Comes is_memory r (and_then by_policy (λ copied. Ok (copy_done task.quiet copied)))
  copy_comes before after r (goes s m t copied w one two) begins calm =
      let out : m.out ≡ s.out = on_out s m copied one in
      let printed = prints_come (copy_done task.quiet copied) m t w (λ rose. calm.out (subst (λ o. Rose o.faults t.out.faults) out rose)) two in
      let lanes = lanes_come s m (Ok copied) one begins (subst (λ v. Calm s.seen v) printed.1 calm.lanes) in
      subst (λ u. Comes is_memory w (and_then u (λ copied. Ok (copy_done task.quiet copied)))) (value_is is_memory copied by_policy lanes.0) printed.0
  copy_comes before after r (stops s t e one) begins calm = refused_as is_memory e by_policy (λ u. and_then u (λ copied. Ok (copy_done task.quiet copied))) (λ d. refl) (lanes_come s t (Err e) one begins calm.lanes).0

  task_end_comes : (before after : CommandTold) (r : Result Done CommandRefusal) → task_end home cwd (Copy task) before after r → Begins folder tree before.seen → AreCalm before after → Comes is_memory r (answer_in tree home cwd task folder taken)
  unfolding copy_end answer_in
  task_end_comes before after r end begins calm = comes_as is_memory r (and_then by_policy (λ copied. Ok (copy_done task.quiet copied))) (and_then (policy_at tree home cwd task.policy) (λ policy. and_then (or_image (copy_in tree folder taken policy)) (λ copied. Ok (copy_done task.quiet copied))))
      (copy_comes before after r end begins calm)
      (flat (policy_at tree home cwd task.policy) (λ policy. or_image (copy_in tree folder taken policy)) (λ copied. Ok (copy_done task.quiet copied)))

  ending_comes : (words : List (List ℕ)) → task_of words cwd ≡ Ok (Copy task) → (before after : CommandTold) (r : Result Done CommandRefusal) → ending words home cwd before after r → Begins folder tree before.seen → AreCalm before after → Comes is_memory r (answer_in tree home cwd task folder taken)
  unfolding ending given
  ending_comes words named before after r end begins calm = by before after r end begins calm
    where
      by : (before after : CommandTold) (r : Result Done CommandRefusal) → Then (given (task_of words cwd)) (task_end home cwd) before after r → Begins folder tree before.seen → AreCalm before after → Comes is_memory r (answer_in tree home cwd task folder taken)
      by before after r (goes s m t it w one two) begins calm =
          let is : it ≡ Copy task = ok_same {E = CommandRefusal} it (Copy task) (one.1 ∙ named) in
          task_end_comes s t w (subst (λ v. task_end home cwd (Copy task) v t w) one.0 (subst (λ v. task_end home cwd v m t w) is two)) begins calm
      by before after r (stops s t e one) begins calm = let no : ◌≡◌ {A = Result Task CommandRefusal} (Err e) (Ok (Copy task)) = one.1 ∙ named in cc

-- ---- and its status

memory_four : (e : CommandRefusal) → is_memory e ≡ true → status_of (Err e) ≡ 4
unfolding row_of image_row
memory_four (Image image.Memory) memory = refl
memory_four (Image (image.Files n)) memory = let no : false ≡ true = memory in cc
memory_four (Image (image.Wire n)) memory = let no : false ≡ true = memory in cc
memory_four (Image (image.Job k c)) memory = let no : false ≡ true = memory in cc
memory_four (Image (image.NotBuilt p)) memory = let no : false ≡ true = memory in cc
memory_four (Image (image.NotAnImageDir p)) memory = let no : false ≡ true = memory in cc
memory_four (Image (image.TooLarge q n)) memory = let no : false ≡ true = memory in cc
memory_four (Image (image.ManifestInvalid m)) memory = let no : false ≡ true = memory in cc
memory_four (Image (image.Rejected s n y)) memory = let no : false ≡ true = memory in cc
memory_four (Image (image.Blocked n)) memory = let no : false ≡ true = memory in cc
memory_four (Image (image.BadReference text fault)) memory = let no : false ≡ true = memory in cc
memory_four (Image (image.ShortName text count)) memory = let no : false ≡ true = memory in cc
memory_four (Image (image.NoSource attempts)) memory = let no : false ≡ true = memory in cc
memory_four (Image (image.TlsRequired host)) memory = let no : false ≡ true = memory in cc
memory_four (Image (image.Garbled status first)) memory = let no : false ≡ true = memory in cc
memory_four (Image (image.BadAnswer step first)) memory = let no : false ≡ true = memory in cc
memory_four (Image (image.LookasideRefused number status)) memory = let no : false ≡ true = memory in cc
memory_four (Image (image.Encoded step)) memory = let no : false ≡ true = memory in cc
memory_four (Image (image.TooManyRedirects step)) memory = let no : false ≡ true = memory in cc
memory_four (Image (image.Helper count)) memory = let no : false ≡ true = memory in cc
memory_four (Words p k) memory = let no : false ≡ true = memory in cc
memory_four (Reference t f) memory = let no : false ≡ true = memory in cc
memory_four (SamePlace p) memory = let no : false ≡ true = memory in cc
memory_four (NotBuilt p) memory = let no : false ≡ true = memory in cc
memory_four (PolicyMissing p) memory = let no : false ≡ true = memory in cc
memory_four (PolicyInvalid p k m) memory = let no : false ≡ true = memory in cc
memory_four PolicyTooLarge memory = let no : false ≡ true = memory in cc
memory_four (ConfMissing p) memory = let no : false ≡ true = memory in cc
memory_four (ConfInvalid p f) memory = let no : false ≡ true = memory in cc
memory_four ConfTooLarge memory = let no : false ≡ true = memory in cc
memory_four (Output n) memory = let no : false ≡ true = memory in cc

status_four : (answer : Result Done CommandRefusal) → wants is_memory answer ≡ true → status_of answer ≡ 4
status_four (Ok done) memory = let no : false ≡ true = memory in cc
status_four (Err e) memory = memory_four e memory

-- an end of the steps, or want of memory
end_comes : (words : List (List ℕ)) (home cwd : List ℕ) (before after : CommandTold) (answer w : Result Done CommandRefusal) → Ends command_course (ending words home cwd) before after answer → (ending words home cwd before after answer → Comes is_memory answer w) → Comes is_memory answer w
unfolding Ends command_course
end_comes words home cwd before after (Ok done) w end f = f end.ends
end_comes words home cwd before after (Err e) w end f = by (is_memory e) refl end.ends
  where
    by : (m : Bool) → is_memory e ≡ m → EndsBy {A = Done} m command_course e (ending words home cwd) before after → Comes is_memory (Err e) w
    by true is shown = inl is
    by false is one = f one

-- a copy of a folder reads no configuration
unread_copy : (words : List (List ℕ)) (cwd : List ℕ) (task : CopyTask) (folder : List ℕ) → task_of words cwd ≡ Ok (Copy task) → task.plan.source ≡ Dir folder → task.conf ≡ conf_of.Unread
unread_copy words cwd task folder named from = let asks = asks_copy words cwd task named in asks.conf ∙ ap (conf_choice_of cwd asks.common) from

-- nor is a folder a short name
whole_copy : (words : List (List ℕ)) (cwd : List ℕ) (task : CopyTask) (folder : List ℕ) → task_of words cwd ≡ Ok (Copy task) → task.plan.source ≡ Dir folder → task.plan.short ≡ None
whole_copy words cwd task folder named from =
    let asks = asks_copy words cwd task named in
    asks.short ∙ ap (λ p. short_for asks.short_names p asks.source) from ∙ by asks.short_names asks.source
  where
    by : (b : Bool) (text : List ℕ) → short_for b (Dir folder) text ≡ None
    by true text = refl
    by false text = refl

pub ends_by_tree : (words : List (List ℕ)) (home cwd : List ℕ) (task : CopyTask) (folder target : List ℕ) (tree : Tree) → EndsByTree words home cwd task folder target tree
ends_by_tree words home cwd task folder target tree taken before after err_before err_after code copy judges calm end =
    by (end_comes words home cwd before after end.answer (answer_in tree home cwd task folder taken) end.is.ends
    (λ one. ending_comes tree home cwd task folder target copy.apart copy.from (whole_copy words cwd task folder copy.named copy.from) copy.alone copy.to (unread_copy words cwd task folder copy.named copy.from) taken judges words copy.named before after end.answer one (record { first = copy.first; same = copy.same }) calm))
  where
    by : Comes is_memory end.answer (answer_in tree home cwd task folder taken) → (code ≡ 4) ⊎ (end.answer ≡ answer_in tree home cwd task folder taken)
    by (inl memory) = inl (end.status ∙ status_four end.answer memory)
    by (inr is) = inr is

-- ---- a good copy

good_answer : (home cwd : List ℕ) (task : CopyTask) (folder target : List ℕ) (tree : Tree) → (good : IsGood home cwd task folder target tree) → answer_in tree home cwd task folder (Ok tt) ≡ Ok (copy_done task.quiet (copied_in good.submitted))
unfolding answer_in copy_in placed_in
good_answer home cwd task folder target tree good =
    ap (λ u. and_then u (λ policy. and_then (or_image (and_then (admitted_in tree folder policy) (λ s. and_then (first_fault tree folder (blobs s.image)) (λ _. Ok (copied_in s))))) (λ copied. Ok (copy_done task.quiet copied)))) good.counts
    ∙ ap (λ u. and_then (or_image (and_then u (λ (s : Submission). and_then (first_fault tree folder (blobs s.image)) (λ _. Ok (copied_in s))))) (λ copied. Ok (copy_done task.quiet copied))) good.admitted
    ∙ ap (λ u. and_then (or_image (and_then u (λ _. Ok (copied_in good.submitted)))) (λ copied. Ok (copy_done task.quiet copied))) good.whole

pub good_ends : (words : List (List ℕ)) (home cwd : List ℕ) (task : CopyTask) (folder target : List ℕ) (tree : Tree) → GoodEnds words home cwd task folder target tree
good_ends words home cwd task folder target tree before after err_before err_after code copy good calm end =
    by (ends_by_tree words home cwd task folder target tree (Ok tt) before after err_before err_after code copy good.may calm end)
  where
    by : (code ≡ 4) ⊎ (end.answer ≡ answer_in tree home cwd task folder (Ok tt)) → (code ≡ 4) ⊎ (code ≡ 0)
    by (inl four) = inl four
    by (inr is) = inr (end.status ∙ ap status_of (is ∙ good_answer home cwd task folder target tree good))
