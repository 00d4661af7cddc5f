-- The copy that words ask for: the reading and the relation agree.
use Rattle.std.proofs.Common.{◌≡◌, ◌≢◌, ◌&&◌, ◌↔◌, List, ℕ, Bool, true, false, if◌then◌else◌, Option, Result, Ok, Err, refl, sym, ap, subst, ◌∙◌}
use Rattle.std.specs.Prelude.{⊤}
use Rattle.std.specs.Str.{bytes_eq}
use Rattle.std.proofs.lemmas.Slice.Eq.{bytes_eq-Decides}
use Rattle.image_ref.specs.Place.{PlaceOf}
use Rattle.image_ref.specs.PlaceReading.{place_of}
use Rattle.image_ref.specs.Reading.{reading_of}
use Rattle.image_ref.specs.declared.fault.PlaceFault.{PlaceFault}
use Rattle.image_ref.specs.declared.fault.RefFault.{RefFault}
use Rattle.image_ref.specs.declared.place.Place.{Place}
use Rattle.image_ref.specs.declared.place.Place.TheVariants.{Docker, Dir, Oci}
use Rattle.image_ref.specs.Reference.{Reference}
use Rattle.image_ref.proofs.PlaceLaw.{place_to, place_from}
use Rattle.skopeo_words.specs.Help.{page_of, version_line}
use Rattle.skopeo_words.specs.Reading.{command_of}
use Rattle.skopeo_words.specs.declared.command.Command.{Command}
use Rattle.skopeo_words.specs.declared.command.Command.TheVariants as command
use Rattle.skopeo_words.specs.declared.command.Common.{Common}
use Rattle.skopeo_words.specs.declared.command.Passing.{Passing}
use Rattle.skopeo_words.specs.declared.command.SyncEnd.{SyncEnd}
use Rattle.skopeo_words.specs.declared.command.SyncEnd.TheVariants as sync_end
use Rattle.skopeo_words.specs.declared.fault.WordsFault.{WordsFault}
use Rattle.skopeo_words.specs.declared.fault.WordsFault.TheVariants as words_fault
use Rattle.skopeo_words.proofs.CommandLaw.{commands, copy_of as copied_words, of_copy as words_copied}
use Rattle.transports.specs.declared.plan.CopyPlan.{CopyPlan}
use Rattle.transports.specs.declared.refusal.Refusal.TheVariants as image
use Rattle.transports.specs.Places.{IsBetweenPlaces}
use Rattle.skopeo_app.specs.declared.refusal.CommandRefusal.{CommandRefusal}
use Rattle.skopeo_app.specs.declared.refusal.CommandRefusal.TheVariants.{Words, Reference as OfReference, SamePlace, NotBuilt, Image}
use Rattle.skopeo_app.specs.declared.refusal.Unbuilt.TheVariants as unbuilt
use Rattle.skopeo_app.specs.declared.task.CopyTask.{CopyTask}
use Rattle.skopeo_app.specs.declared.task.Task.{Task}
use Rattle.skopeo_app.specs.declared.task.Task.TheVariants.{Page, Copy}
use Rattle.skopeo_app.specs.Plan.{◌>>=◌, is_folder, folder_in, or_reference, place_at, are_same, apart, lanes_for, short_for, verifier_for, plan_between, plan_of}
use Rattle.skopeo_app.specs.Task.{asks_more, are_built, built, choice_of, conf_choice_of, copy_of, unbuilt_at, after_name, unbuilt_sync, task_in, by_words, task_of}
use Rattle.skopeo_app.specs.Asked.{AsksCopy}
use Rattle.skopeo_app.proofs.TaskLemmas.{sound}

-- ---- from the reading

refuted : {A : Type 0} (r : CommandRefusal) (x : A) → ◌≡◌ {A = Result A CommandRefusal} (Err r) (Ok x) → ⊥
refuted r x e = cc e

-- a value behind two steps comes of a value of the first
bound : {A B : Type 0} (w : Result A CommandRefusal) (f : A → Result B CommandRefusal) (y : B) → (w >>= f) ≡ Ok y → (x : A) × (w ≡ Ok x) × (f x ≡ Ok y)
bound (Ok x) f y e = (x, refl, e)
bound (Err r) f y e = absurd (refuted r y e)

place_read : (cwd text : List ℕ) (p : Place) → place_at cwd text ≡ Ok p → PlaceOf cwd text p
unfolding place_at
place_read cwd text p e = by (place_of cwd text) refl e
  where
    by : (r : Result Place PlaceFault) → place_of cwd text ≡ r → or_reference text r ≡ Ok p → PlaceOf cwd text p
    by (Ok q) is same = place_to cwd text p (is ∙ ap Ok (let x : q ≡ p = cc same in x))
    by (Err f) is same = absurd (refuted (OfReference text f) p same)

apart_read : (plan p : CopyPlan) → apart plan ≡ Ok p → (are_same plan ≡ false) × (plan ≡ p)
apart_read plan p e = by (are_same plan) refl e
  where
    by : (b : Bool) → are_same plan ≡ b → (if b then Err (SamePlace (folder_in plan.source)) else Ok plan) ≡ Ok p → (are_same plan ≡ false) × (plan ≡ p)
    by true is same = absurd (refuted (SamePlace (folder_in plan.source)) p same)
    by false is same = (is, let x : plan ≡ p = cc same in x)

built_read : (common : Common) (passing : Passing) (plan : CopyPlan) (done : ⊤) → built common passing plan ≡ Ok done → (asks_more common passing ≡ false) × (are_built plan ≡ true)
built_read common passing plan done e = by (asks_more common passing) (are_built plan) refl refl e
  where
    by : (m b : Bool) → asks_more common passing ≡ m → are_built plan ≡ b → (if m then Err (NotBuilt unbuilt.Option) else if b then Ok tt else Err (NotBuilt unbuilt.Place)) ≡ Ok done
        → (asks_more common passing ≡ false) × (are_built plan ≡ true)
    by true b more is same = absurd (refuted (NotBuilt unbuilt.Option) done same)
    by false true more is same = (more, is)
    by false false more is same = absurd (refuted (NotBuilt unbuilt.Place) done same)

copy_read : (words : List (List ℕ)) (cwd : List ℕ) (common : Common) (passing : Passing) (quiet short_names : Bool) (source dest : List ℕ) (task : CopyTask)
    → command_of words ≡ Ok (command.Copy common passing quiet short_names source dest) → copy_of cwd common passing quiet short_names source dest ≡ Ok (Copy task) → AsksCopy words cwd task
unfolding copy_of plan_of
copy_read words cwd common passing quiet short_names source dest task is e =
    let done : CopyPlan → Result Task CommandRefusal = λ plan. Ok (Copy (record { policy = choice_of cwd common; conf = conf_choice_of cwd common plan.source; quiet = quiet; plan = plan })) in
    let planned = bound (plan_of cwd (lanes_for common) passing short_names source dest) (λ plan. built common passing plan >>= (λ _. done plan)) (Copy task) e in
    let p = planned.0 in
    let passed = bound (built common passing p) (λ _. done p) (Copy task) planned.2 in
    let whole = built_read common passing p passed.0 passed.1 in
    let placed : Place → Place → CopyPlan = λ from to. plan_between cwd (lanes_for common) passing (short_for short_names from source) from to in
    let begun = bound (place_at cwd source) (λ from. place_at cwd dest >>= (λ to. apart (placed from to))) p planned.1 in
    let ended = bound (place_at cwd dest) (λ to. apart (placed begun.0 to)) p begun.2 in
    let two = apart_read (placed begun.0 ended.0) p ended.2 in
    let plan = placed begun.0 ended.0 in
    let same : record { policy = choice_of cwd common; conf = conf_choice_of cwd common p.source; quiet = quiet; plan = p } ≡ task
    = (let x : Ok (Copy (record { policy = choice_of cwd common; conf = conf_choice_of cwd common p.source; quiet = quiet; plan = p })) ≡ Ok (Copy task) = passed.2 in cc x) in
    subst (AsksCopy words cwd) same (subst (λ q. AsksCopy words cwd (record { policy = choice_of cwd common; conf = conf_choice_of cwd common q.source; quiet = quiet; plan = q })) two.1 (record {
      common = common;
      passing = passing;
      short_names = short_names;
      source = source;
      dest = dest;
      asked = copied_words words common passing quiet short_names source dest ((commands words (command.Copy common passing quiet short_names source dest)).0 is);
      from = place_read cwd source begun.0 begun.1;
      short = refl;
      to = place_read cwd dest ended.0 ended.1;
      apart = (sound plan common.lanes two.0 refl).places;
      built = subst (λ q. are_built q ≡ true) (sym two.1) whole.1;
      plain = whole.0;
      lanes = refl;
      tls = refl;
      lookaside = refl;
      verifier = refl;
      folder = refl;
      policy = refl;
      conf = refl;
    }))

place_none : (cwd text : List ℕ) (task : CopyTask) → unbuilt_at cwd text ≡ Ok (Copy task) → ⊥
unfolding unbuilt_at
place_none cwd text task e = by (place_at cwd text) e
  where
    by : (r : Result Place CommandRefusal) → (r >>= (λ _. Err (NotBuilt unbuilt.Command))) ≡ Ok (Copy task) → ⊥
    by (Ok p) same = cc same
    by (Err r) same = cc same

sync_none : (from : SyncEnd) (text : List ℕ) (task : CopyTask) → unbuilt_sync from text ≡ Ok (Copy task) → ⊥
unfolding unbuilt_sync
sync_none sync_end.Docker text task e = by (reading_of text) e
  where
    by : (r : Result Reference RefFault) → after_name text r ≡ Ok (Copy task) → ⊥
    by (Ok r) same = cc same
    by (Err f) same = cc same
sync_none sync_end.Dir text task e = cc e

no_page : (text : List ℕ) (task : CopyTask) → ◌≡◌ {A = Result Task CommandRefusal} (Ok (Page text)) (Ok (Copy task)) → ⊥
no_page text task e = cc e

command_asks : (words : List (List ℕ)) (cwd : List ℕ) (c : Command) (task : CopyTask) → command_of words ≡ Ok c → task_in cwd c ≡ Ok (Copy task) → AsksCopy words cwd task
unfolding task_in
command_asks words cwd (command.Copy common passing quiet short_names source dest) task is e = copy_read words cwd common passing quiet short_names source dest task is e
command_asks words cwd (command.Sync common passing scoped from to source base) task is e = absurd (sync_none from source task e)
command_asks words cwd (command.Inspect common short_names raw config no_tags tls image) task is e = absurd (place_none cwd image task e)
command_asks words cwd (command.ListTags common tls repository) task is e = absurd (place_none cwd repository task e)
command_asks words cwd (command.Delete common tls image) task is e = absurd (place_none cwd image task e)
command_asks words cwd (command.MakeImages common verifier count base) task is e = absurd (refuted (NotBuilt unbuilt.Command) (Copy task) e)
command_asks words cwd (command.Help topic) task is e = absurd (no_page (page_of topic) task e)
command_asks words cwd command.Version task is e = absurd (no_page version_line task e)

pub asks_copy : (words : List (List ℕ)) (cwd : List ℕ) (task : CopyTask) → task_of words cwd ≡ Ok (Copy task) → AsksCopy words cwd task
unfolding task_of
asks_copy words cwd task e = by (command_of words) refl e
  where
    by : (r : Result Command WordsFault) → command_of words ≡ r → by_words cwd r ≡ Ok (Copy task) → AsksCopy words cwd task
    by (Ok c) is same = command_asks words cwd c task is same
    by (Err (words_fault.At place kind)) is same = absurd (refuted (Words place kind) (Copy task) same)
    by (Err words_fault.Memory) is same = absurd (refuted (Image image.Memory) (Copy task) same)

-- ---- to the reading

bind : {A B : Type 0} (w : Result A CommandRefusal) (f : A → Result B CommandRefusal) (x : A) (r : Result B CommandRefusal) → w ≡ Ok x → f x ≡ r → (w >>= f) ≡ r
bind w f x r is next = ap (λ v. v >>= f) is ∙ next

place_is : (cwd text : List ℕ) (p : Place) → PlaceOf cwd text p → place_at cwd text ≡ Ok p
unfolding place_at
place_is cwd text p of = ap (or_reference text) (place_from cwd text p of)

not_same : (source dest : Place) → ((path : List ℕ) → source ≡ Dir path → dest ≢ Dir path) → ((is_folder source && is_folder dest) && bytes_eq (folder_in source) (folder_in dest)) ≡ false
not_same (Docker r) dest between = refl
not_same (Oci path name) dest between = refl
not_same (Dir a) (Docker r) between = refl
not_same (Dir a) (Oci path name) between = refl
not_same (Dir a) (Dir b) between = by (bytes_eq a b) refl
  where
    by : (x : Bool) → bytes_eq a b ≡ x → bytes_eq a b ≡ false
    by true is = absurd (between a refl (ap Dir (sym ((bytes_eq-Decides a b).0 is))))
    by false is = is

apart_is : (plan : CopyPlan) → are_same plan ≡ false → apart plan ≡ Ok plan
apart_is plan is = ap (λ b. if b then Err (SamePlace (folder_in plan.source)) else Ok plan) is

built_is : (common : Common) (passing : Passing) (plan : CopyPlan) → asks_more common passing ≡ false → are_built plan ≡ true → built common passing plan ≡ Ok tt
built_is common passing plan more is = rw (more, is) refl

copy_is : (cwd : List ℕ) (common : Common) (passing : Passing) (short_names : Bool) (source dest : List ℕ) (task : CopyTask) → PlaceOf cwd source task.plan.source → PlaceOf cwd dest task.plan.dest → IsBetweenPlaces task.plan → are_built task.plan ≡ true
    → task.plan.short ≡ short_for short_names task.plan.source source → asks_more common passing ≡ false → task.plan.lanes ≡ lanes_for common → task.plan.src_tls ≡ passing.src_tls → task.plan.lookaside ≡ passing.lookaside → task.plan.verifier ≡ verifier_for cwd passing → task.plan.cwd ≡ cwd → task.policy ≡ choice_of cwd common → task.conf ≡ conf_choice_of cwd common task.plan.source
    → copy_of cwd common passing task.quiet short_names source dest ≡ Ok (Copy task)
unfolding copy_of plan_of
copy_is cwd common passing short_names source dest task from to between are short plain lanes tls lookaside verifier folder policy conf =
    let placed : Place → Place → CopyPlan = λ a b. plan_between cwd (lanes_for common) passing (short_for short_names a source) a b in
    let with : Option (List ℕ) → ℕ → Option Bool → Option (List ℕ) → Option (List ℕ) → List ℕ → CopyPlan
    = λ s n t l v w. record { source = task.plan.source; short = s; dest = task.plan.dest; lanes = n; src_tls = t; lookaside = l; verifier = v; cwd = w } in
    let plan_is : placed task.plan.source task.plan.dest ≡ task.plan
    = ap (λ s. with s (lanes_for common) passing.src_tls passing.lookaside (verifier_for cwd passing) cwd) (sym short)
    ∙ ap (λ n. with task.plan.short n passing.src_tls passing.lookaside (verifier_for cwd passing) cwd) (sym lanes)
    ∙ ap (λ t. with task.plan.short task.plan.lanes t passing.lookaside (verifier_for cwd passing) cwd) (sym tls)
    ∙ ap (λ l. with task.plan.short task.plan.lanes task.plan.src_tls l (verifier_for cwd passing) cwd) (sym lookaside)
    ∙ ap (λ v. with task.plan.short task.plan.lanes task.plan.src_tls task.plan.lookaside v cwd) (sym verifier)
    ∙ ap (λ w. with task.plan.short task.plan.lanes task.plan.src_tls task.plan.lookaside task.plan.verifier w) (sym folder) in
    let done : CopyPlan → Result Task CommandRefusal = λ plan. Ok (Copy (record { policy = choice_of cwd common; conf = conf_choice_of cwd common plan.source; quiet = task.quiet; plan = plan })) in
    let task_is : record { policy = choice_of cwd common; conf = conf_choice_of cwd common task.plan.source; quiet = task.quiet; plan = task.plan } ≡ task
    = ap (λ c. record { policy = c; conf = conf_choice_of cwd common task.plan.source; quiet = task.quiet; plan = task.plan }) (sym policy) ∙ ap (λ c. record { policy = task.policy; conf = c; quiet = task.quiet; plan = task.plan }) (sym conf) in
    let end : apart (placed task.plan.source task.plan.dest) ≡ Ok task.plan = apart_is (placed task.plan.source task.plan.dest) (not_same task.plan.source task.plan.dest between) ∙ ap Ok plan_is in
    let planned : plan_of cwd (lanes_for common) passing short_names source dest ≡ Ok task.plan =
    bind (place_at cwd source) (λ a. place_at cwd dest >>= (λ b. apart (placed a b))) task.plan.source (Ok task.plan) (place_is cwd source task.plan.source from)
    (bind (place_at cwd dest) (λ b. apart (placed task.plan.source b)) task.plan.dest (Ok task.plan) (place_is cwd dest task.plan.dest to) end) in
    bind (plan_of cwd (lanes_for common) passing short_names source dest) (λ plan. built common passing plan >>= (λ _. done plan)) task.plan (Ok (Copy task)) planned
    (bind (built common passing task.plan) (λ _. done task.plan) tt (Ok (Copy task)) (built_is common passing task.plan plain are) (ap (λ t. Ok (Copy t)) task_is))

pub copy_asked : (words : List (List ℕ)) (cwd : List ℕ) (task : CopyTask) → AsksCopy words cwd task → task_of words cwd ≡ Ok (Copy task)
unfolding task_of task_in
copy_asked words cwd task a =
    ap (by_words cwd) ((commands words (command.Copy a.common a.passing task.quiet a.short_names a.source a.dest)).1 (words_copied words a.common a.passing task.quiet a.short_names a.source a.dest a.asked))
    ∙ copy_is cwd a.common a.passing a.short_names a.source a.dest task a.from a.to a.apart a.built a.short a.plain a.lanes a.tls a.lookaside a.verifier a.folder a.policy a.conf

-- ---- both ways

pub asked : (words : List (List ℕ)) (cwd : List ℕ) (task : CopyTask) → (task_of words cwd ≡ Ok (Copy task)) ↔ AsksCopy words cwd task
asked words cwd task = (asks_copy words cwd task, copy_asked words cwd task)
