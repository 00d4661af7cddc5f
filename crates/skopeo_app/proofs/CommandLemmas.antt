-- From what the words ask for to the end of the command.
use Rattle.std.proofs.Common.{◌≡◌, ◌⊎◌, ℕ, List, Bool, true, false, Some, Result, Ok, Err, IfOk, IfErr, inl, inr, refl, sym, subst, ◌∙◌}
use Rattle.skopeo_outside.specs.LaneTold.{LaneTold}
use Rattle.skopeo_outside.specs.Seen.{Seen, KeepsFrom}
use Rattle.skopeo_outside.specs.Steps.{Ends, Says, SaysBy}
use Rattle.skopeo_outside.proofs.StepLemmas.{given_goes, given_stops}
use Rattle.skopeo_outside.proofs.PlaceLemmas.{keeps_same}
use Rattle.skopeo_outside.specs.Helper.{Runs}
use Rattle.transports.specs.declared.refusal.Refusal.TheVariants as image
use Rattle.transports.specs.Writes.{IsWrite}
use Rattle.transports.proofs.SameLemmas.{none_same}
use Rattle.transports.proofs.WorkLemmas.{none_written}
use Rattle.copy_engine.proofs.SameLemmas.{gives_up_same, untouched_each}
use Rattle.skopeo_app.specs.declared.refusal.CommandRefusal.{CommandRefusal}
use Rattle.skopeo_app.specs.declared.refusal.CommandRefusal.TheVariants.{Words, Reference, SamePlace, NotBuilt, PolicyMissing, PolicyInvalid, PolicyTooLarge, ConfMissing, ConfInvalid, ConfTooLarge, Image, Output}
use Rattle.skopeo_app.specs.declared.run.Done.{Done}
use Rattle.skopeo_app.specs.declared.task.CopyTask.{CopyTask}
use Rattle.skopeo_app.specs.declared.task.Task.{Task}
use Rattle.skopeo_app.specs.declared.task.Task.TheVariants.{Page, Copy}
use Rattle.skopeo_app.specs.Sinks.{SinkTold}
use Rattle.skopeo_app.specs.Refusals.{is_memory, is_output, is_of_words}
use Rattle.skopeo_app.specs.Courses.{CommandTold, command_course}
use Rattle.skopeo_app.specs.Task.{task_of, lanes_of}
use Rattle.skopeo_app.specs.Asks.{AsksAt}
use Rattle.skopeo_app.specs.Headline.{Headline}
use Rattle.skopeo_app.specs.Ending.{page_done, task_end, ending}
use Rattle.skopeo_app.specs.Stops.{Leaves, StopsAt, StandsAt, CopyStops}
use Rattle.skopeo_app.specs.Answer.{IsOfWords, IsAnswer, CommandEnds}
use Rattle.skopeo_app.specs.Copies.{TaskHeadline, TaskLeaves, IsCopyAnswer}
use Rattle.skopeo_app.specs.Prints.{IsPageAnswer}
use Rattle.skopeo_app.specs.Runs.{IsRun, IsUntellable, Finishes}
use Rattle.skopeo_app.proofs.AskedLaw.{asks_copy}
use Rattle.skopeo_app.proofs.ImageLemmas.{none_asked}
use Rattle.skopeo_app.proofs.RunLemmas.{told, IsLate, output_late, not_ahead, prints_value, prints_refusal}

-- ---- the words

is_task : (words : List (List ℕ)) (cwd : List ℕ) (task : Task) → Says command_course (task_of words cwd) (Ok task) → task_of words cwd ≡ Ok task
unfolding Says
is_task words cwd task says = says

memory_words : (e : CommandRefusal) → is_memory e ≡ true → is_of_words e ≡ false
memory_words (Image e) memory = refl
memory_words (Words p k) memory = let no : false ≡ true = memory in cc
memory_words (Reference t f) memory = let no : false ≡ true = memory in cc
memory_words (SamePlace p) memory = let no : false ≡ true = memory in cc
memory_words (NotBuilt p) memory = let no : false ≡ true = memory in cc
memory_words (PolicyMissing p) memory = refl
memory_words (PolicyInvalid p k m) memory = refl
memory_words PolicyTooLarge memory = refl
memory_words (ConfMissing p) memory = refl
memory_words (ConfInvalid p f) memory = refl
memory_words ConfTooLarge memory = refl
memory_words (Output n) memory = refl

of_words_said : (words : List (List ℕ)) (cwd : List ℕ) (e : CommandRefusal) → Says {A = Task} command_course (task_of words cwd) (Err e) → is_of_words e ≡ true → task_of words cwd ≡ Err e
unfolding Says command_course
of_words_said words cwd e says of = by (is_memory e) refl says
  where
    by : (m : Bool) → is_memory e ≡ m → SaysBy m command_course (task_of words cwd) e → task_of words cwd ≡ Err e
    by true memory says = let no : false ≡ true = sym (memory_words e memory) ∙ of in cc
    by false memory says = says

-- ---- where nothing was touched

headline_same : (words : List (List ℕ)) (home cwd : List ℕ) (a : Seen) → Headline words home cwd a a
headline_same words home cwd a lane x y at bytes ex ey write = absurd (none_written x x at bytes (none_same x) (subst (λ v. IsWrite x v at bytes) (same y x (sym ey ∙ ex)) write))
  where
    same : (t u : LaneTold) → Some t ≡ Some u → t ≡ u
    same t u e = cc

stops_same : (w : Result Task CommandRefusal) (home cwd : List ℕ) (t : CommandTold) (e : CommandRefusal) → is_output e ≡ false → StopsAt w home cwd t t e
stops_same (Ok (Page text)) home cwd t e other = (refl, inl (record { same = refl; other = other }))
stops_same (Ok (Copy task)) home cwd t e other = inl (gives_up_same task.plan t.seen, record { same = refl; other = other })
stops_same (Err fault) home cwd t e other = (refl, record { same = refl; other = other })

asks_none : (w : Result Task CommandRefusal) (runs : Runs) → AsksAt w runs runs
asks_none (Ok (Page text)) runs = refl
asks_none (Ok (Copy task)) runs = none_asked task.plan runs runs refl
asks_none (Err fault) runs = refl

-- the words are refused
pub words_refused : (words : List (List ℕ)) (home cwd : List ℕ) (t : CommandTold) (e : CommandRefusal) → Says {A = Task} command_course (task_of words cwd) (Err e) → is_output e ≡ false → IsRun words home cwd t t (Err e)
unfolding ending
words_refused words home cwd t e says other = record {
  headline = headline_same words home cwd t.seen;
  leaves = inl (untouched_each t.seen.lanes);
  rest = keeps_same (lanes_of (task_of words cwd)) t.seen.lanes;
  asks = asks_none (task_of words cwd) t.seen.helper.runs;
  is = record {
    ends = given_stops command_course (task_of words cwd) (task_end home cwd) t e says;
    of_words = of_words_said words cwd e says;
    untouched = λ ahead. untouched_each t.seen.lanes;
    stops = stops_same (task_of words cwd) home cwd t e other;
    stands = tt;
  };
}

-- ---- a text that is printed

page_rests : (words : List (List ℕ)) (cwd text : List ℕ) (a : Seen) → task_of words cwd ≡ Ok (Page text) → KeepsFrom (lanes_of (task_of words cwd)) a.lanes a.lanes
page_rests words cwd text a is = keeps_same (lanes_of (task_of words cwd)) a.lanes

task_ends : (words : List (List ℕ)) (home cwd : List ℕ) (task : Task) (s t : CommandTold) (r : Result Done CommandRefusal) → Says command_course (task_of words cwd) (Ok task) → Ends command_course (task_end home cwd task) s t r → Ends command_course (ending words home cwd) s t r
unfolding ending
task_ends words home cwd task s t r says ends = given_goes command_course (task_of words cwd) (task_end home cwd) s t task r says ends

-- a text was asked for
pub page_told : (words : List (List ℕ)) (home cwd text : List ℕ) (a : Seen) (o p : SinkTold) (r : Result Done CommandRefusal) → Says command_course (task_of words cwd) (Ok (Page text)) → IsPageAnswer text o p r
    → IsRun words home cwd (told a o) (told a p) r
page_told words home cwd text a o p (Ok done) says page = subst (λ d. IsRun words home cwd (told a o) (told a p) (Ok d)) (sym page.is) (record {
  headline = headline_same words home cwd a;
  leaves = inl (untouched_each a.lanes);
  rest = keeps_same (lanes_of (task_of words cwd)) a.lanes;
  asks = asks_none (task_of words cwd) a.helper.runs;
  is = record {
    ends = task_ends words home cwd (Page text) (told a o) (told a p) (Ok (page_done text)) says (prints_value (page_done text) a o p (record { later = page.prints.later; printed = page.prints.printed; unprinted = tt; blamed = tt }));
    of_words = tt;
    untouched = tt;
    stops = tt;
    stands = subst (λ w. StandsAt w home cwd (told a o) (told a p) (page_done text)) (sym (is_task words cwd (Page text) says)) (record { is = refl; same = refl; printed = page.prints.printed });
  };
})
page_told words home cwd text a o p (Err e) says page = record {
  headline = headline_same words home cwd a;
  leaves = inl (untouched_each a.lanes);
  rest = keeps_same (lanes_of (task_of words cwd)) a.lanes;
  asks = asks_none (task_of words cwd) a.helper.runs;
  is = record {
    ends = task_ends words home cwd (Page text) (told a o) (told a p) (Err e) says (prints_refusal (page_done text) a o p e (record { later = page.prints.later; printed = tt; unprinted = page.prints.unprinted; blamed = page.prints.blamed }));
    of_words = λ of. (let no : false ≡ true = sym late.words ∙ of in cc);
    untouched = not_ahead e late;
    stops = subst (λ w. StopsAt w home cwd (told a o) (told a p) e) (sym (is_task words cwd (Page text) says)) (refl, inr page.prints.unprinted);
    stands = tt;
  };
}
  where
    late : IsLate e
    late = output_late e page.prints.unprinted.of_output

-- ---- a copy

headline_of : (words : List (List ℕ)) (home cwd : List ℕ) (task : CopyTask) (a b : Seen) → task_of words cwd ≡ Ok (Copy task) → TaskHeadline home cwd task a b → Headline words home cwd a b
headline_of words home cwd task a b is h lane x y at bytes ex ey write =
    let c = h lane x y at bytes ex ey write in
    record { task = task; rules = c.0; asked = record { asks = asks_copy words cwd task is; counts = c.1 }; copied = c.2 }

leaves_of : (words : List (List ℕ)) (home cwd : List ℕ) (task : CopyTask) (a b : Seen) → task_of words cwd ≡ Ok (Copy task) → TaskLeaves home cwd task a b → Leaves words home cwd a b
leaves_of words home cwd task a b is (inl same) = inl same
leaves_of words home cwd task a b is (inr touched) = inr (record { task = task; rules = touched.0; asked = record { asks = asks_copy words cwd task is; counts = touched.1 }; touched = touched.2 })

not_of_words : (words : List (List ℕ)) (cwd : List ℕ) (r : Result Done CommandRefusal) → IfErr r (λ e. is_of_words e ≡ false) → IsOfWords r words cwd
not_of_words words cwd (Ok done) other = tt
not_of_words words cwd (Err e) other = λ of. (let no : false ≡ true = sym other ∙ of in cc)

stops_of : (words : List (List ℕ)) (home cwd : List ℕ) (task : CopyTask) (s t : CommandTold) (r : Result Done CommandRefusal) → task_of words cwd ≡ Ok (Copy task) → IfErr r (CopyStops home cwd task s t) → IfErr r (StopsAt (task_of words cwd) home cwd s t)
stops_of words home cwd task s t (Ok done) is stops = tt
stops_of words home cwd task s t (Err e) is stops = subst (λ w. StopsAt w home cwd s t e) (sym is) stops

stands_of : (words : List (List ℕ)) (home cwd : List ℕ) (task : CopyTask) (s t : CommandTold) (r : Result Done CommandRefusal) → task_of words cwd ≡ Ok (Copy task) → IfOk r (StandsAt (Ok (Copy task)) home cwd s t)
    → IfOk r (StandsAt (task_of words cwd) home cwd s t)
stands_of words home cwd task s t (Ok done) is stands = subst (λ w. StandsAt w home cwd s t done) (sym is) stands
stands_of words home cwd task s t (Err e) is stands = tt

-- a copy was asked for
pub copy_told : (words : List (List ℕ)) (home cwd : List ℕ) (task : CopyTask) (s t : CommandTold) (r : Result Done CommandRefusal) → Says command_course (task_of words cwd) (Ok (Copy task)) → IsCopyAnswer home cwd task s t r → IsRun words home cwd s t r
copy_told words home cwd task s t r says copy =
    let is = is_task words cwd (Copy task) says in
    record {
      headline = headline_of words home cwd task s.seen t.seen is copy.run.headline;
      leaves = leaves_of words home cwd task s.seen t.seen is copy.run.leaves;
      rest = subst (λ w. KeepsFrom (lanes_of w) s.seen.lanes t.seen.lanes) (sym is) copy.run.rest;
      asks = subst (λ w. AsksAt w s.seen.helper.runs t.seen.helper.runs) (sym is) copy.run.asks;
      is = record {
        ends = task_ends words home cwd (Copy task) s t r says copy.ends;
        of_words = not_of_words words cwd r copy.other;
        untouched = copy.untouched;
        stops = stops_of words home cwd task s t r is copy.stops;
        stands = stands_of words home cwd task s t r is copy.stands;
      };
    }

-- ---- the end of the command

memory_stops : (w : Result Task CommandRefusal) (home cwd : List ℕ) (s t : CommandTold) (e : CommandRefusal) → StopsAt w home cwd s t e → StopsAt w home cwd s t (Image image.Memory)
memory_stops (Ok (Page text)) home cwd s t e (same, inl silent) = (same, inl (record { same = silent.same; other = refl }))
memory_stops (Ok (Page text)) home cwd s t e (same, inr unprinted) = (same, inr (record { of_output = tt; failed = unprinted.failed; part = unprinted.part }))
memory_stops (Ok (Copy task)) home cwd s t e (inl stops) = inl (stops.0, record { same = stops.1.same; other = refl })
memory_stops (Ok (Copy task)) home cwd s t e (inr u) = inr (record { copied = u.copied; delivered = u.delivered; unprinted = record { of_output = tt; failed = u.unprinted.failed; part = u.unprinted.part } })
memory_stops (Err fault) home cwd s t e stops = (stops.0, record { same = stops.1.same; other = refl })

memory_ends : (words : List (List ℕ)) (home cwd : List ℕ) (s t : CommandTold) (e : CommandRefusal) → Ends command_course (ending words home cwd) s t (Err e) → Ends command_course (ending words home cwd) s t (Err (Image image.Memory))
unfolding Ends command_course
memory_ends words home cwd s t e end = record { later = end.later; ends = tt }

-- want of memory may be the answer in place of any refusal
memory_answer : (words : List (List ℕ)) (home cwd : List ℕ) (s t : CommandTold) (e : CommandRefusal) → IsAnswer words home cwd s t (Err e) → IsAnswer words home cwd s t (Err (Image image.Memory))
memory_answer words home cwd s t e is = record {
  ends = memory_ends words home cwd s t e is.ends;
  of_words = λ of. (let no : false ≡ true = of in cc);
  untouched = λ ahead. (let no : false ≡ true = ahead in cc);
  stops = memory_stops (task_of words cwd) home cwd s t e is.stops;
  stands = tt;
}

-- the end was told
pub ends : (words : List (List ℕ)) (home cwd : List ℕ) (before after : CommandTold) (err_before err_after : SinkTold) (code : ℕ) (ended : Result Done CommandRefusal) → IsRun words home cwd before after ended
    → Finishes ended code err_before err_after → CommandEnds words home cwd before after err_before err_after code
ends words home cwd before after err_before err_after code ended run f = by f.same
  where
    untold : (ended : Result Done CommandRefusal) → IsAnswer words home cwd before after ended → IsUntellable ended f.answer → IsAnswer words home cwd before after f.answer
    untold (Ok done) so told = absurd told
    untold (Err e) so same = subst (IsAnswer words home cwd before after) (sym same) (memory_answer words home cwd before after e so)

    by : (f.answer ≡ ended) ⊎ IsUntellable ended f.answer → CommandEnds words home cwd before after err_before err_after code
    by (inl same) = record { answer = f.answer; is = subst (IsAnswer words home cwd before after) (sym same) run.is; status = f.status; told = f.line; later = f.later }
    by (inr want) = record { answer = f.answer; is = untold ended run.is want; status = f.status; told = f.line; later = f.later }
