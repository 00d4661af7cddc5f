-- From the copy of a task to the answer of the command.
use Rattle.std.proofs.Common.{◌≡◌, ℕ, List, Bool, true, false, Result, Ok, Err, inl, inr, refl, sym, subst, ◌∙◌}
use Rattle.skopeo_outside.specs.Seen.{Seen}
use Rattle.skopeo_outside.specs.Steps.{Ends, EndsBy, EndsOf}
use Rattle.skopeo_outside.specs.OnLanes.{SeenStep}
use Rattle.skopeo_outside.proofs.StepLemmas.{then_ends, then_stops}
use Rattle.transports.specs.declared.report.Copied.{Copied}
use Rattle.transports.specs.declared.refusal.Refusal.TheVariants as image
use Rattle.skopeo_app.specs.declared.refusal.CommandRefusal.{CommandRefusal}
use Rattle.skopeo_app.specs.declared.refusal.CommandRefusal.TheVariants.{Words, Reference, SamePlace, NotBuilt, PolicyMissing, PolicyInvalid, PolicyTooLarge, ConfMissing, ConfInvalid, ConfTooLarge, Image, Output}
use Rattle.skopeo_app.specs.declared.run.Done.{Done}
use Rattle.skopeo_app.specs.declared.task.CopyTask.{CopyTask}
use Rattle.skopeo_app.specs.Sinks.{SinkTold}
use Rattle.skopeo_app.specs.Refusals.{IsOfOutput, is_memory, is_output, is_of_words, is_of_copy, is_ahead}
use Rattle.skopeo_app.specs.Courses.{seen_course, CommandTold, command_course, told_same}
use Rattle.skopeo_app.specs.Ending.{copy_done, image_of_task, on_lanes, printing, copy_end}
use Rattle.skopeo_app.specs.Copies.{CopiesTask, IsCopyAnswer}
use Rattle.skopeo_app.specs.Prints.{Prints}

abbrev pub told : Seen → SinkTold → CommandTold
told seen out = record { seen = seen; out = out }

-- ---- sorts of refusals

of_copy_words : (e : CommandRefusal) → is_of_copy e ≡ true → is_of_words e ≡ false
of_copy_words (Image e) of = refl
of_copy_words (PolicyMissing path) of = refl
of_copy_words (PolicyInvalid path kind member) of = refl
of_copy_words PolicyTooLarge of = refl
of_copy_words (ConfMissing path) of = refl
of_copy_words (ConfInvalid path fault) of = refl
of_copy_words ConfTooLarge of = refl
of_copy_words (Words place kind) of = let no : false ≡ true = of in cc
of_copy_words (Reference text fault) of = let no : false ≡ true = of in cc
of_copy_words (SamePlace path) of = let no : false ≡ true = of in cc
of_copy_words (NotBuilt what) of = let no : false ≡ true = of in cc
of_copy_words (Output count) of = let no : false ≡ true = of in cc

of_copy_output : (e : CommandRefusal) → is_of_copy e ≡ true → is_output e ≡ false
of_copy_output (Image e) of = refl
of_copy_output (PolicyMissing path) of = refl
of_copy_output (PolicyInvalid path kind member) of = refl
of_copy_output PolicyTooLarge of = refl
of_copy_output (ConfMissing path) of = refl
of_copy_output (ConfInvalid path fault) of = refl
of_copy_output ConfTooLarge of = refl
of_copy_output (Words place kind) of = refl
of_copy_output (Reference text fault) of = refl
of_copy_output (SamePlace path) of = refl
of_copy_output (NotBuilt what) of = refl
of_copy_output (Output count) of = let no : false ≡ true = of in cc

-- a refusal of the output is no refusal of the words, and none that comes ahead
pub record IsLate (e : CommandRefusal) : Type 0 where
  pub words : is_of_words e ≡ false
  pub ahead : is_ahead e ≡ false

pub output_late : (e : CommandRefusal) → IsOfOutput e → IsLate e
output_late (Image image.Memory) of = record { words = refl; ahead = refl }
output_late (Output count) of = record { words = refl; ahead = refl }
output_late (Image (image.Files n)) of = absurd of
output_late (Image (image.Wire n)) of = absurd of
output_late (Image (image.Job k c)) of = absurd of
output_late (Image (image.NotBuilt p)) of = absurd of
output_late (Image (image.NotAnImageDir p)) of = absurd of
output_late (Image (image.TooLarge q n)) of = absurd of
output_late (Image (image.ManifestInvalid m)) of = absurd of
output_late (Image (image.Rejected s n y)) of = absurd of
output_late (Image (image.Blocked n)) of = absurd of
output_late (Image (image.BadReference text fault)) of = absurd of
output_late (Image (image.ShortName text count)) of = absurd of
output_late (Image (image.NoSource attempts)) of = absurd of
output_late (Image (image.TlsRequired host)) of = absurd of
output_late (Image (image.Garbled status first)) of = absurd of
output_late (Image (image.BadAnswer step first)) of = absurd of
output_late (Image (image.LookasideRefused number status)) of = absurd of
output_late (Image (image.Encoded step)) of = absurd of
output_late (Image (image.TooManyRedirects step)) of = absurd of
output_late (Image (image.Helper count)) of = absurd of
output_late (Words p k) of = absurd of
output_late (Reference t f) of = absurd of
output_late (SamePlace p) of = absurd of
output_late (NotBuilt p) of = absurd of
output_late (PolicyMissing p) of = absurd of
output_late (PolicyInvalid p k m) of = absurd of
output_late PolicyTooLarge of = absurd of
output_late (ConfMissing p) of = absurd of
output_late (ConfInvalid p f) of = absurd of
output_late ConfTooLarge of = absurd of

pub not_ahead : {A : Type 0} (e : CommandRefusal) → IsLate e → is_ahead e ≡ true → A
not_ahead e late ahead = let no : false ≡ true = sym late.ahead ∙ ahead in absurd (let x : ⊥ = cc in x)

-- ---- ends of the command's steps

lanes_ends : {A : Type 0} (step : SeenStep CommandRefusal A) (a b : Seen) (o : SinkTold) (r : Result A CommandRefusal) → Ends seen_course step a b r → Ends command_course (on_lanes step) (told a o) (told b o) r
unfolding Ends on_lanes command_course
lanes_ends {A} step a b o r end = record { later = record { seen = end.later; out = (told_same (told a o)).out }; ends = by r end }
  where
    by : (r : Result A CommandRefusal) → Ends seen_course step a b r → EndsOf command_course (on_lanes step) (told a o) (told b o) r
    by (Ok x) end = (end, refl)
    by (Err e) end = at (is_memory e)
      where
        at : (m : Bool) → EndsBy {A = A} m command_course e (on_lanes step) (told a o) (told b o)
        at true = tt
        at false = (end, refl)

pub prints_value : (done : Done) (a : Seen) (o p : SinkTold) → Prints {A = Unit {0}} done.lines o p (Ok tt) → Ends command_course (printing done) (told a o) (told a p) (Ok done)
unfolding Ends printing command_course
prints_value done a o p prints = record { later = record { seen = (told_same (told a o)).seen; out = prints.later }; ends = (refl, refl, prints.printed) }

pub prints_refusal : (done : Done) (a : Seen) (o p : SinkTold) (e : CommandRefusal) → Prints {A = Unit {0}} done.lines o p (Err e) → Ends command_course (printing done) (told a o) (told a p) (Err e)
unfolding Ends printing command_course
prints_refusal done a o p e prints = record { later = record { seen = (told_same (told a o)).seen; out = prints.later }; ends = at (is_memory e) }
  where
    at : (m : Bool) → EndsBy {A = Done} m command_course e (printing done) (told a o) (told a p)
    at true = tt
    at false = (refl, prints.unprinted, prints.blamed)

-- ---- one copy

-- the copy was refused
pub copy_refused : (home cwd : List ℕ) (task : CopyTask) (a b : Seen) (o : SinkTold) (e : CommandRefusal) → CopiesTask home cwd task a b (Err e) → IsCopyAnswer home cwd task (told a o) (told b o) (Err e)
unfolding copy_end
copy_refused home cwd task a b o e copies = record {
  run = copies.run;
  ends = then_stops command_course (on_lanes (image_of_task home cwd task)) (λ copied. printing (copy_done task.quiet copied)) (told a o) (told b o) e (lanes_ends (image_of_task home cwd task) a b o (Err e) copies.ends);
  stops = inl (copies.gives_up, record { same = refl; other = of_copy_output e copies.other });
  stands = tt;
  untouched = copies.untouched;
  other = of_copy_words e copies.other;
}

-- the lines could not be printed
pub copy_unprinted : (home cwd : List ℕ) (task : CopyTask) (copied : Copied) (done : Done) (a b : Seen) (o p : SinkTold) (e : CommandRefusal) → done ≡ copy_done task.quiet copied → CopiesTask home cwd task a b (Ok copied)
    → Prints {A = Unit {0}} done.lines o p (Err e) → IsCopyAnswer home cwd task (told a o) (told b p) (Err e)
unfolding copy_end
copy_unprinted home cwd task copied done a b o p e is copies prints = record {
  run = copies.run;
  ends = then_ends command_course (on_lanes (image_of_task home cwd task)) (λ copied. printing (copy_done task.quiet copied)) (told a o) (told b o) (told b p) copied (Err e)
      (lanes_ends (image_of_task home cwd task) a b o (Ok copied) copies.ends) (prints_refusal (copy_done task.quiet copied) b o p e at);
  stops = inr (record { copied = copied; delivered = copies.delivered; unprinted = at.unprinted });
  stands = tt;
  untouched = not_ahead e late;
  other = late.words;
}
  where
    at : Prints {A = Unit {0}} (copy_done task.quiet copied).lines o p (Err e)
    at = subst (λ d. Prints {A = Unit {0}} d.lines o p (Err e)) is prints

    late : IsLate e
    late = output_late e prints.unprinted.of_output

-- the image was copied and its lines were printed
pub copy_printed : (home cwd : List ℕ) (task : CopyTask) (copied : Copied) (done : Done) (a b : Seen) (o p : SinkTold) → done ≡ copy_done task.quiet copied → CopiesTask home cwd task a b (Ok copied)
    → Prints {A = Unit {0}} done.lines o p (Ok tt) → IsCopyAnswer home cwd task (told a o) (told b p) (Ok done)
unfolding copy_end
copy_printed home cwd task copied done a b o p is copies prints = subst (λ d. IsCopyAnswer home cwd task (told a o) (told b p) (Ok d)) (sym is) (record {
  run = copies.run;
  ends = then_ends command_course (on_lanes (image_of_task home cwd task)) (λ copied. printing (copy_done task.quiet copied)) (told a o) (told b o) (told b p) copied (Ok (copy_done task.quiet copied))
      (lanes_ends (image_of_task home cwd task) a b o (Ok copied) copies.ends) (prints_value (copy_done task.quiet copied) b o p at);
  stops = tt;
  stands = record { copied = copied; is = refl; delivered = copies.delivered; printed = at.printed };
  untouched = tt;
  other = tt;
})
  where
    at : Prints {A = Unit {0}} (copy_done task.quiet copied).lines o p (Ok tt)
    at = subst (λ d. Prints {A = Unit {0}} d.lines o p (Ok tt)) is prints
