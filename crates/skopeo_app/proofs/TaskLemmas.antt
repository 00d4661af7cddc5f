-- Steps of what the words ask for, one after the other.
use Rattle.std.proofs.Common.{Bool, true, false, ◌≡◌, max, List, ℕ, Result, Ok, Err, refl, sym, subst, ◌∙◌, arith}
use Rattle.std.specs.Str.{bytes_eq}
use Rattle.std.proofs.lemmas.Slice.Eq.{bytes_eq-Decides}
use Rattle.skopeo_outside.specs.Steps.{Says, SaysBy}
use Rattle.image_ref.specs.declared.place.Place.TheVariants.{Dir}
use Rattle.transports.specs.declared.plan.CopyPlan.{CopyPlan}
use Rattle.skopeo_app.specs.declared.refusal.CommandRefusal.{CommandRefusal}
use Rattle.skopeo_app.specs.declared.refusal.CommandRefusal.TheVariants as refusal
use Rattle.transports.specs.declared.refusal.Refusal.TheVariants as image
use Rattle.skopeo_app.specs.Refusals.{is_memory}
use Rattle.skopeo_app.specs.Courses.{command_course}
use Rattle.skopeo_app.specs.Plan.{◌>>=◌, are_same, IsSoundPlan}

-- a step that answered a value leaves the rest to the next
pub then_says : {A B : Type 0} (w : Result A CommandRefusal) (f : A → Result B CommandRefusal) (x : A) (r : Result B CommandRefusal) → Says command_course w (Ok x) → Says command_course (f x) r → Says command_course (w >>= f) r
unfolding Says
then_says w f x r a b = subst (λ v. Says command_course (v >>= f) r) (sym a) b

-- a step that refused ends the walk
pub then_refuses : {A B : Type 0} (w : Result A CommandRefusal) (f : A → Result B CommandRefusal) (e : CommandRefusal) → Says command_course w (Err e) → Says command_course (w >>= f) (Err e)
unfolding Says command_course
then_refuses {A} {B} w f e a = by (is_memory e) a
  where
    by : (b : Bool) → SaysBy b command_course w e → SaysBy b command_course (w >>= f) e
    by true a = λ s. tt
    by false a = subst (λ v. SaysBy false command_course (v >>= f) e) (sym a) refl

pub says_value : {A : Type 0} (x : A) → Says command_course (Ok x) (Ok x)
unfolding Says
says_value x = refl

pub says_memory : {A : Type 0} (w : Result A CommandRefusal) → Says command_course w (Err (refusal.Image image.Memory))
unfolding Says command_course
says_memory w = λ s. tt

pub says_refusal : (A : Type 0) (e : CommandRefusal) → Says {A = A} command_course (Err e) (Err e)
unfolding Says command_course
says_refusal A e = by (is_memory e)
  where
    by : (b : Bool) → SaysBy {A = A} b command_course (Err e) e
    by true = λ s. tt
    by false = refl

-- two places that are not one folder, and a lane
pub sound : (plan : CopyPlan) (lanes : ℕ) → are_same plan ≡ false → plan.lanes ≡ max lanes 1 → IsSoundPlan plan
sound plan lanes same is = record { places = λ path source dest. apart path source dest; lanes = (let x = is in omega arith) }
  where
    apart : (path : List ℕ) → plan.source ≡ Dir path → plan.dest ≡ Dir path → ⊥
    apart path source dest =
        let eq : bytes_eq path path ≡ true = (bytes_eq-Decides path path).1 refl in
        let x : true ≡ false = sym (rw (source, dest) eq) ∙ same in
        cc
