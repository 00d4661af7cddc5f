-- The source that answers, by the kind of place, and by whether a short name is given.
use Rattle.std.proofs.Common.{◌≡◌, Bool, Option, Some, None, List, ℕ, Result, Err, refl, sym, subst}
use Rattle.skopeo_outside.specs.LaneTold.{LaneTold}
use Rattle.skopeo_outside.specs.LaneLaws.{later_same}
use Rattle.skopeo_outside.specs.Steps.{Ends, given}
use Rattle.image_ref.specs.Reference.{Reference}
use Rattle.image_ref.specs.declared.place.Place.{Place}
use Rattle.image_ref.specs.declared.place.Place.TheVariants.{Docker, Dir, Oci}
use Rattle.registries_conf.specs.Settings.{Settings}
use Rattle.transports.specs.declared.found.Found.{Found}
use Rattle.transports.specs.declared.found.FoundImage.{FoundImage}
use Rattle.transports.specs.declared.plan.CopyPlan.{CopyPlan}
use Rattle.transports.specs.declared.refusal.Part.TheVariants as part
use Rattle.transports.specs.declared.refusal.Refusal.{Refusal}
use Rattle.transports.specs.declared.refusal.Refusal.TheVariants as refusal
use Rattle.transports.specs.Courses.{lane_course}
use Rattle.transports.specs.Found.{in_folder, at_registries, found_for, found_as, found_short, found_by, found}

pub found_folder : (tls : Option Bool) (conf : Settings) (place : Place) (path : List ℕ) (a b : LaneTold) (r : Result Found Refusal) → place ≡ Dir path → Ends lane_course (in_folder path) a b r → Ends lane_course (found_for tls conf place) a b r
unfolding found_for
found_folder tls conf place path a b r is ends = subst (λ (p : Place). Ends lane_course (found_for tls conf p) a b r) (sym is) ends

pub found_registry : (tls : Option Bool) (conf : Settings) (place : Place) (reference : Reference) (a b : LaneTold) (r : Result Found Refusal) → place ≡ Docker reference → Ends lane_course (at_registries tls conf reference) a b r → Ends lane_course (found_for tls conf place) a b r
unfolding found_for
found_registry tls conf place reference a b r is ends = subst (λ (p : Place). Ends lane_course (found_for tls conf p) a b r) (sym is) ends

pub found_layout : (tls : Option Bool) (conf : Settings) (place : Place) (path : List ℕ) (name : Option (List ℕ)) (a : LaneTold) → place ≡ Oci path name → Ends {A = Found} lane_course (found_for tls conf place) a a (Err (refusal.NotBuilt part.Place))
unfolding found_for given Ends lane_course
found_layout tls conf place path name a is = subst (λ (p : Place). Ends {A = Found} lane_course (found_for tls conf p) a a (Err (refusal.NotBuilt part.Place))) (sym is) (record { later = later_same a; ends = (refl, refl) })

-- no short name
pub found_place : (plan : CopyPlan) (conf : Settings) (a b : LaneTold) (r : Result FoundImage Refusal) → plan.short ≡ None → Ends lane_course (found_as plan.src_tls conf plan.source) a b r → Ends lane_course (found plan conf) a b r
unfolding found
found_place plan conf a b r is ends = subst (λ (o : Option (List ℕ)). Ends lane_course (found_by plan.src_tls conf plan.source o) a b r) (sym is) ends

-- a short name
pub found_by_short : (plan : CopyPlan) (conf : Settings) (text : List ℕ) (a b : LaneTold) (r : Result FoundImage Refusal) → plan.short ≡ Some text → Ends lane_course (found_short plan.src_tls conf text) a b r → Ends lane_course (found plan conf) a b r
unfolding found
found_by_short plan conf text a b r is ends = subst (λ (o : Option (List ℕ)). Ends lane_course (found_by plan.src_tls conf plan.source o) a b r) (sym is) ends
