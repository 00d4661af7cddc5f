-- The place that an identity holds.
use Rattle.std.specs.Prelude.{Option, Some, None}
use Rattle.image_ref.specs.Reference.{Reference}
use Rattle.image_ref.specs.declared.place.Place.{Place}
use Rattle.image_ref.specs.declared.place.Place.TheVariants.{Docker, Dir, Oci}
use Rattle.policy_scope.specs.declared.identity.Judged.{Judged}
use Rattle.policy_scope.specs.declared.identity.Judged.TheVariants as judged

abbrev pub place_in : Judged → Place
place_in (judged.Docker r) = Docker r
place_in (judged.Dir path) = Dir path
place_in (judged.Oci path tag) = Oci path tag

-- the reference of a place, where it is one
abbrev pub reference_in : Place → Option Reference
reference_in (Docker r) = Some r
reference_in (Dir path) = None
reference_in (Oci path tag) = None
