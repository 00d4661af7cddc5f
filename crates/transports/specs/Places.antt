-- Which destinations places are, and which sources are apart from them. (Each kind that is built is a case here.)
use Rattle.std.specs.Prelude.{◌≡◌, ◌≢◌, List, ℕ, Result, Ok, Err}
use Rattle.image_ref.specs.declared.place.Place.{Place}
use Rattle.image_ref.specs.declared.place.Place.TheVariants.{Docker, Dir, Oci}
use Rattle.transports.specs.declared.source.Source.{Source}
use Rattle.transports.specs.declared.source.Source.TheVariants as source
use Rattle.transports.specs.declared.dest.Dest.{Dest}
use Rattle.transports.specs.declared.dest.Dest.TheVariants as dest
use Rattle.transports.specs.declared.plan.CopyPlan.{CopyPlan}
use Rattle.transports.specs.declared.refusal.Part.TheVariants as part
use Rattle.transports.specs.declared.refusal.Refusal.{Refusal}
use Rattle.transports.specs.declared.refusal.Refusal.TheVariants.{NotBuilt}

-- the destination that a place is
abbrev pub dest_at : Place → Result Dest Refusal
dest_at (Dir path) = Ok (dest.Folder path)
dest_at (Oci path name) = Err (NotBuilt part.Place)
dest_at (Docker reference) = Err (NotBuilt part.Place)

abbrev pub GoesTo : Place → Dest → Type 0
GoesTo place to = dest_at place ≡ Ok to

-- a source and a destination that are not one folder
unfoldable pub AreApart : Source → Dest → Type 0
AreApart (source.Folder a) (dest.Folder b) = a ≢ b
AreApart (source.Registry reference) (dest.Folder b) = Unit {0}

-- a plan whose source and destination are not two `dir` places of one path
abbrev pub IsBetweenPlaces : CopyPlan → Type 0
IsBetweenPlaces plan = (path : List ℕ) → plan.source ≡ Dir path → plan.dest ≢ Dir path
