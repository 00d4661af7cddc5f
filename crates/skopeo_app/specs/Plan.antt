-- The places of a copy, its lanes, whether its registry may be asked without TLS, and by what its signatures are judged.
use Rattle.std.specs.Prelude.{◌&&◌, ◌<◌, [], List, ℕ, Bool, true, false, if◌then◌else◌, max, codes, take, drop, Option, Some, None, Result, Ok, Err}
use Rattle.std.specs.Option.{is_none, option_map}
use Rattle.std.specs.Str.{bytes_eq}
use Rattle.image_ref.specs.Path.{cleaned}
use Rattle.image_ref.specs.PlaceReading.{place_of}
use Rattle.image_ref.specs.Reading.{pieces_of}
use Rattle.image_ref.specs.declared.place.Place.{Place}
use Rattle.image_ref.specs.declared.place.Place.TheVariants as place
use Rattle.image_ref.specs.declared.fault.PlaceFault.{PlaceFault}
use Rattle.skopeo_words.specs.declared.command.Common.{Common}
use Rattle.skopeo_words.specs.declared.command.Passing.{Passing}
use Rattle.transports.specs.declared.plan.CopyPlan.{CopyPlan}
use Rattle.transports.specs.Places.{IsBetweenPlaces}
use Rattle.skopeo_app.specs.declared.refusal.CommandRefusal.{CommandRefusal}
use Rattle.skopeo_app.specs.declared.refusal.CommandRefusal.TheVariants.{Reference, SamePlace}

-- one step after the other: the first refusal counts
infixl 10 ◌>>=◌
abbrev pub ◌>>=◌ : {A B : Type 0} → Result A CommandRefusal → (A → Result B CommandRefusal) → Result B CommandRefusal
(Ok x) >>= f = f x
(Err e) >>= f = Err e

-- a place, or its text and first fault
abbrev pub or_reference : List ℕ → Result Place PlaceFault → Result Place CommandRefusal
or_reference text (Ok place) = Ok place
or_reference text (Err fault) = Err (Reference text fault)

unfoldable pub place_at : List ℕ → List ℕ → Result Place CommandRefusal
place_at cwd text = or_reference text (place_of cwd text)

-- a place of the transport `dir`
abbrev pub is_folder : Place → Bool
is_folder (place.Docker reference) = false
is_folder (place.Dir path) = true
is_folder (place.Oci path tag) = false

-- its folder
abbrev pub folder_in : Place → List ℕ
folder_in (place.Docker reference) = []
folder_in (place.Dir path) = path
folder_in (place.Oci path tag) = []

-- a place in a registry
abbrev pub is_registry : Place → Bool
is_registry (place.Docker reference) = true
is_registry (place.Dir path) = false
is_registry (place.Oci path tag) = false

-- two places that are one folder
abbrev pub are_same : CopyPlan → Bool
are_same plan = (is_folder plan.source && is_folder plan.dest) && bytes_eq (folder_in plan.source) (folder_in plan.dest)

abbrev pub apart : CopyPlan → Result CopyPlan CommandRefusal
apart plan = if are_same plan then Err (SamePlace (folder_in plan.source)) else Ok plan

-- on how many first lanes blobs are carried: as many as `--lanes` says, which is at least one
abbrev pub lanes_for : Common → ℕ
lanes_for common = max common.lanes 1

-- a text that names no host
abbrev pub hostless : List ℕ → Option (List ℕ)
hostless text = if is_none (pieces_of text).host then Some text else None

abbrev pub hostless_in : Option (List ℕ) → Option (List ℕ)
hostless_in (Some text) = hostless text
hostless_in None = None

-- what stands behind `docker://`
abbrev pub behind_docker : List ℕ → Option (List ℕ)
behind_docker text = if bytes_eq (take 9 text) (codes "docker://") then Some (drop 9 text) else None

-- the short name that a source is: where short names are resolved, the text of a registry's image that names no host
abbrev pub short_for : Bool → Place → List ℕ → Option (List ℕ)
short_for false from text = None
short_for true (place.Docker reference) text = hostless_in (behind_docker text)
short_for true (place.Dir path) text = None
short_for true (place.Oci path tag) text = None

-- the program that judges signatures, where one is named; a relative path counts from the folder
abbrev pub verifier_for : List ℕ → Passing → Option (List ℕ)
verifier_for cwd passing = option_map (cleaned cwd) passing.verifier

-- the plan of a copy between two places, with what its options say; paths of keys count from the folder
abbrev pub plan_between : List ℕ → ℕ → Passing → Option (List ℕ) → Place → Place → CopyPlan
plan_between cwd lanes passing short from to = record {
  source = from;
  short = short;
  dest = to;
  lanes = lanes;
  src_tls = passing.src_tls;
  lookaside = passing.lookaside;
  verifier = verifier_for cwd passing;
  cwd = cwd;
}

-- the places of a copy: the source is read first
unfoldable pub plan_of : List ℕ → ℕ → Passing → Bool → List ℕ → List ℕ → Result CopyPlan CommandRefusal
plan_of cwd lanes passing short_names source dest = do
  from ← place_at cwd source
  to ← place_at cwd dest
  apart (plan_between cwd lanes passing (short_for short_names from source) from to)

-- what a copy needs: two places that are not one folder, and a lane
pub record IsSoundPlan (plan : CopyPlan) : Type 0 where
  pub places : IsBetweenPlaces plan
  pub lanes : 0 < plan.lanes
