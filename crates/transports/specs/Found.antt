-- The source that answers for a plan's source, its manifest, and the image as it is named.
use Rattle.std.specs.Prelude.{◌≡◌, ◌∷◌, [], ℕ, Bool, List, None, Some, Option, Result, Ok, Err}
use Rattle.skopeo_outside.specs.Steps.{◌>>=◌, given}
use Rattle.skopeo_outside.specs.OnLanes.{LaneStep}
use Rattle.image_ref.specs.Reference.{Reference}
use Rattle.image_ref.specs.declared.place.Place.{Place}
use Rattle.image_ref.specs.declared.place.Place.TheVariants.{Docker, Dir, Oci}
use Rattle.registries_conf.specs.Settings.{Settings}
use Rattle.registries_conf.specs.declared.fault.SourcesFault.{SourcesFault}
use Rattle.registries_conf.specs.declared.fault.SourcesFault.TheVariants as fault
use Rattle.registries_conf.specs.declared.sources.Source.{Source}
use Rattle.registries_conf.specs.SourcesOf.{sources_of}
use Rattle.registries_conf.specs.Expand.{expand}
use Rattle.registries_conf.specs.declared.fault.ShortFault.{ShortFault}
use Rattle.registries_conf.specs.declared.fault.ShortFault.TheVariants as short
use Rattle.transports.specs.declared.attempt.Attempt.{Attempt}
use Rattle.transports.specs.declared.found.Found.{Found}
use Rattle.transports.specs.declared.found.FoundImage.{FoundImage}
use Rattle.transports.specs.declared.plan.CopyPlan.{CopyPlan}
use Rattle.transports.specs.declared.source.Source.TheVariants as source
use Rattle.transports.specs.declared.refusal.Part.TheVariants as part
use Rattle.transports.specs.declared.refusal.Refusal.{Refusal}
use Rattle.transports.specs.declared.refusal.Refusal.TheVariants as refusal
use Rattle.transports.specs.StepEnds.{reading}
use Rattle.transports.specs.Given.{ManifestEnds}
use Rattle.transports.specs.Tried.{AreTried}
use Rattle.transports.specs.Names.{AreNamesTried}

-- the sources of a reference, or the refusal of a blocked one
abbrev pub by_sources : Result (List Source) SourcesFault → Result (List Source) Refusal
by_sources (Ok sources) = Ok sources
by_sources (Err (fault.Blocked number)) = Err (refusal.Blocked number)
by_sources (Err fault.Memory) = Err refusal.Memory

-- the source that answered, or the refusal that lists why none did
abbrev pub by_attempts : Result Found (List Attempt) → Result Found Refusal
by_attempts (Ok found) = Ok found
by_attempts (Err attempts) = Err (refusal.NoSource attempts)

-- the sources are tried in order
unfoldable pub trying : Option Bool → List Source → LaneStep Refusal Found
trying tls sources old new r = (x : Result Found (List Attempt)) × AreTried tls sources old new x × (r ≡ by_attempts x)

-- a folder, and the image's manifest in it
unfoldable pub in_folder : List ℕ → LaneStep Refusal Found
in_folder path = do
  fetched ← reading (ManifestEnds (source.Folder path) None)
  given (Ok (record { from = source.Folder path; fetched = fetched }))

-- the sources of a reference by the configuration, in order
unfoldable pub at_registries : Option Bool → Settings → Reference → LaneStep Refusal Found
at_registries tls conf r = do
  sources ← given (by_sources (sources_of conf r))
  reading (trying tls sources)

-- by the kind of place
unfoldable pub found_for : Option Bool → Settings → Place → LaneStep Refusal Found
found_for tls conf (Dir path) = in_folder path
found_for tls conf (Docker r) = at_registries tls conf r
found_for tls conf (Oci path name) = given (Err (refusal.NotBuilt part.Place))

-- a place, as which the image is found
unfoldable pub found_as : Option Bool → Settings → Place → LaneStep Refusal FoundImage
found_as tls conf place = do
  it ← found_for tls conf place
  given (Ok (record { place = place; found = it }))

-- ---- short names

-- the names that a text stands for, or why it stands for none
abbrev pub by_expansion : List ℕ → Result (List Reference) ShortFault → Result (List Reference) Refusal
by_expansion text (Ok names) = Ok names
by_expansion text (Err (short.Ambiguous count)) = Err (refusal.ShortName text count)
by_expansion text (Err short.NoRegistry) = Err (refusal.ShortName text 0)
by_expansion text (Err (short.Ref joined fault)) = Err (refusal.BadReference joined fault)
by_expansion text (Err short.Memory) = Err refusal.Memory

-- the image as one of several names, or the refusal that lists why none answered
abbrev pub by_names : Result FoundImage (List Attempt) → Result FoundImage Refusal
by_names (Ok it) = Ok it
by_names (Err attempts) = Err (refusal.NoSource attempts)

-- the names are tried in order
unfoldable pub trying_names : Option Bool → Settings → List Reference → LaneStep Refusal FoundImage
trying_names tls conf names old new r = (x : Result FoundImage (List Attempt)) × AreNamesTried tls conf names old new x × (r ≡ by_names x)

-- one name is as if it were given whole; several are tried
unfoldable pub at_names : Option Bool → Settings → List Reference → LaneStep Refusal FoundImage
at_names tls conf [] = reading (trying_names tls conf [])
at_names tls conf (r ∷ []) = found_as tls conf (Docker r)
at_names tls conf (r ∷ other ∷ more) = reading (trying_names tls conf (r ∷ other ∷ more))

unfoldable pub found_short : Option Bool → Settings → List ℕ → LaneStep Refusal FoundImage
found_short tls conf text = do
  names ← given (by_expansion text (expand conf text))
  at_names tls conf names

-- ---- a plan's source

abbrev pub found_by : Option Bool → Settings → Place → Option (List ℕ) → LaneStep Refusal FoundImage
found_by tls conf place None = found_as tls conf place
found_by tls conf place (Some text) = found_short tls conf text

unfoldable pub found : CopyPlan → Settings → LaneStep Refusal FoundImage
found plan conf = found_by plan.src_tls conf plan.source plan.short
