-- The place that a text spells, or its fault, by the transport before its first `:`.
use Rattle.std.specs.Prelude.{ℕ, List, length, drop, take, ◌==◌, not, Option, Some, None, Result, Ok, Err, if◌then◌else◌, codes}
use Rattle.std.specs.Str.{bytes_eq}
use Rattle.image_ref.specs.Characters.{colon}
use Rattle.image_ref.specs.Cuts.{Cut, cut_at}
use Rattle.image_ref.specs.Domain.{passes_or_none}
use Rattle.image_ref.specs.Path.{cleaned}
use Rattle.image_ref.specs.Reference.{Reference}
use Rattle.image_ref.specs.Reading.{docker_of}
use Rattle.image_ref.specs.declared.fault.RefFault.{RefFault}
use Rattle.image_ref.specs.declared.fault.PlaceFault.{PlaceFault}
use Rattle.image_ref.specs.declared.fault.PlaceFault.TheVariants.{NoTransport, UnknownTransport, LeftOut, Slashes, EmptyPath, BadOciRef, Reference as OfReference}
use Rattle.image_ref.specs.declared.place.Place.{Place}
use Rattle.image_ref.specs.declared.place.Place.TheVariants.{Docker, Dir, Oci}
use Rattle.image_ref.specs.Place.{is_oci_ref, is_left_out, moved}

-- the place of a reference, its faults counted behind `docker://`
abbrev pub docker_read : Result Reference RefFault → Result Place PlaceFault
docker_read (Ok r) = Ok (Docker r)
docker_read (Err e) = Err (OfReference (moved 9 e))

-- behind `docker:`
abbrev pub docker_place : List ℕ → Result Place PlaceFault
docker_place rest =
    if bytes_eq (take 2 rest) (codes "//") then docker_read (docker_of (drop 2 rest))
    else Err Slashes

-- behind `dir:`
abbrev pub dir_place : List ℕ → List ℕ → Result Place PlaceFault
dir_place cwd path = if length path == 0 then Err EmptyPath else Ok (Dir (cleaned cwd path))

-- behind `oci:`
abbrev pub oci_place : List ℕ → Cut → Result Place PlaceFault
oci_place cwd cut =
    if length cut.0 == 0 then Err EmptyPath
    else if not (passes_or_none is_oci_ref cut.1) then Err BadOciRef
    else Ok (Oci (cleaned cwd cut.0) cut.1)

-- behind a transport and its colon
abbrev pub place_behind : List ℕ → List ℕ → Option (List ℕ) → Result Place PlaceFault
place_behind cwd transport None = Err NoTransport
place_behind cwd transport (Some rest) =
    if bytes_eq transport (codes "docker") then docker_place rest
    else if bytes_eq transport (codes "dir") then dir_place cwd rest
    else if bytes_eq transport (codes "oci") then oci_place cwd (cut_at colon rest)
    else if is_left_out transport then Err LeftOut
    else Err UnknownTransport

-- the reading of a place's text
unfoldable pub place_of : List ℕ → List ℕ → Result Place PlaceFault
place_of cwd text = place_behind cwd (cut_at colon text).0 (cut_at colon text).1
