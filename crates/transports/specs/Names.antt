-- The names that a short name stands for, tried in order (containers-registries.conf(5), "Short-name resolution").
use Rattle.std.specs.Prelude.{◌≡◌, ◌⊎◌, ◌++◌, ◌∷◌, [], List, Bool, Option, Result, Ok, Err}
use Rattle.skopeo_outside.specs.LaneTold.{LaneTold}
use Rattle.image_ref.specs.Reference.{Reference, full}
use Rattle.image_ref.specs.declared.place.Place.TheVariants.{Docker}
use Rattle.registries_conf.specs.Settings.{Settings}
use Rattle.registries_conf.specs.IsSources.{HasSources}
use Rattle.registries_conf.specs.declared.sources.Source.{Source}
use Rattle.registries_conf.specs.declared.fault.SourcesFault.{SourcesFault}
use Rattle.registries_conf.specs.declared.fault.SourcesFault.TheVariants as fault
use Rattle.transports.specs.declared.attempt.Attempt.{Attempt}
use Rattle.transports.specs.declared.attempt.AttemptCause.TheVariants as why
use Rattle.transports.specs.declared.found.Found.{Found}
use Rattle.transports.specs.declared.found.FoundImage.{FoundImage}
use Rattle.transports.specs.Tried.{AreTried}

-- ---- one name

-- its sources were tried in order; where it is blocked nothing was asked, and that is its one failed attempt
abbrev pub IsNameTriedBy : Option Bool → Reference → Result (List Source) SourcesFault → LaneTold → LaneTold → Result Found (List Attempt) → Type 0
IsNameTriedBy tls r (Ok sources) old new result = AreTried tls sources old new result
IsNameTriedBy tls r (Err (fault.Blocked n)) old new result = (result ≡ Err (record { source = full r; cause = why.Blocked n } ∷ [])) × (new ≡ old)
IsNameTriedBy tls r (Err fault.Memory) old new result = ⊥

-- by what the configuration has for it
abbrev pub IsNameTried : Option Bool → Settings → Reference → LaneTold → LaneTold → Result Found (List Attempt) → Type 0
IsNameTried tls conf r old new result = (sources : Result (List Source) SourcesFault) × HasSources conf r sources × IsNameTriedBy tls r sources old new result

-- ---- all of them

-- the image as which a name's source found it
abbrev pub as_named : Reference → Found → FoundImage
as_named r it = record { place = Docker r; found = it }

-- failed attempts more, told ahead of the others
abbrev pub behind_all : List Attempt → Result FoundImage (List Attempt) → Result FoundImage (List Attempt)
behind_all attempts (Ok it) = Ok it
behind_all attempts (Err more) = Err (attempts ++ more)

-- a source of the first name answers; or they all fail, and the other names are tried behind them. Without a name nothing is
-- asked.
abbrev pub AreNamesTried : Option Bool → Settings → List Reference → LaneTold → LaneTold → Result FoundImage (List Attempt) → Type 0
AreNamesTried tls conf [] old new result = (result ≡ Err []) × (new ≡ old)
AreNamesTried tls conf (r ∷ rs) old new result =
    ((it : Found) × IsNameTried tls conf r old new (Ok it) × (result ≡ Ok (as_named r it)))
    ⊎ ((between : LaneTold) × (attempts : List Attempt) × (rest : Result FoundImage (List Attempt)) × IsNameTried tls conf r old between (Err attempts)
    × AreNamesTried tls conf rs between new rest × (result ≡ behind_all attempts rest))
