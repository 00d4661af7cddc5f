-- What a source gives next of a blob that is being read.
use Rattle.std.specs.Prelude.{◌≡◌, ◌++◌, ℕ, false, List, take, Result, Ok, Err}
use Rattle.skopeo_outside.specs.LaneTold.{LaneTold, IsLater}
use Rattle.digest_reader.specs.declared.job.Job.{Job}
use Rattle.http_exchange.specs.Reader.{IsReady}
use Rattle.copy_workers.specs.declared.cause.Cause.{Cause}
use Rattle.transports.specs.declared.blob.Blob.{Blob}
use Rattle.transports.specs.declared.blob.Blob.TheVariants as blob
use Rattle.transports.specs.declared.source.Source.{Source}
use Rattle.transports.specs.Given.{HasGiven, GaveFront, GaveAll}
use Rattle.transports.specs.StepEnds.{FailsBy}
use Rattle.transports.specs.Uploads.{is_mismatch}

-- the blob can be read on: the wire of an answer is open, unless all of it was given
abbrev pub IsReadyOn : Blob → LaneTold → Type 0
IsReadyOn (blob.File path count) now = Unit {0}
IsReadyOn (blob.Answer a count) now = IsReady a.reader now.from.is_open

-- so many bytes more were given; none only at the blob's end
pub record GivesMore (source : Source) (job : Job) (b : Blob) (entry new : LaneTold) (given into : List ℕ) (count : ℕ) : Type 0 where
  pub has : HasGiven source job b entry new (given ++ take count into)
  pub last : count ≡ 0 → GaveAll source job entry new given

-- reading stopped, for a cause that comes from no comparison; what was given is a front of the blob still
pub record GivesNoMore (source : Source) (job : Job) (e : Cause) (entry new : LaneTold) (given : List ℕ) : Type 0 where
  pub failed : FailsBy source job e entry new
  pub unjudged : is_mismatch e ≡ false
  pub front : GaveFront source job entry new given
  pub later : IsLater entry new

-- by the answer
abbrev pub GivesNext : Source → Job → Blob → LaneTold → LaneTold → List ℕ → List ℕ → Result ℕ Cause → Type 0
GivesNext source job b entry new given into (Ok count) = GivesMore source job b entry new given into count
GivesNext source job b entry new given into (Err e) = GivesNoMore source job e entry new given
