-- What a lane answers when it is asked for a job, and which answers a receipt stands for.
use Rattle.std.specs.Prelude.{◌≡◌, ◌⊎◌, Bool, true, false, Result, Ok, Err, List, [], ◌∷◌}
use Rattle.copy_workers.specs.declared.asked.LaneAnswer.{LaneAnswer}
use Rattle.copy_workers.specs.declared.asked.LaneAnswer.TheVariants as answer
use Rattle.copy_workers.specs.declared.cause.Cause.{Cause}
use Rattle.copy_workers.specs.declared.receipt.How.{How}
use Rattle.copy_workers.specs.declared.receipt.How.TheVariants.{Present, Mounted, Carried}

-- what `have` answered: the blob is there, it is not, or a cause
abbrev pub had : Result Bool Cause → LaneAnswer
had (Ok true) = answer.Present
had (Ok false) = answer.Absent
had (Err cause) = answer.Failed

-- what `mount` answered: the blob was mounted, the registry declined, or a cause
abbrev pub mounted : Result Bool Cause → LaneAnswer
mounted (Ok true) = answer.Mounted
mounted (Ok false) = answer.Declined
mounted (Err cause) = answer.Failed

-- what `carry` answered: the blob was carried, or a cause
abbrev pub carried : {T : Type 0} → Result T Cause → LaneAnswer
carried (Ok nothing) = answer.Carried
carried (Err cause) = answer.Failed

-- the answers by which a job was secured so: the blob was there; or it was not, and then it was mounted or carried
abbrev pub answers_of : How → List LaneAnswer
answers_of Present = answer.Present ∷ []
answers_of Mounted = answer.Absent ∷ answer.Mounted ∷ []
answers_of Carried = answer.Absent ∷ answer.Carried ∷ []

-- the answers by which a job failed: a cause, at once or when the blob was absent
abbrev pub Failed : List LaneAnswer → Type 0
Failed answers = (answers ≡ answer.Failed ∷ []) ⊎ (answers ≡ answer.Absent ∷ answer.Failed ∷ [])
