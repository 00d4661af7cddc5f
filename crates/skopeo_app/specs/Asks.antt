-- What the helper is asked in a call of the command: runs of the program that the words name, and of no other.
use Rattle.std.specs.Prelude.{◌≡◌, Result, Ok, Err}
use Rattle.skopeo_outside.specs.Helper.{Runs}
use Rattle.admission.specs.Judged.{AsksOnly}
use Rattle.skopeo_app.specs.declared.refusal.CommandRefusal.{CommandRefusal}
use Rattle.skopeo_app.specs.declared.task.Task.{Task}
use Rattle.skopeo_app.specs.declared.task.Task.TheVariants.{Page, Copy}

-- by what the words ask for: a copy may ask its verifier, and nothing else asks
abbrev pub AsksAt : Result Task CommandRefusal → Runs → Runs → Type 0
AsksAt (Ok (Page text)) old new = new ≡ old
AsksAt (Ok (Copy task)) old new = AsksOnly task.plan old new
AsksAt (Err fault) old new = new ≡ old
