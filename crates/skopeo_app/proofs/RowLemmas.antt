-- The rows of jobs, as they are printed.
use Rattle.std.proofs.Common.{◌≡◌, ◌∙◌, ◌++◌, ◌∷◌, ◌==◌, Bool, true, false, ℕ, if◌then◌else◌, refl, ap}
use Rattle.std.specs.Prelude.{codes}
use Rattle.std.specs.Fmt.{decimal}
use Rattle.skopeo_app.specs.declared.rows.Printed.{Printed}
use Rattle.skopeo_app.specs.Rows.{as_number, Row, row as row_with, job_row}
use Rattle.skopeo_app.specs.Lines.{fields_text, as_printed, printed, printed_in_job}

by_number : (job : ℕ) (r : Row) (b : Bool)
    → (if b then printed r else as_printed r.number r.name (codes " job=" ++ (decimal job ++ fields_text r.fields))) ≡ printed (if b then r else row_with r.number r.name ((codes "job", as_number job) ∷ r.fields))
unfolding printed
by_number job r true = refl
by_number job r false = refl

-- a printed row of a job is the row of a job, printed
pub job_printed : (job : ℕ) (r : Row) (failed p : Printed) → failed ≡ printed r → p ≡ printed_in_job job failed → p ≡ printed (job_row job r)
unfolding printed job_row
job_printed job r failed p is same = same ∙ ap (printed_in_job job) is ∙ by_number job r (r.number == 4)
