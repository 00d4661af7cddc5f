use Rattle.std.proofs.Common.{length}
use Rattle.copy_workers.proofs.secure.run_jobs.Given as goal

abbrev pub ghosts-run_at_desk : goal.ghosts-run_at_desk
ghosts-run_at_desk g a = record { jobs = length a.jobs.now }
