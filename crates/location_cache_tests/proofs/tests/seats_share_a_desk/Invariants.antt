use Rattle.location_cache_tests.proofs.tests.seats_share_a_desk.Given as goal

abbrev pub ghosts-walk : goal.ghosts-walk
ghosts-walk l a = record { jobs = 3 }
