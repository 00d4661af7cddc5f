use Rattle.location_cache_tests.proofs.tests.each_number_is_drawn_once.Given as goal

abbrev pub ghosts-draw_together : goal.ghosts-draw_together
ghosts-draw_together l a = record { jobs = 10000 }
