use Rattle.image_ref.proofs.CleanLaw.{cleaned_is_clean, clean_stays}
use Rattle.image_ref.proofs.clean.clean_once.Goals as goal

pub returns-clause-clean : goal.returns-clause-clean
returns-clause-clean c = cleaned_is_clean

pub returns-clause-stays : goal.returns-clause-stays
returns-clause-stays c = clean_stays
