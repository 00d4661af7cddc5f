use Rattle.http_message.proofs.UniqueOutcome.{one_outcome}
use Rattle.http_message.proofs.StableOutcome.{outcome_stays}
use Rattle.http_message.proofs.law.one_outcome.Goals as goal

pub returns : goal.returns
returns c = record { outcome = one_outcome; stays = outcome_stays }
