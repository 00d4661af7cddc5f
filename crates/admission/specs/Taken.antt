-- An image that was admitted, with the source that gave it.
use Rattle.transports.specs.declared.source.Source.{Source}
use Rattle.admission.specs.Admission.{Admission}

pub record TakenImage : Type 0 where
  pub from : Source
  pub image : Admission
