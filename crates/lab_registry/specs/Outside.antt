-- What a call of the system may leave unanswered.
use Rattle.lab_registry.specs.declared.unanswered.Unanswered.{Unanswered}
use Rattle.lab_registry.specs.declared.unanswered.Unanswered.TheVariants.{TooLong, Cut, Broken, Memory}
use Rattle.lab_registry.specs.declared.unjudged.Unjudged.{Unjudged}
use Rattle.lab_registry.specs.declared.unjudged.Unjudged.TheVariants.{NoQuestion}
use Rattle.lab_registry.specs.declared.unjudged.Unjudged.TheVariants as unjudged

-- the connection failed, or memory was wanting
abbrev pub IsOutside : Unanswered → Type 0
IsOutside TooLong = ⊥
IsOutside Cut = ⊥
IsOutside (Broken error) = Unit {0}
IsOutside Memory = Unit {0}

-- the input or the output failed, or memory was wanting
abbrev pub IsFailed : Unjudged → Type 0
IsFailed NoQuestion = ⊥
IsFailed (unjudged.Broken error) = Unit {0}
IsFailed unjudged.Memory = Unit {0}
