-- What a call that may want memory answers.
use Rattle.std.specs.Prelude.{◌≡◌, ◌⊎◌, Result, Err}

-- the wanted result, unless memory was wanting
abbrev pub Answers : {A E : Type 0} → E → Result A E → Result A E → Type 0
Answers memory result wanted = (result ≡ Err memory) ⊎ (result ≡ wanted)
