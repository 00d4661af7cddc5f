-- A reading in order: the value, or the first fault and the steps to its member.
use Rattle.std.specs.Prelude.{◌≡◌, ◌⊎◌, List, ◌∷◌, Result, Ok, Err}
use Rattle.json_tree.specs.Tree.{pointer}
use Rattle.json_tree.specs.declared.path.Step.{Step}
use Rattle.policy_file.specs.declared.fault.PolicyKind.{PolicyKind}
use Rattle.policy_file.specs.declared.fault.PolicyFault.{PolicyFault}
use Rattle.policy_file.specs.declared.fault.PolicyFault.TheVariants as told
use Rattle.policy_file.specs.declared.refusal.Refusal.{Refusal}
use Rattle.policy_file.specs.declared.refusal.Refusal.TheVariants.{Refused, Memory}

abbrev pub Judged : Type 0 → Type 0
Judged A = Result A (PolicyKind × List Step)

-- one after the other: the first fault counts
infixl 10 ◌>>=◌
abbrev pub ◌>>=◌ : {A B : Type 0} → Judged A → (A → Judged B) → Judged B
(Ok x) >>= f = f x
(Err e) >>= f = Err e

abbrev pub refuse : {A : Type 0} → PolicyKind → List Step → Judged A
refuse kind path = Err (kind, path)

-- what was read behind one step
abbrev pub under : {A : Type 0} → Step → Judged A → Judged A
under step (Ok x) = Ok x
under step (Err e) = Err (e.0, step ∷ e.1)

-- a reading as callers are told it: the fault with the JSON Pointer of its member
abbrev pub told_of : {A : Type 0} → Judged A → Result A PolicyFault
told_of (Ok x) = Ok x
told_of (Err e) = Err (told.Refused e.0 (pointer e.1))

-- the refusal is the reading's, unless memory ran out
abbrev pub IsRefusal : {A : Type 0} → Refusal → Judged A → Type 0
IsRefusal (Refused kind path) read = read ≡ Err (kind, path)
IsRefusal Memory read = Unit {0}

-- what a function returned is what the definition reads, unless memory ran out
abbrev pub Judges : {A : Type 0} → Result A Refusal → Judged A → Type 0
Judges (Ok x) read = read ≡ Ok x
Judges (Err e) read = IsRefusal e read

-- a fault as it is told, unless memory ran out
abbrev pub IsToldBy : PolicyFault → Refusal → Type 0
IsToldBy fault Memory = fault ≡ told.Memory
IsToldBy fault (Refused kind path) = (fault ≡ told.Memory) ⊎ (fault ≡ told.Refused kind (pointer path))
