-- What an admitted manifest stands for: every requirement of a list holds of its bytes, over the runs that were gained.
use Rattle.std.specs.Prelude.{◌≡◌, ℕ, List, Option, option_map, Result, Ok, Err, ⊤}
use Rattle.skopeo_outside.specs.Helper.{Runs}
use Rattle.skopeo_outside.specs.Tree.{Tree}
use Rattle.image_ref.specs.Digest.{digest_text}
use Rattle.digest_reader.specs.Digests.{digest}
use Rattle.std.specs.Borrow.{Bor}
use Rattle.image_ref.specs.declared.place.Place.{Place}
use Rattle.policy_scope.specs.declared.choice.Chosen.{Chosen}
use Rattle.policy_scope.specs.Seen.{reference_in}
use Rattle.policy_gate.specs.declared.fault.GateFault.{GateFault}
use Rattle.policy_gate.specs.declared.admission.Submitted.{Submitted}
use Rattle.policy_gate.specs.Gate.{Case, AreHeld}
use Rattle.policy_gate.specs.Calls.{Gained}

-- what is put to the gate
abbrev pub submitted_of : Chosen → Bor Place → Bor (List (List ℕ)) → Bor (List ℕ) → Option (Bor (List ℕ)) → Submitted
submitted_of chosen identity signatures cwd program =
    record { chosen = chosen; identity = identity; signatures = signatures; cwd = cwd; program = program }

-- the case of what was put to the gate with a manifest of that digest, over files that told that tree
abbrev pub case_with : Submitted → List ℕ → Option Tree → Case
case_with s d tree = record {
  subject = record { named = reference_in s.identity.now; digest = digest_text d };
  signatures = s.signatures.now;
  program = option_map (λ p. p.now) s.program;
  cwd = s.cwd.now;
  tree = tree;
}

-- the same by the bytes of the manifest
abbrev pub gate_case : Submitted → List ℕ → Option Tree → Case
gate_case s bytes tree = case_with s (digest bytes) tree

-- the scope whose list was put to the gate, if it is not the default one
abbrev pub scope_in : Submitted → Option (List ℕ)
scope_in s = option_map (λ p. p.now) s.chosen.scope

-- manifest bytes, what was put to the gate with them, and the files and the helper as they were
pub record Admission (F H : Type 0) : Type 0 where
  pub bytes : List ℕ
  pub digest : List ℕ
  pub submitted : Submitted
  pub files : F
  pub before : H
  pub after : H

-- the digest is the bytes' own, and every requirement of the list holds over the runs that were gained
pub record IsAdmitted {F H : Type 0} (tree : F → Option Tree) (runs : H → Runs) (a : Admission F H) : Type 0 where
  pub own : a.digest ≡ digest a.bytes
  pub held : Gained (runs a.before) (runs a.after) (AreHeld (gate_case a.submitted a.bytes (tree a.files)) a.submitted.chosen.list.now)

-- an answer without the value
abbrev pub done : {A : Type 0} → Result A GateFault → Result ⊤ GateFault
done (Ok a) = Ok tt
done (Err fault) = Err fault

-- the admission is that of these bytes, put to the gate between these states
pub record IsOf {F H : Type 0} (a : Admission F H) (s : Submitted) (bytes : List ℕ) (files : F) (before after : H) : Type 0 where
  pub submitted_is : a.submitted ≡ s
  pub bytes_are : a.bytes ≡ bytes
  pub files_are : a.files ≡ files
  pub before_is : a.before ≡ before
  pub after_is : a.after ≡ after
