-- What was put to the gate, as the walk over its list holds it.
use Rattle.std.proofs.Common.{◌≡◌, ℕ, List, Option, option_map, Result, refl, sym, subst}
use Rattle.skopeo_outside.specs.Helper.{Runs}
use Rattle.skopeo_outside.specs.Tree.{Tree}
use Rattle.image_ref.specs.Digest.{digest_text}
use Rattle.digest_reader.specs.Digests.{digest}
use Rattle.policy_scope.specs.Seen.{reference_in}
use Rattle.policy_file.specs.declared.requirement.Requirement.{Requirement}
use Rattle.policy_gate.specs.declared.admission.Submitted.{Submitted}
use Rattle.policy_gate.specs.declared.fault.GateFault.{GateFault}
use Rattle.policy_gate.specs.declared.gate.Gate.{Gate}
use Rattle.policy_gate.specs.Gate.{Ends, AreHeld}
use Rattle.policy_gate.specs.Calls.{Gained, case_of}
use Rattle.policy_gate.specs.Admission.{case_with, Admission, IsAdmitted}

-- the gate of the code is that of what was put to it
pub record IsGateOf (g : Gate) (s : Submitted) (d : List ℕ) : Type 0 where
  pub named : option_map (λ r. r.now) g.judged.named ≡ reference_in s.identity.now
  pub digest_is : g.judged.digest.now ≡ digest_text d
  pub signatures : g.signatures ≡ s.signatures
  pub cwd : g.cwd ≡ s.cwd
  pub program : g.program ≡ s.program

same_case : (g : Gate) (s : Submitted) (d : List ℕ) → IsGateOf g s d → (tree : Option Tree) → case_of g tree ≡ case_with s d tree
same_case g s d h tree = rw (h.named, h.digest_is, h.signatures, h.cwd, h.program) refl

pub admit_ends : (g : Gate) (s : Submitted) (d : List ℕ) (tree : Option Tree) (scope : Option (List ℕ)) (list : List Requirement) (result : Result (Unit {0}) GateFault) (old new : Runs) → IsGateOf g s d
    → Gained old new (Ends (case_of g tree) scope list result) → Gained old new (Ends (case_with s d tree) scope list result)
admit_ends g s d tree scope list result old new is h = subst (λ k. Gained old new (Ends k scope list result)) (same_case g s d is tree) h

abbrev Held : {F H : Type 0} → (F → Option Tree) → (H → Runs) → Submitted → List ℕ → F → H → H → Type 0
Held tree runs s d files before after = Gained (runs before) (runs after) (AreHeld (case_with s d (tree files)) s.chosen.list.now)

pub admitted_is : {F H : Type 0} (tree : F → Option Tree) (runs : H → Runs) (a : Admission F H) (s : Submitted) (files : F) (before after : H) → a.digest ≡ digest a.bytes
    → a.submitted ≡ s → a.files ≡ files → a.before ≡ before → a.after ≡ after
    → Gained (runs before) (runs after) (AreHeld (case_with s a.digest (tree files)) s.chosen.list.now) → IsAdmitted tree runs a
admitted_is tree runs a s files before after own is_s is_files is_before is_after h =
    let one = subst (λ d. Held tree runs s d files before after) own h in
    let two = subst (λ k. Held tree runs k (digest a.bytes) files before after) (sym is_s) one in
    let three = subst (λ k. Held tree runs a.submitted (digest a.bytes) k before after) (sym is_files) two in
    let four = subst (λ k. Held tree runs a.submitted (digest a.bytes) a.files k after) (sym is_before) three in
    record { own = own; held = subst (λ k. Held tree runs a.submitted (digest a.bytes) a.files a.before k) (sym is_after) four }

pub ends_digest : (s : Submitted) (bytes d : List ℕ) (tree : Option Tree) (scope : Option (List ℕ)) (list : List Requirement) (result : Result (Unit {0}) GateFault) (old new : Runs) → d ≡ digest bytes
    → Gained old new (Ends (case_with s d tree) scope list result) → Gained old new (Ends (case_with s (digest bytes) tree) scope list result)
ends_digest s bytes d tree scope list result old new e h = subst (λ k. Gained old new (Ends (case_with s k tree) scope list result)) e h
