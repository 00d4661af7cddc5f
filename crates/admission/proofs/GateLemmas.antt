-- What the gate says of an image that is put to it.
use Rattle.std.proofs.Common.{◌≡◌, ◌≤◌, ◌∙◌, ℕ, List, [], ◌∷◌, ◌++◌, append-nil, All, Option, Some, None, option_map, Result, Ok, Err, inl, refl, sym, ap, subst, arith}
use Rattle.std.proofs.lemmas.List.Elements.{All-nil, All-cons}
use Rattle.skopeo_outside.specs.Tree.{Tree}
use Rattle.skopeo_outside.specs.Helper.{HelperRun, Runs}
use Rattle.image_ref.specs.declared.place.Place.{Place}
use Rattle.policy_file.specs.declared.requirement.Requirement.{Requirement}
use Rattle.policy_gate.specs.declared.admission.Submitted.{Submitted}
use Rattle.policy_gate.specs.declared.fault.GateFault.{GateFault}
use Rattle.policy_gate.specs.declared.fault.GateFault.TheVariants as gate
use Rattle.policy_gate.specs.Asked.{Gains}
use Rattle.policy_gate.specs.Gate.{Case, Ends}
use Rattle.policy_gate.specs.Questions.{AskOnly}
use Rattle.policy_gate.specs.Calls.{Gained, GateCause}
use Rattle.policy_gate.specs.Admission.{gate_case, scope_in, done}
use Rattle.transports.specs.declared.plan.CopyPlan.{CopyPlan}
use Rattle.admission.specs.Judged.{IsOfProgram, AsksOnly}
use Rattle.admission.specs.Calls.{case_at}

-- ---- without a run

gains-none : (old : Runs) → Gains [] old old
gains-none None = refl
gains-none (Some runs) = ap Some (sym (append-nil runs))

-- want of memory before any question
pub wants_at_once : (c : Case) (scope : Option (List ℕ)) (list : List Requirement) (old : Runs) → Gained old old (Ends c scope list (Err gate.Memory))
wants_at_once c scope list old = record { gained = []; told = gains-none old; holds = inl refl }

-- nothing was asked
pub asks_none : (plan : CopyPlan) (old : Runs) → AsksOnly plan old old
asks_none plan old = record { gained = []; told = gains-none old; holds = All-nil (IsOfProgram plan.verifier) }

-- ---- the fault of an answer

fault_or : {A : Type 0} → GateFault → Result A GateFault → GateFault
fault_or d (Ok x) = d
fault_or d (Err fault) = fault

same_fault : {A : Type 0} (r : Result A GateFault) (fault other : GateFault) → r ≡ Err fault → r ≡ Err other → fault ≡ other
unfolding fault_or
same_fault r fault other one two = ap (fault_or fault) (sym one ∙ two)

no_fault : {A : Type 0} (r : Result A GateFault) (x : A) (fault : GateFault) → r ≡ Ok x → r ≡ Err fault → ⊥
no_fault r x fault one two = cc (one, two)

-- want of memory blames no object
pub cause_same : {A : Type 0} (files helper : ℕ) → GateCause {A = A} files files helper helper (Err gate.Memory)
cause_same files helper = record {
  files_later = omega arith;
  files_fault = λ e. (let same : gate.Memory ≡ gate.Files = same_fault (Err gate.Memory) gate.Memory gate.Files refl e in absurd (cc same));
  helper_later = omega arith;
  helper_fault = λ e. (let same : gate.Memory ≡ gate.Helper = same_fault (Err gate.Memory) gate.Memory gate.Helper refl e in absurd (cc same));
}

-- an answer with another value
pub cause_ok : {A B : Type 0} (fo fn ho hn : ℕ) (x : A) (y : B) → GateCause fo fn ho hn (Ok x) → GateCause fo fn ho hn (Ok y)
cause_ok fo fn ho hn x y cause = record {
  files_later = cause.files_later;
  files_fault = λ e. absurd (no_fault (Ok y) y gate.Files refl e);
  helper_later = cause.helper_later;
  helper_fault = λ e. absurd (no_fault (Ok y) y gate.Helper refl e);
}

-- the same fault
pub cause_err : {A B : Type 0} (fo fn ho hn : ℕ) (fault : GateFault) → GateCause {A = A} fo fn ho hn (Err fault) → GateCause {A = B} fo fn ho hn (Err fault)
cause_err fo fn ho hn fault cause = record {
  files_later = cause.files_later;
  files_fault = λ e. cause.files_fault (ap (λ f. Err f) (same_fault (Err fault) fault gate.Files refl e));
  helper_later = cause.helper_later;
  helper_fault = λ e. cause.helper_fault (ap (λ f. Err f) (same_fault (Err fault) fault gate.Helper refl e));
}

-- ---- what is put to the gate

same_case : (put : Submitted) (plan : CopyPlan) (place : Place) (manifest : List ℕ) (signatures : List (List ℕ)) (tree : Option Tree) → put.identity.now ≡ place → put.signatures.now ≡ signatures → put.cwd.now ≡ plan.cwd
    → option_map (λ p. p.now) put.program ≡ plan.verifier → gate_case put manifest tree ≡ case_at plan place manifest signatures tree
same_case put plan place manifest signatures tree identity is cwd program = rw (identity, is, cwd, program) refl

pub put_ends : (put : Submitted) (plan : CopyPlan) (place : Place) (manifest : List ℕ) (signatures : List (List ℕ)) (tree : Option Tree) (scope : Option (List ℕ)) (list : List Requirement) (result : Result (Unit {0}) GateFault) (old new : Runs)
    → put.identity.now ≡ place → put.signatures.now ≡ signatures → put.cwd.now ≡ plan.cwd → option_map (λ p. p.now) put.program ≡ plan.verifier
    → Gained old new (Ends (gate_case put manifest tree) scope list result) → Gained old new (Ends (case_at plan place manifest signatures tree) scope list result)
put_ends put plan place manifest signatures tree scope list result old new identity is cwd program h =
    subst (λ c. Gained old new (Ends c scope list result)) (same_case put plan place manifest signatures tree identity is cwd program) h

-- each question was put to the program of the case
only_program : (c : Case) (runs : List HelperRun) → AskOnly c runs → All (IsOfProgram c.program) runs
only_program c [] asked = All-nil (IsOfProgram c.program)
only_program c (run ∷ runs) asked = All-cons (IsOfProgram c.program) run runs asked.0.program (only_program c runs asked.1)

pub case_asks : (k : Case) (plan : CopyPlan) (old new : Runs) → k.program ≡ plan.verifier → Gained old new (AskOnly k) → AsksOnly plan old new
case_asks k plan old new program asked = record {
  gained = asked.gained;
  told = asked.told;
  holds = subst (λ p. All (IsOfProgram p) asked.gained) program (only_program k asked.gained asked.holds);
}
