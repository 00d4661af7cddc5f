-- What the calls of the gate gained and answered, as the code holds it.
use Rattle.std.specs.Prelude.{◌≡◌, ◌≢◌, ◌⊎◌, IsErrOf, ℕ, ◌≤◌, List, [], ◌∷◌, Option, Some, None, option_map, Result, Ok, Err}
use Rattle.skopeo_outside.specs.Outside.{Rose}
use Rattle.skopeo_outside.specs.Helper.{HelperRun, Runs}
use Rattle.identity_match.specs.Match.{IsTextMatch}
use Rattle.policy_file.specs.declared.requirement.IdentityRule.{IdentityRule}
use Rattle.policy_gate.specs.declared.fault.Reason.{Reason}
use Rattle.policy_gate.specs.declared.fault.Reason.TheVariants as reason
use Rattle.policy_gate.specs.declared.fault.GateFault.{GateFault}
use Rattle.policy_gate.specs.declared.fault.GateFault.TheVariants as gate
use Rattle.policy_gate.specs.declared.payload.Payload.{Payload}
use Rattle.policy_gate.specs.declared.reason.Judged.{Judged}
use Rattle.policy_gate.specs.declared.verify.Asked.{Asked}
use Rattle.policy_gate.specs.declared.verdict.Verdict.{Verdict}
use Rattle.policy_gate.specs.declared.fault.AskFault.{AskFault}
use Rattle.policy_gate.specs.Verifier.{verifier_input}
use Rattle.policy_gate.specs.Asked.{Gains, IsAsked}
use Rattle.policy_gate.specs.Gate.{Subject, Case, IsVerified, AreRefused, IsRefused, IsAccepted, IsRun, IsUnanswered, Asker, AreQuestions, HoldsBy, FailsBy, StopsBy, WantsBy}
use Rattle.policy_gate.specs.declared.gate.Gate.{Gate}
use Rattle.policy_gate.specs.declared.keys.KeysRead.{KeysRead}
use Rattle.policy_gate.specs.declared.keys.KeysRead.TheVariants.{Absent, TooLarge, Read}
use Rattle.policy_gate.specs.declared.fault.Why.{Why}
use Rattle.policy_gate.specs.declared.fault.Why.TheVariants as why
use Rattle.policy_file.specs.declared.requirement.Requirement.{Requirement}
use Rattle.skopeo_outside.specs.Tree.{Tree}
use Rattle.policy_gate.specs.Faults.{gate_fault}

-- what is judged, as the code holds it
abbrev pub subject_of : Judged → Subject
subject_of j = record { named = option_map (λ r. r.now) j.named; digest = j.digest.now }

-- the first reason of a payload, if it is not accepted
abbrev pub IsPayloadReason : Subject → IdentityRule → Payload → Option Reason → Type 0
IsPayloadReason s rule payload None = IsTextMatch rule s.named payload.reference × (payload.digest ≡ s.digest)
IsPayloadReason s rule payload (Some (reason.Identity text)) = (payload.reference ≡ text) × (IsTextMatch rule s.named text → ⊥)
IsPayloadReason s rule payload (Some (reason.Digest text)) = (payload.digest ≡ text) × (IsTextMatch rule s.named payload.reference × (text ≢ s.digest))
IsPayloadReason s rule payload (Some _) = ⊥

-- how asking for the signatures ends: one is accepted, each has its reason, or the last question had no verdict
abbrev pub IsAskedFor : Subject → IdentityRule → Asker → List (List ℕ) → Result (Option (List Reason)) GateFault → List HelperRun → Type 0
IsAskedFor s rule a signatures (Ok None) gained = IsVerified s rule a signatures gained
IsAskedFor s rule a signatures (Ok (Some reasons)) gained = AreRefused s rule a signatures gained reasons
IsAskedFor s rule a signatures (Err fault) gained = IsUnanswered s rule a signatures fault gained ⊎ ((fault ≡ gate.Memory) × AreQuestions a signatures gained)

-- what a call gained, over which this holds
pub record Gained (old new : Runs) (P : List HelperRun → Type 0) : Type 0 where
  pub gained : List HelperRun
  pub told : Gains gained old new
  pub holds : P gained

-- the counts never fall, and a fault of an object is answered only where its count rose
pub record GateCause {A : Type 0} (files_old files_new helper_old helper_new : ℕ) (result : Result A GateFault) : Type 0 where
  pub files_later : files_old ≤ files_new
  pub files_fault : IsErrOf result gate.Files → Rose files_old files_new
  pub helper_later : helper_old ≤ helper_new
  pub helper_fault : IsErrOf result gate.Helper → Rose helper_old helper_new

-- the same of the program alone
pub record HelperCause {A : Type 0} (old new : ℕ) (result : Result A GateFault) : Type 0 where
  pub later : old ≤ new
  pub fault : IsErrOf result gate.Helper → Rose old new
  pub own : IsErrOf result gate.Files → ⊥

-- whom to ask, as the code holds it
abbrev pub asker_of : Asked → Asker
asker_of a = record { program = a.program.now; keys = a.keys.now }

-- a verdict was given, and accepted
pub record IsPassed (s : Subject) (rule : IdentityRule) (a : Asker) (signature : List ℕ) (run : HelperRun) : Type 0 where
  pub verdict : Verdict
  pub asked : IsRun a signature verdict run
  pub accepted : IsAccepted s rule verdict

-- the question had no verdict
pub record IsMute (a : Asker) (signature : List ℕ) (fault : GateFault) (gained : List HelperRun) : Type 0 where
  pub how : AskFault
  pub asked : IsAsked a.program (verifier_input a.keys signature) (Err how) gained
  pub same : fault ≡ gate_fault how

-- how asking for one signature ends
abbrev pub IsAskedOnce : Subject → IdentityRule → Asker → List ℕ → Result (Option Reason) GateFault → List HelperRun → Type 0
IsAskedOnce s rule a signature (Ok None) gained = (run : HelperRun) × (IsPassed s rule a signature run × (gained ≡ run ∷ []))
IsAskedOnce s rule a signature (Ok (Some reason)) gained = (run : HelperRun) × (IsRefused s rule a signature run reason × (gained ≡ run ∷ []))
IsAskedOnce s rule a signature (Err fault) gained = IsMute a signature fault gained ⊎ ((fault ≡ gate.Memory) × AreQuestions a (signature ∷ []) gained)

-- a fault of the gate and its first reason, as the end of asking for the signatures
abbrev pub why_of : Result (Option (List Reason)) GateFault → Result (Option Why) GateFault
why_of (Ok None) = Ok None
why_of (Ok (Some reasons)) = Ok (Some (why.Signatures reasons))
why_of (Err fault) = Err fault

-- how a `signedBy` ends by what was read of its keys
abbrev pub IsReadEnd : Subject → IdentityRule → List (List ℕ) → List ℕ → KeysRead → Result (Option Why) GateFault → List HelperRun → Type 0
IsReadEnd s rule signatures program Absent result part = (result ≡ Ok (Some why.KeyAbsent)) × (part ≡ [])
IsReadEnd s rule signatures program (TooLarge of length) result part = (result ≡ Err (gate.TooLarge of length)) × (part ≡ [])
IsReadEnd s rule signatures program (Read keys) result part =
    (how : Result (Option (List Reason)) GateFault) × (IsAskedFor s rule (record { program = program; keys = keys }) signatures how part × (result ≡ why_of how))

-- how one requirement ends: it holds, or has its first reason, or got no answer
abbrev pub IsJudged : Case → Requirement → Result (Option Why) GateFault → List HelperRun → Type 0
IsJudged c requirement (Ok None) part = HoldsBy c requirement part
IsJudged c requirement (Ok (Some reason)) part = FailsBy c requirement reason part
IsJudged c requirement (Err fault) part = StopsBy c requirement fault part ⊎ ((fault ≡ gate.Memory) × WantsBy c requirement part)

-- the case of a gate over files, as the code holds it
abbrev pub case_of : Gate → Option Tree → Case
case_of g tree = record {
  subject = subject_of g.judged;
  signatures = g.signatures.now;
  program = option_map (λ p. p.now) g.program;
  cwd = g.cwd.now;
  tree = tree;
}
