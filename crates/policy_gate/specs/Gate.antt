-- Whether a list of requirements holds of a manifest, over the runs of the program that judges signatures
-- (containers-policy.json(5), "Policy Requirements").
--
-- Each requirement has its part of the runs, and the parts are joined in order. `signedBy` asks the program for the
-- signatures in order, up to the first that is accepted; without one each signature has its reason.
use Rattle.std.specs.Prelude.{◌≡◌, ◌≢◌, ◌⊎◌, ℕ, ◌+◌, ℤ, List, [], ◌∷◌, ◌++◌, length, Option, Some, None, Result, Ok, Err, ⊤}
use Rattle.skopeo_outside.specs.Helper.{HelperRun, ended_run}
use Rattle.skopeo_outside.specs.Tree.{Tree}
use Rattle.image_ref.specs.Reference.{Reference}
use Rattle.policy_file.specs.declared.requirement.IdentityRule.{IdentityRule}
use Rattle.policy_file.specs.declared.requirement.Keys.{Keys}
use Rattle.policy_file.specs.declared.requirement.Requirement.{Requirement}
use Rattle.policy_file.specs.declared.requirement.Requirement.TheVariants.{Accept, Reject, SignedBy, Sigstore}
use Rattle.identity_match.specs.Match.{IsTextMatch}
use Rattle.policy_gate.specs.declared.fault.AskFault.{AskFault}
use Rattle.policy_gate.specs.declared.fault.GateFault.{GateFault}
use Rattle.policy_gate.specs.declared.fault.GateFault.TheVariants as gate
use Rattle.policy_gate.specs.declared.fault.PayloadFault.TheVariants.{Member}
use Rattle.policy_gate.specs.declared.fault.Reason.{Reason}
use Rattle.policy_gate.specs.declared.fault.Reason.TheVariants as reason
use Rattle.policy_gate.specs.declared.fault.Why.{Why}
use Rattle.policy_gate.specs.declared.fault.Why.TheVariants as why
use Rattle.policy_gate.specs.declared.keys.KeysRead.{KeysRead}
use Rattle.policy_gate.specs.declared.keys.KeysRead.TheVariants.{Absent, TooLarge, Read}
use Rattle.policy_gate.specs.declared.payload.Payload.{Payload}
use Rattle.policy_gate.specs.declared.verdict.Verdict.{Verdict}
use Rattle.policy_gate.specs.declared.verdict.Verdict.TheVariants.{Good, Bad}
use Rattle.policy_gate.specs.Payload.{payload_in}
use Rattle.policy_gate.specs.Verifier.{verifier_input, answer_of}
use Rattle.policy_gate.specs.Asked.{IsAsked}
use Rattle.policy_gate.specs.Faults.{gate_fault}
use Rattle.policy_gate.specs.KeyFiles.{AreRead, AreFiles}

-- what is judged: the image as the user named it, and the digest text of the manifest's bytes
pub record Subject : Type 0 where
  pub named : Option Reference
  pub digest : List ℕ

-- a payload that names the image by the rule, and the manifest by its digest
pub record IsSigned (s : Subject) (rule : IdentityRule) (bytes : List ℕ) : Type 0 where
  pub payload : Payload
  pub read : payload_in bytes ≡ Ok payload
  pub identity : IsTextMatch rule s.named payload.reference
  pub digest : payload.digest ≡ s.digest

-- the verdict is good, and so is the payload
abbrev pub IsAccepted : Subject → IdentityRule → Verdict → Type 0
IsAccepted s rule (Good bytes) = IsSigned s rule bytes
IsAccepted s rule (Bad text) = ⊥

-- the payload names what the rule does not take
pub record IsMisnamed (s : Subject) (rule : IdentityRule) (bytes text : List ℕ) : Type 0 where
  pub payload : Payload
  pub read : payload_in bytes ≡ Ok payload
  pub signed : payload.reference ≡ text
  pub other : IsTextMatch rule s.named text → ⊥

-- the payload names the image, and another manifest
pub record IsMismatched (s : Subject) (rule : IdentityRule) (bytes text : List ℕ) : Type 0 where
  pub payload : Payload
  pub read : payload_in bytes ≡ Ok payload
  pub identity : IsTextMatch rule s.named payload.reference
  pub signed : payload.digest ≡ text
  pub other : text ≢ s.digest

-- the first reason of a verdict that is not accepted
abbrev pub IsReason : Subject → IdentityRule → Verdict → Reason → Type 0
IsReason s rule (Bad text) (reason.Bad told) = told ≡ text
IsReason s rule (Good bytes) (reason.Payload pointer) = payload_in bytes ≡ Err (Member pointer)
IsReason s rule (Good bytes) (reason.Identity text) = IsMisnamed s rule bytes text
IsReason s rule (Good bytes) (reason.Digest text) = IsMismatched s rule bytes text
IsReason s rule _ _ = ⊥

-- who is asked: the program, with these keys
pub record Asker : Type 0 where
  pub program : List ℕ
  pub keys : List (List ℕ)

-- the run of a signature and the verdict that it gave
abbrev pub IsRun : Asker → List ℕ → Verdict → HelperRun → Type 0
IsRun a signature verdict run =
    (status : ℤ) × ((bytes : List ℕ) × ((answer_of status bytes ≡ Ok verdict) × (run ≡ ended_run a.program (verifier_input a.keys signature) status bytes)))

-- the runs are the first questions for the signatures, in order
abbrev pub AreQuestions : Asker → List (List ℕ) → List HelperRun → Type 0
AreQuestions a signatures [] = Unit {0}
AreQuestions a [] (run ∷ runs) = ⊥
AreQuestions a (signature ∷ more) (run ∷ runs) =
    (run.program ≡ a.program) × ((run.input ≡ verifier_input a.keys signature) × AreQuestions a more runs)

-- the run gave a verdict for which this is the reason
abbrev pub IsRefused : Subject → IdentityRule → Asker → List ℕ → HelperRun → Reason → Type 0
IsRefused s rule a signature run reason = (verdict : Verdict) × (IsRun a signature verdict run × IsReason s rule verdict reason)

-- one run and one reason for each signature
abbrev pub AreRefused : Subject → IdentityRule → Asker → List (List ℕ) → List HelperRun → List Reason → Type 0
AreRefused s rule a [] [] [] = Unit {0}
AreRefused s rule a (signature ∷ more) (run ∷ runs) (reason ∷ reasons) =
    IsRefused s rule a signature run reason × AreRefused s rule a more runs reasons
AreRefused s rule a _ _ _ = ⊥

-- signatures, the one that comes after some that were refused, and their runs
pub record IsReached (s : Subject) (rule : IdentityRule) (a : Asker) (signatures : List (List ℕ)) (signature : List ℕ) (before : List HelperRun) : Type 0 where
  pub earlier : List (List ℕ)
  pub later : List (List ℕ)
  pub split : signatures ≡ earlier ++ signature ∷ later
  pub reasons : List Reason
  pub refused : AreRefused s rule a earlier before reasons

-- the last run gave a verdict that is accepted
pub record IsVerified (s : Subject) (rule : IdentityRule) (a : Asker) (signatures : List (List ℕ)) (gained : List HelperRun) : Type 0 where
  pub signature : List ℕ
  pub before : List HelperRun
  pub reached : IsReached s rule a signatures signature before
  pub run : HelperRun
  pub verdict : Verdict
  pub asked : IsRun a signature verdict run
  pub accepted : IsAccepted s rule verdict
  pub joined : gained ≡ before ++ run ∷ []

-- the last question had no verdict
pub record IsUnanswered (s : Subject) (rule : IdentityRule) (a : Asker) (signatures : List (List ℕ)) (fault : GateFault) (gained : List HelperRun) : Type 0 where
  pub signature : List ℕ
  pub before : List HelperRun
  pub reached : IsReached s rule a signatures signature before
  pub last : List HelperRun
  pub how : AskFault
  pub asked : IsAsked a.program (verifier_input a.keys signature) (Err how) last
  pub same : fault ≡ gate_fault how
  pub joined : gained ≡ before ++ last

-- a gate: what is judged, the signatures, the program if one is named, the folder that key paths are seen from, and the
-- tree of the files, where they tell it
pub record Case : Type 0 where
  pub subject : Subject
  pub signatures : List (List ℕ)
  pub program : Option (List ℕ)
  pub cwd : List ℕ
  pub tree : Option Tree

-- there is a signature, a program is named, and so much was read of the keys
pub record IsAsking (c : Case) (keys : Keys) (program : List ℕ) (read : KeysRead) : Type 0 where
  pub some : c.signatures ≢ []
  pub named : c.program ≡ Some program
  pub stands : AreRead c.cwd c.tree keys read

-- the keys are read, and the signatures end so
pub record IsAskedBy (c : Case) (keys : Keys) (P : Asker → Type 0) : Type 0 where
  pub asker : Asker
  pub asking : IsAsking c keys asker.program (Read asker.keys)
  pub ended : P asker

-- a requirement holds over its part of the runs
abbrev pub HoldsBy : Case → Requirement → List HelperRun → Type 0
HoldsBy c Accept part = part ≡ []
HoldsBy c Reject part = ⊥
HoldsBy c (SignedBy keys rule) part = IsAskedBy c keys (λ a. IsVerified c.subject rule a c.signatures part)
HoldsBy c Sigstore part = ⊥

-- the first reason of a `signedBy` that does not hold
abbrev pub FailsSigned : Case → Keys → IdentityRule → Why → List HelperRun → Type 0
FailsSigned c keys rule why.NoSignature part = (c.signatures ≡ []) × (part ≡ [])
FailsSigned c keys rule why.NoVerifier part = (c.signatures ≢ []) × ((c.program ≡ None) × (part ≡ []))
FailsSigned c keys rule why.KeyAbsent part = ((program : List ℕ) × IsAsking c keys program Absent) × (part ≡ [])
FailsSigned c keys rule (why.Signatures reasons) part = IsAskedBy c keys (λ a. AreRefused c.subject rule a c.signatures part reasons)
FailsSigned c keys rule _ part = ⊥

-- a requirement does not hold, with its first reason, over its part of the runs
abbrev pub FailsBy : Case → Requirement → Why → List HelperRun → Type 0
FailsBy c Accept reason part = ⊥
FailsBy c Reject reason part = (reason ≡ why.Reject) × (part ≡ [])
FailsBy c (SignedBy keys rule) reason part = FailsSigned c keys rule reason part
FailsBy c Sigstore reason part = (reason ≡ why.Sigstore) × (part ≡ [])

-- the fault says what is too long
abbrev pub IsLong : KeysRead → GateFault → Type 0
IsLong (TooLarge of length) fault = fault ≡ gate.TooLarge of length
IsLong Absent fault = ⊥
IsLong (Read keys) fault = ⊥

-- the keys are too long
pub record HasLongKeys (c : Case) (keys : Keys) (fault : GateFault) (part : List HelperRun) : Type 0 where
  pub program : List ℕ
  pub read : KeysRead
  pub asking : IsAsking c keys program read
  pub long : IsLong read fault
  pub none : part ≡ []

-- the files failed where the keys were to be read from them
pub record HasLostKeys (c : Case) (keys : Keys) (fault : GateFault) (part : List HelperRun) : Type 0 where
  pub program : List ℕ
  pub some : c.signatures ≢ []
  pub named : c.program ≡ Some program
  pub files : AreFiles keys
  pub lost : fault ≡ gate.Files
  pub none : part ≡ []

-- a requirement got no answer: its keys are too long or the files failed, before any run; or the last run gave no verdict
abbrev pub StopsBy : Case → Requirement → GateFault → List HelperRun → Type 0
StopsBy c (SignedBy keys rule) fault part =
    HasLongKeys c keys fault part ⊎ (HasLostKeys c keys fault part
    ⊎ IsAskedBy c keys (λ a. IsUnanswered c.subject rule a c.signatures fault part))
StopsBy c _ fault part = ⊥

-- every requirement of a list holds, each over its part of the runs, joined in order
abbrev pub AreHeld : Case → List Requirement → List HelperRun → Type 0
AreHeld c [] gained = gained ≡ []
AreHeld c (requirement ∷ more) gained =
    (part : List HelperRun) × ((rest : List HelperRun) × ((HoldsBy c requirement part × AreHeld c more rest) × (gained ≡ part ++ rest)))

-- the first requirement after some that hold, at its place from 1, ends so over its part
pub record EndsAt (c : Case) (list : List Requirement) (place : ℕ) (P : Requirement → List HelperRun → Type 0) (gained : List HelperRun) : Type 0 where
  pub earlier : List Requirement
  pub requirement : Requirement
  pub later : List Requirement
  pub split : list ≡ earlier ++ requirement ∷ later
  pub number : place ≡ length earlier + 1
  pub front : List HelperRun
  pub held : AreHeld c earlier front
  pub part : List HelperRun
  pub ended : P requirement part
  pub joined : gained ≡ front ++ part

-- memory was wanting at a requirement: of a `signedBy` first questions were asked, of another requirement none
abbrev pub WantsBy : Case → Requirement → List HelperRun → Type 0
WantsBy c (SignedBy keys rule) part = (part ≡ []) ⊎ IsAskedBy c keys (λ a. AreQuestions a c.signatures part)
WantsBy c _ part = part ≡ []

-- memory was wanting: before any question, or at a requirement behind some that hold
abbrev pub IsWanting : Case → List Requirement → List HelperRun → Type 0
IsWanting c list gained = (gained ≡ []) ⊎ ((place : ℕ) × EndsAt c list place (λ r part. WantsBy c r part) gained)

-- how a gate ends: every requirement holds, or the first that does not has its reason, or the first without an answer its fault
abbrev pub Ends : Case → Option (List ℕ) → List Requirement → Result ⊤ GateFault → List HelperRun → Type 0
Ends c scope list (Ok done) gained = AreHeld c list gained
Ends c scope list (Err (gate.Rejected of place reason)) gained = (of ≡ scope) × EndsAt c list place (λ r part. FailsBy c r reason part) gained
Ends c scope list (Err gate.Memory) gained = IsWanting c list gained
Ends c scope list (Err fault) gained = (place : ℕ) × EndsAt c list place (λ r part. StopsBy c r fault part) gained
