-- Every run of a gate is a question.
use Rattle.std.proofs.Common.{◌≡◌, ◌⊎◌, ℕ, ℤ, List, [], ◌∷◌, ◌++◌, Option, Some, None, Result, Ok, Err, refl, sym, ap, subst, ◌∙◌, inl, inr, append_assoc, append-nil}
use Rattle.skopeo_outside.specs.Helper.{HelperRun, RunEnd, Runs, ended_run, failed_run}
use Rattle.policy_file.specs.declared.requirement.IdentityRule.{IdentityRule}
use Rattle.policy_file.specs.declared.requirement.Keys.{Keys}
use Rattle.policy_file.specs.declared.requirement.Requirement.{Requirement}
use Rattle.policy_file.specs.declared.requirement.Requirement.TheVariants.{Accept, Reject, SignedBy, Sigstore}
use Rattle.policy_gate.specs.declared.fault.AskFault.{AskFault}
use Rattle.policy_gate.specs.declared.fault.AskFault.TheVariants as ask
use Rattle.policy_gate.specs.declared.fault.GateFault.{GateFault}
use Rattle.policy_gate.specs.declared.fault.GateFault.TheVariants as gate
use Rattle.policy_gate.specs.declared.fault.Reason.{Reason}
use Rattle.policy_gate.specs.declared.fault.Why.{Why}
use Rattle.policy_gate.specs.declared.fault.Why.TheVariants as why
use Rattle.policy_gate.specs.declared.keys.KeysRead.TheVariants.{Read}
use Rattle.policy_gate.specs.declared.verdict.Verdict.{Verdict}
use Rattle.policy_gate.specs.Verifier.{verifier_input}
use Rattle.policy_gate.specs.Asked.{IsEnded, IsOneAtMost, IsAsked}
use Rattle.policy_gate.specs.Gate.{Subject, Case, Asker, IsRun, IsRefused, AreRefused, AreQuestions, IsReached, IsVerified, IsUnanswered, IsAsking, IsAskedBy, HoldsBy, FailsBy, FailsSigned, StopsBy, WantsBy, AreHeld, EndsAt, Ends}
use Rattle.policy_gate.specs.Questions.{IsQuestion, AskOnly}
use Rattle.policy_gate.specs.Calls.{Gained}

only-append : (c : Case) (g h : List HelperRun) → AskOnly c g → AskOnly c h → AskOnly c (g ++ h)
only-append c [] h p q = q
only-append c (run ∷ g) h p q = (p.0, only-append c g h p.1 q)

only-none : (c : Case) (g : List HelperRun) → g ≡ [] → AskOnly c g
only-none c [] e = tt
only-none c (run ∷ g) e = absurd (cc e)

only-joined : (c : Case) (gained g h : List HelperRun) → gained ≡ g ++ h → AskOnly c g → AskOnly c h → AskOnly c gained
only-joined c gained g h e p q = subst (λ k. AskOnly c k) (sym e) (only-append c g h p q)

-- ---- one question

question : (c : Case) (keys : Keys) (a : Asker) (front : List (List ℕ)) (signature : List ℕ) (tail : List (List ℕ)) (run : HelperRun) → IsAsking c keys a.program (Read a.keys)
    → c.signatures ≡ front ++ signature ∷ tail → run.program ≡ a.program → run.input ≡ verifier_input a.keys signature → IsQuestion c run
question c keys a front signature tail run asking split program input = record {
  program = asking.named ∙ ap Some (sym program);
  requirement = keys;
  keys = a.keys;
  read = asking.stands;
  earlier = front;
  signature = signature;
  later = tail;
  one_of = split;
  input = input;
}

run_asks : (c : Case) (keys : Keys) (a : Asker) (front : List (List ℕ)) (signature : List ℕ) (tail : List (List ℕ)) (verdict : Verdict) (run : HelperRun) → IsAsking c keys a.program (Read a.keys)
    → c.signatures ≡ front ++ signature ∷ tail → IsRun a signature verdict run → IsQuestion c run
run_asks c keys a front signature tail verdict run asking split (status, (bytes, (says, is))) =
    question c keys a front signature tail run asking split (ap (λ (r : HelperRun). r.program) is) (ap (λ (r : HelperRun). r.input) is)

refused_ask : (c : Case) (keys : Keys) (rule : IdentityRule) (a : Asker) (front rest tail : List (List ℕ)) (runs : List HelperRun) (reasons : List Reason) → IsAsking c keys a.program (Read a.keys)
    → c.signatures ≡ front ++ (rest ++ tail) → AreRefused c.subject rule a rest runs reasons → AskOnly c runs
refused_ask c keys rule a front [] tail [] [] asking split h = tt
refused_ask c keys rule a front [] tail [] (reason ∷ reasons) asking split h = absurd h
refused_ask c keys rule a front [] tail (run ∷ runs) reasons asking split h = absurd h
refused_ask c keys rule a front (x ∷ rest) tail [] reasons asking split h = absurd h
refused_ask c keys rule a front (x ∷ rest) tail (run ∷ runs) [] asking split h = absurd h
refused_ask c keys rule a front (x ∷ rest) tail (run ∷ runs) (reason ∷ reasons) asking split ((verdict, (asked, is)), more) = (
  run_asks c keys a front x (rest ++ tail) verdict run asking split asked,
  refused_ask c keys rule a (front ++ x ∷ []) rest tail runs reasons asking (split ∙ sym (append_assoc front (x ∷ []) (rest ++ tail))) more,
)

questions_ask : (c : Case) (keys : Keys) (a : Asker) (front rest : List (List ℕ)) (runs : List HelperRun) → IsAsking c keys a.program (Read a.keys)
    → c.signatures ≡ front ++ rest → AreQuestions a rest runs → AskOnly c runs
questions_ask c keys a front rest [] asking split h = tt
questions_ask c keys a front [] (run ∷ runs) asking split h = absurd h
questions_ask c keys a front (x ∷ rest) (run ∷ runs) asking split (program, (input, more)) = (
  question c keys a front x rest run asking split program input,
  questions_ask c keys a (front ++ x ∷ []) rest runs asking (split ∙ sym (append_assoc front (x ∷ []) rest)) more,
)

-- ---- all questions for a requirement

reached_ask : (c : Case) (keys : Keys) (rule : IdentityRule) (a : Asker) (signature : List ℕ) (before : List HelperRun) → IsAsking c keys a.program (Read a.keys)
    → IsReached c.subject rule a c.signatures signature before → AskOnly c before
reached_ask c keys rule a signature before asking r = refused_ask c keys rule a [] r.earlier (signature ∷ r.later) before r.reasons asking r.split r.refused

verified_ask : (c : Case) (keys : Keys) (rule : IdentityRule) (a : Asker) (part : List HelperRun) → IsAsking c keys a.program (Read a.keys) → IsVerified c.subject rule a c.signatures part → AskOnly c part
verified_ask c keys rule a part asking v =
    only-joined c part v.before (v.run ∷ []) v.joined (reached_ask c keys rule a v.signature v.before asking v.reached)
    (run_asks c keys a v.reached.earlier v.signature v.reached.later v.verdict v.run asking v.reached.split v.asked, tt)

last_asks : (c : Case) (keys : Keys) (a : Asker) (front : List (List ℕ)) (signature : List ℕ) (tail : List (List ℕ)) (how : Option RunEnd) (last : List HelperRun) → IsAsking c keys a.program (Read a.keys)
    → c.signatures ≡ front ++ signature ∷ tail → last ≡ record { program = a.program; input = verifier_input a.keys signature; ended = how } ∷ [] → AskOnly c last
last_asks c keys a front signature tail how last asking split is =
    subst (λ k. AskOnly c k) (sym is) (question c keys a front signature tail (record { program = a.program; input = verifier_input a.keys signature; ended = how }) asking split refl refl, tt)

ended_asks : (c : Case) (keys : Keys) (a : Asker) (front : List (List ℕ)) (signature : List ℕ) (tail : List (List ℕ)) (said : Result Verdict AskFault) (last : List HelperRun) → IsAsking c keys a.program (Read a.keys)
    → c.signatures ≡ front ++ signature ∷ tail → IsEnded a.program (verifier_input a.keys signature) said last → AskOnly c last
ended_asks c keys a front signature tail said last asking split (status, (bytes, (says, is))) =
    last_asks c keys a front signature tail (Some (record { status = status; answer = bytes })) last asking split is

one_asks : (c : Case) (keys : Keys) (a : Asker) (front : List (List ℕ)) (signature : List ℕ) (tail : List (List ℕ)) (last : List HelperRun) → IsAsking c keys a.program (Read a.keys)
    → c.signatures ≡ front ++ signature ∷ tail → IsOneAtMost a.program (verifier_input a.keys signature) last → AskOnly c last
one_asks c keys a front signature tail last asking split (inl none) = only-none c last none
one_asks c keys a front signature tail last asking split (inr (how, is)) = last_asks c keys a front signature tail how last asking split is

mute_asks : (c : Case) (keys : Keys) (a : Asker) (front : List (List ℕ)) (signature : List ℕ) (tail : List (List ℕ)) (how : AskFault) (last : List HelperRun) → IsAsking c keys a.program (Read a.keys)
    → c.signatures ≡ front ++ signature ∷ tail → IsAsked a.program (verifier_input a.keys signature) (Err how) last → AskOnly c last
mute_asks c keys a front signature tail ask.Fault last asking split h = last_asks c keys a front signature tail None last asking split h
mute_asks c keys a front signature tail ask.Memory last asking split h = one_asks c keys a front signature tail last asking split h
mute_asks c keys a front signature tail (ask.Garbled status bytes) last asking split h = ended_asks c keys a front signature tail (Err (ask.Garbled status bytes)) last asking split h
mute_asks c keys a front signature tail (ask.TooLarge length) last asking split h = ended_asks c keys a front signature tail (Err (ask.TooLarge length)) last asking split h

unanswered_ask : (c : Case) (keys : Keys) (rule : IdentityRule) (a : Asker) (fault : GateFault) (part : List HelperRun) → IsAsking c keys a.program (Read a.keys)
    → IsUnanswered c.subject rule a c.signatures fault part → AskOnly c part
unanswered_ask c keys rule a fault part asking u =
    only-joined c part u.before u.last u.joined (reached_ask c keys rule a u.signature u.before asking u.reached)
    (mute_asks c keys a u.reached.earlier u.signature u.reached.later u.how u.last asking u.reached.split u.asked)

-- ---- requirements

holds_ask : (c : Case) (r : Requirement) (part : List HelperRun) → HoldsBy c r part → AskOnly c part
holds_ask c Accept part h = only-none c part h
holds_ask c Reject part h = absurd h
holds_ask c (SignedBy keys rule) part h = verified_ask c keys rule h.asker part h.asking h.ended
holds_ask c Sigstore part h = absurd h

signed_ask : (c : Case) (keys : Keys) (rule : IdentityRule) (reason : Why) (part : List HelperRun) → FailsSigned c keys rule reason part → AskOnly c part
signed_ask c keys rule why.NoSignature part h = only-none c part h.1
signed_ask c keys rule why.NoVerifier part h = only-none c part h.1.1
signed_ask c keys rule why.KeyAbsent part h = only-none c part h.1
signed_ask c keys rule (why.Signatures reasons) part h = refused_ask c keys rule h.asker [] c.signatures [] part reasons h.asking (sym (append-nil c.signatures)) h.ended
signed_ask c keys rule why.Reject part h = absurd h
signed_ask c keys rule why.Sigstore part h = absurd h

fails_ask : (c : Case) (r : Requirement) (reason : Why) (part : List HelperRun) → FailsBy c r reason part → AskOnly c part
fails_ask c Accept reason part h = absurd h
fails_ask c Reject reason part h = only-none c part h.1
fails_ask c (SignedBy keys rule) reason part h = signed_ask c keys rule reason part h
fails_ask c Sigstore reason part h = only-none c part h.1

stops_ask : (c : Case) (r : Requirement) (fault : GateFault) (part : List HelperRun) → StopsBy c r fault part → AskOnly c part
stops_ask c Accept fault part h = absurd h
stops_ask c Reject fault part h = absurd h
stops_ask c (SignedBy keys rule) fault part (inl long) = only-none c part long.none
stops_ask c (SignedBy keys rule) fault part (inr (inl lost)) = only-none c part lost.none
stops_ask c (SignedBy keys rule) fault part (inr (inr mute)) = unanswered_ask c keys rule mute.asker fault part mute.asking mute.ended
stops_ask c Sigstore fault part h = absurd h

wants_ask : (c : Case) (r : Requirement) (part : List HelperRun) → WantsBy c r part → AskOnly c part
wants_ask c Accept part h = only-none c part h
wants_ask c Reject part h = only-none c part h
wants_ask c (SignedBy keys rule) part (inl none) = only-none c part none
wants_ask c (SignedBy keys rule) part (inr asked) = questions_ask c keys asked.asker [] c.signatures part asked.asking refl asked.ended
wants_ask c Sigstore part h = only-none c part h

-- ---- the whole list

held_ask : (c : Case) (list : List Requirement) (gained : List HelperRun) → AreHeld c list gained → AskOnly c gained
held_ask c [] gained h = only-none c gained h
held_ask c (r ∷ list) gained (part, (rest, ((one, more), is))) = only-joined c gained part rest is (holds_ask c r part one) (held_ask c list rest more)

at_asks : (c : Case) (list : List Requirement) (place : ℕ) (P : Requirement → List HelperRun → Type 0) (gained : List HelperRun) → ((r : Requirement) (part : List HelperRun) → P r part → AskOnly c part)
    → EndsAt c list place P gained → AskOnly c gained
at_asks c list place P gained each e = only-joined c gained e.front e.part e.joined (held_ask c e.earlier e.front e.held) (each e.requirement e.part e.ended)

stopped_ask : (c : Case) (list : List Requirement) (fault : GateFault) (gained : List HelperRun) → ((place : ℕ) × EndsAt c list place (λ r part. StopsBy c r fault part) gained) → AskOnly c gained
stopped_ask c list fault gained (place, e) = at_asks c list place (λ r part. StopsBy c r fault part) gained (λ r part. stops_ask c r fault part) e

ends_ask : (c : Case) (scope : Option (List ℕ)) (list : List Requirement) (result : Result (Unit {0}) GateFault) (gained : List HelperRun) → Ends c scope list result gained → AskOnly c gained
ends_ask c scope list (Ok done) gained h = held_ask c list gained h
ends_ask c scope list (Err (gate.Rejected of place reason)) gained (is, e) = at_asks c list place (λ r part. FailsBy c r reason part) gained (λ r part. fails_ask c r reason part) e
ends_ask c scope list (Err gate.Memory) gained (inl none) = only-none c gained none
ends_ask c scope list (Err gate.Memory) gained (inr (place, e)) = at_asks c list place (λ r part. WantsBy c r part) gained (λ r part. wants_ask c r part) e
ends_ask c scope list (Err (gate.Garbled status bytes)) gained h = stopped_ask c list (gate.Garbled status bytes) gained h
ends_ask c scope list (Err (gate.TooLarge what length)) gained h = stopped_ask c list (gate.TooLarge what length) gained h
ends_ask c scope list (Err gate.Files) gained h = stopped_ask c list gate.Files gained h
ends_ask c scope list (Err gate.Helper) gained h = stopped_ask c list gate.Helper gained h

pub ends_asks : (c : Case) (scope : Option (List ℕ)) (list : List Requirement) (result : Result (Unit {0}) GateFault) (old new : Runs) → Gained old new (Ends c scope list result) → Gained old new (AskOnly c)
ends_asks c scope list result old new g = record { gained = g.gained; told = g.told; holds = ends_ask c scope list result g.gained g.holds }
