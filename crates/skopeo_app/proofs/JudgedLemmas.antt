-- A gate where no program is named ends as its list says.
use Rattle.std.proofs.Common.{◌≡◌, ◌≢◌, ◌∙◌, ◌+◌, ◌⊎◌, ◌++◌, ℕ, List, [], ◌∷◌, Option, Some, None, Result, Ok, Err, length, inl, inr, refl, sym, ap, subst, arith}
use Rattle.std.specs.Bool.{⊤}
use Rattle.std.specs.Prelude.{true}
use Rattle.skopeo_outside.specs.Helper.{HelperRun}
use Rattle.policy_file.specs.PolicyLists.{PolicyLists}
use Rattle.policy_file.specs.declared.requirement.IdentityRule.{IdentityRule}
use Rattle.policy_file.specs.declared.requirement.Keys.{Keys}
use Rattle.policy_file.specs.declared.requirement.Requirement.{Requirement}
use Rattle.policy_file.specs.declared.requirement.Requirement.TheVariants.{Accept, Reject, SignedBy, Sigstore}
use Rattle.policy_scope.specs.Chosen.{chosen}
use Rattle.policy_gate.specs.declared.fault.GateFault.{GateFault}
use Rattle.policy_gate.specs.declared.fault.GateFault.TheVariants as gate
use Rattle.policy_gate.specs.declared.fault.Why.{Why}
use Rattle.policy_gate.specs.declared.fault.Why.TheVariants as why
use Rattle.policy_gate.specs.Gate.{Case, HoldsBy, FailsSigned, FailsBy, StopsBy, AreHeld, EndsAt, Ends as GateEnds}
use Rattle.transports.specs.declared.plan.CopyPlan.{CopyPlan}
use Rattle.transports.specs.declared.refusal.Refusal.{Refusal}
use Rattle.transports.specs.declared.refusal.Refusal.TheVariants.{Rejected}
use Rattle.transports.specs.Refusals.{is_memory}
use Rattle.admission.specs.GateTold.{GateTold}
use Rattle.admission.specs.Judged.{Submission, case_in, admission_of, taken_by, judging}
use Rattle.admission.specs.Taken.{TakenImage}
use Rattle.skopeo_app.specs.ByTree.{and_then, unasked, judged, all_judged, judged_by}

unasked_some : (signatures : List (List ℕ)) → signatures ≢ [] → unasked signatures ≡ why.NoVerifier
unasked_some [] some = absurd (some refl)
unasked_some (signature ∷ more) some = refl

module _ (scope : Option (List ℕ)) (c : Case) (none : c.program ≡ None) where
  no_program : {A : Type 0} (program : List ℕ) → c.program ≡ Some program → A
  no_program program named = let no : None ≡ Some program = sym none ∙ named in cc

  -- ---- one requirement

  holds_is : (requirement : Requirement) (part : List HelperRun) (place : ℕ) → HoldsBy c requirement part → judged scope c.signatures place requirement ≡ Ok tt
  holds_is Accept part place h = refl
  holds_is Reject part place h = absurd h
  holds_is (SignedBy keys rule) part place h = no_program h.asker.program h.asking.named
  holds_is Sigstore part place h = absurd h

  signed_is : (keys : Keys) (rule : IdentityRule) (reason : Why) (part : List HelperRun) → FailsSigned c keys rule reason part → unasked c.signatures ≡ reason
  signed_is keys rule why.NoSignature part f = ap unasked f.0
  signed_is keys rule why.NoVerifier part f = unasked_some c.signatures f.0
  signed_is keys rule why.KeyAbsent part f = no_program f.0.0 f.0.1.named
  signed_is keys rule (why.Signatures reasons) part f = no_program f.asker.program f.asking.named
  signed_is keys rule why.Reject part f = absurd f
  signed_is keys rule why.Sigstore part f = absurd f

  fails_is : (requirement : Requirement) (reason : Why) (part : List HelperRun) (place : ℕ) → FailsBy c requirement reason part → judged scope c.signatures place requirement ≡ Err (Rejected scope place reason)
  fails_is Accept reason part place f = absurd f
  fails_is Reject reason part place f = ap (λ w. Err (Rejected scope place w)) (sym f.0)
  fails_is (SignedBy keys rule) reason part place f = ap (λ w. Err (Rejected scope place w)) (signed_is keys rule reason part f)
  fails_is Sigstore reason part place f = ap (λ w. Err (Rejected scope place w)) (sym f.0)

  -- each requirement has its answer
  never_stops : (requirement : Requirement) (fault : GateFault) (part : List HelperRun) → StopsBy c requirement fault part → ⊥
  never_stops Accept fault part f = f
  never_stops Reject fault part f = f
  never_stops (SignedBy keys rule) fault part (inl long) = no_program long.program long.asking.named
  never_stops (SignedBy keys rule) fault part (inr (inl lost)) = no_program lost.program lost.named
  never_stops (SignedBy keys rule) fault part (inr (inr asked)) = no_program asked.asker.program asked.asking.named
  never_stops Sigstore fault part f = f

  -- ---- a list

  all_held : (list : List Requirement) (gained : List HelperRun) (place : ℕ) → AreHeld c list gained → all_judged scope c.signatures place list ≡ Ok tt
  all_held [] gained place h = refl
  all_held (requirement ∷ more) gained place (part, (rest, ((one, others), joined))) =
      ap (λ w. and_then w (λ _. all_judged scope c.signatures (place + 1) more)) (holds_is requirement part place one) ∙ all_held more rest (place + 1) others

  first_fails : (earlier : List Requirement) (requirement : Requirement) (later : List Requirement) (front part : List HelperRun) (from place : ℕ) (reason : Why) → AreHeld c earlier front → FailsBy c requirement reason part → place ≡ from + length earlier
      → all_judged scope c.signatures from (earlier ++ requirement ∷ later) ≡ Err (Rejected scope place reason)
  first_fails [] requirement later front part from place reason held fails is =
      ap (λ w. and_then w (λ _. all_judged scope c.signatures (from + 1) later)) (fails_is requirement reason part from fails) ∙ ap (λ n. Err (Rejected scope n reason)) (let e : from ≡ place = omega (arith, is) in e)
  first_fails (q ∷ earlier) requirement later front part from place reason (own, (rest, ((one, others), joined))) fails is =
      ap (λ w. and_then w (λ _. all_judged scope c.signatures (from + 1) (earlier ++ requirement ∷ later))) (holds_is q own from one)
      ∙ first_fails earlier requirement later rest part (from + 1) place reason others fails (let e : place ≡ from + 1 + length earlier = omega (arith, is) in e)

  list_fails : (list : List Requirement) (place : ℕ) (reason : Why) (gained : List HelperRun) → EndsAt c list place (λ r part. FailsBy c r reason part) gained → all_judged scope c.signatures 1 list ≡ Err (Rejected scope place reason)
  list_fails list place reason gained at =
      ap (λ l. all_judged scope c.signatures 1 l) at.split
      ∙ first_fails at.earlier at.requirement at.later at.front at.part 1 place reason at.held at.ended (let n = at.number in let e : place ≡ 1 + length at.earlier = omega arith in e)

  list_never : {A : Type 0} (list : List Requirement) (place : ℕ) (fault : GateFault) (gained : List HelperRun) → EndsAt c list place (λ r part. StopsBy c r fault part) gained → A
  list_never list place fault gained at = absurd (never_stops at.requirement fault at.part at.ended)

-- ---- the image that is judged

-- it was admitted and its list holds, or refused as the list says, or memory was wanting
abbrev pub JudgedAs : CopyPlan → PolicyLists → Submission → GateTold → GateTold → Result TakenImage Refusal → Type 0
JudgedAs plan policy s a b (Ok it) = (judged_by (chosen policy s.place) s.signatures ≡ Ok tt) × (it ≡ record { from = s.from; image = admission_of plan policy s a b })
JudgedAs plan policy s a b (Err e) = (is_memory e ≡ true) ⊎ (judged_by (chosen policy s.place) s.signatures ≡ Err e)

pub judged_as : (plan : CopyPlan) (policy : PolicyLists) (s : Submission) (a b : GateTold) (r : Result TakenImage Refusal) → plan.verifier ≡ None → judging plan policy s a b r → JudgedAs plan policy s a b r
unfolding judging
judged_as plan policy s a b r none end = subst (JudgedAs plan policy s a b) (sym end.is) (by end.answer end.ends.gained end.ends.holds)
  where
    by : (answer : Result ⊤ GateFault) (gained : List HelperRun) → GateEnds (case_in plan s a.lane.files.tree) (chosen policy s.place).scope (chosen policy s.place).list answer gained → JudgedAs plan policy s a b (taken_by plan policy s a b answer)
    by (Ok done) gained ends = (all_held (chosen policy s.place).scope (case_in plan s a.lane.files.tree) none (chosen policy s.place).list gained 1 ends, refl)
    by (Err (gate.Rejected of place reason)) gained (same, at) =
        inr (list_fails (chosen policy s.place).scope (case_in plan s a.lane.files.tree) none (chosen policy s.place).list place reason gained at ∙ ap (λ v. Err (Rejected v place reason)) (sym same))
    by (Err gate.Memory) gained ends = inl refl
    by (Err (gate.Garbled status front)) gained (place, at) = list_never (chosen policy s.place).scope (case_in plan s a.lane.files.tree) none (chosen policy s.place).list place (gate.Garbled status front) gained at
    by (Err (gate.TooLarge of length)) gained (place, at) = list_never (chosen policy s.place).scope (case_in plan s a.lane.files.tree) none (chosen policy s.place).list place (gate.TooLarge of length) gained at
    by (Err gate.Files) gained (place, at) = list_never (chosen policy s.place).scope (case_in plan s a.lane.files.tree) none (chosen policy s.place).list place gate.Files gained at
    by (Err gate.Helper) gained (place, at) = list_never (chosen policy s.place).scope (case_in plan s a.lane.files.tree) none (chosen policy s.place).list place gate.Helper gained at
