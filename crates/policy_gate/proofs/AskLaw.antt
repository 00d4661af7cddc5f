-- What a question gained.
use Rattle.std.proofs.Common.{◌≡◌, ◌≤◌, ℕ, ℤ, nat_lt, ◌+◌, length, List, [], ◌∷◌, ◌++◌, append-nil, Option, Some, None, Result, Ok, Err, refl, sym, ap, subst, ◌∙◌, inl, inr}
use Rattle.std.specs.Option.{option_map}
use Rattle.std.proofs.lemmas.Bool.{cases_Bool}
use Rattle.skopeo_outside.specs.Helper.{HelperRun, Runs, ended_run, failed_run, GainsRun, GainsRunOrNot}
use Rattle.image_ref.specs.Calls.{Answers}
use Rattle.policy_gate.specs.declared.verdict.Verdict.{Verdict}
use Rattle.policy_gate.specs.declared.fault.AskFault.{AskFault}
use Rattle.policy_gate.specs.declared.fault.AskFault.TheVariants.{Fault, Garbled, TooLarge, Memory}
use Rattle.policy_gate.specs.Verifier.{answer_of, answer_limit, or_garbled}
use Rattle.policy_gate.specs.Asked.{IsAsked, Asks, AskCause}

-- no answer says that the program failed
garbled_no_fault : (status : ℤ) (bytes : List ℕ) (found : Option Verdict) → or_garbled status bytes found ≡ Err Fault → ⊥
garbled_no_fault status bytes (Some verdict) h = cc h
garbled_no_fault status bytes None h = cc h

pub answer_no_fault : (status : ℤ) (bytes : List ℕ) → answer_of status bytes ≡ Err Fault → ⊥
unfolding answer_of
answer_no_fault status bytes h =
    elim (cases_Bool (nat_lt answer_limit (length bytes))) [
      | inl long ↦ let e : Err (TooLarge (answer_limit + 1)) ≡ Err Fault = rw long at h in cc e
      | inr fits ↦ garbled_no_fault status bytes _ (rw fits at h)
    ]

ended_asked : (program input : List ℕ) (gained : List HelperRun) (status : ℤ) (bytes : List ℕ) (result : Result Verdict AskFault) → result ≡ answer_of status bytes → gained ≡ ended_run program input status bytes ∷ [] → IsAsked program input result gained
ended_asked program input gained status bytes (Ok verdict) e is = (status, (bytes, (sym e, is)))
ended_asked program input gained status bytes (Err (Garbled s front)) e is = (status, (bytes, (sym e, is)))
ended_asked program input gained status bytes (Err (TooLarge n)) e is = (status, (bytes, (sym e, is)))
ended_asked program input gained status bytes (Err Memory) e is = inr (Some (record { status = status; answer = bytes }), is)
ended_asked program input gained status bytes (Err Fault) e is = absurd (answer_no_fault status bytes (sym e))

memory_asked : (program input : List ℕ) (gained : List HelperRun) (status : ℤ) (bytes : List ℕ) (result : Result Verdict AskFault) → result ≡ Err Memory → gained ≡ ended_run program input status bytes ∷ [] → IsAsked program input result gained
memory_asked program input gained status bytes result e is =
    subst (λ r. IsAsked program input r gained) (sym e) (inr (Some (record { status = status; answer = bytes }), is))

pub asked_ended : (program input : List ℕ) (status : ℤ) (bytes : List ℕ) (old new : Runs) (result : Result Verdict AskFault) → GainsRun (ended_run program input status bytes) old new
    → Answers Memory result (answer_of status bytes) → Asks program input old new result
asked_ended program input status bytes old new result ran (inl e) =
    record { gained = ended_run program input status bytes ∷ []; told = ran; asked = memory_asked program input _ status bytes result e refl }
asked_ended program input status bytes old new result ran (inr e) =
    record { gained = ended_run program input status bytes ∷ []; told = ran; asked = ended_asked program input _ status bytes result e refl }

pub cause_ended : (before now : ℕ) (status : ℤ) (bytes : List ℕ) (result : Result Verdict AskFault) → before ≤ now → Answers Memory result (answer_of status bytes) → AskCause before now result
cause_ended before now status bytes result later (inl e) = record { later = later; fault = λ f. let both : Err Fault ≡ Err Memory = sym f ∙ e in absurd (cc both) }
cause_ended before now status bytes result later (inr e) = record { later = later; fault = λ f. absurd (answer_no_fault status bytes (sym e ∙ f)) }

none_gained : (old : Runs) → old ≡ option_map (λ runs. runs ++ []) old
none_gained None = refl
none_gained (Some runs) = ap Some (sym (append-nil runs))

pub asked_wanted : (program input : List ℕ) (old new : Runs) → GainsRunOrNot (failed_run program input) old new → Asks program input old new (Err Memory)
asked_wanted program input old new (inl ran) = record { gained = failed_run program input ∷ []; told = ran; asked = inr (None, refl) }
asked_wanted program input old new (inr same) = record { gained = []; told = same ∙ none_gained old; asked = inl refl }
