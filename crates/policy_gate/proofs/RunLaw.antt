-- Runs that are gained one after the other.
use Rattle.std.proofs.Common.{◌≡◌, ◌<◌, ◌+◌, ℕ, List, [], ◌∷◌, ◌++◌, length, take, drop, get_or, Some, None, Result, Ok, Err, refl, sym, ap, subst, ◌∙◌, inl, inr, append_assoc, append-nil}
use Rattle.std.specs.Option.{option_map}
use Rattle.std.proofs.lemmas.List.{take_more, drop_more, take-append-drop}
use Rattle.skopeo_outside.specs.Helper.{HelperRun, Runs}
use Rattle.policy_file.specs.declared.requirement.IdentityRule.{IdentityRule}
use Rattle.policy_gate.specs.declared.fault.GateFault.{GateFault}
use Rattle.policy_gate.specs.declared.fault.GateFault.TheVariants as gate
use Rattle.policy_gate.specs.declared.fault.Reason.{Reason}
use Rattle.policy_gate.specs.Asked.{Gains, IsEnded, IsOneAtMost}
use Rattle.policy_gate.specs.declared.fault.AskFault.{AskFault}
use Rattle.policy_gate.specs.declared.verdict.Verdict.{Verdict}
use Rattle.policy_gate.specs.Verifier.{verifier_input}
use Rattle.policy_gate.specs.Gate.{Subject, Asker, AreQuestions, IsRun, IsRefused, AreRefused, IsReached}
use Rattle.policy_gate.specs.Calls.{Gained, IsAskedOnce, IsAskedFor}

-- ---- gains

pub gains-none : (old : Runs) → Gains [] old old
gains-none None = refl
gains-none (Some runs) = ap Some (sym (append-nil runs))

gains-both : (old : Runs) (g h : List HelperRun) → Gains (g ++ h) old (option_map (λ runs. runs ++ h) (option_map (λ runs. runs ++ g) old))
gains-both None g h = refl
gains-both (Some runs) g h = ap Some (append_assoc runs g h)

pub gains-then : (old mid new : Runs) (g h : List HelperRun) → Gains g old mid → Gains h mid new → Gains (g ++ h) old new
gains-then old mid new g h first second = second ∙ ap (option_map (λ runs. runs ++ h)) first ∙ gains-both old g h

pub gained-then : (old mid new : Runs) (P Q R : List HelperRun → Type 0) → Gained old mid P → Gained mid new Q → ((g h : List HelperRun) → P g → Q h → R (g ++ h)) → Gained old new R
gained-then old mid new P Q R first second join = record {
  gained = first.gained ++ second.gained;
  told = gains-then old mid new first.gained second.gained first.told second.told;
  holds = join first.gained second.gained first.holds second.holds;
}

pub gained-same : (old : Runs) (P : List HelperRun → Type 0) → P [] → Gained old old P
gained-same old P h = record { gained = []; told = gains-none old; holds = h }

-- ---- a list is what stands before a place, its item, and what stands behind

pub split_at : {X : Type 0} (xs : List X) (i : ℕ) (d : X) → i < length xs → xs ≡ take i xs ++ get_or xs i d ∷ drop (i + 1) xs
split_at xs i d lt = sym (take-append-drop i xs) ∙ ap (λ t. take i xs ++ t) (drop_more xs i d lt)

-- ---- signatures that were refused

refused-snoc : (s : Subject) (rule : IdentityRule) (a : Asker) (signatures : List (List ℕ)) (runs : List HelperRun) (reasons : List Reason) (x : List ℕ) (run : HelperRun) (reason : Reason)
    → AreRefused s rule a signatures runs reasons → IsRefused s rule a x run reason → AreRefused s rule a (signatures ++ x ∷ []) (runs ++ run ∷ []) (reasons ++ reason ∷ [])
refused-snoc s rule a [] [] [] x run reason h k = (k, tt)
refused-snoc s rule a (y ∷ ys) (r ∷ rs) (w ∷ ws) x run reason h k = (h.0, refused-snoc s rule a ys rs ws x run reason h.1 k)
refused-snoc s rule a [] [] (w ∷ ws) x run reason h k = absurd h
refused-snoc s rule a [] (r ∷ rs) ws x run reason h k = absurd h
refused-snoc s rule a (y ∷ ys) [] ws x run reason h k = absurd h
refused-snoc s rule a (y ∷ ys) (r ∷ rs) [] x run reason h k = absurd h

abbrev SoFar : Subject → IdentityRule → Asker → List (List ℕ) → ℕ → List Reason → List HelperRun → Type 0
SoFar s rule a signatures i reasons runs = AreRefused s rule a (take i signatures) runs reasons

one_more : (s : Subject) (rule : IdentityRule) (a : Asker) (signatures : List (List ℕ)) (i : ℕ) (x : List ℕ) (reasons : List Reason) (reason : Reason) → i < length signatures → x ≡ get_or signatures i x
    → (g h : List HelperRun) → SoFar s rule a signatures i reasons g → IsAskedOnce s rule a x (Ok (Some reason)) h → SoFar s rule a signatures (i + 1) (reasons ++ reason ∷ []) (g ++ h)
one_more s rule a signatures i x reasons reason lt e g h before (run, (refused, is)) =
    let taken : take (i + 1) signatures ≡ take i signatures ++ x ∷ [] = take_more signatures i x lt ∙ ap (λ t. take i signatures ++ t ∷ []) (sym e) in
    let snoc = refused-snoc s rule a (take i signatures) g reasons x run reason before refused in
    rw (taken, is) snoc

pub refused_more : (s : Subject) (rule : IdentityRule) (a : Asker) (signatures : List (List ℕ)) (i : ℕ) (x : List ℕ) (reasons more : List Reason) (reason : Reason) (old mid new : Runs)
    → i < length signatures → x ≡ get_or signatures i x → more ≡ reasons ++ reason ∷ [] → Gained old mid (λ runs. AreRefused s rule a (take i signatures) runs reasons) → Gained mid new (IsAskedOnce s rule a x (Ok (Some reason)))
    → Gained old new (λ runs. AreRefused s rule a (take (i + 1) signatures) runs more)
refused_more s rule a signatures i x reasons more reason old mid new lt e pushed first second =
    rw pushed (gained-then old mid new (SoFar s rule a signatures i reasons) (IsAskedOnce s rule a x (Ok (Some reason))) (SoFar s rule a signatures (i + 1) (reasons ++ reason ∷ [])) first second (one_more s rule a signatures i x reasons reason lt e))

-- ---- first questions

run_asks : (a : Asker) (signature : List ℕ) (verdict : Verdict) (run : HelperRun) → IsRun a signature verdict run → (run.program ≡ a.program) × (run.input ≡ verifier_input a.keys signature)
run_asks a signature verdict run (status, (bytes, (said, is))) = (ap (λ (r : HelperRun). r.program) is, ap (λ (r : HelperRun). r.input) is)

-- first questions for some signatures, and for more of them
questions_front : (a : Asker) (signatures more : List (List ℕ)) (runs : List HelperRun) → AreQuestions a signatures runs → AreQuestions a (signatures ++ more) runs
questions_front a signatures more [] h = tt
questions_front a [] more (run ∷ runs) h = absurd h
questions_front a (x ∷ xs) more (run ∷ runs) h = (h.0, (h.1.0, questions_front a xs more runs h.1.1))

-- behind signatures that were refused
questions_behind : (s : Subject) (rule : IdentityRule) (a : Asker) (signatures more : List (List ℕ)) (runs next : List HelperRun) (reasons : List Reason)
    → AreRefused s rule a signatures runs reasons → AreQuestions a more next → AreQuestions a (signatures ++ more) (runs ++ next)
questions_behind s rule a [] more [] next [] h q = q
questions_behind s rule a (x ∷ xs) more (run ∷ runs) next (w ∷ ws) h q =
    let asks = run_asks a x h.0.0 run h.0.1.0 in
    (asks.0, (asks.1, questions_behind s rule a xs more runs next ws h.1 q))
questions_behind s rule a [] more [] next (w ∷ ws) h q = absurd h
questions_behind s rule a [] more (run ∷ runs) next ws h q = absurd h
questions_behind s rule a (x ∷ xs) more [] next ws h q = absurd h
questions_behind s rule a (x ∷ xs) more (run ∷ runs) next [] h q = absurd h

pub questions_reached : (s : Subject) (rule : IdentityRule) (a : Asker) (signatures : List (List ℕ)) (signature : List ℕ) (before next : List HelperRun)
    → IsReached s rule a signatures signature before → AreQuestions a (signature ∷ []) next → AreQuestions a signatures (before ++ next)
questions_reached s rule a signatures signature before next is q =
    subst (λ l. AreQuestions a l (before ++ next)) (sym is.split)
    (questions_behind s rule a is.earlier (signature ∷ is.later) before next is.reasons is.refused (questions_front a (signature ∷ []) is.later next q))

pub questions_refused : (s : Subject) (rule : IdentityRule) (a : Asker) (signatures : List (List ℕ)) (runs : List HelperRun) (reasons : List Reason) → AreRefused s rule a signatures runs reasons → AreQuestions a signatures runs
questions_refused s rule a signatures runs reasons h =
    let all : AreQuestions a (signatures ++ []) (runs ++ []) = questions_behind s rule a signatures [] runs [] reasons h tt in
    rw (append-nil signatures, append-nil runs) at all

-- one question at most
pub question_one : (a : Asker) (signature : List ℕ) (gained : List HelperRun) → IsOneAtMost a.program (verifier_input a.keys signature) gained → AreQuestions a (signature ∷ []) gained
question_one a signature gained (inl none) = subst (λ l. AreQuestions a (signature ∷ []) l) (sym none) tt
question_one a signature gained (inr (how, one)) = subst (λ l. AreQuestions a (signature ∷ []) l) (sym one) (refl, (refl, tt))

reached : (s : Subject) (rule : IdentityRule) (a : Asker) (signatures : List (List ℕ)) (i : ℕ) (x : List ℕ) (reasons : List Reason) (g : List HelperRun) → i < length signatures → x ≡ get_or signatures i x
    → SoFar s rule a signatures i reasons g → IsReached s rule a signatures x g
reached s rule a signatures i x reasons g lt e before = record {
  earlier = take i signatures;
  later = drop (i + 1) signatures;
  split = split_at signatures i x lt ∙ ap (λ t. take i signatures ++ t ∷ drop (i + 1) signatures) (sym e);
  reasons = reasons;
  refused = before;
}

passed : (s : Subject) (rule : IdentityRule) (a : Asker) (signatures : List (List ℕ)) (i : ℕ) (x : List ℕ) (reasons : List Reason) → i < length signatures → x ≡ get_or signatures i x
    → (g h : List HelperRun) → SoFar s rule a signatures i reasons g → IsAskedOnce s rule a x (Ok None) h → IsAskedFor s rule a signatures (Ok None) (g ++ h)
passed s rule a signatures i x reasons lt e g h before (run, (once, is)) = record {
  signature = x;
  before = g;
  reached = reached s rule a signatures i x reasons g lt e before;
  run = run;
  verdict = once.verdict;
  asked = once.asked;
  accepted = once.accepted;
  joined = ap (λ t. g ++ t) is;
}

pub accepted_at : (s : Subject) (rule : IdentityRule) (a : Asker) (signatures : List (List ℕ)) (i : ℕ) (x : List ℕ) (reasons : List Reason) (old mid new : Runs)
    → i < length signatures → x ≡ get_or signatures i x → Gained old mid (λ runs. AreRefused s rule a (take i signatures) runs reasons) → Gained mid new (IsAskedOnce s rule a x (Ok None)) → Gained old new (IsAskedFor s rule a signatures (Ok None))
accepted_at s rule a signatures i x reasons old mid new lt e first second =
    gained-then old mid new (SoFar s rule a signatures i reasons) (IsAskedOnce s rule a x (Ok None)) (IsAskedFor s rule a signatures (Ok None)) first second (passed s rule a signatures i x reasons lt e)

muted : (s : Subject) (rule : IdentityRule) (a : Asker) (signatures : List (List ℕ)) (i : ℕ) (x : List ℕ) (reasons : List Reason) (fault : GateFault) → i < length signatures → x ≡ get_or signatures i x
    → (g h : List HelperRun) → SoFar s rule a signatures i reasons g → IsAskedOnce s rule a x (Err fault) h → IsAskedFor s rule a signatures (Err fault) (g ++ h)
muted s rule a signatures i x reasons fault lt e g h before (inl mute) = inl (record {
  signature = x;
  before = g;
  reached = reached s rule a signatures i x reasons g lt e before;
  last = h;
  how = mute.how;
  asked = mute.asked;
  same = mute.same;
  joined = refl;
})
muted s rule a signatures i x reasons fault lt e g h before (inr memory) =
    inr (memory.0, questions_reached s rule a signatures x g h (reached s rule a signatures i x reasons g lt e before) memory.1)

pub muted_at : (s : Subject) (rule : IdentityRule) (a : Asker) (signatures : List (List ℕ)) (i : ℕ) (x : List ℕ) (reasons : List Reason) (fault : GateFault) (old mid new : Runs)
    → i < length signatures → x ≡ get_or signatures i x → Gained old mid (λ runs. AreRefused s rule a (take i signatures) runs reasons) → Gained mid new (IsAskedOnce s rule a x (Err fault)) → Gained old new (IsAskedFor s rule a signatures (Err fault))
muted_at s rule a signatures i x reasons fault old mid new lt e first second =
    gained-then old mid new (SoFar s rule a signatures i reasons) (IsAskedOnce s rule a x (Err fault)) (IsAskedFor s rule a signatures (Err fault)) first second (muted s rule a signatures i x reasons fault lt e)

wanted : (s : Subject) (rule : IdentityRule) (a : Asker) (signatures : List (List ℕ)) (i : ℕ) (x : List ℕ) (reasons : List Reason) (reason : Reason) → i < length signatures → x ≡ get_or signatures i x
    → (g h : List HelperRun) → SoFar s rule a signatures i reasons g → IsAskedOnce s rule a x (Ok (Some reason)) h → IsAskedFor s rule a signatures (Err gate.Memory) (g ++ h)
wanted s rule a signatures i x reasons reason lt e g h before (run, (refused, is)) =
    let asks = run_asks a x refused.0 run refused.1.0 in
    let one : AreQuestions a (x ∷ []) h = subst (λ l. AreQuestions a (x ∷ []) l) (sym is) (asks.0, (asks.1, tt)) in
    inr (refl, questions_reached s rule a signatures x g h (reached s rule a signatures i x reasons g lt e before) one)

pub wanted_at : (s : Subject) (rule : IdentityRule) (a : Asker) (signatures : List (List ℕ)) (i : ℕ) (x : List ℕ) (reasons : List Reason) (reason : Reason) (old mid new : Runs)
    → i < length signatures → x ≡ get_or signatures i x → Gained old mid (λ runs. AreRefused s rule a (take i signatures) runs reasons) → Gained mid new (IsAskedOnce s rule a x (Ok (Some reason))) → Gained old new (IsAskedFor s rule a signatures (Err gate.Memory))
wanted_at s rule a signatures i x reasons reason old mid new lt e first second =
    gained-then old mid new (SoFar s rule a signatures i reasons) (IsAskedOnce s rule a x (Ok (Some reason))) (IsAskedFor s rule a signatures (Err gate.Memory)) first second (wanted s rule a signatures i x reasons reason lt e)
