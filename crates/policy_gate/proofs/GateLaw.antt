-- Requirements that are judged one after the other.
use Rattle.std.proofs.Common.{◌≡◌, ◌≢◌, ◌<◌, ◌≤◌, ◌+◌, ◌⊎◌, ℕ, true, false, ◌==◌, List, [], ◌∷◌, ◌++◌, length, take, drop, get_or, Option, Some, None, option_map, Result, Ok, Err, refl, sym, ap, subst, ◌∙◌, inl, inr, append_assoc, append-nil, arith}
use Rattle.std.proofs.lemmas.List.{take_more, length-take-le}
use Rattle.skopeo_outside.specs.Helper.{HelperRun, Runs}
use Rattle.skopeo_outside.specs.Tree.{Tree}
use Rattle.policy_file.specs.declared.requirement.IdentityRule.{IdentityRule}
use Rattle.policy_file.specs.declared.requirement.Keys.{Keys}
use Rattle.policy_file.specs.declared.requirement.Requirement.{Requirement}
use Rattle.policy_file.specs.declared.requirement.Requirement.TheVariants.{Accept, Reject, SignedBy, Sigstore}
use Rattle.policy_gate.specs.declared.fault.AskFault.{AskFault}
use Rattle.policy_gate.specs.declared.fault.AskFault.TheVariants as ask
use Rattle.policy_gate.specs.declared.fault.GateFault.{GateFault}
use Rattle.policy_gate.specs.declared.fault.GateFault.TheVariants as gate
use Rattle.policy_gate.specs.declared.fault.Reason.{Reason}
use Rattle.policy_gate.specs.declared.fault.Why.{Why}
use Rattle.policy_gate.specs.declared.fault.Why.TheVariants as why
use Rattle.policy_gate.specs.declared.gate.Gate.{Gate}
use Rattle.policy_gate.specs.declared.keys.KeysRead.{KeysRead}
use Rattle.policy_gate.specs.declared.keys.KeysRead.TheVariants.{Absent, TooLarge, Read}
use Rattle.policy_gate.specs.Faults.{gate_fault}
use Rattle.policy_gate.specs.KeyFiles.{AreRead, AreFiles}
use Rattle.policy_gate.specs.Gate.{Subject, Case, Asker, IsAsking, IsLong, IsUnanswered, AreQuestions, HoldsBy, FailsBy, FailsSigned, StopsBy, WantsBy, AreHeld, EndsAt, Ends}
use Rattle.policy_gate.specs.Calls.{Gained, IsAskedFor, IsReadEnd, IsJudged, why_of, case_of, subject_of}
use Rattle.policy_gate.specs.Asked.{IsAsked}
use Rattle.policy_gate.specs.Verifier.{verifier_input}
use Rattle.policy_gate.proofs.RunLaw.{gained-then, gained-same, split_at, questions_reached, questions_refused, question_one}

gained-map : (old new : Runs) (P Q : List HelperRun → Type 0) → Gained old new P → ((runs : List HelperRun) → P runs → Q runs) → Gained old new Q
gained-map old new P Q g h = record { gained = g.gained; told = g.told; holds = h g.gained g.holds }

-- ---- one requirement

asked_judged : (c : Case) (keys : Keys) (rule : IdentityRule) (a : Asker) (how : Result (Option (List Reason)) GateFault) (part : List HelperRun) → IsAsking c keys a.program (Read a.keys)
    → IsAskedFor c.subject rule a c.signatures how part → IsJudged c (SignedBy keys rule) (why_of how) part
asked_judged c keys rule a (Ok None) part asking h = record { asker = a; asking = asking; ended = h }
asked_judged c keys rule a (Ok (Some reasons)) part asking h = record { asker = a; asking = asking; ended = h }
asked_judged c keys rule a (Err fault) part asking (inl h) = inl (inr (inr (record { asker = a; asking = asking; ended = h })))
asked_judged c keys rule a (Err fault) part asking (inr h) = inr (h.0, inr (record { asker = a; asking = asking; ended = h.1 }))

read_judged : (c : Case) (keys : Keys) (rule : IdentityRule) (program : List ℕ) (read : KeysRead) (result : Result (Option Why) GateFault) (part : List HelperRun) → IsAsking c keys program read
    → IsReadEnd c.subject rule c.signatures program read result part → IsJudged c (SignedBy keys rule) result part
read_judged c keys rule program Absent result part asking (e, none) =
    subst (λ r. IsJudged c (SignedBy keys rule) r part) (sym e) ((program, asking), none)
read_judged c keys rule program (TooLarge of n) result part asking (e, none) =
    subst (λ r. IsJudged c (SignedBy keys rule) r part) (sym e) (inl (inl (record { program = program; read = TooLarge of n; asking = asking; long = refl; none = none })))
read_judged c keys rule program (Read ks) result part asking (how, (h, e)) =
    subst (λ r. IsJudged c (SignedBy keys rule) r part) (sym e) (asked_judged c keys rule (record { program = program; keys = ks }) how part asking h)

pub read_unanswered : (s : Subject) (rule : IdentityRule) (signatures : List (List ℕ)) (program : List ℕ) (keys : List (List ℕ)) (fault : GateFault) (old new : Runs)
    → Gained old new (IsAskedFor s rule (record { program = program; keys = keys }) signatures (Err fault)) → Gained old new (IsReadEnd s rule signatures program (Read keys) (Err fault))
read_unanswered s rule signatures program keys fault old new h =
    gained-map old new (IsAskedFor s rule (record { program = program; keys = keys }) signatures (Err fault)) (IsReadEnd s rule signatures program (Read keys) (Err fault)) h
    (λ part k. (Err fault, (k, refl)))

pub signed_read : (g : Gate) (tree : Option Tree) (keys : Keys) (rule : IdentityRule) (program : List ℕ) (read : KeysRead) (result : Result (Option Why) GateFault) (old new : Runs)
    → g.signatures.now ≢ [] → option_map (λ p. p.now) g.program ≡ Some program → AreRead g.cwd.now tree keys read
    → Gained old new (IsReadEnd (subject_of g.judged) rule g.signatures.now program read result)
    → Gained old new (IsJudged (case_of g tree) (SignedBy keys rule) result)
signed_read g tree keys rule program read result old new some named stands ended =
    gained-map old new (IsReadEnd (subject_of g.judged) rule g.signatures.now program read result) (IsJudged (case_of g tree) (SignedBy keys rule) result) ended
    (λ part h. read_judged (case_of g tree) keys rule program read result part (record { some = some; named = named; stands = stands }) h)

pub files_failed : (g : Gate) (tree : Option Tree) (keys : Keys) (rule : IdentityRule) (program : List ℕ) (old : Runs)
    → g.signatures.now ≢ [] → option_map (λ p. p.now) g.program ≡ Some program → AreFiles keys
    → Gained old old (IsJudged (case_of g tree) (SignedBy keys rule) (Err gate.Files))
files_failed g tree keys rule program old some named files =
    gained-same old (IsJudged (case_of g tree) (SignedBy keys rule) (Err gate.Files))
    (inl (inr (inl (record { program = program; some = some; named = named; files = files; lost = refl; none = refl }))))

wants_none : (c : Case) (r : Requirement) → WantsBy c r []
wants_none c Accept = refl
wants_none c Reject = refl
wants_none c (SignedBy keys rule) = inl refl
wants_none c Sigstore = refl

pub memory_failed : (g : Gate) (tree : Option Tree) (r : Requirement) (old : Runs) → Gained old old (IsJudged (case_of g tree) r (Err gate.Memory))
memory_failed g tree r old = gained-same old (IsJudged (case_of g tree) r (Err gate.Memory)) (inr (refl, wants_none (case_of g tree) r))

-- ---- the list

held-snoc : (c : Case) (list : List Requirement) (front : List HelperRun) (r : Requirement) (part : List HelperRun) → AreHeld c list front → HoldsBy c r part → AreHeld c (list ++ r ∷ []) (front ++ part)
held-snoc c [] front r part h k = (part, ([], ((k, refl), ap (λ t. t ++ part) h ∙ sym (append-nil part))))
held-snoc c (x ∷ xs) front r part (p, (rest, ((hx, hs), e))) k =
    (p, (rest ++ part, ((hx, held-snoc c xs rest r part hs k), ap (λ t. t ++ part) e ∙ append_assoc p rest part)))

lt-le : (a b : ℕ) → a < b → a ≤ b
lt-le a b h = omega (arith, h)

abbrev HeldTo : Case → List Requirement → ℕ → List HelperRun → Type 0
HeldTo c list i runs = AreHeld c (take i list) runs

one_held : (c : Case) (list : List Requirement) (i : ℕ) (r : Requirement) → i < length list → r ≡ get_or list i r → (g h : List HelperRun) → HeldTo c list i g → HoldsBy c r h → HeldTo c list (i + 1) (g ++ h)
one_held c list i r lt e g h before holds =
    let taken : take (i + 1) list ≡ take i list ++ r ∷ [] = take_more list i r lt ∙ ap (λ t. take i list ++ t ∷ []) (sym e) in
    rw taken (held-snoc c (take i list) g r h before holds)

at_place : (c : Case) (list : List Requirement) (i : ℕ) (r : Requirement) (P : Requirement → List HelperRun → Type 0) → i < length list → r ≡ get_or list i r
    → (g h : List HelperRun) → HeldTo c list i g → P r h → EndsAt c list (i + 1) P (g ++ h)
at_place c list i r P lt e g h before ended = record {
  earlier = take i list;
  requirement = r;
  later = drop (i + 1) list;
  split = split_at list i r lt ∙ ap (λ t. take i list ++ t ∷ drop (i + 1) list) (sym e);
  number = ap (λ n. n + 1) (sym (length-take-le i list (lt-le i (length list) lt)));
  front = g;
  held = before;
  part = h;
  ended = ended;
  joined = refl;
}

long_no_reject : (read : KeysRead) (of : Option (List ℕ)) (n : ℕ) (reason : Why) → IsLong read (gate.Rejected of n reason) → ⊥
long_no_reject Absent of n reason h = h
long_no_reject (TooLarge w m) of n reason h = cc h
long_no_reject (Read ks) of n reason h = h

ask_no_reject : (how : AskFault) (of : Option (List ℕ)) (n : ℕ) (reason : Why) → gate.Rejected of n reason ≡ gate_fault how → ⊥
ask_no_reject ask.Fault of n reason h = cc h
ask_no_reject (ask.Garbled s b) of n reason h = cc h
ask_no_reject (ask.TooLarge m) of n reason h = cc h
ask_no_reject ask.Memory of n reason h = cc h

stops_no_reject : (c : Case) (r : Requirement) (of : Option (List ℕ)) (n : ℕ) (reason : Why) (part : List HelperRun) → StopsBy c r (gate.Rejected of n reason) part → ⊥
stops_no_reject c (SignedBy keys rule) of n reason part (inl long) = long_no_reject long.read of n reason long.long
stops_no_reject c (SignedBy keys rule) of n reason part (inr (inl files)) = let e = files.lost in cc e
stops_no_reject c (SignedBy keys rule) of n reason part (inr (inr asked)) = ask_no_reject asked.ended.how of n reason asked.ended.same
stops_no_reject c Accept of n reason part h = h
stops_no_reject c Reject of n reason part h = h
stops_no_reject c Sigstore of n reason part h = h

long_no_memory : (read : KeysRead) → IsLong read gate.Memory → ⊥
long_no_memory Absent h = h
long_no_memory (TooLarge w m) h = cc h
long_no_memory (Read ks) h = h

mute_wants : (a : Asker) (signature : List ℕ) (how : AskFault) (last : List HelperRun) → gate.Memory ≡ gate_fault how → IsAsked a.program (verifier_input a.keys signature) (Err how) last → AreQuestions a (signature ∷ []) last
mute_wants a signature ask.Memory last e h = question_one a signature last h
mute_wants a signature ask.Fault last e h = absurd (cc e)
mute_wants a signature (ask.Garbled s b) last e h = absurd (cc e)
mute_wants a signature (ask.TooLarge m) last e h = absurd (cc e)

unanswered_wants : (s : Subject) (rule : IdentityRule) (a : Asker) (signatures : List (List ℕ)) (part : List HelperRun) → IsUnanswered s rule a signatures gate.Memory part → AreQuestions a signatures part
unanswered_wants s rule a signatures part h =
    subst (λ l. AreQuestions a signatures l) (sym h.joined)
    (questions_reached s rule a signatures h.signature h.before h.last h.reached (mute_wants a h.signature h.how h.last h.same h.asked))

-- a requirement that had no answer for want of memory
stops_wants : (c : Case) (r : Requirement) (part : List HelperRun) → StopsBy c r gate.Memory part → WantsBy c r part
stops_wants c (SignedBy keys rule) part (inl long) = absurd (long_no_memory long.read long.long)
stops_wants c (SignedBy keys rule) part (inr (inl files)) = let e = files.lost in absurd (cc e)
stops_wants c (SignedBy keys rule) part (inr (inr asked)) =
    inr (record { asker = asked.asker; asking = asked.asking; ended = unanswered_wants c.subject rule asked.asker c.signatures part asked.ended })
stops_wants c Accept part h = absurd h
stops_wants c Reject part h = absurd h
stops_wants c Sigstore part h = absurd h

-- a reason for which memory was wanting
signed_wants : (c : Case) (keys : Keys) (rule : IdentityRule) (reason : Why) (part : List HelperRun) → FailsSigned c keys rule reason part → WantsBy c (SignedBy keys rule) part
signed_wants c keys rule why.NoSignature part h = inl h.1
signed_wants c keys rule why.NoVerifier part h = inl h.1.1
signed_wants c keys rule why.KeyAbsent part h = inl h.1
signed_wants c keys rule (why.Signatures reasons) part h =
    inr (record { asker = h.asker; asking = h.asking; ended = questions_refused c.subject rule h.asker c.signatures part reasons h.ended })
signed_wants c keys rule why.Reject part h = absurd h
signed_wants c keys rule why.Sigstore part h = absurd h

fails_wants : (c : Case) (r : Requirement) (reason : Why) (part : List HelperRun) → FailsBy c r reason part → WantsBy c r part
fails_wants c (SignedBy keys rule) reason part h = signed_wants c keys rule reason part h
fails_wants c Accept reason part h = absurd h
fails_wants c Reject reason part h = h.1
fails_wants c Sigstore reason part h = h.1

stopped : (c : Case) (scope : Option (List ℕ)) (list : List Requirement) (i : ℕ) (r : Requirement) (fault : GateFault) → i < length list → r ≡ get_or list i r
    → (g h : List HelperRun) → HeldTo c list i g → IsJudged c r (Err fault) h → Ends c scope list (Err fault) (g ++ h)
stopped c scope list i r (gate.Rejected of n reason) lt e g h before (inl stop) = absurd (stops_no_reject c r of n reason h stop)
stopped c scope list i r (gate.Rejected of n reason) lt e g h before (inr memory) = let no = memory.0 in absurd (cc no)
stopped c scope list i r gate.Memory lt e g h before (inl stop) = inr (i + 1, at_place c list i r (λ q part. WantsBy c q part) lt e g h before (stops_wants c r h stop))
stopped c scope list i r gate.Memory lt e g h before (inr memory) = inr (i + 1, at_place c list i r (λ q part. WantsBy c q part) lt e g h before memory.1)
stopped c scope list i r (gate.Garbled s b) lt e g h before (inl stop) = (i + 1, at_place c list i r (λ q part. StopsBy c q (gate.Garbled s b) part) lt e g h before stop)
stopped c scope list i r (gate.Garbled s b) lt e g h before (inr memory) = let no = memory.0 in absurd (cc no)
stopped c scope list i r (gate.TooLarge w n) lt e g h before (inl stop) = (i + 1, at_place c list i r (λ q part. StopsBy c q (gate.TooLarge w n) part) lt e g h before stop)
stopped c scope list i r (gate.TooLarge w n) lt e g h before (inr memory) = let no = memory.0 in absurd (cc no)
stopped c scope list i r gate.Files lt e g h before (inl stop) = (i + 1, at_place c list i r (λ q part. StopsBy c q gate.Files part) lt e g h before stop)
stopped c scope list i r gate.Files lt e g h before (inr memory) = let no = memory.0 in absurd (cc no)
stopped c scope list i r gate.Helper lt e g h before (inl stop) = (i + 1, at_place c list i r (λ q part. StopsBy c q gate.Helper part) lt e g h before stop)
stopped c scope list i r gate.Helper lt e g h before (inr memory) = let no = memory.0 in absurd (cc no)

-- the walk, over the files
abbrev Walked : Gate → Option Tree → List Requirement → ℕ → Runs → Runs → Type 0
Walked g tree list i old new = Gained old new (λ runs. AreHeld (case_of g tree) (take i list) runs)

abbrev Turned : Gate → Option Tree → Requirement → Result (Option Why) GateFault → Runs → Runs → Type 0
Turned g tree r result old new = Gained old new (IsJudged (case_of g tree) r result)

pub walk_more : (g : Gate) (tree : Option Tree) (list : List Requirement) (i : ℕ) (r : Requirement) (old mid new : Runs) → i < length list → r ≡ get_or list i r
    → Walked g tree list i old mid → Turned g tree r (Ok None) mid new → Walked g tree list (i + 1) old new
walk_more g tree list i r old mid new lt e first second =
    gained-then old mid new (HeldTo (case_of g tree) list i) (HoldsBy (case_of g tree) r) (HeldTo (case_of g tree) list (i + 1)) first second (one_held (case_of g tree) list i r lt e)

pub walk_stops : (g : Gate) (tree : Option Tree) (scope : Option (List ℕ)) (list : List Requirement) (i : ℕ) (r : Requirement) (fault : GateFault) (old mid new : Runs) → i < length list → r ≡ get_or list i r
    → Walked g tree list i old mid → Turned g tree r (Err fault) mid new → Gained old new (Ends (case_of g tree) scope list (Err fault))
walk_stops g tree scope list i r fault old mid new lt e first second =
    gained-then old mid new (HeldTo (case_of g tree) list i) (IsJudged (case_of g tree) r (Err fault)) (Ends (case_of g tree) scope list (Err fault)) first second (stopped (case_of g tree) scope list i r fault lt e)

failed : (c : Case) (scope : Option (List ℕ)) (list : List Requirement) (i : ℕ) (r : Requirement) (reason : Why) (fault : GateFault) → i < length list → r ≡ get_or list i r
    → (fault ≡ gate.Memory) ⊎ (fault ≡ gate.Rejected scope (i + 1) reason) → (g h : List HelperRun) → HeldTo c list i g → FailsBy c r reason h → Ends c scope list (Err fault) (g ++ h)
failed c scope list i r reason fault lt e (inl memory) g h before fails =
    subst (λ f. Ends c scope list (Err f) (g ++ h)) (sym memory) (inr (i + 1, at_place c list i r (λ q part. WantsBy c q part) lt e g h before (fails_wants c r reason h fails)))
failed c scope list i r reason fault lt e (inr is) g h before fails =
    subst (λ f. Ends c scope list (Err f) (g ++ h)) (sym is) (refl, at_place c list i r (λ q part. FailsBy c q reason part) lt e g h before fails)

pub walk_fails : (g : Gate) (tree : Option Tree) (scope : Option (List ℕ)) (list : List Requirement) (i : ℕ) (r : Requirement) (reason : Why) (fault : GateFault) (old mid new : Runs) → i < length list → r ≡ get_or list i r
    → (fault ≡ gate.Memory) ⊎ (fault ≡ gate.Rejected scope (i + 1) reason) → Walked g tree list i old mid → Turned g tree r (Ok (Some reason)) mid new
    → Gained old new (Ends (case_of g tree) scope list (Err fault))
walk_fails g tree scope list i r reason fault old mid new lt e said first second =
    gained-then old mid new (HeldTo (case_of g tree) list i) (FailsBy (case_of g tree) r reason) (Ends (case_of g tree) scope list (Err fault)) first second (failed (case_of g tree) scope list i r reason fault lt e said)

pub some_items : {X : Type 0} (xs : List X) → false ≡ (length xs == 0) → xs ≢ []
some_items [] h = λ e. let both : false ≡ true = h in cc both
some_items (x ∷ xs) h = λ e. cc e
