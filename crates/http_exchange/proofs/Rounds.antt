-- A call that receives, after bytes that came before it.
use Rattle.std.proofs.Common.{◌≡◌, ℕ, suc, zero, ◌-◌, Bool, true, false, not, List, [], ◌∷◌, ◌++◌, length, length-append, length-take, take, drop, Option, Some, None, IfSome, Result, Ok, Err, refl, arith, sym, ap, subst, ◌∙◌, append_assoc, ◌<◌, ◌≤◌, ◌==◌, nat_lt}
use Rattle.std.proofs.lemmas.Bool.Decides.{nat_tests}
use Rattle.skopeo_outside.specs.declared.stop.Stop.{Stop}
use Rattle.skopeo_outside.specs.declared.stop.Stop.TheVariants.{Fault, Memory}
use Rattle.skopeo_outside.specs.Wire.{Conversations, GoesOn, with_received}
use Rattle.skopeo_outside.proofs.WireLemmas.{receives_none, receives_more, append_none}
use Rattle.http_message.specs.declared.fault.AnswerFault.{AnswerFault}
use Rattle.http_message.specs.declared.fault.AnswerFault.TheVariants.{Memory as OutOfMemory}
use Rattle.http_message.specs.Outcome.{Outcome, unfinished, outcome_of, Gives}
use Rattle.http_exchange.specs.Received.{Held, Notes, Receives, Came, Filled, NotFilled, fault_of_stop}
use Rattle.http_exchange.specs.Found.{NoneFound, Passed, Given, NoneCame}

pub take-twice : (n : ℕ) (xs : List ℕ) → take n (take n xs) ≡ take n xs
take-twice zero xs = refl
take-twice (suc n) [] = refl
take-twice (suc n) (x ∷ xs) = ap (λ (w : List ℕ). x ∷ w) (take-twice n xs)

pub drop-taken : (n : ℕ) (xs : List ℕ) → drop n (take n xs) ≡ []
drop-taken zero xs = refl
drop-taken (suc n) [] = refl
drop-taken (suc n) (x ∷ xs) = drop-taken n xs

-- the first bytes, once more were added
pub take_two : (m : ℕ) (a b : List ℕ) → take m (a ++ b) ≡ take m a ++ take (m - length a) b
take_two zero a b = let e : 0 - length a ≡ 0 = omega arith in sym (ap (λ (k : ℕ). take k b) e)
take_two (suc m) [] b = let e : suc m ≡ suc m - 0 = omega arith in ap (λ (k : ℕ). take k b) e
take_two (suc m) (x ∷ a) b =
    let e : m - length a ≡ suc m - length (x ∷ a) = omega arith in
    ap (λ (w : List ℕ). x ∷ w) (take_two m a b) ∙ ap (λ (k : ℕ). x ∷ (take m a ++ take k b)) e

pub take_nothing : (m : ℕ) → ◌≡◌ {A = List ℕ} [] (take m [])
take_nothing zero = refl
take_nothing (suc m) = refl

pub noted_none : (f : List ℕ) → Notes f [] f
noted_none f = record { shows = sym (append_none f) ∙ ap (λ (w : List ℕ). f ++ w) (take_nothing (64 - length f)) }

pub noted_more : {f g h : List ℕ} (a b : List ℕ) → Notes f a g → Notes g b h → Notes f (a ++ b) h
noted_more {f} {g} {h} a b p q =
    let m = 64 - length f in
    let len : 64 - length g ≡ m - length a = omega (arith, ap (λ (w : List ℕ). length w) p.shows, length-append {A = ℕ} f (take m a), length-take m a) in
    record {
      shows = q.shows ∙ ap (λ (k : ℕ). g ++ take k b) len ∙ ap (λ (w : List ℕ). w ++ take (m - length a) b) p.shows
          ∙ append_assoc f (take m a) (take (m - length a) b) ∙ ap (λ (w : List ℕ). f ++ w) (sym (take_two m a b));
    }

pub came_none : (told : Conversations) (h : Held) → Came told told h h
came_none told h = record { added = []; told = receives_none told; waits = sym (append_none h.waiting); noted = noted_none h.first }

pub came_more : {a b c : Conversations} {h k m : Held} → Came a b h k → Came b c k m → Came a c h m
came_more {a} {b} {c} {h} p q = record {
  added = p.added ++ q.added;
  told = receives_more p.added q.added false a b c p.told q.told;
  waits = q.waits ∙ ap (λ (w : List ℕ). w ++ q.added) p.waits ∙ append_assoc h.waiting p.added q.added;
  noted = noted_more p.added q.added p.noted q.noted;
}

-- what a later call receives, seen from before
pub receives_after : {T : Type 0} {a b c : Conversations} {h k m : Held} (Found : T → List ℕ → Bool → Type 0)
    (Stops : Outcome → List ℕ → Bool → Type 0) (r : Result T AnswerFault) → Came a b h k → Receives b c k m Found Stops r → Receives a c h m Found Stops r
receives_after {a} {b} {c} {h} {k} Found Stops r p q = record {
  added = p.added ++ q.added;
  ended = q.ended;
  told = receives_more p.added q.added q.ended a b c p.told q.told;
  noted = noted_more p.added q.added p.noted q.noted;
  gives = subst (λ (all : List ℕ). Gives (λ v. Found v all q.ended) (λ o. Stops o all q.ended) r)
      (ap (λ (w : List ℕ). w ++ q.added) p.waits ∙ append_assoc h.waiting p.added q.added) q.gives;
}

-- a call ends here
pub found_here : {T : Type 0} {a b : Conversations} {h k : Held} (Found : T → List ℕ → Bool → Type 0)
    (Stops : Outcome → List ℕ → Bool → Type 0) (v : T) → Came a b h k → Found v k.waiting false → Receives a b h k Found Stops (Ok v)
found_here Found Stops v p f = record { added = p.added; ended = false; told = p.told; noted = p.noted; gives = subst (λ (all : List ℕ). Found v all false) p.waits f }

pub stops_here : {T : Type 0} {a b : Conversations} {h k : Held} (Found : T → List ℕ → Bool → Type 0)
    (Stops : Outcome → List ℕ → Bool → Type 0) (c : AnswerFault) → Came a b h k → IfSome (outcome_of c) (λ o. Stops o k.waiting false)
    → Receives a b h k Found Stops (Err c)
stops_here Found Stops c p f = record { added = p.added; ended = false; told = p.told; noted = p.noted; gives = subst (λ (all : List ℕ). IfSome (outcome_of c) (λ o. Stops o all false)) p.waits f }

-- one more piece came
pub came_piece : {a b : Conversations} {h k : Held} → Receives a b h k (Filled h.waiting k.waiting) (NotFilled h.waiting) (Ok true) → Came a b h k
came_piece {a} {b} q = record {
  added = q.added;
  told = subst (λ (e : Bool). GoesOn (with_received q.added e) a b) q.gives.end_is q.told;
  waits = q.gives.waits;
  noted = q.noted;
}

-- the end came
pub stops_at_end : {T : Type 0} {a b : Conversations} {h k : Held} (Found : T → List ℕ → Bool → Type 0)
    (Stops : Outcome → List ℕ → Bool → Type 0) (c : AnswerFault) → Receives a b h k (Filled h.waiting k.waiting) (NotFilled h.waiting) (Ok false)
    → IfSome (outcome_of c) (λ o. Stops o h.waiting true) → Receives a b h k Found Stops (Err c)
stops_at_end {T} {a} {b} {h} {k} Found Stops c q f = record {
  added = q.added;
  ended = q.ended;
  told = q.told;
  noted = q.noted;
  gives = subst (λ (e : Bool). IfSome (outcome_of c) (λ o. Stops o (h.waiting ++ q.added) e)) (sym q.gives.end_is)
      (subst (λ (all : List ℕ). IfSome (outcome_of c) (λ o. Stops o all true)) (sym (q.gives.same refl) ∙ q.gives.waits) f);
}

-- nothing came
pub stops_by_fault : {S T : Type 0} {a b : Conversations} {h k : Held} (Had : S → List ℕ → Bool → Type 0) (Found : T → List ℕ → Bool → Type 0)
    (Stops : Outcome → List ℕ → Bool → Type 0) (c : AnswerFault) → Receives a b h k Had (NotFilled h.waiting) (Err c)
    → Stops unfinished h.waiting false → Receives a b h k Found Stops (Err c)
stops_by_fault {S} {T} {a} {b} {h} {k} Had Found Stops c q f = record { added = q.added; ended = q.ended; told = q.told; noted = q.noted; gives = by_cause (outcome_of c) q.gives }
  where
    by_cause : (o : Option Outcome) → IfSome o (λ u. NotFilled h.waiting u (h.waiting ++ q.added) q.ended) → IfSome o (λ u. Stops u (h.waiting ++ q.added) q.ended)
    by_cause None n = tt
    by_cause (Some u) n = subst (λ (e : Bool). Stops u (h.waiting ++ q.added) e) (sym n.more)
        (subst (λ (all : List ℕ). Stops u all false) (sym n.same) (subst (λ (v : Outcome). Stops v h.waiting false) (sym n.unknown) f))

-- the wire stopped a call of recv, which has added nothing
pub stopped_fill : {T : Type 0} {a b : Conversations} (s : Stop) (h k : Held) (Found : T → List ℕ → Bool → Type 0) → k.first ≡ h.first → b ≡ a
    → Receives a b h k Found (NotFilled h.waiting) (Err (fault_of_stop s))
stopped_fill {T} {a} {b} s h k Found known same = record {
  added = [];
  ended = false;
  told = subst (λ (t : Conversations). GoesOn (with_received [] false) a t) (sym same) (receives_none a);
  noted = subst (λ (f : List ℕ). Notes h.first [] f) (sym known) (noted_none h.first);
  gives = by_stop s;
}
  where
    nothing : NotFilled h.waiting unfinished (h.waiting ++ []) false
    nothing = record { unknown = refl; more = refl; same = append_none h.waiting }

    by_stop : (s : Stop) → IfSome (outcome_of (fault_of_stop s)) (λ o. NotFilled h.waiting o (h.waiting ++ []) false)
    by_stop Fault = nothing
    by_stop Memory = tt

pub same_length : (a b : List ℕ) → b ≡ a ++ [] → length a ≡ length b
same_length a b e = sym (ap (λ (x : List ℕ). length x) (e ∙ append_none a))

-- what stands behind bytes that were passed over
pub receives_behind : {T : Type 0} {a b c : Conversations} {h k m : Held} (pa : List ℕ)
    (Found : T → List ℕ → Bool → Type 0) (Stops : Outcome → List ℕ → Bool → Type 0)
    (Found' : T → List ℕ → Bool → Type 0) (Stops' : Outcome → List ℕ → Bool → Type 0) (r : Result T AnswerFault)
    → GoesOn (with_received pa false) a b → Notes h.first pa k.first → Receives b c k m Found Stops r
    → ((v : T) (more : List ℕ) (ended : Bool) → Found v (k.waiting ++ more) ended → Found' v ((h.waiting ++ pa) ++ more) ended)
    → ((o : Outcome) (more : List ℕ) (ended : Bool) → Stops o (k.waiting ++ more) ended → Stops' o ((h.waiting ++ pa) ++ more) ended)
    → Receives a c h m Found' Stops' r
receives_behind {T} {a} {b} {c} {h} {k} pa Found Stops Found' Stops' r told noted q f s = record {
  added = pa ++ q.added;
  ended = q.ended;
  told = receives_more pa q.added q.ended a b c told q.told;
  noted = noted_more pa q.added noted q.noted;
  gives = subst (λ (all : List ℕ). Gives (λ v. Found' v all q.ended) (λ o. Stops' o all q.ended) r)
      (append_assoc h.waiting pa q.added) (by_result r q.gives);
}
  where
    by_cause : (o : Option Outcome) → IfSome o (λ u. Stops u (k.waiting ++ q.added) q.ended) → IfSome o (λ u. Stops' u ((h.waiting ++ pa) ++ q.added) q.ended)
    by_cause None n = tt
    by_cause (Some u) n = s u q.added q.ended n

    by_result : (r : Result T AnswerFault) → Gives (λ v. Found v (k.waiting ++ q.added) q.ended) (λ o. Stops o (k.waiting ++ q.added) q.ended) r
        → Gives (λ v. Found' v ((h.waiting ++ pa) ++ q.added) q.ended) (λ o. Stops' o ((h.waiting ++ pa) ++ q.added) q.ended) r
    by_result (Ok v) n = f v q.added q.ended n
    by_result (Err e) n = by_cause (outcome_of e) n

-- a call that stopped, seen by another that stops with it
pub stops_so : {S T : Type 0} {a b : Conversations} {h k : Held} (Found : S → List ℕ → Bool → Type 0) (Stops : Outcome → List ℕ → Bool → Type 0)
    (Found' : T → List ℕ → Bool → Type 0) (Stops' : Outcome → List ℕ → Bool → Type 0) (c : AnswerFault)
    → Receives a b h k Found Stops (Err c)
    → ((o : Outcome) (all : List ℕ) (ended : Bool) → Stops o all ended → Stops' o all ended)
    → Receives a b h k Found' Stops' (Err c)
stops_so {S} {T} {a} {b} {h} Found Stops Found' Stops' c q s = record {
  added = q.added;
  ended = q.ended;
  told = q.told;
  noted = q.noted;
  gives = by_cause (outcome_of c) q.gives;
}
  where
    by_cause : (o : Option Outcome) → IfSome o (λ u. Stops u (h.waiting ++ q.added) q.ended) → IfSome o (λ u. Stops' u (h.waiting ++ q.added) q.ended)
    by_cause None n = tt
    by_cause (Some u) n = s u (h.waiting ++ q.added) q.ended n

-- what was found is refused
pub stops_found : {S T : Type 0} {a b : Conversations} {h k : Held} (Found : S → List ℕ → Bool → Type 0) (Stops : Outcome → List ℕ → Bool → Type 0)
    (Found' : T → List ℕ → Bool → Type 0) (Stops' : Outcome → List ℕ → Bool → Type 0) (v : S) (c : AnswerFault)
    → Receives a b h k Found Stops (Ok v)
    → ((all : List ℕ) (ended : Bool) → Found v all ended → IfSome (outcome_of c) (λ o. Stops' o all ended))
    → Receives a b h k Found' Stops' (Err c)
stops_found Found Stops Found' Stops' v c q s = record {
  added = q.added;
  ended = q.ended;
  told = q.told;
  noted = q.noted;
  gives = s _ q.ended q.gives;
}

-- a call that stopped, behind bytes that were passed over
pub stops_behind : {S T : Type 0} {a b c : Conversations} {h k m : Held} (pa : List ℕ)
    (Found : S → List ℕ → Bool → Type 0) (Stops : Outcome → List ℕ → Bool → Type 0)
    (Found' : T → List ℕ → Bool → Type 0) (Stops' : Outcome → List ℕ → Bool → Type 0) (e : AnswerFault)
    → GoesOn (with_received pa false) a b → Notes h.first pa k.first → Receives b c k m Found Stops (Err e)
    → ((o : Outcome) (more : List ℕ) (ended : Bool) → Stops o (k.waiting ++ more) ended → Stops' o ((h.waiting ++ pa) ++ more) ended)
    → Receives a c h m Found' Stops' (Err e)
stops_behind {S} {T} {a} {b} {c} {h} {k} pa Found Stops Found' Stops' e told noted q s = record {
  added = pa ++ q.added;
  ended = q.ended;
  told = receives_more pa q.added q.ended a b c told q.told;
  noted = noted_more pa q.added noted q.noted;
  gives = subst (λ (all : List ℕ). IfSome (outcome_of e) (λ o. Stops' o all q.ended))
      (append_assoc h.waiting pa q.added) (by_cause (outcome_of e) q.gives);
}
  where
    by_cause : (o : Option Outcome) → IfSome o (λ u. Stops u (k.waiting ++ q.added) q.ended) → IfSome o (λ u. Stops' u ((h.waiting ++ pa) ++ q.added) q.ended)
    by_cause None n = tt
    by_cause (Some u) n = s u q.added q.ended n

-- a piece came, and was lost for want of memory
pub lost_piece : {T : Type 0} {a b : Conversations} {h k m : Held} (Found : T → List ℕ → Bool → Type 0) (Stops : Outcome → List ℕ → Bool → Type 0)
    (piece : List ℕ) (ended : Bool) → k ≡ h → GoesOn (with_received piece ended) a b → Notes k.first piece m.first
    → Receives a b h m Found Stops (Err OutOfMemory)
lost_piece {T} {a} {b} {h} {k} {m} Found Stops piece ended same told noted = record {
  added = piece;
  ended = ended;
  told = told;
  noted = subst (λ (w : Held). Notes w.first piece m.first) same noted;
  gives = tt;
}

-- what never finds anything may find this
pub none_found : {T : Type 0} {a b : Conversations} {h k : Held} (Found : T → List ℕ → Bool → Type 0) (Stops : Outcome → List ℕ → Bool → Type 0)
    (r : Result T AnswerFault) → Receives a b h k NoneFound Stops r → Receives a b h k Found Stops r
none_found {T} {a} {b} {h} Found Stops r q = record { added = q.added; ended = q.ended; told = q.told; noted = q.noted; gives = by_result r q.gives }
  where
    by_result : (r : Result T AnswerFault) → Gives (λ v. NoneFound v (h.waiting ++ q.added) q.ended) (λ o. Stops o (h.waiting ++ q.added) q.ended) r
        → Gives (λ v. Found v (h.waiting ++ q.added) q.ended) (λ o. Stops o (h.waiting ++ q.added) q.ended) r
    by_result (Ok v) n = absurd n
    by_result (Err e) n = n

pub end_of_count : (count : ℕ) → (count == 0) ≡ not (nat_lt 0 count)
end_of_count count = grind (arith, nat_tests)

pub some_count : (count : ℕ) → nat_lt 0 count ≡ true → 0 < count
some_count count e = grind (arith, nat_tests)

pub no_count : (count : ℕ) → nat_lt 0 count ≡ false → count ≡ 0
no_count count e = grind (arith, nat_tests)

-- one byte behind those that waited
pub passed_so : (before into : List ℕ) (count : ℕ) → count ≤ length into → Passed before (nat_lt 0 count) (before ++ take count into) (count == 0)
passed_so before into count le = record {
  tail = take count into;
  all_is = refl;
  end_is = end_of_count count;
  some = λ e. omega (arith, length-take count into, some_count count e);
  none = λ e. ap (λ (k : ℕ). take k into) (no_count count e);
}

-- where none wait, those that came stand in `into`
pub passed_on : (h : Held) (into after : List ℕ) (count : ℕ) → h.waiting ≡ [] → after ≡ h.waiting → count ≤ length into
    → Given (length into) into after count (h.waiting ++ take count into) (count == 0)
passed_on h into after count none same le =
    let len : length (take count into) ≡ count = omega (arith, length-take count into) in
    let all : h.waiting ++ take count into ≡ take count into = ap (λ (w : List ℕ). w ++ take count into) none in
    record {
      room = le;
      within = le;
      there = omega (arith, len, ap (λ (w : List ℕ). length w) all);
      piece = sym (ap (λ (w : List ℕ). take count w) all ∙ take-twice count into);
      after_is = same ∙ none ∙ sym (ap (λ (w : List ℕ). drop count w) all ∙ drop-taken count into);
      some = λ s. some_is s;
      none = λ z. (none_is z, all ∙ ap (λ (k : ℕ). take k into) z);
    }
  where
    some_is : 0 < count → (count == 0) ≡ false
    some_is s = grind (arith, nat_tests)

    none_is : count ≡ 0 → (count == 0) ≡ true
    none_is z = grind (arith, nat_tests)

-- nothing came where none waited
pub none_came : (h : Held) (o : Outcome) (all : List ℕ) (ended : Bool) → h.waiting ≡ [] → NotFilled h.waiting o all ended → NoneCame o all ended
none_came h o all ended none n = (n.unknown, n.more, n.same ∙ none)

-- the wire stopped a call of recv where none waited
pub none_stopped : {T : Type 0} {a b : Conversations} (s : Stop) (h k : Held) (Found : T → List ℕ → Bool → Type 0) → k.first ≡ h.first → h.waiting ≡ []
    → b ≡ a → Receives a b h k Found NoneCame (Err (fault_of_stop s))
none_stopped {T} {a} {b} s h k Found known none same =
    stops_so Found (NotFilled h.waiting) Found NoneCame (fault_of_stop s) (stopped_fill s h k Found known same)
    (λ o all ended. none_came h o all ended none)
