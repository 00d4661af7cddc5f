-- Steps of the last conversation, and what a wire gained, joined.
use Rattle.std.proofs.Common.{◌≡◌, arith, ◌==◌, ◌||◌, Bool, ℕ, List, [], ◌∷◌, ◌++◌, length, refl, ap, ◌∙◌, sym, subst, true, false, append_assoc, take, drop, Some, None, option_map}
use Rattle.std.proofs.lemmas.Bool.Decides.{nat_tests}
use Rattle.std.proofs.lemmas.List.{take-append-drop}
use Rattle.skopeo_outside.specs.Wire.{Conversation, Conversations, Gains, GoesOn, SendsPart, on_last, with_sent, with_received}

-- a step of the last conversation, where it is known
pub on_last-append : (f : Conversation → Conversation) (cs : List Conversation) (c : Conversation)
    → on_last f (cs ++ c ∷ []) ≡ cs ++ f c ∷ []
on_last-append f [] c = refl
on_last-append f (d ∷ []) c = refl
on_last-append f (d ∷ e ∷ cs) c = ap (λ (x : List Conversation). d ∷ x) (on_last-append f (e ∷ cs) c)

-- the same, from what the last one became
pub last_step : (f : Conversation → Conversation) (cs : List Conversation) (c d : Conversation) → d ≡ f c
    → cs ++ d ∷ [] ≡ on_last f (cs ++ c ∷ [])
last_step f cs c d e = ap (λ (x : Conversation). cs ++ x ∷ []) e ∙ sym (on_last-append f cs c)

-- a step that leaves each conversation leaves the list
pub on_last-same : (f : Conversation → Conversation) (cs : List Conversation)
    → ((c : Conversation) → f c ≡ c) → on_last f cs ≡ cs
on_last-same f [] same = refl
on_last-same f (c ∷ []) same = ap (λ (d : Conversation). d ∷ []) (same c)
on_last-same f (c ∷ d ∷ cs) same = ap (λ (x : List Conversation). c ∷ x) (on_last-same f (d ∷ cs) same)

pub append_none : (xs : List ℕ) → xs ++ [] ≡ xs
append_none [] = refl
append_none (x ∷ xs) = ap (λ (ys : List ℕ). x ∷ ys) (append_none xs)

-- a step that changes nothing
pub goes_on-same : (f : Conversation → Conversation) (told : Conversations) → ((c : Conversation) → f c ≡ c) → GoesOn f told told
goes_on-same f None same = refl
goes_on-same f (Some cs) same = ap (λ (x : List Conversation). Some x) (sym (on_last-same f cs same))

-- nothing is a front of each piece
pub sends_none : (bytes : List ℕ) (told : Conversations) → SendsPart bytes told told
sends_none bytes told = record { sent = []; rest = bytes; front = refl; goes_on = goes_on-same (with_sent []) told (λ c. ap (λ (x : List ℕ). record c { sent = x }) (append_none c.sent)) }

pub sends_nothing : (bytes : List ℕ) (old new : Conversations) → new ≡ old → SendsPart bytes old new
sends_nothing bytes old new e = subst (λ (x : Conversations). SendsPart bytes old x) (sym e) (sends_none bytes old)

-- the first bytes of a piece were sent
pub sends_first : (bytes sent : List ℕ) (count : ℕ) (old new : Conversations) → sent ≡ take count bytes → GoesOn (with_sent sent) old new → SendsPart bytes old new
sends_first bytes sent count old new e g = record { sent = sent; rest = drop count bytes; front = ap (λ (x : List ℕ). x ++ drop count bytes) e ∙ take-append-drop count bytes; goes_on = g }

-- a front of the first bytes of a piece is a front of it
pub sends_less : (bytes piece : List ℕ) (count : ℕ) (old new : Conversations) → piece ≡ take count bytes → SendsPart piece old new → SendsPart bytes old new
sends_less bytes piece count old new e p = record { sent = p.sent; rest = p.rest ++ drop count bytes; front = sym (append_assoc p.sent p.rest (drop count bytes)) ∙ ap (λ (x : List ℕ). x ++ drop count bytes) (p.front ∙ e) ∙ take-append-drop count bytes; goes_on = p.goes_on }

-- what an empty piece and a piece with bytes add
pub received_end : (p : List ℕ) (c : Conversation) → true ≡ (length p == 0) → record c { ended = true } ≡ with_received p (length p == 0) c
received_end [] c e = ap (λ (x : List ℕ). record c { received = x; ended = true }) (sym (append_none c.received))
received_end (b ∷ p) c e = absurd (not_empty b p (sym e))
  where
    not_empty : (b : ℕ) (p : List ℕ) → (length (b ∷ p) == 0) ≡ true → ⊥
    not_empty b p e = grind (arith, nat_tests)

pub received_some : (p : List ℕ) (c : Conversation) → false ≡ (length p == 0)
    → record c { received = c.received ++ p } ≡ with_received p (length p == 0) c
received_some p c e = ap (λ (x : Bool). record c { received = c.received ++ p; ended = x || c.ended }) e

pub on_last-twice : (f g h : Conversation → Conversation) (cs : List Conversation)
    → ((c : Conversation) → g (f c) ≡ h c) → on_last g (on_last f cs) ≡ on_last h cs
on_last-twice f g h [] e = refl
on_last-twice f g h (c ∷ []) e = ap (λ (d : Conversation). d ∷ []) (e c)
on_last-twice f g h (c ∷ d ∷ []) e = ap (λ (x : Conversation). c ∷ x ∷ []) (e d)
on_last-twice f g h (c ∷ d ∷ b ∷ cs) e = ap (λ (x : List Conversation). c ∷ x) (on_last-twice f g h (d ∷ b ∷ cs) e)

pub goes_on-twice : (f g h : Conversation → Conversation) (old mid new : Conversations)
    → ((c : Conversation) → g (f c) ≡ h c) → GoesOn f old mid → GoesOn g mid new → GoesOn h old new
goes_on-twice f g h None mid new e p q = q ∙ ap (λ (t : Conversations). option_map (on_last g) t) p
goes_on-twice f g h (Some cs) mid new e p q =
    q ∙ ap (λ (t : Conversations). option_map (on_last g) t) p ∙ ap (λ (x : List Conversation). Some x) (on_last-twice f g h cs e)

-- a call that receives nothing
pub receives_none : (told : Conversations) → GoesOn (with_received [] false) told told
receives_none told = goes_on-same (with_received [] false) told
    (λ c. ap (λ (x : List ℕ). record c { received = x }) (append_none c.received))

-- two calls, one after the other
pub receives_more : (a b : List ℕ) (ended : Bool) (old mid new : Conversations) → GoesOn (with_received a false) old mid
    → GoesOn (with_received b ended) mid new → GoesOn (with_received (a ++ b) ended) old new
receives_more a b ended old mid new p q =
    goes_on-twice (with_received a false) (with_received b ended) (with_received (a ++ b) ended) old mid new
    (λ c. ap (λ (x : List ℕ). record c { received = x; ended = ended || c.ended }) (append_assoc c.received a b)) p q

-- a conversation that was begun in this call
pub gains_on : (c : Conversation) (f : Conversation → Conversation) (old mid new : Conversations)
    → Gains (c ∷ []) old mid → GoesOn f mid new → Gains (f c ∷ []) old new
gains_on c f None mid new p q = q ∙ ap (λ (t : Conversations). option_map (on_last f) t) p
gains_on c f (Some cs) mid new p q =
    q ∙ ap (λ (t : Conversations). option_map (on_last f) t) p ∙ ap (λ (x : List Conversation). Some x) (on_last-append f cs c)

append_nothing : (cs : List Conversation) → cs ++ [] ≡ cs
append_nothing [] = refl
append_nothing (c ∷ cs) = ap (λ (x : List Conversation). c ∷ x) (append_nothing cs)

-- a call that gained nothing
pub gains_none : (old new : Conversations) → new ≡ old → Gains [] old new
gains_none None new e = e
gains_none (Some cs) new e = e ∙ ap (λ (x : List Conversation). Some x) (sym (append_nothing cs))
