-- Loops that make each item in turn, and stop at the first fault.
use Rattle.std.proofs.Common.{◌≡◌, ◌⊎◌, inl, inr, ℕ, suc, ◌+◌, ◌<◌, ◌≤◌, List, [], ◌∷◌, ◌++◌, length, drop, get_or, Result, Ok, Err, refl, sym, ap, ◌∙◌, add-one, append_assoc, append-nil}
use Rattle.std.proofs.lemmas.List.{at_drop_more, at_drop_all}
use Rattle.manifest_change.specs.declared.fault.ConvertFault.{ConvertFault}
use Rattle.manifest_change.specs.declared.fault.ConvertFault.TheVariants.{Layer, Config, NotAnImage, NoPlatform, Memory}
use Rattle.manifest_change.specs.Changed.{Converted, IsFault, Answers, ◌>>=◌, each}

-- ---- one after the other

pub then-ok : {A B : Type 0} (x : Converted A) (f : A → Converted B) (b : B) → x >>= f ≡ Ok b → (a : A) × (x ≡ Ok a) × (f a ≡ Ok b)
then-ok (Ok a) f b h = (a, refl, h)
then-ok (Err e) f b h = cc h

pub then-err : {A B : Type 0} (x : Converted A) (f : A → Converted B) (e : ConvertFault) → x >>= f ≡ Err e → (x ≡ Err e) ⊎ ((a : A) × (x ≡ Ok a) × (f a ≡ Err e))
then-err (Ok a) f e h = inr (a, refl, h)
then-err (Err d) f e h = let same : d ≡ e = cc h in inl (ap Err same)

-- a fault that is passed on is the fault of the whole
pub fault-then : {A B : Type 0} (x : Converted A) (f : A → Converted B) (e : ConvertFault) → IsFault e x → IsFault e (x >>= f)
fault-then x f (Layer place media) h = rw h refl
fault-then x f (Config media) h = rw h refl
fault-then x f (NotAnImage place) h = rw h refl
fault-then x f (NoPlatform place) h = rw h refl
fault-then x f Memory h = tt

-- ---- the loop

-- what was made before, in front of the rest
abbrev pub with_front : {A : Type 0} → List A → Converted (List A) → Converted (List A)
with_front front rest = rest >>= (λ xs. Ok (front ++ xs))

with_front-more : {A : Type 0} (front : List A) (x : A) (r : Converted (List A)) → with_front front (r >>= (λ xs. Ok (x ∷ xs))) ≡ with_front (front ++ x ∷ []) r
with_front-more front x (Ok xs) = ap Ok (sym (append_assoc front (x ∷ []) xs))
with_front-more front x (Err e) = refl

with_no_front : {A : Type 0} (r : Converted (List A)) → with_front [] r ≡ r
with_no_front (Ok xs) = refl
with_no_front (Err e) = refl

turn_ok : {A : Type 0} (front : List A) (one : Converted A) (rest : Converted (List A)) (x : A) → one ≡ Ok x → with_front front (one >>= (λ x. rest >>= (λ xs. Ok (x ∷ xs)))) ≡ with_front (front ++ x ∷ []) rest
turn_ok front one rest x e = rw e (with_front-more front x rest)

turn_err : {A : Type 0} (front : List A) (one : Converted A) (rest : Converted (List A)) (e : ConvertFault) → one ≡ Err e → with_front front (one >>= (λ x. rest >>= (λ xs. Ok (x ∷ xs)))) ≡ Err e
turn_err front one rest e h = rw h refl

-- the items before place i were made, where the first has the number 1
abbrev pub IsMadeSoFar : {A B : Type 0} → (ℕ → A → Converted B) → List B → ℕ → List A → Type 0
IsMadeSoFar f list i xs = with_front list (each f (i + 1) (drop i xs)) ≡ each f 1 xs

rest_is : {A B : Type 0} (f : ℕ → A → Converted B) (xs : List A) (i : ℕ) (x : A) → i < length xs → x ≡ get_or xs i x
    → each f (i + 1) (drop i xs) ≡ (f (i + 1) x >>= (λ y. each f (i + 1 + 1) (drop (i + 1) xs) >>= (λ ys. Ok (y ∷ ys))))
rest_is f xs i x lt e =
    at_drop_more (λ ws. each f (i + 1) ws) xs i x lt
    ∙ ap (λ v. each f (i + 1) (v ∷ drop (i + 1) xs)) (sym e)
    ∙ ap (λ n. f (i + 1) x >>= (λ y. each f n (drop (i + 1) xs) >>= (λ ys. Ok (y ∷ ys)))) (sym (add-one (i + 1)))

pub nothing_made : {A B : Type 0} (f : ℕ → A → Converted B) (xs : List A) (list : List B) → list ≡ [] → IsMadeSoFar f list 0 xs
nothing_made f xs list e = rw e (with_no_front (each f 1 xs))

pub item_made : {A B : Type 0} (f : ℕ → A → Converted B) (xs : List A) (i : ℕ) (x : A) (list more : List B) (y : B) → IsMadeSoFar f list i xs → i < length xs → x ≡ get_or xs i x
    → f (i + 1) x ≡ Ok y → more ≡ list ++ y ∷ [] → IsMadeSoFar f more (i + 1) xs
item_made f xs i x list more y h lt e ok pushed =
    ap (λ front. with_front front (each f (i + 1 + 1) (drop (i + 1) xs))) pushed
    ∙ sym (turn_ok list (f (i + 1) x) (each f (i + 1 + 1) (drop (i + 1) xs)) y ok)
    ∙ ap (with_front list) (sym (rest_is f xs i x lt e)) ∙ h

stops : {A B : Type 0} (f : ℕ → A → Converted B) (xs : List A) (i : ℕ) (x : A) (list : List B) (e : ConvertFault) → IsMadeSoFar f list i xs → i < length xs → x ≡ get_or xs i x
    → f (i + 1) x ≡ Err e → each f 1 xs ≡ Err e
stops f xs i x list e h lt is refused =
    sym h ∙ ap (with_front list) (rest_is f xs i x lt is) ∙ turn_err list (f (i + 1) x) (each f (i + 1 + 1) (drop (i + 1) xs)) e refused

pub item_stops : {A B : Type 0} (f : ℕ → A → Converted B) (xs : List A) (i : ℕ) (x : A) (list : List B) (e : ConvertFault) → IsMadeSoFar f list i xs → i < length xs → x ≡ get_or xs i x
    → IsFault e (f (i + 1) x) → IsFault e (each f 1 xs)
item_stops f xs i x list (Layer place media) h lt is refused = stops f xs i x list (Layer place media) h lt is refused
item_stops f xs i x list (Config media) h lt is refused = stops f xs i x list (Config media) h lt is refused
item_stops f xs i x list (NotAnImage place) h lt is refused = stops f xs i x list (NotAnImage place) h lt is refused
item_stops f xs i x list (NoPlatform place) h lt is refused = stops f xs i x list (NoPlatform place) h lt is refused
item_stops f xs i x list Memory h lt is refused = tt

pub items_made : {A B : Type 0} (f : ℕ → A → Converted B) (xs : List A) (i : ℕ) (list : List B) → IsMadeSoFar f list i xs → length xs ≤ i → each f 1 xs ≡ Ok list
items_made f xs i list h le =
    sym h ∙ ap (with_front list) (at_drop_all (λ ws. each f (i + 1) ws) xs i le) ∙ ap Ok (append-nil list)
