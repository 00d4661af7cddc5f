-- What stands before the slashes of a text is the fronts of its parts.
use Rattle.std.proofs.Common.{◌≡◌, ◌≢◌, ℕ, get_or, drop, add-one, length-drop, zero, suc, ◌+◌, ◌<◌, ◌==◌, true, false, List, [], ◌∷◌, ◌++◌, length, take, map, refl, sym, ap, ◌∙◌, arith, inl, inr, append-nil}
use Rattle.std.specs.Prelude.{if◌then◌else◌}
use Rattle.std.proofs.lemmas.Bool.{cases_Bool}
use Rattle.std.specs.List.{All, join_with_byte, onto_first}
use Rattle.std.proofs.lemmas.List.Elements.{All-head, All-tail, All-nil, All-cons}
use Rattle.std.proofs.lemmas.List.Splits.{join_with_byte-slice_split}
use Rattle.std.proofs.Math.Seq.{split_at}
use Rattle.std.proofs.lemmas.List.{get_or-drop}
use Rattle.image_ref.specs.Characters.{slash}
use Rattle.image_ref.specs.Cuts.{lacks}
use Rattle.image_ref.specs.Reference.{Reference, repository_of}
use Rattle.image_ref.proofs.CutLemmas.{Lacks, lacks-to, first_lacks, rest_lacks}
use Rattle.image_ref.proofs.PartLemmas.{parts}
use Rattle.image_ref.proofs.DomainLaw.{parts-some}
use Rattle.policy_scope.specs.Scopes.{falling, front, fronts, namespaces}
use Rattle.policy_scope.specs.Calls.{shortened}

pub shortened-last : (text : List ℕ) → Lacks slash text → shortened text ≡ text ∷ []
shortened-last [] h = refl
shortened-last (b ∷ rest) h = rw (first_lacks slash b rest h, shortened-last rest (rest_lacks slash b rest h)) refl

-- one step of the code: what stands before the last slash is shortened on
pub shortened-next : (before last : List ℕ) → Lacks slash last → shortened (before ++ (slash ∷ last)) ≡ (before ++ (slash ∷ last)) ∷ shortened before
shortened-next [] last h = rw (shortened-last last h) refl
shortened-next (b ∷ before) last h = rw (shortened-next before last h) refl

map-append2 : {A : Type 0} (f : A → List ℕ) (xs ys : List A) → map f (xs ++ ys) ≡ map f xs ++ map f ys
map-append2 f [] ys = refl
map-append2 f (x ∷ xs) ys = ap (λ t. f x ∷ t) (map-append2 f xs ys)

map-map2 : {A B : Type 0} (f : B → List ℕ) (g : A → B) (xs : List A) → map f (map g xs) ≡ map (λ x. f (g x)) xs
map-map2 f g [] = refl
map-map2 f g (x ∷ xs) = ap (λ t. f (g x) ∷ t) (map-map2 f g xs)

pub shortened-first : (first rest : List ℕ) → Lacks slash first → shortened (first ++ (slash ∷ rest)) ≡ map (λ t. first ++ (slash ∷ t)) (shortened rest) ++ (first ∷ [])
shortened-first [] rest h = refl
shortened-first (b ∷ first) rest h =
    rw (shortened-first first rest (rest_lacks slash b first h), first_lacks slash b first h, map-append2 (λ t. b ∷ t) (map (λ t. first ++ (slash ∷ t)) (shortened rest)) (first ∷ []), map-map2 (λ t. b ∷ t) (λ t. first ++ (slash ∷ t)) (shortened rest)) (append-nil _)

-- the numbers below n + 1 are 0 and those below n, each one more
map-falling : (f : ℕ → List ℕ) (n : ℕ) → map f (falling (suc n)) ≡ map (λ k. f (suc k)) (falling n) ++ (f 0 ∷ [])
map-falling f zero = refl
map-falling f (suc n) = ap (λ t. f (suc n) ∷ t) (map-falling f n)

abbrev Lacking : List ℕ → Type 0
Lacking t = lacks slash t ≡ true

-- a joined text, and what stands before its slashes
pub shortened-joined : (first : List ℕ) (rest : List (List ℕ)) → lacks slash first ≡ true → All (λ t. lacks slash t ≡ true) rest → shortened (join_with_byte slash (first ∷ rest)) ≡ join_with_byte slash (first ∷ rest) ∷ fronts first rest
shortened-joined first [] h all = shortened-last first (lacks-to slash first h)
shortened-joined first (x ∷ more) h all =
    shortened-first first (join_with_byte slash (x ∷ more)) (lacks-to slash first h)
    ∙ rw (shortened-joined x more (All-head Lacking x more all) (All-tail Lacking x more all), map-map2 (λ t. first ++ (slash ∷ t)) (front x more) (falling (length more))) (ap (λ t. (first ++ (slash ∷ join_with_byte slash (x ∷ more))) ∷ t) (sym (map-falling (front first (x ∷ more)) (length more))))

onto_lacking : (b : ℕ) (items : List (List ℕ)) → (b == slash) ≡ false → All Lacking items → All Lacking (onto_first b items)
onto_lacking b [] other h = All-cons Lacking (b ∷ []) [] (rw other refl) (All-nil Lacking)
onto_lacking b (x ∷ more) other h =
    let first : lacks slash x ≡ true = All-head Lacking x more h in
    All-cons Lacking (b ∷ x) more (rw (other, first) refl) (All-tail Lacking x more h)

pub parts-lacking : (text : List ℕ) → All (λ t. lacks slash t ≡ true) (parts slash text)
parts-lacking [] = All-cons Lacking [] [] refl (All-nil Lacking)
parts-lacking (b ∷ rest) =
    elim (cases_Bool (b == slash)) [
      | inl same ↦ rw same (All-cons Lacking [] (parts slash rest) refl (parts-lacking rest))
      | inr other ↦ rw other (onto_lacking b (parts slash rest) other (parts-lacking rest))
    ]

joined-host : (host : List ℕ) (items : List (List ℕ)) → (items ≡ [] → ⊥) → host ++ (slash ∷ join_with_byte slash items) ≡ join_with_byte slash (host ∷ items)
joined-host host [] some = absurd (some refl)
joined-host host (x ∷ more) some = refl

-- a repository, and its namespaces
pub shortened-repository : (r : Reference) → lacks slash r.host ≡ true → shortened (repository_of r) ≡ repository_of r ∷ namespaces r
shortened-repository r h =
    let items = parts slash r.path in
    let whole : repository_of r ≡ join_with_byte slash (r.host ∷ items) =
    ap (λ t. r.host ++ (slash ∷ t)) (sym (join_with_byte-slice_split slash r.path)) ∙ joined-host r.host items (parts-some slash r.path) in
    ap shortened whole ∙ shortened-joined r.host items h (parts-lacking r.path) ∙ ap (λ t. t ∷ namespaces r) (sym whole)

-- ---- a turn of the code

-- what stands before the last slash is shortened on
pub shorter : (text : List ℕ) (k : ℕ) → k < length text → get_or text k 0 ≡ slash → ((i : ℕ) → k < i → i < length text → get_or text i 0 ≢ slash)
    → shortened text ≡ text ∷ shortened (take k text)
shorter text k lt e h =
    let last : Lacks slash (drop (k + 1) text) = λ i in_last. rw (get_or-drop (k + 1) text i 0) (h (k + 1 + i) (omega arith) (omega (arith, length-drop (k + 1) text))) in
    let split : text ≡ take k text ++ (slash ∷ drop (k + 1) text) = rw (add-one k) (split_at text k 0 lt ∙ ap (λ b. take k text ++ (b ∷ drop (suc k) text)) e) in
    ap shortened split ∙ shortened-next (take k text) (drop (k + 1) text) last ∙ ap (λ t. t ∷ shortened (take k text)) (sym split)

-- the whole text comes first
pub whole-first : (text : List ℕ) → (more : List (List ℕ)) × (shortened text ≡ text ∷ more)
whole-first [] = ([], refl)
whole-first (b ∷ rest) =
    let f = whole-first rest in
    (map (λ t. b ∷ t) f.0 ++ (if b == slash then [] ∷ [] else []), ap (λ xs. map (λ t. b ∷ t) xs ++ (if b == slash then [] ∷ [] else [])) f.1)
