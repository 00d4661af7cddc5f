-- Where texts are cut.
use Rattle.std.proofs.Common.{◌≡◌, ◌≢◌, ℕ, zero, suc, ◌+◌, ◌<◌, ◌≤◌, ◌==◌, Bool, true, false, ◌&&◌, not, List, [], ◌∷◌, ◌++◌, length, get_or, Some, None, refl, sym, ap, ◌∙◌, arith, inl, inr, take, drop, add-one, append-nil, length-append, length-drop}
use Rattle.std.proofs.lemmas.Bool.{cases_Bool, and_parts, eqb-true, eq-eqb}
use Rattle.image_ref.specs.Characters.{slash, colon}
use Rattle.image_ref.specs.Cuts.{Cut, cut_at, cut_tag, lacks, in_front}
use Rattle.image_ref.specs.Domain.{after}
use Rattle.std.specs.Str.{IsCharBoundary}
use Rattle.std.proofs.lemmas.Str.{IsCharBoundary-before_ascii}
use Rattle.std.proofs.Math.Seq.{split_at, take-suc, take-append_seam}
use Rattle.std.proofs.lemmas.List.{get_or-drop, get_or_at, length-take-le}
use Rattle.image_ref.proofs.BoolLemmas.{not_true, and_false}

-- no byte of the text is c
abbrev pub Lacks : ℕ → List ℕ → Type 0
Lacks c text = (i : ℕ) → i < length text → get_or text i 0 ≢ c

neq-eqb : (b c : ℕ) → b ≢ c → (b == c) ≡ false
neq-eqb b c h = not_true (b == c) (λ e. h (eqb-true b c e))

pub first_lacks : (c b : ℕ) (rest : List ℕ) → Lacks c (b ∷ rest) → (b == c) ≡ false
first_lacks c b rest h = neq-eqb b c (h 0 (omega arith))

pub rest_lacks : (c b : ℕ) (rest : List ℕ) → Lacks c (b ∷ rest) → Lacks c rest
rest_lacks c b rest h = λ i lt. h (suc i) (omega arith)

pub cut_at-none : (c : ℕ) (text : List ℕ) → Lacks c text → cut_at c text ≡ (text, None)
cut_at-none c [] h = refl
cut_at-none c (b ∷ rest) h = rw (first_lacks c b rest h, cut_at-none c rest (rest_lacks c b rest h)) refl

pub cut_at-some : (c : ℕ) (text after : List ℕ) → Lacks c text → cut_at c (text ++ (c ∷ after)) ≡ (text, Some after)
cut_at-some c [] after h = rw (eq-eqb c c refl) refl
cut_at-some c (b ∷ rest) after h = rw (first_lacks c b rest h, cut_at-some c rest after (rest_lacks c b rest h)) refl

-- ---- a cut, joined again

pub cut_at-glued : (c : ℕ) (text : List ℕ) → text ≡ (cut_at c text).0 ++ after c (cut_at c text).1
cut_at-glued c [] = refl
cut_at-glued c (b ∷ rest) =
    elim (cases_Bool (b == c)) [
      | inl same ↦ rw (same, eqb-true b c same) refl
      | inr other ↦ rw other (ap (λ t. b ∷ t) (cut_at-glued c rest))
    ]

Lacks-cons : (c b : ℕ) (rest : List ℕ) → (b == c) ≡ false → Lacks c rest → Lacks c (b ∷ rest)
Lacks-cons c b rest other h zero lt = λ e. cc (sym other ∙ eq-eqb b c e)
Lacks-cons c b rest other h (suc i) lt = h i (omega arith)

Lacks-nil : (c : ℕ) → Lacks c []
Lacks-nil c i lt = absurd (omega arith)

pub cut_at-lacks : (c : ℕ) (text : List ℕ) → Lacks c (cut_at c text).0
cut_at-lacks c [] = Lacks-nil c
cut_at-lacks c (b ∷ rest) =
    elim (cases_Bool (b == c)) [
      | inl same ↦ rw same (Lacks-nil c)
      | inr other ↦ rw other (Lacks-cons c b (cut_at c rest).0 other (cut_at-lacks c rest))
    ]

-- ---- the cut before a tag

pub lacks-from : (c : ℕ) (text : List ℕ) → Lacks c text → lacks c text ≡ true
lacks-from c [] h = refl
lacks-from c (b ∷ rest) h = rw (first_lacks c b rest h, lacks-from c rest (rest_lacks c b rest h)) refl

pub lacks-to : (c : ℕ) (text : List ℕ) → lacks c text ≡ true → Lacks c text
lacks-to c [] h = Lacks-nil c
lacks-to c (b ∷ rest) h =
    let parts = and_parts (not (b == c)) (lacks c rest) h in
    elim (cases_Bool (b == c)) [
      | inl same ↦ cc (sym parts.0 ∙ ap not same)
      | inr other ↦ Lacks-cons c b rest other (lacks-to c rest parts.1)
    ]

has_slash : (xs ys : List ℕ) → lacks slash (xs ++ (slash ∷ ys)) ≡ false
has_slash [] ys = refl
has_slash (b ∷ xs) ys =
    elim (cases_Bool (b == slash)) [
      | inl same ↦ rw same refl
      | inr other ↦ rw (other, has_slash xs ys) refl
    ]

-- no cut stands before a slash
pub cut_tag-slash : (xs ys : List ℕ) → cut_tag (xs ++ (slash ∷ ys)) ≡ in_front (xs ++ (slash ∷ [])) (cut_tag ys)
cut_tag-slash [] ys = refl
cut_tag-slash (b ∷ xs) ys = rw (has_slash xs ys, and_false (b == colon), cut_tag-slash xs ys) refl

and_true : (a : Bool) → (a && true) ≡ a
and_true true = refl
and_true false = refl

-- past the last slash the first colon counts
pub cut_tag-leaf : (text : List ℕ) → Lacks slash text → cut_tag text ≡ cut_at colon text
cut_tag-leaf [] h = refl
cut_tag-leaf (b ∷ rest) h =
    let l = rest_lacks slash b rest h in
    rw (lacks-from slash rest l, and_true (b == colon), cut_tag-leaf rest l) refl

pub cut_tag-glued : (text : List ℕ) → text ≡ (cut_tag text).0 ++ after colon (cut_tag text).1
cut_tag-glued [] = refl
cut_tag-glued (b ∷ rest) =
    elim (cases_Bool ((b == colon) && lacks slash rest)) [
      | inl same ↦ let p = and_parts (b == colon) (lacks slash rest) same in rw (same, eqb-true b colon p.0) refl
      | inr other ↦ rw other (ap (λ t. b ∷ t) (cut_tag-glued rest))
    ]

-- ---- what the code cuts

pub leaf_cut-none : (text : List ℕ) → Lacks slash text → cut_tag text ≡ in_front (take 0 text) (cut_at colon (drop 0 text))
leaf_cut-none text h = cut_tag-leaf text h

pub leaf_cut-some : (text : List ℕ) (k : ℕ) → k < length text → get_or text k 0 ≡ slash → ((i : ℕ) → k < i → i < length text → get_or text i 0 ≢ slash)
    → cut_tag text ≡ in_front (take (k + 1) text) (cut_at colon (drop (k + 1) text))
leaf_cut-some text k lt e h =
    let leaf : Lacks slash (drop (k + 1) text) = λ i in_leaf. rw (get_or-drop (k + 1) text i 0) (h (k + 1 + i) (omega arith) (omega (arith, length-drop (k + 1) text))) in
    let split : text ≡ take k text ++ (slash ∷ drop (suc k) text) = split_at text k 0 lt ∙ ap (λ b. take k text ++ (b ∷ drop (suc k) text)) e in
    let front : take (suc k) text ≡ take k text ++ (slash ∷ []) = take-suc text k 0 lt ∙ ap (λ b. take k text ++ (b ∷ [])) e in
    ap cut_tag split ∙ cut_tag-slash (take k text) (drop (suc k) text) ∙ rw (add-one k, front, ← cut_tag-leaf (drop (suc k) text) (rw (← add-one k) leaf)) refl

pub colon_boundary : (text leaf tag : List ℕ) (start : ℕ) → drop start text ≡ leaf ++ (colon ∷ tag) → IsCharBoundary text (start + length leaf)
colon_boundary text leaf tag start e =
    let len : length (drop start text) ≡ length leaf + suc (length tag) = ap length e ∙ length-append leaf (colon ∷ tag) in
    let inside : start + length leaf < length text = omega (arith, length-drop start text) in
    let here : get_or text (start + length leaf) 0 ≡ colon = sym (get_or-drop start text (length leaf) 0) ∙ ap (λ t. get_or t (length leaf) 0) e ∙ get_or_at leaf colon tag 0 (length leaf) refl in
    IsCharBoundary-before_ascii text (start + length leaf) inside (omega arith)

pub glued_leaf : (c : ℕ) (text leaf tag : List ℕ) → leaf ≡ (cut_at c text).0 → Some tag ≡ (cut_at c text).1 → text ≡ leaf ++ (c ∷ tag)
glued_leaf c text leaf tag e f = cut_at-glued c text ∙ rw (← e, ← f) refl

pub whole_before : (text : List ℕ) (front : List ℕ) (cut : Cut) → cut_tag text ≡ in_front front cut → None ≡ cut.1 → text ≡ (cut_tag text).0
whole_before text front cut e f =
    let n : (cut_tag text).1 ≡ None = ap (λ (k : Cut). k.1) e ∙ sym f in
    cut_tag-glued text ∙ rw n (append-nil (cut_tag text).0)

pub front_before : (text leaf : List ℕ) (start : ℕ) (cut : Cut) → start ≤ length text → cut_tag text ≡ in_front (take start text) cut → leaf ≡ cut.0 → take (start + length leaf) text ≡ (cut_tag text).0
front_before text leaf start cut le e f =
    let before : (cut_tag text).0 ≡ take start text ++ leaf = ap (λ (k : Cut). k.0) e ∙ rw f refl in
    let len : length (cut_tag text).0 ≡ start + length leaf = ap length before ∙ length-append (take start text) leaf ∙ ap (λ n. n + length leaf) (length-take-le start text le) in
    rw (← len) (ap (λ t. take (length (cut_tag text).0) t) (cut_tag-glued text) ∙ take-append_seam (cut_tag text).0 (after colon (cut_tag text).1))

pub cut_length : (c : ℕ) (text first more : List ℕ) → text ≡ first ++ (c ∷ more) → length first + length more + 1 ≡ length text
cut_length c text first more e = let g = ap length e ∙ length-append first (c ∷ more) in omega arith
