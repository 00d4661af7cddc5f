-- The first byte or part of a kind, found by a test and told apart from all others.
use Rattle.std.proofs.Common.{◌≡◌, ℕ, suc, ◌+◌, ◌≤◌, nat_lt, Bool, true, false, not, List, [], ◌∷◌, ◌++◌, length, Option, Some, None, refl, sym, ap, ◌∙◌, arith, inl, inr, length-append}
use Rattle.std.proofs.lemmas.Bool.{cases_Bool, and_parts}
use Rattle.std.proofs.lemmas.Bool.Decides.{nat_tests}
use Rattle.std.specs.List.{All, list_all, position_or_len, flat_map}
use Rattle.std.proofs.lemmas.List.Elements.{All-cons, All-nil, All-head, All-tail}
use Rattle.image_ref.specs.Characters.{is_upper, slash}
use Rattle.image_ref.specs.Component.{IsComponent}
use Rattle.image_ref.specs.ComponentTest.{is_component}
use Rattle.image_ref.specs.Digest.{IsDigestText, digest_of}
use Rattle.image_ref.specs.Domain.{passes_or_none}
use Rattle.image_ref.specs.Faults.{IsWrong, IsFirstUpper, IsFirstBad}
use Rattle.image_ref.specs.Reading.{bad_component, is_there}
use Rattle.image_ref.proofs.JoinedComponents.{is_component-from}
use Rattle.image_ref.proofs.AcceptedComponents.{is_component-to}
use Rattle.image_ref.proofs.DigestTexts.{digest_of-some, digest_of-found, written-text}
use Rattle.image_ref.proofs.BoolLemmas.{not_true}

-- ---- a grammar and its test

-- the test fails just where the piece is there and not in its grammar
pub wrong_from : (Grammar : List ℕ → Type 0) (test : List ℕ → Bool) → ((t : List ℕ) → Grammar t → test t ≡ true) → (o : Option (List ℕ)) → passes_or_none test o ≡ false → IsWrong Grammar o
wrong_from Grammar test from None h = cc h
wrong_from Grammar test from (Some t) h = λ g. cc (h, from t g)

pub not_wrong : (Grammar : List ℕ → Type 0) (test : List ℕ → Bool) → ((t : List ℕ) → test t ≡ true → Grammar t) → (o : Option (List ℕ)) → passes_or_none test o ≡ true → IsWrong Grammar o → ⊥
not_wrong Grammar test to None h w = w
not_wrong Grammar test to (Some t) h w = w (to t h)

there_from : (o : Option (List ℕ)) → (o ≡ None → ⊥) → is_there o ≡ true
there_from None h = absurd (h refl)
there_from (Some d) h = refl

digest_by : (t : List ℕ) (o : Option (List ℕ)) → digest_of t ≡ o → is_there o ≡ true → IsDigestText t
digest_by t None e h = cc h
digest_by t (Some d) e h = let k = digest_of-some t d e in written-text d t k.0 k.1

pub digest_to : (t : List ℕ) → is_there (digest_of t) ≡ true → IsDigestText t
digest_to t h = digest_by t (digest_of t) refl h

pub digest_from : (t : List ℕ) → IsDigestText t → is_there (digest_of t) ≡ true
digest_from t h = there_from (digest_of t) (λ e. digest_of-found t h e)

-- ---- the first upper-case letter

upper_later : (m n : ℕ) → nat_lt (1 + m) (suc n) ≡ true → nat_lt m n ≡ true
upper_later m n h = grind (arith, nat_tests)

pub upper_found : (path : List ℕ) → nat_lt (position_or_len is_upper path) (length path) ≡ true → IsFirstUpper path (position_or_len is_upper path)
upper_found [] h = cc h
upper_found (b ∷ rest) h =
    elim (cases_Bool (is_upper b)) [
      | inl here ↦ rw here (record { before = []; letter = b; after = rest; joined = refl; none_before = refl; upper = here; place = refl })
      | inr later ↦
          let found = upper_found rest (upper_later (position_or_len is_upper rest) (length rest) (rw later at h)) in
          rw later (record {
            before = b ∷ found.before;
            letter = found.letter;
            after = found.after;
            joined = ap (λ t. b ∷ t) found.joined;
            none_before = rw (later, found.none_before) refl;
            upper = found.upper;
            place = let e = found.place in omega arith;
          })
    ]

letters_before : (before after : List ℕ) (letter : ℕ) → list_all (λ b. not (is_upper b)) before ≡ true → is_upper letter ≡ true → position_or_len is_upper (before ++ (letter ∷ after)) ≡ length before
letters_before [] after letter h u = rw u refl
letters_before (b ∷ rest) after letter h u =
    let p = and_parts (not (is_upper b)) (list_all (λ b. not (is_upper b)) rest) h in
    rw p.0 (let e = letters_before rest after letter p.1 u in omega arith)

pub upper_once : (path : List ℕ) (k : ℕ) → IsFirstUpper path k → position_or_len is_upper path ≡ k
upper_once path k h = ap (position_or_len is_upper) h.joined ∙ letters_before h.before h.after h.letter h.none_before h.upper ∙ sym h.place

pub no_upper_left : (path : List ℕ) (k : ℕ) → nat_lt (position_or_len is_upper path) (length path) ≡ false → IsFirstUpper path k → ⊥
no_upper_left path k h u =
    let place = upper_once path k u in
    let whole = ap length u.joined ∙ length-append u.before (u.letter ∷ u.after) in
    let at = u.place in
    let out : length path ≤ position_or_len is_upper path = not_below (position_or_len is_upper path) (length path) h in
    absurd (omega arith)
  where
    not_below : (m n : ℕ) → nat_lt m n ≡ false → n ≤ m
    not_below m n h = grind (arith, nat_tests)

-- ---- the first part that is no component

abbrev pub with_slashes : List (List ℕ) → List ℕ
with_slashes parts = flat_map (λ c. c ++ (slash ∷ [])) parts

pub record HasFirstBad (at : ℕ) (parts : List (List ℕ)) (found : ℕ) : Type 0 where
  pub behind : ℕ
  pub is : IsFirstBad parts behind
  pub place : found ≡ at + behind

pub bad_found : (at : ℕ) (parts : List (List ℕ)) (found : ℕ) → bad_component at parts ≡ Some found → HasFirstBad at parts found
bad_found at [] found h = cc h
bad_found at (x ∷ more) found h =
    elim (cases_Bool (is_component x)) [
      | inl good ↦
          let later = bad_found (at + length x + 1) more found (rw good at h) in
          let len = length-append (x ++ (slash ∷ [])) (with_slashes later.is.before) in
          let one = length-append x (slash ∷ []) in
          record {
            behind = length (with_slashes (x ∷ later.is.before));
            is = record {
              before = x ∷ later.is.before;
              part = later.is.part;
              after = later.is.after;
              joined = ap (λ t. x ∷ t) later.is.joined;
              none_before = All-cons IsComponent x later.is.before (is_component-to x good) later.is.none_before;
              bad = later.is.bad;
              place = refl;
            };
            place = let e = later.place in let b = later.is.place in omega arith;
          }
      | inr bad ↦ record {
        behind = 0;
        is = record { before = []; part = x; after = more; joined = refl; none_before = All-nil IsComponent; bad = λ c. cc (bad, is_component-from x c); place = refl };
        place = let same : Some at ≡ Some found = rw bad at h in let e : at ≡ found = cc same in omega arith;
      }
    ]

parts_before : (at : ℕ) (before after : List (List ℕ)) (part : List ℕ) → All IsComponent before → (IsComponent part → ⊥) → bad_component at (before ++ (part ∷ after)) ≡ Some (at + length (with_slashes before))
parts_before at [] after part h bad =
    rw (not_true (is_component part) (λ t. bad (is_component-to part t))) (let e : at ≡ at + 0 = omega arith in ap Some e)
parts_before at (x ∷ more) after part h bad =
    let len = length-append (x ++ (slash ∷ [])) (with_slashes more) in
    let one = length-append x (slash ∷ []) in
    let e : at + length x + 1 + length (with_slashes more) ≡ at + length (with_slashes (x ∷ more)) = omega arith in
    rw (is_component-from x (All-head IsComponent x more h)) (parts_before (at + length x + 1) more after part (All-tail IsComponent x more h) bad ∙ ap Some e)

pub bad_once : (at : ℕ) (parts : List (List ℕ)) (k : ℕ) → IsFirstBad parts k → bad_component at parts ≡ Some (at + k)
bad_once at parts k h = ap (bad_component at) h.joined ∙ parts_before at h.before h.after h.part h.none_before h.bad ∙ ap (λ n. Some (at + n)) (sym h.place)
