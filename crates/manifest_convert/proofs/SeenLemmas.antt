-- One more descriptor, seen or not.
use Rattle.std.proofs.Common.{◌≡◌, inl, inr, ℕ, suc, ◌+◌, ◌-◌, ◌^◌, ◌<◌, ◌≤◌, ◌||◌, cond, not, Bool, true, false, List, [], ◌∷◌, ◌++◌, length, filter, take, get_or, refl, sym, ap, ◌∙◌, arith, append-nil}
use Rattle.std.specs.Str.{bytes_eq}
use Rattle.std.specs.Ordering.{nat_cmp}
use Rattle.std.specs.Cmp.Lexicographic.{slice_cmp}
use Rattle.std.specs.BTreeSet.{BTreeSet, contains, Updates}
use Rattle.std.proofs.lemmas.List.{take_more, length-take}
use Rattle.std.proofs.lemmas.List.Elements.{filter-append}
use Rattle.std.proofs.lemmas.Map.Text.{is_eq-slice_cmp}
use Rattle.std.proofs.lemmas.Slice.Eq.{bytes_eq-Decides}
use Rattle.digest_reader.specs.declared.job.Job.{Job}
use Rattle.manifest_v2s2.specs.declared.descriptor.Descriptor.{Descriptor}
use Rattle.manifest_convert.specs.Blobs.{is_other, firsts, job_of, numbered, has_digest, HasSeen}
use Rattle.manifest_convert.proofs.BlobLemmas.{cases_Bool, length-numbered}

-- ---- one more at the end

or_sides : (a b : Bool) → (a || b) ≡ false → (a ≡ false) × (b ≡ false)
or_sides true b h = cc h
or_sides false b h = (refl, h)

bytes_eq-sym : (a b : List ℕ) (t : Bool) → bytes_eq a b ≡ t → bytes_eq b a ≡ t
bytes_eq-sym a b true h = (bytes_eq-Decides b a).1 (sym ((bytes_eq-Decides a b).0 h))
bytes_eq-sym a b false h =
    elim (cases_Bool (bytes_eq b a)) [
      | inl e ↦ let t : true ≡ false = sym ((bytes_eq-Decides a b).1 (sym ((bytes_eq-Decides b a).0 e))) ∙ h in cc t
      | inr e ↦ e
    ]

filter-last : (p : Descriptor → Bool) (xs : List Descriptor) (y : Descriptor) (b : Bool) → p y ≡ b → filter p (xs ++ y ∷ []) ≡ cond b (filter p xs ++ y ∷ []) (filter p xs)
filter-last p xs y true h = filter-append p xs (y ∷ []) ∙ rw h refl
filter-last p xs y false h = filter-append p xs (y ∷ []) ∙ rw h (append-nil (filter p xs))

-- one whose digest is new is their last
firsts-new : (xs : List Descriptor) (y : Descriptor) → has_digest xs y.digest ≡ false → firsts (xs ++ y ∷ []) ≡ firsts xs ++ y ∷ []
firsts-new [] y h = refl
firsts-new (x ∷ xs) y h =
    let sides = or_sides (bytes_eq x.digest y.digest) (has_digest xs y.digest) h in
    let passes : is_other x.digest y ≡ true = ap not (bytes_eq-sym x.digest y.digest false sides.0) in
    ap (λ ys. x ∷ filter (is_other x.digest) ys) (firsts-new xs y sides.1) ∙ ap (λ ys. x ∷ ys) (filter-last (is_other x.digest) (firsts xs) y true passes)

-- one whose digest was there leaves the first occurrences
firsts-seen : (xs : List Descriptor) (y : Descriptor) → has_digest xs y.digest ≡ true → firsts (xs ++ y ∷ []) ≡ firsts xs
firsts-seen [] y h = cc h
firsts-seen (x ∷ xs) y h =
    elim (cases_Bool (has_digest xs y.digest)) [
      | inl e ↦ ap (λ ys. x ∷ filter (is_other x.digest) ys) (firsts-seen xs y e)
      | inr e ↦
          let here : bytes_eq x.digest y.digest ≡ true = or_first (bytes_eq x.digest y.digest) (has_digest xs y.digest) h e in
          let stops : is_other x.digest y ≡ false = ap not (bytes_eq-sym x.digest y.digest true here) in
          ap (λ ys. x ∷ filter (is_other x.digest) ys) (firsts-new xs y e) ∙ ap (λ ys. x ∷ ys) (filter-last (is_other x.digest) (firsts xs) y false stops)
    ]
  where
    or_first : (a b : Bool) → (a || b) ≡ true → b ≡ false → a ≡ true
    or_first true b h e = refl
    or_first false b h e = cc (sym h ∙ e)

numbered-append : (n : ℕ) (xs : List Descriptor) (y : Descriptor) → numbered n (xs ++ y ∷ []) ≡ numbered n xs ++ job_of (n + length xs) y ∷ []
numbered-append n [] y = let same : n ≡ n + 0 = omega arith in ap (λ m. job_of m y ∷ []) same
numbered-append n (x ∷ xs) y =
    let same : suc n + length xs ≡ n + suc (length xs) = omega arith in
    ap (λ js. job_of n x ∷ js) (numbered-append (suc n) xs y ∙ ap (λ m. numbered (suc n) xs ++ job_of m y ∷ []) same)

any-append : (xs : List Descriptor) (y : Descriptor) (d : List ℕ) → has_digest (xs ++ y ∷ []) d ≡ cond (bytes_eq y.digest d) true (has_digest xs d)
any-append [] y d = or_none (bytes_eq y.digest d)
  where
    or_none : (b : Bool) → (b || false) ≡ cond b true false
    or_none true = refl
    or_none false = refl
any-append (x ∷ xs) y d = rw (any-append xs y d) (or_cond (bytes_eq x.digest d) (bytes_eq y.digest d) (has_digest xs d))
  where
    or_cond : (a b c : Bool) → (a || cond b true c) ≡ cond b true (a || c)
    or_cond true true c = refl
    or_cond true false c = refl
    or_cond false true c = refl
    or_cond false false c = refl

-- ---- the set and the jobs

pub seen-none : (seen : BTreeSet (List ℕ)) (jobs : List Job) → seen.keys ≡ [] → jobs ≡ [] → HasSeen seen jobs []
seen-none seen jobs h e = record { digests = λ d. rw h refl; jobs_are = e }

set-more : (old new : BTreeSet (List ℕ)) (xs : List Descriptor) (y : Descriptor) → Updates (slice_cmp nat_cmp) old new y.digest true
    → ((d : List ℕ) → contains (slice_cmp nat_cmp) old d ≡ has_digest xs d) → (d : List ℕ) → contains (slice_cmp nat_cmp) new d ≡ has_digest (xs ++ y ∷ []) d
set-more old new xs y updates h d =
    updates.0 d ∙ ap (λ b. cond b true (contains (slice_cmp nat_cmp) old d)) (is_eq-slice_cmp y.digest d) ∙ ap (cond (bytes_eq y.digest d) true) (h d) ∙ sym (any-append xs y d)

pub seen-again : (old new : BTreeSet (List ℕ)) (jobs : List Job) (xs : List Descriptor) (y : Descriptor) → HasSeen old jobs xs → Updates (slice_cmp nat_cmp) old new y.digest true
    → false ≡ not (contains (slice_cmp nat_cmp) old y.digest) → HasSeen new jobs (xs ++ y ∷ [])
seen-again old new jobs xs y h updates e =
    let there : has_digest xs y.digest ≡ true = sym (h.digests y.digest) ∙ not_false (contains (slice_cmp nat_cmp) old y.digest) e in record {
      digests = set-more old new xs y updates h.digests;
      jobs_are = h.jobs_are ∙ ap (numbered 1) (sym (firsts-seen xs y there));
    }
  where
    not_false : (b : Bool) → false ≡ not b → b ≡ true
    not_false true h = refl
    not_false false h = cc h

pub seen-new : (old new : BTreeSet (List ℕ)) (jobs more : List Job) (xs : List Descriptor) (y : Descriptor) (number : ℕ) → HasSeen old jobs xs → Updates (slice_cmp nat_cmp) old new y.digest true
    → true ≡ not (contains (slice_cmp nat_cmp) old y.digest) → number ≡ length jobs + 1 → more ≡ jobs ++ job_of number y ∷ [] → HasSeen new more (xs ++ y ∷ [])
seen-new old new jobs more xs y number h updates e n pushed =
    let absent : has_digest xs y.digest ≡ false = sym (h.digests y.digest) ∙ not_true (contains (slice_cmp nat_cmp) old y.digest) e in
    let count : number ≡ 1 + length (firsts xs) = n ∙ ap (λ m. m + 1) (ap length h.jobs_are ∙ length-numbered 1 (firsts xs)) ∙ swapped (length (firsts xs)) in record {
      digests = set-more old new xs y updates h.digests;
      jobs_are = pushed ∙ ap (λ js. js ++ job_of number y ∷ []) h.jobs_are ∙ ap (λ m. numbered 1 (firsts xs) ++ job_of m y ∷ []) count
          ∙ sym (ap (numbered 1) (firsts-new xs y absent) ∙ numbered-append 1 (firsts xs) y);
    }
  where
    not_true : (b : Bool) → true ≡ not b → b ≡ false
    not_true true h = cc h
    not_true false h = refl

    swapped : (m : ℕ) → m + 1 ≡ 1 + m
    swapped m = omega arith

filter-shorter : (p : Descriptor → Bool) (xs : List Descriptor) → length (filter p xs) ≤ length xs
filter-shorter p [] = omega arith
filter-shorter p (x ∷ xs) = by_test (p x) (filter-shorter p xs)
  where
    by_test : (b : Bool) → length (filter p xs) ≤ length xs → length (cond b (x ∷ filter p xs) (filter p xs)) ≤ length (x ∷ xs)
    by_test true le = omega arith
    by_test false le = omega arith

firsts-shorter : (xs : List Descriptor) → length (firsts xs) ≤ length xs
firsts-shorter [] = omega arith
firsts-shorter (x ∷ xs) = let a = filter-shorter (is_other x.digest) (firsts xs) in let b = firsts-shorter xs in omega (arith, a, b)

-- there are no more jobs than descriptors
pub seen-fewer : (seen : BTreeSet (List ℕ)) (jobs : List Job) (xs : List Descriptor) → HasSeen seen jobs xs → length jobs ≤ length xs
seen-fewer seen jobs xs h = let a = ap length h.jobs_are ∙ length-numbered 1 (firsts xs) in let b = firsts-shorter xs in omega (arith, a, b)

-- one more layer behind those so far
pub seen-layer : (seen : BTreeSet (List ℕ)) (jobs : List Job) (config : Descriptor) (layers : List Descriptor) (i : ℕ) (x : Descriptor) → i < length layers → x ≡ get_or layers i x
    → HasSeen seen jobs ((config ∷ take i layers) ++ x ∷ []) → HasSeen seen jobs (config ∷ take (i + 1) layers)
seen-layer seen jobs config layers i x lt e h =
    let longer : take (i + 1) layers ≡ take i layers ++ x ∷ [] = take_more layers i x lt ∙ ap (λ y. take i layers ++ y ∷ []) (sym e) in
    rw longer h

-- there is room for one more job
pub room_left : (seen : BTreeSet (List ℕ)) (jobs : List Job) (config : Descriptor) (layers : List Descriptor) (i : ℕ) → i < length layers → HasSeen seen jobs (config ∷ take i layers)
    → length (config ∷ layers) < 2 ^ 32 - 16 → length jobs < 2 ^ 32 - 16
room_left seen jobs config layers i lt h room =
    let fewer = seen-fewer seen jobs (config ∷ take i layers) h in
    let len = length-take i layers in
    omega (arith, fewer, len)
