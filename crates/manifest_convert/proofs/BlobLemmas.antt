-- The laws of an image's blobs.
use Rattle.std.proofs.Common.{◌≡◌, ◌≢◌, ◌⊎◌, inl, inr, ℕ, zero, suc, ◌+◌, ◌<◌, cond, not, Bool, true, false, List, [], ◌∷◌, Result, Ok, Err, length, filter, get_or, refl, sym, ap, subst, ◌∙◌, arith}
use Rattle.std.specs.Prelude.{IfOk}
use Rattle.std.specs.Str.{bytes_eq}
use Rattle.std.proofs.lemmas.Slice.Eq.{bytes_eq-Decides}
use Rattle.skopeo_outside.specs.declared.stop.Memory.{Memory}
use Rattle.digest_reader.specs.declared.job.Job.{Job}
use Rattle.manifest_v2s2.specs.declared.descriptor.Descriptor.{Descriptor}
use Rattle.manifest_v2s2.specs.declared.image.Image.{Image}
use Rattle.manifest_convert.specs.Blobs.{descriptors, is_other, firsts, job_of, numbered, blobs, IsFor, StandsFirst, AreJobsOf}
use Rattle.manifest_convert.proofs.OrderLemmas.{some_descriptor, firsts-stand, firsts-order}

pub cases_Bool : (b : Bool) → (b ≡ true) ⊎ (b ≡ false)
cases_Bool true = inl refl
cases_Bool false = inr refl

-- ---- numbers

-- the job at a place is that of the descriptor there
at-numbered : (n : ℕ) (xs : List Descriptor) (k : ℕ) (d : Job) (e : Descriptor) → k < length xs → get_or (numbered n xs) k d ≡ job_of (n + k) (get_or xs k e)
at-numbered n [] k d e lt = absurd (omega arith)
at-numbered n (x ∷ xs) zero d e lt = let same : n ≡ n + zero = omega arith in ap (λ m. job_of m x) same
at-numbered n (x ∷ xs) (suc k) d e lt =
    let same : suc n + k ≡ n + suc k = omega arith in
    at-numbered (suc n) xs k d e (omega arith) ∙ ap (λ m. job_of m (get_or xs k e)) same

pub length-numbered : (n : ℕ) (xs : List Descriptor) → length (numbered n xs) ≡ length xs
length-numbered n [] = refl
length-numbered n (x ∷ xs) = ap suc (length-numbered (suc n) xs)

-- ---- no two of one digest

abbrev NoneIs : List ℕ → List Descriptor → Type 0
NoneIs digest [] = Unit {0}
NoneIs digest (x ∷ xs) = (bytes_eq x.digest digest ≡ false) × NoneIs digest xs

abbrev Differ : List Descriptor → Type 0
Differ [] = Unit {0}
Differ (x ∷ xs) = NoneIs x.digest xs × Differ xs

not_true : (b : Bool) → not b ≡ true → b ≡ false
not_true true h = cc h
not_true false h = refl

none-left : (digest : List ℕ) (xs : List Descriptor) → NoneIs digest (filter (is_other digest) xs)
none-left digest [] = tt
none-left digest (x ∷ xs) =
    elim (cases_Bool (is_other digest x)) [
      | inl e ↦ rw e (not_true (bytes_eq x.digest digest) e, none-left digest xs)
      | inr e ↦ rw e (none-left digest xs)
    ]

none-filter : (digest : List ℕ) (p : Descriptor → Bool) (xs : List Descriptor) → NoneIs digest xs → NoneIs digest (filter p xs)
none-filter digest p [] h = tt
none-filter digest p (x ∷ xs) h =
    elim (cases_Bool (p x)) [
      | inl e ↦ rw e (h.0, none-filter digest p xs h.1)
      | inr e ↦ rw e (none-filter digest p xs h.1)
    ]

differ-filter : (p : Descriptor → Bool) (xs : List Descriptor) → Differ xs → Differ (filter p xs)
differ-filter p [] h = tt
differ-filter p (x ∷ xs) h =
    elim (cases_Bool (p x)) [
      | inl e ↦ rw e (none-filter x.digest p xs h.0, differ-filter p xs h.1)
      | inr e ↦ rw e (differ-filter p xs h.1)
    ]

differ-firsts : (xs : List Descriptor) → Differ (firsts xs)
differ-firsts [] = tt
differ-firsts (x ∷ xs) = (none-left x.digest (firsts xs), differ-filter (is_other x.digest) (firsts xs) (differ-firsts xs))

none-at : (digest : List ℕ) (xs : List Descriptor) (k : ℕ) (e : Descriptor) → NoneIs digest xs → k < length xs → (get_or xs k e).digest ≢ digest
none-at digest [] k e h lt same = absurd (omega arith)
none-at digest (x ∷ xs) zero e h lt same = let t : true ≡ false = sym ((bytes_eq-Decides x.digest digest).1 same) ∙ h.0 in cc t
none-at digest (x ∷ xs) (suc k) e h lt same = none-at digest xs k e h.1 (omega arith) same

differ-at : (xs : List Descriptor) (j k : ℕ) (e : Descriptor) → Differ xs → j < k → k < length xs → (get_or xs j e).digest ≢ (get_or xs k e).digest
differ-at [] j k e h less lt same = absurd (omega arith)
differ-at (x ∷ xs) zero zero e h less lt same = absurd (omega arith)
differ-at (x ∷ xs) zero (suc k) e h less lt same = none-at x.digest xs k e h.0 (omega arith) (sym same)
differ-at (x ∷ xs) (suc j) zero e h less lt same = absurd (omega arith)
differ-at (x ∷ xs) (suc j) (suc k) e h less lt same = differ-at xs j k e h.1 (omega arith) (omega arith) same

-- ---- each first occurrence is a descriptor, and each descriptor's digest occurs

-- the descriptor stands at some place of the list
abbrev IsPlaced : List Descriptor → Descriptor → Descriptor → Type 0
IsPlaced xs e y = (i : ℕ) × (i < length xs) × (y ≡ get_or xs i e)

placed-later : (x : Descriptor) (xs : List Descriptor) (e y : Descriptor) → IsPlaced xs e y → IsPlaced (x ∷ xs) e y
placed-later x xs e y h = (suc h.0, omega (arith, h.1), h.2)

kept-here : (b : Bool) (x : Descriptor) (ys : List Descriptor) (e : Descriptor) → b ≡ true → IsPlaced (cond b (x ∷ ys) ys) e x
kept-here true x ys e h = (zero, omega arith, refl)
kept-here false x ys e h = cc h

kept-later : (b : Bool) (x : Descriptor) (ys : List Descriptor) (e y : Descriptor) → IsPlaced ys e y → IsPlaced (cond b (x ∷ ys) ys) e y
kept-later true x ys e y h = placed-later x ys e y h
kept-later false x ys e y h = h

filter-has : (p : Descriptor → Bool) (xs : List Descriptor) (e : Descriptor) (k : ℕ) → k < length xs → p (get_or xs k e) ≡ true → IsPlaced (filter p xs) e (get_or xs k e)
filter-has p [] e k lt t = absurd (omega arith)
filter-has p (x ∷ xs) e zero lt t = kept-here (p x) x (filter p xs) e t
filter-has p (x ∷ xs) e (suc k) lt t = kept-later (p x) x (filter p xs) e (get_or xs k e) (filter-has p xs e k (omega arith) t)

-- some first occurrence has the digest
abbrev Occurs : List Descriptor → Descriptor → List ℕ → Type 0
Occurs ys e digest = (k : ℕ) × (k < length ys) × ((get_or ys k e).digest ≡ digest)

occurs-behind : (x : Descriptor) (ys : List Descriptor) (e : Descriptor) (digest : List ℕ) → Occurs ys e digest → Occurs (x ∷ filter (is_other x.digest) ys) e digest
occurs-behind x ys e digest h =
    elim (cases_Bool (bytes_eq (get_or ys h.0 e).digest x.digest)) [
      | inl same ↦ (zero, omega arith, sym ((bytes_eq-Decides (get_or ys h.0 e).digest x.digest).0 same) ∙ h.2)
      | inr other ↦
          let found = filter-has (is_other x.digest) ys e h.0 h.1 (ap not other) in
          (suc found.0, omega (arith, found.1), ap (λ (y : Descriptor). y.digest) (sym found.2) ∙ h.2)
    ]

firsts-all : (xs : List Descriptor) (e : Descriptor) (i : ℕ) → i < length xs → Occurs (firsts xs) e (get_or xs i e).digest
firsts-all [] e i lt = absurd (omega arith)
firsts-all (x ∷ xs) e zero lt = (zero, omega arith, refl)
firsts-all (x ∷ xs) e (suc i) lt = occurs-behind x (firsts xs) e (get_or xs i e).digest (firsts-all xs e i (omega arith))

-- ---- all of it, of jobs

job-digest : (xs : List Descriptor) (k : ℕ) (d : Job) (e : Descriptor) → k < length xs → (get_or (numbered 1 xs) k d).digest ≡ (get_or xs k e).digest
job-digest xs k d e lt = ap (λ (j : Job). j.digest) (at-numbered 1 xs k d e lt)

-- what holds of the jobs of some descriptors
pub are-jobs : (xs : List Descriptor) → AreJobsOf xs (numbered 1 (firsts xs))
are-jobs xs = record { distinct = distinct; numbers = numbers; from = from; «all» = every; order = order }
  where
    shorter : (k : ℕ) → k < length (numbered 1 (firsts xs)) → k < length (firsts xs)
    shorter k lt = let n = length-numbered 1 (firsts xs) in omega (arith, n)

    distinct : (j k : ℕ) (d : Job) → j < k → k < length (numbered 1 (firsts xs)) → (get_or (numbered 1 (firsts xs)) j d).digest ≢ (get_or (numbered 1 (firsts xs)) k d).digest
    distinct j k d less lt same =
        let e = some_descriptor (firsts xs) k (shorter k lt) in
        differ-at (firsts xs) j k e (differ-firsts xs) less (shorter k lt)
        (sym (job-digest (firsts xs) j d e (let l = shorter k lt in omega arith)) ∙ same ∙ job-digest (firsts xs) k d e (shorter k lt))

    numbers : (k : ℕ) (d : Job) → k < length (numbered 1 (firsts xs)) → (get_or (numbered 1 (firsts xs)) k d).number ≡ k + 1
    numbers k d lt =
        let e = some_descriptor (firsts xs) k (shorter k lt) in
        let swapped : 1 + k ≡ k + 1 = omega arith in
        ap (λ (j : Job). j.number) (at-numbered 1 (firsts xs) k d e (shorter k lt)) ∙ swapped

    from : (k : ℕ) (d : Job) (e : Descriptor) → k < length (numbered 1 (firsts xs))
        → (i : ℕ) × StandsFirst xs (get_or (numbered 1 (firsts xs)) k d).digest i × IsFor (get_or (numbered 1 (firsts xs)) k d) (get_or xs i e)
    from k d e lt =
        let place = firsts-stand xs e k (shorter k lt) in
        let job = at-numbered 1 (firsts xs) k d e (shorter k lt) in (
          place.0,
          subst (λ digest. StandsFirst xs digest place.0) (sym (job-digest (firsts xs) k d e (shorter k lt))) place.1,
          record {
            digest = ap (λ (j : Job). j.digest) job ∙ ap (λ (y : Descriptor). y.digest) place.2;
            size = ap (λ (j : Job). j.size) job ∙ ap (λ (y : Descriptor). y.size) place.2;
          },
        )

    order : (j k : ℕ) (d : Job) (a b : ℕ) → j < k → k < length (numbered 1 (firsts xs))
        → StandsFirst xs (get_or (numbered 1 (firsts xs)) j d).digest a → StandsFirst xs (get_or (numbered 1 (firsts xs)) k d).digest b → a < b
    order j k d a b less lt ha hb =
        let e = some_descriptor (firsts xs) k (shorter k lt) in
        let earlier : j < length (firsts xs) = let l = shorter k lt in omega (arith, l, less) in
        firsts-order xs e j k a b less (shorter k lt)
        (subst (λ digest. StandsFirst xs digest a) (job-digest (firsts xs) j d e earlier) ha)
        (subst (λ digest. StandsFirst xs digest b) (job-digest (firsts xs) k d e (shorter k lt)) hb)

    every : (i : ℕ) (d : Job) (e : Descriptor) → i < length xs → (k : ℕ) × (k < length (numbered 1 (firsts xs))) × ((get_or (numbered 1 (firsts xs)) k d).digest ≡ (get_or xs i e).digest)
    every i d e lt =
        let found = firsts-all xs e i lt in
        let n = length-numbered 1 (firsts xs) in
        (found.0, omega (arith, n, found.1), job-digest (firsts xs) found.0 d e found.1 ∙ found.2)

-- the blobs of an image are the jobs of its descriptors
pub AreJobsOf-blobs : (image : Image) → AreJobsOf (descriptors image) (blobs image)
unfolding blobs
AreJobsOf-blobs image = are-jobs (descriptors image)

-- so are those that a call answers
pub AreJobsOf-answered : (image : Image) (r : Result (List Job) Memory) → IfOk r (λ jobs. jobs ≡ blobs image) → IfOk r (λ jobs. AreJobsOf (descriptors image) jobs)
AreJobsOf-answered image (Ok jobs) e = subst (AreJobsOf (descriptors image)) (sym e) (AreJobsOf-blobs image)
AreJobsOf-answered image (Err e) h = h
