-- Some descriptors have one list of jobs alone.
use Rattle.std.proofs.Common.{◌≡◌, ℕ, zero, suc, ◌+◌, ◌<◌, ◌≤◌, nat_lt, Bool, true, false, List, [], ◌∷◌, length, get_or, refl, sym, ap, subst, ◌∙◌, arith}
use Rattle.std.proofs.lemmas.Bool.Decides.{nat_tests}
use Rattle.std.proofs.lemmas.List.{same_lists}
use Rattle.digest_reader.specs.declared.job.Job.{Job}
use Rattle.manifest_v2s2.specs.declared.descriptor.Descriptor.{Descriptor}
use Rattle.manifest_convert.specs.Blobs.{IsFor, StandsFirst, AreJobsOf}
use Rattle.manifest_convert.proofs.OrderLemmas.{some_descriptor, stands-le}

same_job : (a b : Job) → a.number ≡ b.number → a.digest ≡ b.digest → a.size ≡ b.size → a ≡ b
same_job a b n d s = rw_job a.number b.number a.digest b.digest a.size b.size n d s
  where
    rw_job : (n m : ℕ) (d e : List ℕ) (s t : ℕ) → n ≡ m → d ≡ e → s ≡ t → ◌≡◌ {A = Job} (record { number = n; digest = d; size = s }) (record { number = m; digest = e; size = t })
    rw_job n m d e s t p q r = rw (p, q, r) refl

-- a job whose place is earlier is earlier
earlier-job : (xs : List Descriptor) (js : List Job) (d : Job) → AreJobsOf xs js → (m k a b : ℕ) → m < length js → k < length js
    → StandsFirst xs (get_or js m d).digest a → StandsFirst xs (get_or js k d).digest b → a < b → m < k
earlier-job xs js d h m k a b lm lk sa sb lt = by_less (nat_lt m k) refl
  where
    by_more : (t : Bool) → nat_lt m k ≡ false → nat_lt k m ≡ t → m < k
    by_more true f t =
        let more : k < m = grind (arith, nat_tests) in
        let swapped : b < a = h.order k m d b a more lm sb sa in
        absurd (omega (arith, lt, swapped))
    by_more false f t =
        let same : k ≡ m = grind (arith, nat_tests) in
        let one : StandsFirst xs (get_or js m d).digest b = subst (λ i. StandsFirst xs (get_or js i d).digest b) same sb in
        let le = stands-le xs (get_or js m d).digest b a one sa in
        absurd (omega (arith, lt, le))

    by_less : (t : Bool) → nat_lt m k ≡ t → m < k
    by_less true t = grind (arith, nat_tests)
    by_less false t = by_more (nat_lt k m) t refl

-- of two lists that are equal before a place, neither has an earlier blob there
none-earlier : (xs : List Descriptor) (js ks : List Job) (d : Job) → AreJobsOf xs js → AreJobsOf xs ks → (k a b : ℕ) → k < length js → k < length ks
    → ((m : ℕ) → m < k → get_or js m d ≡ get_or ks m d) → StandsFirst xs (get_or js k d).digest a → StandsFirst xs (get_or ks k d).digest b → a < b → ⊥
none-earlier xs js ks d h g k a b lj lk before sa sb lt =
    let e = some_descriptor xs a sa.there in
    let found = g.«all» a d e sa.there in
    let same : (get_or ks found.0 d).digest ≡ (get_or js k d).digest = found.2 ∙ sa.has e in
    let stands : StandsFirst xs (get_or ks found.0 d).digest a = subst (λ digest. StandsFirst xs digest a) (sym same) sa in
    let less = earlier-job xs ks d g found.0 k a b found.1 lk stands sb lt in
    h.distinct found.0 k d less lj (ap (λ (j : Job). j.digest) (before found.0 less) ∙ same)

-- a descriptor of nothing, which stands for those behind the end of a list
nothing : Descriptor
nothing = record { media = []; digest = []; size = 0; urls = []; annotations = [] }

-- two jobs of one number, neither of an earlier descriptor, are one
same-placed : (xs : List Descriptor) (j l : Job) (k a b : ℕ) → j.number ≡ k + 1 → l.number ≡ k + 1 → StandsFirst xs j.digest a → IsFor j (get_or xs a nothing)
    → StandsFirst xs l.digest b → IsFor l (get_or xs b nothing) → (a < b → ⊥) → (b < a → ⊥) → j ≡ l
same-placed xs j l k a b nj nl sa fa sb fb low high = by_less (nat_lt a b) refl
  where
    at_one : a ≡ b → j ≡ l
    at_one same =
        let there : IsFor l (get_or xs a nothing) = subst (λ i. IsFor l (get_or xs i nothing)) (sym same) fb in
        same_job j l (nj ∙ sym nl) (fa.digest ∙ sym there.digest) (fa.size ∙ sym there.size)

    by_more : (t : Bool) → nat_lt a b ≡ false → nat_lt b a ≡ t → j ≡ l
    by_more true f t = let more : b < a = grind (arith, nat_tests) in absurd (high more)
    by_more false f t = at_one (grind (arith, nat_tests))

    by_less : (t : Bool) → nat_lt a b ≡ t → j ≡ l
    by_less true t = let less : a < b = grind (arith, nat_tests) in absurd (low less)
    by_less false t = by_more (nat_lt b a) t refl

-- two that are equal before a place are equal there
same-next : (xs : List Descriptor) (js ks : List Job) (d : Job) → AreJobsOf xs js → AreJobsOf xs ks → (k : ℕ) → k < length js → k < length ks
    → ((m : ℕ) → m < k → get_or js m d ≡ get_or ks m d) → get_or js k d ≡ get_or ks k d
same-next xs js ks d h g k lj lk before =
    let p = h.from k d nothing lj in
    let q = g.from k d nothing lk in
    same-placed xs (get_or js k d) (get_or ks k d) k p.0 q.0 (h.numbers k d lj) (g.numbers k d lk) p.1 p.2 q.1 q.2
    (λ lt. none-earlier xs js ks d h g k p.0 q.0 lj lk before p.1 q.1 lt)
    (λ lt. none-earlier xs ks js d g h k q.0 p.0 lk lj (λ m less. sym (before m less)) q.1 p.1 lt)

same-before : (xs : List Descriptor) (js ks : List Job) (d : Job) → AreJobsOf xs js → AreJobsOf xs ks → (n k : ℕ) → k < n → k < length js → k < length ks → get_or js k d ≡ get_or ks k d
same-before xs js ks d h g zero k lt lj lk = absurd (omega arith)
same-before xs js ks d h g (suc n) k lt lj lk = same-next xs js ks d h g k lj lk (λ m less. same-before xs js ks d h g n m (omega arith) (omega arith) (omega arith))

-- neither is longer
no-longer : (xs : List Descriptor) (js ks : List Job) (d : Job) → AreJobsOf xs js → AreJobsOf xs ks → length ks < length js → ⊥
no-longer xs js ks d h g lt =
    let k = length ks in
    let p = h.from k d nothing lt in
    let found = g.«all» p.0 d nothing p.1.there in
    let same : (get_or ks found.0 d).digest ≡ (get_or js k d).digest = found.2 ∙ p.1.has nothing in
    let there = found.1 in
    let equal = same-before xs js ks d h g k found.0 there (omega (arith, there, lt)) there in
    h.distinct found.0 k d there lt (ap (λ (j : Job). j.digest) equal ∙ same)

some_job : Job
some_job = record { number = 0; digest = []; size = 0 }

-- the jobs of some descriptors are one list
pub only-jobs : (xs : List Descriptor) (js ks : List Job) → AreJobsOf xs js → AreJobsOf xs ks → js ≡ ks
only-jobs xs js ks h g = same_lists js ks (same_length (nat_lt (length js) (length ks)) refl) (λ k d lt. same-before xs js ks d h g (suc k) k (omega arith) lt (let n = same_length (nat_lt (length js) (length ks)) refl in omega (arith, n, lt)))
  where
    by_more : (t : Bool) → nat_lt (length js) (length ks) ≡ false → nat_lt (length ks) (length js) ≡ t → length js ≡ length ks
    by_more true f t = let more : length ks < length js = grind (arith, nat_tests) in absurd (no-longer xs js ks some_job h g more)
    by_more false f t = grind (arith, nat_tests)

    same_length : (t : Bool) → nat_lt (length js) (length ks) ≡ t → length js ≡ length ks
    same_length true t = let less : length js < length ks = grind (arith, nat_tests) in absurd (no-longer xs ks js some_job g h less)
    same_length false t = by_more (nat_lt (length ks) (length js)) t refl
