-- First occurrences stand in the order of the descriptors, each at the first place of its digest.
use Rattle.std.proofs.Common.{◌≡◌, ◌≢◌, ℕ, zero, suc, ◌<◌, ◌≤◌, nat_lt, cond, not, Bool, true, false, List, [], ◌∷◌, length, filter, get_or, refl, sym, ap, subst, ◌∙◌, arith}
use Rattle.std.proofs.lemmas.Bool.Decides.{nat_tests}
use Rattle.std.proofs.lemmas.Slice.Eq.{bytes_eq-Decides}
use Rattle.std.specs.Str.{bytes_eq}
use Rattle.manifest_v2s2.specs.declared.descriptor.Descriptor.{Descriptor}
use Rattle.manifest_convert.specs.Blobs.{is_other, firsts, StandsFirst}

-- some descriptor, where there is a place in a list
pub some_descriptor : (xs : List Descriptor) (k : ℕ) → k < length xs → Descriptor
some_descriptor [] k lt = absurd (omega arith)
some_descriptor (x ∷ xs) k lt = x

-- ---- what a filter keeps

-- it stands at some place of the list, and passes
abbrev At : (Descriptor → Bool) → List Descriptor → Descriptor → Descriptor → Type 0
At p xs e y = (i : ℕ) × (i < length xs) × (y ≡ get_or xs i e) × (p y ≡ true)

at-later : (p : Descriptor → Bool) (x : Descriptor) (xs : List Descriptor) (e y : Descriptor) → At p xs e y → At p (x ∷ xs) e y
at-later p x xs e y h = (suc h.0, omega (arith, h.1), h.2, h.3)

at-kept : (p : Descriptor → Bool) (t : Bool) (x : Descriptor) (ys xs : List Descriptor) (e : Descriptor) (k : ℕ) → p x ≡ t → ((m : ℕ) → m < length ys → At p xs e (get_or ys m e))
    → k < length (cond t (x ∷ ys) ys) → At p (x ∷ xs) e (get_or (cond t (x ∷ ys) ys) k e)
at-kept p true x ys xs e zero h f lt = (zero, omega arith, refl, h)
at-kept p true x ys xs e (suc k) h f lt = at-later p x xs e (get_or ys k e) (f k (omega arith))
at-kept p false x ys xs e k h f lt = at-later p x xs e (get_or ys k e) (f k lt)

filter-at : (p : Descriptor → Bool) (xs : List Descriptor) (e : Descriptor) (k : ℕ) → k < length (filter p xs) → At p xs e (get_or (filter p xs) k e)
filter-at p [] e k lt = absurd (omega arith)
filter-at p (x ∷ xs) e k lt = at-kept p (p x) x (filter p xs) xs e k refl (filter-at p xs e) lt

-- two stand at places in this order
abbrev InOrder : List Descriptor → Descriptor → Descriptor → Descriptor → Type 0
InOrder xs e y z = (a : ℕ) × (b : ℕ) × (a < b) × (b < length xs) × (y ≡ get_or xs a e) × (z ≡ get_or xs b e)

order-later : (x : Descriptor) (xs : List Descriptor) (e y z : Descriptor) → InOrder xs e y z → InOrder (x ∷ xs) e y z
order-later x xs e y z h = (suc h.0, suc h.1, omega (arith, h.2), omega (arith, h.3), h.4, h.5)

order-kept : (p : Descriptor → Bool) (t : Bool) (x : Descriptor) (ys xs : List Descriptor) (e : Descriptor) (j k : ℕ) → ((m : ℕ) → m < length ys → At p xs e (get_or ys m e))
    → ((m n : ℕ) → m < n → n < length ys → InOrder xs e (get_or ys m e) (get_or ys n e)) → j < k → k < length (cond t (x ∷ ys) ys)
    → InOrder (x ∷ xs) e (get_or (cond t (x ∷ ys) ys) j e) (get_or (cond t (x ∷ ys) ys) k e)
order-kept p true x ys xs e zero zero f g less lt = absurd (omega arith)
order-kept p true x ys xs e zero (suc k) f g less lt = let h = f k (omega arith) in (zero, suc h.0, omega arith, omega (arith, h.1), refl, h.2)
order-kept p true x ys xs e (suc j) zero f g less lt = absurd (omega arith)
order-kept p true x ys xs e (suc j) (suc k) f g less lt = order-later x xs e (get_or ys j e) (get_or ys k e) (g j k (omega arith) (omega arith))
order-kept p false x ys xs e j k f g less lt = order-later x xs e (get_or ys j e) (get_or ys k e) (g j k less lt)

filter-order : (p : Descriptor → Bool) (xs : List Descriptor) (e : Descriptor) (j k : ℕ) → j < k → k < length (filter p xs) → InOrder xs e (get_or (filter p xs) j e) (get_or (filter p xs) k e)
filter-order p [] e j k less lt = absurd (omega arith)
filter-order p (x ∷ xs) e j k less lt = order-kept p (p x) x (filter p xs) xs e j k (filter-at p xs e) (filter-order p xs e) less lt

-- ---- first places

stands-here : (x : Descriptor) (xs : List Descriptor) → StandsFirst (x ∷ xs) x.digest 0
stands-here x xs = record { there = omega arith; has = λ e. refl; none_before = λ h e lt same. absurd (omega arith) }

stands-later : (x : Descriptor) (xs : List Descriptor) (digest : List ℕ) (i : ℕ) → StandsFirst xs digest i → x.digest ≢ digest → StandsFirst (x ∷ xs) digest (suc i)
stands-later x xs digest i h other = record { there = let lt = h.there in omega (arith, lt); has = h.has; none_before = before }
  where
    before : (m : ℕ) (e : Descriptor) → m < suc i → (get_or (x ∷ xs) m e).digest ≢ digest
    before zero e lt same = other same
    before (suc m) e lt same = h.none_before m e (omega arith) same

pub stands-le : (xs : List Descriptor) (digest : List ℕ) (a b : ℕ) → StandsFirst xs digest a → StandsFirst xs digest b → a ≤ b
stands-le xs digest a b ha hb = by_test (nat_lt b a) refl
  where
    by_test : (t : Bool) → nat_lt b a ≡ t → a ≤ b
    by_test true t =
        let lt : b < a = grind (arith, nat_tests) in
        let e = some_descriptor xs b hb.there in
        absurd (ha.none_before b e lt (hb.has e))
    by_test false t = grind (arith, nat_tests)

other-differs : (x y : Descriptor) → is_other x.digest y ≡ true → x.digest ≢ y.digest
other-differs x y h same =
    let t : bytes_eq y.digest x.digest ≡ true = (bytes_eq-Decides y.digest x.digest).1 (sym same) in
    cc (sym (ap not t) ∙ h)

-- ---- first occurrences

-- it stands at the first place of its digest
abbrev Stands : List Descriptor → Descriptor → Descriptor → Type 0
Stands xs e y = (i : ℕ) × StandsFirst xs y.digest i × (y ≡ get_or xs i e)

-- behind a descriptor of another digest
behind : (x : Descriptor) (xs : List Descriptor) (e y : Descriptor) → At (is_other x.digest) (firsts xs) e y → ((m : ℕ) → m < length (firsts xs) → Stands xs e (get_or (firsts xs) m e))
    → (i : ℕ) × StandsFirst (x ∷ xs) y.digest (suc i) × (y ≡ get_or xs i e)
behind x xs e y at f =
    let there = f at.0 at.1 in
    let stands : StandsFirst xs y.digest there.0 = subst (λ (z : Descriptor). StandsFirst xs z.digest there.0) (sym at.2) there.1 in
    (there.0, stands-later x xs y.digest there.0 stands (other-differs x y at.3), at.2 ∙ there.2)

pub firsts-stand : (xs : List Descriptor) (e : Descriptor) (k : ℕ) → k < length (firsts xs) → Stands xs e (get_or (firsts xs) k e)
firsts-stand [] e k lt = absurd (omega arith)
firsts-stand (x ∷ xs) e zero lt = (zero, stands-here x xs, refl)
firsts-stand (x ∷ xs) e (suc k) lt =
    let b = behind x xs e (get_or (filter (is_other x.digest) (firsts xs)) k e) (filter-at (is_other x.digest) (firsts xs) e k (omega arith)) (firsts-stand xs e) in
    (suc b.0, b.1, b.2)

-- the first places of two digests, in this order
abbrev Ascend : List Descriptor → Descriptor → Descriptor → Type 0
Ascend xs y z = (a : ℕ) × (b : ℕ) × (a < b) × StandsFirst xs y.digest a × StandsFirst xs z.digest b

firsts-ascend : (xs : List Descriptor) (e : Descriptor) (j k : ℕ) → j < k → k < length (firsts xs) → Ascend xs (get_or (firsts xs) j e) (get_or (firsts xs) k e)
firsts-ascend [] e j k less lt = absurd (omega arith)
firsts-ascend (x ∷ xs) e zero zero less lt = absurd (omega arith)
firsts-ascend (x ∷ xs) e zero (suc k) less lt =
    let b = behind x xs e (get_or (filter (is_other x.digest) (firsts xs)) k e) (filter-at (is_other x.digest) (firsts xs) e k (omega arith)) (firsts-stand xs e) in
    (zero, suc b.0, omega arith, stands-here x xs, b.1)
firsts-ascend (x ∷ xs) e (suc j) zero less lt = absurd (omega arith)
firsts-ascend (x ∷ xs) e (suc j) (suc k) less lt =
    let kept = filter (is_other x.digest) (firsts xs) in
    let y = get_or kept j e in
    let z = get_or kept k e in
    let at_y = filter-at (is_other x.digest) (firsts xs) e j (omega arith) in
    let at_z = filter-at (is_other x.digest) (firsts xs) e k (omega arith) in
    let o = filter-order (is_other x.digest) (firsts xs) e j k (omega arith) (omega arith) in
    let up = firsts-ascend xs e o.0 o.1 o.2 o.3 in
    let stands_y : StandsFirst xs y.digest up.0 = subst (λ (w : Descriptor). StandsFirst xs w.digest up.0) (sym o.4) up.3 in
    let stands_z : StandsFirst xs z.digest up.1 = subst (λ (w : Descriptor). StandsFirst xs w.digest up.1) (sym o.5) up.4 in
    (suc up.0, suc up.1, omega (arith, up.2), stands-later x xs y.digest up.0 stands_y (other-differs x y at_y.3), stands-later x xs z.digest up.1 stands_z (other-differs x z at_z.3))

-- they stand in the order of the first places of their digests
pub firsts-order : (xs : List Descriptor) (e : Descriptor) (j k a b : ℕ) → j < k → k < length (firsts xs)
    → StandsFirst xs (get_or (firsts xs) j e).digest a → StandsFirst xs (get_or (firsts xs) k e).digest b → a < b
firsts-order xs e j k a b less lt ha hb =
    let up = firsts-ascend xs e j k less lt in
    let low = stands-le xs (get_or (firsts xs) j e).digest a up.0 ha up.3 in
    let high = stands-le xs (get_or (firsts xs) k e).digest up.1 b up.4 hb in
    omega (arith, low, up.2, high)
