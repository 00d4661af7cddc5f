-- Of the layers whose size another one contradicts, the first is found by the first size of its digest alone.
use Rattle.std.proofs.Common.{◌≡◌, ◌⊎◌, inl, inr, ℕ, suc, ◌<◌, codes, false, List, [], ◌∷◌, ◌++◌, Option, Some, None, Ok, Err, refl, ap, arith, append-nil}
use Rattle.serde_json.specs.Data.{Data, null, boolean, number, string, array, object, Items, no_items, item}
use Rattle.serde_json.specs.Find.{get}
use Rattle.json_tree.specs.declared.path.Step.{Step}
use Rattle.json_tree.specs.declared.path.Step.TheVariants.{Name, Place}
use Rattle.json_tree.specs.Checked.{Checked}
use Rattle.json_tree.specs.First.{Path, Below, Nothing, ◌or◌, IsNoLater, IsBefore}
use Rattle.json_tree.specs.Leaf.{whole_of}
use Rattle.json_tree.proofs.FirstLemmas.{HeadBefore, no_later-by_head, no_later-refl}
use Rattle.manifest_v2s2.specs.Known.{Differs, first_size, agrees}
use Rattle.manifest_v2s2.specs.Descriptor.{digest_checked, known_by, known_of}
use Rattle.manifest_v2s2.specs.Bad.{BadAgreement, BadDescriptor, BadLayersFrom}
use Rattle.manifest_v2s2.specs.declared.sizes.Known.{Known}
use Rattle.manifest_v2s2.proofs.SizeLemmas.{DiffersFirst, IsSettled, cases_Bool, differs-first, settled-none, settled-more, agrees-not}

-- the bad members of layers, where a size is looked at beside the first size of its digest alone
abbrev pub BadFirstFrom : List Known → ℕ → Items → Path → Type 0
BadFirstFrom known i no_items = Nothing
BadFirstFrom known i (item d ds) =
    Below (Place i) (BadDescriptor (DiffersFirst known) (Some d)) or BadFirstFrom (known ++ known_of (Some d)) (suc i) ds

-- ---- wider sets

agreement-wider : (A B : List ℕ → ℕ → Type 0) → ((d : List ℕ) (n : ℕ) → A d n → B d n) → (x : Checked (List ℕ)) (y : Checked ℕ) (p : Path) → BadAgreement A x y p → BadAgreement B x y p
agreement-wider A B h (Ok d) (Ok n) p b = (b.0, h d n b.1)
agreement-wider A B h (Ok d) (Err q) p b = b
agreement-wider A B h (Err q) y p b = b

size-wider : (W A B : Path → Type 0) → ((p : Path) → A p → B p) → (s : Step) (p : Path) → Below s (W or A) p → Below s (W or B) p
size-wider W A B h s [] b = b
size-wider W A B h s (t ∷ p) b = (b.0, elim b.1 [ inl in_w ↦ inl in_w | inr in_a ↦ inr (h p in_a) ])

-- more sizes that differ, more members that are bad
pub bad-wider : (A B : List ℕ → ℕ → Type 0) → ((d : List ℕ) (n : ℕ) → A d n → B d n) → (o : Option Data) (p : Path) → BadDescriptor A o p → BadDescriptor B o p
bad-wider A B h None p b = b
bad-wider A B h (Some null) p b = b
bad-wider A B h (Some (boolean t)) p b = b
bad-wider A B h (Some (number n)) p b = b
bad-wider A B h (Some (string s)) p b = b
bad-wider A B h (Some (array ds)) p b = b
bad-wider A B h (Some (object ms)) p (inl annotations) = inl annotations
bad-wider A B h (Some (object ms)) p (inr (inl digest)) = inr (inl digest)
bad-wider A B h (Some (object ms)) p (inr (inr (inl media))) = inr (inr (inl media))
bad-wider A B h (Some (object ms)) p (inr (inr (inr (inl size)))) =
    inr (inr (inr (inl (size-wider _ _ _ (agreement-wider A B h _ _) (Name (codes "size")) p size))))
bad-wider A B h (Some (object ms)) p (inr (inr (inr (inr urls)))) = inr (inr (inr (inr urls)))

below-wider : (s : Step) (A B : Path → Type 0) → ((p : Path) → A p → B p) → (p : Path) → Below s A p → Below s B p
below-wider s A B h [] b = b
below-wider s A B h (t ∷ p) b = (b.0, h p b.1)

-- what is bad by the first sizes is bad
pub first-bad : (known : List Known) (i : ℕ) (ds : Items) (p : Path) → BadFirstFrom known i ds p → BadLayersFrom known i ds p
first-bad known i no_items p b = b
first-bad known i (item d ds) p (inl here) = inl (below-wider (Place i) _ _ (bad-wider (DiffersFirst known) (Differs known) (differs-first known) (Some d)) p here)
first-bad known i (item d ds) p (inr later) = inr (first-bad (known ++ known_of (Some d)) (suc i) ds p later)

-- ---- a layer that is no object is bad whatever is known

root-same : (A B : List ℕ → ℕ → Type 0) (o : Option Data) → BadDescriptor A o [] → BadDescriptor B o []
root-same A B None b = b
root-same A B (Some null) b = b
root-same A B (Some (boolean t)) b = b
root-same A B (Some (number n)) b = b
root-same A B (Some (string s)) b = b
root-same A B (Some (array ds)) b = b
root-same A B (Some (object ms)) (inl b) = absurd b
root-same A B (Some (object ms)) (inr (inl b)) = absurd b
root-same A B (Some (object ms)) (inr (inr (inl b))) = absurd b
root-same A B (Some (object ms)) (inr (inr (inr (inl b)))) = absurd b
root-same A B (Some (object ms)) (inr (inr (inr (inr b)))) = absurd b

short-same : (known more : List Known) (i : ℕ) (ds : Items) (s : Step) → BadLayersFrom known i ds (s ∷ []) → BadFirstFrom more i ds (s ∷ [])
short-same known more i no_items s b = b
short-same known more i (item d ds) s (inl here) = inl (here.0, root-same (Differs known) (DiffersFirst more) (Some d) here.1)
short-same known more i (item d ds) s (inr later) = inr (short-same (known ++ known_of (Some d)) (more ++ known_of (Some d)) (suc i) ds s later)

-- each bad member is at a later place
heads-after : (known : List Known) (i j : ℕ) (ds : Items) (p q : Path) → i < j → BadLayersFrom known j ds q → HeadBefore (Place i ∷ p) q
heads-after known i j no_items p q lt b = absurd b
heads-after known i j (item d ds) p [] lt (inl here) = absurd here
heads-after known i j (item d ds) p (s ∷ q) lt (inl here) = let before : IsBefore (Place i) (Place j) = lt in rw (← here.0) before
heads-after known i j (item d ds) p q lt (inr later) = heads-after (known ++ known_of (Some d)) i (suc j) ds p q (omega arith) later

-- ---- a descriptor whose size differs from the first one

known-both : (x : Checked (List ℕ)) (y : Checked ℕ) (k : Known) → known_by x y ≡ k ∷ [] → (x ≡ Ok k.digest) × (y ≡ Ok k.size)
known-both (Ok d) (Ok n) k e =
    let same : record { digest = d; size = n } ≡ k = cc e in
    (ap (λ (l : Known). Ok l.digest) same, ap (λ (l : Known). Ok l.size) same)
known-both (Ok d) (Err q) k e = cc e
known-both (Err p) y k e = cc e

known-one : (x : Checked (List ℕ)) (y : Checked ℕ) → (known_by x y ≡ []) ⊎ ((k : Known) × (known_by x y ≡ k ∷ []))
known-one (Ok d) (Ok n) = inr (record { digest = d; size = n }, refl)
known-one (Ok d) (Err q) = inl refl
known-one (Err p) y = inl refl

size-bad : (known : List Known) (x : Checked (List ℕ)) (y : Checked ℕ) (k : Known) → known_by x y ≡ k ∷ [] → agrees (first_size known k.digest) k.size ≡ false → BadAgreement (DiffersFirst known) x y []
size-bad known x y k e t =
    let parts = known-both x y k e in
    rw (parts.0, parts.1) (refl, agrees-not known k.digest k.size t)

differs-bad : (known : List Known) (d : Data) (k : Known) → known_of (Some d) ≡ k ∷ [] → agrees (first_size known k.digest) k.size ≡ false → BadDescriptor (DiffersFirst known) (Some d) (Name (codes "size") ∷ [])
differs-bad known null k e t = cc e
differs-bad known (boolean b) k e t = cc e
differs-bad known (number n) k e t = cc e
differs-bad known (string s) k e t = cc e
differs-bad known (array ds) k e t = cc e
differs-bad known (object ms) k e t = inr (inr (inr (inl (refl, inr (size-bad known _ _ k e t)))))

-- ---- none comes sooner

abbrev IsFound : List Known → ℕ → Items → Path → Type 0
IsFound known i ds q = (p : Path) × BadFirstFrom known i ds p × IsNoLater p q

-- each bad layer behind one whose size differs comes later than that one, or is bad whatever is known
behind : (known after : List Known) (i : ℕ) (d : Data) (ds : Items) (k : Known) → after ≡ known ++ known_of (Some d) → known_of (Some d) ≡ k ∷ [] → agrees (first_size known k.digest) k.size ≡ false
    → (q : Path) → BadLayersFrom after (suc i) ds q → IsFound known i (item d ds) q
behind known after i d ds k same e t [] b = absurd (heads-after after i (suc i) ds [] [] (omega arith) b)
behind known after i d ds k same e t (s ∷ []) b = (s ∷ [], inr (short-same after (known ++ known_of (Some d)) (suc i) ds s b), no_later-refl (s ∷ []))
behind known after i d ds k same e t (s ∷ u ∷ q) b =
    let p : Path = Place i ∷ Name (codes "size") ∷ [] in
    (p, inl (refl, differs-bad known d k e t), no_later-by_head p (s ∷ u ∷ q) (heads-after after i (suc i) ds (Name (codes "size") ∷ []) (s ∷ u ∷ q) (omega arith) b) (omega arith))

-- no bad layer comes sooner than the first one by the first sizes
pub sooner-first : (known : List Known) → IsSettled known → (i : ℕ) (ds : Items) (q : Path) → BadLayersFrom known i ds q → IsFound known i ds q
sooner-first known h i no_items q b = absurd b
sooner-first known h i (item d ds) q (inl here) =
    (q, inl (below-wider (Place i) _ _ (bad-wider (Differs known) (DiffersFirst known) h.settled (Some d)) q here), no_later-refl q)
sooner-first known h i (item d ds) q (inr later) =
    elim (known-one (digest_checked (get (codes "digest") d)) (whole_of (get (codes "size") d))) [
      | inl none ↦
          let more : IsSettled (known ++ known_of (Some d)) = rw (none, append-nil known) h in
          let found = sooner-first (known ++ known_of (Some d)) more (suc i) ds q later in
          (found.0, inr found.1, found.2)
      | inr one ↦ elim (cases_Bool (agrees (first_size known one.0.digest) one.0.size)) [
        | inl t ↦
            let more : IsSettled (known ++ known_of (Some d)) = rw one.1 (settled-more known one.0 h t) in
            let found = sooner-first (known ++ known_of (Some d)) more (suc i) ds q later in
            (found.0, inr found.1, found.2)
        | inr t ↦ behind known (known ++ known_of (Some d)) i d ds one.0 refl one.1 t q later
      ]
    ]

-- behind the config alone the sizes are settled
pub settled-config : (o : Option Data) → IsSettled (known_of o)
settled-config None = settled-none
settled-config (Some d) =
    elim (known-one (digest_checked (get (codes "digest") d)) (whole_of (get (codes "size") d))) [
      | inl none ↦ rw none settled-none
      | inr one ↦ rw one.1 (settled-more [] one.0 settled-none refl)
    ]
