-- The test of domains passes just the texts that are joined of labels and a port.
use Rattle.std.proofs.Common.{◌≡◌, ℕ, ◌==◌, nat_le, Bool, true, false, ◌&&◌, ◌||◌, List, [], ◌∷◌, ◌++◌, length, Option, Some, None, refl, sym, ap, ◌∙◌, append-nil}
use Rattle.std.specs.Prelude.{IfSome}
use Rattle.std.proofs.lemmas.Bool.{and_parts}
use Rattle.std.specs.List.{All, list_all, join_with_byte}
use Rattle.std.proofs.lemmas.List.Elements.{All-head, All-tail, All-weaker}
use Rattle.std.proofs.lemmas.List.Splits.{join_with_byte-slice_split}
use Rattle.std.proofs.lemmas.List.Sums.{AllPass-from_list_all, list_all-from_AllPass}
use Rattle.image_ref.specs.Characters.{is_alphanumeric, is_digit, is_run_byte, dot, dash, colon}
use Rattle.image_ref.specs.Cuts.{cut_at, lacks}
use Rattle.image_ref.specs.Domain.{is_label, is_port, IsDomain, is_domain, passes_or_none, after}
use Rattle.image_ref.proofs.CutLemmas.{lacks-to, cut_at-none, cut_at-some, cut_at-glued}
use Rattle.image_ref.proofs.PartLemmas.{parts, parts_after, parts-cut}
use Rattle.image_ref.proofs.ByteLemmas.{weaker, both, lacking, joined_bytes}
use Rattle.image_ref.proofs.BoolLemmas.{or_left}

-- ---- cuts and parts of what is joined

pub cut_at-joined : (c : ℕ) (front : List ℕ) (rest : Option (List ℕ)) → lacks c front ≡ true → cut_at c (front ++ after c rest) ≡ (front, rest)
cut_at-joined c front None h = rw (append-nil front) (cut_at-none c front (lacks-to c front h))
cut_at-joined c front (Some rest) h = cut_at-some c front rest (lacks-to c front h)

abbrev Lacking : ℕ → List ℕ → Type 0
Lacking c text = lacks c text ≡ true

pub parts-joined : (c : ℕ) (items : List (List ℕ)) → (items ≡ [] → ⊥) → All (λ t. lacks c t ≡ true) items → parts c (join_with_byte c items) ≡ items
parts-joined c [] some h = absurd (some refl)
parts-joined c (x ∷ []) some h =
    parts-cut c x ∙ rw (cut_at-none c x (lacks-to c x (All-head (Lacking c) x [] h))) refl
parts-joined c (x ∷ y ∷ more) some h =
    parts-cut c (x ++ (c ∷ join_with_byte c (y ∷ more)))
    ∙ rw (cut_at-some c x (join_with_byte c (y ∷ more)) (lacks-to c x (All-head (Lacking c) x (y ∷ more) h))) (ap (λ t. x ∷ t) (parts-joined c (y ∷ more) (λ e. cc e) (All-tail (Lacking c) x (y ∷ more) h)))

nonempty : (c : ℕ) (first : List ℕ) (rest : Option (List ℕ)) → parts_after c (first, rest) ≡ [] → ⊥
nonempty c first None e = cc e
nonempty c first (Some rest) e = cc e

pub parts-some : (c : ℕ) (text : List ℕ) → parts c text ≡ [] → ⊥
parts-some c text e = nonempty c (cut_at c text).0 (cut_at c text).1 (sym (parts-cut c text) ∙ e)

-- ---- domains

abbrev label_byte : ℕ → Bool
label_byte b = is_alphanumeric b || (b == dash)

abbrev pub domain_byte : ℕ → Bool
domain_byte b = label_byte b || ((b == dot) || (b == colon))

label_bytes : (text : List ℕ) → is_label text ≡ true → list_all label_byte text ≡ true
label_bytes text h = (and_parts (list_all label_byte text) _ h).0

labels_bytes : (labels : List (List ℕ)) → All (λ l. is_label l ≡ true) labels → All (λ l. list_all domain_byte l ≡ true) labels
labels_bytes labels h = All-weaker (λ l. is_label l ≡ true) (λ l. list_all domain_byte l ≡ true) (λ l e. weaker label_byte domain_byte (λ b k. or_left (label_byte b) _ k) l (label_bytes l e)) labels h

-- labels and their dots hold no colon
abbrev dotted_byte : ℕ → Bool
dotted_byte b = label_byte b || (b == dot)

dotted : (labels : List (List ℕ)) → All (λ l. is_label l ≡ true) labels → list_all dotted_byte (join_with_byte dot labels) ≡ true
dotted labels h = joined_bytes dotted_byte dot refl labels (All-weaker (λ l. is_label l ≡ true) (λ l. list_all dotted_byte l ≡ true) (λ l e. weaker label_byte dotted_byte (λ b k. or_left (label_byte b) _ k) l (label_bytes l e)) labels h)

no_dots : (labels : List (List ℕ)) → All (λ l. is_label l ≡ true) labels → All (λ l. lacks dot l ≡ true) labels
no_dots labels h = All-weaker (λ l. is_label l ≡ true) (λ l. lacks dot l ≡ true) (λ l e. lacking label_byte dot refl l (label_bytes l e)) labels h

port_passes : (port : Option (List ℕ)) → IfSome port (λ p. is_port p ≡ true) → passes_or_none is_port port ≡ true
port_passes None h = refl
port_passes (Some p) h = h

port_from : (port : Option (List ℕ)) → passes_or_none is_port port ≡ true → IfSome port (λ p. is_port p ≡ true)
port_from None h = tt
port_from (Some p) h = h

pub is_domain-from : (text : List ℕ) → IsDomain text → is_domain text ≡ true
unfolding is_domain
is_domain-from text d =
    let cut : cut_at colon text ≡ (join_with_byte dot d.labels, d.port) = ap (cut_at colon) d.spelled ∙ cut_at-joined colon (join_with_byte dot d.labels) d.port (lacking dotted_byte colon refl (join_with_byte dot d.labels) (dotted d.labels d.are_labels)) in
    rw (cut, parts-joined dot d.labels d.some (no_dots d.labels d.are_labels), list_all-from_AllPass is_label d.labels d.are_labels, port_passes d.port d.is_port) refl

pub is_domain-to : (text : List ℕ) → is_domain text ≡ true → IsDomain text
unfolding is_domain
is_domain-to text h =
    let cut = cut_at colon text in
    let p = and_parts (list_all is_label (parts dot (cut_at colon text).0)) (passes_or_none is_port (cut_at colon text).1) h in
    record {
      labels = parts dot (cut_at colon text).0;
      port = (cut_at colon text).1;
      spelled = cut_at-glued colon text ∙ ap (λ t. t ++ after colon (cut_at colon text).1) (sym (join_with_byte-slice_split dot (cut_at colon text).0));
      some = parts-some dot (cut_at colon text).0;
      are_labels = AllPass-from_list_all is_label (parts dot (cut_at colon text).0) p.0;
      is_port = port_from (cut_at colon text).1 p.1;
    }

or_right : (a b : Bool) → b ≡ true → (a || b) ≡ true
or_right true b e = refl
or_right false b e = e

digit_passes : (b : ℕ) → is_digit b ≡ true → domain_byte b ≡ true
digit_passes b e = or_left (label_byte b) _ (or_left (is_alphanumeric b) _ (or_left (is_run_byte b) _ (or_right _ (is_digit b) e)))

port_bytes : (port : List ℕ) → is_port port ≡ true → list_all domain_byte port ≡ true
port_bytes port h =
    let p = and_parts (list_all is_digit port && (nat_le 1 (length port) && nat_le (length port) 5)) _ h in
    let q = and_parts (list_all is_digit port) (nat_le 1 (length port) && nat_le (length port) 5) p.0 in
    weaker is_digit domain_byte digit_passes port q.0

after_bytes : (port : Option (List ℕ)) → IfSome port (λ p. is_port p ≡ true) → list_all domain_byte (after colon port) ≡ true
after_bytes None h = refl
after_bytes (Some p) h = port_bytes p h

pub domain_bytes : (text : List ℕ) → IsDomain text → list_all domain_byte text ≡ true
domain_bytes text d =
    ap (list_all domain_byte) d.spelled ∙ both domain_byte (join_with_byte dot d.labels) (after colon d.port) (joined_bytes domain_byte dot refl d.labels (labels_bytes d.labels d.are_labels)) (after_bytes d.port d.is_port)
